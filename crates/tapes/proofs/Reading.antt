-- What is read of a tape.
--     body-size, frame-size      a frame takes a byte at least for its moment, one for its length, and its body
--     body_same, frame_same      what was read is read with more bytes behind, too
--     body_back, frame_back      and without the bytes behind it
--     frame-moved                and the same, so many bytes further on, with others in front
use Prim.Native.Nat.{ℕ, zero, suc, ◌+◌, ◌*◌, ◌%◌, ◌≤◌, ◌<◌}
use mathlib.Core.Path.{◌≡◌, refl, sym, ap, ◌∙◌}
use mathlib.Core.Bool.{Bool, true, false, cond}
use mathlib.Core.List.{List, [], ◌∷◌, ◌++◌}
use mathlib.Core.Logic.{⊎_elim}
use native.Mathlib.Omega.{arith}
use lib.Dec.{eqb as nat_eq, ltb as nat_lt, leb as nat_le}
use lib.ListN.{length, take, drop, length-append, length-drop}
use lib.Seq.{drop-append-le, take-append-le, drop-append-add}
use Rattle.numbers.specs.Got.{Got, got, refused, and_then}
use Rattle.numbers.specs.Fields.{at_most, bytes_at, span_bytes}
use Rattle.numbers.specs.Numbers.{below, groups, read_number}
use Rattle.numbers.specs.Refusals.{bad_number, out_of_range}
use Rattle.numbers.specs.declared.field.Span.{Span}
use Rattle.numbers.proofs.Steps.{there, whole, short}
use Rattle.numbers.proofs.Cases.{less-or-not}
use Rattle.parts.proofs.Steps.{got-then}
use Rattle.parts.proofs.Copying.{span-length}
use Rattle.replay.specs.Frames.{longest_body, body_at, frame_at}
use Rattle.replay.specs.declared.frames.Frame.{Frame}
use Rattle.replay.proofs.Framed.{body-lies}

-- a number ends behind its first byte
Past : ℕ → Got ℕ → Type 0
Past at (got v next) = at < next
Past at (refused n) = Unit {0}

past-cond : (at : ℕ) (t : Bool) (a b : Got ℕ) → Past at a → Past at b → Past at (cond t a b)
past-cond at true a b h k = h
past-cond at false a b h k = k

past-below : (at v w : ℕ) (r : Got ℕ) → Past (at + 1) r → Past at (below v w r)
unfolding Past below
past-below at v w (got u next) h = past-cond at (nat_eq u 0) (refused bad_number) (got (v + w * u) next) tt (omega arith)
past-below at v w (refused n) h = tt

past-groups : (k at : ℕ) (s : List ℕ) → Past at (groups k at s)
unfolding Past groups
past-groups k at [] = tt
past-groups zero at (b ∷ s) = past-cond at (nat_le b 1) (got b (at + 1)) (refused bad_number) (omega arith) tt
past-groups (suc k) at (b ∷ s) = past-cond at (nat_lt b 128) (got b (at + 1)) (below (b % 128) 128 (groups k (at + 1) s)) (omega arith) (past-below at (b % 128) 128 (groups k (at + 1) s) (past-groups k (at + 1) s))

number_past : (s : List ℕ) (at : ℕ) {v next : ℕ} → got v next ≡ read_number s at → at < next
unfolding Past read_number
number_past s at e = rw (← e) at (past-groups 9 at (drop at s))

most-past : (s : List ℕ) (limit n at : ℕ) {v next : ℕ} → got v next ≡ at_most limit n (read_number s at) → at < next
unfolding at_most
most-past s limit n at {v} {next} e =
    let t = got-then (read_number s at) (λ x p. cond (nat_le x limit) (got x p) (refused n)) e in
    by (nat_le t.value limit) t.value t.place (number_past s at t.first) t.rest
  where
    by : (b : Bool) (x p : ℕ) → at < p → got v next ≡ cond b (got x p) (refused n) → at < next
    by true x p h i = let z : next ≡ p = cc in omega arith
    by false x p h i = absurd (let z : ◌≡◌ {A = ℕ} 0 1 = cc in omega arith)

-- a body: its length, then its bytes
pub body-size : (s : List ℕ) (p : ℕ) {b : Span} {next : ℕ} → got b next ≡ body_at s p → p + 1 + length (span_bytes s b) ≤ next
unfolding body_at
body-size s p {b} {next} e =
    let t = got-then (at_most longest_body out_of_range (read_number s p)) (bytes_at s) e in
    let h = there s t.value t.place t.rest in
    let l : length (take t.value (drop t.place s)) ≡ t.value = span-length s t.place t.value h.inside in
    rw h.span (omega (arith, most-past s longest_body out_of_range p t.first, h.after, l))

pub frame-size : (s : List ℕ) (at : ℕ) {f : Frame} {next : ℕ} → got f next ≡ frame_at s at → at + (2 + length (span_bytes s f.body)) ≤ next
unfolding frame_at
frame-size s at {f} {next} e =
    let m = got-then (read_number s at) (λ t p. and_then (body_at s p) (λ b q. got (record { moment = t; body = b }) q)) e in
    let b = got-then (body_at s m.place) (λ b q. got (record { moment = m.value; body = b }) q) m.rest in
    let i = b.rest in
    let x : f.body ≡ b.value = cc in
    let y : next ≡ b.place = cc in
    rw x (omega (arith, y, number_past s at m.first, body-size s m.place b.first))

-- with more bytes behind, and without them
below-got : (v w : ℕ) (r : Got ℕ) {u next : ℕ} → got u next ≡ below v w r → (x : ℕ) × (got x next ≡ r)
unfolding below
below-got v w (got x p) {u} {next} e = (x, by (nat_eq x 0) e)
  where
    by : (t : Bool) → got u next ≡ cond t (refused bad_number) (got (v + w * x) p) → got x next ≡ got x p
    by true i = absurd (let z : ◌≡◌ {A = ℕ} 0 1 = cc in omega arith)
    by false i = let y : next ≡ p = cc in rw y
below-got v w (refused n) e = absurd (let z : ◌≡◌ {A = ℕ} 0 1 = cc in omega arith)

module _ (b at : ℕ) (x y : Got ℕ) {v next : ℕ} where
  -- one group, and what follows it is the same
  group-same : (t : Bool) → got v next ≡ cond t (got b (at + 1)) (below (b % 128) 128 x) → ((u : ℕ) → got u next ≡ x → y ≡ x)
      → cond t (got b (at + 1)) (below (b % 128) 128 y) ≡ cond t (got b (at + 1)) (below (b % 128) 128 x)
  group-same true i h = refl
  group-same false i h = let z = below-got (b % 128) 128 x i in ap (below (b % 128) 128) (h z.0 z.1)

groups-same : (k at : ℕ) (s more : List ℕ) {v next : ℕ} → got v next ≡ groups k at s → groups k at (s ++ more) ≡ groups k at s
unfolding groups
groups-same k at [] more e = absurd (let z : ◌≡◌ {A = ℕ} 0 1 = cc in omega arith)
groups-same zero at (b ∷ s) more e = refl
groups-same (suc k) at (b ∷ s) more e =
    group-same b at (groups k (at + 1) s) (groups k (at + 1) (s ++ more)) (nat_lt b 128) e (λ u i. groups-same k (at + 1) s more i)

groups-back : (k at : ℕ) (s more : List ℕ) {v next : ℕ} → got v next ≡ groups k at (s ++ more) → next ≤ at + length s → groups k at s ≡ groups k at (s ++ more)
unfolding Past groups
groups-back k at [] more e h = absurd (omega (arith, h, rw (← e) at (past-groups k at more)))
groups-back zero at (b ∷ s) more e h = refl
groups-back (suc k) at (b ∷ s) more e h =
    group-same b at (groups k (at + 1) (s ++ more)) (groups k (at + 1) s) (nat_lt b 128) e (λ u i. groups-back k (at + 1) s more i (omega (arith, h)))

module _ (s more : List ℕ) where
  number_same : (at : ℕ) → at ≤ length s → {v next : ℕ} → got v next ≡ read_number s at → read_number (s ++ more) at ≡ read_number s at
  unfolding read_number
  number_same at h e = rw (drop-append-le at s more h) (groups-same 9 at (drop at s) more e)

  bytes_same : (n p : ℕ) {b : Span} {next : ℕ} → got b next ≡ bytes_at s n p → (bytes_at (s ++ more) n p ≡ bytes_at s n p) × (span_bytes (s ++ more) b ≡ span_bytes s b)
  bytes_same n p e =
      let t = there s n p e in
      let l = length-append s more in
      let d : drop p (s ++ more) ≡ drop p s ++ more = drop-append-le p s more (omega (arith, t.inside)) in (
        sym (whole (s ++ more) n p (omega (arith, t.inside, l))) ∙ whole s n p t.inside,
        rw t.span (ap (take n) d ∙ take-append-le n (drop p s) more (omega (arith, t.inside, length-drop p s))),
      )

  most-same : (limit n at : ℕ) → at ≤ length s → {v next : ℕ} → got v next ≡ at_most limit n (read_number s at) → at_most limit n (read_number (s ++ more) at) ≡ at_most limit n (read_number s at)
  unfolding at_most
  most-same limit n at h e =
      let t = got-then (read_number s at) (λ x p. cond (nat_le x limit) (got x p) (refused n)) e in
      ap (λ r. and_then r (λ x p. cond (nat_le x limit) (got x p) (refused n))) (number_same at h t.first)

  pub body_same : (p : ℕ) → p ≤ length s → {b : Span} {next : ℕ} → got b next ≡ body_at s p → (body_at (s ++ more) p ≡ body_at s p) × (span_bytes (s ++ more) b ≡ span_bytes s b)
  unfolding body_at
  body_same p h e =
      let t = got-then (at_most longest_body out_of_range (read_number s p)) (bytes_at s) e in
      let k = bytes_same t.value t.place t.rest in
      (ap (λ r. and_then r (bytes_at (s ++ more))) (most-same longest_body out_of_range p h t.first ∙ sym t.first) ∙ (k.0 ∙ ap (λ r. and_then r (bytes_at s)) t.first), k.1)

  abbrev framed : List ℕ → ℕ → ℕ → Got Frame
  framed x t p = and_then (body_at x p) (λ b q. got (record { moment = t; body = b }) q)

  framed-same : (t p : ℕ) → p ≤ length s → {f : Frame} {next : ℕ} → got f next ≡ framed s t p → (framed (s ++ more) t p ≡ framed s t p) × (span_bytes (s ++ more) f.body ≡ span_bytes s f.body)
  framed-same t p h {f} {next} e =
      let b = got-then (body_at s p) (λ b q. got (record { moment = t; body = b }) q) e in
      let i = b.rest in
      let x : f.body ≡ b.value = cc in
      let k = body_same p h b.first in
      (ap (λ r. and_then r (λ b q. got (record { moment = t; body = b }) q)) k.0, rw x k.1)

  framed-inside : (t p : ℕ) {f : Frame} {next : ℕ} → got f next ≡ framed s t p → p ≤ length s
  framed-inside t p e =
      let b = got-then (body_at s p) (λ b q. got (record { moment = t; body = b }) q) e in
      let l = body-lies s p b.value b.place b.first in
      omega (arith, l.before, l.inside)

  pub frame_same : (at : ℕ) → at ≤ length s → {f : Frame} {next : ℕ} → got f next ≡ frame_at s at → (frame_at (s ++ more) at ≡ frame_at s at) × (span_bytes (s ++ more) f.body ≡ span_bytes s f.body)
  unfolding frame_at
  frame_same at h e =
      let m = got-then (read_number s at) (framed s) e in
      let k = framed-same m.value m.place (framed-inside m.value m.place m.rest) m.rest in
      (ap (λ r. and_then r (framed (s ++ more))) (number_same at h m.first ∙ sym m.first) ∙ (k.0 ∙ ap (λ r. and_then r (framed s)) m.first), k.1)

  -- back from more bytes
  number-back : (at : ℕ) → at ≤ length s → {v next : ℕ} → got v next ≡ read_number (s ++ more) at → next ≤ length s → read_number s at ≡ read_number (s ++ more) at
  unfolding read_number
  number-back at h e k =
      let d = drop-append-le at s more h in
      let i = rw d at e in
      rw d (groups-back 9 at (drop at s) more i (omega (arith, k, length-drop at s, h)))

  bytes_back : (n p : ℕ) {b : Span} {next : ℕ} → got b next ≡ bytes_at (s ++ more) n p → next ≤ length s → bytes_at s n p ≡ bytes_at (s ++ more) n p
  bytes_back n p e k = let t = there (s ++ more) n p e in sym (whole s n p (omega (arith, t.after, k))) ∙ whole (s ++ more) n p t.inside

  most-back : (limit n at : ℕ) → at ≤ length s → {v next : ℕ} → got v next ≡ at_most limit n (read_number (s ++ more) at) → next ≤ length s → at_most limit n (read_number s at) ≡ at_most limit n (read_number (s ++ more) at)
  unfolding at_most
  most-back limit n at h {v} {next} e k =
      let t = got-then (read_number (s ++ more) at) (λ x p. cond (nat_le x limit) (got x p) (refused n)) e in
      ap (λ r. and_then r (λ x p. cond (nat_le x limit) (got x p) (refused n))) (number-back at h t.first (kept (nat_le t.value limit) t.value t.place t.rest k))
    where
      kept : (b : Bool) (x p : ℕ) → got v next ≡ cond b (got x p) (refused n) → next ≤ length s → p ≤ length s
      kept true x p i j = let z : next ≡ p = cc in omega arith
      kept false x p i j = absurd (let z : ◌≡◌ {A = ℕ} 0 1 = cc in omega arith)

  pub body_back : (p : ℕ) → p ≤ length s → {b : Span} {next : ℕ} → got b next ≡ body_at (s ++ more) p → next ≤ length s → body_at s p ≡ body_at (s ++ more) p
  unfolding body_at
  body_back p h e k =
      let t = got-then (at_most longest_body out_of_range (read_number (s ++ more) p)) (bytes_at (s ++ more)) e in
      let w = there (s ++ more) t.value t.place t.rest in
      let i = most-back longest_body out_of_range p h t.first (omega (arith, w.after, k)) in
      ap (λ r. and_then r (bytes_at s)) (i ∙ sym t.first) ∙ (bytes_back t.value t.place t.rest k ∙ ap (λ r. and_then r (bytes_at (s ++ more))) t.first)

  framed-back : (t p : ℕ) → p ≤ length s → {f : Frame} {next : ℕ} → got f next ≡ framed (s ++ more) t p → next ≤ length s → framed s t p ≡ framed (s ++ more) t p
  framed-back t p h {f} {next} e k =
      let b = got-then (body_at (s ++ more) p) (λ b q. got (record { moment = t; body = b }) q) e in
      let i = b.rest in
      let y : next ≡ b.place = cc in
      ap (λ r. and_then r (λ b q. got (record { moment = t; body = b }) q)) (body_back p h b.first (omega (arith, y, k)))

  framed-before : (t p : ℕ) {f : Frame} {next : ℕ} → got f next ≡ framed (s ++ more) t p → p ≤ next
  framed-before t p {f} {next} e =
      let b = got-then (body_at (s ++ more) p) (λ b q. got (record { moment = t; body = b }) q) e in
      let i = b.rest in
      let y : next ≡ b.place = cc in
      omega (arith, y, (body-lies (s ++ more) p b.value b.place b.first).before)

  pub frame_back : (at : ℕ) → at ≤ length s → {f : Frame} {next : ℕ} → got f next ≡ frame_at (s ++ more) at → next ≤ length s → frame_at s at ≡ frame_at (s ++ more) at
  unfolding frame_at
  frame_back at h e k =
      let m = got-then (read_number (s ++ more) at) (framed (s ++ more)) e in
      let l = framed-before m.value m.place m.rest in
      let n = number-back at h m.first (omega (arith, l, k)) in
      ap (λ r. and_then r (framed s)) (n ∙ sym m.first) ∙ (framed-back m.value m.place (omega (arith, l, k)) m.rest k ∙ ap (λ r. and_then r (framed (s ++ more))) m.first)

-- with others in front
abbrev moved_got : ℕ → Got ℕ → Got ℕ
moved_got d (got v next) = got v (d + next)
moved_got d (refused n) = refused n

abbrev pub moved_span : ℕ → Span → Span
moved_span d b = record { start = d + b.start; len = b.len }

abbrev moved_body : ℕ → Got Span → Got Span
moved_body d (got b next) = got (moved_span d b) (d + next)
moved_body d (refused n) = refused n

abbrev pub moved_frame : ℕ → Got Frame → Got Frame
moved_frame d (got f next) = got (record { moment = f.moment; body = moved_span d f.body }) (d + next)
moved_frame d (refused n) = refused n

below-moved : (d v w : ℕ) (r : Got ℕ) → below v w (moved_got d r) ≡ moved_got d (below v w r)
unfolding below
below-moved d v w (got u next) = by (nat_eq u 0)
  where
    by : (t : Bool) → cond t (refused bad_number) (got (v + w * u) (d + next)) ≡ moved_got d (cond t (refused bad_number) (got (v + w * u) next))
    by true = refl
    by false = refl
below-moved d v w (refused n) = refl

step-moved : (d at : ℕ) (t : Bool) (b : ℕ) (x y : Got ℕ) → x ≡ moved_got d y → cond t (got b (d + at + 1)) x ≡ moved_got d (cond t (got b (at + 1)) y)
step-moved d at true b x y e = let z : d + at + 1 ≡ d + (at + 1) = omega arith in rw z
step-moved d at false b x y e = e

groups-moved : (d k at : ℕ) (s : List ℕ) → groups k (d + at) s ≡ moved_got d (groups k at s)
unfolding groups
groups-moved d k at [] = refl
groups-moved d zero at (b ∷ s) = step-moved d at (nat_le b 1) b (refused bad_number) (refused bad_number) refl
groups-moved d (suc k) at (b ∷ s) =
    let z : d + at + 1 ≡ d + (at + 1) = omega arith in
    step-moved d at (nat_lt b 128) b (below (b % 128) 128 (groups k (d + at + 1) s)) (below (b % 128) 128 (groups k (at + 1) s))
    (ap (λ p. below (b % 128) 128 (groups k p s)) z ∙ (ap (below (b % 128) 128) (groups-moved d k (at + 1) s) ∙ below-moved d (b % 128) 128 (groups k (at + 1) s)))

most-moved : (d limit n : ℕ) (r : Got ℕ) → at_most limit n (moved_got d r) ≡ moved_got d (at_most limit n r)
unfolding at_most
most-moved d limit n (got v next) = by (nat_le v limit)
  where
    by : (t : Bool) → cond t (got v (d + next)) (refused n) ≡ moved_got d (cond t (got v next) (refused n))
    by true = refl
    by false = refl
most-moved d limit n (refused m) = refl

module _ (a s : List ℕ) where
  number-moved : (i : ℕ) → read_number (a ++ s) (length a + i) ≡ moved_got (length a) (read_number s i)
  unfolding read_number
  number-moved i = rw (drop-append-add a s i) (groups-moved (length a) 9 i (drop i s))

  pub span-moved : (b : Span) → span_bytes (a ++ s) (moved_span (length a) b) ≡ span_bytes s b
  span-moved b = ap (take b.len) (drop-append-add a s b.start)

  bytes-moved : (n p : ℕ) → bytes_at (a ++ s) n (length a + p) ≡ moved_body (length a) (bytes_at s n p)
  bytes-moved n p =
      let l = length-append a s in
      let z : length a + p + n ≡ length a + (p + n) = omega arith in
      ⊎_elim (λ (h : length s < p + n). sym (short (a ++ s) n (length a + p) (omega (arith, l, h))) ∙ ap (moved_body (length a)) (short s n p h))
      (λ (h : p + n ≤ length s). sym (whole (a ++ s) n (length a + p) (omega (arith, l, h))) ∙ (ap (λ (q : ℕ). got (record { start = length a + p; len = n }) q) z ∙ ap (moved_body (length a)) (whole s n p h)))
      (less-or-not (length s) (p + n))

  body-by : (r : Got ℕ) → and_then (moved_got (length a) r) (bytes_at (a ++ s)) ≡ moved_body (length a) (and_then r (bytes_at s))
  body-by (got n q) = bytes-moved n q
  body-by (refused n) = refl

  body-moved : (p : ℕ) → body_at (a ++ s) (length a + p) ≡ moved_body (length a) (body_at s p)
  unfolding body_at
  body-moved p =
      ap (λ r. and_then r (bytes_at (a ++ s))) (ap (at_most longest_body out_of_range) (number-moved p) ∙ most-moved (length a) longest_body out_of_range (read_number s p))
      ∙ body-by (at_most longest_body out_of_range (read_number s p))

  moment-by : (t : ℕ) (r : Got Span) → and_then (moved_body (length a) r) (λ b q. got (record { moment = t; body = b }) q) ≡ moved_frame (length a) (and_then r (λ b q. got (record { moment = t; body = b }) q))
  moment-by t (got b q) = refl
  moment-by t (refused n) = refl

  frame-by : (r : Got ℕ) → and_then (moved_got (length a) r) (λ t p. and_then (body_at (a ++ s) p) (λ b q. got (record { moment = t; body = b }) q))
      ≡ moved_frame (length a) (and_then r (λ t p. and_then (body_at s p) (λ b q. got (record { moment = t; body = b }) q)))
  frame-by (got t p) = ap (λ r. and_then r (λ b q. got (record { moment = t; body = b }) q)) (body-moved p) ∙ moment-by t (body_at s p)
  frame-by (refused n) = refl

  pub frame-moved : (i : ℕ) → frame_at (a ++ s) (length a + i) ≡ moved_frame (length a) (frame_at s i)
  unfolding frame_at
  frame-moved i =
      ap (λ r. and_then r (λ t p. and_then (body_at (a ++ s) p) (λ b q. got (record { moment = t; body = b }) q))) (number-moved i) ∙ frame-by (read_number s i)

-- Bytes behind a body change nothing of what was read before them. So a configuration of this edition, with the fields of a later
-- one behind it, says there what it said.
--     Keeps, Stays       what is read without more bytes is read with them: a field, and any reading
--     fields-longer      the fields of a configuration that every edition has
--     rooms-longer       what is held of them
--     later-edition      a body of this edition, with what another adds behind it
use mathlib.Core.Path.{◌≡◌, refl, sym, ap, subst, ◌∙◌}
use mathlib.Core.Bool.{Bool, true, false, cond}
use mathlib.Core.List.{List, [], ◌∷◌, ◌++◌, map}
use mathlib.Core.Logic.{⊎_elim}
use Prim.Native.Nat.{ℕ, zero, suc, ◌+◌, ◌%◌, ◌≤◌, ◌<◌}
use native.Mathlib.Omega.{arith}
use lib.Dec.{ltb as nat_lt, leb as nat_le, eqb as nat_eq}
use lib.ListN.{length, take, drop, length-append, length-drop, drop_of_length-le, get_or-append}
use lib.Seq.{take-append-le, drop-append-le}
use borrow.Author.Tests.{le-leb}
use Rattle.numbers.specs.Got.{Got, got, refused, and_then}
use Rattle.numbers.specs.Fields.{at_most, bytes_at, span_bytes, name_length, named, name_at}
use Rattle.numbers.specs.Names.{name_ok, longest_name, longest_origin}
use Rattle.numbers.specs.Numbers.{below, groups, read_number}
use Rattle.numbers.specs.Refusals.{out_of_range, bad_name, too_many}
use Rattle.numbers.specs.declared.field.Span.{Span}
use Rattle.numbers.proofs.Cases.{less-or-not}
use Rattle.numbers.proofs.Steps.{whole, there}
use Rattle.standing.proofs.Prefix.{name-there}
use Rattle.parts.specs.Reading.{Reading, read, fault, next, field}
use Rattle.parts.specs.Items.{items, past, counted, found, listed}
use Rattle.parts.specs.Addresses.{word, long, four, six}
use Rattle.parts.specs.Fields.{versions_at, port_at}
use Rattle.parts.specs.Rooms.{fits, kept, name_in}
use Rattle.parts.specs.Written.{All}
use Rattle.parts.specs.declared.address.Items.{Items}
use Rattle.parts.proofs.Steps.{field-read}
use Rattle.parts.proofs.Items.{Row}
use Rattle.parts.proofs.Copying.{fits-there, kept_there, kept-none}
use Rattle.configuration.specs.Configuration.{literal_by, host_by, origin_at, alt_host_at, alt, choices, front, multiplier_at, pace, flagged, back, rest_at, fields_at, edition_at, none_added, setup_at}
use Rattle.configuration.specs.Filling.{host_name, alt_name, configured_by, configured_in}
use Rattle.configuration.specs.declared.HostSpan.{HostSpan}
use Rattle.configuration.specs.declared.HostSpan.TheVariants.{Absent, Named, V4, V6}
use Rattle.configuration.specs.declared.AltSpan.{AltSpan}
use Rattle.configuration.specs.declared.Setup.{Setup}
use Rattle.configuration.proofs.Editions.{ends, edition-read}
use Rattle.written.proofs.Heard.{NameHeard}
use Rattle.written.proofs.SetupHeard.{OriginHeard, AltHeard, SetupHeard, fields-heard}
use Rattle.written.proofs.SetupInside.{read_whole}

pub record Keeps {A : Type 0} (r l : Got A) : Type 0 where
  pub so : (v : A) (end : ℕ) → got v end ≡ r → got v end ≡ l

pub record Stays {A : Type 0} (r l : Reading A) : Type 0 where
  pub so : (v : A) (end : ℕ) → read v end ≡ r → read v end ≡ l

module _ {A : Type 0} where
  keeps_same : (r : Got A) → Keeps r r
  keeps_same r = record { so = λ v end e. e }

  keeps-refused : (n : ℕ) (l : Got A) → Keeps (refused n) l
  keeps-refused n l = record { so = λ v end e. absurd (let z : ◌≡◌ {A = ℕ} 0 1 = cc in omega arith) }

  keeps-cond : (t : Bool) (a b c d : Got A) → Keeps a c → Keeps b d → Keeps (cond t a b) (cond t c d)
  keeps-cond true a b c d g h = g
  keeps-cond false a b c d g h = h

  keeps_then : {B : Type 0} (r l : Got B) (f g : B → ℕ → Got A) → Keeps r l → ((v : B) (p : ℕ) → got v p ≡ r → Keeps (f v p) (g v p)) → Keeps (and_then r f) (and_then l g)
  keeps_then (got v p) l f g k h = record { so = λ w end e. (h v p refl).so w end e ∙ ap (λ l. and_then l g) (k.so v p refl) }
  keeps_then (refused n) l f g k h = keeps-refused n (and_then l g)

  stays_same : (r : Reading A) → Stays r r
  stays_same r = record { so = λ v end e. e }

  stays-fault : (n p : ℕ) (l : Reading A) → Stays (fault n p) l
  stays-fault n p l = record { so = λ v end e. absurd (let z : ◌≡◌ {A = ℕ} 0 1 = cc in omega arith) }

  stays_by : {r l : Reading A} → r ≡ l → Stays r l
  stays_by i = record { so = λ v end e. e ∙ i }

  stays-cond : (t : Bool) (a b c d : Reading A) → Stays a c → Stays b d → Stays (cond t a b) (cond t c d)
  stays-cond true a b c d g h = g
  stays-cond false a b c d g h = h

  stays-next : {B : Type 0} (r l : Reading B) (f g : B → ℕ → Reading A) → Stays r l → ((v : B) (p : ℕ) → read v p ≡ r → Stays (f v p) (g v p)) → Stays (next r f) (next l g)
  stays-next (read v p) l f g k h = record { so = λ w end e. (h v p refl).so w end e ∙ ap (λ l. next l g) (k.so v p refl) }
  stays-next (fault n p) l f g k h = stays-fault n p (next l g)

  stays-field : (p : ℕ) (r l : Got A) → Keeps r l → Stays (field p r) (field p l)
  stays-field p (got v q) l k = stays_by (ap (field p) (k.so v q refl))
  stays-field p (refused n) l k = stays-fault n p (field p l)

-- a number, over its groups
below-keeps : (v w : ℕ) (r l : Got ℕ) → Keeps r l → Keeps (below v w r) (below v w l)
unfolding below
below-keeps v w (got u q) l k = record { so = λ x end e. e ∙ ap (below v w) (k.so u q refl) }
below-keeps v w (refused n) l k = keeps-refused n (below v w l)

groups-keeps : (left p : ℕ) (bs t : List ℕ) → Keeps (groups left p bs) (groups left p (bs ++ t))
unfolding groups
groups-keeps zero p [] t = keeps-refused _ _
groups-keeps (suc left) p [] t = keeps-refused _ _
groups-keeps zero p (b ∷ bs) t = keeps_same _
groups-keeps (suc left) p (b ∷ bs) t = keeps-cond (nat_lt b 128) _ _ _ _ (keeps_same (got b (p + 1))) (below-keeps (b % 128) 128 _ _ (groups-keeps left (p + 1) bs t))

all_same : {A B : Type 0} (Q : A → Type 0) (f g : A → B) → ((a : A) → Q a → f a ≡ g a) → (l : List A) → All Q l → map f l ≡ map g l
unfolding All
all_same Q f g h [] ok = refl
all_same Q f g h (a ∷ l) ok = rw (h a ok.0) (ap (λ r. g a ∷ r) (all_same Q f g h l ok.1))

module _ (s t : List ℕ) where
  number-keeps : (p : ℕ) → Keeps (read_number s p) (read_number (s ++ t) p)
  unfolding read_number
  number-keeps p =
      ⊎_elim (λ (h : length s < p). subst (λ l. Keeps (groups 9 p l) (groups 9 p (drop p (s ++ t)))) (sym (drop_of_length-le s {i = p} (omega arith))) (keeps-none (drop p (s ++ t))))
      (λ (h : p ≤ length s). subst (λ l. Keeps (groups 9 p (drop p s)) (groups 9 p l)) (sym (drop-append-le p s t h)) (groups-keeps 9 p (drop p s) t))
      (less-or-not (length s) p)
    where
      keeps-none : (l : List ℕ) → Keeps (groups 9 p []) (groups 9 p l)
      keeps-none l = groups-keeps 9 p [] l

  most-keeps : (limit n p : ℕ) → Keeps (at_most limit n (read_number s p)) (at_most limit n (read_number (s ++ t) p))
  unfolding at_most
  most-keeps limit n p = keeps_then (read_number s p) (read_number (s ++ t) p) _ _ (number-keeps p) (λ v q e. keeps_same (cond (nat_le v limit) (got v q) (refused n)))

  longer : length s ≤ length (s ++ t)
  longer = omega (arith, length-append s t)

  bytes-keeps : (n p : ℕ) → Keeps (bytes_at s n p) (bytes_at (s ++ t) n p)
  bytes-keeps n p = record { so = λ b end e. let h = there s n p e in rw (h.span, h.after) (whole (s ++ t) n p (omega (arith, h.inside, longer))) }

  inside-same : (n p : ℕ) → p + n ≤ length s → take n (drop p (s ++ t)) ≡ take n (drop p s)
  inside-same n p h = ap (take n) (drop-append-le p s t (omega arith)) ∙ take-append-le n (drop p s) t (omega (arith, length-drop p s, h))

  span_same : (n p : ℕ) (b : Span) (end : ℕ) → got b end ≡ bytes_at s n p → span_bytes (s ++ t) b ≡ span_bytes s b
  span_same n p b end e = let h = there s n p e in subst (λ b. span_bytes (s ++ t) b ≡ span_bytes s b) (sym h.span) (inside-same n p h.inside)

  name-keeps : (limit p : ℕ) → Keeps (name_at s limit p) (name_at (s ++ t) limit p)
  unfolding name_at name_length named
  name-keeps limit p =
      keeps_then (name_length limit (read_number s p)) (name_length limit (read_number (s ++ t) p)) (named s) (named (s ++ t))
      (keeps_then (at_most limit too_many (read_number s p)) (at_most limit too_many (read_number (s ++ t) p)) _ _ (most-keeps limit too_many p) (λ n q e. keeps_same (cond (nat_eq n 0) (refused bad_name) (got n q))))
      (λ n q e. keeps_then (bytes_at s n q) (bytes_at (s ++ t) n q) _ _ (bytes-keeps n q) (λ b r f.
      subst (λ bs. Keeps (cond (name_ok (span_bytes s b)) (got b r) (refused bad_name)) (cond (name_ok bs) (got b r) (refused bad_name))) (sym (span_same n q b r f)) (keeps_same _)))

  range-stays : (limit p : ℕ) → Stays (field p (at_most limit out_of_range (read_number s p))) (field p (at_most limit out_of_range (read_number (s ++ t) p)))
  range-stays limit p = stays-field p _ _ (most-keeps limit out_of_range p)

  number-stays : (p : ℕ) → Stays (field p (read_number s p)) (field p (read_number (s ++ t) p))
  number-stays p = stays-field p _ _ (number-keeps p)

  -- addresses
  word_same : (p : ℕ) → p + 4 ≤ length s → word (s ++ t) p ≡ word s p
  unfolding word
  word_same p h = rw (get_or-append s t 0 p (omega arith), get_or-append s t 0 (p + 1) (omega arith), get_or-append s t 0 (p + 2) (omega arith), get_or-append s t 0 (p + 3) (omega arith)) refl

  long_same : (p : ℕ) → p + 8 ≤ length s → long (s ++ t) p ≡ long s p
  unfolding long
  long_same p h = rw (word_same p (omega arith), word_same (p + 4) (omega arith)) refl

  four-stays : (p : ℕ) → Stays (four s p) (four (s ++ t) p)
  unfolding four
  four-stays p =
      stays-next (field p (bytes_at s 4 p)) (field p (bytes_at (s ++ t) 4 p)) _ _ (stays-field p _ _ (bytes-keeps 4 p)) (λ b end e.
      let h = (there s 4 p (field-read p (bytes_at s 4 p) e)).inside in
      stays_by (ap (λ x. read (record { hi = 0; lo = x; scope = 0 }) end) (sym (word_same p h))))

  six-stays : (p : ℕ) → Stays (six s p) (six (s ++ t) p)
  unfolding six
  six-stays p =
      stays-next (field p (bytes_at s 16 p)) (field p (bytes_at (s ++ t) 16 p)) _ _ (stays-field p _ _ (bytes-keeps 16 p)) (λ b end e.
      let h = (there s 16 p (field-read p (bytes_at s 16 p) e)).inside in
      let x = sym (long_same p (omega arith)) in
      let y = sym (long_same (p + 8) (omega arith)) in
      stays_by (λ j. read (record { hi = x j; lo = y j; scope = 0 }) end))

  versions-stays : (p : ℕ) → Stays (versions_at s p) (versions_at (s ++ t) p)
  unfolding versions_at
  versions-stays p = stays-next (field p (at_most 7 out_of_range (read_number s p))) _ _ _ (range-stays 7 p) (λ v end e. stays_same _)

  port-stays : (p : ℕ) → Stays (port_at s p) (port_at (s ++ t) p)
  unfolding port_at
  port-stays p = stays-next (field p (at_most 65536 out_of_range (read_number s p))) _ _ _ (range-stays 65536 p) (λ v end e. stays_same _)

  -- items in a row
  module _ {A : Type 0} (f g : ℕ → Reading A) (one : (p : ℕ) → Stays (f p) (g p)) where
    items-stays : (n p : ℕ) → Stays (items f n p) (items g n p)
    unfolding items
    items-stays zero p = stays_same _
    items-stays (suc n) p = stays-next (f p) (g p) _ _ (one p) (λ a q e. stays-next (items f n q) (items g n q) _ _ (items-stays n q) (λ l end i. stays_same _))

    past-stays : (r l : Reading (List A)) → Stays r l → Stays (past r) (past l)
    past-stays (read v q) l k = stays_by (ap past (k.so v q refl))
    past-stays (fault n p) l k = stays-fault n p (past l)

    counted-stays : (most p : ℕ) → Stays (counted most f s p) (counted most g (s ++ t) p)
    unfolding counted
    counted-stays most p =
        stays-next (field p (at_most most too_many (read_number s p))) (field p (at_most most too_many (read_number (s ++ t) p))) _ _ (stays-field p _ _ (most-keeps most too_many p)) (λ n q e.
        stays-next (past (items f n q)) (past (items g n q)) _ _ (past-stays (items f n q) (items g n q) (items-stays n q)) (λ u end i. stays_same _))

    listed_same : (most : ℕ) (l : Items) (end : ℕ) → Row most f l end → listed most g l ≡ listed most f l
    unfolding listed
    listed_same most l end r =
        let e = (items-stays l.count l.first).so (listed most f l) end (sym r.all) in
        rw (le-leb l.count most r.few) (sym (ap found e) ∙ ap (λ k. cond k (found (items f l.count l.first)) []) (le-leb l.count most r.few))

  -- the configuration
  host-stays : (limit kind p : ℕ) → Stays (host_by s limit kind p) (host_by (s ++ t) limit kind p)
  unfolding host_by literal_by
  host-stays limit kind p =
      stays-cond (nat_eq kind 0) _ _ _ _ (stays-next (field p (name_at s limit p)) _ _ _ (stays-field p _ _ (name-keeps limit p)) (λ b end e. stays_same _))
      (stays-cond (nat_eq kind 1) _ _ _ _ (stays-next (four s p) _ _ _ (four-stays p) (λ a end e. stays_same _))
      (stays-cond (nat_eq kind 2) _ _ _ _ (stays-next (six s p) _ _ _ (six-stays p) (λ a end e. stays_same _)) (stays_same _)))

  alt-stays : (p : ℕ) → Stays (alt s p) (alt (s ++ t) p)
  unfolding alt alt_host_at
  alt-stays p =
      stays-next (alt_host_at s p) (alt_host_at (s ++ t) p) _ _
      (stays-next (field p (at_most 3 out_of_range (read_number s p))) _ (host_by s longest_name) (host_by (s ++ t) longest_name) (range-stays 3 p) (λ kind q e. host-stays longest_name kind q)) (λ h q e.
      stays-next (port_at s q) _ _ _ (port-stays q) (λ x r f.
      stays-next (field r (at_most 2 out_of_range (read_number s r))) _ _ _ (range-stays 2 r) (λ v end i. stays_same _)))

  front-stays : Stays (front s) (front (s ++ t))
  unfolding front choices origin_at
  front-stays =
      stays-next (field 0 (at_most 65535 out_of_range (read_number s 0))) _ _ _ (range-stays 65535 0) (λ port p d.
      stays-next (origin_at s p) (origin_at (s ++ t) p) _ _
      (stays-next (field p (at_most 2 out_of_range (read_number s p))) _ (host_by s longest_origin) (host_by (s ++ t) longest_origin) (range-stays 2 p) (λ kind q e. host-stays longest_origin kind q)) (λ h q e.
      stays-next (versions_at s q) _ _ _ (versions-stays q) (λ x r f.
      stays-next (field r (at_most 3 out_of_range (read_number s r))) _ _ _ (range-stays 3 r) (λ v end i. stays_same _))))

  back-stays : (p : ℕ) → Stays (back s p) (back (s ++ t) p)
  unfolding back pace flagged multiplier_at
  back-stays p =
      stays-next (pace s p) (pace (s ++ t) p) _ _
      (stays-next (field p (read_number s p)) _ _ _ (number-stays p) (λ r q d.
      stays-next (field q (read_number s q)) _ _ _ (number-stays q) (λ a u e.
      stays-next (multiplier_at s u) (multiplier_at (s ++ t) u) _ _
      (stays-next (field u (at_most 4294967295 out_of_range (read_number s u))) _ _ _ (range-stays 4294967295 u) (λ v end i. stays_same _)) (λ m end i. stays_same _)))) (λ x q d.
      stays-next (field q (at_most 3 out_of_range (read_number s q))) _ _ _ (range-stays 3 q) (λ flags r e.
      stays-next (field r (at_most 2 out_of_range (read_number s r))) _ _ _ (range-stays 2 r) (λ v end i. stays_same _)))

  fields-stay : Stays (fields_at s) (fields_at (s ++ t))
  unfolding fields_at rest_at
  fields-stay =
      stays-next (front s) (front (s ++ t)) _ _ front-stays (λ f p d.
      stays-next (counted 4 (alt s) s p) (counted 4 (alt (s ++ t)) (s ++ t) p) _ _ (counted-stays (alt s) (alt (s ++ t)) alt-stays 4 p) (λ l q e.
      stays-next (back s q) (back (s ++ t) q) _ _ (back-stays q) (λ b end i. stays_same _)))

  pub fields-longer : (c : Setup) (end : ℕ) → read c end ≡ fields_at s → read c end ≡ fields_at (s ++ t)
  fields-longer = fields-stay.so

  -- names
  kept_same : (b : Span) → NameHeard s b → kept longest_name (s ++ t) b ≡ kept longest_name s b
  unfolding fits
  kept_same b k = go (fits longest_name s b) refl
    where
      go : (u : Bool) → fits longest_name s b ≡ u → kept longest_name (s ++ t) b ≡ kept longest_name s b
      go true e =
          let h = fits-there longest_name s b e in
          let f : fits longest_name (s ++ t) b ≡ true = simp (le-leb b.len longest_name h.0, le-leb (b.start + b.len) (length (s ++ t)) (omega (arith, h.1, longer))) in
          kept_there longest_name (s ++ t) b f ∙ inside-same b.len b.start h.1 ∙ sym (kept_there longest_name s b e)
      go false e = absurd (let h = name-there (kept longest_name s b) k in let z : length (kept longest_name s b) ≡ 0 = ap length (kept-none longest_name s b e) in omega arith)

  host-same : (h : HostSpan) → AltHeard s h → host_name (s ++ t) h ≡ host_name s h
  host-same Absent k = refl
  host-same (Named b) k = ap name_in (kept_same b k)
  host-same (V4 x) k = refl
  host-same (V6 x y) k = refl

  origin-same : (h : HostSpan) → OriginHeard s h → host_name (s ++ t) h ≡ host_name s h
  origin-same Absent k = refl
  origin-same (Named b) k = ap name_in (kept_same b k.0)
  origin-same (V4 x) k = refl
  origin-same (V6 x y) k = refl

  name-same : (a : AltSpan) → AltHeard s a.host → alt_name (s ++ t) a ≡ alt_name s a
  unfolding alt_name
  name-same a k = host-same a.host k

  heard-same : (c : Setup) → SetupHeard s c → configured_in (s ++ t) c ≡ configured_in s c
  unfolding configured_in configured_by
  heard-same c k =
      rw (
        listed_same (alt s) (alt (s ++ t)) alt-stays 4 c.alts k.end k.row,
        origin-same c.origin k.origin,
        all_same (λ a. AltHeard s a.host) (alt_name (s ++ t)) (alt_name s) name-same (listed 4 (alt s) c.alts) k.alts,
      ) refl

  pub rooms-longer : (c : Setup) (end : ℕ) → read c end ≡ fields_at s → configured_in (s ++ t) c ≡ configured_in s c
  rooms-longer c end e = heard-same c (fields-heard s c end e)

  -- with what an edition adds behind it, the body is read in that edition: what is added begins where it ended, the rest says what it said
  pub later-edition : {A : Type 0} (added : List ℕ → Setup → ℕ → Reading A) (c : Setup) (end : ℕ) → read c end ≡ setup_at s → {v : A} {last : ℕ} → read v last ≡ added (s ++ t) c (length s)
      → length (s ++ t) ≤ last → (read v last ≡ edition_at added (s ++ t)) × (configured_in (s ++ t) c ≡ configured_in s c)
  unfolding setup_at
  later-edition added c end e own h =
      let a = edition-read none_added s e in
      let f : read c end ≡ fields_at s = a.own ∙ a.shared in
      (ends added (s ++ t) (ap (read c) (sym (read_whole s c end e)) ∙ fields-longer c end f) own h, rooms-longer c end f)

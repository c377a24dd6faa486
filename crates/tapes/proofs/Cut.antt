-- A tape that is cut where an event ends: the claim Cut of specs/Claims.antt.
use Prim.Native.Nat.{ℕ, zero, suc, ◌+◌, ◌≤◌, ◌<◌}
use mathlib.Core.Path.{◌≡◌, refl, sym, ap, subst, ◌∙◌}
use mathlib.Core.Bool.{Bool, true, false, cond}
use mathlib.Core.Logic.{⊎_elim}
use mathlib.Core.List.{List, [], ◌∷◌, ◌++◌, map, append-nil, Memᴰ}
use native.Mathlib.Omega.{arith}
use lib.Dec.{ltb as nat_lt}
use lib.ListN.{length, take, drop, length-append, take-append-drop}
use lib.Seq.{length-take-le, take-append_seam}
use borrow.Author.Tests.{lt-leb, le-leb, le-ltb}
use Rattle.numbers.specs.Fields.{span_bytes}
use Rattle.numbers.specs.Got.{Got, got, refused, and_then}
use Rattle.numbers.specs.declared.field.Span.{Span}
use Rattle.numbers.proofs.Cases.{less-or-not}
use Rattle.parts.proofs.Steps.{got-then}
use Rattle.configuration.specs.Configuration.{setup_at}
use Rattle.replay.specs.Frames.{body_at, frame_at}
use Rattle.replay.specs.declared.frames.Frame.{Frame}
use Rattle.replay.proofs.Framed.{frame-lies}
use Rattle.tapes.specs.Events.{either, Given, on_setup, given_of, Event, place_of, event_of, events_from, Stop, stop_at, stop_from, frames_of, events_of, stop_of, before, ends, moved}
use Rattle.tapes.specs.Claims.{Cut}
use Rattle.tapes.proofs.Reading.{body_back, body_same, frame_back}
use Rattle.tapes.proofs.Plays.{opened-events, opened-stop}
use Rattle.tapes.proofs.Places.{Rises, rises-end, rises-from, among, before-all, setup-place}
use Rattle.tapes.proofs.Checked as checked
use Rattle.tapes.proofs.Joined.{joined}

-- places where events begin, and where they end
abbrev Among : ℕ → List Event → Stop → Type 0
Among p l s = Memᴰ p (map place_of l ++ (s.place ∷ []))

among-all : (p first : ℕ) (l : List Event) (s : Stop) → Rises first l s.place → Among p l s → (first ≤ p) × (p ≤ s.place)
among-all p first l s r m =
    ⊎_elim (λ (x : Memᴰ p (map place_of l)). let a = among l first s.place r x in (a.0, omega (arith, a.1)))
    (λ (x : Memᴰ p (s.place ∷ [])). let i = mathlib.Core.List.Memᴰ.eq_of_singleton x in (omega (arith, i, rises-end first l s.place r), omega (arith, i)))
    (mathlib.Core.List.Memᴰ.append_cases (map place_of l) m)

module _ (a s : List ℕ) where
  abbrev both : List ℕ
  both = a ++ s

  -- the front ends without fault if it ends where an event of both does
  Sound : (j k at : ℕ) → Type 0
  Sound j k at = Among (length a) (events_from k both at) (stop_from k both at) → (stop_from j a at).number ≡ 0

  sound-here : (j at : ℕ) → length a ≤ at → (stop_from j a at).number ≡ 0
  unfolding stop_from
  sound-here zero at h = refl
  sound-here (suc j) at h = rw (le-leb (length a) at h)

  sound-by : (j k at : ℕ) → at < length a → ((next : ℕ) → at < next → next ≤ length a → Sound j k next) → (r : Got Frame) → r ≡ frame_at both at
      → Among (length a) (either r (λ n. []) (λ f next. event_of both at f ∷ events_from k both next)) (either r (λ n. stop_at n at) (λ f next. stop_from k both next))
      → (either (frame_at a at) (λ n. stop_at n at) (λ f next. stop_from j a next)).number ≡ 0
  unfolding Sound
  sound-by j k at h ih (refused n) e m = absurd (let i = mathlib.Core.List.Memᴰ.eq_of_singleton m in omega (arith, i, h))
  sound-by j k at h ih (got f next) e m =
      ⊎_elim (λ (i : length a ≡ at). absurd (omega (arith, i, h)))
      (λ (x : Among (length a) (events_from k both next) (stop_from k both next)).
      let l = among-all (length a) next (events_from k both next) (stop_from k both next) (rises-from both k next) x in
      let i = frame_back a s at (omega arith) e l.0 in
      rw (i ∙ sym e) (ih next (frame-lies both at f next e).before l.0 x))
      (mathlib.Core.List.Memᴰ.cases_cons m)

  sound : (j k at : ℕ) → at ≤ length a → length a ≤ at + j → length both ≤ at + k → Sound j k at
  unfolding Sound events_from stop_from
  sound zero k at h i e m = refl
  sound (suc j) zero at h i e m = sound-here (suc j) at (omega (arith, e, length-append a s))
  sound (suc j) (suc k) at h i e m =
      ⊎_elim
      (λ (l : at < length a).
      let b = lt-leb (length both) at (omega (arith, length-append a s, l)) in
      rw (lt-leb (length a) at l)
      (sound-by j k at l (λ next x y. sound j k next y (omega (arith, x, i)) (omega (arith, x, e))) (frame_at both at) refl (rw b at m)))
      (λ (l : length a ≤ at). sound-here (suc j) at l) (less-or-not at (length a))

  -- and so does the configuration
  given_by_lem : (r q : Got Span) → r ≡ q → ((b : Span) (next : ℕ) → got b next ≡ q → span_bytes both b ≡ span_bytes a b)
      → and_then q (λ b next. on_setup (span_bytes a b) next (setup_at (span_bytes a b))) ≡ and_then r (λ b next. on_setup (span_bytes both b) next (setup_at (span_bytes both b)))
  given_by_lem r (got b next) e h = rw (e, h b next refl)
  given_by_lem r (refused n) e h = rw e

  given_back : {g : Given} {first : ℕ} → got g first ≡ given_of both → first ≤ length a → got g first ≡ given_of a
  unfolding given_of
  given_back {g} {first} e h =
      let t = got-then (body_at both 0) (λ b next. on_setup (span_bytes both b) next (setup_at (span_bytes both b))) e in
      let f = setup-place both (span_bytes both t.value) t.place (setup_at (span_bytes both t.value)) t.rest in
      let i = body_back a s 0 (omega arith) t.first (omega (arith, f, h)) in
      e ∙ sym (given_by_lem (body_at both 0) (body_at a 0) (sym i) (λ b next x. (body_same a s 0 (omega arith) x).1))

  -- the whole front
  module _ {g : Given} {first : ℕ} (e : got g first ≡ given_of both) (m : Among (length a) (events_of both) (stop_of both)) where
    first-inside : first ≤ length a
    first-inside = (among-all (length a) first (events_of both) (stop_of both) (checked.rises both e) m).0

    front-sound : (stop_of a).number ≡ 0
    unfolding Sound
    front-sound =
        let i = given_back e first-inside in
        rw (opened-stop a i)
        (sound (length a) (length both) first first-inside (omega arith) (omega arith) (rw (opened-events both e, opened-stop both e) at m))

-- those before a place
before-join : (p : ℕ) (l k : List Event) → before p (l ++ k) ≡ before p l ++ before p k
unfolding before
before-join p [] k = refl
before-join p (e ∷ l) k = by (nat_lt e.place p) (before-join p l k)
  where
    by : (t : Bool) → before p (l ++ k) ≡ before p l ++ before p k → cond t (e ∷ before p (l ++ k)) (before p (l ++ k)) ≡ cond t (e ∷ before p l) (before p l) ++ before p k
    by true h = ap (λ (x : List Event). e ∷ x) h
    by false h = h

before-moved : (p : ℕ) (l : List Event) → before p (map (moved p) l) ≡ []
unfolding before
before-moved p [] = refl
before-moved p (e ∷ l) = rw (le-ltb (p + e.place) p (omega arith), before-moved p l)

stop_is : (s : Stop) {n p : ℕ} → s.number ≡ n → s.place ≡ p → s ≡ stop_at n p
stop_is s {n} e f = ap (λ x. stop_at x s.place) e ∙ ap (stop_at n) f

module _ (a s : List ℕ) {g : Given} {first : ℕ} (e : got g first ≡ given_of (a ++ s)) (m : Among (length a) (events_of (a ++ s)) (stop_of (a ++ s))) where
  front : got g first ≡ given_of a
  front = given_back a s e (first-inside a s e m)

  front-stop : stop_of a ≡ stop_at 0 (length a)
  front-stop = let z = front-sound a s e m in stop_is (stop_of a) z ((checked.ends a front).whole z)

  front-events : events_of a ≡ before (length a) (events_of (a ++ s))
  front-events =
      let r : Rises first (events_of a) (length a) = rw front-stop at (checked.rises a front) in
      rw ((joined a s (front-sound a s e m)).events, before-join (length a) (events_of a) (map (moved (length a)) (frames_of s)), before-moved (length a) (frames_of s), before-all first (events_of a) (length a) r)
      (sym (append-nil (events_of a)))

  front_cut : Cut (a ++ s) (length a)
  front_cut =
      let t = take-append_seam a s in
      record {
        stop = rw t front-stop;
        events = rw t front-events;
        bytes = rw t (joined a s (front-sound a s e m)).bytes;
      }

-- of every tape
module _ (tape : List ℕ) (p : ℕ) where
  cut_by : (r : Got Given) → r ≡ given_of tape → Memᴰ p (either r (λ n. []) (λ g first. map place_of (events_of tape) ++ ((stop_of tape).place ∷ []))) → Cut tape p
  cut_by (refused n) e m = absurd (mathlib.Core.List.Memᴰ.not-nil m)
  cut_by (got g first) e m =
      let t = take-append-drop p tape in
      let h = (among-all p first (events_of tape) (stop_of tape) (checked.rises tape e) m).1 in
      let l : length (take p tape) ≡ p = length-take-le p tape (omega (arith, h, (checked.ends tape e).inside)) in
      subst (λ x. Cut x p) t
      (subst (Cut (take p tape ++ drop p tape)) l
      (front_cut (take p tape) (drop p tape) (e ∙ ap given_of (sym t)) (subst (λ x. Among (length (take p tape)) (events_of x) (stop_of x)) (sym t) (rw l m))))

  pub cut : Memᴰ p (ends tape) → Cut tape p
  unfolding ends
  cut m = cut_by (given_of tape) refl m

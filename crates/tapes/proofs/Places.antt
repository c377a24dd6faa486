-- Where events begin and where they end.
--     Rises, rises-from      each begins behind the one before, which takes two bytes and its body, and all before the end
--     before-all, before-none
--     Ends, ends-from        the end is the tape's, or a frame's that is refused by 1 to 3
--     follow-from            each is read where the one before ends
--     Way, way               a run over events stops where they end, or at one of them for want of room
use Prim.Native.Nat.{ℕ, zero, suc, ◌+◌, ◌≤◌, ◌<◌}
use mathlib.Core.Path.{◌≡◌, refl}
use mathlib.Core.Bool.{Bool, true, false, cond}
use mathlib.Core.List.{List, [], ◌∷◌, map, Memᴰ}
use mathlib.Core.Logic.{inl, inr, ⊎_elim}
use native.Mathlib.Omega.{arith}
use lib.Dec.{leb as nat_le}
use lib.ListN.{length}
use borrow.Author.Tests.{leb-true, leb-false, lt-ltb, le-ltb}
use Rattle.numbers.specs.Got.{Got, got, refused}
use Rattle.numbers.specs.Refusals.{no_room}
use Rattle.state.specs.declared.Machine.{Machine}
use Rattle.answers.specs.Answers.{answer_bytes}
use Rattle.parts.specs.Reading.{Reading, read, fault}
use Rattle.configuration.specs.Configuration.{setup_at}
use Rattle.configuration.specs.declared.Setup.{Setup}
use Rattle.replay.specs.Frames.{body_at, frame_at}
use Rattle.replay.specs.declared.frames.Frame.{Frame}
use Rattle.replay.specs.Replay.{Step, Run, step_of, ended, ahead}
use Rattle.replay.proofs.Framed.{body-lies, frame-lies, then-got}
use Rattle.numbers.specs.Fields.{span_bytes}
use Rattle.tapes.specs.Events.{either, Given, on_setup, given_of, Event, event_of, place_of, events_from, Stop, stop_at, stop_from, Follow, before}
use Rattle.tapes.proofs.Numbers.{Few, frame-few}
use Rattle.tapes.proofs.Reading.{frame-size}
use Rattle.tapes.proofs.Plays.{plays}

-- what an event takes at least: its moment, its length, its body
abbrev pub size : Event → ℕ
size e = 2 + length e.body

-- the first not before p
unfoldable pub Rises : (p : ℕ) → List Event → (end : ℕ) → Type 0
Rises p [] end = p ≤ end
Rises p (e ∷ l) end = (p ≤ e.place) × Rises (e.place + size e) l end

pub rises-down : (p q : ℕ) (l : List Event) (end : ℕ) → p ≤ q → Rises q l end → Rises p l end
unfolding Rises
rises-down p q [] end h r = omega arith
rises-down p q (e ∷ l) end h r = (omega (arith, r.0), r.1)

pub rises-end : (p : ℕ) (l : List Event) (end : ℕ) → Rises p l end → p ≤ end
unfolding Rises
rises-end p [] end r = r
rises-end p (e ∷ l) end r = omega (arith, r.0, rises-end (e.place + size e) l end r.1)

pub before-all : (p : ℕ) (l : List Event) (end : ℕ) → Rises p l end → before end l ≡ l
unfolding Rises before
before-all p [] end r = refl
before-all p (e ∷ l) end r = rw (lt-ltb e.place end (omega (arith, rises-end (e.place + size e) l end r.1)), before-all (e.place + size e) l end r.1)

pub before-none : (p : ℕ) (l : List Event) (q end : ℕ) → q ≤ p → Rises p l end → before q l ≡ []
unfolding Rises before
before-none p [] q end h r = refl
before-none p (e ∷ l) q end h r = rw (le-ltb e.place q (omega (arith, r.0, h)), before-none (e.place + size e) l q end (omega (arith, r.0, h)) r.1)

-- each lies before the end
pub among : (l : List Event) (p end : ℕ) → Rises p l end → {q : ℕ} → Memᴰ q (map place_of l) → (p ≤ q) × (q < end)
unfolding Rises
among [] p end r m = absurd (mathlib.Core.List.Memᴰ.not-nil m)
among (e ∷ l) p end r {q} m =
    ⊎_elim (λ (i : q ≡ e.place). (omega (arith, i, r.0), omega (arith, i, rises-end (e.place + size e) l end r.1)))
    (λ (i : Memᴰ q (map place_of l)). let a = among l (e.place + size e) end r.1 i in (omega (arith, a.0, r.0), a.1))
    (mathlib.Core.List.Memᴰ.cases_cons m)

-- how the events end
pub record Ends (tape : List ℕ) (s : Stop) : Type 0 where
  pub few : s.number ≤ 3
  pub whole : s.number ≡ 0 → s.place ≡ length tape
  pub inside : s.place ≤ length tape

module _ (tape : List ℕ) where
  rises_by : (k at : ℕ) → ((next : ℕ) → Rises next (events_from k tape next) (stop_from k tape next).place) → (t : Bool) (r : Got Frame) → r ≡ frame_at tape at
      → Rises at (cond t [] (either r (λ n. []) (λ f next. event_of tape at f ∷ events_from k tape next))) (cond t (stop_at 0 at) (either r (λ n. stop_at n at) (λ f next. stop_from k tape next))).place
  unfolding Rises
  rises_by k at ih true r e = omega arith
  rises_by k at ih false (refused n) e = omega arith
  rises_by k at ih false (got f next) e =
      (omega arith, rises-down (at + size (event_of tape at f)) next (events_from k tape next) (stop_from k tape next).place (frame-size tape at e) (ih next))

  pub rises-from : (k at : ℕ) → Rises at (events_from k tape at) (stop_from k tape at).place
  unfolding Rises events_from stop_from
  rises-from zero at = omega arith
  rises-from (suc k) at = rises_by k at (λ next. rises-from k next) (nat_le (length tape) at) (frame_at tape at) refl

  ends_by : (k at : ℕ) → at ≤ length tape → length tape ≤ at + suc k → ((next : ℕ) → next ≤ length tape → length tape ≤ next + k → Ends tape (stop_from k tape next))
      → (t : Bool) → nat_le (length tape) at ≡ t → (r : Got Frame) → r ≡ frame_at tape at → Few 3 r
      → Ends tape (cond t (stop_at 0 at) (either r (λ n. stop_at n at) (λ f next. stop_from k tape next)))
  ends_by k at h i ih true b r e w = record { few = omega arith; whole = λ z. omega (arith, leb-true (length tape) at b, h); inside = h }
  ends_by k at h i ih false b (refused n) e w = record { few = w.1; whole = λ z. absurd (omega (arith, z, w.0)); inside = h }
  ends_by k at h i ih false b (got f next) e w = let x = frame-lies tape at f next e in ih next x.inside (omega (arith, x.before, i))

  pub ends-from : (k at : ℕ) → at ≤ length tape → length tape ≤ at + k → Ends tape (stop_from k tape at)
  unfolding stop_from
  ends-from zero at h i = record { few = omega arith; whole = λ z. omega arith; inside = h }
  ends-from (suc k) at h i = ends_by k at h i (λ next a b. ends-from k next a b) (nat_le (length tape) at) refl (frame_at tape at) refl (frame-few tape at)

  -- the first event lies behind a byte at least, and in the tape
  pub setup-place : (body : List ℕ) (next : ℕ) (r : Reading Setup) {g : Given} {first : ℕ} → got g first ≡ on_setup body next r → first ≡ next
  setup-place body next (read c end) e = cc
  setup-place body next (fault n p) e = absurd (let z : ◌≡◌ {A = ℕ} 0 1 = cc in omega arith)

  pub first-lies : {g : Given} {first : ℕ} → got g first ≡ given_of tape → (0 < first) × (first ≤ length tape)
  unfolding given_of
  first-lies {g} {first} e =
      let t = then-got (body_at tape 0) (λ b next. on_setup (span_bytes tape b) next (setup_at (span_bytes tape b))) g first e in
      let l = body-lies tape 0 t.value t.place t.first in
      let f = setup-place (span_bytes tape t.value) t.place (setup_at (span_bytes tape t.value)) t.rest in
      (omega (arith, l.before, f), omega (arith, l.inside, f))

-- the bound on how many they are is never met
module _ (tape : List ℕ) where
  follow-by : (k at : ℕ) → at ≤ length tape → ((f : Frame) (next : ℕ) → got f next ≡ frame_at tape at → Follow tape next (events_from k tape next) (stop_from k tape next))
      → (t : Bool) → nat_le (length tape) at ≡ t → (r : Got Frame) → r ≡ frame_at tape at
      → Follow tape at (cond t [] (either r (λ n. []) (λ f next. event_of tape at f ∷ events_from k tape next))) (cond t (stop_at 0 at) (either r (λ n. stop_at n at) (λ f next. stop_from k tape next)))
  unfolding Follow
  follow-by k at h ih true b r e = inl (refl, omega (arith, leb-true (length tape) at b, h))
  follow-by k at h ih false b (refused n) e = inr (refl, e, leb-false (length tape) at b)
  follow-by k at h ih false b (got f next) e = (f, next, e, refl, ih f next e)

  pub follow-from : (k at : ℕ) → at ≤ length tape → length tape ≤ at + k → Follow tape at (events_from k tape at) (stop_from k tape at)
  unfolding Follow events_from stop_from
  follow-from zero at h i = inl (refl, omega arith)
  follow-from (suc k) at h i =
      follow-by k at h (λ f next e. let l = frame-lies tape at f next e in follow-from k next l.inside (omega (arith, l.before, i))) (nat_le (length tape) at) refl (frame_at tape at) refl

-- how a run goes over events
pub data Way (l : List Event) (s : Stop) (r : Run) : Type 0 where
  at-end : r.status ≡ s.number → r.place ≡ s.place → Way l s r
  no_room_lem : r.status ≡ no_room → Memᴰ r.place (map place_of l) → Way l s r

module _ (s : Stop) (room : ℕ) where
  later : (e : Event) (l : List Event) (x : Step) (t : Bool) (rest : Run) → Way l s rest → Way (e ∷ l) s (cond t (ahead x rest) (ended no_room e.place))
  later e l x true rest (at-end a b) = at-end a b
  later e l x true rest (no_room_lem a b) = no_room_lem a (mathlib.Core.List.Memᴰ.tail b)
  later e l x false rest w = no_room_lem refl (mathlib.Core.List.Memᴰ.head refl)

  pub way : (l : List Event) (w : ℕ) (m : Machine) → Way l s (plays l s w room m)
  unfolding plays
  way [] w m = at-end refl refl
  way (e ∷ l) w m =
      let x = step_of m e.moment e.body in
      later e l x (nat_le (w + length (answer_bytes x.said)) room) (plays l s (w + length (answer_bytes x.said)) room x.machine) (way l (w + length (answer_bytes x.said)) x.machine)

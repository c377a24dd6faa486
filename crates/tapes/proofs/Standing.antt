-- Every configuration and every input that is read of a tape of bytes is in form, so the standing rules hold of its machine all the time.
use Prim.Native.Nat.{ℕ, zero, suc, ◌<◌}
use mathlib.Core.Path.{◌≡◌, refl, subst}
use mathlib.Core.Bool.{Bool, true, false, cond}
use mathlib.Core.List.{List, [], ◌∷◌}
use native.Mathlib.Omega.{arith}
use lib.Dec.{leb as nat_le, ltb as nat_lt}
use lib.ListN.{length, get_or, take, drop}
use Rattle.numbers.specs.Fields.{span_bytes}
use Rattle.numbers.specs.Got.{Got, got, refused}
use Rattle.state.specs.declared.Machine.{Machine}
use Rattle.standing.specs.Standing.{standing}
use Rattle.standing.proofs.Parts.{Standing, stands, parts}
use Rattle.standing.proofs.Outputs.{output-stands}
use Rattle.standing.proofs.Inputs.{input-stands}
use Rattle.parts.specs.Reading.{Reading, read, fault}
use Rattle.parts.proofs.Steps.{got-then}
use Rattle.bodies.specs.Told.{Told, call, fed, read_body}
use Rattle.configuration.specs.Configuration.{setup_at}
use Rattle.configuration.specs.declared.Setup.{Setup}
use Rattle.written.proofs.Sound.{body-sound}
use Rattle.written.proofs.SetupSound.{setup-stands}
use Rattle.history.specs.Edition.{All}
use Rattle.replay.specs.Frames.{body_at, frame_at}
use Rattle.replay.specs.declared.frames.Frame.{Frame}
use Rattle.replay.specs.Replay.{step_by, step_of}
use Rattle.tapes.specs.Events.{either, Given, given_by, on_setup, given_of, Event, event_of, events_from, events_of, before}
use Rattle.tapes.specs.Answered.{after, made_of}
use Rattle.tapes.proofs.Plays.{opened-events}

-- bytes
abbrev Bytes : List ℕ → Type 0
Bytes s = (i : ℕ) → get_or s i 0 < 256

bytes_take : (n : ℕ) (s : List ℕ) → Bytes s → Bytes (take n s)
bytes_take zero s h i = omega arith
bytes_take (suc n) [] h i = omega arith
bytes_take (suc n) (x ∷ s) h zero = h 0
bytes_take (suc n) (x ∷ s) h (suc i) = bytes_take n s (λ j. h (suc j)) i

bytes_drop : (n : ℕ) (s : List ℕ) → Bytes s → Bytes (drop n s)
bytes_drop zero s h i = h i
bytes_drop (suc n) [] h i = omega arith
bytes_drop (suc n) (x ∷ s) h i = bytes_drop n s (λ j. h (suc j)) i

-- the bodies of a tape's events are of bytes
abbrev Plain : Event → Type 0
Plain e = Bytes e.body

module _ (tape : List ℕ) (h : Bytes tape) where
  plain_by : (k at : ℕ) → ((next : ℕ) → All Plain (events_from k tape next)) → (t : Bool) (r : Got Frame)
      → All Plain (cond t [] (either r (λ n. []) (λ f next. event_of tape at f ∷ events_from k tape next)))
  unfolding All
  plain_by k at ih true r = tt
  plain_by k at ih false (refused n) = tt
  plain_by k at ih false (got f next) = (bytes_take f.body.len (drop f.body.start tape) (bytes_drop f.body.start tape h), ih next)

  plain-from : (k at : ℕ) → All Plain (events_from k tape at)
  unfolding All events_from
  plain-from zero at = tt
  plain-from (suc k) at = plain_by k at (λ next. plain-from k next) (nat_le (length tape) at) (frame_at tape at)

plain-before : (p : ℕ) (l : List Event) → All Plain l → All Plain (before p l)
unfolding All before
plain-before p [] h = tt
plain-before p (e ∷ l) h = by (nat_lt e.place p) (plain-before p l h.1)
  where
    by : (t : Bool) → All Plain (before p l) → All Plain (cond t (e ∷ before p l) (before p l))
    by true k = (h.0, k)
    by false k = k

-- a step
step_by_lem : (m : Machine) (now : ℕ) (s : List ℕ) → Bytes s → Standing m → (r : Reading Told) → r ≡ read_body s → Standing (step_by m now r).machine
step_by_lem m now s b h (read call end) e = output-stands m now h
step_by_lem m now s b h (read (fed i x) end) e = input-stands m now i x h (body-sound s b i x end e)
step_by_lem m now s b h (fault n p) e = h

all-stand : (l : List Event) (m : Machine) → All Plain l → Standing m → Standing (after m l)
unfolding after step_of All
all-stand [] m b h = h
all-stand (e ∷ l) m b h =
    all-stand l (step_by m e.moment (read_body e.body)).machine b.1 (step_by_lem m e.moment e.body b.0 h (read_body e.body) refl)

-- the configuration
given_by_lem : (s : List ℕ) (next : ℕ) (r : Reading Setup) → r ≡ setup_at s → {g : Given} {first : ℕ} → got g first ≡ on_setup s next r → standing (made_of g) ≡ true
given_by_lem s next (read c end) i {g} e = let x : given_by s c ≡ g = cc in subst (λ g. standing (made_of g) ≡ true) x (setup-stands s c end i)
given_by_lem s next (fault n p) i e = absurd (let z : ◌≡◌ {A = ℕ} 0 1 = cc in omega arith)

given-stands : (tape : List ℕ) {g : Given} {first : ℕ} → got g first ≡ given_of tape → standing (made_of g) ≡ true
unfolding given_of
given-stands tape e =
    let t = got-then (body_at tape 0) (λ b next. on_setup (span_bytes tape b) next (setup_at (span_bytes tape b))) e in
    given_by_lem (span_bytes tape t.value) t.place (setup_at (span_bytes tape t.value)) refl t.rest

pub tape-stands : (tape : List ℕ) → Bytes tape → {g : Given} {first : ℕ} → got g first ≡ given_of tape → (p : ℕ) → standing (after (made_of g) (before p (events_of tape))) ≡ true
tape-stands tape b {g} {first} e p =
    let all : All Plain (events_of tape) = rw (opened-events tape e) (plain-from tape b (length tape) first) in
    stands (all-stand (before p (events_of tape)) (made_of g) (plain-before p (events_of tape) all) (parts (made_of g) (given-stands tape e)))

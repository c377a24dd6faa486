-- What becomes of a body, by what was read of it: a fault, an event, and among these an input.
use Prim.Native.Nat.{ℕ}
use mathlib.Core.Path.{◌≡◌, refl}
use mathlib.Core.List.{List, [], ◌∷◌}
use types.Run.{OneOf, miss}
use denote.Enum.Declared.{tag_of}
use Rattle.state.specs.declared.Machine.{Machine}
use Rattle.machine.specs.Steps.{input_step}
use Rattle.parts.specs.Reading.{read, fault}
use Rattle.bodies.specs.Events.{event_at}
use Rattle.bodies.specs.Told.{input_of, beside_of, told_by, read_body}
use Rattle.bodies.specs.declared.Event.{Event}
use Rattle.bodies.specs.declared.Event.TheVariants as event
use Rattle.bodies.specs.contracts.Event as E
use Rattle.live.specs.Live.{refused_with, taken, fed_with, fed_of}

module _ (m : Machine) (now : ℕ) (body : List ℕ) where
  pub fed-fault : {n p : ℕ} → fault n p ≡ event_at body → refused_with m n ≡ fed_of m now body
  unfolding fed_of read_body
  fed-fault e = rw (← e)

  pub fed-event : {e : Event} {end : ℕ} → read e end ≡ event_at body → fed_with m now (told_by body e) ≡ fed_of m now body
  unfolding fed_of read_body
  fed-event e = rw (← e)

  -- the variants of `Event` but the first, which is the call
  abbrev inputs : List ℕ
  inputs = 1 ∷ 2 ∷ 3 ∷ 4 ∷ 5 ∷ []

  -- `input_fed` and `event_fed` (src/lib.rt) need no law now; this one is kept as it was
  pub fed-input : (e : Event) → OneOf inputs (tag_of E.the_type e) → taken (input_step m now (input_of e) (beside_of body e)) ≡ fed_with m now (told_by body e)
  fed-input event.Call k = absurd (miss inputs 0 tt k)
  fed-input (event.Fails t id stale) k = refl
  fed-input (event.Holds t id stale l) k = refl
  fed-input (event.Success id) k = refl
  fed-input (event.Failure id) k = refl
  fed-input (event.EchRetry id b) k = refl

-- Fed live, an event is a step of replay: the machine after it is the same, and so are the bytes of its answer.
--     input-step       a body that isn't a call, fed: replay answers it with its number
--     call-refused     a call's body, fed, is refused with 3 and changes nothing
--     call_step_lem, call_fits, call-full      a call: replay's step where its answer fits, else 13 and no step
use Prim.Native.Nat.{ℕ, ◌≤◌, ◌<◌}
use mathlib.Core.Path.{◌≡◌, refl, sym}
use mathlib.Core.Bool.{true, false, false≢true}
use mathlib.Core.List.{List}
use lib.ListN.{length}
use borrow.Author.Tests.{le-leb, lt-leb}
use Rattle.numbers.specs.Refusals.{out_of_range}
use Rattle.std.specs.Prelude.{Ok, Err}
use Rattle.numbers.specs.declared.refusal.Refusal.TheVariants.{NoRoom}
use Rattle.state.specs.declared.Machine.{Machine}
use Rattle.parts.specs.Reading.{Reading, read, fault}
use Rattle.bodies.specs.Told.{Told, call, fed, read_body}
use Rattle.answers.specs.Answers.{answer_bytes}
use Rattle.replay.specs.Replay.{step_by, step_of}
use Rattle.live.specs.Live.{refused_with, fed_by, fed_of, called_bytes, called_of, is_call, fed_step, call_step}

input-by : (m : Machine) (now : ℕ) (r : Reading Told) → is_call r ≡ false → step_by m now r ≡ fed_step (fed_by m now r)
input-by m now (read call end) h = absurd (false≢true (sym h))
input-by m now (read (fed i b) end) h = refl
input-by m now (fault n p) h = refl

call_by : (m : Machine) (now : ℕ) (r : Reading Told) → is_call r ≡ true → step_by m now r ≡ call_step m now
call_by m now (read call end) h = refl
call_by m now (read (fed i b) end) h = absurd (false≢true h)
call_by m now (fault n p) h = absurd (false≢true h)

refused-by : (m : Machine) (now : ℕ) (r : Reading Told) → is_call r ≡ true → fed_by m now r ≡ refused_with m out_of_range
refused-by m now (read call end) h = refl
refused-by m now (read (fed i b) end) h = absurd (false≢true h)
refused-by m now (fault n p) h = absurd (false≢true h)

module _ (m : Machine) (now : ℕ) (body : List ℕ) where
  pub input-step : is_call (read_body body) ≡ false → step_of m now body ≡ fed_step (fed_of m now body)
  unfolding step_of fed_of
  input-step h = input-by m now (read_body body) h

  pub call-refused : is_call (read_body body) ≡ true → fed_of m now body ≡ refused_with m out_of_range
  unfolding fed_of
  call-refused h = refused-by m now (read_body body) h

  pub call_step_lem : is_call (read_body body) ≡ true → step_of m now body ≡ call_step m now
  unfolding step_of
  call_step_lem h = call_by m now (read_body body) h

-- the answer of a call is the bytes of what replay says
module _ (m : Machine) (now room : ℕ) where
  pub call_fits : length (answer_bytes (call_step m now).said) ≤ room → called_of m now room ≡ record { wrote = Ok (length (answer_bytes (call_step m now).said)); machine = (call_step m now).machine }
  unfolding called_of called_bytes
  call_fits h = rw (le-leb _ _ h)

  pub call-full : room < length (answer_bytes (call_step m now).said) → called_of m now room ≡ record { wrote = Err NoRoom; machine = m }
  unfolding called_of called_bytes
  call-full h = rw (lt-leb _ _ h)

pub call-bytes : (m : Machine) (now : ℕ) → called_bytes m now ≡ answer_bytes (call_step m now).said
unfolding called_bytes
call-bytes m now = refl

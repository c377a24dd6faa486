-- The live calls (rules 7.1 and F.8): what a body that is fed, and a call, leave and answer. Replay's events are these
-- (proofs/Replayed.antt).
use Rattle.std.specs.Prelude.{ℕ, Bool, true, false, cond, List, nat_le, length, Ok, Err}
use Rattle.numbers.specs.Refusals.{out_of_range}
use Rattle.numbers.specs.declared.refusal.Refusal.TheVariants.{NoRoom}
use Rattle.state.specs.declared.Machine.{Machine}
use Rattle.machine.specs.declared.calls.InputStep.{InputStep}
use Rattle.machine.specs.Steps.{output_step, input_step}
use Rattle.parts.specs.Reading.{Reading, read, fault}
use Rattle.bodies.specs.Told.{Told, call, fed, read_body}
use Rattle.answers.specs.Answers.{input, answer_bytes}
use Rattle.answers.specs.Outputs.{said_of, taken_number}
use Rattle.replay.specs.Replay.{Step}
use Rattle.live.specs.declared.Fed.{Fed}
use Rattle.live.specs.declared.Called as live

-- "A refusal 1 to 12 changes nothing in the machine"
abbrev pub refused_with : Machine → (number : ℕ) → Fed
refused_with m n = record { number = n; machine = m }

abbrev pub taken : InputStep → Fed
taken s = record { number = taken_number s.taken; machine = s.machine }

-- what a body tells: an input is taken or refused; a call is no input
abbrev pub fed_with : Machine → (now : ℕ) → Told → Fed
fed_with m now call = refused_with m out_of_range
fed_with m now (fed i b) = taken (input_step m now i b)

abbrev pub fed_by : Machine → (now : ℕ) → Reading Told → Fed
fed_by m now (read t end) = fed_with m now t
fed_by m now (fault n p) = refused_with m n

-- a body of any length, fed at a moment
unfoldable pub fed_of : Machine → (now : ℕ) → (body : List ℕ) → Fed
fed_of m now body = fed_by m now (read_body body)

-- the bytes of a call's answer
unfoldable pub called_bytes : Machine → (now : ℕ) → List ℕ
called_bytes m now = answer_bytes (said_of m.names m.echs (output_step m now).output)

-- a call that is answered in a buffer of `room` bytes; where the answer doesn't fit it is 13, and no call was made
unfoldable pub called_of : Machine → (now room : ℕ) → live.Called
called_of m now room =
    cond (nat_le (length (called_bytes m now)) room) (record { wrote = Ok (length (called_bytes m now)); machine = (output_step m now).machine }) (record { wrote = Err NoRoom; machine = m })

-- Beside replay: whether a body is the call's, and the step of a tape that is made by feeding a body, and by a call

abbrev pub is_call : Reading Told → Bool
is_call (read call end) = true
is_call (read (fed i b) end) = false
is_call (fault n p) = false

abbrev pub fed_step : Fed → Step
fed_step f = record { machine = f.machine; said = input f.number; calls = 0 }

abbrev pub call_step : Machine → (now : ℕ) → Step
call_step m now = record { machine = (output_step m now).machine; said = said_of m.names m.echs (output_step m now).output; calls = 1 }

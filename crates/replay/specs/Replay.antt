-- Replay (rules 8.2 to 8.6): the machine's two calls, event after event, and what is written for them.
use Rattle.std.specs.Prelude.{ℕ, zero, suc, ◌+◌, ◌≡◌, cond, List, [], ◌++◌, nat_le, length}
use Rattle.numbers.specs.Fields.{span_bytes}
use Rattle.numbers.specs.Got.{Got, got, refused}
use Rattle.numbers.specs.Refusals.{no_room}
use Rattle.numbers.specs.declared.field.Span.{Span}
use Rattle.state.specs.State.{made}
use Rattle.state.specs.declared.Machine.{Machine}
use Rattle.machine.specs.Steps.{output_step, input_step}
use Rattle.parts.specs.Reading.{Reading, read, fault}
use Rattle.bodies.specs.Told.{Told, call, fed, read_body}
use Rattle.answers.specs.Answers.{Said, input, answer_bytes}
use Rattle.answers.specs.Outputs.{said_of, taken_number}
use Rattle.configuration.specs.Configuration.{setup_at}
use Rattle.configuration.specs.Filling.{configured_in}
use Rattle.configuration.specs.declared.Setup.{Setup}
use Rattle.replay.specs.Frames.{Frame, body_at, frame_at}
use Rattle.replay.specs.declared.run.Replayed.{Replayed}

-- One event: the machine after it, what is said, and 1 for a call
pub record Step : Type 0 where
  pub machine : Machine
  pub said : Said
  pub calls : ℕ

-- a call is given an output, an input is taken or refused, and a body that can't be read is refused: it is no call and changes nothing
abbrev pub step_by : Machine → (now : ℕ) → Reading Told → Step
step_by m now (read call end) = record { machine = (output_step m now).machine; said = said_of m.names m.echs (output_step m now).output; calls = 1 }
step_by m now (read (fed i b) end) = record { machine = (input_step m now i b).machine; said = input (taken_number (input_step m now i b).taken); calls = 0 }
step_by m now (fault n p) = record { machine = m; said = input n; calls = 0 }

unfoldable pub step_of : Machine → (now : ℕ) → (body : List ℕ) → Step
step_of m now body = step_by m now (read_body body)

-- A run: its status, the place where it stopped, the bytes of its answers, and how many calls they answer
pub record Run : Type 0 where
  pub status : ℕ
  pub place : ℕ
  pub bytes : List ℕ
  pub calls : ℕ

-- the run that stops here
abbrev pub ended : (status place : ℕ) → Run
ended n at = record { status = n; place = at; bytes = []; calls = 0 }

-- the run with a step in front
abbrev pub ahead : Step → Run → Run
ahead s r = record { status = r.status; place = r.place; bytes = answer_bytes s.said ++ r.bytes; calls = s.calls + r.calls }

-- an event's frame, or the fault at its first byte
abbrev pub on_frame : (at : ℕ) → Got Frame → (Frame → ℕ → Run) → Run
on_frame at (got f next) go = go f next
on_frame at (refused n) go = ended n at

-- an answer fits from the place `written` on of `room` bytes, or the run stops with 13
abbrev pub on_step : (at written room : ℕ) → Step → Run → Run
on_step at written room s rest = cond (nat_le (written + length (answer_bytes s.said)) room) (ahead s rest) (ended no_room at)

-- the events from the place `at` on; `left` bounds how many they are
unfoldable pub run : (left : ℕ) → (tape : List ℕ) → (at written room : ℕ) → Machine → Run
run zero tape at written room m = ended 0 at
run (suc left) tape at written room m =
    cond (nat_le (length tape) at) (ended 0 at)
    (on_frame at (frame_at tape at) (λ f next.
    on_step at written room (step_of m f.moment (span_bytes tape f.body))
    (run left tape next (written + length (answer_bytes (step_of m f.moment (span_bytes tape f.body)).said)) room (step_of m f.moment (span_bytes tape f.body)).machine)))

-- every event takes a byte at least
unfoldable pub run_from : (tape : List ℕ) → (first room : ℕ) → Machine → Run
run_from tape first room m = run (length tape) tape first 0 room m

-- The whole tape: its configuration makes the machine; one that is refused makes none

unfoldable pub machine_of : (body : List ℕ) → Setup → Machine
machine_of body c = made c.rules c.timing (configured_in body c).alts (configured_in body c).names

abbrev pub on_setup : Reading Setup → (Setup → Run) → Run
on_setup (read c end) go = go c
on_setup (fault n p) go = ended n 0

-- the tape whose configuration body this is, and whose events begin at `next`
unfoldable pub replay_from : (tape body : List ℕ) → (next room : ℕ) → Run
replay_from tape body next room = on_setup (setup_at body) (λ c. run_from tape next room (machine_of body c))

abbrev pub on_body : Got Span → (Span → ℕ → Run) → Run
on_body (got b next) go = go b next
on_body (refused n) go = ended n 0

unfoldable pub replay_of : (tape : List ℕ) → (room : ℕ) → Run
replay_of tape room = on_body (body_at tape 0) (λ b next. replay_from tape (span_bytes tape b) next room)

-- what is given back for a run: its status, its place, how many bytes were written, and how many calls were answered
abbrev pub Gives : Replayed → Run → Type 0
Gives r x = (r.status ≡ x.status) × (r.place ≡ x.place) × (r.written ≡ length x.bytes) × (r.calls ≡ x.calls)

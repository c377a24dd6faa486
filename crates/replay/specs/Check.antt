-- Tape check (rule 8.7): the first fault of a tape, frame by frame and body by body; 0 where it has none.
use Rattle.std.specs.Prelude.{ℕ, zero, suc, cond, List, nat_eq, nat_le, length, Result, Ok, Err}
use Rattle.numbers.specs.Fields.{span_bytes}
use Rattle.numbers.specs.Got.{Got, got, refused}
use Rattle.numbers.specs.Refusals.{refusal_number}
use Rattle.numbers.specs.declared.refusal.Refusal.{Refusal}
use Rattle.bodies.specs.Events.{event_at, fault_of}
use Rattle.configuration.specs.Configuration.{setup_at}
use Rattle.replay.specs.Frames.{body_at, frame_at}

-- a fault, or else what comes after it
abbrev pub or_else : ℕ → ℕ → ℕ
or_else n rest = cond (nat_eq n 0) rest n

-- what was read goes on; a frame that can't be read is a fault
abbrev pub on_read : {A : Type 0} → Got A → (A → ℕ → ℕ) → ℕ
on_read (got v next) f = f v next
on_read (refused n) f = n

-- the events from the place `at` on; `left` bounds how many they are
unfoldable pub check_events : (left : ℕ) → (tape : List ℕ) → (at : ℕ) → ℕ
check_events zero tape at = 0
check_events (suc left) tape at =
    cond (nat_le (length tape) at) 0
    (on_read (frame_at tape at) (λ f next. or_else (fault_of (event_at (span_bytes tape f.body))).number (check_events left tape next)))

-- the whole tape, its configuration first
unfoldable pub check_of : List ℕ → ℕ
check_of tape = on_read (body_at tape 0) (λ b next. or_else (fault_of (setup_at (span_bytes tape b))).number (check_events (length tape) tape next))

-- what the code says of a fault: its refusal, or none
abbrev pub fault_number : Result (Unit {0}) Refusal → ℕ
fault_number (Ok u) = 0
fault_number (Err e) = refusal_number e

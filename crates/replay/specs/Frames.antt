-- Frames of a tape (rule 8.1): the configuration's length and body, then events of moment, length, body.
use Rattle.std.specs.Prelude.{ℕ, List}
use Rattle.numbers.specs.Got.{Got, got, and_then}
use Rattle.numbers.specs.Fields.{at_most, bytes_at}
use Rattle.numbers.specs.Numbers.{read_number}
use Rattle.numbers.specs.Refusals.{out_of_range}
use Rattle.numbers.specs.declared.field.Span.{Span}
pub use Rattle.replay.specs.declared.frames.Frame.{Frame}

abbrev pub longest_body : ℕ
longest_body = 4096

-- a length, then so many bytes
unfoldable pub body_at : List ℕ → ℕ → Got Span
body_at s at = and_then (at_most longest_body out_of_range (read_number s at)) (bytes_at s)

-- an event's moment, and where its body stands (src/frames.rt)
unfoldable pub frame_at : List ℕ → ℕ → Got Frame
frame_at s at = and_then (read_number s at) (λ t p. and_then (body_at s p) (λ b next. got (record { moment = t; body = b }) next))

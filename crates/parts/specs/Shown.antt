-- What the code's answers show: document 01's numbers with their places, and plain values.
use Rattle.std.specs.Prelude.{ℕ, Result, Ok, Err}
use Rattle.numbers.specs.Refusals.{refusal_number}
use Rattle.parts.specs.Reading.{Reading, read, fault}
use Rattle.parts.specs.declared.reading.Fault.{Fault}

abbrev pub shown : {A : Type 0} → Result (A × ℕ) Fault → Reading A
shown (Ok (v, end)) = read v end
shown (Err e) = fault (refusal_number e.refusal) e.place

abbrev pub passed_shown : Result ℕ Fault → Reading (Unit {0})
passed_shown (Ok end) = read tt end
passed_shown (Err e) = fault (refusal_number e.refusal) e.place

-- Document 01's number and values for each case of the answers (rule P.2).
use Rattle.std.specs.Prelude.{ℕ, Result, Ok, Err}
use Rattle.numbers.specs.Got.{Got, got, refused}
use Rattle.numbers.specs.Put as put
use Rattle.numbers.specs.Refusals.{refusal_number}
use Rattle.numbers.specs.declared.refusal.Refusal.{Refusal}

-- a value with the place after it
abbrev pub shown : {A : Type 0} → Result (A × ℕ) Refusal → Got A
shown (Ok (v, next)) = got v next
shown (Err e) = refused (refusal_number e)

abbrev pub wrote_shown : Result ℕ Refusal → put.Placed
wrote_shown (Ok next) = put.placed next
wrote_shown (Err e) = put.refused (refusal_number e)

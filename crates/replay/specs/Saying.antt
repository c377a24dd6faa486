-- What an answer of a replay says: its places in the machine's tables, and its words with what lies there.
use Rattle.std.specs.Prelude.{ℕ, List, Result, Ok, Err}
use Rattle.numbers.specs.Put.{Placed, placed, refused}
use Rattle.numbers.specs.Refusals.{refusal_number}
use Rattle.numbers.specs.declared.refusal.Refusal.{Refusal}
use Rattle.records.specs.Names.{name_bytes_at, ech_bytes_at}
use Rattle.state.specs.declared.Machine.{Machine}
use Rattle.answers.specs.Answers.{Said}
use Rattle.answers.specs.Answers as said
use Rattle.answers.specs.Outputs.{said_by, output_name, output_ech, taken_number}
use Rattle.replies.specs.declared.Answer.{Answer}
use Rattle.replies.specs.declared.Answer.TheVariants as answer

-- the places of the name and of the ECH bytes that an answer has, and what it says with them
abbrev pub answer_name : Answer → ℕ
answer_name (answer.Output o) = output_name o
answer_name (answer.Input t) = 0

abbrev pub answer_ech : Answer → ℕ
answer_ech (answer.Output o) = output_ech o
answer_ech (answer.Input t) = 0

abbrev pub said_to : (origin name ech : List ℕ) → Answer → Said
said_to origin name ech (answer.Output o) = said_by origin name ech o
said_to origin name ech (answer.Input t) = said.input (taken_number t)

-- what is said with the machine's tables
abbrev pub said_in : Machine → Answer → Said
said_in m a = said_to (name_bytes_at m.names 0) (name_bytes_at m.names (answer_name a)) (ech_bytes_at m.echs (answer_ech a)) a

-- the place after an event's answer
abbrev pub end_shown : Result (ℕ × ℕ) Refusal → Placed
end_shown (Ok (end, calls)) = placed end
end_shown (Err e) = refused (refusal_number e)

-- A second pass stores what was read, one item after the other.
use Rattle.std.specs.Prelude.{ℕ, List, map, Result, Ok, Err}
use Rattle.std.proofs.lemmas.List.Edits.{sets}
use Rattle.numbers.specs.Refusals.{refusal_number}
use Rattle.parts.specs.Reading.{Reading, read, fault, next}
use Rattle.parts.specs.declared.reading.Fault.{Fault}

-- what is kept of the items, stored from place i on
abbrev pub stored : {A B : Type 0} → (A → B) → List B → ℕ → Reading (List A) → Reading (List B)
stored g out i r = next r (λ l end. read (sets out i (map g l)) end)

-- a pass that stores: what the room holds, and where it ended, or the fault
abbrev pub filled : {B : Type 0} → Result ℕ Fault → List B → Reading (List B)
filled (Ok end) out = read out end
filled (Err e) out = fault (refusal_number e.refusal) e.place

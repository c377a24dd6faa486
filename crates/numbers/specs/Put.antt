-- Writing bytes into a lent buffer at a place (rule R.4): what is answered, and what the buffer holds after it.
use Rattle.std.specs.Prelude.{cond, ℕ, ◌+◌, List, length, nat_le}
use Rattle.std.proofs.lemmas.List.Edits.{sets}
use Rattle.numbers.specs.Refusals.{no_room}

-- the place after what was written, or one of document 01's refusal numbers
pub data Placed : Type 0 where
  placed : ℕ → Placed
  refused : ℕ → Placed

-- NoRoom exactly if the bytes do not fit from the place on
unfoldable pub put_answer : List ℕ → ℕ → List ℕ → Placed
put_answer out at bs = cond (nat_le (at + length bs) (length out)) (placed (at + length bs)) (refused no_room)

-- the bytes stored one by one from the place on, or the buffer as it was
unfoldable pub put_bytes : List ℕ → ℕ → List ℕ → List ℕ
put_bytes out at bs = cond (nat_le (at + length bs) (length out)) (sets out at bs) out

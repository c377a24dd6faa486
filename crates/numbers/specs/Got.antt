-- What reading a field gives (rule B.1): a value with the place after it, or one of document 01's refusal numbers (rule R.1).
use Rattle.std.specs.Prelude.{ℕ}

pub data Got (A : Type 0) : Type 0 where
  got : A → ℕ → Got A
  refused : ℕ → Got A

-- one field after the other: the first fault is given
abbrev pub and_then : {A B : Type 0} → Got A → (A → ℕ → Got B) → Got B
and_then (got v next) f = f v next
and_then (refused n) f = refused n

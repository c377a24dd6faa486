-- Reading with the place of a fault, rule B.1 (document 01, "Refusal numbers"): fields in order, and the first fault ends it.
use Rattle.std.specs.Prelude.{ℕ}
use Rattle.numbers.specs.Got.{Got, got, refused}

-- a value with the place after it; or a refusal number with the place of the field that has the fault
pub data Reading (A : Type 0) : Type 0 where
  read : A → ℕ → Reading A
  fault : (number place : ℕ) → Reading A

-- one after the other: the first fault is given
abbrev pub next : {A B : Type 0} → Reading A → (A → ℕ → Reading B) → Reading B
next (read v p) f = f v p
next (fault n p) f = fault n p

-- a field that stands at the place p
abbrev pub field : {A : Type 0} → (p : ℕ) → Got A → Reading A
field p (got v q) = read v q
field p (refused n) = fault n p

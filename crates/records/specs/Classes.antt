-- Which places hold the same name, by number (rule S.7). Of a relation it is asked only that it is an equivalence (proofs/Classes.antt).
use Rattle.std.specs.Prelude.{ℕ, zero, suc, ◌+◌, Bool, cond, List, [], ◌∷◌, nat_eq}
use Rattle.records.specs.Lists.{cell}
use Rattle.records.specs.Names.{same_at}
use Rattle.records.specs.declared.names.Names.{Names}
use Rattle.records.specs.declared.names.SameNames.{SameNames}

-- the first of i, i + 1, .. i + n - 1 that passes; i + n if none does
unfoldable pub first_from : (ℕ → Bool) → ℕ → ℕ → ℕ
first_from test i zero = i
first_from test i (suc n) = cond (test i) i (first_from test (i + 1) n)

-- the class of a place of a table of n: the first place that is the same, and n for what is the same as a place outside
unfoldable pub class_of : ℕ → (ℕ → ℕ → Bool) → ℕ → ℕ
class_of n same p = cond (same n p) n (first_from (λ k. same k p) 0 n)

-- the classes of i, i + 1, .. i + k - 1
unfoldable pub classes_from : ℕ → (ℕ → ℕ → Bool) → ℕ → ℕ → List ℕ
classes_from n same i zero = []
classes_from n same i (suc k) = class_of n same i ∷ classes_from n same (i + 1) k

unfoldable pub same_names : Names → SameNames
same_names names = record { list = classes_from 14 (same_at names) 0 14 }

-- two places are the same exactly if their classes are equal; `same_class (same_names names)` is `same_at names`
unfoldable pub class_at : SameNames → ℕ → ℕ
class_at t p = cell 14 0 14 t.list p

unfoldable pub same_class : SameNames → ℕ → ℕ → Bool
same_class t p q = nat_eq (class_at t p) (class_at t q)

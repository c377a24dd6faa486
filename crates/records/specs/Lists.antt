-- Lists made of lists, tests over a list, and a list in a fixed room. Rules 4.14 and 4.15; zeros: rule S.8.
use Rattle.std.specs.Prelude.{ℕ, ◌-◌, Bool, true, false, cond, List, [], ◌∷◌, ◌++◌, nat_lt, length, get_or, replicate}
use Rattle.std.proofs.Math.Option.{Option, none, some}

module _ {A B : Type 0} where
  -- what f gives for each member, one after the other
  unfoldable pub each : (A → List B) → List A → List B
  each f [] = []
  each f (x ∷ xs) = f x ++ each f xs

-- whether some member passes the test
unfoldable pub some? : {A : Type 0} → (A → Bool) → List A → Bool
some? test [] = false
some? test (x ∷ xs) = cond (test x) true (some? test xs)

-- the first member that passes the test
unfoldable pub first_of : {A : Type 0} → (A → Bool) → List A → Option A
first_of test [] = none
first_of test (x ∷ xs) = cond (test x) (some x) (first_of test xs)

-- the first that there is of a list of answers
abbrev pub or_else : {A : Type 0} → Option A → Option A → Option A
or_else none o = o
or_else (some x) o = some x

unfoldable pub first_some : {A : Type 0} → List (Option A) → Option A
first_some [] = none
first_some (o ∷ l) = or_else o (first_some l)

-- a list in a room of n, the rest of it z
unfoldable pub padded : {A : Type 0} → ℕ → A → List A → List A
padded n z xs = xs ++ replicate (n - length xs) z

-- What stands at place p of a table of n; z outside it. A list reads past its end as `blank`: the zero whose arrays are empty, which no code
-- makes and which reads as z does (proofs/Zeros.antt).
abbrev pub cell : {A : Type 0} → ℕ → A → A → List A → ℕ → A
cell n blank z l p = cond (nat_lt p n) (get_or l p blank) z

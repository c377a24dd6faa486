-- Tests of lists. Every standing rule is one of these over a part of the state.
use Rattle.std.specs.Prelude.{ℕ, suc, ◌+◌, Bool, true, false, not, List, [], ◌∷◌, nat_eq}

infixl 35 ◌and◌
infixl 30 ◌or◌
-- Both of two tests, one of two: the library's `◌&&◌` and `◌||◌` under names of their own, which stay shut, so that antt finds their arguments.
unfoldable pub ◌and◌ : Bool → Bool → Bool
true and b = b
false and b = false

unfoldable pub ◌or◌ : Bool → Bool → Bool
true or b = true
false or b = b

-- all of the rules
unfoldable pub all : List Bool → Bool
all [] = true
all (b ∷ bs) = b and all bs

module _ {A : Type 0} where
  -- each member passes
  unfoldable pub every : (A → Bool) → List A → Bool
  every p [] = true
  every p (x ∷ xs) = p x and every p xs

  -- each member passes at its place, counted from i
  unfoldable pub every_at : (ℕ → A → Bool) → ℕ → List A → Bool
  every_at p i [] = true
  every_at p i (x ∷ xs) = p i x and every_at p (suc i) xs

  -- no two members are alike
  unfoldable pub apart : (A → A → Bool) → List A → Bool
  apart r [] = true
  apart r (x ∷ xs) = every (λ y. not (r x y)) xs and apart r xs

  -- the sum over the members
  unfoldable pub total : (A → ℕ) → List A → ℕ
  total f [] = 0
  total f (x ∷ xs) = f x + total f xs

-- whether i is a member
unfoldable pub has : ℕ → List ℕ → Bool
has i [] = false
has i (x ∷ xs) = nat_eq i x or has i xs

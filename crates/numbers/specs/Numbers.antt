-- A number on a tape, rules N.1 to N.3 (document 01, "Numbers and bodies"): groups of seven bits, the lowest first, one to a byte. A byte of 128
-- or more says that the number goes on. A last group of 0 after others is not the shortest form; a tenth byte above 1 is past 64 bits.
use Rattle.std.specs.Prelude.{cond, ℕ, zero, suc, ◌+◌, ◌*◌, ◌/◌, ◌%◌, List, [], ◌∷◌, drop, nat_lt, nat_le, nat_eq}
use Rattle.numbers.specs.Got.{Got, got, refused}
use Rattle.numbers.specs.Refusals.{cut, bad_number}

-- v + w * u, where u is what the later groups say; with u = 0 the form is not the shortest
unfoldable pub below : ℕ → ℕ → Got ℕ → Got ℕ
below v w (got u next) = cond (nat_eq u 0) (refused bad_number) (got (v + w * u) next)
below v w (refused n) = refused n

-- the groups at the front of some bytes, which start at the place `at`; `left` groups may follow the first
unfoldable pub groups : (left at : ℕ) → List ℕ → Got ℕ
groups left at [] = refused cut
groups zero at (b ∷ s) = cond (nat_le b 1) (got b (at + 1)) (refused bad_number)
groups (suc left) at (b ∷ s) = cond (nat_lt b 128) (got b (at + 1)) (below (b % 128) 128 (groups left (at + 1) s))

-- the number at the place `at`: at most ten groups
unfoldable pub read_number : List ℕ → ℕ → Got ℕ
read_number s at = groups 9 at (drop at s)

-- the shortest form of n in at most `left` groups after the first
unfoldable pub shortest : (left : ℕ) → ℕ → List ℕ
shortest zero n = n ∷ []
shortest (suc left) n = cond (nat_lt n 128) (n ∷ []) ((128 + n % 128) ∷ shortest left (n / 128))

-- the bytes of a number of 64 bits
unfoldable pub number_bytes : ℕ → List ℕ
number_bytes n = shortest 9 n

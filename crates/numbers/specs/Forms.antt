-- Forms of a number, rules N.2 and N.3 (document 01: "only the shortest form"): every way to say it in groups of seven bits, and what it is for
-- bytes to start with the shortest. proofs/Shortest.antt has the laws: what is written is a form, every other is longer, and what Cut and
-- BadNumber mean.
use Rattle.std.specs.Prelude.{ℕ, ◌+◌, ◌*◌, ◌^◌, ◌<◌, ◌≡◌, List, [], ◌∷◌, ◌++◌, length, get_or}
use Rattle.numbers.specs.Numbers.{number_bytes}

-- the value of some groups, low group first
unfoldable pub value_of : List ℕ → ℕ
value_of [] = 0
value_of (g ∷ gs) = g + 128 * value_of gs

-- the bytes of some groups: the eighth bit is set where another follows
unfoldable pub bytes_of : List ℕ → List ℕ
bytes_of [] = []
bytes_of (g ∷ []) = g ∷ []
bytes_of (g ∷ h ∷ gs) = (128 + g) ∷ bytes_of (h ∷ gs)

-- bytes that are a form of n: those of one group or more, of seven bits each, that have the value n
pub record FormOf (n : ℕ) (bs : List ℕ) : Type 0 where
  pub parts : List ℕ
  pub some : 0 < length parts
  pub seven : (i : ℕ) → get_or parts i 0 < 128
  pub value : value_of parts ≡ n
  pub bytes : bs ≡ bytes_of parts

-- bytes that start with the shortest form of a number of 64 bits
pub record Starts (bs : List ℕ) : Type 0 where
  pub number : ℕ
  pub after : List ℕ
  pub small : number < 2 ^ 64
  pub form : bs ≡ number_bytes number ++ after

-- Parts of a body as a host writes them, rules B.3 to B.6 (document 01, "Numbers and bodies"): from plain values, and which of them there is room for.
use Rattle.std.specs.Prelude.{ℕ, ◌+◌, ◌*◌, ◌/◌, ◌%◌, ◌^◌, ◌<◌, Bool, cond, List, [], ◌∷◌, ◌++◌, length}
use Rattle.numbers.specs.Numbers.{number_bytes}
use Rattle.records.specs.Lists.{each}
use Rattle.records.specs.declared.queries.Addr.{Addr}
use Rattle.records.specs.declared.rules.Port.{Port}
use Rattle.records.specs.declared.rules.Port.TheVariants as port
use Rattle.records.specs.declared.rules.Versions.{Versions}
use Rattle.records.specs.declared.services.Hint.{Hint}

-- addresses: 4 bytes, the highest first; 16 bytes; a scope after them
unfoldable pub word_bytes : ℕ → List ℕ
word_bytes x = x / 16777216 ∷ x / 65536 % 256 ∷ x / 256 % 256 ∷ x % 256 ∷ []

unfoldable pub long_bytes : ℕ → List ℕ
long_bytes x = word_bytes (x / 4294967296) ++ word_bytes (x % 4294967296)

unfoldable pub six_bytes : Hint → List ℕ
six_bytes h = long_bytes h.hi ++ long_bytes h.lo

abbrev pub unscoped : Addr → Hint
unscoped a = record { hi = a.hi; lo = a.lo }

unfoldable pub scoped_bytes : Addr → List ℕ
scoped_bytes a = six_bytes (unscoped a) ++ number_bytes a.scope

-- a count and so many items
unfoldable pub row_bytes : {A : Type 0} → (A → List ℕ) → List A → List ℕ
row_bytes w l = number_bytes (length l) ++ each w l

-- versions by their bits; a port plus one, 0 for none
abbrev pub bit : Bool → ℕ
bit b = cond b 1 0

unfoldable pub versions_number : Versions → ℕ
versions_number v = bit v.h3 + 2 * bit v.h2 + 4 * bit v.h1

abbrev pub port_number : Port → ℕ
port_number port.Origin = 0
port_number (port.Own p) = p + 1

-- a name: its length, then its bytes
unfoldable pub named_bytes : List ℕ → List ℕ
named_bytes bs = number_bytes (length bs) ++ bs

-- every member is so
unfoldable pub All : {A : Type 0} → (A → Type 0) → List A → Type 0
All P [] = Unit {0}
All P (x ∷ xs) = P x × All P xs

pub record FitsHint (h : Hint) : Type 0 where
  pub hi : h.hi < 2 ^ 64
  pub lo : h.lo < 2 ^ 64

pub record FitsAddr (a : Addr) : Type 0 where
  pub halves : FitsHint (unscoped a)
  pub scope : a.scope < 2 ^ 32

abbrev pub four_addr : ℕ → Addr
four_addr x = record { hi = 0; lo = x; scope = 0 }

-- What an entry reads: numbers of a list, and tables of bytes in rooms one after the other. What lies outside of them is 0.
use Rattle.std.specs.Prelude.{ℕ, zero, suc, ◌+◌, ◌-◌, ◌*◌, ◌%◌, ◌^◌, cond, List, [], ◌∷◌, ◌==◌, slice_index}
use Rattle.records.specs.declared.endpoints.Endpoint.{Endpoint}
use Rattle.records.specs.declared.endpoints.Rank.{Rank}
use Rattle.records.specs.declared.endpoints.Rank.TheVariants.{H3, H2OrH1, H2, H1}
use Rattle.records.specs.declared.endpoints.Target.{Target}
use Rattle.records.specs.declared.endpoints.Target.TheVariants.{V4, V6, Named}
use Rattle.records.specs.declared.names.Ech.{Ech}
use Rattle.records.specs.declared.names.Echs.{Echs}
use Rattle.records.specs.declared.names.EchPlace.{EchPlace}
use Rattle.records.specs.declared.names.EchPlace.TheVariants.{Without, At}
use Rattle.records.specs.declared.names.Name.{Name}
use Rattle.records.specs.declared.names.Names.{Names}

-- number k from base on; a place is of 64 bits
unfoldable pub number_at : List ℕ → ℕ → ℕ → ℕ
number_at list base k = slice_index list ((base + k) % 2 ^ 64)

-- f of i, i + 1, .. i + n - 1
unfoldable pub tabled : {A : Type 0} → (ℕ → A) → ℕ → ℕ → List A
tabled f i zero = []
tabled f i (suc n) = f i ∷ tabled f (i + 1) n

-- room i of rooms of n bytes
unfoldable pub room_at : ℕ → List ℕ → ℕ → List ℕ
room_at n bytes i = tabled (λ k. slice_index bytes (n * i + k)) 0 n

-- names and ECH configurations, their lengths from base on
unfoldable pub name_of : List ℕ → ℕ → List ℕ → ℕ → Name
name_of list base bytes i = record { len = number_at list base i; bytes = room_at 253 bytes i }

unfoldable pub names_of : List ℕ → ℕ → List ℕ → Names
names_of list base bytes = record { list = tabled (name_of list base bytes) 0 14 }

unfoldable pub ech_of : List ℕ → ℕ → List ℕ → ℕ → Ech
ech_of list base bytes i = record { len = number_at list base i; bytes = room_at 512 bytes i }

unfoldable pub echs_of : List ℕ → ℕ → List ℕ → Echs
echs_of list base bytes = record { list = tabled (ech_of list base bytes) 0 40 }

-- An endpoint of seven numbers: target's case, high half, low half or name's place, scope; port, rank, ECH place and 1. One outside its range is a remainder.
unfoldable pub target_of : ℕ → ℕ → ℕ → ℕ → Target
target_of case hi lo scope = cond (case % 3 == 0) (V4 (lo % 4294967296)) (cond (case % 3 == 1) (V6 hi lo (scope % 4294967296)) (Named (lo % 256)))

unfoldable pub rank_of : ℕ → Rank
rank_of n = cond (n % 4 == 0) H3 (cond (n % 4 == 1) H2OrH1 (cond (n % 4 == 2) H2 H1))

unfoldable pub ech_place_of : ℕ → EchPlace
ech_place_of n = cond (n == 0) Without (At ((n - 1) % 256))

unfoldable pub endpoint_of : List ℕ → ℕ → Endpoint
endpoint_of list base =
    let at = number_at list base in
    record { target = target_of (at 0) (at 1) (at 2) (at 3); port = at 4 % 65536; rank = rank_of (at 5); ech = ech_place_of (at 6) }

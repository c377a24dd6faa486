-- Names and ECH bytes: where they lie, when they are the same (rule S.6), their zeros (rule S.8), and the host that a by-name endpoint connects to:
-- rule 4.12.
use Rattle.std.specs.Prelude.{ℕ, Bool, true, false, cond, ◌&&◌, List, [], ◌∷◌, nat_eq, length, take, set, replicate}
use Rattle.numbers.specs.Names.{undotted}
use Rattle.records.specs.Lists.{cell}
use Rattle.records.specs.declared.names.Name.{Name}
use Rattle.records.specs.declared.names.Names.{Names}
use Rattle.records.specs.declared.names.Ech.{Ech}
use Rattle.records.specs.declared.names.Echs.{Echs}

-- byte for byte
unfoldable pub same_bytes : List ℕ → List ℕ → Bool
same_bytes [] [] = true
same_bytes [] (b ∷ y) = false
same_bytes (a ∷ x) [] = false
same_bytes (a ∷ x) (b ∷ y) = nat_eq a b && same_bytes x y

-- (H) "Names are compared byte for byte." What is above this crate knows only that it is an equivalence (proofs/SameName.antt).
unfoldable pub same_name : List ℕ → List ℕ → Bool
same_name a b = same_bytes a b

-- the zeros, and what a list of them reads past its end
unfoldable pub no_name : Name
no_name = record { len = 0; bytes = replicate 253 0 }

abbrev pub blank_name : Name
blank_name = record { len = 0; bytes = [] }

unfoldable pub no_ech : Ech
no_ech = record { len = 0; bytes = replicate 512 0 }

abbrev pub blank_ech : Ech
blank_ech = record { len = 0; bytes = [] }

unfoldable pub no_names : Names
no_names = record { list = replicate 14 no_name }

unfoldable pub no_echs : Echs
no_echs = record { list = replicate 40 no_ech }

-- the bytes within the length, which is cut at the room
unfoldable pub name_bytes : Name → List ℕ
name_bytes n = take n.len n.bytes

unfoldable pub ech_bytes : Ech → List ℕ
ech_bytes e = take e.len e.bytes

-- what lies at a place of the tables, and its bytes; a place outside is empty
unfoldable pub name_at : Names → ℕ → Name
name_at t p = cell 14 blank_name no_name t.list p

unfoldable pub ech_at : Echs → ℕ → Ech
ech_at t p = cell 40 blank_ech no_ech t.list p

abbrev pub name_bytes_at : Names → ℕ → List ℕ
name_bytes_at t p = name_bytes (name_at t p)

abbrev pub ech_bytes_at : Echs → ℕ → List ℕ
ech_bytes_at t p = ech_bytes (ech_at t p)

-- a table with another name or other ECH bytes at a place
abbrev pub with_name : Names → ℕ → Name → Names
with_name t p x = record { list = set t.list p x }

abbrev pub with_ech : Echs → ℕ → Ech → Echs
with_ech t p x = record { list = set t.list p x }

-- whether the names at two places are the same
unfoldable pub same_at : Names → ℕ → ℕ → Bool
same_at t p q = same_name (name_bytes_at t p) (name_bytes_at t q)

-- "handed back as the caller's own bytes": the own name, or the origin's where there is none, without its trailing dot
unfoldable pub connect_name : List ℕ → List ℕ → List ℕ
connect_name origin own = cond (nat_eq (length (undotted own)) 0) (undotted origin) (undotted own)

-- the host of a by-name endpoint whose name lies at p; the origin's name lies at 0
unfoldable pub host_at : Names → ℕ → List ℕ
host_at t p = connect_name (name_bytes_at t 0) (name_bytes_at t p)

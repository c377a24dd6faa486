-- Addresses in bytes, rules B.5 and B.6 (document 01, "Numbers and bodies"): alone, and in their rooms.
use Rattle.std.specs.Prelude.{ℕ, ◌+◌, ◌*◌, List, map, length, get_or, replicate}
use Rattle.numbers.specs.Fields.{at_most, bytes_at}
use Rattle.numbers.specs.Numbers.{read_number}
use Rattle.numbers.specs.Refusals.{out_of_range}
use Rattle.records.specs.Lists.{padded}
use Rattle.records.specs.Queries.{no_addr}
use Rattle.records.specs.Services.{no_hint}
use Rattle.records.specs.declared.queries.Addr.{Addr}
use Rattle.records.specs.declared.queries.Addresses.{Addresses}
use Rattle.records.specs.declared.services.Hint.{Hint}
use Rattle.parts.specs.Reading.{Reading, read, next, field}
use Rattle.parts.specs.Items.{listed}
use Rattle.parts.specs.declared.address.Items.{Items}
use Rattle.parts.specs.declared.address.Form.{Form}
use Rattle.parts.specs.declared.address.Form.TheVariants.{Four, Six, Scoped}
use Rattle.parts.specs.declared.address.Fours.{Fours}
use Rattle.parts.specs.declared.address.Sixes.{Sixes}

-- 4 bytes, the highest first
unfoldable pub word : List ℕ → ℕ → ℕ
word s p = get_or s p 0 * 16777216 + get_or s (p + 1) 0 * 65536 + get_or s (p + 2) 0 * 256 + get_or s (p + 3) 0

-- 8 bytes, the highest first
unfoldable pub long : List ℕ → ℕ → ℕ
long s p = word s p * 4294967296 + word s (p + 4)

-- an IPv4 address: 4 bytes
unfoldable pub four : List ℕ → (p : ℕ) → Reading Addr
four s p = next (field p (bytes_at s 4 p)) (λ b end. read (record { hi = 0; lo = word s p; scope = 0 }) end)

-- an IPv6 address without scope, as hosts and hints have it: 16 bytes
unfoldable pub six : List ℕ → (p : ℕ) → Reading Addr
six s p = next (field p (bytes_at s 16 p)) (λ b end. read (record { hi = long s p; lo = long s (p + 8); scope = 0 }) end)

-- an IPv6 address and its scope, below 2^32; 0 says that there is none
unfoldable pub scoped : List ℕ → (p : ℕ) → Reading Addr
scoped s p = next (six s p) (λ a q. next (field q (at_most 4294967295 out_of_range (read_number s q))) (λ scope end.
    read (record { hi = a.hi; lo = a.lo; scope = scope }) end))

-- an address in the form that it has
abbrev pub address : Form → List ℕ → (p : ℕ) → Reading Addr
address Four s p = four s p
address Six s p = six s p
address Scoped s p = scoped s p

-- the addresses of an answer in their room
unfoldable pub addresses_in : Form → List ℕ → Items → Addresses
addresses_in form s l = record { list = padded 8 no_addr (listed 8 (address form s) l) }

-- the hints of a service in their rooms, an IPv4 address as its 32 bits, an IPv6 address as its halves; and none
abbrev pub low : Addr → ℕ
low a = a.lo

abbrev pub halves : Addr → Hint
halves a = record { hi = a.hi; lo = a.lo }

abbrev pub no_fours : Fours
no_fours = record { count = 0; list = replicate 4 0 }

abbrev pub no_sixes : Sixes
no_sixes = record { count = 0; list = replicate 4 no_hint }

unfoldable pub fours_in : List ℕ → Items → Fours
fours_in s l = record { count = length (listed 4 (address Four s) l); list = padded 4 0 (map low (listed 4 (address Four s) l)) }

unfoldable pub sixes_in : List ℕ → Items → Sixes
sixes_in s l = record { count = length (listed 4 (address Six s) l); list = padded 4 no_hint (map halves (listed 4 (address Six s) l)) }

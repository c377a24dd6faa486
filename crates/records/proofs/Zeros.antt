-- The zeros read as what lies outside a table: a list's blank shows what the zero shows, and a table of zeros reads alike at every place.
use Prim.Native.Nat.{ℕ, zero, suc, ◌<◌}
use mathlib.Core.Path.{◌≡◌, refl}
use mathlib.Core.Bool.{cond}
use mathlib.Core.List.{List}
use native.Mathlib.Omega.{arith}
use native.Mathlib.Decide.{dec_lt}
use lib.Dec.{ltb as nat_lt}
use lib.ListN.{get_or, replicate}
use borrow.Author.Tests.{lt-ltb, le-ltb}
use Rattle.records.specs.Lists.{cell}
use Rattle.records.specs.Names.{no_name, blank_name, no_ech, blank_ech, no_names, no_echs, name_bytes, ech_bytes, name_at, ech_at}
use Rattle.records.specs.Queries.{no_addr, no_addresses, blank_addresses, no_answers, address_at}
use Rattle.records.specs.Services.{no_hint, no_service, blank_service, no_services, hint_six, hint_four}

pub blank-name : name_bytes blank_name ≡ name_bytes no_name
unfolding name_bytes no_name
blank-name = refl

pub blank-ech : ech_bytes blank_ech ≡ ech_bytes no_ech
unfolding ech_bytes no_ech
blank-ech = refl

module _ {A : Type 0} (z : A) where
  -- a table of zeros has nothing else
  zeros : (m : ℕ) (blank : A) (i : ℕ) → i < m → get_or (replicate m z) i blank ≡ z
  zeros zero blank i h = absurd (omega arith)
  zeros (suc m) blank zero h = refl
  zeros (suc m) blank (suc i) h = zeros m blank i (omega arith)

  zero-cell : (n : ℕ) (blank : A) (p : ℕ) → cell n blank z (replicate n z) p ≡ z
  zero-cell n blank p = elim (dec_lt p n) [ yes h ↦ rw (lt-ltb _ _ h) (zeros n blank p h) | no h ↦ rw (le-ltb p n (omega arith)) ]

pub no-name-at : (p : ℕ) → name_at no_names p ≡ no_name
unfolding name_at no_names
no-name-at p = zero-cell no_name 14 blank_name p

pub no-ech-at : (p : ℕ) → ech_at no_echs p ≡ no_ech
unfolding ech_at no_echs
no-ech-at p = zero-cell no_ech 40 blank_ech p

-- of two tables, one in the other
module _ {A B : Type 0} (z : A) (y : B) (n m : ℕ) (blank : B) (in? : B → List A) (e : in? y ≡ replicate m z) where
  inner-cell : (q p : ℕ) → cond (nat_lt q n) (cell m z z (in? (get_or (replicate n y) q blank)) p) z ≡ z
  inner-cell q p = elim (dec_lt q n) [ yes h ↦ rw (lt-ltb _ _ h, zeros y n blank q h, e) (zero-cell z m z p) | no h ↦ rw (le-ltb q n (omega arith)) ]

pub no-address-at : (q p : ℕ) → address_at no_answers q p ≡ no_addr
unfolding address_at no_answers no_addresses
no-address-at q p = inner-cell no_addr no_addresses 16 8 blank_addresses (λ a. a.list) refl q p

pub no-hint-six : (i p : ℕ) → hint_six no_services i p ≡ no_hint
unfolding hint_six no_services no_service
no-hint-six i p = inner-cell no_hint no_service 4 4 blank_service (λ s. s.v6) refl i p

pub no-hint-four : (i p : ℕ) → hint_four no_services i p ≡ 0
unfolding hint_four no_services no_service
no-hint-four i p = inner-cell 0 no_service 4 4 blank_service (λ s. s.v4) refl i p

-- Endpoints with their bytes, and when two are the same: target, port, rank and ECH bytes. Rule 4.2; targets: rule B.10.
use Rattle.std.specs.Prelude.{ℕ, Bool, true, false, ◌&&◌, List, [], ◌∷◌, nat_eq}
use Rattle.std.proofs.Math.Option.{Option, none, some}
use Rattle.records.specs.Numbers.{rank_number}
use Rattle.records.specs.Names.{same_bytes, host_at, ech_bytes_at}
use Rattle.records.specs.declared.names.Names.{Names}
use Rattle.records.specs.declared.names.Echs.{Echs}
use Rattle.records.specs.declared.names.EchPlace.{EchPlace}
use Rattle.records.specs.declared.names.EchPlace.TheVariants.{Without, At}
use Rattle.records.specs.declared.endpoints.Rank.{Rank}
use Rattle.records.specs.declared.endpoints.Rank.TheVariants as rank
use Rattle.records.specs.declared.endpoints.Target.{Target}
use Rattle.records.specs.declared.endpoints.Target.TheVariants.{V4, V6, Named}
use Rattle.records.specs.declared.endpoints.Endpoint.{Endpoint}

abbrev pub no_endpoint : Endpoint
no_endpoint = record { target = V4 0; port = 0; rank = rank.H3; ech = Without }

-- a target with its values: an address, an address in two halves with its scope, or the bytes of a host
pub data ShownTarget : Type 0 where
  four : ℕ → ShownTarget
  six : ℕ → ℕ → ℕ → ShownTarget
  host : List ℕ → ShownTarget

-- an endpoint with its bytes; ECH that is present with length 0 differs from none
pub record Shown : Type 0 where
  pub target : ShownTarget
  pub port : ℕ
  pub rank : Rank
  pub ech : Option (List ℕ)

-- its number and values in an answer; a host's bytes have their length before them there
abbrev pub target_values : ShownTarget → List ℕ
target_values (four a) = 0 ∷ a ∷ []
target_values (six h l s) = 1 ∷ h ∷ l ∷ s ∷ []
target_values (host x) = 2 ∷ x

abbrev pub shown_target : Names → Target → ShownTarget
shown_target names (V4 a) = four a
shown_target names (V6 h l s) = six h l s
shown_target names (Named p) = host (host_at names p)

abbrev pub shown_ech : Echs → EchPlace → Option (List ℕ)
shown_ech echs Without = none
shown_ech echs (At p) = some (ech_bytes_at echs p)

abbrev pub shown : Names → Echs → Endpoint → Shown
shown names echs e = record { target = shown_target names e.target; port = e.port; rank = e.rank; ech = shown_ech echs e.ech }

-- whether an endpoint names a place of the two tables
abbrev pub names_place : Target → ℕ → Bool
names_place (V4 a) p = false
names_place (V6 h l s) p = false
names_place (Named q) p = nat_eq q p

abbrev pub seals_place : EchPlace → ℕ → Bool
seals_place Without p = false
seals_place (At q) p = nat_eq q p

abbrev pub same_target : ShownTarget → ShownTarget → Bool
same_target (four a) (four b) = nat_eq a b
same_target (four a) (six h l s) = false
same_target (four a) (host y) = false
same_target (six h l s) (four b) = false
same_target (six h l s) (six i m t) = nat_eq h i && (nat_eq l m && nat_eq s t)
same_target (six h l s) (host y) = false
same_target (host x) (four b) = false
same_target (host x) (six i m t) = false
same_target (host x) (host y) = same_bytes x y

abbrev pub same_ech : Option (List ℕ) → Option (List ℕ) → Bool
same_ech none none = true
same_ech none (some y) = false
same_ech (some x) none = false
same_ech (some x) (some y) = same_bytes x y

abbrev pub same_shown : Shown → Shown → Bool
same_shown a b = nat_eq a.port b.port && (nat_eq (rank_number a.rank) (rank_number b.rank) && (same_target a.target b.target && same_ech a.ech b.ech))

-- the same endpoint: the same with its bytes
unfoldable pub same_endpoint : Names → Echs → Endpoint → Endpoint → Bool
same_endpoint names echs a b = same_shown (shown names echs a) (shown names echs b)

-- What of it the numbers decide, without the tables: two hosts or two ECH configurations may still differ.
abbrev pub same_numbers : Target → Target → Bool
same_numbers (V4 a) (V4 b) = nat_eq a b
same_numbers (V4 a) (V6 h l s) = false
same_numbers (V4 a) (Named q) = false
same_numbers (V6 h l s) (V4 b) = false
same_numbers (V6 h l s) (V6 i m t) = nat_eq h i && (nat_eq l m && nat_eq s t)
same_numbers (V6 h l s) (Named q) = false
same_numbers (Named p) (V4 b) = false
same_numbers (Named p) (V6 i m t) = false
same_numbers (Named p) (Named q) = true

abbrev pub same_sealed : EchPlace → EchPlace → Bool
same_sealed Without Without = true
same_sealed Without (At q) = false
same_sealed (At p) Without = false
same_sealed (At p) (At q) = true

unfoldable pub same_head : Endpoint → Endpoint → Bool
same_head a b = nat_eq a.port b.port && (nat_eq (rank_number a.rank) (rank_number b.rank) && (same_numbers a.target b.target && same_sealed a.ech b.ech))

-- What the tables decide, where the numbers agree.
abbrev pub same_hosts : Names → Target → Target → Bool
same_hosts names (Named p) (Named q) = same_bytes (host_at names p) (host_at names q)
same_hosts names (Named p) (V4 b) = true
same_hosts names (Named p) (V6 i m t) = true
same_hosts names (V4 a) t = true
same_hosts names (V6 h l s) t = true

abbrev pub same_echs : Echs → EchPlace → EchPlace → Bool
same_echs echs (At p) (At q) = same_bytes (ech_bytes_at echs p) (ech_bytes_at echs q)
same_echs echs (At p) Without = true
same_echs echs Without e = true

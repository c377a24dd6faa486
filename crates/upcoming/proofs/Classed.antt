-- Hosts and ECH bytes by class: what the bytes say, place by place, and what the code compares.
use Prim.Native.Nat.{ℕ, ◌≤◌, ◌<◌}
use mathlib.Core.Path.{◌≡◌, refl, sym, ap, ◌∙◌}
use mathlib.Core.Bool.{true}
use mathlib.Core.List.{List, [], ◌∷◌}
use native.Mathlib.Omega.{arith}
use lib.ListN.{length, get_or}
use borrow.Author.Tests.{lt-ltb, le-ltb}
use Rattle.records.specs.Names.{same_bytes, name_bytes, name_bytes_at, blank_name, connect_name, host_at, ech_bytes, ech_at, ech_bytes_at, no_ech, blank_ech}
use Rattle.records.specs.Classes.{class_of}
use Rattle.records.specs.Endpoints.{same_hosts, same_echs, same_endpoint}
use Rattle.records.specs.declared.names.Names.{Names}
use Rattle.records.specs.declared.names.Echs.{Echs}
use Rattle.records.specs.declared.names.EchPlace.{EchPlace}
use Rattle.records.specs.declared.names.EchPlace.TheVariants.{Without, At}
use Rattle.records.specs.declared.endpoints.Target.{Target}
use Rattle.records.specs.declared.endpoints.Target.TheVariants.{V4, V6, Named}
use Rattle.records.specs.declared.endpoints.Endpoint.{Endpoint}
use Rattle.records.proofs.Bytes.{same_refl, other_length}
use Rattle.records.proofs.SameName.{same_bytes_lem, by_bytes}
use Rattle.records.proofs.Classes.{Table, by-class, class-is, Held, held_bytes, name-outside, name-inside}
use Rattle.records.proofs.Alike.{head_first}
use Rattle.upcoming.specs.Alike.{same_host_at, same_ech_at, same_hosts_of, same_echs_of, host_class, ech_class, alike_hosts, alike_echs, alike_endpoints}

-- places with the same bytes are the same
same_of : (f : ℕ → List ℕ) (p q : ℕ) → f p ≡ f q → same_bytes (f p) (f q) ≡ true
same_of f p q e = ap (λ z. same_bytes z (f q)) e ∙ same_refl (f q)

-- Hosts: outside the table there is no name, and a host is the origin's
host-outside : (names : Names) (p : ℕ) → 14 ≤ p → host_at names p ≡ host_at names 14
unfolding host_at
host-outside names p h = rw (name-outside names p h, name-outside names 14 (omega arith))

pub host-table : (names : Names) → Table 14 (same_host_at names)
unfolding same_host_at
host-table names = record { alike = by_bytes same_bytes same_bytes_lem (host_at names); outside = λ p h. same_of (host_at names) 14 p (sym (host-outside names p h)) }

-- an empty name falls back on the origin's
fallen-back : (origin own : List ℕ) → length own ≡ 0 → connect_name origin [] ≡ connect_name origin own
fallen-back origin [] e = refl
fallen-back origin (b ∷ s) e = absurd (omega arith)

host-empty : (names : Names) (p : ℕ) → p < 14 → length (name_bytes (get_or names.list p blank_name)) ≡ 0 → host_at names 14 ≡ host_at names p
unfolding host_at
host-empty names p h e = rw (name-outside names 14 (omega arith), name-inside names p h) (fallen-back _ _ e)

pub empty-out : (names : Names) (p : ℕ) → p < 14 → length (name_bytes (get_or names.list p blank_name)) ≡ 0 → same_host_at names 14 p ≡ true
unfolding same_host_at
empty-out names p h e = same_of (host_at names) 14 p (host-empty names p h e)

-- two empty names have the origin's host, both
pub both_empty : (names : Names) (p q : ℕ) → length (name_bytes_at names p) ≡ 0 → length (name_bytes_at names q) ≡ 0 → same_host_at names p q ≡ true
unfolding same_host_at host_at
both_empty names p q h k = same_of (host_at names) p q (sym (fallen-back _ _ h) ∙ fallen-back _ _ k)

-- ECH bytes: outside the table there are none
ech-outside : (echs : Echs) (p : ℕ) → 40 ≤ p → ech_bytes_at echs p ≡ []
unfolding ech_bytes ech_at no_ech
ech-outside echs p h = rw (le-ltb _ _ h)

ech-inside : (echs : Echs) (p : ℕ) → p < 40 → ech_bytes_at echs p ≡ ech_bytes (get_or echs.list p blank_ech)
unfolding ech_at
ech-inside echs p h = rw (lt-ltb _ _ h)

pub echs-held : (echs : Echs) → Held 40 same_bytes (same_ech_at echs) (λ p. ech_bytes (get_or echs.list p blank_ech))
unfolding same_ech_at
echs-held echs = held_bytes 40 same_bytes (ech_bytes_at echs) (λ p. ech_bytes (get_or echs.list p blank_ech)) same_bytes_lem other_length (ech-outside echs) (ech-inside echs)

-- what the classes of a table say is what the bytes say, place by place
host-class : (names : Names) (p : ℕ) → host_class (same_hosts_of names) p ≡ class_of 14 (same_host_at names) p
unfolding host_class same_hosts_of
host-class names p = class-is 14 (same_host_at names) (host-table names) p

ech-class : (echs : Echs) (p : ℕ) → ech_class (same_echs_of echs) p ≡ class_of 40 (same_ech_at echs) p
unfolding ech_class same_echs_of
ech-class echs p = class-is 40 (same_ech_at echs) (echs-held echs).table p

hosts-alike : (names : Names) (a b : Target) → alike_hosts (same_hosts_of names) a b ≡ same_hosts names a b
unfolding same_host_at
hosts-alike names (Named p) (Named q) = rw (host-class names p, host-class names q) (by-class 14 (same_host_at names) (host-table names) p q)
hosts-alike names (Named p) (V4 b) = refl
hosts-alike names (Named p) (V6 i m t) = refl
hosts-alike names (V4 a) b = refl
hosts-alike names (V6 h l s) b = refl

echs-alike : (echs : Echs) (a b : EchPlace) → alike_echs (same_echs_of echs) a b ≡ same_echs echs a b
unfolding same_ech_at
echs-alike echs (At p) (At q) = rw (ech-class echs p, ech-class echs q) (by-class 40 (same_ech_at echs) (echs-held echs).table p q)
echs-alike echs (At p) Without = refl
echs-alike echs Without b = refl

-- so two endpoints are one by class exactly if they are with their bytes
pub alike_same : (names : Names) (echs : Echs) (a b : Endpoint) → alike_endpoints (same_hosts_of names) (same_echs_of echs) a b ≡ same_endpoint names echs a b
unfolding alike_endpoints
alike_same names echs a b = rw (hosts-alike names a.target b.target, echs-alike echs a.ech b.ech) (sym (head_first names echs a b))

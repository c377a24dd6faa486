-- What an endpoint shows, and whether two are the same, is unchanged by a write to a place of either table that neither names. A place of the
-- names other than the origin's is meant, since a host falls back on that one.
use Prim.Native.Nat.{ℕ}
use mathlib.Core.Path.{◌≡◌, refl, ap, ◌∙◌}
use mathlib.Core.Bool.{false, cond}
use native.Mathlib.Omega.{arith}
use lib.Dec.{ltb as nat_lt}
use lib.Seq.{get_or-set_other}
use borrow.Author.Tests.{eqb-false}
use Rattle.records.specs.Names.{no_name, blank_name, no_ech, blank_ech, name_bytes, name_at, ech_at, name_bytes_at, connect_name, host_at, with_name, with_ech}
use Rattle.records.specs.Endpoints.{shown_target, shown_ech, shown, names_place, seals_place, same_shown, same_endpoint}
use Rattle.records.specs.declared.names.Name.{Name}
use Rattle.records.specs.declared.names.Names.{Names}
use Rattle.records.specs.declared.names.Ech.{Ech}
use Rattle.records.specs.declared.names.Echs.{Echs}
use Rattle.records.specs.declared.names.EchPlace.{EchPlace}
use Rattle.records.specs.declared.names.EchPlace.TheVariants.{Without, At}
use Rattle.records.specs.declared.endpoints.Target.{Target}
use Rattle.records.specs.declared.endpoints.Target.TheVariants.{V4, V6, Named}
use Rattle.records.specs.declared.endpoints.Endpoint.{Endpoint}

module _ (names : Names) (p : ℕ) (x : Name) where
  pub name-kept : (q : ℕ) → (q ≡ p → ⊥) → name_at (with_name names p x) q ≡ name_at names q
  unfolding name_at
  name-kept q h = ap (λ n. cond (nat_lt q 14) n no_name) (get_or-set_other names.list p q x blank_name h)

  pub host-kept : (p ≡ 0 → ⊥) → (q : ℕ) → (q ≡ p → ⊥) → host_at (with_name names p x) q ≡ host_at names q
  unfolding host_at
  host-kept z q h = ap (λ n. connect_name (name_bytes n) (name_bytes_at (with_name names p x) q)) (name-kept 0 (λ e. z (omega arith))) ∙ ap (λ n. connect_name (name_bytes_at names 0) (name_bytes n)) (name-kept q h)

  target-kept : (p ≡ 0 → ⊥) → (t : Target) → names_place t p ≡ false → shown_target (with_name names p x) t ≡ shown_target names t
  target-kept z (V4 a) h = refl
  target-kept z (V6 i l s) h = refl
  target-kept z (Named q) h = rw (host-kept z q (eqb-false q p h))

  module _ (echs : Echs) (z : p ≡ 0 → ⊥) where
    pub shown-kept : (e : Endpoint) → names_place e.target p ≡ false → shown (with_name names p x) echs e ≡ shown names echs e
    shown-kept e h = λ j. record { target = target-kept z e.target h j; port = e.port; rank = e.rank; ech = shown_ech echs e.ech }

    pub same_kept : (a b : Endpoint) → names_place a.target p ≡ false → names_place b.target p ≡ false → same_endpoint (with_name names p x) echs a b ≡ same_endpoint names echs a b
    unfolding same_endpoint
    same_kept a b h k = ap (λ s. same_shown s (shown (with_name names p x) echs b)) (shown-kept a h) ∙ ap (same_shown (shown names echs a)) (shown-kept b k)

module _ (echs : Echs) (p : ℕ) (x : Ech) where
  pub ech-kept : (q : ℕ) → (q ≡ p → ⊥) → ech_at (with_ech echs p x) q ≡ ech_at echs q
  unfolding ech_at
  ech-kept q h = ap (λ e. cond (nat_lt q 40) e no_ech) (get_or-set_other echs.list p q x blank_ech h)

  sealed-kept : (e : EchPlace) → seals_place e p ≡ false → shown_ech (with_ech echs p x) e ≡ shown_ech echs e
  sealed-kept Without h = refl
  sealed-kept (At q) h = rw (ech-kept q (eqb-false q p h))

  module _ (names : Names) where
    pub shown-ech-kept : (e : Endpoint) → seals_place e.ech p ≡ false → shown names (with_ech echs p x) e ≡ shown names echs e
    shown-ech-kept e h = λ j. record { target = shown_target names e.target; port = e.port; rank = e.rank; ech = sealed-kept e.ech h j }

    pub same-ech-kept : (a b : Endpoint) → seals_place a.ech p ≡ false → seals_place b.ech p ≡ false → same_endpoint names (with_ech echs p x) a b ≡ same_endpoint names echs a b
    unfolding same_endpoint
    same-ech-kept a b h k = ap (λ s. same_shown s (shown names (with_ech echs p x) b)) (shown-ech-kept a h) ∙ ap (same_shown (shown names echs a)) (shown-ech-kept b k)

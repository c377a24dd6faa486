-- Places whose lengths are 0 have no bytes.
use Prim.Native.Nat.{ℕ, zero, suc, ◌+◌, ◌<◌}
use mathlib.Core.Path.{◌≡◌, refl, ap, ◌∙◌}
use mathlib.Core.Bool.{Bool, true, false, ◌&&◌, false≢true}
use mathlib.Core.List.{[]}
use native.Mathlib.Omega.{arith}
use lib.Dec.{eqb as nat_eq}
use lib.ListN.{take}
use borrow.Author.Tests.{eqb-true}
use Rattle.records.specs.Names.{name_bytes, name_at, name_bytes_at, ech_bytes, ech_at, ech_bytes_at}
use Rattle.records.specs.declared.names.Name.{Name}
use Rattle.records.specs.declared.names.Names.{Names}
use Rattle.records.specs.declared.names.Ech.{Ech}
use Rattle.records.specs.declared.names.Echs.{Echs}
use Rattle.after.specs.After.{are_zero, bare_names, bare_echs}

pub both : (a b : Bool) → a && b ≡ true → (a ≡ true) × (b ≡ true)
both true true e = (refl, refl)
both true false e = absurd (false≢true e)
both false b e = absurd (false≢true e)

four-zero : (a b c d : ℕ) → are_zero a b c d ≡ true → (a ≡ 0) × (b ≡ 0) × (c ≡ 0) × (d ≡ 0)
unfolding are_zero
four-zero a b c d e =
    let p = both (nat_eq a 0) (nat_eq b 0 && (nat_eq c 0 && nat_eq d 0)) e in
    let q = both (nat_eq b 0) (nat_eq c 0 && nat_eq d 0) p.1 in
    let r = both (nat_eq c 0) (nat_eq d 0) q.1 in
    (eqb-true a 0 p.0, eqb-true b 0 q.0, eqb-true c 0 r.0, eqb-true d 0 r.1)

-- each of four lengths from a place on
each-zero : (len : ℕ → ℕ) (f : ℕ) → are_zero (len f) (len (f + 1)) (len (f + 2)) (len (f + 3)) ≡ true → (k : ℕ) → k < 4 → len (f + k) ≡ 0
each-zero len f e zero h = let z : f + 0 ≡ f = omega arith in ap len z ∙ (four-zero _ _ _ _ e).0
each-zero len f e (suc zero) h = (four-zero _ _ _ _ e).1
each-zero len f e (suc (suc zero)) h = (four-zero _ _ _ _ e).2
each-zero len f e (suc (suc (suc zero))) h = (four-zero _ _ _ _ e).3
each-zero len f e (suc (suc (suc (suc k)))) h = absurd (omega arith)

no-name-bytes : (n : Name) → n.len ≡ 0 → name_bytes n ≡ []
unfolding name_bytes
no-name-bytes n e = ap (λ k. take k n.bytes) e

no-ech-bytes : (x : Ech) → x.len ≡ 0 → ech_bytes x ≡ []
unfolding ech_bytes
no-ech-bytes x e = ap (λ k. take k x.bytes) e

pub names-bare : (t : Names) (f : ℕ) → bare_names t f ≡ true → (k : ℕ) → k < 4 → name_bytes_at t (f + k) ≡ []
unfolding bare_names
names-bare t f e k h = no-name-bytes (name_at t (f + k)) (each-zero (λ p. (name_at t p).len) f e k h)

pub echs-bare : (t : Echs) (f : ℕ) → bare_echs t f ≡ true → (k : ℕ) → k < 4 → ech_bytes_at t (f + k) ≡ []
unfolding bare_echs
echs-bare t f e k h = no-ech-bytes (ech_at t (f + k)) (each-zero (λ p. (ech_at t p).len) f e k h)

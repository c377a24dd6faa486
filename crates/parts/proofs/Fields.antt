-- A port field, by what its number says.
use mathlib.Core.Path.{◌≡◌}
use Prim.Native.Nat.{ℕ, ◌-◌}
use borrow.Author.Tests.{eq-eqb, ne_eqb}
use Rattle.records.specs.declared.rules.Port.TheVariants as port
use Rattle.parts.specs.Fields.{port_of}

pub no-port : (v : ℕ) → v ≡ 0 → port.Origin ≡ port_of v
unfolding port_of
no-port v h = rw (eq-eqb v 0 h)

pub own-port : (v : ℕ) → (v ≡ 0 → ⊥) → port.Own (v - 1) ≡ port_of v
unfolding port_of
own-port v h = rw (ne_eqb v 0 h)

use mathlib.Core.Path.{◌≡◌}
use Prim.Native.Nat.{◌-◌}
use Rattle.parts.specs.Items.{items, past}
use Rattle.parts.proofs.row.pass.Given as goal

abbrev pub invariant-loop-i : goal.invariant-loop-i
invariant-loop-i g l = past (items (g.K.Kind.told l.kind l.s) (l.n - l._i) l.p) ≡ past (items (g.K.Kind.told l.kind l.s) l.n l.at)

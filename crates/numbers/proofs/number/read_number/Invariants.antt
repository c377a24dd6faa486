use mathlib.Core.Path.{◌≡◌}
use Prim.Native.Nat.{◌-◌, ◌*◌, ◌^◌, ◌≤◌, ◌<◌}
use Rattle.numbers.specs.Numbers.{read_number}
use Rattle.numbers.proofs.NumberLaws.{here}
use Rattle.numbers.proofs.number.read_number.Given as goal

abbrev pub invariant-loop-p : goal.invariant-loop-p
invariant-loop-p l = (here l.s l.i l.v l.p ≡ read_number l.s l.at) × (l.v < 2 ^ (7 * l.i)) × (l.i ≤ 9)

abbrev pub decreases-loop-p : goal.decreases-loop-p
decreases-loop-p l = 9 - l.i

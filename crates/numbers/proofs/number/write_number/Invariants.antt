use mathlib.Core.Path.{◌≡◌}
use Prim.Native.Nat.{◌+◌, ◌-◌, ◌*◌, ◌^◌, ◌≤◌, ◌<◌}
use lib.ListN.{length}
use lib.Seq.{sets}
use Rattle.numbers.specs.Numbers.{shortest, number_bytes}
use Rattle.numbers.proofs.number.write_number.Given as goal

abbrev pub invariant-loop-v : goal.invariant-loop-v
invariant-loop-v l =
    (sets l.out (l.at + l.i) (shortest (9 - l.i) l.v) ≡ sets l.initial.out l.at (number_bytes l.n)) × (l.i + length (shortest (9 - l.i) l.v) ≡ length (number_bytes l.n))
    × (l.v < 2 ^ (64 - 7 * l.i)) × (l.i ≤ 9) × (length l.out ≡ length l.initial.out)

abbrev pub decreases-loop-v : goal.decreases-loop-v
decreases-loop-v l = 9 - l.i

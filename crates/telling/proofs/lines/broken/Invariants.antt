use Rattle.std.proofs.Common.{◌≤◌, ◌-◌, length}
use Rattle.telling.proofs.lines.broken.Given as goal

abbrev pub invariant-loop-width : goal.invariant-loop-width
invariant-loop-width g l = (l.at ≤ length l.s) × (2 ≤ l.width) × (l.width ≤ 100)

abbrev pub decreases-loop-width : goal.decreases-loop-width
decreases-loop-width g l = length l.s - l.at

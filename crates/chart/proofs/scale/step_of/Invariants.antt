use Rattle.std.proofs.Common.{◌≤◌, ◌-◌}
use Rattle.chart.proofs.scale.step_of.Given as goal

abbrev pub invariant-loop-tens : goal.invariant-loop-tens
invariant-loop-tens l = (1 ≤ l.tens) × (l.tens ≤ 1000000000000000000)

abbrev pub decreases-loop-tens : goal.decreases-loop-tens
decreases-loop-tens l = 1000000000000000001 - l.tens

use Rattle.std.proofs.Common.{◌≤◌, ◌-◌}
use Rattle.story.proofs.show_events.Given as goal

abbrev pub invariant-loop-at : goal.invariant-loop-at
invariant-loop-at g l = 0 ≤ l.at

abbrev pub decreases-loop-at : goal.decreases-loop-at
decreases-loop-at g l = l.end - l.at

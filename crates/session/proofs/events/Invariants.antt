use Rattle.std.proofs.Common.{◌≡◌, ◌-◌, length}
use Rattle.session.proofs.events.Given as goal

abbrev pub invariant-loop-at : goal.invariant-loop-at
invariant-loop-at l = length l.out ≡ length l.fn.out

abbrev pub decreases-loop-at : goal.decreases-loop-at
decreases-loop-at l = length l.tape - l.at

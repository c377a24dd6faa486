-- `replay::check::check_events` meets its contract: each turn of the loop is one event of the check.
use Prim.Native.Nat.{◌-◌}
use lib.ListN.{length}
use Rattle.replay.specs.Check.{check_events}
use Rattle.replay.proofs.Checking.{Left}
use Rattle.replay.proofs.check.check_events.Given as goal

abbrev pub invariant-loop-at : goal.invariant-loop-at
invariant-loop-at l = Left l.tape l.at (check_events (length l.tape) l.tape l.first)

abbrev pub decreases-loop-at : goal.decreases-loop-at
decreases-loop-at l = length l.tape - l.at

use Prim.Native.Nat.{◌-◌}
use lib.ListN.{length}
use Rattle.deal.proofs.Queued.{Filled}
use Rattle.deal.proofs.fill.Given as goal

abbrev pub invariant-loop-i : goal.invariant-loop-i
invariant-loop-i l = Filled l.groups l.i l.queues l.counts

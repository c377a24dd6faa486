use Prim.Native.Nat.{◌-◌}
use lib.ListN.{length}
use Rattle.deal.proofs.Whole.{Between}
use Rattle.deal.proofs.deal_rounds.Given as goal

abbrev pub invariant-loop-m : goal.invariant-loop-m
invariant-loop-m l = Between l.groups l.queues l.counts l.active l.out l.m l.r l.at

abbrev pub decreases-loop-m : goal.decreases-loop-m
decreases-loop-m l = length l.groups - l.r

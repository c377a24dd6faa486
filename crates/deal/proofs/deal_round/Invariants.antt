use Prim.Native.Nat.{◌-◌, ◌≤◌}
use Rattle.deal.proofs.Rounds.{Turn}
use Rattle.deal.proofs.deal_round.Given as goal

abbrev pub invariant-loop-t : goal.invariant-loop-t
invariant-loop-t l = (l.t ≤ l.m) × Turn l.queues l.counts l.initial.active l.initial.out l.r l.at l.t l.k l.active l.out

use Prim.Native.Nat.{◌-◌}
use Rattle.deal.proofs.Rounds.{Chosen}
use Rattle.deal.proofs.first_round.Given as goal

abbrev pub invariant-loop-g : goal.invariant-loop-g
invariant-loop-g l = Chosen l.counts l.active l.m l.g

use native.Mathlib.Omega.{arith}
use Rattle.deal.proofs.Rounds.{chosen-kept, chosen-left}
use Rattle.deal.proofs.first_round.Goals as goal
use Rattle.deal.proofs.first_round.Goals.{else-counts-g-gt0, then-counts-g-gt0}

pub loop-g-preserved : goal.loop-g-preserved
loop-g-preserved c =
    elim c.if-counts-g-gt0.branch [ then-counts-g-gt0 w ↦ rw (w.active-is, w.m-is) (chosen-kept _ _ _ _ c.loop-g.invariant (omega arith) w.if-counts-g-gt0.true) | else-counts-g-gt0 w ↦ rw (w.active-is, w.m-is) (chosen-left _ _ _ _ c.loop-g.invariant (omega arith) w.if-counts-g-gt0.false) ]

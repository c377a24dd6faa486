use Rattle.std.proofs.Common.{arith}
use Rattle.std.proofs.lemmas.Grind.{common_steps}
use Rattle.parts.proofs.Filling.{fill_more, fill_fault, fill_done}
use Rattle.parts.proofs.address.fill.Goals as goal

pub returns-in_err-a-clause-stored : goal.returns-in_err-a-clause-stored
returns-in_err-a-clause-stored g c = λ k h. let u = c.loop-i.invariant.1 k h in let v = fill_fault k _ _ _ _ _ _ u c.loop-i-test.true in grind (arith, common_steps, v)

pub loop-i-preserved : goal.loop-i-preserved
loop-i-preserved g c = (grind (arith, common_steps), λ k h. let u = c.loop-i.invariant.1 k h in rw (h _ _ c.keep.ensures) (fill_more k _ _ _ _ _ _ u c.loop-i-test.true c.in_ok-a.ensures))

pub returns-clause-stored : goal.returns-clause-stored
returns-clause-stored g c = λ k h. fill_done k _ _ _ _ _ _ (c.loop-i.invariant.1 k h) c.loop-i-test.false

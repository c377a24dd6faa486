use native.Mathlib.Omega.{arith}
use Rattle.starting.proofs.Noted.{tried-next, tried-all}
use Rattle.starting.proofs.surveys.tries_of.Goals as goal

pub loop-i-preserved : goal.loop-i-preserved
loop-i-preserved c = tried-next _ _ _ c.loop-i.invariant (omega arith) _ c.noted_attempt-t.ensures

pub returns : goal.returns
returns c = tried-all _ _ _ c.loop-i.invariant (omega arith) c.args.attempts c.in_use-a-items.ensures

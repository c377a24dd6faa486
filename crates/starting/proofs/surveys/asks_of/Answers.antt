use mathlib.Core.Path.{refl}
use native.Mathlib.Omega.{arith}
use Rattle.starting.proofs.Noted.{asked-next, asked-all}
use Rattle.starting.proofs.surveys.asks_of.Goals as goal

pub loop-i-init : goal.loop-i-init
loop-i-init c = rw (c.no_kinds-2.ensures, c.no_kinds.ensures) refl

pub loop-i-preserved : goal.loop-i-preserved
loop-i-preserved c = asked-next _ _ _ c.loop-i.invariant (omega arith) _ c.noted_query-s.ensures

pub returns : goal.returns
returns c = asked-all _ _ _ c.loop-i.invariant (omega arith) c.args.queries c.in_use-q-items.ensures

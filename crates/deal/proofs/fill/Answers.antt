use Prim.Native.Nat.{◌≤◌}
use mathlib.Core.Path.{sym}
use native.Mathlib.Omega.{arith}
use lib.ListN.{get_or}
use Rattle.deal.proofs.Queued.{filled_none, filled-step, filled-end, held-count}
use Rattle.deal.proofs.fill.Goals as goal

-- its queue is not full
counted-2 : (c : goal.After-way_told-in-loop-i-1) → get_or c.loop-i.counts (get_or c.args.groups.now c.loop-i.i 0) 0 ≤ c.loop-i.i
counted-2 c = held-count _ _ _ _ c.loop-i.invariant.held _ (omega arith)

pub loop-i-init : goal.loop-i-init
loop-i-init c = filled_none _ _ _ c.requires.2 c.requires.1

pub bounds-queues-g : goal.bounds-queues-g
bounds-queues-g c = omega (arith, counted-2 c)

pub loop-i-preserved : goal.loop-i-preserved
loop-i-preserved c = filled-step _ _ _ _ c.requires.0 (omega arith) (omega arith) c.loop-i.invariant

pub returns-clause-tested : goal.returns-clause-tested
returns-clause-tested c = let e = filled-end _ _ _ _ c.loop-i-test.false c.loop-i.invariant in sym e.0

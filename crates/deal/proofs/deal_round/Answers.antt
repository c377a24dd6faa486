use Prim.Native.Nat.{◌<◌}
use native.Mathlib.Omega.{arith}
use lib.ListN.{get_or}
use Rattle.deal.proofs.Rounds.{turn-kept, turn-left, turn_end, turn_small}
use Rattle.deal.proofs.deal_round.Goals as goal
use Rattle.deal.proofs.deal_round.Goals.{else-r-counts, then-r-counts}

-- the group at hand is below 8
small : (c : goal.After-g-1) → get_or c.loop-t.active c.loop-t.t 0 < 8
small c = turn_small _ _ _ _ _ _ _ _ _ _ _ c.requires.1 c.loop-t.invariant.1 (omega arith)

-- the group at hand is below 8
small-2 : (c : goal.After-way_told-in-loop-t-1) → get_or c.loop-t.active c.loop-t.t 0 < 8
small-2 c = turn_small _ _ _ _ _ _ _ _ _ _ _ c.requires.1 c.loop-t.invariant.1 (omega arith)

-- the group at hand is below 8
small-3 : (c : goal.After-out-1) → get_or c.loop-t.active c.loop-t.t 0 < 8
small-3 c = turn_small _ _ _ _ _ _ _ _ _ _ _ c.requires.1 c.loop-t.invariant.1 (omega arith)

-- the group at hand is below 8
small-4 : (c : goal.After-way_told-in-loop-t-2-1) → get_or c.loop-t.active c.loop-t.t 0 < 8
small-4 c = turn_small _ _ _ _ _ _ _ _ _ _ _ c.requires.1 c.loop-t.invariant.1 (omega arith)

as_clauses : {A B C : Type 0} → A × (B × C) → record { next : A; dealt : B; length : C }
as_clauses p = record { next = p.0; dealt = p.1.0; length = p.1.1 }

pub overflow_mul-out : goal.overflow_mul-out
overflow_mul-out c = omega (arith, small c)

pub overflow_add-out : goal.overflow_add-out
overflow_add-out c = omega (arith, small c)

pub offset_bounds-queues-g : goal.offset_bounds-queues-g
offset_bounds-queues-g c = omega (arith, small c)

pub bounds-queues-g : goal.bounds-queues-g
bounds-queues-g c = omega (arith, small-2 c)

pub offset_bounds-counts-g : goal.offset_bounds-counts-g
offset_bounds-counts-g c = omega (arith, small-3 c)

pub bounds-counts-g : goal.bounds-counts-g
bounds-counts-g c = small-4 c

pub loop-t-preserved : goal.loop-t-preserved
loop-t-preserved c =
    elim c.if-r-counts.branch [ then-r-counts w ↦ rw (w.active-is, w.k-is) (omega arith, turn-kept _ _ _ _ _ _ _ _ _ _ c.loop-t.invariant.1 (omega arith) c.requires.1.eight (omega arith) w.if-r-counts.true) | else-r-counts w ↦ rw (w.active-is, w.k-is) (omega arith, turn-left _ _ _ _ _ _ _ _ _ _ c.loop-t.invariant.1 (omega arith) c.requires.1.eight (omega arith) w.if-r-counts.false) ]

pub returns : goal.returns
returns c = as_clauses (turn_end _ _ _ _ _ _ _ _ _ _ _ (omega arith) c.requires.1 c.loop-t.invariant.1)

use mathlib.Core.Path.{sym, ◌∙◌}
use native.Mathlib.Omega.{arith}
use Rattle.deal.proofs.Whole.{start, within, fits, next, done}
use Rattle.deal.proofs.deal_rounds.Goals as goal

pub loop-m-init : goal.loop-m-init
loop-m-init c =
    let y = c.if-not-fill.false in
    start _ _ _ _ _ _ c.requires.0 (sym c.fill.ensures.tested ∙ y) (c.fill.ensures.filled y) c.first_round-m.ensures c.requires.1

pub deal_round-k-requires : goal.deal_round-k-requires
deal_round-k-requires c =
    let b = c.loop-m.invariant in
    let more = c.loop-m-test.true in
    (omega (arith, within _ _ _ _ _ _ _ _ b more, b.small), b.actives, fits _ _ _ _ _ _ _ _ b more)

pub loop-m-smaller : goal.loop-m-smaller
loop-m-smaller c = omega (arith, within _ _ _ _ _ _ _ _ c.loop-m.invariant c.loop-m-test.true)

pub loop-m-preserved : goal.loop-m-preserved
loop-m-preserved c =
    next _ _ _ _ _ _ _ _ c.loop-m.invariant _ _ _ c.loop-m-test.true c.deal_round-k.ensures.next c.deal_round-k.ensures.dealt c.deal_round-k.ensures.length

pub returns-clause-dealt : goal.returns-clause-dealt
returns-clause-dealt c =
    let y = c.if-not-fill.false in
    done _ _ _ _ _ _ _ _ c.loop-m.invariant c.loop-m-test.false

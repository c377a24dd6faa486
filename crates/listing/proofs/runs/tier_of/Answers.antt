use mathlib.Core.Path.{◌≡◌}
use native.Mathlib.Omega.{arith}
use lib.ListN.{length}
use Rattle.listing.proofs.Tiers.{filling-none, filling-turn, filling-room, filling-more, filling-end}
use borrow.Author.Rules.{rules}
use Rattle.listing.proofs.runs.tier_of.Goals as goal

pub loop-run-init : goal.loop-run-init
loop-run-init c = filling-none c.args.prefer6 c.args.runs.list _ c.no_undealt-t.ensures

pub bounds-t-at : goal.bounds-t-at
bounds-t-at c =
    let ten : length c.args.runs.list ≡ 10 = search rules in
    filling-room _ _ _ _ _ _ _ c.loop-p.invariant ten c.requires (omega arith) c.loop-p-test.true

pub offset_bounds-t-at : goal.offset_bounds-t-at
offset_bounds-t-at c =
    let ten : length c.args.runs.list ≡ 10 = search rules in
    omega (arith, filling-room _ _ _ _ _ _ _ c.loop-p.invariant ten c.requires (omega arith) c.loop-p-test.true)

pub bounds-t-at-in-loop-p : goal.bounds-t-at-in-loop-p
bounds-t-at-in-loop-p c =
    let ten : length c.args.runs.list ≡ 10 = search rules in
    filling-room _ _ _ _ _ _ _ c.loop-p.invariant ten c.requires (omega arith) c.loop-p-test.true

pub overflow_add-at : goal.overflow_add-at
overflow_add-at c =
    let ten : length c.args.runs.list ≡ 10 = search rules in
    omega (arith, filling-room _ _ _ _ _ _ _ c.loop-p.invariant ten c.requires (omega arith) c.loop-p-test.true)

pub loop-p-preserved : goal.loop-p-preserved
loop-p-preserved c =
    let ten : length c.args.runs.list ≡ 10 = search rules in
    filling-more _ _ _ _ _ _ _ c.loop-p.invariant ten _ _ c.requires (omega arith) c.loop-p-test.true c.item_of-x.ensures c.group_of.ensures

pub loop-run-preserved : goal.loop-run-preserved
loop-run-preserved c =
    let ten : length c.args.runs.list ≡ 10 = search rules in
    filling-turn _ _ _ _ _ _ _ c.loop-p.invariant ten (omega arith) c.loop-p-test.false

pub returns : goal.returns
returns c =
    let ten : length c.args.runs.list ≡ 10 = search rules in
    filling-end _ _ _ _ _ _ _ c.loop-run.invariant ten (omega arith)

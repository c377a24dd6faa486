use mathlib.Core.Path.{◌∙◌}
use Rattle.records.specs.Names.{no_name}
use Rattle.records.specs.Rules.{no_alt, no_alts}
use Rattle.parts.proofs.Filling.{fill_more, fill_fault, fill_done, fill_none, fill_all, fill-over}
use Rattle.configuration.specs.Filling.{alt_of, alt_name, no_alternatives}
use Rattle.configuration.proofs.Rooms.{alternatives-none, alternatives-all}
use Rattle.configuration.proofs.fill_alts.Goals as goal

pub returns-then-l-gt4 : goal.returns-then-l-gt4
returns-then-l-gt4 c = c.no_alternatives-out.ensures ∙ alternatives-none _ _ (fill-over _ 4 _ c.if-l-gt4.true)

pub returns-in_default : goal.returns-in_default
unfolding no_alternatives no_alts
returns-in_default c =
    let u = fill_fault alt_of _ _ _ _ _ _ c.loop-i.invariant.1 c.loop-i-test.true _ _ c.in_default.ensures in
    c.no_alternatives.ensures ∙ alternatives-none _ _ (fill_none alt_of _ _ 4 c.loop-i.invariant.0 no_alt (rw c.no_alternatives-out.ensures at u))

pub loop-i-preserved : goal.loop-i-preserved
unfolding alt_name
loop-i-preserved c = (
  c.loop-i.invariant.0,
  rw c.alt_of.ensures (fill_more alt_of _ _ _ _ _ _ c.loop-i.invariant.1 c.loop-i-test.true c.in-Ok.ensures),
  rw c.host_name.ensures (fill_more (alt_name _) _ _ _ _ _ _ c.loop-i.invariant.2 c.loop-i-test.true c.in-Ok.ensures),
)

pub returns : goal.returns
unfolding no_alternatives no_alts
returns c =
    let u = fill_done alt_of _ _ _ _ _ _ c.loop-i.invariant.1 c.loop-i-test.false in
    let v = fill_done (alt_name _) _ _ _ _ _ _ c.loop-i.invariant.2 c.loop-i-test.false in
    alternatives-all _ _ (fill_all alt_of _ _ 4 c.loop-i.invariant.0 no_alt (rw c.no_alternatives-out.ensures at u))
    (fill_all (alt_name _) _ _ 4 c.loop-i.invariant.0 no_name (rw c.no_alternatives-out.ensures at v)).1

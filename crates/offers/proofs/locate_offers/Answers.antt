use mathlib.Core.Path.{◌∙◌}
use Rattle.std.proofs.Common.{rules}
use Rattle.parts.proofs.Filling.{fill_more, fill_fault, fill_done, fill_none, fill_all, fill-over}
use Rattle.records.specs.Services.{no_service, no_services}
use Rattle.offers.specs.Offers.{service_of, no_span, span_of, no_located}
use Rattle.offers.proofs.Places.{located-none, located-all}
use Rattle.offers.proofs.locate_offers.Goals as goal

pub returns-then-l-gt4 : goal.returns-then-l-gt4
returns-then-l-gt4 c = c.no_located-out.ensures ∙ located-none _ _ (fill-over _ 4 _ c.if-l-gt4.true)

pub loop-i-init : goal.loop-i-init
unfolding no_located no_services
loop-i-init c = rw c.no_located-out.ensures (search rules)

pub returns-in_default : goal.returns-in_default
returns-in_default c =
    let u = fill_fault (service_of _) _ _ _ _ _ _ c.loop-i.invariant.services c.loop-i-test.true _ _ c.in_default.ensures in
    c.no_located.ensures ∙ located-none _ _ (fill_none (service_of _) _ _ 4 c.if-l-gt4.false no_service u)

pub loop-i-preserved : goal.loop-i-preserved
loop-i-preserved c = record {
  services = rw c.service_of.ensures (fill_more (service_of _) _ _ _ _ _ _ c.loop-i.invariant.services c.loop-i-test.true c.in-Ok.ensures);
  names = fill_more (λ o. o.head.name) _ _ _ _ _ _ c.loop-i.invariant.names c.loop-i-test.true c.in-Ok.ensures;
  echs = rw c.span_of.ensures (fill_more (λ o. span_of o.way.ech) _ _ _ _ _ _ c.loop-i.invariant.echs c.loop-i-test.true c.in-Ok.ensures);
}

pub returns : goal.returns
returns c =
    let done = c.loop-i-test.false in
    located-all _ _ (fill_all (service_of _) _ _ 4 c.if-l-gt4.false no_service (fill_done (service_of _) _ _ _ _ _ _ c.loop-i.invariant.services done))
    (fill_all (λ o. o.head.name) _ _ 4 c.if-l-gt4.false no_span (fill_done (λ o. o.head.name) _ _ _ _ _ _ c.loop-i.invariant.names done)).1
    (fill_all (λ o. span_of o.way.ech) _ _ 4 c.if-l-gt4.false no_span (fill_done (λ o. span_of o.way.ech) _ _ _ _ _ _ c.loop-i.invariant.echs done)).1

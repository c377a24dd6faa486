use Rattle.std.proofs.Common.{◌≡◌, ◌-◌, replicate}
use Rattle.records.specs.Services.{no_service}
use Rattle.parts.specs.Filling.{stored}
use Rattle.parts.specs.Items.{items}
use Rattle.offers.specs.Offers.{offer, service_of, no_span, span_of}
use Rattle.offers.proofs.locate_offers.Given as goal

abbrev pub invariant-loop-i : goal.invariant-loop-i
invariant-loop-i l = record {
  services : stored (service_of l.s) l.out.services.list l.i (items (offer l.s) (l.fn.l.count - l.i) l.p) ≡ stored (service_of l.s) (replicate 4 no_service) 0 (items (offer l.s) l.fn.l.count l.fn.l.first);
  names : stored (λ o. o.head.name) l.out.names l.i (items (offer l.s) (l.fn.l.count - l.i) l.p) ≡ stored (λ o. o.head.name) (replicate 4 no_span) 0 (items (offer l.s) l.fn.l.count l.fn.l.first);
  echs : stored (λ o. span_of o.way.ech) l.out.echs l.i (items (offer l.s) (l.fn.l.count - l.i) l.p) ≡ stored (λ o. span_of o.way.ech) (replicate 4 no_span) 0 (items (offer l.s) l.fn.l.count l.fn.l.first);
}

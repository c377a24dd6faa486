-- `listing::sources::Sources::service_runs` meets its contract: the runs at each rank of the enabled versions.
use mathlib.Core.Path.{◌∙◌, ap}
use Rattle.listing.specs.Listing.{service_runs, from_http_versions, enabled, tier_items}
use Rattle.listing.proofs.Shapes.{at-ranks}
use Rattle.listing.proofs.sources.Sources.service_runs.Goals as goal

pub returns : goal.returns
unfolding service_runs from_http_versions
returns c =
    let v = enabled c.args.self.now.rules.versions c.args.s.now.versions in
    ap tier_items c.at_ranks.ensures
    ∙ rw (c.service_hints-hints.ensures, c.service_held-held.ensures, c.ech_if-ech.ensures, c.port_or-port.ensures, c.from_http_versions-ranks.ensures, c.enabled_of.ensures)
    (at-ranks v.h3 v.h2 v.h1 _ _ _ _)

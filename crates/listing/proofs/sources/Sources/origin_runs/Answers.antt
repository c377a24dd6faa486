-- `listing::sources::Sources::origin_runs` meets its contract.
use mathlib.Core.Path.{◌∙◌, ap}
use Rattle.listing.specs.Listing.{origin_runs, from_http_versions, tier_items}
use Rattle.listing.specs.Room.{both_runs}
use Rattle.listing.proofs.Shapes.{at-rank}
use Rattle.listing.proofs.sources.Sources.origin_runs.Goals as goal

pub returns : goal.returns
unfolding origin_runs from_http_versions
returns c =
    ap (λ x. tier_items (both_runs x)) c.host_runs.ensures ∙ rw c.origin_targets.ensures (at-rank c.args.self.now.rules.versions.h2 c.args.self.now.rules.versions.h1 _ _ _ _ c.combine-ranks.ensures)

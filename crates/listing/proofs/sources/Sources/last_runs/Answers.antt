-- `listing::sources::Sources::last_runs` meets its contract: four alternative services and the origin.
use mathlib.Core.Path.{◌≡◌, ◌∙◌, ap, sym}
use lib.ListN.{length}
use Rattle.listing.specs.Listing.{tier_items}
use Rattle.listing.specs.Room.{both_runs}
use Rattle.listing.proofs.Shapes.{five, last-five}
use borrow.Author.Rules.{rules}
use Rattle.listing.proofs.sources.Sources.last_runs.Goals as goal

pub returns : goal.returns
returns c =
    let e : length c.args.alts.list ≡ 4 = search rules in
    ap tier_items c.runs_of.ensures
    ∙ five (both_runs c.alt_runs.result) (both_runs c.alt_runs-2.result) (both_runs c.alt_runs-3.result) (both_runs c.alt_runs-4.result) (both_runs c.origin_runs.result)
    ∙ rw (c.alt_runs.ensures, c.alt_runs-2.ensures, c.alt_runs-3.ensures, c.alt_runs-4.ensures, c.origin_runs.ensures) (sym (last-five _ _ _ _ e))

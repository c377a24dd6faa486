-- `listing::sources::Sources::alt_runs` meets its contract: past the count there is none; a version that isn't enabled has none.
use mathlib.Core.Path.{◌∙◌, ap}
use borrow.Author.Tests.{lt-ltb, le-ltb}
use Prim.Native.Nat.{◌+◌}
use mathlib.Core.Bool.{false}
use lib.ListN.{get_or}
use Rattle.records.specs.declared.names.EchPlace.TheVariants.{Without}
use Rattle.records.specs.declared.endpoints.Rank.TheVariants.{H3}
use Rattle.records.specs.Rules.{no_alt}
use Rattle.listing.specs.Listing.{nothing, is_enabled, rank_of, port_or, alt_targets, alt_runs, tier_items}
use Rattle.listing.specs.Room.{alt_runs_at, both_runs}
use Rattle.listing.proofs.Shapes.{runs-if}
use Rattle.records.specs.Classes.{same_class}
use Rattle.listing.proofs.sources.Sources.alt_runs.Goals as goal

pub returns-then-alts-at : goal.returns-then-alts-at
unfolding alt_runs_at
returns-then-alts-at c = ap (λ x. tier_items (both_runs x)) c.no_host_runs.ensures ∙ rw (le-ltb _ _ c.if-alts-at.true) (runs-if false nothing 0 Without H3)

pub returns : goal.returns
unfolding alt_runs_at alt_runs
returns c =
    let x = get_or c.args.alts.now.list c.args.i no_alt in
    ap (λ y. tier_items (both_runs y)) c.host_runs.ensures
    ∙ rw (lt-ltb _ _ c.if-alts-at.false, c.rank_of.ensures, c.port_or.ensures, c.alt_targets.ensures, c.is_enabled.ensures)
    (runs-if (is_enabled c.args.self.now.rules.versions x.version) (alt_targets c.args.self.now.rules c.args.self.now.queries (same_class c.args.self.now.same) (c.args.i + 1) x.host) (port_or c.args.self.now.rules.port x.port) Without (rank_of x.version))

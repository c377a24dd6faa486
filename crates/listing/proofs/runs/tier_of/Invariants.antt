-- `listing::runs::tier_of` meets its contract: run after run, place after place.
use Rattle.listing.proofs.Tiers.{Filling}
use Rattle.listing.proofs.runs.tier_of.Given as goal

abbrev pub invariant-loop-run : goal.invariant-loop-run
invariant-loop-run l = Filling l.prefer6 l.run-items l.run-index 0 l.at l.t.list l.t.groups

abbrev pub invariant-loop-p : goal.invariant-loop-p
invariant-loop-p l = Filling l.prefer6 l.run-items l.run-index l.p l.at l.t.list l.t.groups

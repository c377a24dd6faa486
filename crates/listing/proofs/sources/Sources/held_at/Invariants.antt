-- `listing::sources::Sources::held_at` meets its contract: what is left holds the first exactly if all do.
use mathlib.Core.Path.{◌≡◌}
use lib.ListN.{drop}
use Rattle.records.specs.Classes.{same_class}
use Rattle.listing.specs.Held.{is_held, first_held}
use Rattle.listing.proofs.sources.Sources.held_at.Given as goal

abbrev pub invariant-loop-i : goal.invariant-loop-i
invariant-loop-i l =
    first_held (is_held (same_class l.self.same) l.kind l.place) l.i (drop l.i l.asked) ≡ first_held (is_held (same_class l.self.same) l.kind l.place) 0 l.asked

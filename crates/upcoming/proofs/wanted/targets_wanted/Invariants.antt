-- `upcoming::wanted::targets_wanted` meets its contract: what is left wants first what all want first.
use mathlib.Core.Path.{◌≡◌}
use lib.ListN.{drop}
use Rattle.records.specs.Classes.{same_class}
use Rattle.upcoming.specs.Wanted.{first_wanted, target_wanted}
use Rattle.upcoming.proofs.wanted.targets_wanted.Given as goal

abbrev pub invariant-loop-s : goal.invariant-loop-s
invariant-loop-s l = first_wanted (λ j. target_wanted l.p l.queries (same_class l.same) l.sealed) l.s-index (drop l.s-index l.s-items) ≡ first_wanted (λ j. target_wanted l.p l.queries (same_class l.same) l.sealed) 0 l.s-items

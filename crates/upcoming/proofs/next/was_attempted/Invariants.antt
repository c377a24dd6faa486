-- `upcoming::next::was_attempted` meets its contract: what is left has one exactly if all do.
use mathlib.Core.Path.{◌≡◌}
use lib.ListN.{drop}
use Rattle.records.specs.Lists.{some?}
use Rattle.upcoming.specs.Alike.{alike_endpoints}
use Rattle.upcoming.proofs.next.was_attempted.Given as goal

abbrev pub invariant-loop-a : goal.invariant-loop-a
invariant-loop-a l = some? (λ x. alike_endpoints l.hosts l.echs l.e x.endpoint) (drop l.a-index l.a-items) ≡ some? (λ x. alike_endpoints l.hosts l.echs l.e x.endpoint) l.a-items

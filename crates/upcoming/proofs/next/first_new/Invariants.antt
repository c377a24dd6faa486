-- `upcoming::next::first_new` meets its contract: what is left has first what all have first.
use mathlib.Core.Path.{◌≡◌}
use lib.ListN.{drop}
use Rattle.upcoming.specs.Alike.{alike_endpoints}
use Rattle.upcoming.specs.Next.{first_next, item_new}
use Rattle.upcoming.proofs.next.first_new.Given as goal

abbrev pub invariant-loop-x : goal.invariant-loop-x
invariant-loop-x l = first_next (item_new (alike_endpoints l.hosts l.echs) l.rules l.alts l.answers l.services l.attempts) (drop l.x-index l.x-items) ≡ first_next (item_new (alike_endpoints l.hosts l.echs) l.rules l.alts l.answers l.services l.attempts) l.x-items

-- `upcoming::next::next_retry` meets its contract: what is left has first what all have first.
use mathlib.Core.Path.{◌≡◌}
use lib.ListN.{drop}
use Rattle.upcoming.specs.Alike.{alike_endpoints}
use Rattle.upcoming.specs.Next.{first_next, retry_new}
use Rattle.upcoming.proofs.next.next_retry.Given as goal

abbrev pub invariant-loop-p : goal.invariant-loop-p
invariant-loop-p l = first_next (retry_new (alike_endpoints l.alike.hosts l.alike.echs) l.attempts) (drop l.p-index l.p-items) ≡ first_next (retry_new (alike_endpoints l.alike.hosts l.alike.echs) l.attempts) l.p-items

-- `upcoming::wanted::asked_for` meets its contract: what the first ones have, or the rest, some record has.
use mathlib.Core.Path.{◌≡◌}
use lib.ListN.{drop}
use Rattle.records.specs.Classes.{same_class}
use mathlib.Core.Bool.{◌||◌}
use Rattle.records.specs.Lists.{some?}
use Rattle.records.specs.declared.queries.Kind.TheVariants.{Aaaa, A}
use Rattle.upcoming.specs.Wanted.{is_asked_at}
use Rattle.upcoming.proofs.wanted.asked_for.Given as goal

abbrev pub invariant-loop-q : goal.invariant-loop-q
invariant-loop-q l = (l.six || some? (is_asked_at (same_class l.same) Aaaa l.place) (drop l.q-index l.q-items) ≡ some? (is_asked_at (same_class l.same) Aaaa l.place) l.q-items) × (l.four || some? (is_asked_at (same_class l.same) A l.place) (drop l.q-index l.q-items) ≡ some? (is_asked_at (same_class l.same) A l.place) l.q-items)

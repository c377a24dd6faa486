-- `starting::surveys::hints_of` meets its contract: what the first ones have, or the rest, some service has.
use mathlib.Core.Path.{◌≡◌}
use mathlib.Core.Bool.{◌||◌}
use lib.Dec.{ltb}
use lib.ListN.{drop}
use Rattle.records.specs.Lists.{some?}
use Rattle.starting.proofs.surveys.hints_of.Given as goal

abbrev pub invariant-loop-s : goal.invariant-loop-s
invariant-loop-s l =
    (l.six || some? (λ x. ltb 0 x.n6) (drop l.s-index l.s-items) ≡ some? (λ x. ltb 0 x.n6) l.s-items)
    × (l.four || some? (λ x. ltb 0 x.n4) (drop l.s-index l.s-items) ≡ some? (λ x. ltb 0 x.n4) l.s-items)

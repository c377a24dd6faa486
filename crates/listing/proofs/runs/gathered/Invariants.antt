-- `listing::runs::gathered` meets its contract: one reference more, at the next position of the order.
use mathlib.Core.Path.{◌≡◌}
use mathlib.Core.List.{map}
use lib.ListN.{get_or, take}
use Rattle.records.specs.Lists.{padded}
use Rattle.records.specs.References.{no_item}
use Rattle.listing.proofs.runs.gathered.Given as goal

abbrev pub invariant-loop-k : goal.invariant-loop-k
invariant-loop-k l = l.out.list ≡ padded 80 no_item (map (λ i. get_or l.t.list i no_item) (take l.k l.dealt))

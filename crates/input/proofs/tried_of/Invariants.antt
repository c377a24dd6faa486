-- `input::tried_of` meets its contract: what is left holds the attempt exactly if all do.
use mathlib.Core.Path.{◌≡◌}
use lib.ListN.{drop}
use Rattle.input.specs.Input.{tried_from}
use Rattle.input.proofs.tried_of.Given as goal

abbrev pub invariant-loop-i : goal.invariant-loop-i
invariant-loop-i l = tried_from l.i (drop l.i l.a-items) l.id ≡ tried_from 0 l.a-items l.id

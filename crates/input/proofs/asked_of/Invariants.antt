-- `input::asked_of` meets its contract: what is left holds the record exactly if all do.
use mathlib.Core.Path.{◌≡◌}
use lib.ListN.{drop}
use Rattle.input.specs.Input.{asked_from}
use Rattle.input.proofs.asked_of.Given as goal

abbrev pub invariant-loop-i : goal.invariant-loop-i
invariant-loop-i l = asked_from l.i (drop l.i l.q-items) l.id ≡ asked_from 0 l.q-items l.id

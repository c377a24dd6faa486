use mathlib.Core.Path.{sym, ◌∙◌}
use Rattle.records.proofs.Classes.{found_here}
use Rattle.records.proofs.places.class_of.Goals as goal

pub returns-then-same-2 : goal.returns-then-same-2
returns-then-same-2 g c =
    found_here _ _ _ _ (sym c.same.ensures ∙ c.if-same.false) c.loop-q-test.true (sym c.same-in-loop-q.ensures ∙ c.if-same-2.true) c.loop-q.invariant

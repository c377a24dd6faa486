use mathlib.Core.Path.{sym, ap, ◌∙◌}
use mathlib.Core.Bool.{◌||◌}
use Rattle.records.specs.Lists.{some?}
use Rattle.records.specs.Queries.{no_query}
use Rattle.upcoming.specs.Wanted.{asked_for}
use Rattle.upcoming.proofs.Wanting.{or_more, or_past}
use Rattle.upcoming.proofs.wanted.asked_for.Goals as goal

pub loop-q-preserved : goal.loop-q-preserved
loop-q-preserved c =
    let six = c.either-six.ensures ∙ ap (λ b. c.loop-q.six || b) c.is_asked.ensures in
    let four = c.either-four.ensures ∙ ap (λ b. c.loop-q.four || b) c.is_asked-in-loop-q.ensures in
    (or_more _ no_query _ _ _ _ c.loop-q-test.true six ∙ c.loop-q.invariant.0, or_more _ no_query _ _ _ _ c.loop-q-test.true four ∙ c.loop-q.invariant.1)

pub returns : goal.returns
unfolding asked_for
returns c =
    let six = sym (or_past _ _ _ _ c.loop-q-test.false) ∙ (c.loop-q.invariant.0 ∙ ap (some? _) c.in_use-q-items.ensures) in
    let four = sym (or_past _ _ _ _ c.loop-q-test.false) ∙ (c.loop-q.invariant.1 ∙ ap (some? _) c.in_use-q-items.ensures) in
    rw (six, four)

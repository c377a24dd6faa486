use mathlib.Core.Path.{ap, ◌∙◌}
use lib.Dec.{ltb}
use Rattle.records.specs.Lists.{some?}
use Rattle.records.specs.Services.{blank_service}
use Rattle.starting.specs.Surveys.{hints_of}
use Rattle.starting.proofs.Noted.{some-next, some-all}
use Rattle.starting.proofs.surveys.hints_of.Goals as goal

pub loop-s-preserved : goal.loop-s-preserved
loop-s-preserved c =
    (some-next blank_service _ _ _ _ _ c.loop-s.invariant.0 c.loop-s-test.true _ c.either-six.ensures, some-next blank_service _ _ _ _ _ c.loop-s.invariant.1 c.loop-s-test.true _ c.either-four.ensures)

pub returns : goal.returns
unfolding hints_of
returns c =
    let six = some-all blank_service _ _ _ _ _ c.loop-s.invariant.0 c.loop-s-test.false ∙ ap (some? (λ x. ltb 0 x.n6)) c.in_use-s-items.ensures in
    let four = some-all blank_service _ _ _ _ _ c.loop-s.invariant.1 c.loop-s-test.false ∙ ap (some? (λ x. ltb 0 x.n4)) c.in_use-s-items.ensures in
    rw (six, four)

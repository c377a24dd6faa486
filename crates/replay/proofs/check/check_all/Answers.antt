-- `replay::check::check_all` meets its contract: the configuration first, then the events.
use Rattle.std.proofs.Common.{arith}
use Rattle.std.proofs.lemmas.Grind.{common_steps}
use mathlib.Core.Path.{refl, ◌∙◌}
use Rattle.replay.proofs.Checking.{some-number, check-refused, check-fault, check_sound}
use Rattle.replay.proofs.Framed.{body-lies}
use Rattle.replay.proofs.check.check_all.Goals as goal

pub returns-in_err-b : goal.returns-in_err-b
returns-in_err-b c = let v = check-refused _ c.in_err-b.ensures.shown in grind (arith, common_steps, v)

pub returns-in_err-check_setup : goal.returns-in_err-check_setup
returns-in_err-check_setup c =
    let came = c.in_ok-b.ensures.shown in
    let v = check-fault _ _ came (body-lies _ _ _ _ came).bytes c.in_err-check_setup.ensures (some-number _) in
    grind (arith, common_steps, v)

pub returns : goal.returns
returns c =
    let came = c.in_ok-b.ensures.shown in
    c.check_events.ensures ∙ check_sound _ _ came (body-lies _ _ _ _ came).bytes c.in_ok-check_setup.ensures refl

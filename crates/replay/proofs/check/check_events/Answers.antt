-- `replay::check::check_events` meets its contract, by what each event's frame and body say.
use Rattle.std.proofs.Common.{arith}
use Rattle.std.proofs.lemmas.Grind.{common_steps}
use mathlib.Core.Path.{refl}
use Rattle.replay.proofs.Checking.{some-number, left_end, left-refused, left-fault, left-go}
use Rattle.replay.proofs.Framed.{frame-lies}
use Rattle.replay.proofs.check.check_events.Goals as goal

pub returns-in_err-f : goal.returns-in_err-f
returns-in_err-f c = let v = left-refused _ _ _ c.loop-at.invariant c.loop-at-test.true c.in_err-f.ensures.shown in grind (arith, common_steps, v)

pub returns-in_err-check_event : goal.returns-in_err-check_event
returns-in_err-check_event c =
    let came = c.in_ok-f.ensures.shown in
    let v = left-fault _ _ _ came (frame-lies _ _ _ _ came).bytes c.in_err-check_event.ensures c.loop-at.invariant c.loop-at-test.true (some-number _) in
    grind (arith, common_steps, v)

pub loop-at-preserved : goal.loop-at-preserved
loop-at-preserved c =
    let came = c.in_ok-f.ensures.shown in
    left-go _ _ _ came (frame-lies _ _ _ _ came).bytes c.in_ok-check_event.ensures c.loop-at.invariant c.loop-at-test.true refl

pub returns : goal.returns
returns c = left_end _ _ _ c.loop-at.invariant c.loop-at-test.false

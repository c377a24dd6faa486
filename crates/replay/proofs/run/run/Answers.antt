-- `replay::run::run` meets its contract: an event more, and the three ways to stop.
use Prim.Native.Nat.{◌≤◌}
use mathlib.Core.Path.{◌≡◌, refl, sym, ap, ◌∙◌}
use native.Mathlib.Omega.{arith}
use Rattle.std.proofs.lemmas.Result.{IfOk-at_ok}
use Rattle.numbers.specs.Got.{got}
use Rattle.numbers.specs.Shown.{shown}
use Rattle.replay.specs.Frames.{frame_at}
use Rattle.replay.specs.Replay.{step_of}
use Rattle.replay.specs.Saying.{end_shown}
use Rattle.replay.proofs.Framed.{frame-lies}
use Rattle.replay.proofs.Steps.{few-calls}
use Rattle.replay.proofs.Turning.{tied-start, tied-next, tied-end, tied-refused, tied-full, did-not, no-fit, stopped}
use Rattle.replay.proofs.run.run.Goals as goal

as_clauses : {A B : Type 0} → A × B → record { numbers : A; bytes : B }
as_clauses p = record { numbers = p.0; bytes = p.1 }

pub loop-done-init : goal.loop-done-init
loop-done-init c = record { tied = rw c.new-race.ensures (tied-start _ _ _ _); sound = refl }

pub returns-in-Err : goal.returns-in-Err
returns-in-Err c =
    as_clauses (rw c.refusal_number.ensures (stopped _ _ _ _ _ _ _ (tied-refused _ _ _ _ _ _ _ _ _ c.loop-done.invariant.tied c.loop-done-test.true (sym (ap shown c.in-Err.is) ∙ c.frame_at.ensures.shown))))

pub returns-in-Err-event : goal.returns-in-Err-event
returns-in-Err-event c =
    let came : got c.in-Ok.f c.in-Ok.next ≡ frame_at c.args.tape.now c.loop-done.done.place = sym (ap shown c.in-Ok.is) ∙ c.frame_at.ensures.shown in
    let step = ap (step_of c.loop-done.race c.in-Ok.f.moment) (sym (frame-lies _ _ _ _ came).bytes) in
    let p = sym (ap end_shown c.in-Err-event.is) ∙ c.event.ensures.answer in
    let s = stopped _ _ _ _ _ _ _ (tied-full _ _ _ _ _ _ _ _ _ came step c.loop-done.invariant.tied c.loop-done-test.true p) in
    let n = c.refusal_number-in-Err-event.ensures ∙ no-fit _ _ _ p in
    as_clauses ((n ∙ s.0.0, s.0.1, s.0.2, s.0.3), c.event.ensures.bytes ∙ ((did-not _ _ _ p).1 ∙ s.1))

-- no more calls than bytes
pub overflow_add-done : goal.overflow_add-done
overflow_add-done c =
    let one : c.in-Ok-event.counted ≤ 1 = rw (IfOk-at_ok _ c.in-Ok-event.is c.event.ensures.after).0 (few-calls _ _ _) in
    omega (arith, c.loop-done.invariant.tied.few, c.loop-done-test.true, one)

pub loop-done-preserved : goal.loop-done-preserved
loop-done-preserved c =
    let came : got c.in-Ok.f c.in-Ok.next ≡ frame_at c.args.tape.now c.loop-done.done.place = sym (ap shown c.in-Ok.is) ∙ c.frame_at.ensures.shown in
    let step = ap (step_of c.loop-done.race c.in-Ok.f.moment) (sym (frame-lies _ _ _ _ came).bytes) in
    let after = IfOk-at_ok _ c.in-Ok-event.is c.event.ensures.after in
    record {
      tied = tied-next _ _ _ _ _ _ _ _ _ came step c.loop-done.invariant.tied c.loop-done-test.true after.0 after.1 (sym (ap end_shown c.in-Ok-event.is) ∙ c.event.ensures.answer) c.event.ensures.bytes;
      sound = c.loop-done.invariant.sound;
    }

pub returns : goal.returns
returns c =
    as_clauses (rw c.loop-done.invariant.sound (stopped _ _ _ _ _ _ _ (tied-end _ _ _ _ _ _ _ _ _ c.loop-done.invariant.tied c.loop-done-test.false)))

use Rattle.std.proofs.Common.{arith}
use Rattle.std.proofs.lemmas.Grind.{common_steps}
use mathlib.Core.Path.{sym, ap, ◌∙◌}
use Rattle.numbers.specs.Put.{put_answer, put_bytes}
use Rattle.answers.specs.Answers.{answer_bytes}
use Rattle.bodies.specs.Told.{beside_of}
use Rattle.replies.specs.Replies.{after}
use Rattle.replay.specs.Replay.{Step}
use Rattle.replay.proofs.Steps.{race-step}
use Rattle.replay.proofs.race.Race.event.Goals as goal

pub returns-in_err-end-clause-answer : goal.returns-in_err-end-clause-answer
returns-in_err-end-clause-answer c =
    let v = c.in_err-end.ensures.answer ∙ ap (λ (s : Step). put_answer c.args.out.now c.args.at (answer_bytes s.said)) (sym (race-step c.args.self.now _ _ _ c.read_event-read.ensures c.reply-reply.ensures.reply)) in
    grind (arith, common_steps, v)

pub returns-in_err-end-clause-bytes : goal.returns-in_err-end-clause-bytes
returns-in_err-end-clause-bytes c =
    c.in_err-end.ensures.bytes ∙ ap (λ (s : Step). put_bytes c.args.out.now c.args.at (answer_bytes s.said)) (sym (race-step c.args.self.now _ _ _ c.read_event-read.ensures c.reply-reply.ensures.reply))

pub returns-clause-answer : goal.returns-clause-answer
returns-clause-answer c =
    (c.in_ok-end.ensures.answer ∙ ap (λ (s : Step). put_answer c.args.out.now c.args.at (answer_bytes s.said)) (sym (race-step c.args.self.now _ _ _ c.read_event-read.ensures c.reply-reply.ensures.reply)))

pub returns-clause-bytes : goal.returns-clause-bytes
returns-clause-bytes c =
    c.in_ok-end.ensures.bytes ∙ ap (λ (s : Step). put_bytes c.args.out.now c.args.at (answer_bytes s.said)) (sym (race-step c.args.self.now _ _ _ c.read_event-read.ensures c.reply-reply.ensures.reply))

pub returns-clause-after : goal.returns-clause-after
returns-clause-after c =
    let made = sym (race-step c.args.self.now c.args.now c.args.body.now c.read_event-read.result c.read_event-read.ensures c.reply-reply.ensures.reply) in (
      ap (λ (s : Step). s.calls) made,
      c.store.ensures ∙ (ap (λ e. after c.args.self.now c.reply-reply.result.change (beside_of c.args.body.now e)) c.event_in.ensures ∙ ap (λ (s : Step). s.machine) made),
    )

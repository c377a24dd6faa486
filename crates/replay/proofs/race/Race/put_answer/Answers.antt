use mathlib.Core.Path.{ap, ◌∙◌}
use native.Mathlib.Omega.{arith}
use Rattle.numbers.specs.Put.{put_answer, put_bytes}
use Rattle.answers.specs.Answers.{answer_bytes}
use Rattle.replies.specs.declared.Answer.TheVariants as answer
use Rattle.replay.proofs.Steps.{name-inside, ech-inside, said_in_lem}
use Rattle.replay.proofs.race.Race.put_answer.Goals as goal

-- the places that an output has are places of the tables
pub bounds-m-np : goal.bounds-m-np
bounds-m-np c = rw c.output_name-np.ensures (name-inside (answer.Output _))

pub offset_bounds-m-np : goal.offset_bounds-m-np
offset_bounds-m-np c = omega (arith, c.output_name-np.ensures, name-inside (answer.Output c.in-Output.o))

pub bounds-m-ep : goal.bounds-m-ep
bounds-m-ep c = rw c.output_ech-ep.ensures (ech-inside (answer.Output _))

pub offset_bounds-m-ep : goal.offset_bounds-m-ep
offset_bounds-m-ep c = omega (arith, c.output_ech-ep.ensures, ech-inside (answer.Output c.in-Output.o))

pub returns-in-Output-clause-answer : goal.returns-in-Output-clause-answer
returns-in-Output-clause-answer c =
    rw (← c.self.view_is, c.in-Output.is)
    (c.put_output.ensures.answer ∙ ap (λ s. put_answer c.args.out.now c.args.at (answer_bytes s)) (said_in_lem c.self.inside.machine (answer.Output c.in-Output.o) _ _ c.output_name-np.ensures c.output_ech-ep.ensures))

pub returns-in-Output-clause-bytes : goal.returns-in-Output-clause-bytes
returns-in-Output-clause-bytes c =
    rw (← c.self.view_is, c.in-Output.is)
    (c.put_output.ensures.bytes ∙ ap (λ s. put_bytes c.args.out.now c.args.at (answer_bytes s)) (said_in_lem c.self.inside.machine (answer.Output c.in-Output.o) _ _ c.output_name-np.ensures c.output_ech-ep.ensures))

-- `replay::frames::configuration_at` meets its contract: where the body lies.
use mathlib.Core.Path.{sym, ap, ◌∙◌}
use Rattle.numbers.specs.Shown.{shown}
use Rattle.replay.proofs.Framed.{body-lies}
use Rattle.replay.proofs.frames.configuration_at.Goals as goal

pub returns-clause-within : goal.returns-clause-within
returns-clause-within c b next told =
    let l = body-lies c.args.tape.now 0 b next (sym (ap shown told) ∙ c.body_at.ensures) in (l.start, l.inside)

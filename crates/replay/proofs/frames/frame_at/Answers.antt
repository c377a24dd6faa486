-- `replay::frames::frame_at` meets its contract.
use mathlib.Core.Path.{sym, ap, ◌∙◌}
use Rattle.numbers.specs.Shown.{shown}
use Rattle.numbers.proofs.Steps.{went_on}
use Rattle.replay.specs.Frames.{frame_at}
use Rattle.replay.proofs.Framed.{frame-lies}
use Rattle.replay.proofs.frames.frame_at.Goals as goal

pub returns-clause-shown : goal.returns-clause-shown
unfolding frame_at
returns-clause-shown c = went_on _ _ _ c.in_ok-body.ensures ∙ went_on _ _ _ c.in_ok-moment.ensures

pub returns-clause-within : goal.returns-clause-within
returns-clause-within c f next told =
    let l = frame-lies c.args.tape.now c.args.at f next (sym (ap shown told) ∙ returns-clause-shown c) in (l.before, l.start, l.inside)

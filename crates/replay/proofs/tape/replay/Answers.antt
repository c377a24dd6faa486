-- `replay::tape::replay` meets its contract, by whether the configuration's frame was read.
use mathlib.Core.Path.{◌≡◌, refl, sym, ap, ◌∙◌}
use Rattle.numbers.specs.Got.{got}
use Rattle.numbers.specs.Shown.{shown}
use Rattle.replay.specs.Frames.{body_at}
use Rattle.replay.proofs.Framed.{body-lies}
use Rattle.replay.proofs.Taped.{refused-tape, sound-tape}
use Rattle.replay.proofs.tape.replay.Goals as goal

as_clauses : {A B : Type 0} → A × B → record { numbers : A; bytes : B }
as_clauses p = record { numbers = p.0; bytes = p.1 }

pub returns-in-Err : goal.returns-in-Err
returns-in-Err c = as_clauses (rw (refused-tape _ _ (sym (ap shown c.in-Err.is) ∙ c.configuration_at.ensures.shown)) (rw c.refusal_number.ensures at c.stopped.ensures, refl))

pub returns-in-Ok : goal.returns-in-Ok
returns-in-Ok c =
    let came : got c.in-Ok.b c.in-Ok.next ≡ body_at c.args.tape.now 0 = sym (ap shown c.in-Ok.is) ∙ c.configuration_at.ensures.shown in
    as_clauses (rw (sound-tape _ _ _ _ came (body-lies _ _ _ _ came).bytes) (c.configured.ensures.numbers, c.configured.ensures.bytes))

-- `replay::tape::configured` meets its contract, by whether the configuration was read.
use mathlib.Core.Path.{refl, sym, ap, ◌∙◌}
use Rattle.parts.specs.Shown.{shown}
use Rattle.replay.specs.Replay.{machine_of}
use Rattle.replay.proofs.Taped.{refused-setup, sound-setup}
use Rattle.replay.proofs.tape.configured.Goals as goal

as_clauses : {A B : Type 0} → A × B → record { numbers : A; bytes : B }
as_clauses p = record { numbers = p.0; bytes = p.1 }

pub returns-in-Err : goal.returns-in-Err
returns-in-Err c = as_clauses (rw (refused-setup _ _ _ _ (sym (ap shown c.in-Err.is) ∙ c.read_configuration.ensures)) (rw c.refusal_number.ensures at c.stopped.ensures, refl))

pub returns-in-Ok : goal.returns-in-Ok
unfolding machine_of
returns-in-Ok c = as_clauses (rw (sound-setup _ _ _ _ (sym (ap shown c.in-Ok.is) ∙ c.read_configuration.ensures), ← c.fill_configuration-c.ensures) (c.run.ensures.numbers, c.run.ensures.bytes))

-- `live::feed` meets its contract, by what was read.
use mathlib.Core.Path.{sym, ap, ◌∙◌}
use Rattle.parts.specs.Shown.{shown}
use Rattle.live.proofs.Feeding.{fed-fault, fed-event}
use Rattle.live.proofs.feed.Goals as goal

pub returns-in-Err : goal.returns-in-Err
returns-in-Err c =
    rw c.refusal_number.ensures (fed-fault _ _ _ (sym (ap shown c.in-Err.is) ∙ c.read_event.ensures))

pub returns-in-Ok : goal.returns-in-Ok
returns-in-Ok c =
    c.event_fed.ensures ∙ fed-event _ _ _ (sym (ap shown c.in-Ok.is) ∙ c.read_event.ensures)

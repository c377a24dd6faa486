-- Whatever happens, from the making on, the standing rules hold.
use mathlib.Core.Path.{◌≡◌}
use mathlib.Core.Bool.{true}
use mathlib.Core.List.{List, [], ◌∷◌}
use Rattle.records.specs.declared.names.Names.{Names}
use Rattle.records.specs.declared.rules.Alts.{Alts}
use Rattle.records.specs.declared.rules.Rules.{Rules}
use Rattle.records.specs.declared.rules.Timing.{Timing}
use Rattle.state.specs.State.{made}
use Rattle.state.specs.declared.Machine.{Machine}
use Rattle.standing.specs.Lists.{every}
use Rattle.standing.specs.Standing.{standing}
use Rattle.standing.specs.Making.{configuration_sound}
use Rattle.standing.specs.Kept.{Event, call, feed, in_form, after, after_all}
use Rattle.standing.proofs.Lists.{left, right}
use Rattle.standing.proofs.Parts.{Standing, stands, parts}
use Rattle.standing.proofs.Outputs.{output-stands}
use Rattle.standing.proofs.Inputs.{input-stands}
use Rattle.standing.proofs.Making.{made-stands}

pub event-stands : (m : Machine) (e : Event) → Standing m → in_form e ≡ true → Standing (after m e)
event-stands m (call now) h s = output-stands m now h
event-stands m (feed now i b) h s = input-stands m now i b h s

pub events-stand : (m : Machine) (es : List Event) → Standing m → every in_form es ≡ true → Standing (after_all m es)
unfolding after_all every
events-stand m [] h s = h
events-stand m (e ∷ es) h s = events-stand (after m e) es (event-stands m e h (left _ _ s)) (right _ _ s)

-- Every machine that a history reaches keeps the standing rules.
pub reached-stands : (r : Rules) (t : Timing) (l : Alts) (n : Names) (es : List Event) → configuration_sound r l n ≡ true → every in_form es ≡ true
    → standing (after_all (made r t l n) es) ≡ true
reached-stands r t l n es c s = stands (events-stand (made r t l n) es (parts _ (made-stands r t l n c)) s)

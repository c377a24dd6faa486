use mathlib.Core.Path.{ap, ◌∙◌}
use Rattle.records.specs.Names.{same_bytes}
use Rattle.records.proofs.names.EchsPlaces.same.Goals as goal

pub returns-else-p-q : goal.returns-else-p-q
returns-else-p-q c =
    c.same_bytes.ensures ∙ (ap (λ x. same_bytes x c.bytes_at-other.result.now) c.bytes_at-one.ensures ∙ ap (same_bytes _) c.bytes_at-other.ensures)

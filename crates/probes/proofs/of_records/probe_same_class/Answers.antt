-- `probes::of_records::probe_same_class` meets its contract.
use Rattle.std.proofs.Common.{ap, ◌∙◌}
use Rattle.records.specs.Classes.{same_names, same_class}
use Rattle.records.proofs.Classes.{classes-same}
use Rattle.probes.specs.Flat.{names_of}
use Rattle.probes.specs.Words.{flag_of}
use Rattle.probes.proofs.of_records.probe_same_class.Goals as goal

pub returns : goal.returns
returns c =
    ap flag_of (
    c.same_class.ensures
    ∙ ap (λ s. same_class s c.args.p c.args.q) (c.same_names-same.ensures ∙ ap same_names c.names.ensures)
    ∙ ap (λ f. f c.args.p c.args.q) (classes-same (names_of c.args.lengths.now 0 c.args.bytes.now))
    )

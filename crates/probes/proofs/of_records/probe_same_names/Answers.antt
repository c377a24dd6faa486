use Rattle.std.proofs.Common.{◌≡◌, length, refl, ap, ◌∙◌, arith}
use lib.Seq.{sets}
use Rattle.records.specs.Classes.{same_names, classes_from}
use Rattle.records.specs.declared.names.Names.{Names}
use Rattle.probes.specs.Words.{filled}
use Rattle.probes.proofs.Told.{stored}
use Rattle.probes.proofs.of_records.probe_same_names.Goals as goal

fourteen : (n : Names) → length (same_names n).list ≡ 14
unfolding same_names classes_from
fourteen n = refl

long-2 : (c : goal.After-loop-p) → length c.same_names-same.result.list ≡ 14
long-2 c = ap (λ s. length s.list) c.same_names-same.ensures ∙ fourteen _

pub returns : goal.returns
unfolding filled
returns c =
    stored c.loop-p.words c.same_names-same.result.list c.loop-p.p c.loop-p.invariant.0 (omega (arith, long-2 c)) ∙ ap (λ s. sets c.args.words.now 0 s.list) (c.same_names-same.ensures ∙ ap same_names c.names.ensures)

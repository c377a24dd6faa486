-- `probes::of_records::probe_same_names` meets its contract.
use Rattle.std.proofs.Common.{◌≡◌, length, drop}
use lib.Seq.{sets}
use Rattle.probes.proofs.of_records.probe_same_names.Given as goal

abbrev pub invariant-loop-p : goal.invariant-loop-p
invariant-loop-p l = (sets l.words l.p (drop l.p l.same.list) ≡ sets l.initial.words 0 l.same.list) × (length l.words ≡ length l.initial.words)

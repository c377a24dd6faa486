-- `probes::tables::echs` meets its contract.
use Rattle.records.specs.Names.{blank_ech}
use Rattle.probes.specs.Flat.{ech_of}
use Rattle.probes.proofs.Tabled.{Made}
use Rattle.probes.proofs.tables.echs.Given as goal

abbrev pub invariant-loop-i : goal.invariant-loop-i
invariant-loop-i l = Made (ech_of l.list l.base l.bytes) blank_ech 40 l.all l.i

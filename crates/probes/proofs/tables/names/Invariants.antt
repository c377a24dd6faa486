-- `probes::tables::names` meets its contract.
use Rattle.records.specs.Names.{blank_name}
use Rattle.probes.specs.Flat.{name_of}
use Rattle.probes.proofs.Tabled.{Made}
use Rattle.probes.proofs.tables.names.Given as goal

abbrev pub invariant-loop-i : goal.invariant-loop-i
invariant-loop-i l = Made (name_of l.list l.base l.bytes) blank_name 14 l.all l.i

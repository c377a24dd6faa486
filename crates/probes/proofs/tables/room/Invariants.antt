-- `probes::tables::room` meets its contract.
use Rattle.std.proofs.Common.{◌+◌, ◌*◌, get_or}
use Rattle.probes.proofs.Tabled.{Made}
use Rattle.probes.proofs.tables.room.Given as goal

abbrev pub invariant-loop-k : goal.invariant-loop-k
invariant-loop-k g l = Made (λ j. get_or l.bytes (g.row.N * l.i + j) 0) 0 g.row.N l.room l.k

-- `telling::lines::broken` goes on with a width that has room, wherever a line ended.
use Rattle.std.proofs.Common.{arith}
use Rattle.telling.proofs.lines.broken.Goals as goal

pub loop-width-preserved-in_ok-write_all-2 : goal.loop-width-preserved-in_ok-write_all-2
loop-width-preserved-in_ok-write_all-2 g c = (omega arith, omega arith, omega arith)

pub loop-width-preserved : goal.loop-width-preserved
loop-width-preserved g c = (omega arith, omega arith, omega arith)

use Rattle.std.proofs.Common.{arith}
use Rattle.intake.proofs.only_tape.Goals as goal

pub returns : goal.returns
returns g c = omega (arith, c.in_ok-n.ensures.within)

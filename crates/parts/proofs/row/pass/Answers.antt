use Rattle.std.proofs.Common.{arith}
use Rattle.std.proofs.lemmas.Grind.{common_steps}
use Rattle.parts.proofs.Items.{pass-more, pass-none, pass-end}
use Rattle.parts.proofs.row.pass.Goals as goal

pub returns-in_err-next : goal.returns-in_err-next
returns-in_err-next g c = grind (arith, common_steps, pass-none)

pub loop-i-preserved : goal.loop-i-preserved
loop-i-preserved g c = grind (arith, common_steps, pass-more)

pub returns : goal.returns
returns g c = grind (arith, common_steps, pass-end)

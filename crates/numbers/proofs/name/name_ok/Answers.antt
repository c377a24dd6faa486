use Rattle.std.proofs.Common.{arith}
use Rattle.std.proofs.lemmas.Bool.Decides.{nat_tests}
use Rattle.numbers.proofs.NameLaws.{name_more, digit_at_most}
use Rattle.numbers.proofs.NameWalk.{walk-rule}
use Rattle.numbers.proofs.name.name_ok.Goals as goal

pub loop-i-init : goal.loop-i-init
loop-i-init c = (walk-rule _, omega arith, omega arith)

pub returns-then-i-s : goal.returns-then-i-s
returns-then-i-s c = grind (arith, nat_tests, name_more)

pub returns-then-run-eq0 : goal.returns-then-run-eq0
returns-then-run-eq0 c = grind (arith, nat_tests, name_more)

pub returns-then-not-name_byte : goal.returns-then-not-name_byte
returns-then-not-name_byte c = grind (arith, nat_tests, name_more)

pub loop-i-preserved : goal.loop-i-preserved
loop-i-preserved c = grind (arith, nat_tests, name_more, digit_at_most)

use mathlib.Core.Path.{ap}
use native.Mathlib.Omega.{arith}
use Rattle.numbers.specs.Put.{placed}
use Rattle.answers.proofs.Joined.{store_next, store_always, store_end}
use Rattle.answers.proofs.writer.write_numbers.Goals as goal

pub returns-in_err-p-clause-answer : goal.returns-in_err-p-clause-answer
returns-in_err-p-clause-answer c = let i = c.loop-n.invariant in absurd (store_always _ _ c.loop-n-test.true _ _ i.1 c.requires i.2 c.in_err-p.ensures.answer)

pub returns-in_err-p-clause-bytes : goal.returns-in_err-p-clause-bytes
returns-in_err-p-clause-bytes c = let i = c.loop-n.invariant in absurd (store_always _ _ c.loop-n-test.true _ _ i.1 c.requires i.2 c.in_err-p.ensures.answer)

pub loop-n-preserved : goal.loop-n-preserved
loop-n-preserved c =
    let i = c.loop-n.invariant in
    store_next _ _ c.loop-n-test.true _ _ i.1 c.requires i.2 i.0 c.in_ok-p.ensures.answer c.in_ok-p.ensures.bytes

pub returns-clause-answer : goal.returns-clause-answer
returns-clause-answer c = let i = c.loop-n.invariant in ap placed (store_end _ _ c.loop-n-test.false _ _ i.1 (omega arith) i.0).0

pub returns-clause-bytes : goal.returns-clause-bytes
returns-clause-bytes c = let i = c.loop-n.invariant in (store_end _ _ c.loop-n-test.false _ _ i.1 (omega arith) i.0).1

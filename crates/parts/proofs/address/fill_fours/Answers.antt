use mathlib.Core.Path.{◌∙◌}
use Rattle.std.proofs.Common.{arith, rules}
use Rattle.parts.proofs.Addresses.{four-small, fours-none, fours-all}
use Rattle.parts.proofs.Filling.{fill_none, fill_all, fill-over}
use Rattle.parts.specs.Addresses.{low}
use Rattle.parts.proofs.address.fill_fours.Goals as goal

pub returns-then-l-gt4 : goal.returns-then-l-gt4
returns-then-l-gt4 c = c.no_fours-out.ensures ∙ fours-none _ _ (fill-over _ 4 _ c.if-l-gt4.true)

pub fill-requires-clause-callable : goal.fill-requires-clause-callable
fill-requires-clause-callable c = λ p a q e. let s = four-small _ (λ i. let h = c.type_inv.s i in omega arith) p e in search rules

pub returns-in-Ok : goal.returns-in-Ok
returns-in-Ok c =
    let u = c.in-Ok.ensures.stored low (λ a x k. search rules) in
    fours-all _ _ (fill_all low _ _ 4 c.if-l-gt4.false 0 (rw c.no_fours-out.ensures at u))

pub returns-in-Err : goal.returns-in-Err
returns-in-Err c =
    let u = c.in-Err.ensures.stored low (λ a x k. search rules) in
    c.no_fours.ensures ∙ fours-none _ _ (fill_none low _ _ 4 c.if-l-gt4.false 0 (rw c.no_fours-out.ensures at u))

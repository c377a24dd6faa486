use mathlib.Core.Path.{◌∙◌}
use Rattle.std.proofs.Common.{rules}
use Rattle.parts.proofs.Addresses.{sixes-none, sixes-all}
use Rattle.parts.proofs.Filling.{fill_none, fill_all, fill-over}
use Rattle.parts.specs.Addresses.{halves}
use Rattle.records.specs.Services.{no_hint}
use Rattle.parts.proofs.address.fill_sixes.Goals as goal

pub returns-then-l-gt4 : goal.returns-then-l-gt4
returns-then-l-gt4 c = c.no_sixes-out.ensures ∙ sixes-none _ _ (fill-over _ 4 _ c.if-l-gt4.true)

pub returns-in-Ok : goal.returns-in-Ok
returns-in-Ok c =
    let u = c.in-Ok.ensures.stored halves (λ a x k. search rules) in
    sixes-all _ _ (fill_all halves _ _ 4 c.if-l-gt4.false no_hint (rw c.no_sixes-out.ensures at u))

pub returns-in-Err : goal.returns-in-Err
returns-in-Err c =
    let u = c.in-Err.ensures.stored halves (λ a x k. search rules) in
    c.no_sixes.ensures ∙ sixes-none _ _ (fill_none halves _ _ 4 c.if-l-gt4.false no_hint (rw c.no_sixes-out.ensures at u))

use mathlib.Core.Path.{◌≡◌, sym, ◌∙◌}
use mathlib.Core.Bool.{false}
use native.Mathlib.Omega.{arith}
use Rattle.records.proofs.Seals.{ech_past}
use Rattle.records.proofs.services.some_ech.Goals as goal

pub loop-x-preserved : goal.loop-x-preserved
loop-x-preserved c =
    let e : c.has_ech.result ≡ false = grind arith in
    ech_past _ _ _ c.loop-x.invariant c.loop-x-test.true (sym c.has_ech.ensures ∙ e)

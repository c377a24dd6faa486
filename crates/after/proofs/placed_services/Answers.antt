use mathlib.Core.Path.{◌≡◌}
use native.Mathlib.Omega.{arith}
use lib.ListN.{length}
use borrow.Author.Rules.{rules}
use Rattle.records.specs.Services.{blank_service}
use Rattle.after.proofs.Filling.{placed_none, placed-more}
use Rattle.after.proofs.placed_services.Goals as goal

-- there is room for four
long : (c : goal.After-placed) → length c.args.offered.list ≡ 4
long c = search rules

pub loop-i-init : goal.loop-i-init
loop-i-init c = placed_none c.args.round c.args.offered.list _ c.no_services.ensures

pub loop-i-preserved : goal.loop-i-preserved
loop-i-preserved c =
    placed-more c.args.round c.args.offered.list _ _ (long c) c.loop-i.invariant blank_service _ (omega (arith, c.min-count.ensures, c.loop-i-test.true)) c.placed.ensures

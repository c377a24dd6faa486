use Prim.Native.Nat.{◌+◌, ◌-◌, ◌≤◌}
use mathlib.Core.Path.{◌≡◌, ap, ◌∙◌}
use lib.ListN.{length}
use native.Mathlib.Omega.{arith}
use Rattle.numbers.proofs.PutLaws.{part_stored}
use Rattle.braidhatch.specs.Report.{low_first}
use Rattle.braidhatch.proofs.Reports.{number_bytes, eight}
use Rattle.braidhatch.proofs.put_number.Goals as goal

pub returns : goal.returns
returns c =
    let stored : c.copy_from_slice.new.self ≡ low_first 8 c.args.n = c.copy_from_slice.ensures.after ∙ (c.to_le_bytes.ensures ∙ number_bytes c.args.n) in
    part_stored c.args.report.now c.args.at (c.args.at + 8 - c.args.at) (low_first 8 c.args.n) c.copy_from_slice.new.self stored (omega (arith, eight c.args.n)) (omega (arith, eight c.args.n, c.requires))

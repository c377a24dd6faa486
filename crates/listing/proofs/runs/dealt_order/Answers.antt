-- `listing::runs::dealt_order` meets its contract: the groups are sound, so they are dealt.
use mathlib.Core.Path.{sym, ◌∙◌}
use native.Mathlib.Omega.{arith}
use lib.ListN.{length}
use lib.Seq.{length-take-le, take_at}
use Rattle.deal.proofs.Laws.{length-order}
use Rattle.deal.proofs.Answers.{grouped-yes, is-dealt}
use Rattle.listing.proofs.runs.dealt_order.Goals as goal

pub returns : goal.returns
returns c =
    let g = c.args.groups.now in
    let e = c.deal.ensures.room ∙ sym (is-dealt g _ (omega (arith, c.requires.0)) (length-take-le _ _ c.requires.0) (grouped-yes g c.requires.1)).1 in
    take_at c.deal.new.out _ (length g) (rw (e) (length-order g c.requires.1)) ∙ e

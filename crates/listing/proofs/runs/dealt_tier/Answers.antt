-- `listing::runs::dealt_tier` meets its contract: the dealt positions give the interleaved tier.
use mathlib.Core.Path.{◌≡◌, sym, ap, ◌∙◌}
use native.Mathlib.Omega.{arith}
use lib.ListN.{length, take, length-take}
use lib.Seq.{length-take-le}
use Rattle.listing.proofs.Appending.{tier-count, tier-grouped, may-gather, gathers-dealt}
use borrow.Author.Rules.{rules}
use Rattle.listing.proofs.runs.dealt_tier.Goals as goal

pub shared_ref_as_front-groups : goal.shared_ref_as_front-groups
shared_ref_as_front-groups c = omega (arith, tier-count c.args.prefer6 _ _ c.tier_of-t.ensures, c.requires)

pub dealt_order-o-requires : goal.dealt_order-o-requires
dealt_order-o-requires c =
    (omega (arith, length-take c.tier_of-t.result.count c.tier_of-t.result.groups, tier-count c.args.prefer6 _ _ c.tier_of-t.ensures, c.requires), tier-grouped c.args.prefer6 _ _ c.tier_of-t.ensures)

pub gathered-requires : goal.gathered-requires
gathered-requires c =
    let e : length c.tier_of-t.result.groups ≡ 80 = search rules in
    let n = length-take-le c.tier_of-t.result.count c.tier_of-t.result.groups (omega (arith, tier-count c.args.prefer6 _ _ c.tier_of-t.ensures, c.requires)) in
    let m = may-gather c.args.prefer6 _ _ c.tier_of-t.ensures _ (ap (λ m. take m c.dealt_order-o.result.list) (sym n) ∙ c.dealt_order-o.ensures) c.requires in
    (search rules, m.0, m.1)

pub returns : goal.returns
returns c =
    let e : length c.tier_of-t.result.groups ≡ 80 = search rules in
    let n = length-take-le c.tier_of-t.result.count c.tier_of-t.result.groups (omega (arith, tier-count c.args.prefer6 _ _ c.tier_of-t.ensures, c.requires)) in
    c.gathered.ensures
    ∙ gathers-dealt c.args.prefer6 _ _ c.tier_of-t.ensures _ (ap (λ m. take m c.dealt_order-o.result.list) (sym n) ∙ c.dealt_order-o.ensures)

use Prim.Native.Nat.{ℕ, ◌+◌}
use mathlib.Core.Path.{◌≡◌, ap, ◌∙◌}
use native.Mathlib.Decide.{dec_lt}
use native.Mathlib.Omega.{arith}
use lib.ListN.{length}
use borrow.Author.Tests.{ne_eqb}
use Rattle.records.specs.Names.{same_at}
use Rattle.records.specs.Classes.{same_class}
use Rattle.records.proofs.Classes.{classes-same}
use Rattle.listing.specs.Listing.{usable, tier_count, items_to_attempt}
use Rattle.records.specs.Services.{any_ech}
use Rattle.records.specs.declared.rules.Rules.{Rules}
use Rattle.records.specs.declared.services.Services.{Services}
use mathlib.Core.Bool.{Bool, cond}
use Rattle.listing.specs.Room.{listed}
use Rattle.listing.proofs.Laws.{none-held}
use Rattle.listing.proofs.Whole.{filled_none, filled-few, filled-room, filled-next, filled-end, tiers-few}
use borrow.Author.Rules.{rules}
use Rattle.listing.proofs.endpoints_to_attempt.Goals as goal

counted : (r : Rules) (s : Services) (k : ℕ) (b : Bool) (n : ℕ) → k ≡ length (usable r.ech s) → b ≡ any_ech r.ech s → n ≡ k + cond b 0 1 → n ≡ tier_count r s
unfolding tier_count
counted r s k b n e f g = rw (← e, ← f) g

-- without a record no class is asked for, and else they are those of the bytes
by_bytes : (c : goal.After-loop-k) → listed (items_to_attempt c.args.rules c.args.alts c.args.queries c.args.services (same_class c.classes_of-same.result)) ≡ listed (items_to_attempt c.args.rules c.args.alts c.args.queries c.args.services (same_at c.args.names))
by_bytes c =
    elim (dec_lt 0 c.args.queries.count) [
      | yes h ↦ ap (λ n. listed (items_to_attempt c.args.rules c.args.alts c.args.queries c.args.services n)) (ap same_class (c.classes_of-same.ensures ∙ rw (ne_eqb c.args.queries.count 0 (λ e. absurd (omega arith)))) ∙ classes-same c.args.names)
      | no h ↦ ap listed (none-held (same_class c.classes_of-same.result) (same_at c.args.names) c.args.queries (omega arith) c.args.rules c.args.alts c.args.services)
    ]

pub loop-k-init : goal.loop-k-init
loop-k-init c = filled_none _ _ _ _ _ _ c.no_listing-l.ensures

pub overflow_cast-k : goal.overflow_cast-k
overflow_cast-k c =
    let g : length c.args.services.list ≡ 4 = search rules in
    omega (arith, counted c.args.rules c.args.services c.usable_order-o.result.count c.any_ech-sealed.result c.count_of-n.result c.usable_order-o.ensures.count c.any_ech-sealed.ensures c.count_of-n.ensures, tiers-few c.args.rules c.args.alts c.args.queries c.args.services (same_class c.classes_of-same.result) g)

pub overflow_add-at : goal.overflow_add-at
overflow_add-at c =
    let f : length c.args.alts.list ≡ 4 = search rules in
    let g : length c.args.services.list ≡ 4 = search rules in
    omega (arith, filled-room _ _ _ _ _ _ _ _ c.loop-k.invariant _ (omega (arith, counted c.args.rules c.args.services c.usable_order-o.result.count c.any_ech-sealed.result c.count_of-n.result c.usable_order-o.ensures.count c.any_ech-sealed.ensures c.count_of-n.ensures)) c.tier-t.ensures f g)

pub offset_bounds-l-at : goal.offset_bounds-l-at
offset_bounds-l-at c =
    let f : length c.args.alts.list ≡ 4 = search rules in
    let g : length c.args.services.list ≡ 4 = search rules in
    omega (arith, filled-room _ _ _ _ _ _ _ _ c.loop-k.invariant _ (omega (arith, counted c.args.rules c.args.services c.usable_order-o.result.count c.any_ech-sealed.result c.count_of-n.result c.usable_order-o.ensures.count c.any_ech-sealed.ensures c.count_of-n.ensures)) c.tier-t.ensures f g)

pub slice_bounds-copy_from_slice-end : goal.slice_bounds-copy_from_slice-end
slice_bounds-copy_from_slice-end c =
    let f : length c.args.alts.list ≡ 4 = search rules in
    let g : length c.args.services.list ≡ 4 = search rules in
    let r = filled-room _ _ _ _ _ _ _ _ c.loop-k.invariant _ (omega (arith, counted c.args.rules c.args.services c.usable_order-o.result.count c.any_ech-sealed.result c.count_of-n.result c.usable_order-o.ensures.count c.any_ech-sealed.ensures c.count_of-n.ensures)) c.tier-t.ensures f g in
    omega arith

pub shared_ref_as_front-copy_from_slice : goal.shared_ref_as_front-copy_from_slice
shared_ref_as_front-copy_from_slice c =
    let f : length c.args.alts.list ≡ 4 = search rules in
    let g : length c.args.services.list ≡ 4 = search rules in
    filled-few _ _ _ _ _ _ _ _ c.loop-k.invariant _ (omega (arith, counted c.args.rules c.args.services c.usable_order-o.result.count c.any_ech-sealed.result c.count_of-n.result c.usable_order-o.ensures.count c.any_ech-sealed.ensures c.count_of-n.ensures)) c.tier-t.ensures f g

pub loop-k-preserved : goal.loop-k-preserved
loop-k-preserved c =
    let f : length c.args.alts.list ≡ 4 = search rules in
    let g : length c.args.services.list ≡ 4 = search rules in
    filled-next _ _ _ _ _ _ _ _ c.loop-k.invariant _ (omega (arith, counted c.args.rules c.args.services c.usable_order-o.result.count c.any_ech-sealed.result c.count_of-n.result c.usable_order-o.ensures.count c.any_ech-sealed.ensures c.count_of-n.ensures)) c.tier-t.ensures f g _ _ (omega arith) c.copy_from_slice.ensures.after

pub returns : goal.returns
returns c = filled-end _ _ _ _ _ _ _ _ c.loop-k.invariant (omega (arith, counted c.args.rules c.args.services c.usable_order-o.result.count c.any_ech-sealed.result c.count_of-n.result c.usable_order-o.ensures.count c.any_ech-sealed.ensures c.count_of-n.ensures)) ∙ by_bytes c

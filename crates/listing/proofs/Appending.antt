-- Filling a room with references one after the other, and what that comes to for an order that was dealt.
use Prim.Native.Nat.{ℕ, ◌+◌, ◌-◌, ◌≤◌, ◌<◌}
use mathlib.Core.Path.{◌≡◌, refl, sym, ap, ◌∙◌}
use mathlib.Core.Bool.{Bool, true, false}
use mathlib.Core.List.{List, [], ◌∷◌, ◌++◌, map, append_assoc, map-append}
use native.Mathlib.Numerals.{add-one}
use native.Mathlib.Omega.{arith}
use lib.ListN.{length, take, get_or, set, length-append, length-map, replicate}
use lib.Seq.{take-suc, length-take-le, get_or-take}
use Rattle.deal.specs.Interleaving.{interleave, order, Grouped}
use Rattle.deal.proofs.Laws.{by_order, order_below, length-order, group-below}
use Rattle.deal.proofs.Answers.{grouped-map, grouped-all}
use Rattle.records.specs.Lists.{padded}
use Rattle.records.specs.Numbers.{rank_number}
use Rattle.records.specs.References.{no_item}
use Rattle.records.specs.declared.endpoints.Rank.{Rank}
use Rattle.records.specs.declared.endpoints.Rank.TheVariants as rank
use Rattle.records.specs.declared.references.Source.{Source}
use Rattle.records.specs.declared.references.Source.TheVariants.{Held6, Held4, Hint6, Hint4, Literal6, Literal4, Name}
use Rattle.records.specs.declared.references.Item.{Item}
use Rattle.records.proofs.Rooms.{padded-set, padded-take, map_same, padded-at}
use Rattle.listing.specs.declared.runs.Undealt.{Undealt}
use Rattle.listing.specs.declared.runs.DealtOrder.{DealtOrder}
use Rattle.listing.specs.declared.Tier.{Tier}
use Rattle.listing.specs.Items.{family_of, group_of}
use Rattle.listing.specs.Room.{grouped, tiered, tier_members}

-- what a tier has is what was put into it
pub members-tiered : (xs : List Item) (t : Tier) → t ≡ tiered xs → tier_members t ≡ xs
unfolding tiered
members-tiered xs t e = ap tier_members e ∙ padded-take no_item 80 xs

pub count-tiered : (xs : List Item) (t : Tier) → t ≡ tiered xs → t.count ≡ length xs
unfolding tiered
count-tiered xs t e = ap (λ x. x.count) e

pub long-tiered : (xs : List Item) (t : Tier) → t ≡ tiered xs → length xs ≤ length t.list
unfolding tiered padded
long-tiered xs t e = let f : length t.list ≡ length xs + length (replicate (80 - length xs) no_item) = ap (λ x. length x.list) e ∙ length-append xs (replicate (80 - length xs) no_item) in omega arith

pub map-id : {A : Type 0} (xs : List A) → map (λ x. x) xs ≡ xs
map-id [] = refl
map-id (x ∷ xs) = ap (λ l. x ∷ l) (map-id xs)

-- one more behind ys and the first k of ord, as f reads them
module _ {B : Type 0} (room : ℕ) (d : B) (ys : List Item) (f : B → Item) (ord : List B) (k at : ℕ) (out : List Item) (p : out ≡ padded room no_item (ys ++ map f (take k ord))) (b : at ≡ length ys + k) where
  pub filled : k ≤ length ord → at ≡ length (ys ++ map f (take k ord))
  filled h = rw (length-append, length-map, length-take-le k ord h) b

  pub fill_more : k < length ord → at < room → set out at (f (get_or ord k d)) ≡ padded room no_item (ys ++ map f (take (k + 1) ord))
  fill_more h r =
      let e : at ≡ length (ys ++ map f (take k ord)) = filled (omega arith) in
      ap (λ x. set x at (f (get_or ord k d))) p
      ∙ ap (λ n. set (padded room no_item (ys ++ map f (take k ord))) n (f (get_or ord k d))) e
      ∙ padded-set no_item room (ys ++ map f (take k ord)) (f (get_or ord k d)) (omega arith)
      ∙ ap (padded room no_item) (append_assoc ys (map f (take k ord)) (f (get_or ord k d) ∷ []) ∙ ap (λ x. ys ++ x) (sym (map-append f (take k ord) (get_or ord k d ∷ [])) ∙ ap (map f) (sym (take-suc ord k d h) ∙ ap (λ n. take n ord) (sym (add-one k)))))

-- every group is one of the eight
pub rank_below : (k : Rank) → rank_number k < 4
rank_below rank.H3 = omega arith
rank_below rank.H2OrH1 = omega arith
rank_below rank.H2 = omega arith
rank_below rank.H1 = omega arith

family-below : (b : Bool) (s : Source) → family_of b s < 2
family-below true (Held6 q) = omega arith
family-below false (Held6 q) = omega arith
family-below true (Held4 q) = omega arith
family-below false (Held4 q) = omega arith
family-below true (Hint6 i) = omega arith
family-below false (Hint6 i) = omega arith
family-below true (Hint4 i) = omega arith
family-below false (Hint4 i) = omega arith
family-below true (Literal6 k) = omega arith
family-below false (Literal6 k) = omega arith
family-below true (Literal4 k) = omega arith
family-below false (Literal4 k) = omega arith
family-below b (Name w) = omega arith

pub eight-groups : (b : Bool) (i : Item) → group_of b i < 8
eight-groups b i = group-below (rank_number i.rank) (family_of b i.source) (rank_below i.rank) (family-below b i.source)

pub all-grouped : (b : Bool) (xs : List Item) → Grouped (map (group_of b) xs)
all-grouped b xs = grouped-all (map (group_of b) xs) (grouped-map (group_of b) (eight-groups b) xs)

-- as many are dealt as there were
pub dealt-length : (b : Bool) (xs : List Item) → length (interleave (group_of b) xs) ≡ length xs
dealt-length b xs = ap length (by_order (group_of b) xs no_item) ∙ length-map (order (map (group_of b) xs)) (λ i. get_or xs i no_item) ∙ length-order (map (group_of b) xs) (all-grouped b xs) ∙ length-map xs (group_of b)

-- positions in dealt order give the interleaved tier
module _ (prefer6 : Bool) (xs list : List Item) (groups ord : List ℕ) (n : ℕ) (count : n ≡ length xs) (items : list ≡ padded 80 no_item xs) (grouped : groups ≡ padded 80 0 (map (group_of prefer6) xs)) where
  pub its-groups : take n groups ≡ map (group_of prefer6) xs
  its-groups = rw (grouped, count, ← length-map xs (group_of prefer6)) (padded-take 0 80 (map (group_of prefer6) xs))

  pub dealt-is : take n ord ≡ order (take n groups) → map (λ i. get_or list i no_item) (take n ord) ≡ interleave (group_of prefer6) xs
  dealt-is e =
      ap (map (λ i. get_or list i no_item)) (e ∙ ap order its-groups)
      ∙ map_same (λ i. get_or list i no_item) (λ i. get_or xs i no_item) (order (map (group_of prefer6) xs)) (λ i. ap (λ y. get_or y i no_item) items ∙ padded-at no_item 80 xs i)
      ∙ sym (by_order (group_of prefer6) xs no_item)

-- the same of a tier in its room
module _ (prefer6 : Bool) (xs : List Item) (t : Undealt) (e : t ≡ grouped prefer6 xs) where
  pub tier-count : t.count ≡ length xs
  unfolding grouped
  tier-count = ap (λ x. x.count) e

  tier-list : t.list ≡ padded 80 no_item xs
  unfolding grouped
  tier-list = ap (λ x. x.list) e

  tier-groups : t.groups ≡ padded 80 0 (map (group_of prefer6) xs)
  unfolding grouped
  tier-groups = ap (λ x. x.groups) e

  first-groups : take t.count t.groups ≡ map (group_of prefer6) xs
  first-groups = its-groups prefer6 xs t.list t.groups [] t.count tier-count tier-list tier-groups

  pub tier-grouped : Grouped (take t.count t.groups)
  tier-grouped = rw (first-groups) (all-grouped prefer6 xs)

  module _ (o : DealtOrder) (d : take t.count o.list ≡ order (take t.count t.groups)) where
    pub may-gather : length xs ≤ 80 → (t.count ≤ 80) × ((k : ℕ) → k < t.count → get_or o.list k 0 < 80)
    may-gather few = (omega (arith, tier-count), λ k q. omega (arith, below k q, tier-count))
      where
        gs : length (take t.count t.groups) ≡ t.count
        gs = ap length first-groups ∙ length-map xs (group_of prefer6) ∙ sym tier-count

        below : (k : ℕ) → k < t.count → get_or o.list k 0 < t.count
        below k q =
            let h : k < length (order (take t.count t.groups)) = omega (arith, gs, length-order (take t.count t.groups) tier-grouped) in
            let w : get_or (order (take t.count t.groups)) k 0 < length (take t.count t.groups) = order_below (take t.count t.groups) k h in
            let v : get_or o.list k 0 ≡ get_or (order (take t.count t.groups)) k 0 = sym (get_or-take t.count o.list k 0 q) ∙ ap (λ y. get_or y k 0) d in
            omega (arith, gs)

    pub gathers-dealt : tiered (map (λ i. get_or t.list i no_item) (take t.count o.list)) ≡ tiered (interleave (group_of prefer6) xs)
    gathers-dealt = ap tiered (dealt-is prefer6 xs t.list t.groups o.list t.count tier-count tier-list tier-groups d)

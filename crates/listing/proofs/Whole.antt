-- The listing out of its tiers: what tier k is, how many there are, one tier more at the end, and the first of it that passes a test.
--     Next, next_more      one reference more of a tier; nothing cites these now, and docs/PORT.md names them
use Prim.Native.Nat.{ℕ, zero, suc, ◌+◌, ◌*◌, ◌-◌, ◌≤◌, ◌<◌}
use mathlib.Core.Path.{◌≡◌, refl, sym, ap, ◌∙◌}
use mathlib.Core.Bool.{Bool, true, false, cond}
use mathlib.Core.List.{List, [], ◌∷◌, ◌++◌, map, map-map, append_assoc}
use native.Mathlib.Numerals.{add-one}
use native.Mathlib.Decide.{dec_lt}
use native.Mathlib.Omega.{arith}
use lib.ListN.{length, take, drop, get_or, set, replicate, length-append, length-map, get_or-append, get_or-eq_default, take-append-drop}
use lib.Seq.{take-suc, take_all, get_or-append-add, take-append_seam, drop-append_seam}
use Rattle.deal.specs.Interleaving.{interleave, upto}
use Rattle.deal.proofs.Laws.{map-upto}
use Rattle.records.specs.Lists.{each, first_of, first_some, padded}
use Rattle.records.specs.References.{no_item}
use Rattle.records.proofs.First.{first-each}
use Rattle.records.proofs.Rooms.{padded-past}
use Rattle.records.specs.Rules.{prefers_six}
use Rattle.records.specs.Services.{any_ech}
use Rattle.records.specs.declared.rules.Rules.{Rules}
use Rattle.records.specs.declared.rules.Alts.{Alts}
use Rattle.records.specs.declared.queries.Queries.{Queries}
use Rattle.records.specs.declared.services.Services.{Services}
use Rattle.records.specs.declared.references.Item.{Item}
use Rattle.listing.specs.declared.Tier.{Tier}
use Rattle.listing.specs.declared.Listing.{Listing}
use Rattle.listing.specs.Held.{Same}
use Rattle.listing.specs.Listing.{service_at, service_runs, last_runs, usable, tier_items, service_tiers, tiers, dealt, tier_count, tier_at, items_to_attempt}
use Rattle.listing.specs.Room.{listed, tiered}
use Rattle.listing.proofs.Tiers.{each_append, each-one, each_none, each_map}
use Rattle.listing.proofs.Bounds.{service_le, last_le}
use Rattle.listing.proofs.Appending.{dealt-length, members-tiered, count-tiered, long-tiered, fill_more}
use borrow.Rule.Slice.PartMut.{put_mid}
use Rattle.std.proofs.lemmas.List.{drop-replicate}
use Rattle.listing.proofs.Priorities.{usable-four}

pub length-dealt : (r : Rules) (xs : List Item) → length (dealt r xs) ≡ length xs
unfolding dealt
length-dealt r xs = dealt-length (prefers_six r.preference) xs

pub dealt-none : (r : Rules) → dealt r [] ≡ []
unfolding dealt interleave
dealt-none r = refl

at_most_one : (b : Bool) → cond b 0 1 ≤ 1
at_most_one true = omega arith
at_most_one false = omega arith

get_d_map : {A B : Type 0} (f : A → B) (d : A) (z : B) (l : List A) (k : ℕ) → k < length l → get_or (map f l) k z ≡ f (get_or l k d)
get_d_map f d z [] k h = absurd (omega arith)
get_d_map f d z (x ∷ l) zero h = refl
get_d_map f d z (x ∷ l) (suc k) h = get_d_map f d z l k (omega arith)

-- none of a list's members is longer than m
long-each : {A : Type 0} (f : A → List Item) (m : ℕ) (l : List A) → ((x : A) → length (f x) ≤ m) → length (each f l) ≤ m * length l
unfolding each
long-each f m [] h = omega arith
long-each f m (x ∷ l) h = omega (arith, length-append (f x) (each f l), h x, long-each f m l h)

-- what is put behind the members of a list in a room
put-behind : {A : Type 0} (n : ℕ) (z : A) (xs ys : List A) → put_mid (length xs) (length ys) (padded n z xs) ys ≡ padded n z (xs ++ ys)
unfolding padded
put-behind n z xs ys =
    rw (take-append_seam, drop-append_seam, drop-replicate, length-append, append_assoc)
    (ap (λ k. xs ++ (ys ++ replicate k z)) (let e : n - length xs - length ys ≡ n - (length xs + length ys) = omega arith in e))

module _ (r : Rules) (a : Alts) (q : Queries) (s : Services) (n : Same) where
  abbrev of_service : ℕ → List Item
  of_service i = tier_items (service_runs r q n i (service_at s i))

  abbrev last : Bool → List (List Item)
  last sealed = cond sealed [] (tier_items (last_runs r a q n) ∷ [])

  services-length : length (service_tiers r q s n) ≡ length (usable r.ech s)
  unfolding service_tiers
  services-length = length-map (usable r.ech s) of_service

  last-length : (b : Bool) → length (last b) ≡ cond b 0 1
  last-length true = refl
  last-length false = refl

  -- how many tiers there are
  pub tier-count : length (tiers r a q s n) ≡ tier_count r s
  unfolding tiers tier_count
  tier-count = length-append (service_tiers r q s n) (last (any_ech r.ech s)) ∙ (ap (λ k. k + length (last (any_ech r.ech s))) services-length ∙ ap (λ k. length (usable r.ech s) + k) (last-length (any_ech r.ech s)))

  -- first the services that are used, by priority,
  pub tier-service : (k : ℕ) → k < length (usable r.ech s) → tier_at r a q s n k ≡ dealt r (of_service (get_or (usable r.ech s) k 0))
  unfolding tier_at tiers service_tiers
  tier-service k h =
      ap (dealt r)
      (get_or-append (service_tiers r q s n) (last (any_ech r.ech s)) [] k (omega (arith, services-length))
      ∙ get_d_map of_service 0 [] (usable r.ech s) k h)

  after : (k j : ℕ) → k ≡ length (usable r.ech s) + j → get_or (tiers r a q s n) k [] ≡ get_or (last (any_ech r.ech s)) j []
  unfolding tiers
  after k j e = ap (λ i. get_or (service_tiers r q s n ++ last (any_ech r.ech s)) i []) (e ∙ ap (λ i. i + j) (sym services-length)) ∙ get_or-append-add (service_tiers r q s n) (last (any_ech r.ech s)) j []

  -- then alternative services and origin, unless ECH shuts them out,
  pub tier-last : (k : ℕ) → k ≡ length (usable r.ech s) → any_ech r.ech s ≡ false → tier_at r a q s n k ≡ dealt r (tier_items (last_runs r a q n))
  unfolding tier_at
  tier-last k e f = ap (dealt r) (after k 0 (omega arith) ∙ ap (λ b. get_or (last b) 0 []) f)

  -- and no more
  pub tier-past : (k : ℕ) → tier_count r s ≤ k → tier_at r a q s n k ≡ []
  unfolding tier_at
  tier-past k h = ap (dealt r) (get_or-eq_default (tiers r a q s n) [] (omega (arith, tier-count))) ∙ dealt-none r

  pub tier-sealed : (k : ℕ) → length (usable r.ech s) ≤ k → any_ech r.ech s ≡ true → tier_at r a q s n k ≡ []
  unfolding tier_count
  tier-sealed k h e = tier-past k (rw (e) (omega arith))

  pub tier-beyond : (k : ℕ) → length (usable r.ech s) < k → tier_at r a q s n k ≡ []
  unfolding tier_count
  tier-beyond k h = tier-past k (omega (arith, at_most_one (any_ech r.ech s)))

  module _ (four : length a.list ≡ 4) (rooms : length s.list ≡ 4) where
    -- at most 272: four services of 48, and 80
    pub at-most-272 : length (items_to_attempt r a q s n) ≤ 272
    unfolding items_to_attempt tiers service_tiers
    at-most-272 =
        rw (each_append (dealt r) (service_tiers r q s n) (last (any_ech r.ech s)), length-append)
        (omega (arith, services, rest (any_ech r.ech s), usable-four r.ech s rooms))
      where
        short : (i : ℕ) → length (dealt r (of_service i)) ≤ 48
        short i = omega (arith, length-dealt r (of_service i), service_le r q n i (service_at s i))

        services : length (each (dealt r) (map of_service (usable r.ech s))) ≤ 48 * length (usable r.ech s)
        services = rw (each_map (dealt r) of_service (usable r.ech s)) (long-each (λ i. dealt r (of_service i)) 48 (usable r.ech s) short)

        rest : (b : Bool) → length (each (dealt r) (last b)) ≤ 80
        rest true = rw (each_none (dealt r)) (omega arith)
        rest false = rw (each-one (dealt r) (tier_items (last_runs r a q n))) (omega (arith, length-dealt r (tier_items (last_runs r a q n)), last_le r a q n four))

    pub tier-few : (k : ℕ) → length (tier_at r a q s n k) ≤ 80
    tier-few k = elim (dec_lt k (length (usable r.ech s))) [ yes h ↦ service h | no h ↦ rest (any_ech r.ech s) refl (omega arith) ]
      where
        service : k < length (usable r.ech s) → length (tier_at r a q s n k) ≤ 80
        service h = let i = get_or (usable r.ech s) k 0 in rw (tier-service k h) (omega (arith, length-dealt r (of_service i), service_le r q n i (service_at s i)))

        last_one : any_ech r.ech s ≡ false → k ≡ length (usable r.ech s) → length (tier_at r a q s n k) ≤ 80
        last_one e h = rw (tier-last k h e) (omega (arith, length-dealt r (tier_items (last_runs r a q n)), last_le r a q n four))

        none : tier_at r a q s n k ≡ [] → length (tier_at r a q s n k) ≤ 80
        none e = rw (e) (omega arith)

        rest : (b : Bool) → any_ech r.ech s ≡ b → length (usable r.ech s) ≤ k → length (tier_at r a q s n k) ≤ 80
        rest true e h = none (tier-sealed k h e)
        rest false e h = elim (dec_lt (length (usable r.ech s)) k) [ yes m ↦ none (tier-beyond k m) | no m ↦ last_one e (omega arith) ]

  -- four services at most, and the last tier
  pub tiers-few : length s.list ≡ 4 → tier_count r s ≤ 5
  unfolding tier_count
  tiers-few rooms = omega (arith, usable-four r.ech s rooms, at_most_one (any_ech r.ech s))

  -- the tiers before k, and one more
  unfoldable pub before : ℕ → List Item
  before k = each (dealt r) (take k (tiers r a q s n))

  before-none : before 0 ≡ []
  unfolding before
  before-none = each_none (dealt r)

  before_more : (k : ℕ) → k < tier_count r s → before (k + 1) ≡ before k ++ tier_at r a q s n k
  unfolding before tier_at
  before_more k h =
      let l = tiers r a q s n in
      ap (λ m. each (dealt r) (take m l)) (add-one k)
      ∙ (ap (each (dealt r)) (take-suc l k [] (omega (arith, tier-count)))
      ∙ (each_append (dealt r) (take k l) (get_or l k [] ∷ [])
      ∙ ap (λ x. each (dealt r) (take k l) ++ x) (each-one (dealt r) (get_or l k []))))

  before-all : (k : ℕ) → tier_count r s ≤ k → before k ≡ items_to_attempt r a q s n
  unfolding before items_to_attempt
  before-all k h = ap (each (dealt r)) (take_all k (tiers r a q s n) (omega (arith, tier-count)))

  -- what stands before k is no longer than the whole
  before-le : (k : ℕ) → length (before k) ≤ length (items_to_attempt r a q s n)
  unfolding before items_to_attempt
  before-le k =
      let l = tiers r a q s n in
      let e : length (each (dealt r) (take k l ++ drop k l)) ≡ length (each (dealt r) (take k l)) + length (each (dealt r) (drop k l)) = ap length (each_append (dealt r) (take k l) (drop k l)) ∙ length-append (each (dealt r) (take k l)) (each (dealt r) (drop k l)) in
      let f : length (each (dealt r) (take k l ++ drop k l)) ≡ length (each (dealt r) l) = ap (λ x. length (each (dealt r) x)) (take-append-drop k l) in
      omega arith

  -- what the code has filled after k tiers
  pub record Filled (k at : ℕ) (list : List Item) : Type 0 where
    pub place : at ≡ length (before k)
    pub holds : list ≡ padded 272 no_item (before k)

  pub filled_none : (l : Listing) → l ≡ listed [] → Filled 0 0 l.list
  unfolding listed
  filled_none l e = record { place = sym (ap length before-none); holds = ap (λ x. x.list) e ∙ ap (padded 272 no_item) (sym before-none) }

  module _ (k at : ℕ) (list : List Item) (v : Filled k at list) (t : Tier) (h : k < tier_count r s) (e : t ≡ tiered (tier_at r a q s n k)) (four : length a.list ≡ 4) (rooms : length s.list ≡ 4) where
    pub filled-few : t.count ≤ 80
    filled-few = omega (arith, count-tiered (tier_at r a q s n k) t e, tier-few four rooms k)

    pub filled-room : at + t.count ≤ 272
    filled-room = omega (arith, v.place, count-tiered (tier_at r a q s n k) t e, ap length (before_more k h), length-append (before k) (tier_at r a q s n k), before-le (k + 1), at-most-272 four rooms)

    -- and one tier more, copied behind them
    pub filled-next : (m : ℕ) (ys : List Item) → m ≡ t.count → ys ≡ take t.count t.list → Filled (k + 1) (at + t.count) (put_mid at m list ys)
    filled-next m ys c f =
        let g : ys ≡ tier_at r a q s n k = f ∙ members-tiered (tier_at r a q s n k) t e in
        let d = count-tiered (tier_at r a q s n k) t e in
        record {
          place = omega (arith, v.place, d, ap length (before_more k h), length-append (before k) (tier_at r a q s n k));
          holds = rw (v.holds, v.place, g, c ∙ d) (put-behind 272 no_item (before k) (tier_at r a q s n k)) ∙ ap (padded 272 no_item) (sym (before_more k h));
        }

  -- after k tiers, j references of the next one
  pub record Next (k : ℕ) (t : Tier) (j at : ℕ) (list : List Item) : Type 0 where
    pub within : j ≤ t.count
    pub place : at ≡ length (before k) + j
    pub holds : list ≡ padded 272 no_item (before k ++ map (λ x. x) (take j t.list))

  module _ (k : ℕ) (t : Tier) (h : k < tier_count r s) (e : t ≡ tiered (tier_at r a q s n k)) (j at : ℕ) (list : List Item) (v : Next k t j at list) where
    pub next_more : j < t.count → at < 272 → Next k t (j + 1) (at + 1) (set list at (get_or t.list j no_item))
    next_more l room =
        let m : j < length t.list = omega (arith, count-tiered (tier_at r a q s n k) t e, long-tiered (tier_at r a q s n k) t e) in
        record { within = omega arith; place = omega (arith, v.place); holds = fill_more 272 no_item (before k) (λ x. x) t.list j at list v.holds v.place m room }

  module _ (k at : ℕ) (list : List Item) (v : Filled k at list) where
    pub filled-end : tier_count r s ≤ k → record { count = at; list = list } ≡ listed (items_to_attempt r a q s n)
    unfolding listed
    filled-end h = λ j. record { count = (v.place ∙ ap length (before-all k h)) j; list = (v.holds ∙ ap (padded 272 no_item) (before-all k h)) j }

-- The first of the listing that passes a test is that of the first tier that has one; there is none exactly if no tier has one (records, First).
module _ (r : Rules) (a : Alts) (q : Queries) (s : Services) (n : Same) where
  tiers-dealt : map (dealt r) (tiers r a q s n) ≡ map (tier_at r a q s n) (upto (tier_count r s))
  unfolding tier_at
  tiers-dealt =
      let l = tiers r a q s n in
      ap (map (dealt r)) (sym (map-upto l [] (length l) (omega arith) ∙ take_all (length l) l (omega arith)))
      ∙ (map-map (dealt r) (λ k. get_or l k []) (upto (length l))
      ∙ ap (λ k. map (tier_at r a q s n) (upto k)) (tier-count r a q s n))

  -- the listing is its tiers one after the other
  pub tier-by-tier : items_to_attempt r a q s n ≡ each (tier_at r a q s n) (upto (tier_count r s))
  unfolding items_to_attempt
  tier-by-tier = sym (each_map (λ t. t) (dealt r) (tiers r a q s n)) ∙ (ap (each (λ t. t)) tiers-dealt ∙ each_map (λ t. t) (tier_at r a q s n) (upto (tier_count r s)))

  pub first-tier : (test : Item → Bool) → first_of test (items_to_attempt r a q s n) ≡ first_some (map (λ k. first_of test (tier_at r a q s n k)) (upto (tier_count r s)))
  first-tier test = ap (first_of test) tier-by-tier ∙ first-each test (tier_at r a q s n) (upto (tier_count r s))

-- A listing and a tier are zero past their counts.
pub listed-zero : (xs : List Item) (k : ℕ) → length xs ≤ k → get_or (listed xs).list k no_item ≡ no_item
unfolding listed
listed-zero xs k h = padded-past no_item 272 xs k h

pub tiered-zero : (xs : List Item) (k : ℕ) → length xs ≤ k → get_or (tiered xs).list k no_item ≡ no_item
unfolding tiered
tiered-zero xs k h = padded-past no_item 80 xs k h

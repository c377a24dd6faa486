-- The endpoints of a tier, run after run: how far the code has come after r runs and p places of the next.
use Prim.Native.Nat.{ℕ, suc, ◌+◌, ◌≤◌, ◌<◌}
use mathlib.Core.Path.{◌≡◌, refl, sym, ap, ◌∙◌}
use mathlib.Core.Bool.{Bool, false}
use mathlib.Core.List.{List, [], ◌∷◌, ◌++◌, map, append_assoc, append-nil, map-append}
use native.Mathlib.Numerals.{add-one}
use native.Mathlib.Omega.{arith}
use lib.ListN.{length, take, drop, get_or, set, length-append, length-map, get_or-eq_default}
use lib.Seq.{take-suc, split_at, take_all}
use Rattle.deal.specs.Interleaving.{upto}
use Rattle.deal.proofs.Laws.{length-upto}
use Rattle.records.specs.declared.endpoints.Rank.TheVariants as rank
use Rattle.records.specs.declared.names.EchPlace.TheVariants.{Without}
use Rattle.records.specs.declared.references.Source.TheVariants.{Held6}
use Rattle.listing.specs.declared.runs.Run.{Run}
use Rattle.records.specs.declared.references.Item.{Item}
use Rattle.records.specs.Lists.{each, padded}
use Rattle.records.specs.References.{no_item}
use Rattle.listing.specs.Items.{group_of, item_of, run_items}
use Rattle.listing.specs.Room.{grouped}
use Rattle.listing.specs.Listing.{tier_items}
use Rattle.listing.specs.declared.runs.Undealt.{Undealt}
use Rattle.records.proofs.Rooms.{padded-set}

module _ {A B : Type 0} (f : A → List B) where
  pub each_append : (xs ys : List A) → each f (xs ++ ys) ≡ each f xs ++ each f ys
  unfolding each
  each_append [] ys = refl
  each_append (x ∷ xs) ys = ap (λ l. f x ++ l) (each_append xs ys) ∙ sym (append_assoc (f x) (each f xs) (each f ys))

  pub each-one : (x : A) → each f (x ∷ []) ≡ f x
  unfolding each
  each-one x = append-nil (f x)

pub each_none : {A B : Type 0} (f : A → List B) → each f [] ≡ []
unfolding each
each_none f = refl

module _ {A B C : Type 0} (h : B → C) where
  pub map_each : (f : A → List B) (g : A → List C) → ((x : A) → map h (f x) ≡ g x) → (l : List A) → map h (each f l) ≡ each g l
  unfolding each
  map_each f g same [] = refl
  map_each f g same (x ∷ l) = map-append h (f x) (each f l) ∙ ap (λ y. y ++ map h (each f l)) (same x) ∙ ap (λ y. g x ++ y) (map_each f g same l)

pub each_map : {A B C : Type 0} (f : B → List C) (k : A → B) (l : List A) → each f (map k l) ≡ each (λ x. f (k x)) l
unfolding each
each_map f k [] = refl
each_map f k (x ∷ l) = ap (λ y. f (k x) ++ y) (each_map f k l)

pub items-append : (xs ys : List Run) → tier_items (xs ++ ys) ≡ tier_items xs ++ tier_items ys
unfolding tier_items
items-append xs ys = each_append run_items xs ys

pub run_length : (r : Run) → length (run_items r) ≡ r.count
unfolding run_items
run_length r = length-map (upto r.count) (item_of r) ∙ length-upto r.count

-- what is read past the last run
abbrev pub no_run : Run
no_run = record { source = Held6 0; port = 0; count = 0; rank = rank.H3; ech = Without }

unfoldable pub before : List Run → ℕ → ℕ → List Item
before runs r p = tier_items (take r runs) ++ map (item_of (get_or runs r no_run)) (upto p)

pub before-none : (runs : List Run) → before runs 0 0 ≡ []
unfolding before tier_items each
before-none runs = refl

pub before_more : (runs : List Run) (r p : ℕ) → before runs r (p + 1) ≡ before runs r p ++ (item_of (get_or runs r no_run) p ∷ [])
unfolding before
before_more runs r p =
    ap (λ k. tier_items (take r runs) ++ map (item_of (get_or runs r no_run)) (upto k)) (add-one p)
    ∙ ap (λ l. tier_items (take r runs) ++ l) (map-append (item_of (get_or runs r no_run)) (upto p) (p ∷ []))
    ∙ sym (append_assoc (tier_items (take r runs)) (map (item_of (get_or runs r no_run)) (upto p)) (item_of (get_or runs r no_run) p ∷ []))

one-run : (x : Run) → tier_items (x ∷ []) ≡ run_items x
unfolding tier_items
one-run x = each-one run_items x

pub before-turn : (runs : List Run) (r p : ℕ) → r < length runs → p ≡ (get_or runs r no_run).count → before runs (r + 1) 0 ≡ before runs r p
unfolding before run_items
before-turn runs r p h e =
    append-nil (tier_items (take (r + 1) runs))
    ∙ ap (λ k. tier_items (take k runs)) (add-one r)
    ∙ ap tier_items (take-suc runs r no_run h)
    ∙ items-append (take r runs) (get_or runs r no_run ∷ [])
    ∙ ap (λ l. tier_items (take r runs) ++ l) (one-run (get_or runs r no_run))
    ∙ ap (λ k. tier_items (take r runs) ++ map (item_of (get_or runs r no_run)) (upto k)) (sym e)

pub before-all : (runs : List Run) (r p : ℕ) → length runs ≤ r → p ≤ (get_or runs r no_run).count → before runs r p ≡ tier_items runs
unfolding before
before-all runs r p h k =
    let e : p ≡ 0 = (let q : (get_or runs r no_run).count ≡ 0 = ap (λ x. x.count) (get_or-eq_default runs no_run h) in omega arith) in
    ap (λ m. tier_items (take r runs) ++ map (item_of (get_or runs r no_run)) (upto m)) e ∙ append-nil (tier_items (take r runs)) ∙ ap tier_items (take_all r runs h)

before-length : (runs : List Run) (r p : ℕ) → length (before runs r p) ≡ length (tier_items (take r runs)) + p
unfolding before
before-length runs r p = rw (length-append, length-map, length-upto)

pub head-length : (x : Run) (l : List Run) → length (tier_items (x ∷ l)) ≡ length (run_items x) + length (tier_items l)
unfolding tier_items each
head-length x l = length-append (run_items x) (each run_items l)

-- there is room for one more while a run isn't done
pub before-short : (runs : List Run) (r p : ℕ) → r < length runs → p < (get_or runs r no_run).count → length (before runs r p) < length (tier_items runs)
before-short runs r p h k = omega (arith, all, before-length runs r p, run_length (get_or runs r no_run))
  where
    all : length (tier_items runs) ≡ length (tier_items (take r runs)) + (length (run_items (get_or runs r no_run)) + length (tier_items (drop (suc r) runs)))
    all =
        ap (λ l. length (tier_items l)) (split_at runs r no_run h)
        ∙ ap length (items-append (take r runs) (get_or runs r no_run ∷ drop (suc r) runs))
        ∙ length-append (tier_items (take r runs)) (tier_items (get_or runs r no_run ∷ drop (suc r) runs))
        ∙ ap (λ n. length (tier_items (take r runs)) + n) (head-length (get_or runs r no_run) (drop (suc r) runs))

-- what the code has filled of a tier's room
pub record Filling (prefer6 : Bool) (runs : List Run) (r p at : ℕ) (list : List Item) (groups : List ℕ) : Type 0 where
  pub within : r ≤ 10
  pub inside : p ≤ (get_or runs r no_run).count
  pub counted : at ≡ length (before runs r p)
  pub items : list ≡ padded 80 no_item (before runs r p)
  pub sorted : groups ≡ padded 80 0 (map (group_of prefer6) (before runs r p))

pub filling-none : (prefer6 : Bool) (runs : List Run) (t : Undealt) → t ≡ grouped false [] → Filling prefer6 runs 0 0 0 t.list t.groups
unfolding grouped
filling-none prefer6 runs t e =
    record {
      within = omega arith;
      inside = omega arith;
      counted = sym (ap length (before-none runs));
      items = ap (λ x. x.list) e ∙ ap (padded 80 no_item) (sym (before-none runs));
      sorted = ap (λ x. x.groups) e ∙ ap (λ l. padded 80 0 (map (group_of prefer6) l)) (sym (before-none runs));
    }

module _ (prefer6 : Bool) (runs : List Run) (r p at : ℕ) (list : List Item) (groups : List ℕ) (f : Filling prefer6 runs r p at list groups) (ten : length runs ≡ 10) where
  -- on to the next run
  pub filling-turn : r < 10 → (get_or runs r no_run).count ≤ p → Filling prefer6 runs (r + 1) 0 at list groups
  filling-turn h k =
      record {
        within = omega arith;
        inside = omega arith;
        counted = f.counted ∙ ap length (sym turn);
        items = f.items ∙ ap (padded 80 no_item) (sym turn);
        sorted = f.sorted ∙ ap (λ l. padded 80 0 (map (group_of prefer6) l)) (sym turn);
      }
    where
      turn : before runs (r + 1) 0 ≡ before runs r p
      turn = before-turn runs r p (omega (arith, ten)) (omega (arith, f.inside))

  pub filling-room : length (tier_items runs) ≤ 80 → r < 10 → p < (get_or runs r no_run).count → at < 80
  filling-room few h k = omega (arith, f.counted, before-short runs r p (omega (arith, ten)) k)

  -- one more of this run
  pub filling-more : (x : Item) (g : ℕ) → length (tier_items runs) ≤ 80 → r < 10 → p < (get_or runs r no_run).count → x ≡ item_of (get_or runs r no_run) p → g ≡ group_of prefer6 x
      → Filling prefer6 runs r (p + 1) (at + 1) (set list at x) (set groups at g)
  filling-more x g few h k e q =
      record {
        within = f.within;
        inside = omega arith;
        counted = sym (ap length more ∙ length-append (before runs r p) (item_of (get_or runs r no_run) p ∷ []) ∙ ap (λ n. n + 1) (sym f.counted));
        items =
            ap (λ l. set l at x) f.items ∙ ap (λ n. set (padded 80 no_item (before runs r p)) n x) f.counted
            ∙ padded-set no_item 80 (before runs r p) x room ∙ ap (λ y. padded 80 no_item (before runs r p ++ (y ∷ []))) e ∙ ap (padded 80 no_item) (sym more);
        sorted =
            ap (λ l. set l at g) f.sorted ∙ ap (λ n. set (padded 80 0 (map (group_of prefer6) (before runs r p))) n g) (f.counted ∙ sym (length-map (before runs r p) (group_of prefer6)))
            ∙ padded-set 0 80 (map (group_of prefer6) (before runs r p)) g (rw (length-map) room)
            ∙ ap (λ y. padded 80 0 (map (group_of prefer6) (before runs r p) ++ (y ∷ []))) (q ∙ ap (group_of prefer6) e)
            ∙ ap (padded 80 0) (sym (map-append (group_of prefer6) (before runs r p) (item_of (get_or runs r no_run) p ∷ [])) ∙ ap (map (group_of prefer6)) (sym more));
      }
    where
      more : before runs r (p + 1) ≡ before runs r p ++ (item_of (get_or runs r no_run) p ∷ [])
      more = before_more runs r p

      room : length (before runs r p) < 80
      room = omega (arith, before-short runs r p (omega (arith, ten)) k)

  pub filling-end : 10 ≤ r → record { count = at; list = list; groups = groups } ≡ grouped prefer6 (tier_items runs)
  unfolding grouped
  filling-end h =
      λ j.
      record {
        count = (f.counted ∙ ap length all) j;
        list = (f.items ∙ ap (padded 80 no_item) all) j;
        groups = (f.sorted ∙ ap (λ l. padded 80 0 (map (group_of prefer6) l)) all) j;
      }
    where
      all : before runs r p ≡ tier_items runs
      all = before-all runs r p (omega (arith, ten)) f.inside

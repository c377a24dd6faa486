-- (H) Document 01 takes a host's addresses "in record order". The listing takes the IPv6 addresses of the first answered AAAA
-- record and the IPv4 addresses of the first answered A record; where a name has one record of a type, both are dealt alike wherever they stand in a tier.
use Prim.Native.Nat.{ℕ, ◌+◌, ◌*◌}
use mathlib.Core.Path.{◌≡◌, refl, sym, ap, ◌∙◌}
use mathlib.Core.Bool.{Bool, true, false, cond, ◌&&◌}
use mathlib.Core.List.{List, [], ◌∷◌, ◌++◌, map, append-nil}
use native.Mathlib.Omega.{arith}
use lib.Dec.{eqb as nat_eq}
use lib.ListN.{take}
use borrow.Author.Tests.{eqb-true}
use Rattle.deal.specs.Interleaving.{keep, queue, upto, interleave}
use Rattle.deal.specs.Interleaving as dealing
use Rattle.deal.proofs.Lists.{keep_append, keep-map}
use Rattle.deal.proofs.Laws.{alike}
use Rattle.records.specs.Numbers.{rank_number}
use Rattle.listing.specs.Held.{Same, held_count, is_for, is_held, first_held, held_at, held_targets}
use Rattle.records.specs.Lists.{each, some?}
use Rattle.listing.specs.Items.{group_of, item_of, run_items}
use Rattle.listing.specs.Listing.{host_runs, tier_items}
use Rattle.records.specs.declared.queries.Query.{Query}
use Rattle.records.specs.declared.queries.Queries.{Queries}
use Rattle.records.specs.declared.queries.Kind.{Kind}
use Rattle.records.specs.declared.queries.Kind.TheVariants.{Https, Aaaa, A}
use Rattle.records.specs.declared.endpoints.Rank.{Rank}
use Rattle.records.specs.declared.names.EchPlace.{EchPlace}
use Rattle.records.specs.declared.references.Source.TheVariants.{Held6, Held4}
use Rattle.records.specs.declared.references.Item.{Item}
use Rattle.listing.specs.declared.runs.Run.{Run}
use Rattle.listing.proofs.Tiers.{items-append, each-one}

keep-const : {X : Type 0} (b : Bool) (l : List X) → keep (λ x. b) l ≡ cond b l []
keep-const true [] = refl
keep-const true (x ∷ l) = ap (λ y. x ∷ y) (keep-const true l)
keep-const false [] = refl
keep-const false (x ∷ l) = keep-const false l

map-cond : {X Y : Type 0} (b : Bool) (h : X → Y) (l : List X) → map h (cond b l []) ≡ cond b (map h l) []
map-cond true h l = refl
map-cond false h l = refl

one-run : (x : Run) → tier_items (x ∷ []) ≡ run_items x
unfolding tier_items
one-run x = each-one run_items x

-- a record has one type
one_type : (same : Same) (w : ℕ) (q : Query) → is_held same Aaaa w q ≡ true → is_held same A w q ≡ false
unfolding is_held
one_type same w q e = by q.kind e
  where
    by : (k : Kind) → is_for Aaaa k q.answer && same q.name w ≡ true → is_for A k q.answer && same q.name w ≡ false
    by Https h = refl
    by Aaaa h = refl
    by A h = absurd (let z : ◌≡◌ {A = ℕ} 0 1 = cc in omega arith)

-- no record after the first that passes does
pub Once : (Query → Bool) → List Query → Type 0
Once test [] = Unit {0}
Once test (q ∷ l) = (test q ≡ true → some? test l ≡ false) × Once test l

none_found : (test : Query → Bool) (i : ℕ) (l : List Query) → some? test l ≡ false → first_held test i l ≡ record { query = 0; count = 0 }
unfolding some? first_held
none_found test i [] e = refl
none_found test i (q ∷ l) e = by (test q) refl e (none_found test (i + 1) l)
  where
    by : (b : Bool) → test q ≡ b → cond b true (some? test l) ≡ false → (some? test l ≡ false → first_held test (i + 1) l ≡ record { query = 0; count = 0 })
        → cond (test q) (record { query = i; count = held_count q.answer }) (first_held test (i + 1) l) ≡ record { query = 0; count = 0 }
    by true p h ih = absurd (let z : ◌≡◌ {A = ℕ} 0 1 = cc in omega arith)
    by false p h ih = rw (p) (ih h)

module _ (prefer6 : Bool) (port : ℕ) (rank : Rank) (ech : EchPlace) where
  six : ℕ → ℕ → Run
  six i n = record { source = Held6 i; count = n; port = port; rank = rank; ech = ech }

  four : ℕ → ℕ → Run
  four i n = record { source = Held4 i; count = n; port = port; rank = rank; ech = ech }

  -- the addresses of every answered record of the name, in record order (`dns_resolved_addrs`)
  pub record_runs : (Query → Bool) → (Query → Bool) → ℕ → List Query → List Run
  record_runs is6 is4 i [] = []
  record_runs is6 is4 i (q ∷ l) =
      cond (is6 q) (six i (held_count q.answer) ∷ []) [] ++ (cond (is4 q) (four i (held_count q.answer) ∷ []) [] ++ record_runs is6 is4 (i + 1) l)

  -- the members of group g among a run's endpoints
  part : ℕ → Run → List Item
  part g x = queue (group_of prefer6) (run_items x) g

  parts : ℕ → List Run → List Item
  parts g l = queue (group_of prefer6) (tier_items l) g

  parts-append : (g : ℕ) (a b : List Run) → parts g (a ++ b) ≡ parts g a ++ parts g b
  unfolding parts queue
  parts-append g a b = ap (keep (λ x. nat_eq (group_of prefer6 x) g)) (items-append a b) ∙ keep_append (λ x. nat_eq (group_of prefer6 x) g) (tier_items a) (tier_items b)

  parts_none : (g : ℕ) → parts g [] ≡ []
  unfolding parts queue tier_items each
  parts_none g = refl

  parts-one : (g : ℕ) (x : Run) → parts g (x ∷ []) ≡ part g x
  unfolding parts part
  parts-one g x = ap (λ l. queue (group_of prefer6) l g) (one-run x)

  -- all of a run are in one group
  part-is : (g : ℕ) (x : Run) → part g x ≡ cond (nat_eq (group_of prefer6 (item_of x 0)) g) (run_items x) []
  unfolding part queue run_items
  part-is g x = keep-map (item_of x) (λ y. nat_eq (group_of prefer6 y) g) (upto x.count) ∙ ap (map (item_of x)) (keep-const (nat_eq (group_of prefer6 (item_of x 0)) g) (upto x.count)) ∙ map-cond (nat_eq (group_of prefer6 (item_of x 0)) g) (item_of x) (upto x.count)

  apart : (i n j m : ℕ) → group_of prefer6 (item_of (six i n) 0) ≡ group_of prefer6 (item_of (four j m) 0) → ⊥
  unfolding six four dealing.group_of
  apart i n j m e = by prefer6 e
    where
      by : (b : Bool) → rank_number rank * 2 + cond b 0 1 ≡ rank_number rank * 2 + cond b 1 0 → ⊥
      by true h = omega arith
      by false h = omega arith

  -- so two runs of the two families may change places
  swap : (g i n j m : ℕ) → part g (four j m) ++ part g (six i n) ≡ part g (six i n) ++ part g (four j m)
  swap g i n j m =
      rw (part-is g (six i n), part-is g (four j m))
      (by (nat_eq (group_of prefer6 (item_of (six i n) 0)) g) (nat_eq (group_of prefer6 (item_of (four j m) 0)) g) refl refl)
    where
      by : (a b : Bool) → nat_eq (group_of prefer6 (item_of (six i n) 0)) g ≡ a → nat_eq (group_of prefer6 (item_of (four j m) 0)) g ≡ b
          → cond b (run_items (four j m)) [] ++ cond a (run_items (six i n)) [] ≡ cond a (run_items (six i n)) [] ++ cond b (run_items (four j m)) []
      by true true p q = absurd (apart i n j m (eqb-true _ g p ∙ sym (eqb-true _ g q)))
      by true false p q = sym (append-nil (run_items (six i n)))
      by false true p q = append-nil (run_items (four j m))
      by false false p q = refl

  no_six : (g i : ℕ) → part g (six i 0) ≡ []
  unfolding part queue run_items six
  no_six g i = refl

  no-four : (g i : ℕ) → part g (four i 0) ≡ []
  unfolding part queue run_items four
  no-four g i = refl

  module _ (is6 is4 : Query → Bool) (apart-types : (q : Query) → is6 q ≡ true → is4 q ≡ false) (g : ℕ) where
    found6 : ℕ → List Query → List Item
    found6 i l = part g (six (first_held is6 i l).query (first_held is6 i l).count)

    found4 : ℕ → List Query → List Item
    found4 i l = part g (four (first_held is4 i l).query (first_held is4 i l).count)

    gone6 : (i : ℕ) (l : List Query) → some? is6 l ≡ false → found6 i l ≡ []
    unfolding found6
    gone6 i l e = rw (none_found is6 i l e) (no_six g 0)

    gone4 : (i : ℕ) (l : List Query) → some? is4 l ≡ false → found4 i l ≡ []
    unfolding found4
    gone4 i l e = rw (none_found is4 i l e) (no-four g 0)

    in_order : (i : ℕ) (l : List Query) → Once is6 l → Once is4 l → parts g (record_runs is6 is4 i l) ≡ found6 i l ++ found4 i l
    unfolding record_runs first_held found6 found4 Once
    in_order i [] u v = parts_none g ∙ sym (rw (no_six g 0, no-four g 0))
    in_order i (q ∷ l) u v = by (is6 q) (is4 q) refl refl (in_order (i + 1) l u.1 v.1)
      where
        n : ℕ
        n = held_count q.answer

        by : (a b : Bool) → is6 q ≡ a → is4 q ≡ b → parts g (record_runs is6 is4 (i + 1) l) ≡ found6 (i + 1) l ++ found4 (i + 1) l → parts g (record_runs is6 is4 i (q ∷ l)) ≡ found6 i (q ∷ l) ++ found4 i (q ∷ l)
        by true true p r h = absurd (let z : ◌≡◌ {A = ℕ} 0 1 = cc (apart-types q p) in omega arith)
        by true false p r h =
            rw (p, r)
            (parts-append g (six i n ∷ []) (record_runs is6 is4 (i + 1) l) ∙ ap (λ x. x ++ parts g (record_runs is6 is4 (i + 1) l)) (parts-one g (six i n))
            ∙ ap (λ y. part g (six i n) ++ y) (h ∙ ap (λ x. x ++ found4 (i + 1) l) (gone6 (i + 1) l (u.0 p))))
        by false true p r h =
            rw (p, r)
            (parts-append g (four i n ∷ []) (record_runs is6 is4 (i + 1) l) ∙ ap (λ x. x ++ parts g (record_runs is6 is4 (i + 1) l)) (parts-one g (four i n))
            ∙ ap (λ y. part g (four i n) ++ y) (h ∙ ap (λ x. found6 (i + 1) l ++ x) (gone4 (i + 1) l (v.0 r)) ∙ append-nil (found6 (i + 1) l))
            ∙ swap g (first_held is6 (i + 1) l).query (first_held is6 (i + 1) l).count i n)
        by false false p r h = rw (p, r) h

  -- a host's part of a tier, in record order or as the listing has it: dealt alike
  module _ (same : Same) (q : Queries) (w : ℕ) (u : Once (is_held same Aaaa w) (take q.count q.list)) (v : Once (is_held same A w) (take q.count q.list)) where
    ours : (g : ℕ) → parts g (host_runs (held_targets same q w) port ech rank) ≡ found6 (is_held same Aaaa w) (is_held same A w) (one_type same w) g 0 (take q.count q.list) ++ found4 (is_held same Aaaa w) (is_held same A w) (one_type same w) g 0 (take q.count q.list)
    unfolding found6 found4 held_targets held_at six four
    ours g =
        let s = held_at same q Aaaa w in
        let r = held_at same q A w in
        parts-append g (six s.query s.count ∷ []) (four r.query r.count ∷ [])
        ∙ ap (λ x. x ++ parts g (four r.query r.count ∷ [])) (parts-one g (six s.query s.count))
        ∙ ap (λ x. part g (six s.query s.count) ++ x) (parts-one g (four r.query r.count))

    one-host : (g : ℕ) → parts g (record_runs (is_held same Aaaa w) (is_held same A w) 0 (take q.count q.list)) ≡ parts g (host_runs (held_targets same q w) port ech rank)
    one-host g = in_order (is_held same Aaaa w) (is_held same A w) (one_type same w) g 0 (take q.count q.list) u v ∙ sym (ours g)

    split : (g : ℕ) (before after : List Item) (l : List Run) → queue (group_of prefer6) (before ++ (tier_items l ++ after)) g ≡ queue (group_of prefer6) before g ++ (parts g l ++ queue (group_of prefer6) after g)
    unfolding parts queue
    split g before after l =
        keep_append (λ x. nat_eq (group_of prefer6 x) g) before (tier_items l ++ after)
        ∙ ap (λ y. keep (λ x. nat_eq (group_of prefer6 x) g) before ++ y) (keep_append (λ x. nat_eq (group_of prefer6 x) g) (tier_items l) after)

    pub record-order : (before after : List Item)
        → interleave (group_of prefer6) (before ++ (tier_items (record_runs (is_held same Aaaa w) (is_held same A w) 0 (take q.count q.list)) ++ after))
        ≡ interleave (group_of prefer6) (before ++ (tier_items (host_runs (held_targets same q w) port ech rank) ++ after))
    record-order before after =
        alike (group_of prefer6) (before ++ (tier_items (record_runs (is_held same Aaaa w) (is_held same A w) 0 (take q.count q.list)) ++ after)) (before ++ (tier_items (host_runs (held_targets same q w) port ech rank) ++ after))
        (λ g h. split g before after _ ∙ ap (λ y. queue (group_of prefer6) before g ++ (y ++ queue (group_of prefer6) after g)) (one-host g) ∙ sym (split g before after _))

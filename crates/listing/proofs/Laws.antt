-- What a reader of the listing may rely on: its members, what of the records it depends on, and the family of each reference.
use Prim.Native.Nat.{ℕ, ◌+◌}
use mathlib.Core.Path.{◌≡◌, refl, sym, ap, ◌∙◌, subst}
use mathlib.Core.Logic.{⊎_elim}
use mathlib.Core.Bool.{Bool, true, false, cond, ◌&&◌}
use mathlib.Core.List.Memᴰ
use mathlib.Core.List.{List, [], ◌∷◌, ◌++◌, map, Memᴰ}
use native.Mathlib.Omega.{arith}
use lib.Dec.{eqb as nat_eq}
use borrow.Author.Tests.{eq-eqb}
use lib.ListN.{take}
use Rattle.deal.specs.Interleaving.{cons_if, keep, queue, interleave}
use Rattle.deal.proofs.Lists.{mem-keep}
use Rattle.deal.proofs.Laws.{interleave-member, inner-order}
use Rattle.records.specs.References.{target_of, literal_at, literal_six, literal_four}
use Rattle.records.specs.Numbers.{kind_number}
use Rattle.records.specs.Queries.{answered}
use Rattle.listing.specs.Held.{held_count, is_for, is_held, first_held, held_at, held_targets, Same}
use Rattle.records.specs.Lists.{each}
use Rattle.listing.specs.Items.{family_of, group_of, target_family}
use Rattle.records.specs.Rules.{prefers_six, by_name}
use Rattle.listing.specs.Listing.{one_target, usable, service_at, service_held, service_runs, origin_of, own_targets, origin_targets, origin_runs, alt_targets, alt_runs, alts_from, last_runs, tier_items, service_tiers, tiers, dealt, items_to_attempt}
use Rattle.records.specs.Services.{any_ech}
use Rattle.records.specs.declared.queries.Kind.{Kind}
use Rattle.records.specs.declared.queries.Kind.TheVariants.{Aaaa, A}
use Rattle.records.specs.declared.rules.Alt.{Alt}
use Rattle.records.specs.declared.services.Service.{Service}
use Rattle.listing.specs.declared.held.Holding.{Holding}
use Rattle.records.proofs.Rooms.{map_same}
use Rattle.records.specs.declared.rules.Rules.{Rules}
use Rattle.records.specs.declared.rules.Alts.{Alts}
use Rattle.records.specs.declared.queries.Query.{Query}
use Rattle.records.specs.declared.queries.Queries.{Queries}
use Rattle.records.specs.declared.queries.Answers.{Answers}
use Rattle.records.specs.declared.services.Services.{Services}
use Rattle.records.specs.declared.rules.Host.TheVariants as host
use Rattle.records.specs.declared.rules.Host.{Host}
use Rattle.records.specs.declared.rules.AltHost.{AltHost}
use Rattle.records.specs.declared.rules.AltHost.TheVariants as alt
use Rattle.records.specs.declared.references.Source.{Source}
use Rattle.records.specs.declared.references.Source.TheVariants.{Held6, Held4, Hint6, Hint4, Literal6, Literal4, Name}
use Rattle.records.specs.declared.references.Item.{Item}
use Rattle.listing.proofs.Appending.{eight-groups}

literal-six : (b : Bool) (h : Host) → target_family b (literal_six h) ≡ cond b 0 1
literal-six b host.Named = refl
literal-six b (host.V4 x) = refl
literal-six b (host.V6 x y) = refl

literal-four : (b : Bool) (h : Host) → target_family b (literal_four h) ≡ cond b 1 0
literal-four b host.Named = refl
literal-four b (host.V4 x) = refl
literal-four b (host.V6 x y) = refl

-- a reference is dealt by the family of the target that it stands for
pub family-right : (r : Rules) (a : Alts) (d : Answers) (s : Services) (prefer6 : Bool) (p : ℕ) (x : Source) → family_of prefer6 x ≡ target_family prefer6 (target_of r a d s p x)
family-right r a d s prefer6 p (Held6 q) = refl
family-right r a d s prefer6 p (Held4 q) = refl
family-right r a d s prefer6 p (Hint6 i) = refl
family-right r a d s prefer6 p (Hint4 i) = refl
family-right r a d s prefer6 p (Literal6 k) = sym (literal-six prefer6 (literal_at r a k))
family-right r a d s prefer6 p (Literal4 k) = sym (literal-four prefer6 (literal_at r a k))
family-right r a d s prefer6 p (Name w) = refl

keep-in : {A : Type 0} {x : A} (p : A → Bool) (xs : List A) → Memᴰ x xs → p x ≡ true → Memᴰ x (keep p xs)
keep-in p [] m e = absurd (Memᴰ.not-nil m)
keep-in {x = x} p (y ∷ ys) m e = go (p y) refl (keep-in p ys)
  where
    go : (b : Bool) → p y ≡ b → (Memᴰ x ys → p x ≡ true → Memᴰ x (keep p ys)) → Memᴰ x (cons_if b y (keep p ys))
    go true q ih = ⊎_elim (λ s. Memᴰ.head s) (λ k. Memᴰ.tail (ih k e)) (Memᴰ.cases_cons m)
    go false q ih = ⊎_elim (λ s. absurd (let z : ◌≡◌ {A = Bool} true false = sym e ∙ ap p s ∙ q in let w : ◌≡◌ {A = ℕ} 0 1 = cc in omega arith)) (λ k. ih k e) (Memᴰ.cases_cons m)

-- interleaving changes only the order: a dealt tier has the members that it was made of
module _ (r : Rules) (x : Item) (xs : List Item) where
  pub dealt-from : Memᴰ x (dealt r xs) → Memᴰ x xs
  unfolding dealt
  dealt-from m = interleave-member (group_of (prefers_six r.preference)) xs m

  pub dealt-all : Memᴰ x xs → Memᴰ x (dealt r xs)
  unfolding dealt queue
  dealt-all m =
      let f = group_of (prefers_six r.preference) in
      (mem-keep (λ y. nat_eq (f y) (f x)) (interleave f xs)
      (subst (λ l. Memᴰ x l) (sym (inner-order f xs (f x) (eight-groups (prefers_six r.preference) x))) (keep-in (λ y. nat_eq (f y) (f x)) xs m (eq-eqb (f x) (f x) refl)))).0

-- a member of the listing is a member of one of its tiers, and the other way round
mem-each : {A B : Type 0} {x : B} (f : A → List B) (l : List A) → Memᴰ x (each f l) → (t : A) × Memᴰ t l × Memᴰ x (f t)
unfolding each
mem-each f [] m = absurd (Memᴰ.not-nil m)
mem-each f (y ∷ l) m = ⊎_elim (λ h. (y, Memᴰ.head refl, h)) (λ h. let w = mem-each f l h in (w.0, Memᴰ.tail w.1, w.2)) (Memᴰ.append_cases (f y) m)

each-mem : {A B : Type 0} {x : B} (f : A → List B) (l : List A) (t : A) → Memᴰ t l → Memᴰ x (f t) → Memᴰ x (each f l)
unfolding each
each-mem f [] t m h = absurd (Memᴰ.not-nil m)
each-mem {x = x} f (y ∷ l) t m h = ⊎_elim (λ e. Memᴰ.append_left (each f l) (subst (λ u. Memᴰ x (f u)) e h)) (λ k. Memᴰ.append_right (f y) (each-mem f l t k h)) (Memᴰ.cases_cons m)

module _ (r : Rules) (a : Alts) (q : Queries) (s : Services) (n : Same) (x : Item) where
  pub listed-member : Memᴰ x (items_to_attempt r a q s n) → (t : List Item) × Memᴰ t (tiers r a q s n) × Memᴰ x t
  unfolding items_to_attempt
  listed-member m = let w = mem-each (dealt r) (tiers r a q s n) m in (w.0, w.1, dealt-from r x w.0 w.2)

  pub member-listed : (t : List Item) → Memᴰ t (tiers r a q s n) → Memᴰ x t → Memᴰ x (items_to_attempt r a q s n)
  unfolding items_to_attempt
  member-listed t m h = each-mem (dealt r) (tiers r a q s n) t m (dealt-all r x t h)

-- Of the records the listing reads only what is known of each: not ids, moments, staleness or refreshes.
-- what counts of a record: its type, its name, whether it is answered, how many addresses it holds
pub record Known : Type 0 where
  pub kind : Kind
  pub name : ℕ
  pub done : Bool
  pub count : ℕ

abbrev pub known : Query → Known
known q = record { kind = q.kind; name = q.name; done = answered q.answer; count = held_count q.answer }

-- looking for a record in what is known
found : (Known → Bool) → ℕ → List Known → Holding
found test i [] = record { query = 0; count = 0 }
found test i (k ∷ l) = cond (test k) (record { query = i; count = k.count }) (found test (i + 1) l)

matches : Same → Kind → ℕ → Known → Bool
matches same kind place k = (nat_eq (kind_number k.kind) (kind_number kind) && k.done) && same k.name place

found-is : (same : Same) (kind : Kind) (place i : ℕ) (l : List Query) → first_held (is_held same kind place) i l ≡ found (matches same kind place) i (map known l)
unfolding first_held is_held found matches
found-is same kind place i [] = refl
found-is same kind place i (q ∷ l) = ap (cond (is_for kind q.kind q.answer && same q.name place) (record { query = i; count = held_count q.answer })) (found-is same kind place (i + 1) l)

-- what is held for each place settles the listing
module _ (n m : Same) (q p : Queries) (targets-same : (w : ℕ) → held_targets n q w ≡ held_targets m p w) where
  module _ (r : Rules) where
    origin-same : origin_targets r q n ≡ origin_targets r p m
    unfolding origin_targets
    origin-same = by-host r.host
      where
        by-host : (h : Host) → origin_of (by_name r.mode) q n h ≡ origin_of (by_name r.mode) p m h
        by-host host.Named = ap (cond (by_name r.mode) (one_target (Name 0))) (targets-same 0)
        by-host (host.V4 x) = refl
        by-host (host.V6 x y) = refl

    own_same : (w : ℕ) (h : Host) → own_targets r q n w h ≡ own_targets r p m w h
    own_same w host.Named = ap (cond (by_name r.mode) (one_target (Name w))) (targets-same w)
    own_same w (host.V4 x) = refl
    own_same w (host.V6 x y) = refl

    alt-same : (w : ℕ) (h : AltHost) → alt_targets r q n w h ≡ alt_targets r p m w h
    alt-same w alt.Origin = origin-same
    alt-same w (alt.Own h) = own_same w h

    alts-same : (i : ℕ) (l : List Alt) → alts_from r q n i l ≡ alts_from r p m i l
    unfolding alts_from alt_runs
    alts-same i [] = refl
    alts-same i (a ∷ l) = rw (alt-same (i + 1) a.host, alts-same (i + 1) l)

    last-same : (a : Alts) → last_runs r a q n ≡ last_runs r a p m
    unfolding last_runs origin_runs
    last-same a = rw (alts-same 0 (take a.count a.list), origin-same)

    service-same : (i : ℕ) (s : Service) → service_runs r q n i s ≡ service_runs r p m i s
    unfolding service_runs service_held
    service-same i s = rw (targets-same s.name)

    same-listing : (a : Alts) (s : Services) → items_to_attempt r a q s n ≡ items_to_attempt r a p s m
    unfolding items_to_attempt tiers service_tiers
    same-listing a s =
        rw (last-same a)
        (ap (λ l. each (dealt r) (l ++ cond (any_ech r.ech s) [] (tier_items (last_runs r a p m) ∷ [])))
        (map_same (λ i. tier_items (service_runs r q n i (service_at s i))) (λ i. tier_items (service_runs r p m i (service_at s i))) (usable r.ech s) (λ i. ap tier_items (service-same i (service_at s i)))))

-- so does what is known of each record,
held_same : (n : Same) (q p : Queries) → map known (take q.count q.list) ≡ map known (take p.count p.list) → (kind : Kind) (w : ℕ) → held_at n q kind w ≡ held_at n p kind w
unfolding held_at
held_same n q p same kind w = found-is n kind w 0 (take q.count q.list) ∙ ap (found (matches n kind w) 0) same ∙ sym (found-is n kind w 0 (take p.count p.list))

pub held-only : (n : Same) (q p : Queries) → map known (take q.count q.list) ≡ map known (take p.count p.list) → (r : Rules) (a : Alts) (s : Services) → items_to_attempt r a q s n ≡ items_to_attempt r a p s n
unfolding held_targets
held-only n q p same r a s = same-listing n n q p targets r a s
  where
    targets : (w : ℕ) → held_targets n q w ≡ held_targets n p w
    targets w = rw (held_same n q p same Aaaa w, held_same n q p same A w)

-- and without a record no name is looked up
pub none-held : (n m : Same) (q : Queries) → q.count ≡ 0 → (r : Rules) (a : Alts) (s : Services) → items_to_attempt r a q s n ≡ items_to_attempt r a q s m
unfolding held_targets held_at first_held
none-held n m q e r a s = same-listing n m q q targets r a s
  where
    targets : (w : ℕ) → held_targets n q w ≡ held_targets m q w
    targets w = rw (e)

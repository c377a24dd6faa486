-- What an HTTPS answer brings, stored element by element, is what its change leaves; and when the classes stay as they are.
--     services-stored, names-stored, echs-stored      services, four names, and four ECH configurations, one after the other
--     still_alike      the classes stay where there were no bytes at the places of the round and none came
use Prim.Native.Nat.{ℕ, suc, ◌+◌, ◌<◌}
use native.Mathlib.Omega.{arith}
use mathlib.Core.Path.{◌≡◌, refl, sym, ap, ◌∙◌}
use mathlib.Core.Bool.{true, ◌&&◌}
use mathlib.Core.List.{List, [], ◌∷◌, map}
use lib.Dec.{eqb as nat_eq}
use lib.ListN.{length, get_or, set}
use lib.Seq.{sets}
use borrow.Author.Tests.{eqb-true}
use Rattle.records.specs.Names.{no_name, no_ech}
use Rattle.records.specs.declared.names.Name.{Name}
use Rattle.records.specs.declared.names.Ech.{Ech}
use Rattle.records.specs.declared.names.Names.{Names}
use Rattle.records.specs.declared.names.Echs.{Echs}
use Rattle.upcoming.specs.Alike.{alike_of}
use Rattle.upcoming.proofs.Kept.{classes-kept, names-blank, echs-blank}
use Rattle.state.specs.Changes.{first_name, first_ech}
use Rattle.state.specs.declared.changes.Round.{Round}
use Rattle.state.specs.declared.changes.Round.TheVariants as round
use Rattle.records.specs.declared.services.Services.{Services}
use Rattle.after.specs.After.{placed_services, put_names, put_echs, bare_names, bare_echs, bare}
use Rattle.after.proofs.Bare.{both, names-bare, echs-bare}
use Rattle.parts.specs.Rooms.{kept, name_in, ech_in}
use Rattle.offers.specs.Offers.{no_span, no_located, names_in, echs_in, in_rooms}
use Rattle.offers.specs.declared.Located.{Located}
use Rattle.offers.proofs.Places.{each-of-four, no_name_lem, no-ech}
use Rattle.bodies.specs.Told.{beside_of, located_of}
use Rattle.bodies.specs.declared.Event.{Event}
use Rattle.bodies.proofs.Brought.{offered-rooms, four-names, four-echs, none-located}

-- the places of a round lie inside their tables
pub names-inside : (r : Round) → first_name r + 3 < 14
names-inside round.First = omega arith
names-inside round.Second = omega arith

pub echs-inside : (r : Round) → first_ech r + 3 < 40
echs-inside round.First = omega arith
echs-inside round.Second = omega arith

-- four elements stored one after the other
abbrev pub four : {A : Type 0} → List A → ℕ → A → A → A → A → List A
four l f a b c d = set (set (set (set l f a) (f + 1) b) (f + 2) c) (f + 3) d

four-set : {A : Type 0} (t : List A) (f : ℕ) (a b c d : A) → four t f a b c d ≡ sets t f (a ∷ b ∷ c ∷ d ∷ [])
four-set t f a b c d =
    let one : f + 1 ≡ suc f = omega arith in
    let two : f + 2 ≡ suc (suc f) = omega arith in
    let three : f + 3 ≡ suc (suc (suc f)) = omega arith in
    rw (one, two, three)

-- what is made of each of four, stored one after the other
pub each-stored : {A B : Type 0} (g : A → B) (z : A) (t : List B) (f : ℕ) (l : List A) → length l ≡ 4 → four t f (g (get_or l 0 z)) (g (get_or l 1 z)) (g (get_or l 2 z)) (g (get_or l 3 z)) ≡ sets t f (map g l)
each-stored g z t f l h = four-set t f _ _ _ _ ∙ ap (sets t f) (each-of-four g z l h)

module _ (s : List ℕ) (e : Event) {o : Located} (h : o ≡ located_of s e) where
  -- the name, and the ECH bytes, of service k
  abbrev name_of : ℕ → Name
  name_of k = name_in (kept 253 s (get_or o.names k no_span))

  abbrev ech_of : ℕ → Ech
  ech_of k = ech_in (kept 512 s (get_or o.echs k no_span))

  abbrev Named : Name → Name → Name → Name → Type 0
  Named a b c d = (a ≡ name_of 0) × (b ≡ name_of 1) × (c ≡ name_of 2) × (d ≡ name_of 3)

  abbrev Sealed : Ech → Ech → Ech → Ech → Type 0
  Sealed a b c d = (a ≡ ech_of 0) × (b ≡ ech_of 1) × (c ≡ ech_of 2) × (d ≡ ech_of 3)

  pub names-stored : (t : Names) (r : Round) {f : ℕ} {a b c d : Name} → f ≡ first_name r → Named a b c d → record { list = four t.list f a b c d } ≡ put_names t r (beside_of s e).names
  unfolding put_names beside_of in_rooms names_in
  names-stored t r u v =
      rw (u, v.0, v.1, v.2, v.3)
      (ap (λ l. record { list = l }) (each-stored (λ b. name_in (kept 253 s b)) no_span t.list (first_name r) o.names (ap (λ x. length x.names) h ∙ four-names s e))
      ∙ (ap (λ x. put_names t r (names_in s x.names)) h ∙ sym (ap (λ x. put_names t r x.names) (offered-rooms s e))))

  pub echs-stored : (t : Echs) (r : Round) {f : ℕ} {a b c d : Ech} → f ≡ first_ech r → Sealed a b c d → record { list = four t.list f a b c d } ≡ put_echs t r (beside_of s e).echs
  unfolding put_echs beside_of in_rooms echs_in
  echs-stored t r u v =
      rw (u, v.0, v.1, v.2, v.3)
      (ap (λ l. record { list = l }) (each-stored (λ b. ech_in (kept 512 s b)) no_span t.list (first_ech r) o.echs (ap (λ x. length x.echs) h ∙ four-echs s e))
      ∙ (ap (λ x. put_echs t r (echs_in s x.echs)) h ∙ sym (ap (λ x. put_echs t r x.echs) (offered-rooms s e))))

  pub services-stored : (r : Round) {x : Services} → x ≡ placed_services o.services r → x ≡ placed_services (beside_of s e).services r
  unfolding beside_of in_rooms
  services-stored r u = u ∙ (ap (λ x. placed_services x.services r) h ∙ sym (ap (λ x. placed_services x.services r) (offered-rooms s e)))

  -- where no service came there is nothing to store
  none_came : o.services.count ≡ 0 → o ≡ no_located
  none_came n = h ∙ none-located s e (sym (ap (λ x. x.services.count) h) ∙ n)

  no_names : o.services.count ≡ 0 → {a b c d : Name} → Named a b c d → (a ≡ no_name) × (b ≡ no_name) × (c ≡ no_name) × (d ≡ no_name)
  unfolding no_located
  no_names n v = rw (v.0, v.1, v.2, v.3, none_came n) (no_name_lem s, no_name_lem s, no_name_lem s, no_name_lem s)

  no-echs : o.services.count ≡ 0 → {a b c d : Ech} → Sealed a b c d → (a ≡ no_ech) × (b ≡ no_ech) × (c ≡ no_ech) × (d ≡ no_ech)
  unfolding no_located
  no-echs n v = rw (v.0, v.1, v.2, v.3, none_came n) (no-ech s, no-ech s, no-ech s, no-ech s)

  pub still_alike : (t : Names) (x : Echs) (r : Round) {f g : ℕ} {a b c d : Name} {i j k l : Ech} → f ≡ first_name r → Named a b c d → g ≡ first_ech r → Sealed i j k l → bare t x r && nat_eq o.services.count 0 ≡ true → alike_of (record { list = four t.list f a b c d }) (record { list = four x.list g i j k l }) ≡ alike_of t x
  unfolding bare
  still_alike t x r u v w y test =
      let empty = both (bare t x r) (nat_eq o.services.count 0) test in
      let lies = both (bare_names t (first_name r)) (bare_echs x (first_ech r)) empty.0 in
      let names = no_names (eqb-true _ 0 empty.1) v in
      let echs = no-echs (eqb-true _ 0 empty.1) y in
      rw (u, w, names.0, names.1, names.2, names.3, echs.0, echs.1, echs.2, echs.3)
      (classes-kept _ _ _ _ (names-blank t (first_name r) (names-inside r) (names-bare t (first_name r) lies.0)) (echs-blank x (first_ech r) (echs-inside r) (echs-bare x (first_ech r) lies.1)))

  -- the same for what `names_in` and `echs_in` make of them
  names-four : (t : Names) (r : Round) → record { list = four t.list (first_name r) (name_of 0) (name_of 1) (name_of 2) (name_of 3) } ≡ put_names t r (names_in s o.names)
  unfolding put_names names_in
  names-four t r = ap (λ l. record { list = l }) (each-stored (λ b. name_in (kept 253 s b)) no_span t.list (first_name r) o.names (ap (λ x. length x.names) h ∙ four-names s e))

  echs-four : (t : Echs) (r : Round) → record { list = four t.list (first_ech r) (ech_of 0) (ech_of 1) (ech_of 2) (ech_of 3) } ≡ put_echs t r (echs_in s o.echs)
  unfolding put_echs echs_in
  echs-four t r = ap (λ l. record { list = l }) (each-stored (λ b. ech_in (kept 512 s b)) no_span t.list (first_ech r) o.echs (ap (λ x. length x.echs) h ∙ four-echs s e))

  pub still_kept : (t : Names) (x : Echs) (r : Round) → bare t x r && nat_eq o.services.count 0 ≡ true → alike_of (put_names t r (names_in s o.names)) (put_echs x r (echs_in s o.echs)) ≡ alike_of t x
  still_kept t x r test = rw (← names-four t r, ← echs-four x r) (still_alike t x r refl (refl, refl, refl, refl) refl (refl, refl, refl, refl) test)

  -- what came beside the event
  pub services-came : o.services ≡ (beside_of s e).services
  unfolding beside_of in_rooms
  services-came = ap (λ x. x.services) h ∙ sym (ap (λ x. x.services) (offered-rooms s e))

  pub names-came : names_in s o.names ≡ (beside_of s e).names
  unfolding beside_of in_rooms
  names-came = ap (λ x. names_in s x.names) h ∙ sym (ap (λ x. x.names) (offered-rooms s e))

  pub echs-came : echs_in s o.echs ≡ (beside_of s e).echs
  unfolding beside_of in_rooms
  echs-came = ap (λ x. echs_in s x.echs) h ∙ sym (ap (λ x. x.echs) (offered-rooms s e))

-- The order of the first records: what the origin wants next is the next of the origin's keys, and once it wants nothing they are all there.
use Rattle.std.specs.Prelude.{Some, None}
use Prim.Native.Nat.{ℕ, ◌≤◌}
use mathlib.Core.Path.{◌≡◌, refl, sym, ap}
use mathlib.Core.Bool.{Bool, true, false, not, cond, ◌&&◌}
use mathlib.Core.List.{List, [], ◌∷◌, ◌++◌, map}
use native.Mathlib.Omega.{arith}
use lib.Dec.{eqb as nat_eq}
use lib.ListN.{length, get_or, get_or-eq_default}
use borrow.Author.Tests.{eqb-true, eq-eqb}
use Rattle.records.specs.Lists.{some?}
use Rattle.records.specs.Numbers.{kind_number}
use Rattle.records.specs.Rules.{is_named, allows_six, allows_four}
use Rattle.records.specs.declared.rules.Rules.{Rules}
use Rattle.records.specs.declared.rules.Mode.{Mode}
use Rattle.records.specs.declared.rules.Mode.TheVariants as mode
use Rattle.records.specs.declared.queries.Kind.{Kind}
use Rattle.records.specs.declared.queries.Kind.TheVariants.{Https, Aaaa, A}
use Rattle.records.specs.declared.queries.Queries.{Queries}
use Rattle.state.specs.State.{asked, https_place}
use Rattle.starting.specs.Surveys.{is_kind, kinds_of}
use Rattle.upcoming.specs.Wanted.{Wanted, missing, origin_addresses, origin_wanted}
use Rattle.starting.specs.declared.surveys.Kinds.{Kinds}
use Rattle.standing.specs.Standing.{Key, key_of, key_at, keys, is_key, agree, address_keys, keys_in, first_keys, origin_first}
use Rattle.standing.proofs.Lists.{no, both, left, right}

abbrev pub of_kind : Kind → Key → Bool
of_kind k x = nat_eq (kind_number x.kind) (kind_number k)

-- the types that were asked for, by the keys
pub some-map : {A B : Type 0} (f : A → B) (p : B → Bool) (l : List A) → some? p (map f l) ≡ some? (λ x. p (f x)) l
unfolding some?
some-map f p [] = refl
some-map f p (x ∷ l) = ap (cond (p (f x)) true) (some-map f p l)

abbrev pub kinds_in : List Key → Kinds
kinds_in ks = record { https = some? (of_kind Https) ks; aaaa = some? (of_kind Aaaa) ks; a = some? (of_kind A) ks }

pub kinds-by-keys : (q : Queries) → kinds_in (keys q) ≡ kinds_of is_kind (asked q)
unfolding keys
kinds-by-keys q = rw (some-map key_of (of_kind Https) (asked q), some-map key_of (of_kind Aaaa) (asked q), some-map key_of (of_kind A) (asked q))

-- Two lists that agree

pub agree-none : (fs : List Key) → agree fs [] ≡ true
unfolding agree
agree-none [] = refl
agree-none (f ∷ fs) = refl

key-itself : (f x : Key) → f ≡ x → is_key f x ≡ true
key-itself f x e = rw e (both (eq-eqb (kind_number x.kind) (kind_number x.kind) refl) (eq-eqb x.name x.name refl))

-- one more: the next of the first list, if it has one
pub agree-next : (fs ks : List Key) (x : Key) → get_or fs (length ks) x ≡ x → agree fs ks ≡ true → agree fs (ks ++ (x ∷ [])) ≡ true
unfolding agree
agree-next [] ks x e h = refl
agree-next (f ∷ fs) [] x e h = both (key-itself f x e) (agree-none fs)
agree-next (f ∷ fs) (k ∷ ks) x e h = both (left _ _ h) (agree-next fs ks x e (right _ _ h))

same_kind : (f k : Key) → is_key f k ≡ true → kind_number k.kind ≡ kind_number f.kind
same_kind f k h = sym (eqb-true _ _ (left _ _ h))

-- what a wish of the origin says of the next key: it is that; if there is none, all are there
abbrev pub Nexts : List Key → List Key → Wanted → Type 0
Nexts fs ks None = length fs ≤ length ks
Nexts fs ks (Some (k, p)) = get_or fs (length ks) (key_at k p) ≡ key_at k p

pub past : (fs ks : List Key) (w : Wanted) → length fs ≤ length ks → Nexts fs ks w
past fs ks None h = h
past fs ks (Some (k, p)) h = get_or-eq_default fs (key_at k p) h

module _ (p : ℕ) where
  abbrev https : Key
  https = key_at Https p

  abbrev six : Bool → List Key
  six on = cond on (key_at Aaaa 0 ∷ []) []

  abbrev four : Bool → List Key
  four on = cond on (key_at A 0 ∷ []) []

  abbrev addresses : Bool → Bool → Kinds → Wanted
  addresses s f k = cond (s && not k.aaaa) (Some (Aaaa, 0)) (cond (f && not k.a) (Some (A, 0)) None)

  abbrev wants : Bool → Bool → Kinds → Wanted
  wants s f k = cond k.https (addresses s f k) (Some (Https, p))

  at-most-three : (s f : Bool) → length (https ∷ (six s ++ four f)) ≤ 3
  at-most-three true true = omega arith
  at-most-three true false = omega arith
  at-most-three false true = omega arith
  at-most-three false false = omega arith

  ip-next : (s f : Bool) (ks : List Key) → agree (https ∷ (six s ++ four f)) ks ≡ true → Nexts (https ∷ (six s ++ four f)) ks (wants s f (kinds_in ks))
  unfolding agree some?
  ip-next s f [] h = refl
  ip-next true f (a ∷ []) h = rw (same_kind https a (left _ _ h))
  ip-next false true (a ∷ []) h = rw (same_kind https a (left _ _ h))
  ip-next false false (a ∷ []) h = rw (same_kind https a (left _ _ h)) (omega arith)
  ip-next true true (a ∷ b ∷ []) h = rw (same_kind https a (left _ _ h), same_kind (key_at Aaaa 0) b (left _ _ (right _ _ h)))
  ip-next true false (a ∷ b ∷ []) h = past (https ∷ six true) (a ∷ b ∷ []) (wants true false (kinds_in (a ∷ b ∷ []))) (omega arith)
  ip-next false true (a ∷ b ∷ []) h = past (https ∷ four true) (a ∷ b ∷ []) (wants false true (kinds_in (a ∷ b ∷ []))) (omega arith)
  ip-next false false (a ∷ b ∷ []) h = past (https ∷ []) (a ∷ b ∷ []) (wants false false (kinds_in (a ∷ b ∷ []))) (omega arith)
  ip-next s f (a ∷ b ∷ c ∷ l) h = past (https ∷ (six s ++ four f)) (a ∷ b ∷ c ∷ l) (wants s f (kinds_in (a ∷ b ∷ c ∷ l))) (omega (arith, at-most-three s f))

  https-next : (ks : List Key) → agree (https ∷ []) ks ≡ true → Nexts (https ∷ []) ks (cond (some? (of_kind Https) ks) None (Some (Https, p)))
  unfolding agree some?
  https-next [] h = refl
  https-next (a ∷ l) h = past (https ∷ []) (a ∷ l) (cond (some? (of_kind Https) (a ∷ l)) None (Some (Https, p))) (omega arith)

  -- no HTTPS key: no key at all
  pub none_yet : (fs ks : List Key) → agree (https ∷ fs) ks ≡ true → some? (of_kind Https) ks ≡ false → length ks ≡ 0
  unfolding agree some?
  none_yet fs [] h e = refl
  none_yet fs (a ∷ l) h e = absurd (no (sym (rw (same_kind https a (left _ _ h)) at e)))

-- What the origin wants

module _ (r : Rules) (ks : List Key) (h : origin_first r ks ≡ true) where
  pub origin-next : Nexts (first_keys r) ks (origin_wanted r (kinds_in ks))
  unfolding origin_first first_keys origin_wanted address_keys missing
  origin-next = by (is_named r.host) r.mode h
    where
      by : (b : Bool) (m : Mode) → agree (cond b (keys_in m r) []) ks ≡ true → Nexts (cond b (keys_in m r) []) ks (cond b (cond (some? (of_kind Https) ks) (origin_addresses m r.preference (kinds_in ks)) (Some (Https, (https_place r)))) None)
      by true mode.Ip e = ip-next (https_place r) (allows_six r.preference) (allows_four r.preference) ks e
      by true mode.Name e = past [] ks (cond (some? (of_kind Https) ks) None (Some (Https, (https_place r)))) (omega arith)
      by true mode.NameWithHttpsRr e = https-next (https_place r) ks e
      by false m e = omega arith

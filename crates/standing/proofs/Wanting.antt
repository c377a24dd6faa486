-- A query that is wanted may be asked: its name's place is known, no record is for the same, an HTTPS record comes first, and the origin's come
-- in their order.
use Rattle.std.specs.Prelude.{Some, None}
use Prim.Native.Nat.{ℕ, suc, ◌+◌, ◌*◌, ◌<◌, ◌≤◌}
use mathlib.Core.Path.{◌≡◌, refl, sym, ap, ◌∙◌}
use mathlib.Core.Logic.{◌⊎◌, inl, inr, ⊎_elim}
use mathlib.Core.Bool.{Bool, true, false, not, cond, ◌&&◌}
use mathlib.Core.List.{List, [], ◌∷◌, ◌++◌, map}
use native.Mathlib.Nat.{zero-add}
use native.Mathlib.Omega.{arith}
use lib.ListN.{length, get_or, take, length-take}
use borrow.Author.Tests.{eqb-true, lt-ltb, le-ltb}
use Rattle.records.specs.Lists.{some?}
use Rattle.records.specs.Names.{same_at}
use Rattle.records.specs.Numbers.{kind_number}
use Rattle.records.specs.Rules.{is_named, allows_six, allows_four, no_alt}
use Rattle.records.specs.Services.{blank_service, offered, any_ech, is_usable}
use Rattle.records.specs.declared.names.Names.{Names}
use Rattle.records.specs.declared.rules.Rules.{Rules}
use Rattle.records.specs.declared.rules.Mode.{Mode}
use Rattle.records.specs.declared.rules.Mode.TheVariants as mode
use Rattle.records.specs.declared.rules.Preference.{Preference}
use Rattle.records.specs.declared.queries.Kind.{Kind}
use Rattle.records.specs.declared.queries.Kind.TheVariants.{Https, Aaaa, A}
use Rattle.records.specs.declared.queries.Answer.{Answer}
use Rattle.records.specs.declared.queries.Answer.TheVariants.{Pending, Failed, Held}
use Rattle.records.specs.declared.queries.Refresh.{Refresh}
use Rattle.records.specs.declared.queries.Refresh.TheVariants.{Idle, InFlight, Done}
use Rattle.records.specs.declared.queries.Query.{Query}
use Rattle.records.specs.declared.queries.Queries.{Queries}
use Rattle.state.specs.State.{asked, is_prefixed, https_place}
use Rattle.state.specs.declared.Machine.{Machine}
use Rattle.upcoming.specs.Wanted.{Wanted, or_wanted, first_wanted, is_asked_at, is_asked, asked_for, is_missing, missing, place_wanted, origin_addresses, origin_wanted, target_wanted, targets_wanted, own_name, alt_wanted, alts_wanted, wanted_in, wanted_by, next_query}
use Rattle.standing.specs.Lists.{◌and◌, ◌or◌, every}
use Rattle.standing.specs.Standing.{zero?, Key, key_of, key_at, keys, same_key, is_https, agree, keys_in, first_keys, origin_first, phase_of, query_phase, phase, holds_https, query_holds, holding, name_needs, named, service_stands, served}
use Rattle.standing.proofs.Lists.{no, rule, or-second, every-imp, every_map, none_passes, eqb-sym, at_at}
use Rattle.standing.proofs.Parts.{Standing}
use Rattle.standing.proofs.Same.{at-sym}
use Rattle.standing.proofs.Https.{setting-named, https-named}
use Rattle.standing.proofs.Order.{of_kind, kinds_in, kinds-by-keys, agree-next, past, origin-next, none_yet}

pub record Wants (m : Machine) (k : Kind) (p : ℕ) : Type 0 where
  pub known : named (phase m.queries) p ≡ true
  pub new : every (λ j. not (same_key m.names (key_at k p) j)) (keys m.queries) ≡ true
  pub first : is_https k ≡ true → length (keys m.queries) ≡ 0
  pub order : origin_first m.rules (keys m.queries ++ (key_at k p ∷ [])) ≡ true

-- No record is for the same

other-kind : (names : Names) (k : Kind) (p : ℕ) (j : Key) → not (of_kind k j) ≡ true → not (same_key names (key_at k p) j) ≡ true
unfolding same_key ◌and◌
other-kind names k p j h = rw (eqb-sym (kind_number k) (kind_number j.kind)) (go (of_kind k j) h)
  where
    go : (b : Bool) → not b ≡ true → not (b and same_at names p j.name) ≡ true
    go true e = absurd (no e)
    go false e = refl

other_key : (names : Names) (k : Kind) (p : ℕ) (x : Query) → not (is_asked_at (same_at names) k p x) ≡ true → not (same_key names (key_at k p) (key_of x)) ≡ true
unfolding same_key is_asked ◌and◌
other_key names k p x h = rw (eqb-sym (kind_number k) (kind_number x.kind), at-sym names p x.name) (go (of_kind k (key_of x)) (same_at names x.name p) h)
  where
    go : (b c : Bool) → not (b && c) ≡ true → not (b and c) ≡ true
    go true c e = e
    go false c e = refl

module _ (names : Names) (q : Queries) (k : Kind) (p : ℕ) where
  new-kind : some? (of_kind k) (keys q) ≡ false → every (λ j. not (same_key names (key_at k p) j)) (keys q) ≡ true
  new-kind e = every-imp _ _ (other-kind names k p) (keys q) (none_passes (of_kind k) (keys q) e)

  new-key : some? (is_asked_at (same_at names) k p) (asked q) ≡ false → every (λ j. not (same_key names (key_at k p) j)) (keys q) ≡ true
  unfolding keys
  new-key e = rw (every_map key_of (λ j. not (same_key names (key_at k p) j)) (asked q)) (every-imp _ _ (other_key names k p) (asked q) (none_passes (is_asked_at (same_at names) k p) (asked q) e))

-- Places

-- a held HTTPS answer is the first or the second
held-phase : (k : Kind) (a : Answer) (r : Refresh) → holds_https k a ≡ true → (phase_of k a r ≡ 1) ⊎ (phase_of k a r ≡ 2)
held-phase Https Pending r e = absurd (no e)
held-phase Https (Failed t) r e = absurd (no e)
held-phase Https (Held t n) Idle e = inl refl
held-phase Https (Held t n) (InFlight i) e = inl refl
held-phase Https (Held t n) Done e = inr refl
held-phase Aaaa a r e = absurd (no e)
held-phase A a r e = absurd (no e)

pub holding-phase : (q : Queries) → holding q ≡ true → (phase q ≡ 1) ⊎ (phase q ≡ 2)
unfolding holding phase
holding-phase q h = go (asked q) h
  where
    go : (l : List Query) → get_or (map query_holds l) 0 false ≡ true → (get_or (map query_phase l) 0 0 ≡ 1) ⊎ (get_or (map query_phase l) 0 0 ≡ 2)
    go [] e = absurd (no e)
    go (x ∷ l) e = held-phase x.kind x.answer x.refresh e

first-named : (i : ℕ) → i < 4 → named 1 (1 * 4 + 1 + i) ≡ true
unfolding named name_needs
first-named i b = rw (le-ltb (1 * 4 + 1 + i) 5 (omega arith), lt-ltb (1 * 4 + 1 + i) 9 (omega arith))

second-named : (i : ℕ) → i < 4 → named 2 (2 * 4 + 1 + i) ≡ true
unfolding named name_needs
second-named i b = rw (le-ltb (2 * 4 + 1 + i) 5 (omega arith), le-ltb (2 * 4 + 1 + i) 9 (omega arith), lt-ltb (2 * 4 + 1 + i) 13 (omega arith))

pub service-named : (k i p : ℕ) → (k ≡ 1) ⊎ (k ≡ 2) → i < 4 → p ≡ k * 4 + 1 + i → named k p ≡ true
service-named k i p c b e =
    ⊎_elim
    (λ g. let f : p ≡ 1 * 4 + 1 + i = omega (arith, g) in rw f (rw g (first-named i b)))
    (λ g. let f : p ≡ 2 * 4 + 1 + i = omega (arith, g) in rw f (rw g (second-named i b)))
    c

https-place : (r : Rules) (k : ℕ) → named k (https_place r) ≡ true
unfolding https_place
https-place r k = go (is_prefixed r)
  where
    go : (b : Bool) → named k (cond b 13 0) ≡ true
    go true = https-named k
    go false = setting-named k 0 (omega arith)

module _ (m : Machine) (h : Standing m) where
  abbrev q : Queries
  q = m.queries

  abbrev ks : List Key
  ks = keys q

  -- where services are, they are those of an answer that is held
  pub offered-phase : (j : ℕ) → j < length (offered m.services) → (phase q ≡ 1) ⊎ (phase q ≡ 2)
  unfolding served
  offered-phase j b = holding-phase q (go (holding q) m.services.count (rule 0 _ h.services) (omega (arith, length-take m.services.count m.services.list)))
    where
      go : (c : Bool) (n : ℕ) → (c or zero? n) ≡ true → 0 < n → c ≡ true
      go true n e f = refl
      go false n e f = absurd (omega (arith, eqb-true n 0 (or-second _ _ refl e)))

  -- service j
  pub service-at : (j : ℕ) → j < length (offered m.services) → service_stands (phase q) j (get_or (offered m.services) j blank_service) ≡ true
  unfolding served
  service-at j b = rw zero-add at (at_at (service_stands (phase q)) 0 (offered m.services) j blank_service b (rule 1 _ h.services))

  pub few-services : length (offered m.services) ≤ 4
  few-services = omega (arith, length-take m.services.count m.services.list, h.room.services.size)

  abbrev pub Asks : Wanted → Type 0
  Asks None = Unit {0}
  Asks (Some (k, p)) = Wants m k p

  -- a query beside the origin's
  record Beside (k : Kind) (p : ℕ) : Type 0 where
    known : named (phase q) p ≡ true
    new : every (λ j. not (same_key m.names (key_at k p) j)) ks ≡ true
    plain : is_https k ≡ false

  abbrev SaysBeside : Wanted → Type 0
  SaysBeside None = Unit {0}
  SaysBeside (Some (k, p)) = Beside k p

  or-beside : (w v : Wanted) → SaysBeside w → SaysBeside v → SaysBeside (or_wanted w v)
  or-beside None v f g = g
  or-beside (Some (k, p)) v f g = f

  if-beside : (b : Bool) (w : Wanted) → SaysBeside w → SaysBeside (cond b w None)
  if-beside true w f = f
  if-beside false w f = tt

  was-missing : (a b : Bool) → (a && not b) ≡ true → b ≡ false
  was-missing true true e = absurd (no e)
  was-missing true false e = refl
  was-missing false b e = absurd (no e)

  place-says : (pref : Preference) (p : ℕ) → named (phase q) p ≡ true → SaysBeside (place_wanted pref q (same_at m.names) p)
  unfolding place_wanted missing asked_for
  place-says pref p known = go (is_missing (allows_six pref) (some? (is_asked_at (same_at m.names) Aaaa p) (asked q))) (is_missing (allows_four pref) (some? (is_asked_at (same_at m.names) A p) (asked q))) refl refl
    where
      go : (a b : Bool) → is_missing (allows_six pref) (some? (is_asked_at (same_at m.names) Aaaa p) (asked q)) ≡ a → is_missing (allows_four pref) (some? (is_asked_at (same_at m.names) A p) (asked q)) ≡ b
          → SaysBeside (cond a (Some (Aaaa, p)) (cond b (Some (A, p)) None))
      go true b e f = record { known = known; new = new-key m.names q Aaaa p (was-missing (allows_six pref) _ e); plain = refl }
      go false true e f = record { known = known; new = new-key m.names q A p (was-missing (allows_four pref) _ f); plain = refl }
      go false false e f = tt

  first_says : {A : Type 0} (f : ℕ → A → Wanted) (d : A) (i : ℕ) (l : List A) → ((j : ℕ) → j < length l → SaysBeside (f (i + j) (get_or l j d))) → SaysBeside (first_wanted f i l)
  unfolding first_wanted
  first_says f d i [] g = tt
  first_says f d i (x ∷ l) g =
      let z : i + 0 ≡ i = omega arith in
      or-beside (f i x) (first_wanted f (i + 1) l) (rw z at (g 0 (omega arith)))
      (first_says f d (i + 1) l (λ j b. let e : i + suc j ≡ i + 1 + j = omega arith in rw e at (g (suc j) (omega arith))))

  targets-say : SaysBeside (targets_wanted m.rules q m.services (same_at m.names))
  unfolding targets_wanted target_wanted service_stands
  targets-say =
      first_says _ blank_service 0 (offered m.services)
      (λ j b. let s = get_or (offered m.services) j blank_service in
      if-beside (is_usable (any_ech m.rules.ech m.services) s.ech) (place_wanted m.rules.preference q (same_at m.names) s.name)
      (place-says m.rules.preference s.name (service-named (phase q) j s.name (offered-phase j b) (omega (arith, few-services)) (eqb-true _ _ (rule 0 _ (service-at j b))))))

  alts-say : SaysBeside (alts_wanted m.rules m.alts q (same_at m.names))
  unfolding alts_wanted alt_wanted
  alts-say =
      first_says _ no_alt 0 (take m.alts.count m.alts.list)
      (λ j b. if-beside (own_name (get_or (take m.alts.count m.alts.list) j no_alt).host) (place_wanted m.rules.preference q (same_at m.names) (0 + j + 1))
      (place-says m.rules.preference (0 + j + 1) (setting-named (phase q) (0 + j + 1) (omega (arith, length-take m.alts.count m.alts.list, h.room.alts.size)))))

  others : Wanted
  others = or_wanted (targets_wanted m.rules q m.services (same_at m.names)) (alts_wanted m.rules m.alts q (same_at m.names))

  others-say : SaysBeside others
  unfolding others
  others-say = or-beside (targets_wanted m.rules q m.services (same_at m.names)) (alts_wanted m.rules m.alts q (same_at m.names)) targets-say alts-say

  -- What the origin wants: a type that no record has
  record Origins (k : Kind) (p : ℕ) : Type 0 where
    known : named (phase q) p ≡ true
    none : some? (of_kind k) ks ≡ false
    first : is_https k ≡ true → length ks ≡ 0

  abbrev SaysOrigin : Wanted → Type 0
  SaysOrigin None = Unit {0}
  SaysOrigin (Some (k, p)) = Origins k p

  address-says : SaysOrigin (missing m.rules.preference (record { six = some? (of_kind Aaaa) ks; four = some? (of_kind A) ks }) 0)
  unfolding missing
  address-says = go (is_missing (allows_six m.rules.preference) (some? (of_kind Aaaa) ks)) (is_missing (allows_four m.rules.preference) (some? (of_kind A) ks)) refl refl
    where
      go : (a b : Bool) → is_missing (allows_six m.rules.preference) (some? (of_kind Aaaa) ks) ≡ a → is_missing (allows_four m.rules.preference) (some? (of_kind A) ks) ≡ b
          → SaysOrigin (cond a (Some (Aaaa, 0)) (cond b (Some (A, 0)) None))
      go true b e f = record { known = setting-named (phase q) 0 (omega arith); none = was-missing (allows_six m.rules.preference) _ e; first = λ g. absurd (no g) }
      go false true e f = record { known = setting-named (phase q) 0 (omega arith); none = was-missing (allows_four m.rules.preference) _ f; first = λ g. absurd (no g) }
      go false false e f = tt

  -- in a mode that asks for the HTTPS record
  https-says : (fs : List Key) (w : Wanted) → agree (key_at Https (https_place m.rules) ∷ fs) ks ≡ true → SaysOrigin w → SaysOrigin (cond (some? (of_kind Https) ks) w (Some (Https, (https_place m.rules))))
  https-says fs w h f = go (some? (of_kind Https) ks) refl
    where
      go : (b : Bool) → some? (of_kind Https) ks ≡ b → SaysOrigin (cond b w (Some (Https, (https_place m.rules))))
      go true e = f
      go false e = record { known = https-place m.rules (phase q); none = e; first = λ g. none_yet (https_place m.rules) fs ks h e }

  -- from what the origin wants, and from what is wanted beside it
  origin-wants : (k : Kind) (p : ℕ) → Origins k p → origin_wanted m.rules (kinds_in ks) ≡ Some (k, p) → Wants m k p
  unfolding origin_first
  origin-wants k p o e =
      record {
        known = o.known;
        new = new-kind m.names q k p o.none;
        first = o.first;
        order = agree-next (first_keys m.rules) ks (key_at k p) (rw e at (origin-next m.rules ks h.order)) h.order;
      }

  beside-wants : (k : Kind) (p : ℕ) → Beside k p → origin_wanted m.rules (kinds_in ks) ≡ None → Wants m k p
  unfolding origin_first
  beside-wants k p o e =
      record {
        known = o.known;
        new = o.new;
        first = λ g. absurd (no (sym o.plain ∙ g));
        order = agree-next (first_keys m.rules) ks (key_at k p) (past (first_keys m.rules) ks (Some (k, p)) (rw e at (origin-next m.rules ks h.order))) h.order;
      }

  origin-or : (w : Wanted) → SaysOrigin w → origin_wanted m.rules (kinds_in ks) ≡ w → (v : Wanted) → SaysBeside v → Asks (or_wanted w v)
  origin-or (Some (k, p)) f e v g = origin-wants k p f e
  origin-or None f e (Some (k, p)) g = beside-wants k p g e
  origin-or None f e None g = tt

  origin-alone : (w : Wanted) → SaysOrigin w → origin_wanted m.rules (kinds_in ks) ≡ w → Asks w
  origin-alone (Some (k, p)) f e = origin-wants k p f e
  origin-alone None f e = tt

  -- by the mode
  abbrev origin_is : Bool → Mode → Wanted
  origin_is b d = cond b (cond (some? (of_kind Https) ks) (origin_addresses d m.rules.preference (kinds_in ks)) (Some (Https, (https_place m.rules)))) None

  mode-says : (b : Bool) (d : Mode) → agree (cond b (keys_in d m.rules) []) ks ≡ true → origin_wanted m.rules (kinds_in ks) ≡ origin_is b d → Asks (wanted_in d (origin_is b d) others)
  mode-says true mode.Ip f e = origin-or (origin_is true mode.Ip) (https-says _ _ f address-says) e others others-say
  mode-says true mode.Name f e = tt
  mode-says true mode.NameWithHttpsRr f e = origin-alone (origin_is true mode.NameWithHttpsRr) (https-says _ _ f tt) e
  mode-says false mode.Ip f e = origin-or None tt e others others-say
  mode-says false mode.Name f e = tt
  mode-says false mode.NameWithHttpsRr f e = tt

  by-keys : next_query m.rules m.alts q m.services (same_at m.names) ≡ wanted_in m.rules.mode (origin_wanted m.rules (kinds_in ks)) others
  unfolding next_query wanted_by others
  by-keys = ap (λ k. wanted_by k m.rules m.alts q m.services (same_at m.names)) (sym (kinds-by-keys q))

  pub query-says : Asks (next_query m.rules m.alts q m.services (same_at m.names))
  unfolding origin_wanted origin_first first_keys
  query-says = rw by-keys (mode-says (is_named m.rules.host) m.rules.mode h.order refl)

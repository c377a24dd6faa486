-- The machine that is made stands.
use Prim.Native.Nat.{ℕ, zero, suc, ◌+◌, ◌-◌, ◌<◌, ◌≤◌}
use mathlib.Core.Path.{◌≡◌, refl, ap, ◌∙◌}
use mathlib.Core.Bool.{Bool, true, false, not, cond, ◌&&◌}
use mathlib.Core.List.{List, [], ◌∷◌, map}
use native.Mathlib.Nat.{zero-add}
use native.Mathlib.Omega.{arith}
use lib.Dec.{eqb as nat_eq, ltb as nat_lt}
use lib.ListN.{length, get_or, take, replicate, length-take, length-set, length-append, length-replicate, get_or-map}
use lib.Seq.{take_all, get_or-set_same, get_or-set_other, drop_at}
use borrow.Author.Tests.{eqb-true, ne_eqb, le-leb, leb-true, lt-ltb, ltb-true}
use Rattle.numbers.specs.Names.{name_ok}
use Rattle.records.specs.Lists.{each, some?, cell, padded}
use Rattle.records.specs.Names.{no_ech, no_echs, no_name, blank_name, name_at, name_bytes, name_bytes_at, with_name, same_bytes}
use Rattle.records.specs.Queries.{no_query, no_queries, no_addr, no_addresses, no_answers}
use Rattle.records.specs.Rules.{is_named, no_alt}
use Rattle.records.specs.Services.{no_service, no_services}
use Rattle.records.specs.declared.names.Name.{Name}
use Rattle.records.specs.declared.names.Names.{Names}
use Rattle.records.specs.declared.rules.Alts.{Alts}
use Rattle.records.specs.declared.rules.Rules.{Rules}
use Rattle.records.specs.declared.rules.Timing.{Timing}
use Rattle.records.specs.declared.queries.Kind.TheVariants.{Https}
use Rattle.records.proofs.Bytes.{same_refl}
use Rattle.records.proofs.Rooms.{padded-take}
use Rattle.state.specs.Https.{prefixed, name_in}
use Rattle.state.specs.State.{no_attempt, no_attempts, no_retries, is_prefixed, first_names, made}
use Rattle.standing.specs.Lists.{◌and◌, ◌or◌, all, every, every_at, apart, total}
use Rattle.standing.specs.Making.{has_name, setting_sound, configuration_sound}
use Rattle.standing.specs.Standing.{fits, zero?, empty_alt, empty_query, empty_service, empty_attempt, ids_of, keys, one_each, https_first, first_keys, origin_first, empty_addr, formed, held, kind_of, addresses_stand, addressed, won, phase, holding, named, kept, served, name_stands, ech_stands, own_name, lies, configured, standing}
use Rattle.standing.proofs.Lists.{no, both, left, right, rule, all3, all4, or_left, or_right, or-true, every-replicate, at-replicate, at-imp, at_set, at_of, at_at}
use Rattle.standing.proofs.Parts.{Standing, Fits, fits-of, to-fits, zeros-fit, stands}
use Rattle.standing.proofs.Asking.{no-addresses}
use Rattle.standing.proofs.Https.{setting-named, https-named, lies-stays}
use Rattle.standing.proofs.Offering.{none-empty}
use Rattle.standing.proofs.Order.{agree-none}
use Rattle.standing.proofs.Prefix.{name-there, prefix-ok, prefix-length}

no_bytes : (k : ℕ) (rs : List ℕ) (p : ℕ) → ech_stands k rs p no_ech ≡ true
unfolding ech_stands no_ech
no_bytes k rs p = both (fits-of (zeros-fit 512 zero? 0 refl)) (or-true (kept k rs p))

zeros-at : {A : Type 0} (n : ℕ) (x : A) (i : ℕ) → get_or (replicate n x) i x ≡ x
zeros-at zero x i = refl
zeros-at (suc n) x zero = refl
zeros-at (suc n) x (suc i) = zeros-at n x i

no_address : addresses_stand 0 Https no_addresses ≡ true
unfolding addresses_stand no_addresses all ◌and◌
no_address = both (fits-of (zeros-fit 8 empty_addr no_addr refl)) (every-replicate (formed Https) 8 no_addr refl)

no-answers : addressed no_queries no_answers ≡ true
unfolding addressed no_queries no_answers
no-answers =
    at-replicate _ 0 16 no_addresses
    (λ i. let e : get_or (map held (replicate 16 no_query)) i 0 ≡ 0 = get_or-map held (replicate 16 no_query) i no_query ∙ ap held (zeros-at 16 no_query i) in
    rw e (no-addresses (get_or (map kind_of (replicate 16 no_query)) i Https) Https no_addresses no_address))

-- Names of the configuration

-- there are none past the alternatives' places
name-early : (r : Rules) (l : Alts) (p : ℕ) → has_name r l p ≡ true → p < 5
unfolding has_name
name-early r l p h = go (nat_eq p 0) (nat_lt (p - 1) 4) refl refl h
  where
    go : (b c : Bool) → nat_eq p 0 ≡ b → nat_lt (p - 1) 4 ≡ c → cond b (is_named r.host) (own_name (cond c (get_or l.list (p - 1) no_alt) no_alt).host) ≡ true → p < 5
    go true c e f g = omega (arith, eqb-true p 0 e)
    go false true e f g = omega (arith, ltb-true (p - 1) 4 f)
    go false false e f g = absurd (no g)

setting-stands : (r : Rules) (l : Alts) (p : ℕ) (x : Name) → setting_sound r l p x ≡ true → name_stands 0 p x ≡ true
unfolding setting_sound name_stands
setting-stands r l p x h = go (has_name r l p) refl (right _ _ h)
  where
    go : (b : Bool) → has_name r l p ≡ b → cond b (name_ok (name_bytes x)) (zero? x.len) ≡ true → all (fits 253 zero? x.len x.bytes ∷ (named 0 p or zero? x.len) ∷ (zero? x.len or name_ok (name_bytes x)) ∷ []) ≡ true
    go true e g = all3 (left _ _ h) (or_left _ _ (setting-named 0 p (name-early r l p e))) (or_right _ true _ (λ t. g) (or-true _))
    go false e g = all3 (left _ _ h) (or_right _ true _ (λ t. g) (or-true _)) (or_left _ _ g)

-- a name that is there has bytes, and another none
no_name_lem : (x : Name) → x.len ≡ 0 → name_bytes x ≡ []
unfolding name_bytes
no_name_lem x e = rw e

name-lies : (x : Name) (b : Bool) → cond b (name_ok (name_bytes x)) (zero? x.len) ≡ true → cond b (nat_lt 0 (length (name_bytes x))) (zero? (length (name_bytes x))) ≡ true
name-lies x true h = lt-ltb 0 (length (name_bytes x)) (name-there (name_bytes x) h)
name-lies x false h = rw (no_name_lem x (eqb-true x.len 0 h))

-- The HTTPS name

name-room : (bs : List ℕ) → Fits 253 zero? (name_in bs).len (name_in bs).bytes
unfolding name_in padded
name-room bs =
    let xs = take 253 bs in
    let few : length xs ≤ 253 = rw length-take (omega arith) in
    record {
      size = length-append xs (replicate (253 - length xs) 0) ∙ (rw length-replicate (omega arith));
      few = few;
      rest = rw (drop_at xs (replicate (253 - length xs) 0) (length xs) refl) (every-replicate zero? (253 - length xs) 0 refl);
    }

name-bytes : (bs : List ℕ) → length bs ≤ 253 → name_bytes (name_in bs) ≡ bs
unfolding name_bytes name_in
name-bytes bs b = padded-take 0 253 (take 253 bs) ∙ take_all 253 bs b

in-stands : (bs : List ℕ) → length bs ≤ 253 → name_ok bs ≡ true → name_stands 0 13 (name_in bs) ≡ true
unfolding name_stands
in-stands bs b h = all3 (fits-of (name-room bs)) (or_left _ _ (https-named 0)) (or_right _ true _ (λ t. rw (name-bytes bs b) h) (or-true _))

named-prefix : (r : Rules) → is_prefixed r ≡ true → is_named r.host ≡ true
unfolding is_prefixed
named-prefix r h = go (not (nat_eq r.port 443)) (is_named r.host) h
  where
    go : (a b : Bool) → (a && b) ≡ true → b ≡ true
    go true b e = e
    go false b e = absurd (no e)

module _ (r : Rules) (l : Alts) (n : Names) (sound : configuration_sound r l n ≡ true) where
  alts-fit : Fits 4 empty_alt l.count l.list
  unfolding configuration_sound
  alts-fit = to-fits 4 empty_alt l.count l.list (rule 0 _ sound)

  room : length n.list ≡ 14
  unfolding configuration_sound
  room = eqb-true _ _ (rule 1 _ sound)

  all_sound : every_at (setting_sound r l) 0 n.list ≡ true
  unfolding configuration_sound
  all_sound = rule 2 _ sound

  short : length (name_bytes_at n 0) ≤ 239
  unfolding configuration_sound
  short = leb-true _ _ (rule 3 _ sound)

  -- the name at a place of the table
  at_place : (p : ℕ) → p < 14 → cond (has_name r l p) (name_ok (name_bytes_at n p)) (zero? (name_at n p).len) ≡ true
  unfolding name_at setting_sound
  at_place p b = rw (lt-ltb p 14 b) (right _ _ (rw zero-add at (at_at (setting_sound r l) 0 n.list p blank_name (omega (arith, room)) all_sound)))

  lies_at : (p : ℕ) → p < 14 → lies (has_name r l p) n p ≡ true
  unfolding lies
  lies_at p b = name-lies (name_at n p) (has_name r l p) (at_place p b)

  -- the names at the making
  abbrev all-names : Names
  all-names = first_names r n

  others-stay : (p : ℕ) → (p ≡ 13 → ⊥) → name_bytes_at all-names p ≡ name_bytes_at n p
  unfolding first_names name_at
  others-stay p o = ap name_bytes (go (is_prefixed r))
    where
      go : (b : Bool) → cell 14 blank_name no_name (cond b (with_name n 13 (name_in (prefixed r.port (name_bytes_at n 0)))) n).list p ≡ cell 14 blank_name no_name n.list p
      go true = rw (get_or-set_other n.list 13 p (name_in (prefixed r.port (name_bytes_at n 0))) blank_name o)
      go false = refl

  alt-name : (i : ℕ) → i < 4 → has_name r l (1 + i) ≡ own_name (get_or l.list i no_alt).host
  unfolding has_name
  alt-name i b = let z : 1 + i - 1 ≡ i = omega arith in rw (ne_eqb (1 + i) 0 (λ e. omega arith), z, lt-ltb i 4 b)

  origin-ok : is_prefixed r ≡ true → name_ok (name_bytes_at n 0) ≡ true
  unfolding has_name
  origin-ok e = rw (named-prefix r e) at (at_place 0 (omega arith))

  https-short : length (prefixed r.port (name_bytes_at n 0)) ≤ 253
  https-short = omega (arith, prefix-length r.port (name_bytes_at n 0), short)

  names-room : length all-names.list ≡ 14
  unfolding first_names
  names-room = go (is_prefixed r)
    where
      go : (b : Bool) → length (cond b (with_name n 13 (name_in (prefixed r.port (name_bytes_at n 0)))) n).list ≡ 14
      go true = rw length-set room
      go false = room

  names_stand : every_at (name_stands 0) 0 all-names.list ≡ true
  unfolding first_names
  names_stand = go (is_prefixed r) refl
    where
      go : (b : Bool) → is_prefixed r ≡ b → every_at (name_stands 0) 0 (cond b (with_name n 13 (name_in (prefixed r.port (name_bytes_at n 0)))) n).list ≡ true
      go true e = at_set (name_stands 0) 0 n.list 13 _ (in-stands (prefixed r.port (name_bytes_at n 0)) https-short (prefix-ok r.port (name_bytes_at n 0) (origin-ok e))) (at-imp _ _ (setting-stands r l) 0 n.list all_sound)
      go false e = at-imp _ _ (setting-stands r l) 0 n.list all_sound

  -- name 13
  no-thirteen : name_bytes_at n 13 ≡ []
  unfolding has_name
  no-thirteen = no_name_lem (name_at n 13) (eqb-true _ _ (at_place 13 (omega arith)))

  thirteen : is_prefixed r ≡ true → name_bytes_at all-names 13 ≡ prefixed r.port (name_bytes_at n 0)
  unfolding first_names name_at
  thirteen e = rw e (ap name_bytes (get_or-set_same n.list 13 (name_in (prefixed r.port (name_bytes_at n 0))) blank_name (omega (arith, room))) ∙ name-bytes (prefixed r.port (name_bytes_at n 0)) https-short)

  unprefixed : is_prefixed r ≡ false → name_bytes_at all-names 13 ≡ []
  unfolding first_names
  unprefixed e = rw e no-thirteen

  https-same : same_bytes (name_bytes_at all-names 13) (cond (is_prefixed r) (prefixed r.port (name_bytes_at all-names 0)) []) ≡ true
  https-same = rw (others-stay 0 (λ e. omega arith)) (go (is_prefixed r) refl)
    where
      go : (b : Bool) → is_prefixed r ≡ b → same_bytes (name_bytes_at all-names 13) (cond b (prefixed r.port (name_bytes_at n 0)) []) ≡ true
      go true e = rw (thirteen e) (same_refl (prefixed r.port (name_bytes_at n 0)))
      go false e = rw (unprefixed e) (same_refl [])

  lies-now : (p : ℕ) → p < 13 → lies (has_name r l p) all-names p ≡ true
  lies-now p b = lies-stays (has_name r l p) n all-names p (others-stay p (λ e. omega arith)) (lies_at p (omega arith))

  settings : configured r l all-names ≡ true
  unfolding configured has_name
  settings =
      all4 (lies-now 0 (omega arith)) (rw (others-stay 0 (λ e. omega arith)) (le-leb _ _ short))
      (at_of _ 0 l.list no_alt (λ i b. let c : i < 4 = omega (arith, alts-fit.size) in let z : 1 + (0 + i) ≡ 1 + i = omega arith in rw (z, ← (alt-name i c)) (lies-now (1 + i) (omega arith))))
      https-same

  made-facts : (t : Timing) → Standing (made r t l n)
  unfolding made ◌and◌ ◌or◌ every every_at apart total each all some? no_queries no_answers no_services no_attempts no_retries no_echs empty_query empty_service empty_attempt ids_of keys one_each https_first origin_first won phase holding served
  made-facts t =
      record {
        room = record {
          alts = alts-fit;
          queries = zeros-fit 16 empty_query no_query refl;
          services = zeros-fit 4 empty_service no_service none-empty;
          attempts = zeros-fit 32 empty_attempt no_attempt refl;
          retries = zeros-fit 32 zero? 0 refl;
        };
        numbers = record { distinct = refl; below = refl; sum = refl };
        records = record { one = refl; https = refl; tidied = refl; size = length-replicate 16 no_addresses; zeros = no-answers };
        order = agree-none (first_keys r);
        winner = refl;
        again = record { failures = refl; once = refl; fewer = omega arith };
        places = record { names = refl; ends = refl };
        services = refl;
        tables = record { name_room = names-room; names = names_stand; ech_room = length-replicate 40 no_ech; echs = at-replicate (ech_stands 0 []) 0 40 no_ech (λ p. no_bytes 0 [] p) };
        settings = settings;
      }

-- The machine that is made from a configuration in form stands.
pub made-stands : (r : Rules) (t : Timing) (a : Alts) (n : Names) → configuration_sound r a n ≡ true → standing (made r t a n) ≡ true
made-stands r t a n h = stands (made-facts r a n h t)

-- A new query keeps the rules.
use Prim.Native.Nat.{ℕ, suc, ◌+◌, ◌^◌, ◌<◌}
use mathlib.Core.Path.{◌≡◌, refl, sym, ap, ◌∙◌}
use mathlib.Core.Bool.{Bool, true, false, not}
use mathlib.Core.List.{List, [], ◌∷◌, ◌++◌, map, append_assoc}
use native.Mathlib.Omega.{arith}
use lib.Dec.{eqb as nat_eq, ltb as nat_lt}
use lib.ListN.{length, get_or, set, length-map, get_or-map}
use lib.Seq.{map-set_same, get_or-set_other}
use borrow.Author.Tests.{eqb-true, eqb-false}
use Rattle.records.specs.Lists.{each}
use Rattle.records.specs.Queries.{no_query}
use Rattle.records.specs.declared.queries.Addr.{Addr}
use Rattle.records.specs.declared.queries.Addresses.{Addresses}
use Rattle.records.specs.declared.queries.Kind.{Kind}
use Rattle.records.specs.declared.queries.Kind.TheVariants.{Https, Aaaa, A}
use Rattle.records.specs.declared.queries.Answer.{Answer}
use Rattle.records.specs.declared.queries.Answer.TheVariants as answer
use Rattle.records.specs.declared.queries.Query.{Query}
use Rattle.records.specs.declared.queries.Queries.{Queries}
use Rattle.state.specs.State.{asked, tried}
use Rattle.state.specs.declared.Machine.{Machine}
use Rattle.state.specs.declared.changes.CallChange.TheVariants.{Asks}
use Rattle.machine.specs.Output.{new_query}
use Rattle.machine.specs.Steps.{called}
use Rattle.standing.specs.Lists.{◌and◌, every, total}
use Rattle.standing.specs.Standing.{empty_query, empty_addr, zero?, formed, pending, record_ids, attempt_id, ids_of, Key, key_of, key_at, keys, same_key, is_https, one_each, https_first, origin_first, tidy, tidy_query, held_of, held, kind_of, addresses_stand, addressed, query_phase, phase, query_holds, holding, named, named_key}
use Rattle.standing.proofs.Lists.{no, both, left, rule, all3, every-imp, every-last, at-imp, apart-last, used-more, used-last, total-append, each_last, map-set, Grows}
use Rattle.standing.proofs.Parts.{Standing, Recorded, to-fits, fits_more, fits_next, first_more, taken, numbers_more}
use Rattle.standing.proofs.Tables.{push, query-more, next-id}
use Rattle.standing.proofs.Same.{key-sym}

-- an HTTPS record only at place 0: a new one may be HTTPS only where there is none
https-more : (ks : List Key) (k : Key) → (is_https k.kind ≡ true → length ks ≡ 0) → https_first ks ≡ true → https_first (ks ++ (k ∷ [])) ≡ true
unfolding https_first every
https-more [] k f h = refl
https-more (j ∷ ks) k f h = every-last (λ i. not (is_https i.kind)) ks k h (go (is_https k.kind) f)
  where
    go : (b : Bool) → (b ≡ true → suc (length ks) ≡ 0) → not b ≡ true
    go true g = absurd (omega (arith, g refl))
    go false g = refl

-- a query without an answer has brought nothing
no-phase : (id p : ℕ) (k : Kind) → query_phase (new_query id k p) ≡ 0
no-phase id p Https = refl
no-phase id p Aaaa = refl
no-phase id p A = refl

no-hold : (id p : ℕ) (k : Kind) → query_holds (new_query id k p) ≡ false
no-hold id p Https = refl
no-hold id p Aaaa = refl
no-hold id p A = refl

-- zeros are of each type
zero-formed : (k : Kind) (a : Addr) → empty_addr a ≡ true → formed k a ≡ true
zero-formed Https a e = e
zero-formed Aaaa a e = refl
zero-formed A a e = all3 (rule 0 _ e) (small (rule 1 _ e)) (rule 2 _ e)
  where
    small : zero? a.lo ≡ true → nat_lt a.lo (2 ^ 32) ≡ true
    small z = rw (eqb-true a.lo 0 z)

pub no-addresses : (k j : Kind) (a : Addresses) → addresses_stand 0 j a ≡ true → addresses_stand 0 k a ≡ true
unfolding addresses_stand
no-addresses k j a h = both (left _ _ h) (every-imp empty_addr (formed k) (zero-formed k) a.list (to-fits 8 empty_addr 0 a.list (left _ _ h)).rest)

-- where there is no address, the type doesn't matter
kinds-more : (n : ℕ) (ks : List Kind) (c : ℕ) (k : Kind) (i : ℕ) (a : Addresses) → (i ≡ c → n ≡ 0) → addresses_stand n (get_or ks i Https) a ≡ true → addresses_stand n (get_or (set ks c k) i Https) a ≡ true
kinds-more n ks c k i a f h = go (nat_eq i c) refl
  where
    go : (b : Bool) → nat_eq i c ≡ b → addresses_stand n (get_or (set ks c k) i Https) a ≡ true
    go true e = let z = f (eqb-true i c e) in rw z (no-addresses (get_or (set ks c k) i Https) (get_or ks i Https) a (rw z at h))
    go false e = rw (get_or-set_other ks c i k Https (eqb-false i c e)) h

-- what an unanswered record holds
pub no-held : (a : Answer) → pending a ≡ true → held_of a ≡ 0
no-held answer.Pending e = refl
no-held (answer.Failed t) e = absurd (no e)
no-held (answer.Held t n) e = absurd (no e)

module _ (m : Machine) (h : Standing m) (k : Kind) (p : ℕ)
    (room : m.queries.count < 16)
    (known : named (phase m.queries) p ≡ true)
    (new : every (λ j. not (same_key m.names (key_at k p) j)) (keys m.queries) ≡ true)
    (first : is_https k ≡ true → m.queries.count ≡ 0)
    (order : origin_first m.rules (keys m.queries ++ (key_at k p ∷ [])) ≡ true) where
  abbrev q : Queries
  q = m.queries

  abbrev x : Query
  x = new_query m.ids.next k p

  inside : q.count < length q.list
  inside = omega (arith, h.room.queries.size)

  keys-more : keys (push q x) ≡ keys q ++ (key_of x ∷ [])
  unfolding keys
  keys-more = used-last key_of q.list q.count x inside

  phase-more : phase (push q x) ≡ phase q
  unfolding phase
  phase-more = ap (λ l. get_or l 0 0) (used-last query_phase q.list q.count x inside ∙ ap (λ n. map query_phase (asked q) ++ (n ∷ [])) (no-phase m.ids.next p k)) ∙ first_more (map query_phase (asked q)) 0

  holding-more : holding (push q x) ≡ holding q
  unfolding holding
  holding-more = ap (λ l. get_or l 0 false) (used-last query_holds q.list q.count x inside ∙ ap (λ n. map query_holds (asked q) ++ (n ∷ [])) (no-hold m.ids.next p k)) ∙ first_more (map query_holds (asked q)) false

  grows : Grows (ids_of q m.attempts) m.ids.next (ids_of (push q x) m.attempts)
  unfolding ids_of
  grows =
      let f = each record_ids (asked q) in
      let t = map attempt_id (tried m.attempts) in
      record {
        before = f;
        after = t;
        without = refl;
        with = ap (λ l. l ++ t) (ap (each record_ids) (used-more q.list q.count x inside) ∙ each_last record_ids (asked q) x) ∙ append_assoc f (m.ids.next ∷ []) t;
      }

  one-taken : taken (push q x) m.attempts ≡ taken q m.attempts + 1
  unfolding total
  one-taken = rw (used-more q.list q.count x inside, total-append) (omega arith)

  no_keys : q.count ≡ 0 → length (keys q) ≡ 0
  unfolding keys
  no_keys e = rw (length-map, e)

  -- the room that it takes was zero, so it changes no count, and no address is of another type
  was-empty : pending (get_or q.list q.count no_query).answer ≡ true
  unfolding empty_query
  was-empty = rule 4 _ (fits_next h.room.queries no_query room)

  same-counts : map held (set q.list q.count x) ≡ map held q.list
  same-counts = map-set_same held q.list q.count x no_query (sym (no-held (get_or q.list q.count no_query).answer was-empty))

  none-held : (i : ℕ) → i ≡ q.count → get_or (map held q.list) i 0 ≡ 0
  none-held i e = rw e (get_or-map held q.list q.count no_query ∙ no-held (get_or q.list q.count no_query).answer was-empty)

  addresses : addressed (push q x) m.answers ≡ true
  unfolding addressed
  addresses =
      rw (same-counts, map-set kind_of q.list q.count x)
      (at-imp _ _ (λ i a e. kinds-more (get_or (map held q.list) i 0) (map kind_of q.list) q.count k i a (none-held i) e) 0 m.answers.list h.records.zeros)

  records : Recorded m.names (push q x) m.answers
  unfolding one_each tidy every ◌and◌
  records =
      record {
        one = rw keys-more (apart-last (same_key m.names) (key-sym m.names) (keys q) (key_of x) new h.records.one);
        https = rw keys-more (https-more (keys q) (key_of x) (λ e. no_keys (first e)) h.records.https);
        tidied = rw (used-more q.list q.count x inside) (every-last tidy_query (asked q) x h.records.tidied refl);
        size = h.records.size;
        zeros = addresses;
      }

  pub ask-stands : Standing (called m (Asks q.count x))
  ask-stands =
      rw (query-more q x room, next-id m h)
      (record {
        room = record { alts = h.room.alts; queries = fits_more h.room.queries x room; services = h.room.services; attempts = h.room.attempts; retries = h.room.retries };
        numbers = numbers_more h.numbers (push q x) m.attempts grows one-taken;
        records = records;
        order = rw keys-more order;
        winner = h.winner;
        again = h.again;
        places = rw (phase-more, keys-more) (record { names = every-last (named_key (phase q)) (keys q) (key_of x) h.places.names known; ends = h.places.ends });
        services = rw (phase-more, holding-more) h.services;
        tables = rw phase-more h.tables;
        settings = h.settings;
      })

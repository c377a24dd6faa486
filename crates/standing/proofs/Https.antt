-- An accepted HTTPS answer, the first or a refresh's, keeps the rules.
use Prim.Native.Nat.{ℕ, ◌+◌, ◌-◌, ◌<◌, ◌≤◌}
use mathlib.Core.Path.{◌≡◌, refl, sym, ap, ◌∙◌}
use mathlib.Core.Logic.{◌⊎◌, inl, inr, ⊎_elim}
use mathlib.Core.Bool.{Bool, true, false, cond}
use mathlib.Core.List.{List, map}
use native.Mathlib.Omega.{arith}
use lib.Dec.{eqb as nat_eq, ltb as nat_lt, leb as nat_le}
use lib.ListN.{length, get_or, set, get_or-map}
use lib.Seq.{map-set_same, get_or-take, get_or-set_same}
use borrow.Author.Tests.{eqb-true, eq-eqb, ltb-true, ltb-false, leb-true, le-leb, lt-ltb}
use Rattle.records.specs.Names.{name_at, name_bytes_at, same_at}
use Rattle.records.specs.Queries.{no_query, answered}
use Rattle.records.specs.Rules.{is_named}
use Rattle.records.specs.declared.names.Name.{Name}
use Rattle.records.specs.declared.names.Names.{Names}
use Rattle.records.specs.declared.names.Ech.{Ech}
use Rattle.records.specs.declared.names.Echs.{Echs}
use Rattle.records.specs.declared.names.EchPlace.{EchPlace}
use Rattle.records.specs.declared.names.EchPlace.TheVariants.{Without, At}
use Rattle.records.specs.declared.rules.Alts.{Alts}
use Rattle.records.specs.declared.rules.Rules.{Rules}
use Rattle.records.specs.declared.queries.Kind.{Kind}
use Rattle.records.specs.declared.queries.Kind.TheVariants.{Https}
use Rattle.records.specs.declared.queries.Answer.{Answer}
use Rattle.records.specs.declared.queries.Answer.TheVariants.{Pending, Failed, Held}
use Rattle.records.specs.declared.queries.Refresh.{Refresh}
use Rattle.records.specs.declared.queries.Refresh.TheVariants.{InFlight}
use Rattle.records.specs.declared.queries.Query.{Query}
use Rattle.records.specs.declared.queries.Queries.{Queries}
use Rattle.records.specs.declared.services.Services.{Services}
use Rattle.records.specs.declared.endpoints.Target.{Target}
use Rattle.records.specs.declared.endpoints.Target.TheVariants.{V4, V6, Named}
use Rattle.state.specs.Changes.{first_name}
use Rattle.state.specs.State.{asked, tried, retries_of}
use Rattle.state.specs.declared.Machine.{Machine}
use Rattle.state.specs.declared.attempts.Attempt.{Attempt}
use Rattle.state.specs.declared.changes.Round.{Round}
use Rattle.state.specs.declared.changes.Round.TheVariants.{First, Second}
use Rattle.input.specs.Input.{record_at, with_answer}
use Rattle.input.specs.Verdicts.{Waits, MayBe, refresh_after}
use Rattle.after.specs.After.{put_names}
use Rattle.after.specs.declared.TargetNames.{TargetNames}
use Rattle.standing.specs.Lists.{has}
use Rattle.standing.specs.Standing.{zero?, empty_service, key_of, keys, same_key, one_each, steady, tidy, tidy_query, held_of, held, kind_of, addressed, come, phase_of, query_phase, phase, holds_https, query_holds, holding, name_needs, named, named_key, kept, target_in, ech_in, attempt_in, served, name_stands, ech_stands, own_name, lies, configured}
use Rattle.standing.proofs.Lists.{no, both, left, right, rule, all3, all4, or-imp, every-imp, at-imp, at-within, sets-before, sets-past, apart-like, used-same}
use Rattle.standing.proofs.Parts.{Standing, Fits, Tabled, fits-put}
use Rattle.standing.proofs.Tables.{put}
use Rattle.standing.proofs.Putting.{tidy-at, tidy-put}
use Rattle.standing.proofs.Answering.{answer-numbers, answer-steady}

-- how many answers had come before
abbrev pub before : Round → ℕ
before First = 0
before Second = 1

-- Record 0, seen by a part of it
module _ {B : Type 0} (f : Query → B) (q : Queries) (b : 0 < q.count) where
  first-is : get_or (map f (asked q)) 0 (f no_query) ≡ f (record_at q 0)
  first-is = get_or-map f (asked q) 0 no_query ∙ ap f (get_or-take q.count q.list 0 no_query b)

  first-put : (x : Query) → q.count ≤ length q.list → get_or (map f (asked (put q 0 x))) 0 (f no_query) ≡ f x
  first-put x l =
      get_or-map f (asked (put q 0 x)) 0 no_query
      ∙ ap f (get_or-take q.count (set q.list 0 x) 0 no_query b ∙ get_or-set_same q.list 0 x no_query (omega arith))

-- What one more answer opens: nothing that was known goes
up : (n k : ℕ) → nat_le n k ≡ true → nat_le n (k + 1) ≡ true
up n k h = le-leb n (k + 1) (omega (arith, leb-true n k h))

kept-up : (k : ℕ) (rs : List ℕ) (p : ℕ) → kept k rs p ≡ true → kept (k + 1) rs p ≡ true
unfolding kept
kept-up k rs p h = go (nat_lt p 4) (nat_lt p 8) h
  where
    go : (b c : Bool) → cond b (nat_le 1 k) (cond c (nat_le 2 k) (has (p - 8) rs)) ≡ true → cond b (nat_le 1 (k + 1)) (cond c (nat_le 2 (k + 1)) (has (p - 8) rs)) ≡ true
    go true c e = up 1 k e
    go false true e = up 2 k e
    go false false e = e

pub named-up : (k p : ℕ) → named k p ≡ true → named (k + 1) p ≡ true
unfolding named
named-up k p h = up (name_needs p) k h

target_up : (k : ℕ) (t : Target) → target_in k t ≡ true → target_in (k + 1) t ≡ true
target_up k (V4 a) h = refl
target_up k (V6 a b c) h = refl
target_up k (Named p) h = named-up k p h

ech-up : (k : ℕ) (rs : List ℕ) (e : EchPlace) → ech_in k rs e ≡ true → ech_in (k + 1) rs e ≡ true
ech-up k rs Without h = refl
ech-up k rs (At p) h = kept-up k rs p h

attempt-up : (k : ℕ) (rs : List ℕ) (a : Attempt) → attempt_in k rs a ≡ true → attempt_in (k + 1) rs a ≡ true
attempt-up k rs a h = both (target_up k a.endpoint.target (left _ _ h)) (ech-up k rs a.endpoint.ech (right _ _ h))

name-stands-up : (k p : ℕ) (n : Name) → name_stands k p n ≡ true → name_stands (k + 1) p n ≡ true
unfolding name_stands
name-stands-up k p n h = all3 (rule 0 _ h) (or-imp (named k p) (zero? n.len) (named (k + 1) p) (named-up k p) (rule 1 _ h)) (rule 2 _ h)

ech-stands-up : (k : ℕ) (rs : List ℕ) (p : ℕ) (e : Ech) → ech_stands k rs p e ≡ true → ech_stands (k + 1) rs p e ≡ true
unfolding ech_stands
ech-stands-up k rs p e h = both (left _ _ h) (or-imp (kept k rs p) (zero? e.len) (kept (k + 1) rs p) (kept-up k rs p) (right _ _ h))

pub tables-up : {k : ℕ} {rs : List ℕ} {n : Names} {e : Echs} → Tabled k rs n e → Tabled (k + 1) rs n e
tables-up {k} {rs} {n} {e} t =
    record {
      name_room = t.name_room;
      names = at-imp _ _ (name-stands-up k) 0 n.list t.names;
      ech_room = t.ech_room;
      echs = at-imp _ _ (ech-stands-up k rs) 0 e.list t.echs;
    }

-- a known name lies outside the four places of the answer that comes
outside : (round : Round) (p : ℕ) → named (before round) p ≡ true → (p < first_name round) ⊎ (first_name round + 4 ≤ p)
unfolding named name_needs
outside First p h = go (nat_lt p 5) (nat_lt p 9) (nat_lt p 13) (nat_eq p 13) refl refl refl refl h
  where
    go : (a b c d : Bool) → nat_lt p 5 ≡ a → nat_lt p 9 ≡ b → nat_lt p 13 ≡ c → nat_eq p 13 ≡ d → nat_le (cond a 0 (cond b 1 (cond c 2 (cond d 0 3)))) 0 ≡ true → (p < 5) ⊎ (9 ≤ p)
    go true b c d ea eb ec ed g = inl (ltb-true p 5 ea)
    go false true c d ea eb ec ed g = absurd (omega (arith, leb-true 1 0 g))
    go false false c d ea eb ec ed g = inr (ltb-false p 9 eb)
outside Second p h = go (nat_lt p 5) (nat_lt p 9) (nat_lt p 13) (nat_eq p 13) refl refl refl refl h
  where
    go : (a b c d : Bool) → nat_lt p 5 ≡ a → nat_lt p 9 ≡ b → nat_lt p 13 ≡ c → nat_eq p 13 ≡ d → nat_le (cond a 0 (cond b 1 (cond c 2 (cond d 0 3)))) 1 ≡ true → (p < 9) ⊎ (13 ≤ p)
    go true b c d ea eb ec ed g = inl (omega (arith, ltb-true p 5 ea))
    go false true c d ea eb ec ed g = inl (ltb-true p 9 eb)
    go false false true d ea eb ec ed g = absurd (omega (arith, leb-true 2 1 g))
    go false false false d ea eb ec ed g = inr (ltb-false p 13 ec)

pub name-stays : (n : Names) (round : Round) (t : TargetNames) (p : ℕ) → length t.list ≡ 4 → named (before round) p ≡ true → name_at (put_names n round t) p ≡ name_at n p
unfolding name_at put_names
name-stays n round t p l h =
    ⊎_elim
    (λ b. rw (sets-before n.list (first_name round) t.list p _ b))
    (λ b. rw (sets-past n.list (first_name round) t.list p _ (omega arith)))
    (outside round p h)

-- the configuration's names are known from the making on
pub setting-named : (k i : ℕ) → i < 5 → named k i ≡ true
unfolding named name_needs
setting-named k i b = rw (lt-ltb i 5 b) (le-leb 0 k (omega arith))

pub https-named : (k : ℕ) → named k 13 ≡ true
unfolding named name_needs
https-named k = le-leb 0 k (omega arith)

pub lies-stays : (on : Bool) (n t : Names) (p : ℕ) → name_bytes_at t p ≡ name_bytes_at n p → lies on n p ≡ true → lies on t p ≡ true
unfolding lies
lies-stays on n t p e h = rw e h

settings-stay : (r : Rules) (l : Alts) (n t : Names) (k : ℕ) → length l.list ≡ 4 → ((p : ℕ) → named k p ≡ true → name_bytes_at t p ≡ name_bytes_at n p) → configured r l n ≡ true → configured r l t ≡ true
unfolding configured
settings-stay r l n t k four same h =
    let zero_same = same 0 (setting-named k 0 (omega arith)) in
    let https-same = same 13 (https-named k) in
    all4
    (lies-stays (is_named r.host) n t 0 zero_same (rule 0 _ h))
    (rw zero_same (rule 1 _ h))
    (at-within _ _ 0 l.list (λ i a b. lies-stays (own_name a.host) n t (1 + i) (same (1 + i) (setting-named k (1 + i) (omega arith)))) (rule 2 _ h))
    (rw (zero_same, https-same) (rule 3 _ h))

-- How record 0 goes on
no-count : (k : Kind) (a : Answer) (stale : Bool) (r : Refresh) → k ≡ Https → tidy k a stale r ≡ true → held_of a ≡ 0
unfolding tidy
no-count k Pending stale r e h = refl
no-count k (Failed t) stale r e h = refl
no-count k (Held t n) stale r e h = eqb-true n 0 (rw e at (right _ _ h))

https-tidy : (a : Answer) (stale : Bool) (r : Refresh) → answered a ≡ true → held_of a ≡ 0 → steady stale r ≡ true → tidy Https a stale r ≡ true
unfolding tidy
https-tidy Pending stale r e n g = absurd (no e)
https-tidy (Failed t) stale r e n g = g
https-tidy (Held t c) stale r e n g = both g (eq-eqb c 0 n)

come-is : (a : Answer) (r : Refresh) → answered a ≡ true → phase_of Https a r ≡ come r
come-is Pending r e = absurd (no e)
come-is (Failed t) r e = refl
come-is (Held t n) r e = refl

-- a refresh in flight is that of an answer
once-come : (a : Answer) (stale : Bool) (id : ℕ) → tidy Https a stale (InFlight id) ≡ true → phase_of Https a (InFlight id) ≡ 1
unfolding tidy
once-come Pending stale id h = absurd (no (right _ _ h))
once-come (Failed t) stale id h = refl
once-come (Held t n) stale id h = refl

come-after : (round : Round) → come (refresh_after round) ≡ before round + 1
come-after First = refl
come-after Second = refl

module _ (m : Machine) (h : Standing m) (b : 0 < m.queries.count) (https : (record_at m.queries 0).kind ≡ Https) (a : Answer) (stale : Bool) (id : ℕ)
    (round : Round) (waits : Waits round id (record_at m.queries 0)) (fresh : MayBe round stale) (answers : answered a ≡ true) (none : held_of a ≡ 0) where
  abbrev q : Queries
  q = m.queries

  abbrev old : Query
  old = record_at q 0

  abbrev new : Query
  new = with_answer old a stale (refresh_after round)

  fit : q.count ≤ length q.list
  fit = omega (arith, h.room.queries.size, h.room.queries.few)

  old-tidy : tidy_query old ≡ true
  old-tidy = tidy-at q 0 b fit h.records.tidied

  phase-is : phase q ≡ phase_of Https old.answer old.refresh
  unfolding phase
  phase-is = first-is query_phase q b ∙ rw https

  phase-by : (r : Round) → Waits r id old → phase_of Https old.answer old.refresh ≡ before r
  phase-by First w = rw w.1
  phase-by Second w = ap (phase_of Https old.answer) w ∙ once-come old.answer old.stale id (rw (https, w) at old-tidy)

  pub phase-was : phase q ≡ before round
  phase-was = phase-is ∙ phase-by round waits

  pub phase-new : phase (put q 0 new) ≡ before round + 1
  unfolding phase
  phase-new = first-put query_phase q b new fit ∙ rw https (come-is a (refresh_after round) answers ∙ come-after round)

  same_keys : keys (put q 0 new) ≡ keys q
  unfolding keys
  same_keys = used-same key_of q.list q.count 0 new no_query b refl

  same-held : addressed (put q 0 new) m.answers ≡ true
  unfolding addressed
  same-held =
      rw (map-set_same held q.list 0 new no_query (none ∙ sym (no-count old.kind old.answer old.stale old.refresh https old-tidy)), map-set_same kind_of q.list 0 new no_query refl)
      h.records.zeros

  new-holding : holding (put q 0 new) ≡ holds_https Https a
  unfolding holding
  new-holding = first-put query_holds q b new fit ∙ rw https

  -- what the answer brings, as it is kept: services of a held answer only, names and ECH bytes at places that were not known
  module _ (s : Services) (names : Names) (echs : Echs)
      (room : Fits 4 empty_service s.count s.list) (sounds : served (before round + 1) (holds_https Https a) s ≡ true)
      (same : (p : ℕ) → named (before round) p ≡ true → name_bytes_at names p ≡ name_bytes_at m.names p)
      (tables : Tabled (before round + 1) (retries_of m.retries) names echs) where
    still_one : one_each names (keys q) ≡ true
    unfolding one_each same_key same_at
    still_one =
        apart-like (same_key m.names) (same_key names) (named_key (before round))
        (λ x y f g. rw (same x.name f, same y.name g))
        (keys q) (rw phase-was at h.places.names) h.records.one

    pub https-stands : Standing (record { rules = m.rules; timing = m.timing; alts = m.alts; ids = m.ids; queries = put q 0 new; answers = m.answers; services = s; attempts = m.attempts; retries = m.retries; names = names; echs = echs })
    https-stands =
        record {
          room = record { alts = h.room.alts; queries = fits-put h.room.queries 0 new b; services = room; attempts = h.room.attempts; retries = h.room.retries };
          numbers = answer-numbers m h 0 b a stale id round waits;
          records = record {
            one = rw same_keys still_one;
            https = rw same_keys h.records.https;
            tidied = tidy-put q 0 b fit new (rw https (https-tidy a stale (refresh_after round) answers none (answer-steady m h 0 b a stale id round fresh))) h.records.tidied;
            size = h.records.size;
            zeros = same-held;
          };
          order = rw same_keys h.order;
          winner = h.winner;
          again = h.again;
          places = rw (phase-new, same_keys) (record {
            names = every-imp _ _ (λ x. named-up (before round) x.name) (keys q) (rw phase-was at h.places.names);
            ends = every-imp _ _ (attempt-up (before round) (retries_of m.retries)) (tried m.attempts) (rw phase-was at h.places.ends);
          });
          services = rw (phase-new, new-holding) sounds;
          tables = rw phase-new tables;
          settings = settings-stay m.rules m.alts m.names names (before round) h.room.alts.size same h.settings;
        }

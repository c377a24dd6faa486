-- A refresh that begins, and an accepted answer of addresses, keep the rules.
use Prim.Native.Nat.{ℕ, ◌+◌, ◌<◌, ◌≤◌}
use mathlib.Core.Path.{◌≡◌, refl, sym, ◌∙◌}
use mathlib.Core.Bool.{Bool, true, false}
use mathlib.Core.List.{[], ◌∷◌, ◌++◌, map, append_assoc}
use native.Mathlib.Omega.{arith}
use lib.ListN.{length, set, length-set, length-map, get_or-map}
use lib.Seq.{map-set_same, get_or-set_same, get_or-set_other}
use borrow.Author.Tests.{le-leb, lt-ltb}
use Rattle.records.specs.Queries.{no_query, answered}
use Rattle.records.specs.declared.queries.Answers.{Answers}
use Rattle.records.specs.declared.queries.Kind.{Kind}
use Rattle.records.specs.declared.queries.Kind.TheVariants.{Https, Aaaa, A}
use Rattle.records.specs.declared.queries.Answer.{Answer}
use Rattle.records.specs.declared.queries.Answer.TheVariants.{Pending, Failed, Held}
use Rattle.records.specs.declared.queries.Refresh.{Refresh}
use Rattle.records.specs.declared.queries.Refresh.TheVariants.{Idle, InFlight, Done}
use Rattle.records.specs.declared.queries.Query.{Query}
use Rattle.records.specs.declared.queries.Queries.{Queries}
use Rattle.state.specs.declared.Machine.{Machine}
use Rattle.state.specs.declared.changes.CallChange.TheVariants.{Asks}
use Rattle.state.specs.declared.changes.InputChange.TheVariants.{Holds}
use Rattle.state.specs.declared.changes.Round.{Round}
use Rattle.state.specs.declared.changes.Round.TheVariants.{First, Second}
use Rattle.input.specs.Input.{record_at, with_answer}
use Rattle.input.specs.Verdicts.{Waits, MayBe, refresh_after}
use Rattle.after.specs.After.{put_addresses}
use Rattle.machine.specs.Output.{refreshed}
use Rattle.machine.specs.Steps.{called, fed}
use Rattle.machine.specs.declared.calls.Beside.{Beside}
use Rattle.standing.specs.Lists.{◌and◌}
use Rattle.standing.specs.Standing.{idle, ids_of, is_https, steady, tidy, tidy_query, held_of, held, kind_of, addresses_stand, addressed, phase_of, holds_https}
use Rattle.standing.proofs.Lists.{no, both, left, right, at-put, map-set, Grows}
use Rattle.standing.proofs.Parts.{Standing, Numbered, to-fits, taken, numbers_more, numbers-less, numbers-same}
use Rattle.standing.proofs.Tables.{put, query-put, next-id}
use Rattle.standing.proofs.Putting.{front, back, ids_at, ids-put, begun-put, tidy-at, put-stands}

-- A refresh: of a stale answer whose refresh didn't begin yet

-- what is stale is answered, and goes on being tidy while its refresh is in flight
stale-tidy : (k : Kind) (a : Answer) (id : ℕ) → tidy k a true Idle ≡ true → tidy k a true (InFlight id) ≡ true
unfolding tidy ◌and◌
stale-tidy k Pending id h = h
stale-tidy k (Failed t) id h = h
stale-tidy k (Held t n) id h = h

same-come : (k : Kind) (a : Answer) (id : ℕ) → phase_of k a (InFlight id) ≡ phase_of k a Idle
same-come Https Pending id = refl
same-come Https (Failed t) id = refl
same-come Https (Held t n) id = refl
same-come Aaaa a id = refl
same-come A a id = refl

module _ (m : Machine) (h : Standing m) (i : ℕ) (b : i < m.queries.count) (stale : (record_at m.queries i).stale ≡ true) (resting : (record_at m.queries i).refresh ≡ Idle) where
  abbrev q : Queries
  q = m.queries

  abbrev old : Query
  old = record_at q i

  abbrev x : Query
  x = refreshed old m.ids.next

  fit : q.count ≤ length q.list
  fit = omega (arith, h.room.queries.size, h.room.queries.few)

  grows : Grows (ids_of q m.attempts) m.ids.next (ids_of (put q i x) m.attempts)
  grows =
      let f = front q i b fit in
      let k = back q i b fit m.attempts in
      record {
        before = f ++ (old.id ∷ []);
        after = k;
        without = ids_at q i b fit m.attempts ∙ rw resting (sym (append_assoc f (old.id ∷ []) k));
        with = ids-put q i b fit m.attempts x ∙ sym (append_assoc f (old.id ∷ []) (m.ids.next ∷ k));
      }

  one-taken : taken (put q i x) m.attempts ≡ taken q m.attempts + 1
  one-taken = omega (arith, rw resting at (begun-put q i b fit x))

  tidied : tidy_query x ≡ true
  tidied = rw stale (stale-tidy old.kind old.answer m.ids.next (rw (stale, resting) at (tidy-at q i b fit h.records.tidied)))

  same-held : addressed (put q i x) m.answers ≡ true
  unfolding addressed
  same-held = rw (map-set_same held q.list i x no_query refl, map-set_same kind_of q.list i x no_query refl) h.records.zeros

  pub refresh-stands : Standing (called m (Asks i x))
  refresh-stands =
      rw (query-put q i x b h.room.queries.few, next-id m h)
      (put-stands m h i b x refl (same-come old.kind old.answer m.ids.next ∙ rw resting) refl tidied
      (record { next = m.ids.next + 1 }) m.answers (numbers_more h.numbers (put q i x) m.attempts grows one-taken) h.records.size same-held)

-- An answer of addresses, the first or a refresh's

new-tidy : (k : Kind) (a : Answer) (stale : Bool) (r : Refresh) → is_https k ≡ false → answered a ≡ true → held_of a ≤ 8 → steady stale r ≡ true → tidy k a stale r ≡ true
unfolding tidy
new-tidy k Pending stale r e f n g = absurd (no f)
new-tidy k (Failed t) stale r e f n g = g
new-tidy k (Held t c) stale r e f n g = both g (rw e (le-leb c 8 n))

-- only an HTTPS answer brings names
no-phase : (k : Kind) (a : Answer) (r : Refresh) → is_https k ≡ false → phase_of k a r ≡ 0
no-phase Https a r e = absurd (no (sym e))
no-phase Aaaa a r e = refl
no-phase A a r e = refl

no-hold : (k : Kind) (a : Answer) → is_https k ≡ false → holds_https k a ≡ false
no-hold Https a e = absurd (no (sym e))
no-hold Aaaa a e = refl
no-hold A a e = refl

pub is-idle : (r : Refresh) → idle r ≡ true → r ≡ Idle
is-idle Idle f = refl
is-idle (InFlight id) f = absurd (no f)
is-idle Done f = absurd (no f)

-- an unanswered record has no refresh
at_rest : (k : Kind) (a : Answer) (stale : Bool) (r : Refresh) → a ≡ Pending → tidy k a stale r ≡ true → r ≡ Idle
unfolding tidy
at_rest k Pending stale r e h = is-idle r (right _ _ h)
at_rest k (Failed t) stale r e h = absurd (let z : ◌≡◌ {A = ℕ} 0 1 = cc in omega arith)
at_rest k (Held t n) stale r e h = absurd (let z : ◌≡◌ {A = ℕ} 0 1 = cc in omega arith)

module _ (m : Machine) (h : Standing m) (i : ℕ) (b : i < m.queries.count) (a : Answer) (stale : Bool) (id : ℕ) where
  abbrev record? : Query
  record? = record_at m.queries i

  abbrev new : Round → Query
  new round = with_answer record? a stale (refresh_after round)

  inside : m.queries.count ≤ length m.queries.list
  inside = omega (arith, h.room.queries.size, h.room.queries.few)

  pub resting-of : record?.answer ≡ Pending → record?.refresh ≡ Idle
  resting-of e = at_rest record?.kind record?.answer record?.stale record?.refresh e (tidy-at m.queries i b inside h.records.tidied)

  -- the ids: none goes, or that of the refresh
  pub answer-numbers : (round : Round) → Waits round id record? → Numbered m.ids.next (put m.queries i (new round)) m.attempts
  answer-numbers First w =
      let e = resting-of w.1 in
      numbers-same h.numbers (put m.queries i (new First)) m.attempts
      (ids-put m.queries i b inside m.attempts (new First) ∙ sym (rw e at (ids_at m.queries i b inside m.attempts)))
      (omega (arith, rw e at (begun-put m.queries i b inside (new First))))
  answer-numbers Second e =
      let f = front m.queries i b inside in
      let k = back m.queries i b inside m.attempts in
      numbers-less h.numbers (put m.queries i (new Second)) m.attempts {i = id}
      (record {
        before = f ++ (record?.id ∷ []);
        after = k;
        without = ids-put m.queries i b inside m.attempts (new Second) ∙ sym (append_assoc f (record?.id ∷ []) k);
        with = ids_at m.queries i b inside m.attempts ∙ rw e (sym (append_assoc f (record?.id ∷ []) (id ∷ k)));
      })
      (omega (arith, rw e at (begun-put m.queries i b inside (new Second))))

  pub answer-steady : (round : Round) → MayBe round stale → steady stale (refresh_after round) ≡ true
  answer-steady First f = refl
  answer-steady Second f = rw f

  module _ (round : Round) (waits : Waits round id record?) (fresh : MayBe round stale) (plain : is_https record?.kind ≡ false) (come : answered a ≡ true)
      (beside : Beside) (sound : addresses_stand (held_of a) record?.kind beside.addresses ≡ true) where
    abbrev d : Answers
    d = record { list = set m.answers.list i beside.addresses }

    few : held_of a ≤ 8
    unfolding addresses_stand
    few = (to-fits _ _ _ _ (left _ _ sound)).few

    zeros : addressed (put m.queries i (new round)) d ≡ true
    unfolding addressed
    zeros =
        let z : i + 0 ≡ i = omega arith in
        let l : i < length (map held m.queries.list) = rw length-map (omega (arith, h.room.queries.size, h.room.queries.few)) in
        rw (map-set held m.queries.list i (new round), map-set_same kind_of m.queries.list i (new round) no_query refl)
        (at-put _ _ 0 m.answers.list i beside.addresses
        (λ j y o e. rw (get_or-set_other (map held m.queries.list) i j (held_of a) 0 (λ r. o (r ∙ sym z))) e)
        (rw (z, get_or-set_same (map held m.queries.list) i (held_of a) 0 l, get_or-map kind_of m.queries.list i no_query) sound)
        h.records.zeros)

    addresses-put : put_addresses m.answers i beside.addresses ≡ d
    unfolding put_addresses
    addresses-put = rw (lt-ltb i 16 (omega (arith, h.room.queries.few)))

    pub addresses-stand : Standing (fed m (Holds i (new round)) beside)
    addresses-stand =
        rw (query-put m.queries i (new round) b h.room.queries.few, addresses-put)
        (put-stands m h i b (new round) refl
        (no-phase record?.kind a (refresh_after round) plain ∙ sym (no-phase record?.kind record?.answer record?.refresh plain))
        (no-hold record?.kind a plain ∙ sym (no-hold record?.kind record?.answer plain))
        (new-tidy record?.kind a stale (refresh_after round) plain come few (answer-steady round fresh))
        m.ids d (answer-numbers round waits) (rw length-set h.records.size) zeros)

-- An accepted answer is the one held afterwards, with its moment; an accepted result ends its attempt, and of a cancelled one nothing changes.
use Rattle.std.specs.Prelude.{Ok, Err}
use Prim.Native.Nat.{ℕ, zero, suc, ◌+◌, ◌<◌, ◌≤◌}
use mathlib.Core.Path.{◌≡◌, refl, sym, ◌∙◌}
use mathlib.Core.Bool.{Bool, true, false, cond}
use mathlib.Core.List.{List, [], ◌∷◌, ◌++◌}
use native.Mathlib.Omega.{arith}
use lib.ListN.{length, get_or, set, length-set}
use lib.Seq.{sets, get_or-set_same, get_or-set_other}
use borrow.Author.Tests.{eqb-true, lt-ltb}
use Rattle.records.specs.Names.{name_at, ech_at, blank_name, blank_ech}
use Rattle.records.specs.Queries.{no_query, blank_addresses, answered}
use Rattle.records.specs.declared.queries.Kind.{Kind}
use Rattle.records.specs.declared.queries.Kind.TheVariants.{Https, Aaaa, A}
use Rattle.records.specs.declared.queries.Answer.{Answer}
use Rattle.records.specs.declared.queries.Answer.TheVariants.{Pending, Failed, Held}
use Rattle.records.specs.declared.queries.Query.{Query}
use Rattle.records.specs.declared.queries.Queries.{Queries}
use Rattle.state.specs.Changes.{first_name, first_ech}
use Rattle.state.specs.State.{no_attempt, retries_of, is_open, with_state}
use Rattle.state.specs.declared.Machine.{Machine}
use Rattle.state.specs.declared.attempts.State.{State}
use Rattle.state.specs.declared.attempts.State.TheVariants as state
use Rattle.state.specs.declared.attempts.Attempt.{Attempt}
use Rattle.state.specs.declared.changes.InputChange.{InputChange}
use Rattle.state.specs.declared.changes.InputChange.TheVariants as change
use Rattle.state.specs.declared.changes.Round.{Round}
use Rattle.state.specs.declared.changes.Round.TheVariants.{First, Second}
use Rattle.input.specs.Input.{Verdict, record_at, attempt_at, with_answer, is_failed, stored_at}
use Rattle.input.specs.Verdicts.{Answered, Ended, Ends, again, end_of, refresh_after, result_of}
use Rattle.input.specs.declared.Input.TheVariants as input
use Rattle.input.specs.declared.Outcome.{Outcome}
use Rattle.input.specs.declared.Outcome.TheVariants as outcome
use Rattle.input.proofs.Laws.{held_after, failed-after, ended-after}
use Rattle.after.specs.After.{queries_fed, put_query, put_attempt, put_addresses, put_names, put_echs, put_retry, put_ech}
use Rattle.machine.specs.Steps.{fed, taken_of, judged, input_step}
use Rattle.machine.specs.declared.calls.Beside.{Beside}
use Rattle.standing.specs.Standing.{held_of, standing}
use Rattle.standing.specs.Sound.{services_sound, answer_sound, sound}
use Rattle.standing.specs.Kept.{Offered, Brought, Holds, Again, EndsNow, EndsAs, EndsOne}
use Rattle.standing.proofs.Lists.{no, right, rule, sets-before, used-more}
use Rattle.standing.proofs.Parts.{Standing, parts}
use Rattle.standing.proofs.Tables.{query-put, attempt-put, retry-more}
use Rattle.standing.proofs.Trying.{one-closed}

-- several written from i on: each is read at its place
sets-at : {A : Type 0} (l : List A) (i : ℕ) (xs : List A) (j : ℕ) (d : A) → j < length xs → i + length xs ≤ length l
    → get_or (sets l i xs) (i + j) d ≡ get_or xs j d
sets-at l i [] j d b f = absurd (omega arith)
sets-at l i (x ∷ xs) zero d b f =
    let z : i + 0 ≡ i = omega arith in
    rw z (sets-before (set l i x) (suc i) xs i d (omega arith) ∙ get_or-set_same l i x d (omega arith))
sets-at l i (x ∷ xs) (suc j) d b f =
    let z : i + suc j ≡ suc i + j = omega arith in
    rw z (sets-at (set l i x) (suc i) xs j d (omega arith) (rw length-set (omega arith)))

name-room : (round : Round) → first_name round + 4 ≤ 14
name-room First = omega arith
name-room Second = omega arith

ech-room : (round : Round) → first_ech round + 4 ≤ 40
ech-room First = omega arith
ech-room Second = omega arith

-- An accepted verdict has a change
accepts : (v : Verdict) → taken_of v ≡ (Ok tt) → (c : InputChange) × (v ≡ Ok c)
accepts (Ok c) e = (c, refl)
accepts (Err r) e = absurd (let z : ◌≡◌ {A = ℕ} 0 1 = cc in omega arith)

-- An answer is stored as the record at its place, whatever comes with it
stored-queries : (q : Queries) (p : ℕ) (x : Query) (failed : Bool) (round : Round) (k : Kind)
    → queries_fed q (stored_at p x failed round k) ≡ put_query q p x
stored-queries q p x true round Https = refl
stored-queries q p x false round Https = refl
stored-queries q p x failed round Aaaa = refl
stored-queries q p x failed round A = refl

module _ (m : Machine) (h : Standing m) (b : Beside) where
  abbrev q : Queries
  q = m.queries

  module _ (p : ℕ) (inside : p < q.count) (x : Query) (round : Round) where
    here : record_at (put_query q p x) p ≡ x
    here = rw (query-put q p x inside h.room.queries.few) (get_or-set_same q.list p x no_query (omega (arith, h.room.queries.size, h.room.queries.few)))

    elsewhere : (j : ℕ) → (j ≡ p → ⊥) → record_at (put_query q p x) j ≡ record_at q j
    elsewhere j n = rw (query-put q p x inside h.room.queries.few) (get_or-set_other q.list p j x no_query n)

    addresses-at : get_or (put_addresses m.answers p b.addresses).list p blank_addresses ≡ b.addresses
    unfolding put_addresses
    addresses-at = rw (lt-ltb p 16 (omega (arith, h.room.queries.few))) (get_or-set_same m.answers.list p b.addresses blank_addresses (omega (arith, h.records.size, h.room.queries.few)))

    offers : services_sound b.services b.names b.echs ≡ true → Offered round b (fed m (change.Offers p x round) b)
    unfolding services_sound name_at ech_at put_names put_echs
    offers s =
        let names = eqb-true (length b.names.list) 4 (rule 3 _ s) in
        let echs = eqb-true (length b.echs.list) 4 (rule 5 _ s) in
        record {
          services = refl;
          names = λ i c. rw (lt-ltb (first_name round + i) 14 (omega (arith, name-room round))) (sets-at m.names.list (first_name round) b.names.list i blank_name (omega (arith, names)) (omega (arith, names, name-room round, h.tables.name_room)));
          echs = λ i c. rw (lt-ltb (first_ech round + i) 40 (omega (arith, ech-room round))) (sets-at m.echs.list (first_ech round) b.echs.list i blank_ech (omega (arith, echs)) (omega (arith, echs, ech-room round, h.tables.ech_room)));
        }

    brings : (k : Kind) (a : Answer) → answered a ≡ true → answer_sound k (held_of a) b ≡ true
        → Brought p round b (fed m (stored_at p x (is_failed a) round k) b) (is_failed a) k
    brings Https Pending e s = absurd (no e)
    brings Https (Failed t) e s = refl
    brings Https (Held t n) e s = offers (right _ _ s)
    brings Aaaa a e s = addresses-at
    brings A a e s = addresses-at

  module _ (k : Kind) (id : ℕ) (stale : Bool) (a : Answer) (come : answered a ≡ true) (sounds : answer_sound k (held_of a) b ≡ true) (c : InputChange) (f : Answered q k id stale a c) where
    abbrev old : Query
    old = record_at q f.place

    abbrev new : Query
    new = with_answer old a stale (refresh_after f.round)

    inside : f.place < q.count
    inside = omega (arith, f.within)

    holds_by : (j : Kind) → old.kind ≡ j → answer_sound j (held_of a) b ≡ true
        → Holds m j id stale a b (fed m (stored_at f.place new (is_failed a) f.round j) b)
    holds_by j e s =
        let stored = stored-queries q f.place new (is_failed a) f.round j in
        record {
          place = f.place;
          within = inside;
          round = f.round;
          waited = f.waits;
          kind = e;
          now = rw stored (here f.place inside new f.round);
          others = λ i n. rw stored (elsewhere f.place inside new f.round i n);
          brought = brings f.place inside new f.round j a come s;
        }

    holds : Holds m k id stale a b (fed m c b)
    holds = rw (f.kept, ← f.kind) (holds_by old.kind refl (rw f.kind sounds))

-- The machine has the answer that was given, with the moment at which it came.
pub answer-held : (m : Machine) (now : ℕ) (k : Kind) (id : ℕ) (stale : Bool) (n : ℕ) (b : Beside) → standing m ≡ true
    → sound (input.Holds k id stale n) b ≡ true
    → (input_step m now (input.Holds k id stale n) b).taken ≡ (Ok tt) → Holds m k id stale (Held now n) b (input_step m now (input.Holds k id stale n) b).machine
unfolding input_step judged
answer-held m now k id stale n b h s e =
    let v = accepts (judged m now (input.Holds k id stale n)) e in
    rw v.1 (holds m (parts m h) b k id stale (Held now n) refl s v.0 (held_after m.rules.ech m.queries m.attempts m.retries.count now k id stale n v.0 v.1))

-- So it is with an answer that failed.
pub failure-held : (m : Machine) (now : ℕ) (k : Kind) (id : ℕ) (stale : Bool) (b : Beside) → standing m ≡ true
    → sound (input.Fails k id stale) b ≡ true
    → (input_step m now (input.Fails k id stale) b).taken ≡ (Ok tt) → Holds m k id stale (Failed now) b (input_step m now (input.Fails k id stale) b).machine
unfolding input_step judged
failure-held m now k id stale b h s e =
    let v = accepts (judged m now (input.Fails k id stale)) e in
    rw v.1 (holds m (parts m h) b k id stale (Failed now) refl s v.0 (failed-after m.rules.ech m.queries m.attempts m.retries.count now k id stale v.0 v.1))

-- Results

module _ (m : Machine) (h : Standing m) (b : Beside) (p : ℕ) (inside : p < m.attempts.count) (going : is_open (attempt_at m.attempts p).state ≡ true) where
  module _ (x : Attempt) where
    ends-here : attempt_at (put_attempt m.attempts p x) p ≡ x
    ends-here = rw (attempt-put m.attempts p x inside h.room.attempts.few) (get_or-set_same m.attempts.list p x no_attempt (omega (arith, h.room.attempts.size, h.room.attempts.few)))

    ends-only : (j : ℕ) → (j ≡ p → ⊥) → attempt_at (put_attempt m.attempts p x) j ≡ attempt_at m.attempts j
    ends-only j n = rw (attempt-put m.attempts p x inside h.room.attempts.few) (get_or-set_other m.attempts.list p j x no_attempt n)

  -- there is room for its retry, since it was in progress
  room-left : m.retries.count < 32
  room-left = omega (arith, one-closed m h p inside going state.Failed refl, h.again.fewer, h.room.attempts.few)

  retry-kept : retries_of (put_retry m.retries m.retries.count p) ≡ retries_of m.retries ++ (p ∷ [])
  retry-kept = rw (retry-more m.retries p room-left (omega (arith, h.room.attempts.few))) (used-more m.retries.list m.retries.count p (omega (arith, room-left, h.room.retries.size)))

  ech-kept : ech_at (put_ech m.echs p b.retry) (8 + p) ≡ b.retry
  unfolding put_ech ech_at
  ech-kept = rw (lt-ltb p 32 (omega (arith, h.room.attempts.few)), lt-ltb (8 + p) 40 (omega (arith, h.room.attempts.few))) (get_or-set_same m.echs.list (8 + p) b.retry blank_ech (omega (arith, h.room.attempts.few, h.tables.ech_room)))

  abbrev told : Outcome → Bool → InputChange
  told o t = cond t (change.Retries p (with_state (attempt_at m.attempts p) (end_of o)) m.retries.count) (change.Ends p (with_state (attempt_at m.attempts p) (end_of o)))

  ends_as : (o : Outcome) (t : Bool) → again (attempt_at m.attempts p) m.retries.count o ≡ t → EndsNow m p o b (fed m (told o t) b)
  ends_as o true e = record { now = ends-here _; others = ends-only _; again = kept o }
    where
      kept : (x : Outcome) → Again m p b (fed m (told o true) b) x
      kept outcome.Success = tt
      kept outcome.Failure = tt
      kept outcome.EchRetry = λ n. (retry-kept, ech-kept)
  ends_as o false e = record { now = ends-here _; others = ends-only _; again = kept o e }
    where
      kept : (x : Outcome) → again (attempt_at m.attempts p) m.retries.count x ≡ false → Again m p b (fed m (told o false) b) x
      kept outcome.Success e = tt
      kept outcome.Failure e = tt
      kept outcome.EchRetry e = λ n. absurd (no (sym (rw (n, lt-ltb m.retries.count 32 room-left) at e)))

ends-one : (m : Machine) (h : Standing m) (b : Beside) (id : ℕ) (o : Outcome) (c : InputChange)
    → Ended m.rules.ech m.attempts m.retries.count id o c → EndsOne m id o b (fed m c b)
ends-one m h b id o c f = record { place = f.place; within = omega (arith, f.within); own = f.own; ends = by (attempt_at m.attempts f.place).state refl f.ends }
  where
    by : (t : State) → (attempt_at m.attempts f.place).state ≡ t
        → Ends m.rules.ech m.retries.count f.place (attempt_at m.attempts f.place) o c t → EndsAs m f.place o b (fed m c b) t
    by state.InProgress e g = rw g.1 (ends_as m h b f.place (omega (arith, f.within)) (rw e) o (again (attempt_at m.attempts f.place) m.retries.count o) refl)
    by state.Succeeded e g = absurd g
    by state.Failed e g = absurd g
    by state.Cancelled e g = rw g

-- An accepted result ends its attempt as it says; of an attempt that was cancelled nothing changes.
pub result-ends : (m : Machine) (now : ℕ) (o : Outcome) (id : ℕ) (b : Beside) → standing m ≡ true
    → (input_step m now (result_of o id) b).taken ≡ (Ok tt) → EndsOne m id o b (input_step m now (result_of o id) b).machine
unfolding input_step judged
result-ends m now o id b h e =
    let v = accepts (judged m now (result_of o id)) e in
    rw v.1 (ends-one m (parts m h) b id o v.0 (ended-after m.rules.ech m.queries m.attempts m.retries.count now o id v.0 v.1))

-- An input over the whole machine: refused it leaves both tables; accepted it holds an answer or ends an attempt in progress.
use Rattle.std.specs.Prelude.{Ok, Err}
use Prim.Native.Nat.{ℕ, suc, ◌+◌, ◌≤◌, ◌<◌}
use mathlib.Core.Path.{◌≡◌, refl, sym, ap, ◌∙◌}
use mathlib.Core.Bool.{Bool, true, false, false≢true, cond}
use mathlib.Core.Logic.{◌⊎◌, inr}
use mathlib.Core.List.{List}
use native.Mathlib.Omega.{arith}
use lib.ListN.{length, get_or, set}
use lib.Seq.{get_or-take}
use Rattle.records.specs.Queries.{no_query, answered}
use Rattle.records.specs.declared.queries.Answer.{Answer}
use Rattle.records.specs.declared.queries.Answer.TheVariants as held
use Rattle.records.specs.declared.queries.Kind.{Kind}
use Rattle.records.specs.declared.queries.Kind.TheVariants.{Https, Aaaa, A}
use Rattle.records.specs.declared.queries.Refresh.{Refresh}
use Rattle.records.specs.declared.queries.Refresh.TheVariants.{Idle, InFlight, Done}
use Rattle.records.specs.declared.queries.Query.{Query}
use Rattle.records.specs.declared.queries.Queries.{Queries}
use Rattle.records.specs.declared.services.Services.{Services}
use Rattle.state.specs.State.{asked, tried, no_attempt, with_state}
use Rattle.state.specs.declared.Machine.{Machine}
use Rattle.state.specs.declared.attempts.State.{State}
use Rattle.state.specs.declared.attempts.State.TheVariants as state
use Rattle.state.specs.declared.attempts.Attempt.{Attempt}
use Rattle.state.specs.declared.attempts.Attempts.{Attempts}
use Rattle.state.specs.declared.changes.InputChange.{InputChange}
use Rattle.state.specs.declared.changes.InputChange.TheVariants as change
use Rattle.state.specs.declared.changes.Round.{Round}
use Rattle.state.specs.declared.changes.Round.TheVariants.{First, Second}
use Rattle.starting.specs.Surveys.{is_answered}
use Rattle.input.specs.Input.{Verdict, is_failed, stored_at, with_answer, record_at, attempt_at, verdict_of}
use Rattle.input.specs.Verdicts.{is_over, result_of, Waits, refresh_after, Answered, end_of, again, Ends, Ended}
use Rattle.input.specs.declared.Input.{Input}
use Rattle.input.specs.declared.Input.TheVariants as input
use Rattle.input.specs.declared.Outcome.{Outcome}
use Rattle.input.specs.declared.Outcome.TheVariants as outcome
use Rattle.input.proofs.Laws.{held_after, failed-after, ended-after}
use Rattle.machine.specs.declared.calls.Beside.{Beside}
use Rattle.after.specs.After.{queries_fed, attempts_fed, services_fed, put_query, put_attempt}
use Rattle.machine.specs.Steps.{change_of, judged}
use Rattle.history.specs.History.{one}
use Rattle.history.specs.Race.{changes}
use Rattle.history.specs.Edition.{came_at}
use Rattle.history.proofs.Tables.{count, count_set, count-get, all-get}
use Rattle.history.proofs.Changing.{Takes, nothing, answer, result, Fits, Tidy, begun, is_begun, done, is_done, replies, heard_of, hears-answer, hears-result}
use Rattle.history.proofs.Putting.{query-old, attempt-old}
use Rattle.history.proofs.Rooms.{Room, many-asked, many-tried}

-- services are held only once a record is answered
abbrev pub Served : Services → List Query → Type 0
Served s qs = (s.count ≡ 0) ⊎ (1 ≤ count is_answered qs)

-- what is stored with an answer goes to the record's place, and leaves the attempts
stored-queries : (q : Queries) (p : ℕ) (x : Query) (failed : Bool) (r : Round) (k : Kind) → queries_fed q (stored_at p x failed r k) ≡ put_query q p x
stored-queries q p x true r Https = refl
stored-queries q p x false r Https = refl
stored-queries q p x failed r Aaaa = refl
stored-queries q p x failed r A = refl

stored-attempts : (a : Attempts) (p : ℕ) (x : Query) (failed : Bool) (r : Round) (k : Kind) → attempts_fed a (stored_at p x failed r k) ≡ a
stored-attempts a p x true r Https = refl
stored-attempts a p x false r Https = refl
stored-attempts a p x failed r Aaaa = refl
stored-attempts a p x failed r A = refl

-- a first answer comes to a record without a refresh, a second to one whose refresh is in flight
begun_kept : (round : Round) (id : ℕ) (q : Query) → Tidy q → Waits round id q → is_begun (refresh_after round) ≡ begun q
begun_kept First id q k w = sym (k (ap answered w.1)).1
begun_kept Second id q k w = sym (ap is_begun w)

-- either way it is one answer more
idle-undone : (r : Refresh) → is_begun r ≡ false → one (is_done r) ≡ 0
idle-undone Idle e = refl
idle-undone (InFlight i) e = refl
idle-undone Done e = absurd (false≢true (sym e))

in-flight-answered : (b : Bool) (id : ℕ) (q : Query) → Tidy q → q.refresh ≡ InFlight id → is_answered q ≡ b → one b ≡ 1
in-flight-answered true id q k w e = refl
in-flight-answered false id q k w e = absurd (false≢true (sym (k e).1 ∙ ap is_begun w))

one-reply : (round : Round) (id : ℕ) (q : Query) (x : Answer) → Tidy q → Waits round id q → answered x ≡ true
    → one (answered x) + one (is_done (refresh_after round)) ≡ suc (replies q)
one-reply First id q x k w e =
    let p : is_answered q ≡ false = ap answered w.1 in
    omega (arith, ap one e, ap one p, idle-undone q.refresh (k p).1)
one-reply Second id q x k w e =
    let d : one (done q) ≡ 0 = rw w in
    omega (arith, ap one e, in-flight-answered (is_answered q) id q k w refl)

-- what is stored is a change
stored-changes : (p : ℕ) (x : Query) (failed : Bool) (r : Round) (k : Kind) → changes (stored_at p x failed r k) ≡ true
stored-changes p x true r Https = refl
stored-changes p x false r Https = refl
stored-changes p x failed r Aaaa = refl
stored-changes p x failed r A = refl

module _ (m : Machine) (now : ℕ) (o : Room m.queries m.attempts) (f : Fits (asked m.queries) (tried m.attempts)) where
  -- the tables after a change
  pub record Taken (c : InputChange) (b : Beside) : Type 0 where
    pub takes : Takes now (asked m.queries) (tried m.attempts) (asked (queries_fed m.queries c)) (tried (attempts_fed m.attempts c))
    pub hears : heard_of (asked (queries_fed m.queries c)) (tried (attempts_fed m.attempts c))
        ≡ one (changes c) + heard_of (asked m.queries) (tried m.attempts)
    pub served : Served m.services (asked m.queries) → Served (services_fed m.services c b.services) (asked (queries_fed m.queries c))

  unchanged : (b : Beside) → Taken change.Nothing b
  unchanged b = record { takes = nothing refl refl; hears = omega arith; served = λ s. s }

  -- an answer
  module _ (k : Kind) (id : ℕ) (stale : Bool) (x : Answer) (came : came_at x ≤ now) (is : answered x ≡ true) where
    holds : (c : InputChange) (b : Beside) → Answered m.queries k id stale x c → Taken c b
    holds c b h = record { takes = takes; hears = hears; served = λ s. inr one_more }
      where
        p : ℕ
        p = h.place

        q : Query
        q = record_at m.queries p

        q' : Query
        q' = with_answer q x stale (refresh_after h.round)

        in_count : p < m.queries.count
        in_count = omega (arith, h.within)

        in_use : p < length (asked m.queries)
        in_use = omega (arith, in_count, many-asked m.queries m.attempts o)

        same : get_or (asked m.queries) p no_query ≡ q
        same = get_or-take m.queries.count m.queries.list p no_query in_count

        after : asked (queries_fed m.queries c) ≡ set (asked m.queries) p q'
        after = ap (λ z. asked (queries_fed m.queries z)) h.kept ∙ ap asked (stored-queries m.queries p q' (is_failed x) h.round q.kind) ∙ query-old m.queries p q' in_count o.asked_in

        alone : tried (attempts_fed m.attempts c) ≡ tried m.attempts
        alone = ap (λ z. tried (attempts_fed m.attempts z)) h.kept ∙ ap tried (stored-attempts m.attempts p q' (is_failed x) h.round q.kind)

        tidy : Tidy q
        tidy = rw same at (all-get Tidy (asked m.queries) p no_query f.tidy in_use)

        reply : replies q' ≡ suc (replies (get_or (asked m.queries) p no_query))
        reply = one-reply h.round id q x tidy h.waits is ∙ ap (λ z. suc (replies z)) (sym same)

        changed : changes c ≡ true
        changed = ap changes h.kept ∙ stored-changes p q' (is_failed x) h.round q.kind

        hears : heard_of (asked (queries_fed m.queries c)) (tried (attempts_fed m.attempts c)) ≡ one (changes c) + heard_of (asked m.queries) (tried m.attempts)
        hears =
            omega (arith, hears-answer now (asked m.queries) (tried m.attempts) (asked (queries_fed m.queries c)) (tried (attempts_fed m.attempts c)) p q' no_query in_use reply after alone, ap one changed)

        takes : Takes now (asked m.queries) (tried m.attempts) (asked (queries_fed m.queries c)) (tried (attempts_fed m.attempts c))
        takes = answer p q' no_query in_use (begun_kept h.round id q tidy h.waits ∙ ap begun (sym same)) came is reply after alone

        one_more : 1 ≤ count is_answered (asked (queries_fed m.queries c))
        one_more =
            rw after
            (omega (arith, count_set is_answered (asked m.queries) p q' no_query in_use, count-get is_answered (asked m.queries) p no_query in_use, ap one is))

  -- a result
  end-over : (r : Outcome) → is_over (end_of r) ≡ true
  end-over outcome.Success = refl
  end-over outcome.Failure = refl
  end-over outcome.EchRetry = refl

  module _ (on : Bool) (n id : ℕ) (r : Outcome) where
    ends : (c : InputChange) (b : Beside) → Ended on m.attempts n id r c → Taken c b
    ends c b h = by a.state refl h.ends
      where
        p : ℕ
        p = h.place

        a : Attempt
        a = attempt_at m.attempts p

        a' : Attempt
        a' = with_state a (end_of r)

        in_count : p < m.attempts.count
        in_count = omega (arith, h.within)

        in_use : p < length (tried m.attempts)
        in_use = omega (arith, in_count, many-tried m.queries m.attempts o)

        same : get_or (tried m.attempts) p no_attempt ≡ a
        same = get_or-take m.attempts.count m.attempts.list p no_attempt in_count

        heard : a.state ≡ state.InProgress → heard_of (asked m.queries) (tried (put_attempt m.attempts p a')) ≡ 1 + heard_of (asked m.queries) (tried m.attempts)
        heard e =
            omega (arith, hears-result now (asked m.queries) (tried m.attempts) (asked m.queries) (tried (put_attempt m.attempts p a')) p a' no_attempt in_use (ap (λ z. z.state) same ∙ e) (end-over r) refl (attempt-old m.attempts p a' in_count o.tried-in))

        over : a.state ≡ state.InProgress
            → Takes now (asked m.queries) (tried m.attempts) (asked m.queries) (tried (put_attempt m.attempts p a'))
        over e = result p a' no_attempt in_use (ap (λ z. z.state) same ∙ e) (end-over r) (ap (λ z. z.started) (sym same)) refl (attempt-old m.attempts p a' in_count o.tried-in)

        either : (t : Bool) → a.state ≡ state.InProgress → Taken (cond t (change.Retries p a' n) (change.Ends p a')) b
        either true e = record { takes = over e; hears = heard e; served = λ s. s }
        either false e = record { takes = over e; hears = heard e; served = λ s. s }

        by : (s : State) → a.state ≡ s → Ends on n p a r c s → Taken c b
        by state.InProgress e k = rw k.1 (either (again a n r) e)
        by state.Succeeded e k = absurd k
        by state.Failed e k = absurd k
        by state.Cancelled e k = rw k (unchanged b)

  abbrev verdict_on : Input → Verdict
  verdict_on i = verdict_of m.rules.ech m.queries m.attempts m.retries.count i now

  ended : (r : Outcome) (id : ℕ) (c : InputChange) (b : Beside) → verdict_on (result_of r id) ≡ Ok c → Taken c b
  ended r id c b e =
      ends m.rules.ech m.retries.count id r c b (ended-after m.rules.ech m.queries m.attempts m.retries.count now r id c e)

  accepted : (i : Input) (c : InputChange) (b : Beside) → verdict_on i ≡ Ok c → Taken c b
  accepted (input.Fails k id stale) c b e =
      holds k id stale (held.Failed now) (omega arith) refl c b
      (failed-after m.rules.ech m.queries m.attempts m.retries.count now k id stale c e)
  accepted (input.Holds k id stale n) c b e =
      holds k id stale (held.Held now n) (omega arith) refl c b
      (held_after m.rules.ech m.queries m.attempts m.retries.count now k id stale n c e)
  accepted (input.Success id) c b e = ended outcome.Success id c b e
  accepted (input.Failure id) c b e = ended outcome.Failure id c b e
  accepted (input.EchRetry id) c b e = ended outcome.EchRetry id c b e

  pub taken : (i : Input) (b : Beside) → Taken (change_of (judged m now i)) b
  unfolding judged
  taken i b = by (verdict_on i) refl
    where
      by : (v : Verdict) → verdict_on i ≡ v → Taken (change_of v) b
      by (Ok c) e = accepted i c b e
      by (Err r) e = unchanged b

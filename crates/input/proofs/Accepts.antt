-- Every proper input is accepted: an id that one record, or one attempt, alone has leads to it. One that none has is refused.
use Prim.Native.Nat.{ℕ, ◌<◌}
use mathlib.Core.Path.{◌≡◌, refl, ap}
use mathlib.Core.Bool.{Bool, false, cond}
use borrow.Author.Tests.{eq-eqb}
use Rattle.std.specs.Prelude.{Option, Some, None, Ok, Err}
use Rattle.numbers.specs.declared.refusal.Refusal.TheVariants.{UnknownId}
use Rattle.records.specs.Queries.{answered}
use Rattle.records.specs.declared.queries.Kind.{Kind}
use Rattle.records.specs.declared.queries.Answer.{Answer}
use Rattle.records.specs.declared.queries.Answer.TheVariants.{Pending}
use Rattle.records.specs.declared.queries.Query.{Query}
use Rattle.records.specs.declared.queries.Queries.{Queries}
use Rattle.records.specs.declared.queries.Refresh.TheVariants.{Idle, Done}
use Rattle.state.specs.State.{with_state}
use Rattle.state.specs.declared.attempts.State.{State}
use Rattle.state.specs.declared.attempts.State.TheVariants.{InProgress, Cancelled}
use Rattle.state.specs.declared.attempts.Attempt.{Attempt}
use Rattle.state.specs.declared.attempts.Attempts.{Attempts}
use Rattle.state.specs.declared.changes.InputChange.TheVariants as change
use Rattle.state.specs.declared.changes.Round.TheVariants.{First, Second}
use Rattle.input.specs.declared.Asked.{Asked}
use Rattle.input.specs.declared.Asked.TheVariants as who
use Rattle.input.specs.declared.Outcome.{Outcome}
use Rattle.input.specs.declared.Outcome.TheVariants as outcome
use Rattle.input.specs.Input.{is_wrong, stored, with_answer, record_at, asked_of, first_answer, fresh_answer, answer_by, answer_verdict, attempt_at, tried_of, retry_verdict, outcome_verdict, end_verdict, result_by, result_verdict}
use Rattle.input.specs.Verdicts.{records_in, attempts_in, Owns, Refreshes, Lacks, end_of, Fits, again}
use Rattle.input.proofs.Found.{Found, asked-found, Had, tried-had}

module _ (q : Queries) (id p : ℕ) (within : p < records_in q) where
  pub finds-own : Owns id (record_at q p) → ((j : ℕ) → j < records_in q → Owns id (record_at q j) → j ≡ p) → ((j : ℕ) → j < records_in q → Refreshes id (record_at q j) → ⊥)
      → asked_of q id ≡ who.Own p
  finds-own own only none = by (asked_of q id) (asked-found q id)
    where
      by : (w : Asked) → Found q id w → w ≡ who.Own p
      by who.Nobody h = absurd ((h p within).0 own)
      by (who.Own j) h = ap who.Own (only j h.0 h.1)
      by (who.Refresh j) h = absurd (none j h.0 h.1)

  pub finds-refresh : Refreshes id (record_at q p) → ((j : ℕ) → j < records_in q → Refreshes id (record_at q j) → j ≡ p) → ((j : ℕ) → j < records_in q → Owns id (record_at q j) → ⊥)
      → asked_of q id ≡ who.Refresh p
  finds-refresh own only none = by (asked_of q id) (asked-found q id)
    where
      by : (w : Asked) → Found q id w → w ≡ who.Refresh p
      by who.Nobody h = absurd ((h p within).1 own)
      by (who.Own j) h = absurd (none j h.0 h.1)
      by (who.Refresh j) h = ap who.Refresh (only j h.0 h.1)

pub finds-attempt : (a : Attempts) (id p : ℕ) → p < attempts_in a → (attempt_at a p).id ≡ id → ((j : ℕ) → j < attempts_in a → (attempt_at a j).id ≡ id → j ≡ p) → tried_of a id ≡ Some p
finds-attempt a id p within own only = by (tried_of a id) (tried-had a id)
  where
    by : (w : Option ℕ) → Had a id w → w ≡ Some p
    by None h = absurd (h p within own)
    by (Some j) h = ap Some (only j h.0 h.1)

-- "no query has that id", "no attempt has it"
pub refuses-answer : (q : Queries) (k : Kind) (id : ℕ) (stale : Bool) (a : Answer) → ((j : ℕ) → j < records_in q → Lacks id (record_at q j)) → answer_verdict q k id stale a ≡ Err UnknownId
unfolding answer_verdict
refuses-answer q k id stale a none = by (asked_of q id) (asked-found q id)
  where
    by : (w : Asked) → Found q id w → answer_by q k stale a w ≡ Err UnknownId
    by who.Nobody h = refl
    by (who.Own j) h = absurd ((none j h.0).0 h.1)
    by (who.Refresh j) h = absurd ((none j h.0).1 h.1)

pub refuses-result : (on : Bool) (a : Attempts) (n id : ℕ) (o : Outcome) → ((j : ℕ) → j < attempts_in a → (attempt_at a j).id ≡ id → ⊥) → result_verdict on a n id o ≡ Err UnknownId
unfolding result_verdict
refuses-result on a n id o none = by (tried_of a id) (tried-had a id)
  where
    by : (w : Option ℕ) → Had a id w → result_by on a n o w ≡ Err UnknownId
    by None h = refl
    by (Some j) h = absurd (none j h.0 h.1)

-- the answer of the record's type that it waits for
right-kind : (k : Kind) (x : Query) → x.kind ≡ k → is_wrong k x ≡ false
right-kind k x e = rw (e, eq-eqb _ _ refl)

waiting : (a : Answer) → a ≡ Pending → answered a ≡ false
waiting a e = rw e

module _ (q : Queries) (k : Kind) (id p : ℕ) (a : Answer) where
  pub accepts-first : (stale : Bool) → asked_of q id ≡ who.Own p → (record_at q p).answer ≡ Pending → (record_at q p).kind ≡ k
      → answer_verdict q k id stale a ≡ Ok (stored p (with_answer (record_at q p) a stale Idle) a First)
  unfolding answer_verdict first_answer
  accepts-first stale e h f = rw (e, waiting (record_at q p).answer h, right-kind k (record_at q p) f)

  pub accepts-refresh : asked_of q id ≡ who.Refresh p → (record_at q p).kind ≡ k → answer_verdict q k id false a ≡ Ok (stored p (with_answer (record_at q p) a false Done) a Second)
  unfolding answer_verdict fresh_answer
  accepts-refresh e f = rw (e, right-kind k (record_at q p) f)

-- a result of an attempt in progress, and any of a cancelled one
fit-outcome : (on : Bool) (n p : ℕ) (x : Attempt) (o : Outcome) → Fits on x o
    → outcome_verdict on n p x o ≡ Ok (cond (again x n o) (change.Retries p (with_state x (end_of o)) n) (change.Ends p (with_state x (end_of o))))
unfolding retry_verdict
fit-outcome on n p x outcome.Success h = refl
fit-outcome on n p x outcome.Failure h = refl
fit-outcome on n p x outcome.EchRetry h = rw h

module _ (on : Bool) (a : Attempts) (n id p : ℕ) (o : Outcome) (e : tried_of a id ≡ Some p) where
  in-state : (s : State) → (attempt_at a p).state ≡ s → result_verdict on a n id o ≡ end_verdict on n p (attempt_at a p) o s
  unfolding result_verdict
  in-state s h = rw e (ap (end_verdict on n p (attempt_at a p) o) h)

  pub accepts-result : (attempt_at a p).state ≡ InProgress → Fits on (attempt_at a p) o
      → result_verdict on a n id o ≡ Ok (cond (again (attempt_at a p) n o) (change.Retries p (with_state (attempt_at a p) (end_of o)) n) (change.Ends p (with_state (attempt_at a p) (end_of o))))
  accepts-result h f = rw (in-state InProgress h) (fit-outcome on n p (attempt_at a p) o f)

  pub ignores-cancelled : (attempt_at a p).state ≡ Cancelled → result_verdict on a n id o ≡ Ok change.Nothing
  ignores-cancelled h = in-state Cancelled h

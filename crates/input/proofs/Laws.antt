-- What every verdict says: why an input is refused, and what an accepted one changes.
use Prim.Native.Nat.{ℕ, ◌<◌, min}
use mathlib.Core.Path.{◌≡◌, refl, sym, ap, ◌∙◌}
use mathlib.Core.Bool.{Bool, true, false, not, cond, ◌&&◌}
use lib.Dec.{eqb as nat_eq, ltb as nat_lt}
use lib.ListN.{length}
use native.Mathlib.Omega.{arith}
use borrow.Author.Tests.{ltb-true, eqb-true, eqb-false}
use Rattle.std.specs.Prelude.{Option, Some, None, Ok, Err}
use Rattle.numbers.specs.declared.refusal.Refusal.{Refusal}
use Rattle.numbers.specs.declared.refusal.Refusal.TheVariants.{AlreadyAnswered, WrongType, StaleRefresh, EchNotSent}
use Rattle.records.specs.Numbers.{kind_number}
use Rattle.records.specs.Queries.{answered}
use Rattle.records.specs.declared.queries.Kind.{Kind}
use Rattle.records.specs.declared.queries.Kind.TheVariants.{Https, Aaaa, A}
use Rattle.records.specs.declared.queries.Answer.{Answer}
use Rattle.records.specs.declared.queries.Answer.TheVariants as answer
use Rattle.records.specs.declared.queries.Query.{Query}
use Rattle.records.specs.declared.queries.Queries.{Queries}
use Rattle.records.specs.declared.queries.Refresh.TheVariants.{Idle, Done}
use Rattle.records.proofs.Numbered.{one-kind}
use Rattle.state.specs.State.{with_state}
use Rattle.state.specs.declared.attempts.State.{State}
use Rattle.state.specs.declared.attempts.State.TheVariants as state
use Rattle.state.specs.declared.attempts.Attempt.{Attempt}
use Rattle.state.specs.declared.attempts.Attempts.{Attempts}
use Rattle.state.specs.declared.changes.InputChange.{InputChange}
use Rattle.state.specs.declared.changes.InputChange.TheVariants as change
use Rattle.state.specs.declared.changes.Round.{Round}
use Rattle.state.specs.declared.changes.Round.TheVariants.{First, Second}
use Rattle.input.specs.declared.Input.{Input}
use Rattle.input.specs.declared.Input.TheVariants as input
use Rattle.input.specs.declared.Asked.{Asked}
use Rattle.input.specs.declared.Asked.TheVariants as who
use Rattle.input.specs.declared.Outcome.{Outcome}
use Rattle.input.specs.declared.Outcome.TheVariants as outcome
use Rattle.input.specs.Input.{is_failed, stored_at, stored, with_answer, is_wrong, record_at, asked_of, first_answer, fresh_answer, answer_by, answer_verdict, attempt_at, tried_of, retry_verdict, outcome_verdict, end_verdict, result_by, result_verdict, verdict_of}
use Rattle.input.specs.Verdicts.{records_in, attempts_in, Owns, Refreshes, Answered, AnswerRefused, AnswerSays, refresh_after, sent, again, end_of, Ends, Ended, ResultRefused, ResultSays, result_of, Inside}
use Rattle.input.proofs.Found.{apart, Found, asked-found, Is, Had, tried-had}

-- Answers

pending : (a : Answer) → answered a ≡ false → a ≡ answer.Pending
pending answer.Pending e = refl
pending (answer.Failed t) e = absurd (apart (sym e))
pending (answer.Held t n) e = absurd (apart (sym e))

-- the test of the type
right : (k : Kind) (x : Query) → is_wrong k x ≡ false → x.kind ≡ k
right k x e = by (nat_eq (kind_number x.kind) (kind_number k)) refl e
  where
    by : (b : Bool) → nat_eq (kind_number x.kind) (kind_number k) ≡ b → not b ≡ false → x.kind ≡ k
    by true h e = one-kind x.kind k (eqb-true _ _ h)
    by false h e = absurd (apart (sym e))

wrong : (k : Kind) (x : Query) → is_wrong k x ≡ true → x.kind ≡ k → ⊥
wrong k x e h = by (nat_eq (kind_number x.kind) (kind_number k)) refl e
  where
    by : (b : Bool) → nat_eq (kind_number x.kind) (kind_number k) ≡ b → not b ≡ true → ⊥
    by true g e = apart e
    by false g e = eqb-false _ _ g (ap kind_number h)

module _ (q : Queries) (k : Kind) (id : ℕ) (stale : Bool) (a : Answer) (p : ℕ) (inside : p < records_in q) where
  first_says : Owns id (record_at q p) → AnswerSays q k id stale a (first_answer (record_at q p) p k stale a)
  unfolding first_answer
  first_says own = by (answered (record_at q p).answer) (is_wrong k (record_at q p)) refl refl
    where
      by : (b c : Bool) → answered (record_at q p).answer ≡ b → is_wrong k (record_at q p) ≡ c
          → AnswerSays q k id stale a (cond b (Err AlreadyAnswered) (cond c (Err WrongType) (Ok (stored p (with_answer (record_at q p) a stale Idle) a First))))
      by true c e f = (p, inside, own, e)
      by false true e f = (p, inside, First, (own, pending _ e), wrong k (record_at q p) f)
      by false false e f = record { place = p; within = inside; round = First; waits = (own, pending _ e); kind = right k (record_at q p) f; fresh = tt; kept = refl }

  fresh-says : Refreshes id (record_at q p) → AnswerSays q k id stale a (fresh_answer (record_at q p) p k stale a)
  unfolding fresh_answer
  fresh-says own = by (is_wrong k (record_at q p)) stale refl refl
    where
      by : (b s : Bool) → is_wrong k (record_at q p) ≡ b → stale ≡ s
          → AnswerSays q k id stale a (cond b (Err WrongType) (cond s (Err StaleRefresh) (Ok (stored p (with_answer (record_at q p) a false Done) a Second))))
      by true s e f = (p, inside, Second, own, wrong k (record_at q p) e)
      by false true e f = (p, inside, own, right k (record_at q p) e, f)
      by false false e f = record { place = p; within = inside; round = Second; waits = own; kind = right k (record_at q p) e; fresh = f; kept = ap (λ s. stored p (with_answer (record_at q p) a s Done) a Second) (sym f) }

pub answer-says : (q : Queries) (k : Kind) (id : ℕ) (stale : Bool) (a : Answer) → AnswerSays q k id stale a (answer_verdict q k id stale a)
unfolding answer_verdict
answer-says q k id stale a = by (asked_of q id) (asked-found q id)
  where
    by : (w : Asked) → Found q id w → AnswerSays q k id stale a (answer_by q k stale a w)
    by who.Nobody h = h
    by (who.Own p) h = first_says q k id stale a p h.0 h.1
    by (who.Refresh p) h = fresh-says q k id stale a p h.0 h.1

-- Results

module _ (on : Bool) (a : Attempts) (n id p : ℕ) (inside : p < attempts_in a) (own : Is id (attempt_at a p)) where
  ended : (o : Outcome) (c : InputChange) → Ends on n p (attempt_at a p) o c (attempt_at a p).state → Ended on a n id o c
  ended o c h = record { place = p; within = inside; own = own; ends = h }

  retry-says : (attempt_at a p).state ≡ state.InProgress → ResultSays on a n id outcome.EchRetry (retry_verdict on n p (attempt_at a p))
  unfolding retry_verdict
  retry-says e = by (sent on (attempt_at a p)) refl
    where
      by : (b : Bool) → sent on (attempt_at a p) ≡ b
          → ResultSays on a n id outcome.EchRetry
          (cond b (Ok (cond (again (attempt_at a p) n outcome.EchRetry) (change.Retries p (with_state (attempt_at a p) state.Failed) n) (change.Ends p (with_state (attempt_at a p) state.Failed)))) (Err EchNotSent))
      by true h = ended outcome.EchRetry _ (rw e (h, refl))
      by false h = (p, inside, own, rw e, refl, h)

  open-says : (o : Outcome) → (attempt_at a p).state ≡ state.InProgress → ResultSays on a n id o (outcome_verdict on n p (attempt_at a p) o)
  open-says outcome.Success e = ended outcome.Success _ (rw e (tt, refl))
  open-says outcome.Failure e = ended outcome.Failure _ (rw e (tt, refl))
  open-says outcome.EchRetry e = retry-says e

  end-says : (o : Outcome) → ResultSays on a n id o (end_verdict on n p (attempt_at a p) o (attempt_at a p).state)
  end-says o = by (attempt_at a p).state refl
    where
      by : (s : State) → (attempt_at a p).state ≡ s → ResultSays on a n id o (end_verdict on n p (attempt_at a p) o s)
      by state.InProgress e = open-says o e
      by state.Succeeded e = (p, inside, own, rw e)
      by state.Failed e = (p, inside, own, rw e)
      by state.Cancelled e = ended o _ (rw e)

pub result_says : (on : Bool) (a : Attempts) (n id : ℕ) (o : Outcome) → ResultSays on a n id o (result_verdict on a n id o)
unfolding result_verdict
result_says on a n id o = by (tried_of a id) (tried-had a id)
  where
    by : (w : Option ℕ) → Had a id w → ResultSays on a n id o (result_by on a n o w)
    by None h = h
    by (Some p) h = end-says on a n id p h.0 h.1 o

-- a retry is kept only where there is room
room : (x : Attempt) (n : ℕ) (o : Outcome) → again x n o ≡ true → n < 32
room x n outcome.Success e = absurd (apart e)
room x n outcome.Failure e = absurd (apart e)
room x n outcome.EchRetry e = by x.retry e
  where
    by : (b : Bool) → (not b && nat_lt n 32) ≡ true → n < 32
    by true e = absurd (apart e)
    by false e = ltb-true n 32 e

-- The whole: an accepted answer is the one held afterwards, with its moment; an accepted result ends its attempt, unless that was cancelled

module _ (on : Bool) (q : Queries) (a : Attempts) (n : ℕ) (now : ℕ) where
  pub held_after : (k : Kind) (id : ℕ) (stale : Bool) (m : ℕ) (c : InputChange) → verdict_of on q a n (input.Holds k id stale m) now ≡ Ok c → Answered q k id stale (answer.Held now m) c
  held_after k id stale m c e = rw e at (answer-says q k id stale (answer.Held now m))

  pub failed-after : (k : Kind) (id : ℕ) (stale : Bool) (c : InputChange) → verdict_of on q a n (input.Fails k id stale) now ≡ Ok c → Answered q k id stale (answer.Failed now) c
  failed-after k id stale c e = rw e at (answer-says q k id stale (answer.Failed now))

  by-outcome : (o : Outcome) (id : ℕ) → verdict_of on q a n (result_of o id) now ≡ result_verdict on a n id o
  by-outcome outcome.Success id = refl
  by-outcome outcome.Failure id = refl
  by-outcome outcome.EchRetry id = refl

  pub ended-after : (o : Outcome) (id : ℕ) (c : InputChange) → verdict_of on q a n (result_of o id) now ≡ Ok c → Ended on a n id o c
  ended-after o id c e = rw (sym (by-outcome o id) ∙ e) at (result_says on a n id o)

  -- an accepted result that changes nothing is that of a cancelled attempt
  pub only-cancelled : (o : Outcome) (id : ℕ) (h : Ended on a n id o change.Nothing) → (attempt_at a h.place).state ≡ state.Cancelled
  only-cancelled o id h = by (attempt_at a h.place).state h.ends
    where
      x : Attempt
      x = attempt_at a h.place

      never : (b : Bool) → change.Nothing ≡ cond b (change.Retries h.place (with_state x (end_of o)) n) (change.Ends h.place (with_state x (end_of o))) → ⊥
      never true e = let z : ◌≡◌ {A = ℕ} 0 1 = cc in omega arith
      never false e = let z : ◌≡◌ {A = ℕ} 0 1 = cc in omega arith

      by : (s : State) → Ends on n h.place x o change.Nothing s → s ≡ state.Cancelled
      by state.InProgress e = absurd (never (again x n o) e.1)
      by state.Succeeded e = absurd e
      by state.Failed e = absurd e
      by state.Cancelled e = refl

  -- the reason of each refusal
  pub held-refused : (k : Kind) (id : ℕ) (stale : Bool) (m : ℕ) (r : Refusal) → verdict_of on q a n (input.Holds k id stale m) now ≡ Err r → AnswerRefused q k id stale r
  held-refused k id stale m r e = rw e at (answer-says q k id stale (answer.Held now m))

  pub failed-refused : (k : Kind) (id : ℕ) (stale : Bool) (r : Refusal) → verdict_of on q a n (input.Fails k id stale) now ≡ Err r → AnswerRefused q k id stale r
  failed-refused k id stale r e = rw e at (answer-says q k id stale (answer.Failed now))

  pub result-refused : (o : Outcome) (id : ℕ) (r : Refusal) → verdict_of on q a n (result_of o id) now ≡ Err r → ResultRefused on a id o r
  result-refused o id r e = rw (sym (by-outcome o id) ∙ e) at (result_says on a n id o)

  -- Places

  stored-inside : (p : ℕ) (x : Query) (failed : Bool) (r : Round) (k : Kind) → p < records_in q → Inside (records_in q) (attempts_in a) n (stored_at p x failed r k)
  stored-inside p x true r Https h = h
  stored-inside p x false r Https h = h
  stored-inside p x failed r Aaaa h = h
  stored-inside p x failed r A h = h

  answer-inside : (k : Kind) (id : ℕ) (stale : Bool) (t : Answer) (c : InputChange) → Answered q k id stale t c → Inside (records_in q) (attempts_in a) n c
  answer-inside k id stale t c h = rw h.kept (stored-inside h.place (with_answer (record_at q h.place) t stale (refresh_after h.round)) (is_failed t) h.round (record_at q h.place).kind h.within)

  result-inside : (o : Outcome) (id : ℕ) (c : InputChange) → Ended on a n id o c → Inside (records_in q) (attempts_in a) n c
  result-inside o id c h = by (attempt_at a h.place).state h.ends
    where
      x : Attempt
      x = attempt_at a h.place

      turns : (b : Bool) → again x n o ≡ b → c ≡ cond b (change.Retries h.place (with_state x (end_of o)) n) (change.Ends h.place (with_state x (end_of o))) → Inside (records_in q) (attempts_in a) n c
      turns true g e = rw e (h.within, refl, room x n o g)
      turns false g e = rw e h.within

      by : (s : State) → Ends on n h.place x o c s → Inside (records_in q) (attempts_in a) n c
      by state.InProgress e = turns (again x n o) refl e.1
      by state.Succeeded e = absurd e
      by state.Failed e = absurd e
      by state.Cancelled e = rw e tt

  -- an accepted change lies inside its table
  pub inside : (x : Input) (c : InputChange) → verdict_of on q a n x now ≡ Ok c → Inside (records_in q) (attempts_in a) n c
  inside (input.Fails k id stale) c e = answer-inside k id stale (answer.Failed now) c (failed-after k id stale c e)
  inside (input.Holds k id stale m) c e = answer-inside k id stale (answer.Held now m) c (held_after k id stale m c e)
  inside (input.Success id) c e = result-inside outcome.Success id c (ended-after outcome.Success id c e)
  inside (input.Failure id) c e = result-inside outcome.Failure id c (ended-after outcome.Failure id c e)
  inside (input.EchRetry id) c e = result-inside outcome.EchRetry id c (ended-after outcome.EchRetry id c e)

  pub inside-rooms : length q.list ≡ 16 → length a.list ≡ 32 → (x : Input) (c : InputChange) → verdict_of on q a n x now ≡ Ok c → Inside (min q.count 16) (min a.count 32) n c
  inside-rooms h k x c e = rw (h, k) at (inside x c e)

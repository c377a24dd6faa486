-- The records and the attempts over one step: an ask changes them in one of four ways, an input in one of two. So 95 = 16 + 16 + 32 + 31.
use Prim.Native.Nat.{ℕ, suc, ◌+◌, ◌*◌, ◌≤◌, ◌<◌}
use mathlib.Core.Path.{◌≡◌, refl, ap}
use mathlib.Core.Bool.{Bool, true, false, false≢true, not}
use mathlib.Core.List.{List, [], ◌∷◌, ◌++◌}
use native.Mathlib.Omega.{arith}
use lib.ListN.{length, get_or, set, length-append, length-set}
use Rattle.records.specs.declared.queries.Answer.TheVariants as pending
use Rattle.records.specs.declared.queries.Refresh.{Refresh}
use Rattle.records.specs.declared.queries.Refresh.TheVariants.{Idle, InFlight, Done}
use Rattle.records.specs.declared.queries.Query.{Query}
use Rattle.state.specs.State.{has_won}
use Rattle.state.specs.declared.attempts.State.{State}
use Rattle.state.specs.declared.attempts.State.TheVariants as state
use Rattle.state.specs.declared.attempts.Attempt.{Attempt}
use Rattle.input.specs.Verdicts.{is_over}
use Rattle.standing.specs.Standing.{idle, is_cancelled}
use Rattle.starting.specs.Surveys.{has_won_attempt, is_answered}
use Rattle.history.specs.History.{one}
use Rattle.history.specs.Edition.{came_at, All}
use Rattle.history.proofs.Tables.{count, count-le, count-push, count_set, count-get, count-apart, all_push, all_set, all-get}

-- whether a refresh was sent, and whether an attempt was cancelled
abbrev pub is_begun : Refresh → Bool
is_begun r = not (idle r)

abbrev pub is_done : Refresh → Bool
is_done Idle = false
is_done (InFlight i) = false
is_done Done = true

abbrev pub begun : Query → Bool
begun q = is_begun q.refresh

abbrev pub cancelled : Attempt → Bool
cancelled a = is_cancelled a.state

-- an unanswered record isn't stale, and has no refresh
abbrev pub Tidy : Query → Type 0
Tidy q = is_answered q ≡ false → (q.stale ≡ false) × (begun q ≡ false)

-- how many answers a record had: its own, and that of its refresh
abbrev pub done : Query → Bool
done q = is_done q.refresh

abbrev pub replies : Query → ℕ
replies q = one (is_answered q) + one (done q)

-- an attempt had its result
abbrev pub over : Attempt → Bool
over a = is_over a.state

-- an ask at t: one query record more, a refresh, one attempt more, or a cancel
pub data Asks (t : ℕ) (qs : List Query) (ts : List Attempt) (qs' : List Query) (ts' : List Attempt) : Type 0 where
  new-query : (q : Query) → length qs < 16 → q.refresh ≡ Idle → q.answer ≡ pending.Pending → Tidy q → qs' ≡ qs ++ (q ∷ []) → ts' ≡ ts
      → Asks t qs ts qs' ts'
  refresh : (i : ℕ) (q d : Query) (id : ℕ) → i < length qs → (get_or qs i d).refresh ≡ Idle → q.refresh ≡ InFlight id → q.answer ≡ (get_or qs i d).answer
      → Tidy q → qs' ≡ set qs i q → ts' ≡ ts → Asks t qs ts qs' ts'
  new-attempt : (a : Attempt) → length ts < 32 → a.state ≡ state.InProgress → a.started ≤ t → qs' ≡ qs → ts' ≡ ts ++ (a ∷ []) → Asks t qs ts qs' ts'
  cancels : (i : ℕ) (a d : Attempt) → i < length ts → 1 ≤ count has_won_attempt ts → (get_or ts i d).state ≡ state.InProgress → a.state ≡ state.Cancelled
      → a.started ≡ (get_or ts i d).started → qs' ≡ qs → ts' ≡ set ts i a → Asks t qs ts qs' ts'

-- an input at t: nothing (refused, or a result for a cancelled attempt), an answer held, or the end of an attempt in progress
pub data Takes (t : ℕ) (qs : List Query) (ts : List Attempt) (qs' : List Query) (ts' : List Attempt) : Type 0 where
  nothing : qs' ≡ qs → ts' ≡ ts → Takes t qs ts qs' ts'
  answer : (i : ℕ) (q d : Query) → i < length qs → begun q ≡ begun (get_or qs i d) → came_at q.answer ≤ t → is_answered q ≡ true
      → replies q ≡ suc (replies (get_or qs i d)) → qs' ≡ set qs i q → ts' ≡ ts → Takes t qs ts qs' ts'
  result : (i : ℕ) (a d : Attempt) → i < length ts → (get_or ts i d).state ≡ state.InProgress → over a ≡ true → a.started ≡ (get_or ts i d).started
      → qs' ≡ qs → ts' ≡ set ts i a → Takes t qs ts qs' ts'

-- what the tables keep: their sizes, that a cancel comes only after a success, and tidy records
pub record Fits (qs : List Query) (ts : List Attempt) : Type 0 where
  pub records : length qs ≤ 16
  pub tries : length ts ≤ 32
  pub after_one : count cancelled ts ≤ 32 * count has_won_attempt ts
  pub tidy : All Tidy qs

-- every moment held is at most t
pub record Held (t : ℕ) (qs : List Query) (ts : List Attempt) : Type 0 where
  pub came : All (λ q. came_at q.answer ≤ t) qs
  pub started : All (λ a. a.started ≤ t) ts

-- how often the host was asked
unfoldable pub asked_of : List Query → List Attempt → ℕ
asked_of qs ts = length qs + count begun qs + length ts + count cancelled ts

apart : (a : Attempt) → one (cancelled a) + one (has_won_attempt a) ≤ 1
apart a = by a.state
  where
    by : (x : State) → one (is_cancelled x) + one (has_won x) ≤ 1
    by state.InProgress = omega arith
    by state.Succeeded = omega arith
    by state.Failed = omega arith
    by state.Cancelled = omega arith

pub asked-most : (qs : List Query) (ts : List Attempt) → Fits qs ts → asked_of qs ts ≤ 95
unfolding asked_of
asked-most qs ts f =
    let r = count-le begun qs in
    let o = count-apart cancelled has_won_attempt ts apart in
    let a = f.records in
    let b = f.tries in
    let c = f.after_one in
    omega arith

-- how often the host answered
unfoldable pub heard_of : List Query → List Attempt → ℕ
heard_of qs ts = count is_answered qs + count done qs + count over ts

pub heard-most : (qs : List Query) (ts : List Attempt) → Fits qs ts → heard_of qs ts ≤ 64
unfolding heard_of
heard-most qs ts f = omega (arith, count-le is_answered qs, count-le done qs, count-le over ts, f.records, f.tries)

-- an attempt's two marks, by its state
open-cancelled : (a : Attempt) → a.state ≡ state.InProgress → one (cancelled a) ≡ 0
open-cancelled a e = rw e

open-won : (a : Attempt) → a.state ≡ state.InProgress → one (has_won_attempt a) ≡ 0
open-won a e = rw e

gone-cancelled : (a : Attempt) → a.state ≡ state.Cancelled → one (cancelled a) ≡ 1
gone-cancelled a e = rw e

gone-won : (a : Attempt) → a.state ≡ state.Cancelled → one (has_won_attempt a) ≡ 0
gone-won a e = rw e

over-cancelled : (a : Attempt) → over a ≡ true → one (cancelled a) ≡ 0
over-cancelled a e = by a.state e
  where
    by : (x : State) → is_over x ≡ true → one (is_cancelled x) ≡ 0
    by state.InProgress e = refl
    by state.Succeeded e = refl
    by state.Failed e = refl
    by state.Cancelled e = absurd (false≢true e)

module _ (t : ℕ) (qs : List Query) (ts : List Attempt) (qs' : List Query) (ts' : List Attempt) where
  -- an ask is counted
  pub asks-one : Asks t qs ts qs' ts' → asked_of qs' ts' ≡ suc (asked_of qs ts)
  unfolding asked_of
  asks-one (new-query q l g w k e f) = rw (e, f) (let n = length-append qs (q ∷ []) in let c = count-push begun qs q in let z : one (begun q) ≡ 0 = rw g in omega arith)
  asks-one (refresh i q d id l g h w k e f) =
      rw (e, f) (let n = length-set qs i q in let c = count_set begun qs i q d l in let y : one (begun (get_or qs i d)) ≡ 0 = rw g in let z : one (begun q) ≡ 1 = rw h in omega arith)
  asks-one (new-attempt a l g w e f) = rw (e, f) (let n = length-append ts (a ∷ []) in let c = count-push cancelled ts a in let z = open-cancelled a g in omega arith)
  asks-one (cancels i a d l o g h w e f) =
      rw (e, f)
      (let n = length-set ts i a in
      let c = count_set cancelled ts i a d l in
      let y = open-cancelled (get_or ts i d) g in
      let z = gone-cancelled a h in
      omega arith)

  pub asks-fit : Asks t qs ts qs' ts' → Fits qs ts → Fits qs' ts'
  asks-fit (new-query q l g w k e f) z =
      rw (e, f) (record { records = let n = length-append qs (q ∷ []) in omega arith; tries = z.tries; after_one = z.after_one; tidy = all_push Tidy qs q z.tidy k })
  asks-fit (refresh i q d id l g h w k e f) z =
      rw (e, f)
      (record { records = let n = length-set qs i q in let m = z.records in omega arith; tries = z.tries; after_one = z.after_one; tidy = all_set Tidy qs i q z.tidy k })
  asks-fit (new-attempt a l g w e f) z =
      rw (e, f)
      (record {
        records = z.records;
        tries = let n = length-append ts (a ∷ []) in omega arith;
        after_one =
            let c = count-push cancelled ts a in let b = count-push has_won_attempt ts a in let y = open-cancelled a g in let m = z.after_one in omega arith;
        tidy = z.tidy;
      })
  asks-fit (cancels i a d l o g h w e f) z =
      let n = length-set ts i a in
      let b = count_set has_won_attempt ts i a d l in
      let x = open-won (get_or ts i d) g in
      let v = gone-won a h in
      let p = count-apart cancelled has_won_attempt (set ts i a) apart in
      let m = z.tries in
      rw (e, f) (record { records = z.records; tries = omega arith; after_one = omega arith; tidy = z.tidy })

  pub asks-held : Asks t qs ts qs' ts' → Held t qs ts → Held t qs' ts'
  asks-held (new-query q l g w k e f) z = rw (e, f) (record { came = all_push _ qs q z.came (rw w (omega arith)); started = z.started })
  asks-held (refresh i q d id l g h w k e f) z =
      rw (e, f)
      (record { came = all_set _ qs i q z.came (rw w (all-get (λ x. came_at x.answer ≤ t) qs i d z.came l)); started = z.started })
  asks-held (new-attempt a l g w e f) z = rw (e, f) (record { came = z.came; started = all_push _ ts a z.started w })
  asks-held (cancels i a d l o g h w e f) z =
      rw (e, f) (record { came = z.came; started = all_set _ ts i a z.started (rw w (all-get (λ x. x.started ≤ t) ts i d z.started l)) })

  -- an answer once there stays
  pub asks-answered : Asks t qs ts qs' ts' → 1 ≤ count is_answered qs → 1 ≤ count is_answered qs'
  asks-answered (new-query q l g w k e f) z = rw e (let c = count-push is_answered qs q in omega arith)
  asks-answered (refresh i q d id l g h w k e f) z = rw e (let c = count_set is_answered qs i q d l in let y : one (is_answered q) ≡ one (is_answered (get_or qs i d)) = rw w in omega arith)
  asks-answered (new-attempt a l g w e f) z = rw e z
  asks-answered (cancels i a d l o g h w e f) z = rw e z

  -- an input asks nothing
  pub takes_none : Takes t qs ts qs' ts' → asked_of qs' ts' ≡ asked_of qs ts
  unfolding asked_of
  takes_none (nothing e f) = rw (e, f)
  takes_none (answer i q d l g w k v e f) = rw (e, f) (let n = length-set qs i q in let c = count_set begun qs i q d l in let y = ap one g in omega arith)
  takes_none (result i a d l g h w e f) =
      rw (e, f)
      (let n = length-set ts i a in
      let c = count_set cancelled ts i a d l in
      let y = open-cancelled (get_or ts i d) g in
      let z = over-cancelled a h in
      omega arith)

  unasked : (b : Bool) → b ≡ true → b ≡ false → ⊥
  unasked true e f = let z : ◌≡◌ {A = ℕ} 0 1 = cc in omega arith
  unasked false e f = let z : ◌≡◌ {A = ℕ} 0 1 = cc in omega arith

  pub takes-fit : Takes t qs ts qs' ts' → Fits qs ts → Fits qs' ts'
  takes-fit (nothing e f) z = rw (e, f) z
  takes-fit (answer i q d l g w k v e f) z =
      rw (e, f)
      (record {
        records = let n = length-set qs i q in let m = z.records in omega arith;
        tries = z.tries;
        after_one = z.after_one;
        tidy = all_set Tidy qs i q z.tidy (λ u. absurd (unasked (is_answered q) k u));
      })
  takes-fit (result i a d l g h w e f) z =
      let n = length-set ts i a in
      let c = count_set cancelled ts i a d l in
      let b = count_set has_won_attempt ts i a d l in
      let y = open-cancelled (get_or ts i d) g in
      let x = open-won (get_or ts i d) g in
      let u = over-cancelled a h in
      let m = z.tries in
      let o = z.after_one in
      rw (e, f) (record { records = z.records; tries = omega arith; after_one = omega arith; tidy = z.tidy })

  pub takes-held : Takes t qs ts qs' ts' → Held t qs ts → Held t qs' ts'
  takes-held (nothing e f) z = rw (e, f) z
  takes-held (answer i q d l g w k v e f) z = rw (e, f) (record { came = all_set _ qs i q z.came w; started = z.started })
  takes-held (result i a d l g h w e f) z =
      rw (e, f) (record { came = z.came; started = all_set _ ts i a z.started (rw w (all-get (λ x. x.started ≤ t) ts i d z.started l)) })

  pub takes-answered : Takes t qs ts qs' ts' → 1 ≤ count is_answered qs → 1 ≤ count is_answered qs'
  takes-answered (nothing e f) z = rw e z
  takes-answered (answer i q d l g w k v e f) z = rw e (let c = count_set is_answered qs i q d l in let h = count-get is_answered qs i d l in let y = ap one k in omega arith)
  takes-answered (result i a d l g h w e f) z = rw e z

  -- an answer and a result are each heard once, a call hears nothing
  pub hears-answer : (i : ℕ) (q d : Query) → i < length qs → replies q ≡ suc (replies (get_or qs i d)) → qs' ≡ set qs i q → ts' ≡ ts → heard_of qs' ts' ≡ suc (heard_of qs ts)
  unfolding heard_of
  hears-answer i q d l v e f = rw (e, f) (let a = count_set is_answered qs i q d l in let b = count_set done qs i q d l in omega arith)

  pub hears-result : (i : ℕ) (a d : Attempt) → i < length ts → (get_or ts i d).state ≡ state.InProgress → over a ≡ true → qs' ≡ qs → ts' ≡ set ts i a
      → heard_of qs' ts' ≡ suc (heard_of qs ts)
  unfolding heard_of
  hears-result i a d l g h e f =
      rw (e, f) (let c = count_set over ts i a d l in let y : one (over (get_or ts i d)) ≡ 0 = rw g in let z = ap one h in omega arith)

  pub asks-unheard : Asks t qs ts qs' ts' → heard_of qs' ts' ≡ heard_of qs ts
  unfolding heard_of
  asks-unheard (new-query q l g w k e f) =
      rw (e, f)
      (let a = count-push is_answered qs q in
      let b = count-push done qs q in
      let x : one (is_answered q) ≡ 0 = rw w in
      let y : one (done q) ≡ 0 = rw g in
      omega arith)
  asks-unheard (refresh i q d id l g h w k e f) =
      rw (e, f)
      (let a = count_set is_answered qs i q d l in
      let b = count_set done qs i q d l in
      let x : one (is_answered q) ≡ one (is_answered (get_or qs i d)) = rw w in
      let y : one (done q) ≡ 0 = rw h in
      let z : one (done (get_or qs i d)) ≡ 0 = rw g in
      omega arith)
  asks-unheard (new-attempt a l g w e f) = rw (e, f) (let c = count-push over ts a in let z : one (over a) ≡ 0 = rw g in omega arith)
  asks-unheard (cancels i a d l o g h w e f) =
      rw (e, f)
      (let c = count_set over ts i a d l in
      let y : one (over (get_or ts i d)) ≡ 0 = rw g in
      let z : one (over a) ≡ 0 = rw h in
      omega arith)

-- A call over any edition: what it asks changes the tables in one of the four ways, and any other answer leaves the machine.
use Prim.Native.Nat.{ℕ, ◌<◌}
use mathlib.Core.Path.{◌≡◌, refl, sym, ap, ◌∙◌}
use mathlib.Core.Bool.{Bool, true, false, false≢true, cond}
use mathlib.Core.Logic.{◌⊎◌, inl, inr}
use native.Mathlib.Omega.{arith}
use lib.Dec.{leb as nat_le}
use lib.ListN.{length, get_or}
use lib.Seq.{get_or-take}
use borrow.Author.Tests.{leb-false}
use Rattle.pacing.specs.Ids.{next_id}
use Rattle.records.specs.Lists.{some?}
use Rattle.records.specs.Queries.{no_query}
use Rattle.records.specs.declared.queries.Kind.{Kind}
use Rattle.records.specs.declared.queries.Refresh.{Refresh}
use Rattle.records.specs.declared.queries.Refresh.TheVariants.{Idle, InFlight, Done}
use Rattle.records.specs.declared.queries.Query.{Query}
use Rattle.records.specs.declared.endpoints.Endpoint.{Endpoint}
use Rattle.state.specs.State.{asked, tried, no_attempt, new_attempt, with_state, is_open}
use Rattle.state.specs.declared.Machine.{Machine}
use Rattle.state.specs.declared.attempts.State.{State}
use Rattle.state.specs.declared.attempts.State.TheVariants as state
use Rattle.starting.specs.Surveys.{is_open_attempt, has_won_attempt, is_due, is_due_query}
use Rattle.machine.specs.declared.wish.Wish.{Wish}
use Rattle.machine.specs.declared.wish.Wish.TheVariants as wish
use Rattle.machine.specs.declared.grant.Output.{Output}
use Rattle.machine.specs.declared.grant.Output.TheVariants as output
use Rattle.machine.specs.declared.grant.Turn.{Turn}
use Rattle.machine.specs.Output.{new_query, refreshed, query_grant, attempt_grant, refresh_grant, cancel_grant, grant_of, granted}
use Rattle.machine.specs.Steps.{called}
use Rattle.history.specs.History.{is_ask}
use Rattle.history.specs.Claims.{is_rest}
use Rattle.history.specs.Race.{unanswered, Condition, AllTried, was_attempted}
use Rattle.history.specs.Edition.{Delays, Left, Rests}
use Rattle.history.proofs.Tables.{some-counts, all-get}
use Rattle.history.proofs.Changing.{Asks, new-query, refresh, new-attempt, cancels, Fits, Tidy}
use Rattle.history.proofs.Putting.{query-old, query-new, attempt-old, attempt-new}
use Rattle.history.proofs.Rooms.{Room, many-asked, many-tried}

-- what the tests say of a record and of an attempt
open-state : (s : State) → is_open s ≡ true → s ≡ state.InProgress
open-state state.InProgress e = refl
open-state state.Succeeded e = absurd (false≢true e)
open-state state.Failed e = absurd (false≢true e)
open-state state.Cancelled e = absurd (false≢true e)

due-idle : (stale : Bool) (r : Refresh) → is_due stale r ≡ true → (stale ≡ true) × (r ≡ Idle)
due-idle stale Idle e = (e, refl)
due-idle stale (InFlight i) e = absurd (false≢true e)
due-idle stale Done e = absurd (false≢true e)

-- a stale record is answered, so it may be asked for anew
stale-tidy : (q : Query) (id : ℕ) → Tidy q → q.stale ≡ true → Tidy (refreshed q id)
stale-tidy q id k e u = absurd (false≢true (sym (k u).0 ∙ e))

-- with room, or without
if-room : (P : Turn → Type 0) (b : Bool) (x y : Turn) → is_ask x.output ≡ false → (b ≡ false → P y) → is_ask (cond b x y).output ≡ true
    → P (cond b x y)
if-room P true x y n h e = absurd (false≢true (sym n ∙ e))
if-room P false x y n h e = h refl

if-full : (P : Turn → Type 0) (b : Bool) (x y : Turn) → is_ask y.output ≡ true → P x → is_ask (cond b x y).output ≡ false → P (cond b x y)
if-full P true x y n h e = h
if-full P false x y n h e = absurd (false≢true (sym e ∙ n))

either_way : (P : Turn → Type 0) (b : Bool) (x y : Turn) → P x → P y → P (cond b x y)
either_way P true x y h k = h
either_way P false x y h k = k

module _ (m : Machine) (now : ℕ) where
  abbrev pub given : Wish → Turn
  given w = granted m.queries m.attempts m.ids w now

  -- the tables after it
  abbrev pub AsksBy : Turn → Type 0
  AsksBy t = Asks now (asked m.queries) (tried m.attempts) (asked (called m t.change).queries) (tried (called m t.change).attempts)

  module _ (o : Room m.queries m.attempts) (f : Fits (asked m.queries) (tried m.attempts)) where
    asks-query : (id : ℕ) (k : Kind) (p : ℕ) → is_ask (query_grant m.queries.count id k p).output ≡ true
        → AsksBy (query_grant m.queries.count id k p)
    unfolding query_grant
    asks-query id k p e =
        if-room AsksBy (nat_le 16 m.queries.count) _ _ refl
        (λ g.
        let l = leb-false 16 m.queries.count g in
        new-query (new_query id k p) (omega (arith, many-asked m.queries m.attempts o)) refl refl (λ u. (refl, refl)) (query-new m.queries m.queries.count (new_query id k p) refl l o.records) refl)
        e

    asks-attempt : (id : ℕ) (retry : Bool) (x : Endpoint) → is_ask (attempt_grant m.attempts.count id retry x now).output ≡ true
        → AsksBy (attempt_grant m.attempts.count id retry x now)
    unfolding attempt_grant
    asks-attempt id retry x e =
        if-room AsksBy (nat_le 32 m.attempts.count) _ _ refl
        (λ g.
        let l = leb-false 32 m.attempts.count g in
        new-attempt (new_attempt id x now retry) (omega (arith, many-tried m.queries m.attempts o)) refl (omega arith) refl (attempt-new m.attempts m.attempts.count (new_attempt id x now retry) refl l o.rooms))
        e

    asks-cancel : (p : ℕ) → p < length (tried m.attempts) → is_open_attempt (get_or (tried m.attempts) p no_attempt) ≡ true
        → some? has_won_attempt (tried m.attempts) ≡ true
        → AsksBy (cancel_grant (get_or m.attempts.list p no_attempt) p)
    asks-cancel p l g h =
        let k : p < m.attempts.count = omega (arith, many-tried m.queries m.attempts o) in
        cancels p (with_state (get_or m.attempts.list p no_attempt) state.Cancelled) no_attempt l (some-counts has_won_attempt (tried m.attempts) h) (open-state _ g) refl
        (ap (λ x. x.started) (sym (get_or-take m.attempts.count m.attempts.list p no_attempt k))) refl
        (attempt-old m.attempts p (with_state (get_or m.attempts.list p no_attempt) state.Cancelled) k o.tried-in)

    asks-refresh : (id p : ℕ) → p < length (asked m.queries) → is_due_query (get_or (asked m.queries) p no_query) ≡ true
        → AsksBy (refresh_grant (get_or m.queries.list p no_query) id p)
    asks-refresh id p l g =
        let k : p < m.queries.count = omega (arith, many-asked m.queries m.attempts o) in
        let e = get_or-take m.queries.count m.queries.list p no_query k in
        let d = due-idle (get_or (asked m.queries) p no_query).stale (get_or (asked m.queries) p no_query).refresh g in
        refresh p (refreshed (get_or m.queries.list p no_query) id) no_query id l d.1 refl (ap (λ x. x.answer) (sym e))
        (stale-tidy (get_or m.queries.list p no_query) id (rw e at (all-get Tidy (asked m.queries) p no_query f.tidy l)) (ap (λ x. x.stale) (sym e) ∙ d.0))
        (query-old m.queries p (refreshed (get_or m.queries.list p no_query) id) k o.asked_in) refl

    pub asks-by : (d : Delays) (w : Wish) → Rests d m now w → is_ask (given w).output ≡ true → AsksBy (given w)
    unfolding granted grant_of
    asks-by d (wish.Cancel p) (l, g, h) e = asks-cancel p l g h
    asks-by d wish.Succeeded r e = absurd (false≢true e)
    asks-by d (wish.Retry x) r e = asks-attempt (next_id m.ids).id true x e
    asks-by d (wish.Attempt x) r e = asks-attempt (next_id m.ids).id false x e
    asks-by d (wish.Query k p) r e = asks-query (next_id m.ids).id k p e
    asks-by d (wish.Refresh p) (l, g) e = asks-refresh (next_id m.ids).id p l g
    asks-by d (wish.AttemptTimer n) r e = absurd (false≢true e)
    asks-by d (wish.ResolutionTimer n) r e = absurd (false≢true e)
    asks-by d (wish.Failed x) r e = absurd (false≢true e)
    asks-by d wish.Waiting r e = absurd (false≢true e)

  -- any other answer leaves the machine: Full too
  pub still-by : (w : Wish) → is_ask (given w).output ≡ false → called m (given w).change ≡ m
  unfolding granted grant_of query_grant attempt_grant
  still-by (wish.Cancel p) e = absurd (false≢true (sym e))
  still-by wish.Succeeded e = refl
  still-by (wish.Retry x) e = if-full (λ t. called m t.change ≡ m) (nat_le 32 m.attempts.count) _ _ refl refl e
  still-by (wish.Attempt x) e = if-full (λ t. called m t.change ≡ m) (nat_le 32 m.attempts.count) _ _ refl refl e
  still-by (wish.Query k p) e = if-full (λ t. called m t.change ≡ m) (nat_le 16 m.queries.count) _ _ refl refl e
  still-by (wish.Refresh p) e = absurd (false≢true (sym e))
  still-by (wish.AttemptTimer n) e = refl
  still-by (wish.ResolutionTimer n) e = refl
  still-by (wish.Failed x) e = refl
  still-by wish.Waiting e = refl

  -- what each answer rests on
  abbrev pub Stands : Delays → Output → Type 0
  Stands d output.Waiting = (unanswered m ≡ true) × (Condition m → AllTried m)
  Stands d (output.Query i k s p) = Unit {0}
  Stands d (output.Timer n) = Left (d.attempt m) (d.start m) now n ⊎ Left (d.resolution m) (d.oldest m) now n
  Stands d (output.Attempt i r e) = was_attempted m e ≡ false
  Stands d (output.Cancel i) = Unit {0}
  Stands d output.Succeeded = Unit {0}
  Stands d (output.Failed r) = Condition m → AllTried m
  Stands d (output.Full t) = Unit {0}

  pub stands_by : (d : Delays) (w : Wish) → Rests d m now w → Stands d (given w).output
  unfolding granted grant_of query_grant attempt_grant
  stands_by d (wish.Cancel p) r = tt
  stands_by d wish.Succeeded r = tt
  stands_by d (wish.Retry x) r = either_way (λ t. Stands d t.output) (nat_le 32 m.attempts.count) _ _ tt r
  stands_by d (wish.Attempt x) r = either_way (λ t. Stands d t.output) (nat_le 32 m.attempts.count) _ _ tt r
  stands_by d (wish.Query k p) r = either_way (λ t. Stands d t.output) (nat_le 16 m.queries.count) _ _ tt tt
  stands_by d (wish.Refresh p) r = tt
  stands_by d (wish.AttemptTimer n) r = inl r
  stands_by d (wish.ResolutionTimer n) r = inr r
  stands_by d (wish.Failed x) r = r
  stands_by d wish.Waiting r = r

  pub rest-stands : (d : Delays) (x : Output) → is_rest x ≡ true → Stands d x → Condition m → AllTried m
  rest-stands d output.Waiting e s = s.1
  rest-stands d (output.Query i k a p) e s = absurd (false≢true e)
  rest-stands d (output.Timer n) e s = absurd (false≢true e)
  rest-stands d (output.Attempt i r x) e s = absurd (false≢true e)
  rest-stands d (output.Cancel i) e s = absurd (false≢true e)
  rest-stands d output.Succeeded e s = absurd (false≢true e)
  rest-stands d (output.Failed r) e s = s
  rest-stands d (output.Full x) e s = absurd (false≢true e)

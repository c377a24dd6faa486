-- What every wish says: no timer of 0, and Failed exactly if nothing is unanswered and nothing else is wished.
use Rattle.std.specs.Prelude.{Option, Some, None}
use Rattle.upcoming.specs.Wanted.{Wanted}
use Prim.Native.Nat.{ℕ}
use mathlib.Core.Path.{◌≡◌, refl, ap, ◌∙◌}
use mathlib.Core.Bool.{Bool, true, false, not, cond, ◌&&◌, ◌||◌}
use lib.Dec.{ltb as nat_lt, leb as nat_le}
use Rattle.pacing.specs.Ids.{next_id}
use Rattle.pacing.specs.declared.id.IdGenerator.{IdGenerator}
use Rattle.records.specs.declared.rules.Rules.{Rules}
use Rattle.records.specs.declared.rules.Timing.{Timing}
use Rattle.records.specs.declared.queries.Query.{Query}
use Rattle.state.specs.declared.attempts.Attempt.{Attempt}
use Rattle.starting.specs.Starting.{attempt_left, resolution_left}
use Rattle.starting.specs.declared.surveys.Tries.{Tries}
use Rattle.starting.specs.declared.surveys.Asks.{Asks}
use Rattle.machine.specs.declared.wish.Reason.{Reason}
use Rattle.machine.specs.declared.wish.Found.{Found}
use Rattle.machine.specs.declared.wish.Found.TheVariants as found
use Rattle.machine.specs.declared.wish.Wish.{Wish}
use Rattle.machine.specs.declared.wish.Wish.TheVariants as wish
use Rattle.machine.specs.declared.grant.Output.{Output}
use Rattle.machine.specs.declared.grant.Output.TheVariants as output
use Rattle.machine.specs.declared.grant.Turn.{Turn}
use Rattle.machine.specs.Output.{end_wish, reason_of, last_wish, timer_wish, refresh_wish, query_wish, wish_found, next_origin, wish_from, query_grant, attempt_grant, grant_by, grant_of}

-- Timers

abbrev pub zero_timer : Output → Bool
zero_timer output.Waiting = false
zero_timer (output.Query i k s p) = false
zero_timer (output.Timer n) = not (nat_lt 0 n)
zero_timer (output.Attempt i r e) = false
zero_timer (output.Cancel i) = false
zero_timer output.Succeeded = false
zero_timer (output.Failed r) = false
zero_timer (output.Full t) = false

abbrev zero_wish : Wish → Bool
zero_wish (wish.Cancel p) = false
zero_wish wish.Succeeded = false
zero_wish (wish.Retry e) = false
zero_wish (wish.Attempt e) = false
zero_wish (wish.Query k p) = false
zero_wish (wish.Refresh p) = false
zero_wish (wish.AttemptTimer n) = not (nat_lt 0 n)
zero_wish (wish.ResolutionTimer n) = not (nat_lt 0 n)
zero_wish (wish.Failed r) = false
zero_wish wish.Waiting = false

either-turn : (b : Bool) (t u : Turn) → zero_timer t.output ≡ false → zero_timer u.output ≡ false → zero_timer (cond b t u).output ≡ false
either-turn true t u h k = h
either-turn false t u h k = k

given_by_lem : (asked tried : ℕ) (q : Query) (a : Attempt) (id now : ℕ) (w : Wish) → zero_timer (grant_by asked tried q a id now w).output ≡ zero_wish w
unfolding query_grant attempt_grant
given_by_lem asked tried q a id now (wish.Cancel p) = refl
given_by_lem asked tried q a id now wish.Succeeded = refl
given_by_lem asked tried q a id now (wish.Retry e) = either-turn (nat_le 32 tried) _ _ refl refl
given_by_lem asked tried q a id now (wish.Attempt e) = either-turn (nat_le 32 tried) _ _ refl refl
given_by_lem asked tried q a id now (wish.Query k p) = either-turn (nat_le 16 asked) _ _ refl refl
given_by_lem asked tried q a id now (wish.Refresh p) = refl
given_by_lem asked tried q a id now (wish.AttemptTimer n) = refl
given_by_lem asked tried q a id now (wish.ResolutionTimer n) = refl
given_by_lem asked tried q a id now (wish.Failed r) = refl
given_by_lem asked tried q a id now wish.Waiting = refl

either-wish : (b : Bool) (v w : Wish) → zero_wish v ≡ false → zero_wish w ≡ false → zero_wish (cond b v w) ≡ false
either-wish true v w h k = h
either-wish false v w h k = k

timer : (a r : ℕ) (rest : Wish) → zero_wish rest ≡ false → zero_wish (timer_wish a r rest) ≡ false
unfolding timer_wish
timer a r rest k = go (nat_lt 0 a) (nat_lt 0 r) refl refl
  where
    go : (b d : Bool) → nat_lt 0 a ≡ b → nat_lt 0 r ≡ d → zero_wish (cond b (wish.AttemptTimer a) (cond d (wish.ResolutionTimer r) rest)) ≡ false
    go true d e f = ap not e
    go false true e f = ap not f
    go false false e f = k

end : (p : Option ℕ) → zero_wish (end_wish p) ≡ false
end (Some p) = refl
end None = refl

refresh : (p : Option ℕ) (rest : Wish) → zero_wish rest ≡ false → zero_wish (refresh_wish p rest) ≡ false
refresh (Some p) rest k = refl
refresh None rest k = k

query : (w : Wanted) (rest : Wish) → zero_wish rest ≡ false → zero_wish (query_wish w rest) ≡ false
query (Some (n, p)) rest k = refl
query None rest k = k

found_first : (f : Found) (rest : Wish) → zero_wish rest ≡ false → zero_wish (wish_found f rest) ≡ false
found_first (found.Retry e) rest k = refl
found_first (found.Attempt e) rest k = refl
found_first (found.Query n p) rest k = refl
found_first found.Nothing rest k = k

last : (tries : Tries) (asks : Asks) (count : ℕ) → zero_wish (last_wish tries asks count) ≡ false
unfolding last_wish
last tries asks count = either-wish (asks.pending || (asks.flying || nat_lt 0 tries.active)) wish.Waiting (wish.Failed (reason_of count)) refl refl

wished : (r : Rules) (t : Timing) (tries : Tries) (asks : Asks) (f : Found) (count now : ℕ) → zero_wish (wish_from r t tries asks f count now) ≡ false
unfolding wish_from
wished r t tries asks f count now =
    either-wish tries.won _ _ (end tries.first) (found_first f _ (query (next_origin r asks) _ (refresh asks.due _ (timer _ _ _ (last tries asks count)))))

-- a timer of 0 is never given
pub no-timer-of-zero : (asked tried : ℕ) (q : Query) (a : Attempt) (ids : IdGenerator) (r : Rules) (t : Timing) (tries : Tries) (asks : Asks) (f : Found) (count now : ℕ) → zero_timer (grant_of asked tried q a ids (wish_from r t tries asks f count now) now).output ≡ false
unfolding grant_of
no-timer-of-zero asked tried q a ids r t tries asks f count now =
    given_by_lem asked tried q a (next_id ids).id now (wish_from r t tries asks f count now) ∙ wished r t tries asks f count now

-- Failed

abbrev pub is_failed : Wish → Bool
is_failed (wish.Cancel p) = false
is_failed wish.Succeeded = false
is_failed (wish.Retry e) = false
is_failed (wish.Attempt e) = false
is_failed (wish.Query k p) = false
is_failed (wish.Refresh p) = false
is_failed (wish.AttemptTimer n) = false
is_failed (wish.ResolutionTimer n) = false
is_failed (wish.Failed r) = true
is_failed wish.Waiting = false

abbrev pub found_nothing : Found → Bool
found_nothing (found.Retry e) = false
found_nothing (found.Attempt e) = false
found_nothing (found.Query k p) = false
found_nothing found.Nothing = true

abbrev pub wants_nothing : Wanted → Bool
wants_nothing None = true
wants_nothing (Some (k, p)) = false

abbrev pub is_nowhere : Option ℕ → Bool
is_nowhere None = true
is_nowhere (Some p) = false

abbrev pub unanswered : Tries → Asks → Bool
unanswered tries asks = asks.pending || (asks.flying || nat_lt 0 tries.active)

fails : (won a r u : Bool) (first due : Option ℕ) (f : Found) (w : Wanted) (n m : ℕ) (x : Reason) → is_failed (cond won (end_wish first) (wish_found f (query_wish w (refresh_wish due (cond a (wish.AttemptTimer n) (cond r (wish.ResolutionTimer m) (cond u wish.Waiting (wish.Failed x)))))))) ≡ not won && (found_nothing f && (wants_nothing w && (is_nowhere due && (not a && (not r && not u)))))
fails true a r u (Some p) due f w n m x = refl
fails true a r u None due f w n m x = refl
fails false a r u first due (found.Retry e) w n m x = refl
fails false a r u first due (found.Attempt e) w n m x = refl
fails false a r u first due (found.Query k p) w n m x = refl
fails false a r u first due found.Nothing (Some (k, p)) n m x = refl
fails false a r u first (Some p) found.Nothing None n m x = refl
fails false true r u first None found.Nothing None n m x = refl
fails false false true u first None found.Nothing None n m x = refl
fails false false false true first None found.Nothing None n m x = refl
fails false false false false first None found.Nothing None n m x = refl

-- Failed exactly if no attempt has won, nothing else is wished, and no query, refresh or attempt is unanswered
pub failed-exactly : (r : Rules) (t : Timing) (tries : Tries) (asks : Asks) (f : Found) (count now : ℕ) → is_failed (wish_from r t tries asks f count now) ≡ not tries.won && (found_nothing f && (wants_nothing (next_origin r asks) && (is_nowhere asks.due && (not (nat_lt 0 (attempt_left t tries now)) && (not (nat_lt 0 (resolution_left t asks now)) && not (unanswered tries asks))))))
unfolding wish_from timer_wish last_wish
failed-exactly r t tries asks f count now =
    fails tries.won (nat_lt 0 (attempt_left t tries now)) (nat_lt 0 (resolution_left t asks now)) (unanswered tries asks) tries.first asks.due f (next_origin r asks) (attempt_left t tries now) (resolution_left t asks now) (reason_of count)

-- Full stands exactly where there is no room, and changes nothing; no timer of 0 is given.
use Prim.Native.Nat.{ℕ}
use mathlib.Core.Path.{◌≡◌, refl, sym, ◌∙◌}
use mathlib.Core.Bool.{Bool, true, false, false≢true, cond, ◌&&◌, ◌||◌}
use lib.Dec.{leb as nat_le}
use Rattle.pacing.specs.Ids.{next_id}
use Rattle.pacing.specs.declared.id.IdGenerator.{IdGenerator}
use Rattle.records.specs.declared.queries.Query.{Query}
use Rattle.state.specs.declared.attempts.Attempt.{Attempt}
use Rattle.state.specs.declared.changes.CallChange.TheVariants as change
use Rattle.machine.specs.declared.wish.Wish.{Wish}
use Rattle.machine.specs.declared.wish.Wish.TheVariants as wish
use Rattle.machine.specs.declared.grant.Table.TheVariants as table
use Rattle.machine.specs.declared.grant.Output.{Output}
use Rattle.machine.specs.declared.grant.Output.TheVariants as output
use Rattle.machine.specs.declared.grant.Turn.{Turn}
use Rattle.machine.specs.Output.{query_grant, attempt_grant, grant_by, grant_of}

abbrev pub full_queries : Output → Bool
full_queries output.Waiting = false
full_queries (output.Query i k s p) = false
full_queries (output.Timer n) = false
full_queries (output.Attempt i r e) = false
full_queries (output.Cancel i) = false
full_queries output.Succeeded = false
full_queries (output.Failed r) = false
full_queries (output.Full table.Queries) = true
full_queries (output.Full table.Attempts) = false

abbrev pub full_attempts : Output → Bool
full_attempts output.Waiting = false
full_attempts (output.Query i k s p) = false
full_attempts (output.Timer n) = false
full_attempts (output.Attempt i r e) = false
full_attempts (output.Cancel i) = false
full_attempts output.Succeeded = false
full_attempts (output.Failed r) = false
full_attempts (output.Full table.Queries) = false
full_attempts (output.Full table.Attempts) = true

abbrev pub is_full : Output → Bool
is_full o = full_queries o || full_attempts o

abbrev pub wishes_query : Wish → Bool
wishes_query (wish.Cancel p) = false
wishes_query wish.Succeeded = false
wishes_query (wish.Retry e) = false
wishes_query (wish.Attempt e) = false
wishes_query (wish.Query k p) = true
wishes_query (wish.Refresh p) = false
wishes_query (wish.AttemptTimer n) = false
wishes_query (wish.ResolutionTimer n) = false
wishes_query (wish.Failed r) = false
wishes_query wish.Waiting = false

abbrev pub wishes_attempt : Wish → Bool
wishes_attempt (wish.Cancel p) = false
wishes_attempt wish.Succeeded = false
wishes_attempt (wish.Retry e) = true
wishes_attempt (wish.Attempt e) = true
wishes_attempt (wish.Query k p) = false
wishes_attempt (wish.Refresh p) = false
wishes_attempt (wish.AttemptTimer n) = false
wishes_attempt (wish.ResolutionTimer n) = false
wishes_attempt (wish.Failed r) = false
wishes_attempt wish.Waiting = false

-- a test of what is given, where Full stands if b
if-full : (test : Output → Bool) (b full other : Bool) (t u : Turn) → test t.output ≡ full → test u.output ≡ other → test (cond b t u).output ≡ cond b full other
if-full test true full other t u h k = h
if-full test false full other t u h k = k

same : (b : Bool) → cond b true false ≡ b
same true = refl
same false = refl

never : (b : Bool) → cond b false false ≡ false
never true = refl
never false = refl

queries-by : (asked tried : ℕ) (q : Query) (a : Attempt) (id now : ℕ) (w : Wish) → full_queries (grant_by asked tried q a id now w).output ≡ wishes_query w && nat_le 16 asked
unfolding query_grant attempt_grant
queries-by asked tried q a id now (wish.Cancel p) = refl
queries-by asked tried q a id now wish.Succeeded = refl
queries-by asked tried q a id now (wish.Retry e) = if-full full_queries (nat_le 32 tried) false false _ _ refl refl ∙ never (nat_le 32 tried)
queries-by asked tried q a id now (wish.Attempt e) = if-full full_queries (nat_le 32 tried) false false _ _ refl refl ∙ never (nat_le 32 tried)
queries-by asked tried q a id now (wish.Query k p) = if-full full_queries (nat_le 16 asked) true false _ _ refl refl ∙ same (nat_le 16 asked)
queries-by asked tried q a id now (wish.Refresh p) = refl
queries-by asked tried q a id now (wish.AttemptTimer n) = refl
queries-by asked tried q a id now (wish.ResolutionTimer n) = refl
queries-by asked tried q a id now (wish.Failed r) = refl
queries-by asked tried q a id now wish.Waiting = refl

attempts-by : (asked tried : ℕ) (q : Query) (a : Attempt) (id now : ℕ) (w : Wish) → full_attempts (grant_by asked tried q a id now w).output ≡ wishes_attempt w && nat_le 32 tried
unfolding query_grant attempt_grant
attempts-by asked tried q a id now (wish.Cancel p) = refl
attempts-by asked tried q a id now wish.Succeeded = refl
attempts-by asked tried q a id now (wish.Retry e) = if-full full_attempts (nat_le 32 tried) true false _ _ refl refl ∙ same (nat_le 32 tried)
attempts-by asked tried q a id now (wish.Attempt e) = if-full full_attempts (nat_le 32 tried) true false _ _ refl refl ∙ same (nat_le 32 tried)
attempts-by asked tried q a id now (wish.Query k p) = if-full full_attempts (nat_le 16 asked) false false _ _ refl refl ∙ never (nat_le 16 asked)
attempts-by asked tried q a id now (wish.Refresh p) = refl
attempts-by asked tried q a id now (wish.AttemptTimer n) = refl
attempts-by asked tried q a id now (wish.ResolutionTimer n) = refl
attempts-by asked tried q a id now (wish.Failed r) = refl
attempts-by asked tried q a id now wish.Waiting = refl

-- Full of queries exactly where a query is wished and 16 were asked
pub full-queries : (asked tried : ℕ) (q : Query) (a : Attempt) (ids : IdGenerator) (w : Wish) (now : ℕ) → full_queries (grant_of asked tried q a ids w now).output ≡ wishes_query w && nat_le 16 asked
unfolding grant_of
full-queries asked tried q a ids w now = queries-by asked tried q a (next_id ids).id now w

-- Full of attempts exactly where an attempt or a retry is wished and 32 were made
pub full-attempts : (asked tried : ℕ) (q : Query) (a : Attempt) (ids : IdGenerator) (w : Wish) (now : ℕ) → full_attempts (grant_of asked tried q a ids w now).output ≡ wishes_attempt w && nat_le 32 tried
unfolding grant_of
full-attempts asked tried q a ids w now = attempts-by asked tried q a (next_id ids).id now w

if-nothing : (test : Output → Bool) (b : Bool) (t u : Turn) → t.change ≡ change.Nothing → test u.output ≡ false → test (cond b t u).output ≡ true → (cond b t u).change ≡ change.Nothing
if-nothing test true t u h k e = h
if-nothing test false t u h k e = absurd (false≢true (sym k ∙ e))

nothing-by : (asked tried : ℕ) (q : Query) (a : Attempt) (id now : ℕ) (w : Wish) → is_full (grant_by asked tried q a id now w).output ≡ true → (grant_by asked tried q a id now w).change ≡ change.Nothing
unfolding query_grant attempt_grant
nothing-by asked tried q a id now (wish.Cancel p) e = absurd (false≢true e)
nothing-by asked tried q a id now wish.Succeeded e = refl
nothing-by asked tried q a id now (wish.Retry x) e = if-nothing is_full (nat_le 32 tried) _ _ refl refl e
nothing-by asked tried q a id now (wish.Attempt x) e = if-nothing is_full (nat_le 32 tried) _ _ refl refl e
nothing-by asked tried q a id now (wish.Query k p) e = if-nothing is_full (nat_le 16 asked) _ _ refl refl e
nothing-by asked tried q a id now (wish.Refresh p) e = absurd (false≢true e)
nothing-by asked tried q a id now (wish.AttemptTimer n) e = refl
nothing-by asked tried q a id now (wish.ResolutionTimer n) e = refl
nothing-by asked tried q a id now (wish.Failed r) e = refl
nothing-by asked tried q a id now wish.Waiting e = refl

-- Full changes nothing
pub full-changes-nothing : (asked tried : ℕ) (q : Query) (a : Attempt) (ids : IdGenerator) (w : Wish) (now : ℕ) → is_full (grant_of asked tried q a ids w now).output ≡ true → (grant_of asked tried q a ids w now).change ≡ change.Nothing
unfolding grant_of
full-changes-nothing asked tried q a ids w now e = nothing-by asked tried q a (next_id ids).id now w e

-- a refresh is never Full
pub refresh-never-full : (asked tried : ℕ) (q : Query) (a : Attempt) (ids : IdGenerator) (p now : ℕ) → is_full (grant_of asked tried q a ids (wish.Refresh p) now).output ≡ false
unfolding grant_of
refresh-never-full asked tried q a ids p now = refl

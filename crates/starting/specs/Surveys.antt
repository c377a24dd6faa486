-- What the decisions need of the attempts, the query records and the services.
use Rattle.std.specs.Prelude.{Option, Some, None, ℕ, ◌+◌, min, max, Bool, true, false, not, cond, ◌&&◌, List, [], ◌∷◌, nat_eq, nat_lt, length}
use Rattle.records.specs.Lists.{some?}
use Rattle.records.specs.Numbers.{kind_number}
use Rattle.records.specs.Queries.{answered}
use Rattle.records.specs.Services.{offered}
use Rattle.records.specs.declared.queries.Kind.{Kind}
use Rattle.records.specs.declared.queries.Kind.TheVariants.{Https, Aaaa, A}
use Rattle.records.specs.declared.queries.Answer.{Answer}
use Rattle.records.specs.declared.queries.Answer.TheVariants as answer
use Rattle.records.specs.declared.queries.Refresh.{Refresh}
use Rattle.records.specs.declared.queries.Refresh.TheVariants.{Idle, InFlight, Done}
use Rattle.records.specs.declared.queries.Query.{Query}
use Rattle.records.specs.declared.queries.Queries.{Queries}
use Rattle.records.specs.declared.services.Services.{Services}
use Rattle.state.specs.State.{asked, tried, is_open, has_won}
use Rattle.state.specs.declared.attempts.Attempt.{Attempt}
use Rattle.state.specs.declared.attempts.Attempts.{Attempts}
use Rattle.starting.specs.declared.surveys.Kinds.{Kinds}
use Rattle.starting.specs.declared.surveys.Tries.{Tries}
use Rattle.starting.specs.declared.surveys.Asks.{Asks}
use Rattle.starting.specs.declared.surveys.Hinted.{Hinted}

-- the place of the first member that passes, counted from i
unfoldable pub first_place : {A : Type 0} → (A → Bool) → ℕ → List A → Option ℕ
first_place test i [] = None
first_place test i (x ∷ l) = cond (test x) (Some i) (first_place test (i + 1) l)

-- the latest and the oldest of some moments
abbrev pub later_of : ℕ → Option ℕ → Option ℕ
later_of t None = Some t
later_of t (Some u) = Some (max t u)

abbrev pub sooner_of : ℕ → Option ℕ → Option ℕ
sooner_of t None = Some t
sooner_of t (Some u) = Some (min t u)

unfoldable pub latest_of : List ℕ → Option ℕ
latest_of [] = None
latest_of (t ∷ l) = later_of t (latest_of l)

unfoldable pub oldest_of : List ℕ → Option ℕ
oldest_of [] = None
oldest_of (t ∷ l) = sooner_of t (oldest_of l)

-- Attempts

-- when the attempts in progress started
unfoldable pub starts : List Attempt → List ℕ
starts [] = []
starts (a ∷ l) = cond (is_open a.state) (a.started ∷ starts l) (starts l)

abbrev pub is_open_attempt : Attempt → Bool
is_open_attempt a = is_open a.state

abbrev pub has_won_attempt : Attempt → Bool
has_won_attempt a = has_won a.state

unfoldable pub tries_of : Attempts → Tries
tries_of a =
    record {
      won = some? has_won_attempt (tried a);
      active = length (starts (tried a));
      latest = latest_of (starts (tried a));
      first = first_place is_open_attempt 0 (tried a);
    }

-- Query records

abbrev pub is_kind : Kind → Query → Bool
is_kind k q = nat_eq (kind_number q.kind) (kind_number k)

abbrev pub is_answered : Query → Bool
is_answered q = answered q.answer

-- a record of that type is answered, "whatever its name"
abbrev pub is_answered_kind : Kind → Query → Bool
is_answered_kind k q = is_kind k q && is_answered q

-- for each type whether a record passes
abbrev pub kinds_of : (Kind → Query → Bool) → List Query → Kinds
kinds_of test l = record { https = some? (test Https) l; aaaa = some? (test Aaaa) l; a = some? (test A) l }

-- when the answers came
abbrev pub came : Answer → List ℕ → List ℕ
came answer.Pending l = l
came (answer.Failed t) l = t ∷ l
came (answer.Held t n) l = t ∷ l

unfoldable pub answer_times : List Query → List ℕ
answer_times [] = []
answer_times (q ∷ l) = came q.answer (answer_times l)

abbrev pub has_address : Answer → Bool
has_address answer.Pending = false
has_address (answer.Failed t) = false
has_address (answer.Held t n) = nat_lt 0 n

abbrev pub is_flying : Refresh → Bool
is_flying Idle = false
is_flying (InFlight i) = true
is_flying Done = false

-- a stale answer, a failed one too, is asked for anew once
abbrev pub is_due : Bool → Refresh → Bool
is_due stale Idle = stale
is_due stale (InFlight i) = false
is_due stale Done = false

abbrev pub is_due_query : Query → Bool
is_due_query q = is_due q.stale q.refresh

unfoldable pub asks_of : Queries → Asks
asks_of q =
    record {
      asked = kinds_of is_kind (asked q);
      answered = kinds_of is_answered_kind (asked q);
      pending = some? (λ x. not (is_answered x)) (asked q);
      flying = some? (λ x. is_flying x.refresh) (asked q);
      address = some? (λ x. has_address x.answer) (asked q);
      oldest = oldest_of (answer_times (asked q));
      due = first_place is_due_query 0 (asked q);
    }

-- Services

unfoldable pub hints_of : Services → Hinted
hints_of s = record { six = some? (λ x. nat_lt 0 x.n6) (offered s); four = some? (λ x. nat_lt 0 x.n4) (offered s) }

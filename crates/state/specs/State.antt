-- Attempts and retries (rules S.1 and S.9), what of the machine is in use, and the machine that is made.
use Rattle.std.specs.Prelude.{ℕ, Bool, true, false, not, cond, ◌&&◌, List, nat_eq, take, replicate}
use Rattle.pacing.specs.Ids.{first_id}
use Rattle.records.specs.Names.{no_echs, name_bytes_at, with_name}
use Rattle.state.specs.Https.{prefixed, name_in}
use Rattle.records.specs.Queries.{no_queries, no_answers}
use Rattle.records.specs.Rules.{is_named}
use Rattle.records.specs.Services.{no_services}
use Rattle.records.specs.Endpoints.{no_endpoint}
use Rattle.records.specs.declared.names.Names.{Names}
use Rattle.records.specs.declared.rules.Rules.{Rules}
use Rattle.records.specs.declared.rules.Timing.{Timing}
use Rattle.records.specs.declared.rules.Alts.{Alts}
use Rattle.records.specs.declared.queries.Query.{Query}
use Rattle.records.specs.declared.queries.Queries.{Queries}
use Rattle.records.specs.declared.endpoints.Endpoint.{Endpoint}
use Rattle.state.specs.declared.Machine.{Machine}
use Rattle.state.specs.declared.attempts.State.{State}
use Rattle.state.specs.declared.attempts.State.TheVariants as state
use Rattle.state.specs.declared.attempts.Attempt.{Attempt}
use Rattle.state.specs.declared.attempts.Attempts.{Attempts}
use Rattle.state.specs.declared.attempts.Retries.{Retries}

-- the zeros
abbrev pub no_attempt : Attempt
no_attempt = record { id = 0; endpoint = no_endpoint; started = 0; state = state.InProgress; retry = false }

unfoldable pub no_attempts : Attempts
no_attempts = record { count = 0; list = replicate 32 no_attempt }

unfoldable pub no_retries : Retries
no_retries = record { count = 0; list = replicate 32 0 }

-- what is in use
abbrev pub asked : Queries → List Query
asked q = take q.count q.list

abbrev pub tried : Attempts → List Attempt
tried a = take a.count a.list

abbrev pub retries_of : Retries → List ℕ
retries_of r = take r.count r.list

abbrev pub is_open : State → Bool
is_open state.InProgress = true
is_open state.Succeeded = false
is_open state.Failed = false
is_open state.Cancelled = false

abbrev pub has_won : State → Bool
has_won state.InProgress = false
has_won state.Succeeded = true
has_won state.Failed = false
has_won state.Cancelled = false

-- an attempt that begins, and one in another state
abbrev pub new_attempt : ℕ → Endpoint → ℕ → Bool → Attempt
new_attempt id e now retry = record { id = id; endpoint = e; started = now; state = state.InProgress; retry = retry }

abbrev pub with_state : Attempt → State → Attempt
with_state a s = record { id = a.id; endpoint = a.endpoint; started = a.started; state = s; retry = a.retry }

unfoldable pub is_prefixed : Rules → Bool
is_prefixed r = not (nat_eq r.port 443) && is_named r.host

-- the place of the HTTPS name
unfoldable pub https_place : Rules → ℕ
https_place r = cond (is_prefixed r) 13 0

-- the names at the making
unfoldable pub first_names : Rules → Names → Names
first_names r n = cond (is_prefixed r) (with_name n 13 (name_in (prefixed r.port (name_bytes_at n 0)))) n

-- "With no input, demand 3 counts from the making."
unfoldable pub made : Rules → Timing → Alts → Names → Machine
made r t a n =
    record {
      rules = r;
      timing = t;
      alts = a;
      ids = first_id;
      queries = no_queries;
      answers = no_answers;
      services = no_services;
      attempts = no_attempts;
      retries = no_retries;
      names = first_names r n;
      echs = no_echs;
    }

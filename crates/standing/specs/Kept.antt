-- What the theorems about whole machines say: of rooms, of accepted inputs, of what was attempted, and of what is asked for.
use Rattle.std.specs.Prelude.{ℕ, ◌+◌, ◌<◌, ◌≤◌, ◌≡◌, Bool, true, false, List, [], ◌∷◌, ◌++◌, length, get_or, take}
use Rattle.std.proofs.Math.Option.{Option, none, some}
use Rattle.records.specs.Endpoints.{Shown, shown}
use Rattle.records.specs.Lists.{padded}
use Rattle.records.specs.Names.{name_at, ech_at, name_bytes_at, blank_name, blank_ech}
use Rattle.records.specs.Queries.{no_query, no_addr, blank_addresses}
use Rattle.records.specs.Rules.{no_alt}
use Rattle.records.specs.Services.{no_service, no_services, no_hint, blank_service, offered}
use Rattle.records.specs.declared.queries.Kind.{Kind}
use Rattle.records.specs.declared.queries.Kind.TheVariants.{Https, Aaaa, A}
use Rattle.records.specs.declared.queries.Answer.{Answer}
use Rattle.state.specs.Changes.{first_name, first_ech}
use Rattle.state.specs.State.{no_attempt, retries_of, is_open, with_state}
use Rattle.state.specs.declared.Machine.{Machine}
use Rattle.state.specs.declared.attempts.State.{State}
use Rattle.state.specs.declared.attempts.State.TheVariants as state
use Rattle.state.specs.declared.changes.Round.{Round}
use Rattle.input.specs.Input.{record_at, attempt_at, with_answer, is_failed}
use Rattle.input.specs.Verdicts.{Waits, refresh_after, end_of}
use Rattle.input.specs.declared.Input.{Input}
use Rattle.input.specs.declared.Outcome.{Outcome}
use Rattle.input.specs.declared.Outcome.TheVariants as outcome
use Rattle.after.specs.After.{placed_services}
use Rattle.machine.specs.Steps.{output_step, input_step}
use Rattle.machine.specs.declared.calls.Beside.{Beside}
use Rattle.machine.specs.declared.grant.Output.{Output}
use Rattle.machine.specs.declared.grant.Output.TheVariants as output
use Rattle.standing.specs.Standing.{held, idle}
use Rattle.standing.specs.Sound.{sound}

-- Rooms

-- a list whose first n members are in use, in a room of `size`: what lies past them is the zero itself
abbrev pub ZerosPast : {A : Type 0} → ℕ → A → ℕ → List A → Type 0
ZerosPast size zero n l = l ≡ padded size zero (take n l)

-- so that one content has one value: every room of the machine, the tables by their members
pub record Rooms (m : Machine) : Type 0 where
  pub alts : ZerosPast 4 no_alt m.alts.count m.alts.list
  pub queries : ZerosPast 16 no_query m.queries.count m.queries.list
  pub services : ZerosPast 4 no_service m.services.count m.services.list
  pub attempts : ZerosPast 32 no_attempt m.attempts.count m.attempts.list
  pub retries : ZerosPast 32 0 m.retries.count m.retries.list
  pub addresses : (p : ℕ) → p < 16 → ZerosPast 8 no_addr (held (record_at m.queries p)) (get_or m.answers.list p blank_addresses).list
  pub fours : (i : ℕ) → i < length (offered m.services) → let s = get_or (offered m.services) i blank_service in ZerosPast 4 0 s.n4 s.v4
  pub sixes : (i : ℕ) → i < length (offered m.services) → let s = get_or (offered m.services) i blank_service in ZerosPast 4 no_hint s.n6 s.v6
  pub names : (p : ℕ) → p < 14 → ZerosPast 253 0 (name_at m.names p).len (name_at m.names p).bytes
  pub echs : (p : ℕ) → p < 40 → ZerosPast 512 0 (ech_at m.echs p).len (ech_at m.echs p).bytes

-- Accepted inputs

-- the services of an HTTPS answer, with their names and ECH bytes at the places of its round
pub record Offered (round : Round) (b : Beside) (after : Machine) : Type 0 where
  pub services : after.services ≡ placed_services b.services round
  pub names : (i : ℕ) → i < 4 → name_at after.names (first_name round + i) ≡ get_or b.names.list i blank_name
  pub echs : (i : ℕ) → i < 4 → ech_at after.echs (first_ech round + i) ≡ get_or b.echs.list i blank_ech

-- what came with an answer of record p: of an HTTPS answer its services, none where it failed, of another its addresses
abbrev pub Brought : ℕ → Round → Beside → Machine → Bool → Kind → Type 0
Brought p round b after true Https = after.services ≡ no_services
Brought p round b after false Https = Offered round b after
Brought p round b after failed Aaaa = get_or after.answers.list p blank_addresses ≡ b.addresses
Brought p round b after failed A = get_or after.answers.list p blank_addresses ≡ b.addresses

-- the record of that type that waited for the id has the answer, no other record changes, and what came with it lies where it belongs
pub record Holds (m : Machine) (k : Kind) (id : ℕ) (stale : Bool) (a : Answer) (b : Beside) (after : Machine) : Type 0 where
  pub place : ℕ
  pub within : place < m.queries.count
  pub round : Round
  pub waited : Waits round id (record_at m.queries place)
  pub kind : (record_at m.queries place).kind ≡ k
  pub now : record_at after.queries place ≡ with_answer (record_at m.queries place) a stale (refresh_after round)
  pub others : (j : ℕ) → (j ≡ place → ⊥) → record_at after.queries j ≡ record_at m.queries j
  pub brought : Brought place round b after (is_failed a) k

-- an ECH retry of an attempt that is none itself is kept with its bytes
abbrev pub Again : Machine → ℕ → Beside → Machine → Outcome → Type 0
Again m p b after outcome.Success = Unit {0}
Again m p b after outcome.Failure = Unit {0}
Again m p b after outcome.EchRetry =
    (attempt_at m.attempts p).retry ≡ false → (retries_of after.retries ≡ retries_of m.retries ++ (p ∷ [])) × (ech_at after.echs (8 + p) ≡ b.retry)

-- the attempt at p ends as the result says, and no other changes
pub record EndsNow (m : Machine) (p : ℕ) (o : Outcome) (b : Beside) (after : Machine) : Type 0 where
  pub now : attempt_at after.attempts p ≡ with_state (attempt_at m.attempts p) (end_of o)
  pub others : (j : ℕ) → (j ≡ p → ⊥) → attempt_at after.attempts j ≡ attempt_at m.attempts j
  pub again : Again m p b after o

-- that is so of one in progress; where it was cancelled, nothing changes, and no other takes a result
abbrev pub EndsAs : Machine → ℕ → Outcome → Beside → Machine → State → Type 0
EndsAs m p o b after state.InProgress = EndsNow m p o b after
EndsAs m p o b after state.Succeeded = ⊥
EndsAs m p o b after state.Failed = ⊥
EndsAs m p o b after state.Cancelled = after ≡ m

-- the attempt that has the id
pub record EndsOne (m : Machine) (id : ℕ) (o : Outcome) (b : Beside) (after : Machine) : Type 0 where
  pub place : ℕ
  pub within : place < m.attempts.count
  pub own : (attempt_at m.attempts place).id ≡ id
  pub ends : EndsAs m place o b after (attempt_at m.attempts place).state

-- Events

-- a call, or an input with what comes beside it, at a moment
pub data Event : Type 0 where
  call : ℕ → Event
  feed : ℕ → Input → Beside → Event

abbrev pub in_form : Event → Bool
in_form (call now) = true
in_form (feed now i b) = sound i b

abbrev pub after : Machine → Event → Machine
after m (call now) = (output_step m now).machine
after m (feed now i b) = (input_step m now i b).machine

unfoldable pub after_all : Machine → List Event → Machine
after_all m [] = m
after_all m (e ∷ es) = after_all (after m e) es

-- What was attempted

-- attempt p with its bytes: target, port and rank, those of its host and of its ECH
abbrev pub shown_at : Machine → ℕ → Shown
shown_at m p = shown m.names m.echs (attempt_at m.attempts p).endpoint

-- each attempt is there still, with its id, and shows what it showed; one that has ended goes on no more
pub record Attempted (m later : Machine) : Type 0 where
  pub count : m.attempts.count ≤ later.attempts.count
  pub same : (p : ℕ) → p < m.attempts.count → shown_at later p ≡ shown_at m p
  pub ids : (p : ℕ) → p < m.attempts.count → (attempt_at later.attempts p).id ≡ (attempt_at m.attempts p).id
  pub ended : (p : ℕ) → p < m.attempts.count → is_open (attempt_at m.attempts p).state ≡ false → is_open (attempt_at later.attempts p).state ≡ false

-- Asked once

-- what an output asks for, with its bytes: an answer of a type for a name, as a new record's or anew; an attempt; that an attempt ends
pub data Ask : Type 0 where
  query : Kind → List ℕ → Ask
  refresh : Kind → List ℕ → Ask
  attempt : Shown → Ask
  cancel : ℕ → Ask

-- a refresh is the query that allows no stale answer
abbrev pub query_ask : Bool → Kind → List ℕ → Ask
query_ask true k x = query k x
query_ask false k x = refresh k x

abbrev pub ask_of : Machine → Output → Option Ask
ask_of m output.Waiting = none
ask_of m (output.Query i k stale p) = some (query_ask stale k (name_bytes_at m.names p))
ask_of m (output.Timer n) = none
ask_of m (output.Attempt i r e) = some (attempt (shown m.names m.echs e))
ask_of m (output.Cancel i) = some (cancel i)
ask_of m output.Succeeded = none
ask_of m (output.Failed r) = none
ask_of m (output.Full t) = none

-- what a call at a moment asks for
abbrev pub asks_at : Machine → ℕ → Option Ask
asks_at m now = ask_of m (output_step m now).output

-- record p is for that type and name
pub record IsFor (m : Machine) (k : Kind) (x : List ℕ) (p : ℕ) : Type 0 where
  pub within : p < m.queries.count
  pub kind : (record_at m.queries p).kind ≡ k
  pub name : name_bytes_at m.names (record_at m.queries p).name ≡ x

-- it is in the tables: a record, a record whose refresh is begun, an attempt, an attempt that has ended
abbrev pub Asked : Machine → Ask → Type 0
Asked m (query k x) = (p : ℕ) × IsFor m k x p
Asked m (refresh k x) = (p : ℕ) × IsFor m k x p × (idle (record_at m.queries p).refresh ≡ false)
Asked m (attempt e) = (p : ℕ) × (p < m.attempts.count) × (shown_at m p ≡ e)
Asked m (cancel i) = (p : ℕ) × (p < m.attempts.count) × ((attempt_at m.attempts p).id ≡ i) × (is_open (attempt_at m.attempts p).state ≡ false)

-- what is asked for was not asked for before, and is in the tables afterwards
pub record Once (m later : Machine) (x : Ask) : Type 0 where
  pub new : Asked m x → ⊥
  pub held : Asked later x

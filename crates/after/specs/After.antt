-- Each part of the machine after a change.
use Rattle.std.specs.Prelude.{ℕ, ◌+◌, Bool, cond, ◌&&◌, List, [], ◌∷◌, nat_eq, nat_lt, length, set}
use Rattle.std.proofs.lemmas.List.Edits.{sets}
use Rattle.pacing.specs.Ids.{next_id}
use Rattle.pacing.specs.declared.id.IdGenerator.{IdGenerator}
use Rattle.records.specs.Lists.{padded}
use Rattle.records.specs.Names.{name_at, ech_at}
use Rattle.records.specs.Services.{no_service, no_services, offered}
use Rattle.records.specs.declared.names.Ech.{Ech}
use Rattle.records.specs.declared.names.Echs.{Echs}
use Rattle.records.specs.declared.names.EchPlace.{EchPlace}
use Rattle.records.specs.declared.names.EchPlace.TheVariants.{Without, At}
use Rattle.records.specs.declared.names.Names.{Names}
use Rattle.records.specs.declared.queries.Addresses.{Addresses}
use Rattle.records.specs.declared.queries.Answers.{Answers}
use Rattle.records.specs.declared.queries.Query.{Query}
use Rattle.records.specs.declared.queries.Queries.{Queries}
use Rattle.records.specs.declared.services.Service.{Service}
use Rattle.records.specs.declared.services.Services.{Services}
use Rattle.state.specs.Changes.{first_name, first_ech}
use Rattle.state.specs.declared.Machine.{Machine}
use Rattle.state.specs.declared.attempts.Attempt.{Attempt}
use Rattle.state.specs.declared.attempts.Attempts.{Attempts}
use Rattle.state.specs.declared.attempts.Retries.{Retries}
use Rattle.state.specs.declared.changes.CallChange.{CallChange}
use Rattle.state.specs.declared.changes.CallChange.TheVariants as call
use Rattle.state.specs.declared.changes.InputChange.{InputChange}
use Rattle.state.specs.declared.changes.InputChange.TheVariants as change
use Rattle.state.specs.declared.changes.Round.{Round}
use Rattle.after.specs.declared.TargetNames.{TargetNames}
use Rattle.after.specs.declared.TargetEchs.{TargetEchs}

-- how many a table has, once place p holds something
abbrev pub counted : ℕ → ℕ → ℕ
counted n p = cond (nat_lt p n) n (p + 1)

-- something stored in its table; a place outside it, which no change has, stores nothing
unfoldable pub put_query : Queries → ℕ → Query → Queries
put_query q p x = cond (nat_lt p 16) (record { count = counted q.count p; list = set q.list p x }) q

abbrev pub queries_called : Queries → CallChange → Queries
queries_called q call.Nothing = q
queries_called q (call.Asks p x) = put_query q p x
queries_called q (call.Tries p a) = q
queries_called q (call.Cancels p a) = q

abbrev pub queries_fed : Queries → InputChange → Queries
queries_fed q change.Nothing = q
queries_fed q (change.Ends p a) = q
queries_fed q (change.Retries p a r) = q
queries_fed q (change.Holds p x) = put_query q p x
queries_fed q (change.Empties p x) = put_query q p x
queries_fed q (change.Offers p x round) = put_query q p x

unfoldable pub put_attempt : Attempts → ℕ → Attempt → Attempts
put_attempt a p x = cond (nat_lt p 32) (record { count = counted a.count p; list = set a.list p x }) a

abbrev pub attempts_called : Attempts → CallChange → Attempts
attempts_called a call.Nothing = a
attempts_called a (call.Asks p q) = a
attempts_called a (call.Tries p x) = put_attempt a p x
attempts_called a (call.Cancels p x) = put_attempt a p x

abbrev pub attempts_fed : Attempts → InputChange → Attempts
attempts_fed a change.Nothing = a
attempts_fed a (change.Ends p x) = put_attempt a p x
attempts_fed a (change.Retries p x r) = put_attempt a p x
attempts_fed a (change.Holds p q) = a
attempts_fed a (change.Empties p q) = a
attempts_fed a (change.Offers p q round) = a

-- an id is used by a query, a refresh and an attempt
abbrev pub ids_called : IdGenerator → CallChange → IdGenerator
ids_called i call.Nothing = i
ids_called i (call.Asks p q) = (next_id i).ids
ids_called i (call.Tries p a) = (next_id i).ids
ids_called i (call.Cancels p a) = i

unfoldable pub put_retry : Retries → ℕ → ℕ → Retries
put_retry t r p = cond (nat_lt r 32 && nat_lt p 32) (record { count = r + 1; list = set t.list r p }) t

abbrev pub retries_fed : Retries → InputChange → Retries
retries_fed t change.Nothing = t
retries_fed t (change.Ends p a) = t
retries_fed t (change.Retries p a r) = put_retry t r p
retries_fed t (change.Holds p q) = t
retries_fed t (change.Empties p q) = t
retries_fed t (change.Offers p q round) = t

unfoldable pub put_addresses : Answers → ℕ → Addresses → Answers
put_addresses d p l = cond (nat_lt p 16) (record { list = set d.list p l }) d

abbrev pub answers_fed : Answers → InputChange → Addresses → Answers
answers_fed d change.Nothing l = d
answers_fed d (change.Ends p a) l = d
answers_fed d (change.Retries p a r) l = d
answers_fed d (change.Holds p q) l = put_addresses d p l
answers_fed d (change.Empties p q) l = d
answers_fed d (change.Offers p q round) l = d

-- service i of an answer, with the places of its round
abbrev pub ech_place : EchPlace → ℕ → EchPlace
ech_place Without p = Without
ech_place (At q) p = At p

abbrev pub placed_at : Round → ℕ → Service → Service
placed_at round i s =
    record {
      priority = s.priority;
      name = first_name round + i;
      ech = ech_place s.ech (first_ech round + i);
      versions = s.versions;
      port = s.port;
      n4 = s.n4;
      v4 = s.v4;
      n6 = s.n6;
      v6 = s.v6;
    }

unfoldable pub placed_from : Round → ℕ → List Service → List Service
placed_from round i [] = []
placed_from round i (s ∷ l) = placed_at round i s ∷ placed_from round (i + 1) l

unfoldable pub placed_services : Services → Round → Services
placed_services s round = record { count = length (offered s); list = padded 4 no_service (placed_from round 0 (offered s)) }

abbrev pub services_fed : Services → InputChange → Services → Services
services_fed s change.Nothing o = s
services_fed s (change.Ends p a) o = s
services_fed s (change.Retries p a r) o = s
services_fed s (change.Holds p q) o = s
services_fed s (change.Empties p q) o = no_services
services_fed s (change.Offers p q round) o = placed_services o round

-- four names, and four ECH configurations, at the places of their round
unfoldable pub put_names : Names → Round → TargetNames → Names
put_names n round t = record { list = sets n.list (first_name round) t.list }

unfoldable pub put_echs : Echs → Round → TargetEchs → Echs
put_echs e round t = record { list = sets e.list (first_ech round) t.list }

abbrev pub names_fed : Names → InputChange → TargetNames → Names
names_fed n change.Nothing t = n
names_fed n (change.Ends p a) t = n
names_fed n (change.Retries p a r) t = n
names_fed n (change.Holds p q) t = n
names_fed n (change.Empties p q) t = n
names_fed n (change.Offers p q round) t = put_names n round t

-- the retry that came for attempt p
unfoldable pub put_ech : Echs → ℕ → Ech → Echs
put_ech e p x = cond (nat_lt p 32) (record { list = set e.list (8 + p) x }) e

abbrev pub echs_fed : Echs → InputChange → TargetEchs → Ech → Echs
echs_fed e change.Nothing t x = e
echs_fed e (change.Ends p a) t x = e
echs_fed e (change.Retries p a r) t x = put_ech e p x
echs_fed e (change.Holds p q) t x = e
echs_fed e (change.Empties p q) t x = e
echs_fed e (change.Offers p q round) t x = put_echs e round t

-- whether four lengths are 0
unfoldable pub are_zero : ℕ → ℕ → ℕ → ℕ → Bool
are_zero a b c d = nat_eq a 0 && (nat_eq b 0 && (nat_eq c 0 && nat_eq d 0))

-- whether the four names from a place on, and the four ECH configurations, have no bytes
unfoldable pub bare_names : Names → ℕ → Bool
bare_names t f = are_zero (name_at t f).len (name_at t (f + 1)).len (name_at t (f + 2)).len (name_at t (f + 3)).len

unfoldable pub bare_echs : Echs → ℕ → Bool
bare_echs t f = are_zero (ech_at t f).len (ech_at t (f + 1)).len (ech_at t (f + 2)).len (ech_at t (f + 3)).len

-- whether the places of a round hold no bytes
unfoldable pub bare : Names → Echs → Round → Bool
bare n e round = bare_names n (first_name round) && bare_echs e (first_ech round)

-- the machine after a change that a call makes, and after one that an input makes, with what came beside it
abbrev pub called : Machine → CallChange → Machine
called m c =
    record {
      rules = m.rules;
      timing = m.timing;
      alts = m.alts;
      ids = ids_called m.ids c;
      queries = queries_called m.queries c;
      answers = m.answers;
      services = m.services;
      attempts = attempts_called m.attempts c;
      retries = m.retries;
      names = m.names;
      echs = m.echs;
    }

abbrev pub fed : Machine → InputChange → Addresses → Services → TargetNames → TargetEchs → Ech → Machine
fed m c addresses offered names echs retry =
    record {
      rules = m.rules;
      timing = m.timing;
      alts = m.alts;
      ids = m.ids;
      queries = queries_fed m.queries c;
      answers = answers_fed m.answers c addresses;
      services = services_fed m.services c offered;
      attempts = attempts_fed m.attempts c;
      retries = retries_fed m.retries c;
      names = names_fed m.names c names;
      echs = echs_fed m.echs c echs retry;
    }

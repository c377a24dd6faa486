-- A race as replay holds it: what is kept beside the machine, and what a change stores in it.
use Rattle.std.specs.Prelude.{ℕ, ◌≡◌, ◌<◌, length, set}
use Rattle.records.specs.declared.queries.Query.{Query}
use Rattle.records.specs.declared.queries.Queries.{Queries}
use Rattle.state.specs.declared.Machine.{Machine}
use Rattle.state.specs.declared.attempts.Attempt.{Attempt}
use Rattle.state.specs.declared.attempts.Attempts.{Attempts}
use Rattle.state.specs.declared.changes.InputChange.TheVariants as input
use Rattle.state.specs.declared.changes.Round.{Round}
use Rattle.upcoming.specs.Alike.{alike_of}
use Rattle.upcoming.specs.declared.alike.Alike.{Alike}
use Rattle.after.specs.After.{placed_services, put_names, put_echs}
use Rattle.machine.specs.declared.calls.Beside.{Beside}
use Rattle.replies.specs.declared.Change.{Change}
use Rattle.replies.specs.declared.Change.TheVariants as change

-- the sizes of the two tables
abbrev pub Sized : Queries → Attempts → Type 0
Sized q a = (length q.list ≡ 16) × (length a.list ≡ 32)

-- the classes are those of the machine's names and ECH bytes
pub record Kept (m : Machine) (alike : Alike) : Type 0 where
  pub same : alike ≡ alike_of m.names m.echs
  pub sized : Sized m.queries m.attempts

-- a change that has services gone or stored has its record inside the table
abbrev pub Proper : Change → Type 0
Proper change.Nothing = Unit {0}
Proper (change.Called c) = Unit {0}
Proper (change.Fed input.Nothing) = Unit {0}
Proper (change.Fed (input.Ends p a)) = Unit {0}
Proper (change.Fed (input.Retries p a r)) = Unit {0}
Proper (change.Fed (input.Holds p q)) = Unit {0}
Proper (change.Fed (input.Empties p q)) = p < 16
Proper (change.Fed (input.Offers p q round)) = p < 16

-- one record, one attempt, and the services of a round, stored
abbrev pub query_in : Queries → ℕ → Query → ℕ → Queries
query_in q p x n = record { count = n; list = set q.list p x }

abbrev pub attempt_in : Attempts → ℕ → Attempt → ℕ → Attempts
attempt_in a p x n = record { count = n; list = set a.list p x }

abbrev pub offered_in : Machine → Round → Beside → Machine
offered_in m round b =
    record {
      rules = m.rules;
      timing = m.timing;
      alts = m.alts;
      ids = m.ids;
      queries = m.queries;
      answers = m.answers;
      services = placed_services b.services round;
      attempts = m.attempts;
      retries = m.retries;
      names = put_names m.names round b.names;
      echs = put_echs m.echs round b.echs;
    }

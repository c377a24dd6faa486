-- The two calls over the whole machine.
use Rattle.std.specs.Prelude.{Result, Ok, Err, ℕ}
use Rattle.numbers.specs.declared.refusal.Refusal.{Refusal}
use Rattle.records.specs.declared.rules.Rules.{Rules}
use Rattle.records.specs.declared.rules.Timing.{Timing}
use Rattle.records.specs.declared.queries.Queries.{Queries}
use Rattle.records.specs.declared.services.Services.{Services}
use Rattle.state.specs.declared.Machine.{Machine}
use Rattle.state.specs.declared.attempts.Attempts.{Attempts}
use Rattle.state.specs.declared.changes.CallChange.{CallChange}
use Rattle.state.specs.declared.changes.InputChange.{InputChange}
use Rattle.state.specs.declared.changes.InputChange.TheVariants.{Nothing}
use Rattle.starting.specs.Surveys.{tries_of, asks_of, hints_of}
use Rattle.input.specs.Input.{Verdict, verdict_of}
use Rattle.input.specs.declared.Input.{Input}
use Rattle.machine.specs.declared.calls.Beside.{Beside}
use Rattle.machine.specs.declared.calls.Survey.{Survey}
use Rattle.machine.specs.declared.calls.OutputStep.{OutputStep}
use Rattle.machine.specs.declared.calls.InputStep.{InputStep}
use Rattle.machine.specs.declared.grant.Turn.{Turn}
use Rattle.machine.specs.Output.{look_of, wish_of, granted}
use Rattle.after.specs.After.{queries_called, attempts_called, ids_called, queries_fed, attempts_fed, retries_fed, answers_fed, services_fed, names_fed, echs_fed}

-- whether an input was accepted
abbrev pub Taken : Type 0
Taken = Result (Unit {0}) Refusal

-- the machine after a change that a call makes, and after one that an input makes
abbrev pub called : Machine → CallChange → Machine
called m c =
    record {
      rules = m.rules;
      timing = m.timing;
      alts = m.alts;
      ids = ids_called m.ids c;
      queries = queries_called m.queries c;
      answers = m.answers;
      services = m.services;
      attempts = attempts_called m.attempts c;
      retries = m.retries;
      names = m.names;
      echs = m.echs;
    }

abbrev pub fed : Machine → InputChange → Beside → Machine
fed m c b =
    record {
      rules = m.rules;
      timing = m.timing;
      alts = m.alts;
      ids = m.ids;
      queries = queries_fed m.queries c;
      answers = answers_fed m.answers c b.addresses;
      services = services_fed m.services c b.services;
      attempts = attempts_fed m.attempts c;
      retries = retries_fed m.retries c;
      names = names_fed m.names c b.names;
      echs = echs_fed m.echs c b.echs b.retry;
    }

-- what a call sees, with so many alternative services and retries
unfoldable pub survey_of : Rules → Timing → ℕ → Queries → Services → Attempts → ℕ → ℕ → Survey
survey_of r t alts q s a retries now =
    record {
      tries = tries_of a;
      asks = asks_of q;
      look = look_of r t (tries_of a) (asks_of q) (hints_of s) retries s.count alts now;
    }

-- what is given for what the rules call for at a moment
unfoldable pub turn_of : Machine → ℕ → Turn
turn_of m now = granted m.queries m.attempts m.ids (wish_of m now) now

-- `process_output`
unfoldable pub output_step : Machine → ℕ → OutputStep
output_step m now = record { output = (turn_of m now).output; machine = called m (turn_of m now).change }

abbrev pub change_of : Verdict → InputChange
change_of (Ok c) = c
change_of (Err e) = Nothing

abbrev pub taken_of : Verdict → Taken
taken_of (Ok c) = Ok tt
taken_of (Err e) = Err e

-- what becomes of an input at a moment
unfoldable pub judged : Machine → ℕ → Input → Verdict
judged m now i = verdict_of m.rules.ech m.queries m.attempts m.retries.count i now

-- `process_input`: "A refusal 1 to 12 changes nothing in the machine"
unfoldable pub input_step : Machine → ℕ → Input → Beside → InputStep
input_step m now i b = record { taken = taken_of (judged m now i); machine = fed m (change_of (judged m now i)) b }

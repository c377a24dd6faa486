-- What of a machine's room stands after every step, whatever its inputs bring.
use Prim.Native.Nat.{ℕ, ◌≤◌}
use mathlib.Core.Path.{◌≡◌, refl, ◌∙◌}
use native.Mathlib.Omega.{arith}
use lib.ListN.{length}
use lib.Seq.{length-take-le}
use Rattle.records.specs.Queries.{no_queries}
use Rattle.records.specs.declared.names.Names.{Names}
use Rattle.records.specs.declared.rules.Rules.{Rules}
use Rattle.records.specs.declared.rules.Timing.{Timing}
use Rattle.records.specs.declared.rules.Alts.{Alts}
use Rattle.records.specs.declared.queries.Query.{Query}
use Rattle.records.specs.declared.queries.Queries.{Queries}
use Rattle.state.specs.State.{made, asked, tried, no_attempts}
use Rattle.state.specs.declared.Machine.{Machine}
use Rattle.state.specs.declared.attempts.Attempt.{Attempt}
use Rattle.state.specs.declared.attempts.Attempts.{Attempts}
use Rattle.state.specs.declared.changes.CallChange.{CallChange}
use Rattle.state.specs.declared.changes.CallChange.TheVariants as call
use Rattle.state.specs.declared.changes.InputChange.{InputChange}
use Rattle.state.specs.declared.changes.InputChange.TheVariants as change
use Rattle.machine.specs.declared.calls.Beside.{Beside}
use Rattle.after.specs.After.{put_query, put_attempt}
use Rattle.machine.specs.Steps.{called, fed}
use Rattle.history.proofs.Putting.{query-room, query-count, attempt-room, attempt-count}

-- the two tables have their rooms, and what is in use fits
pub record Room (q : Queries) (a : Attempts) : Type 0 where
  pub records : length q.list ≡ 16
  pub asked_in : q.count ≤ 16
  pub rooms : length a.list ≡ 32
  pub tried-in : a.count ≤ 32

module _ (q : Queries) (a : Attempts) (o : Room q a) where
  pub many-asked : length (asked q) ≡ q.count
  many-asked = length-take-le q.count q.list (omega (arith, o.records, o.asked_in))

  pub many-tried : length (tried a) ≡ a.count
  many-tried = length-take-le a.count a.list (omega (arith, o.rooms, o.tried-in))

  query-in : (p : ℕ) (x : Query) → Room (put_query q p x) a
  query-in p x =
      record { records = query-room q p x ∙ o.records; asked_in = query-count q p x o.asked_in; rooms = o.rooms; tried-in = o.tried-in }

  attempt-in : (p : ℕ) (x : Attempt) → Room q (put_attempt a p x)
  attempt-in p x =
      record { records = o.records; asked_in = o.asked_in; rooms = attempt-room a p x ∙ o.rooms; tried-in = attempt-count a p x o.tried-in }

pub made-room : (r : Rules) (t : Timing) (l : Alts) (n : Names) → Room (made r t l n).queries (made r t l n).attempts
unfolding made no_queries no_attempts
made-room r t l n = record { records = refl; asked_in = omega arith; rooms = refl; tried-in = omega arith }

pub called-room : (m : Machine) (c : CallChange) → Room m.queries m.attempts → Room (called m c).queries (called m c).attempts
called-room m call.Nothing o = o
called-room m (call.Asks p x) o = query-in m.queries m.attempts o p x
called-room m (call.Tries p x) o = attempt-in m.queries m.attempts o p x
called-room m (call.Cancels p x) o = attempt-in m.queries m.attempts o p x

pub fed-room : (m : Machine) (c : InputChange) (b : Beside) → Room m.queries m.attempts → Room (fed m c b).queries (fed m c b).attempts
fed-room m change.Nothing b o = o
fed-room m (change.Ends p x) b o = attempt-in m.queries m.attempts o p x
fed-room m (change.Retries p x r) b o = attempt-in m.queries m.attempts o p x
fed-room m (change.Holds p x) b o = query-in m.queries m.attempts o p x
fed-room m (change.Empties p x) b o = query-in m.queries m.attempts o p x
fed-room m (change.Offers p x r) b o = query-in m.queries m.attempts o p x

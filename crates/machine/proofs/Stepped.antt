-- The two calls over the whole machine: what leaves it as it was, when Full is given, and that no timer is 0.
use Rattle.std.specs.Prelude.{Err}
use Prim.Native.Nat.{ℕ}
use mathlib.Core.Path.{◌≡◌, ap}
use mathlib.Core.Bool.{true, false, ◌&&◌}
use lib.Dec.{leb as nat_le}
use lib.ListN.{get_or}
use Rattle.numbers.specs.declared.refusal.Refusal.{Refusal}
use Rattle.records.specs.Names.{same_at}
use Rattle.records.specs.Queries.{no_query}
use Rattle.records.specs.Endpoints.{same_endpoint}
use Rattle.state.specs.State.{no_attempt}
use Rattle.state.specs.declared.Machine.{Machine}
use Rattle.input.specs.declared.Input.{Input}
use Rattle.machine.specs.declared.calls.Beside.{Beside}
use Rattle.machine.specs.Output.{wish_of, wish_query, wish_attempt, granted}
use Rattle.machine.specs.Steps.{called, fed, change_of, turn_of, output_step, judged, input_step}
use Rattle.machine.proofs.Grants.{is_full, full_queries, full_attempts, wishes_query, wishes_attempt, full-queries, full-attempts, full-changes-nothing}
use Rattle.machine.proofs.Wishes.{zero_timer, no-timer-of-zero}
use Rattle.machine.proofs.Way.{found-way}

-- "A refusal 1 to 12 changes nothing in the machine"
pub refused-keeps : (m : Machine) (now : ℕ) (i : Input) (b : Beside) (e : Refusal) → judged m now i ≡ Err e → (input_step m now i b).machine ≡ m
unfolding input_step
refused-keeps m now i b e h = ap (λ v. fed m (change_of v) b) h

-- Full changes nothing
pub full-keeps : (m : Machine) (now : ℕ) → is_full (output_step m now).output ≡ true → (output_step m now).machine ≡ m
unfolding output_step turn_of granted
full-keeps m now e =
    ap (called m) (full-changes-nothing m.queries.count m.attempts.count (get_or m.queries.list (wish_query (wish_of m now)) no_query) (get_or m.attempts.list (wish_attempt (wish_of m now)) no_attempt) m.ids (wish_of m now) now e)

-- it is given exactly where the rules call for a new record, or a new attempt, and there is no room for it
pub full-of-queries : (m : Machine) (now : ℕ) → full_queries (output_step m now).output ≡ wishes_query (wish_of m now) && nat_le 16 m.queries.count
unfolding output_step turn_of granted
full-of-queries m now =
    full-queries m.queries.count m.attempts.count (get_or m.queries.list (wish_query (wish_of m now)) no_query) (get_or m.attempts.list (wish_attempt (wish_of m now)) no_attempt) m.ids (wish_of m now) now

pub full-of-attempts : (m : Machine) (now : ℕ) → full_attempts (output_step m now).output ≡ wishes_attempt (wish_of m now) && nat_le 32 m.attempts.count
unfolding output_step turn_of granted
full-of-attempts m now =
    full-attempts m.queries.count m.attempts.count (get_or m.queries.list (wish_query (wish_of m now)) no_query) (get_or m.attempts.list (wish_attempt (wish_of m now)) no_attempt) m.ids (wish_of m now) now

-- "A timer of 0 isn't given."
pub timer-above-zero : (m : Machine) (now : ℕ) → zero_timer (output_step m now).output ≡ false
unfolding output_step turn_of granted wish_of
timer-above-zero m now =
    let same = same_at m.names in
    let alike = same_endpoint m.names m.echs in
    rw (← found-way same alike m.rules m.timing m.alts m.queries m.answers m.services m.attempts m.retries now)
    (no-timer-of-zero _ _ _ _ _ _ _ _ _ _ _ _)

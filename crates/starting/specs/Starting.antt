-- Starting (document 01, part 5; `move_on_*`): gate and timers, and whether endpoints may be attempted at all.
use Rattle.std.specs.Prelude.{Option, Some, None, ℕ, ◌-◌, Bool, true, false, cond, ◌&&◌, ◌||◌, nat_lt, nat_le, length}
use Rattle.pacing.specs.Pacing.{delay_of}
use Rattle.records.specs.Lists.{some?}
use Rattle.records.specs.Rules.{prefers_six, with_https, is_named}
use Rattle.records.specs.declared.rules.Rules.{Rules}
use Rattle.records.specs.declared.rules.Timing.{Timing}
use Rattle.records.specs.declared.rules.Mode.{Mode}
use Rattle.records.specs.declared.rules.Mode.TheVariants as mode
use Rattle.state.specs.State.{tried}
use Rattle.state.specs.declared.attempts.Attempts.{Attempts}
use Rattle.starting.specs.declared.surveys.Tries.{Tries}
use Rattle.starting.specs.declared.surveys.Asks.{Asks}
use Rattle.starting.specs.declared.surveys.Hinted.{Hinted}
use Rattle.starting.specs.Surveys.{starts}

-- Gate and timers

-- "Elapsed is 0 if the clock went back"
unfoldable pub elapsed : (now then : ℕ) → ℕ
elapsed now then = now - then

-- what is left of a delay since a moment
abbrev pub left_of : ℕ → Option ℕ → ℕ → ℕ
left_of delay None now = 0
left_of delay (Some t) now = delay - elapsed now t

-- one attempt delay, for the gate and for its timer (part 2)
unfoldable pub attempt_delay : Timing → ℕ → ℕ
attempt_delay t active = delay_of t.delay t.multiplier active

-- "Timing from the oldest in-progress attempt" is a slip: "it is the latest"
unfoldable pub attempt_left : Timing → Tries → ℕ → ℕ
attempt_left t tries now = left_of (attempt_delay t tries.active) tries.latest now

-- (H) "Within delay: elapsed below the delay", of some attempt in progress. It is so exactly while `attempt_left` isn't 0.
unfoldable pub within_delay : Timing → Attempts → ℕ → Bool
within_delay t a now = some? (λ s. nat_lt (elapsed now s) (attempt_delay t (length (starts (tried a))))) (starts (tried a))

-- the resolution timer: while a record is unanswered, from the oldest answer
unfoldable pub resolution_left : Timing → Asks → ℕ → ℕ
resolution_left t asks now = cond asks.pending (left_of t.resolution asks.oldest now) 0

-- "the resolution delay is met at equality": by the oldest answer, so by some
abbrev pub resolution_met : ℕ → Option ℕ → ℕ → Bool
resolution_met delay None now = false
resolution_met delay (Some t) now = nat_le delay (elapsed now t)

-- Starting

-- some address: an answer's, or a hint of any family
unfoldable pub some_address : Asks → Hinted → Bool
some_address asks hinted = asks.address || (hinted.six || hinted.four)

-- (H) the preferred type is answered, or a service has a hint of that family; `wait_for_preferred_address` off drops this test only
unfoldable pub preferred_settled : Bool → Bool → Asks → Hinted → Bool
preferred_settled wait six asks hinted = cond wait (cond six (asks.answered.aaaa || hinted.six) (asks.answered.a || hinted.four)) true

-- `move_on_without_timeout`: `NameWithHttpsRr` asks for no address, so it waits for HTTPS alone
unfoldable pub move_on_without_timeout : Rules → Timing → Asks → Hinted → Bool
move_on_without_timeout r t asks hinted =
    asks.answered.https && cond (with_https r.mode) true (some_address asks hinted && preferred_settled t.wait (prefers_six r.preference) asks hinted)

-- `move_on_with_timeout`
unfoldable pub move_on_with_timeout : Timing → Asks → Hinted → ℕ → Bool
move_on_with_timeout t asks hinted now = some_address asks hinted && resolution_met t.resolution asks.oldest now

-- no query at all
abbrev pub unresolved : Mode → Bool
unresolved mode.Ip = false
unresolved mode.Name = true
unresolved mode.NameWithHttpsRr = false

-- whether endpoints may be attempted at all
unfoldable pub may_start : Rules → Timing → Asks → Hinted → ℕ → Bool
may_start r t asks hinted now =
    cond (is_named r.host) (cond (unresolved r.mode) true (move_on_without_timeout r t asks hinted || move_on_with_timeout t asks hinted now)) true

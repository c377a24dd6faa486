-- What gate and timers come to: the gate is shut exactly while the attempt timer is given, whatever the clock does.
use Rattle.std.specs.Prelude.{Option, Some, None}
use Prim.Native.Nat.{ℕ, ◌-◌, ◌≤◌, ◌<◌, min, max}
use mathlib.Core.Path.{◌≡◌, refl, sym, ap, ◌∙◌}
use mathlib.Core.Bool.{Bool, true, false, not, cond}
use mathlib.Core.List.{List, [], ◌∷◌}
use native.Mathlib.Decide.{dec_lt}
use native.Mathlib.Omega.{arith}
use lib.Dec.{ltb as nat_lt, leb as nat_le}
use lib.ListN.{length}
use borrow.Author.Tests.{lt-ltb, le-ltb, le-leb, lt-leb, ltb-true}
use Rattle.records.specs.Lists.{some?}
use Rattle.records.specs.declared.rules.Timing.{Timing}
use Rattle.records.specs.declared.queries.Queries.{Queries}
use Rattle.state.specs.State.{asked, tried}
use Rattle.state.specs.declared.attempts.Attempts.{Attempts}
use Rattle.starting.specs.Surveys.{later_of, sooner_of, latest_of, oldest_of, starts, answer_times, tries_of, asks_of}
use Rattle.starting.specs.Starting.{elapsed, left_of, attempt_delay, attempt_left, within_delay, resolution_met}

-- "Elapsed is 0 if the clock went back"
pub clock-back : (now then : ℕ) → now ≤ then → elapsed now then ≡ 0
unfolding elapsed
clock-back now then h = omega arith

-- something is left of a delay exactly while less has gone by
left-while : (d e : ℕ) → nat_lt e d ≡ nat_lt 0 (d - e)
left-while d e = elim (dec_lt e d) [ yes h ↦ rw (lt-ltb _ _ h) (sym (lt-ltb 0 (d - e) (omega arith))) | no h ↦ rw (le-ltb e d (omega arith)) (sym (le-ltb 0 (d - e) (omega arith))) ]

met-while : (d e : ℕ) → nat_le d e ≡ not (nat_lt 0 (d - e))
met-while d e = elim (dec_lt e d) [ yes h ↦ rw (lt-leb d e h, lt-ltb 0 (d - e) (omega arith)) | no h ↦ rw (le-leb d e (omega arith), le-ltb 0 (d - e) (omega arith)) ]

-- of two starts the later has more left; of two answers the older has met a delay if one has
later-left : (d now s u : ℕ) → cond (nat_lt (now - s) d) true (nat_lt 0 (d - (now - u))) ≡ nat_lt 0 (d - (now - max s u))
later-left d now s u = elim (dec_lt (now - s) d) [ yes h ↦ rw (lt-ltb _ _ h) (sym (lt-ltb 0 (d - (now - max s u)) (omega arith))) | no h ↦ rw (le-ltb (now - s) d (omega arith)) (elim (dec_lt (now - u) d) [ yes k ↦ lt-ltb 0 (d - (now - u)) (omega arith) ∙ sym (lt-ltb 0 (d - (now - max s u)) (omega arith)) | no k ↦ le-ltb 0 (d - (now - u)) (omega arith) ∙ sym (le-ltb 0 (d - (now - max s u)) (omega arith)) ]) ]

sooner-met : (d now s u : ℕ) → cond (nat_le d (now - s)) true (nat_le d (now - u)) ≡ nat_le d (now - min s u)
sooner-met d now s u = elim (dec_lt (now - s) d) [ yes h ↦ rw (lt-leb d (now - s) h) (elim (dec_lt (now - u) d) [ yes k ↦ lt-leb d (now - u) k ∙ sym (lt-leb d (now - min s u) (omega arith)) | no k ↦ le-leb d (now - u) (omega arith) ∙ sym (le-leb d (now - min s u) (omega arith)) ]) | no h ↦ rw (le-leb d (now - s) (omega arith)) (sym (le-leb d (now - min s u) (omega arith))) ]

starts-left : (d now : ℕ) (l : List ℕ) → some? (λ s. nat_lt (elapsed now s) d) l ≡ nat_lt 0 (left_of d (latest_of l) now)
unfolding some? latest_of elapsed
starts-left d now [] = refl
starts-left d now (s ∷ l) = go (latest_of l) (starts-left d now l)
  where
    one : (b : Bool) → cond b true false ≡ b
    one true = refl
    one false = refl

    go : (m : Option ℕ) → some? (λ t. nat_lt (now - t) d) l ≡ nat_lt 0 (left_of d m now) → cond (nat_lt (now - s) d) true (some? (λ t. nat_lt (now - t) d) l) ≡ nat_lt 0 (left_of d (later_of s m) now)
    go None e = ap (cond (nat_lt (now - s) d) true) e ∙ (one (nat_lt (now - s) d) ∙ left-while d (now - s))
    go (Some u) e = ap (cond (nat_lt (now - s) d) true) e ∙ later-left d now s u

answers-met : (d now : ℕ) (l : List ℕ) → some? (λ t. nat_le d (elapsed now t)) l ≡ resolution_met d (oldest_of l) now
unfolding some? oldest_of elapsed
answers-met d now [] = refl
answers-met d now (s ∷ l) = go (oldest_of l) (answers-met d now l)
  where
    one : (b : Bool) → cond b true false ≡ b
    one true = refl
    one false = refl

    go : (m : Option ℕ) → some? (λ t. nat_le d (now - t)) l ≡ resolution_met d m now → cond (nat_le d (now - s)) true (some? (λ t. nat_le d (now - t)) l) ≡ resolution_met d (sooner_of s m) now
    go None e = ap (cond (nat_le d (now - s)) true) e ∙ one (nat_le d (now - s))
    go (Some u) e = ap (cond (nat_le d (now - s)) true) e ∙ sooner-met d now s u

-- some attempt in progress is within the delay exactly while something is left since the latest start: gate and timer never disagree
pub gate-is-timer : (t : Timing) (a : Attempts) (now : ℕ) → within_delay t a now ≡ nat_lt 0 (attempt_left t (tries_of a) now)
unfolding within_delay attempt_left tries_of
gate-is-timer t a now = starts-left (attempt_delay t (length (starts (tried a)))) now (starts (tried a))

-- so the timer that is given while the gate is shut isn't 0
pub timer-not-zero : (t : Timing) (a : Attempts) (now : ℕ) → within_delay t a now ≡ true → 0 < attempt_left t (tries_of a) now
timer-not-zero t a now h = ltb-true 0 (attempt_left t (tries_of a) now) (sym (gate-is-timer t a now) ∙ h)

-- some answer has met the resolution delay exactly if the oldest has
pub oldest-meets : (t : Timing) (q : Queries) (now : ℕ) → some? (λ s. nat_le t.resolution (elapsed now s)) (answer_times (asked q)) ≡ resolution_met t.resolution (asks_of q).oldest now
unfolding asks_of
oldest-meets t q now = answers-met t.resolution now (answer_times (asked q))

-- "the resolution delay is met at equality", and while nothing is left of it
pub met-at-equality : (d now s : ℕ) → elapsed now s ≡ d → resolution_met d (Some s) now ≡ true
met-at-equality d now s e = le-leb d (elapsed now s) (omega (arith, e))

pub met-or-left : (d now s : ℕ) → resolution_met d (Some s) now ≡ not (nat_lt 0 (left_of d (Some s) now))
met-or-left d now s = met-while d (elapsed now s)

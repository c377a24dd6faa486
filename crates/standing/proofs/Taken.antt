-- What becomes of an input: nothing, an answer that is held, or an attempt that ends. What each of the three has, every input has.
use Rattle.std.specs.Prelude.{Ok, Err}
use Rattle.input.specs.Input.{Verdict}
use Prim.Native.Nat.{ℕ}
use mathlib.Core.Path.{◌≡◌, refl}
use mathlib.Core.Bool.{Bool, true}
use Rattle.records.specs.Queries.{answered}
use Rattle.records.specs.declared.queries.Kind.{Kind}
use Rattle.records.specs.declared.queries.Answer.{Answer}
use Rattle.records.specs.declared.queries.Answer.TheVariants.{Failed, Held}
use Rattle.state.specs.declared.Machine.{Machine}
use Rattle.state.specs.declared.changes.InputChange.{InputChange}
use Rattle.state.specs.declared.changes.InputChange.TheVariants as change
use Rattle.input.specs.Verdicts.{Answered, Ended}
use Rattle.input.specs.declared.Input.{Input}
use Rattle.input.specs.declared.Input.TheVariants as input
use Rattle.input.specs.declared.Outcome.{Outcome}
use Rattle.input.specs.declared.Outcome.TheVariants as outcome
use Rattle.input.proofs.Laws.{held_after, failed-after, ended-after}
use Rattle.machine.specs.Steps.{change_of, judged}
use Rattle.machine.specs.declared.calls.Beside.{Beside}
use Rattle.standing.specs.Standing.{held_of}
use Rattle.standing.specs.Sound.{ech_sound, answer_sound, sound}

-- what comes with a result is sound
abbrev pub result_sound : Outcome → Beside → Bool
result_sound outcome.Success b = true
result_sound outcome.Failure b = true
result_sound outcome.EchRetry b = ech_sound true b.retry

-- `Given` says what is known of the test of form: that it is passed, or nothing
module _ (m : Machine) (now : ℕ) (b : Beside) (Given : Bool → Type 0) (P : InputChange → Type 0) (none : P change.Nothing)
    (answers : (k : Kind) (id : ℕ) (stale : Bool) (t : Answer) → answered t ≡ true → Given (answer_sound k (held_of t) b) → (c : InputChange) → Answered m.queries k id stale t c → P c)
    (results : (id : ℕ) (o : Outcome) → Given (result_sound o b) → (c : InputChange) → Ended m.rules.ech m.attempts m.retries.count id o c → P c) where
  accepted-has : (i : Input) → Given (sound i b) → (c : InputChange) → judged m now i ≡ Ok c → P c
  unfolding judged
  accepted-has (input.Fails k id stale) s c e = answers k id stale (Failed now) refl s c (failed-after m.rules.ech m.queries m.attempts m.retries.count now k id stale c e)
  accepted-has (input.Holds k id stale n) s c e = answers k id stale (Held now n) refl s c (held_after m.rules.ech m.queries m.attempts m.retries.count now k id stale n c e)
  accepted-has (input.Success id) s c e = results id outcome.Success s c (ended-after m.rules.ech m.queries m.attempts m.retries.count now outcome.Success id c e)
  accepted-has (input.Failure id) s c e = results id outcome.Failure s c (ended-after m.rules.ech m.queries m.attempts m.retries.count now outcome.Failure id c e)
  accepted-has (input.EchRetry id) s c e = results id outcome.EchRetry s c (ended-after m.rules.ech m.queries m.attempts m.retries.count now outcome.EchRetry id c e)

  pub every-input : (i : Input) → Given (sound i b) → P (change_of (judged m now i))
  every-input i s = by (judged m now i) refl
    where
      by : (v : Verdict) → judged m now i ≡ v → P (change_of v)
      by (Ok c) e = accepted-has i s c e
      by (Err r) e = none

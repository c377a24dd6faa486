-- Succeeded is stable: once it is given, every later call gives it, whatever comes in between.
use Rattle.std.specs.Prelude.{Option, Some, None}
use Prim.Native.Nat.{ℕ, zero, suc, ◌+◌, ◌<◌}
use mathlib.Core.Path.{◌≡◌, refl, sym, ap, ◌∙◌}
use mathlib.Core.Bool.{Bool, true, false, cond, ◌||◌}
use mathlib.Core.List.{List, [], ◌∷◌}
use native.Mathlib.Omega.{arith}
use lib.Dec.{ltb as nat_lt, leb as nat_le}
use lib.ListN.{length, get_or, length-take}
use lib.Seq.{get_or-take}
use Rattle.records.specs.Endpoints.{same_endpoint}
use Rattle.records.specs.Names.{same_at}
use Rattle.records.specs.declared.queries.Answer.{Answer}
use Rattle.records.specs.declared.queries.Kind.{Kind}
use Rattle.records.specs.declared.queries.Kind.TheVariants.{Https, Aaaa, A}
use Rattle.records.specs.declared.queries.Query.{Query}
use Rattle.state.specs.State.{no_attempt, tried, is_open}
use Rattle.state.specs.declared.Machine.{Machine}
use Rattle.state.specs.declared.attempts.State.{State}
use Rattle.state.specs.declared.attempts.State.TheVariants as state
use Rattle.state.specs.declared.attempts.Attempts.{Attempts}
use Rattle.state.specs.declared.changes.InputChange.{InputChange}
use Rattle.state.specs.declared.changes.Round.{Round}
use Rattle.input.specs.Input.{record_at, attempt_at, with_answer, is_failed, stored_at}
use Rattle.input.specs.Verdicts.{attempts_in, Answered, Ended, Ends, refresh_after}
use Rattle.input.specs.declared.Outcome.{Outcome}
use Rattle.starting.specs.Surveys.{first_place, tries_of, asks_of, hints_of, is_open_attempt}
use Rattle.upcoming.specs.Next.{Next, next_retry, next_endpoint}
use Rattle.upcoming.specs.Wanted.{Wanted, next_query}
use Rattle.starting.specs.Starting.{attempt_left, resolution_left}
use Rattle.starting.specs.declared.surveys.Tries.{Tries}
use Rattle.starting.specs.declared.surveys.Asks.{Asks}
use Rattle.after.specs.After.{attempts_fed}
use Rattle.machine.specs.Output.{end_wish, last_wish, timer_wish, refresh_wish, query_wish, attempt_wish, retry_wish, gate, wish_by, wish_of, reason_of, query_grant, attempt_grant, grant_of, granted}
use Rattle.machine.specs.Steps.{turn_of, output_step, input_step}
use Rattle.machine.specs.declared.grant.Output.{Output}
use Rattle.machine.specs.declared.grant.Output.TheVariants as output
use Rattle.machine.specs.declared.grant.Turn.{Turn}
use Rattle.machine.specs.declared.wish.Wish.{Wish}
use Rattle.machine.specs.declared.wish.Wish.TheVariants as wish
use Rattle.standing.specs.Kept.{Event, call, feed, after, after_all}
use Rattle.standing.proofs.Lists.{no}
use Rattle.standing.proofs.Taken.{every-input}

abbrev is_succeeded : Output → Bool
is_succeeded output.Waiting = false
is_succeeded (output.Query i k s p) = false
is_succeeded (output.Timer n) = false
is_succeeded (output.Attempt i r e) = false
is_succeeded (output.Cancel i) = false
is_succeeded output.Succeeded = true
is_succeeded (output.Failed r) = false
is_succeeded (output.Full t) = false

abbrev is_end : Wish → Bool
is_end (wish.Cancel p) = false
is_end wish.Succeeded = true
is_end (wish.Retry e) = false
is_end (wish.Attempt e) = false
is_end (wish.Query k p) = false
is_end (wish.Refresh p) = false
is_end (wish.AttemptTimer n) = false
is_end (wish.ResolutionTimer n) = false
is_end (wish.Failed r) = false
is_end wish.Waiting = false

-- It is given only where it is wished

not-given : (b : Bool) (t u : Turn) → is_succeeded t.output ≡ false → is_succeeded u.output ≡ false → is_succeeded (cond b t u).output ≡ false
not-given true t u f g = f
not-given false t u f g = g

given-end : (m : Machine) (w : Wish) (now : ℕ) → is_succeeded (granted m.queries m.attempts m.ids w now).output ≡ is_end w
unfolding granted grant_of attempt_grant query_grant
given-end m (wish.Cancel p) now = refl
given-end m wish.Succeeded now = refl
given-end m (wish.Retry e) now = not-given (nat_le 32 m.attempts.count) _ _ refl refl
given-end m (wish.Attempt e) now = not-given (nat_le 32 m.attempts.count) _ _ refl refl
given-end m (wish.Query k p) now = not-given (nat_le 16 m.queries.count) _ _ refl refl
given-end m (wish.Refresh p) now = refl
given-end m (wish.AttemptTimer n) now = refl
given-end m (wish.ResolutionTimer n) now = refl
given-end m (wish.Failed r) now = refl
given-end m wish.Waiting now = refl

-- It is wished only where an attempt has won and none is in progress

either : (b : Bool) (v w : Wish) → is_end v ≡ false → is_end w ≡ false → is_end (cond b v w) ≡ false
either true v w f g = f
either false v w f g = g

no-timer : (n r : ℕ) (rest : Wish) → is_end rest ≡ false → is_end (timer_wish n r rest) ≡ false
unfolding timer_wish
no-timer n r rest f = either (nat_lt 0 n) (wish.AttemptTimer n) _ refl (either (nat_lt 0 r) (wish.ResolutionTimer r) rest refl f)

no_last : (tries : Tries) (asks : Asks) (count : ℕ) → is_end (last_wish tries asks count) ≡ false
unfolding last_wish
no_last tries asks count = either (asks.pending || (asks.flying || nat_lt 0 tries.active)) wish.Waiting (wish.Failed (reason_of count)) refl refl

-- an attempt has won, and none is in progress
pub record Over (a : Attempts) : Type 0 where
  pub won : (tries_of a).won ≡ true
  pub closed : (tries_of a).first ≡ None

over_by : (won : Bool) (first : Option ℕ) (retry new : Next) (w : Wanted) (due : Option ℕ) (rest : Wish) → is_end rest ≡ false
    → is_end (cond won (end_wish first) (retry_wish retry (attempt_wish new (query_wish w (refresh_wish due rest))))) ≡ true → (won ≡ true) × (first ≡ None)
over_by true (Some p) retry new w due rest f e = absurd (no e)
over_by true None retry new w due rest f e = (refl, refl)
over_by false first (Some x) new w due rest f e = absurd (no e)
over_by false first None (Some x) w due rest f e = absurd (no e)
over_by false first None None (Some (k, p)) due rest f e = absurd (no e)
over_by false first None None None (Some p) rest f e = absurd (no e)
over_by false first None None None None rest f e = absurd (no (sym f ∙ e))

wished-over : (m : Machine) (now : ℕ) → is_end (wish_of m now) ≡ true → Over m.attempts
unfolding wish_of wish_by
wished-over m now e =
    let alike = same_endpoint m.names m.echs in
    let tries = tries_of m.attempts in
    let asks = asks_of m.queries in
    let f = over_by tries.won tries.first (next_retry alike m.attempts m.retries)
    (cond (gate m.rules m.timing tries asks (hints_of m.services) now) (next_endpoint alike m.rules m.alts m.queries m.answers m.services m.attempts (same_at m.names)) None)
    (next_query m.rules m.alts m.queries m.services (same_at m.names)) asks.due
    (timer_wish (attempt_left m.timing tries now) (resolution_left m.timing asks now) (last_wish tries asks m.attempts.count))
    (no-timer (attempt_left m.timing tries now) (resolution_left m.timing asks now) (last_wish tries asks m.attempts.count) (no_last tries asks m.attempts.count))
    e in
    record { won = f.0; closed = f.1 }

over-wish : (m : Machine) (now : ℕ) → Over m.attempts → wish_of m now ≡ wish.Succeeded
unfolding wish_of wish_by
over-wish m now o = rw (o.won, o.closed)

pub over-given : (m : Machine) (now : ℕ) → Over m.attempts → (output_step m now).output ≡ output.Succeeded
unfolding output_step turn_of granted grant_of
over-given m now o = rw (over-wish m now o)

pub given-over : (m : Machine) (now : ℕ) → (output_step m now).output ≡ output.Succeeded → Over m.attempts
unfolding output_step turn_of
given-over m now e = wished-over m now (sym (given-end m (wish_of m now) now) ∙ ap is_succeeded e)

-- Nothing that happens then touches an attempt

called_same : (m : Machine) (now : ℕ) → Over m.attempts → (output_step m now).machine.attempts ≡ m.attempts
unfolding output_step turn_of granted grant_of
called_same m now o = rw (over-wish m now o)

stored_same : (a : Attempts) (p : ℕ) (x : Query) (failed : Bool) (round : Round) (k : Kind) → attempts_fed a (stored_at p x failed round k) ≡ a
stored_same a p x true round Https = refl
stored_same a p x false round Https = refl
stored_same a p x failed round Aaaa = refl
stored_same a p x failed round A = refl

-- where the first that passes is nowhere, none passes
nowhere : (t : Bool) (i : ℕ) (p : Option ℕ) → cond t (Some i) p ≡ None → (t ≡ false) × (p ≡ None)
nowhere true i p e = absurd (let z : ◌≡◌ {A = ℕ} 0 1 = cc in omega arith)
nowhere false i p e = (refl, e)

none_passes : {B : Type 0} (test : B → Bool) (i : ℕ) (l : List B) (p : ℕ) (d : B) → first_place test i l ≡ None → p < length l
    → test (get_or l p d) ≡ true → ⊥
unfolding first_place
none_passes test i [] p d e b f = omega arith
none_passes test i (x ∷ l) zero d e b f = no (sym (nowhere (test x) i (first_place test (i + 1) l) e).0 ∙ f)
none_passes test i (x ∷ l) (suc p) d e b f = none_passes test (i + 1) l p d (nowhere (test x) i (first_place test (i + 1) l) e).1 (omega arith) f

module _ (m : Machine) (o : Over m.attempts) where
  abbrev a : Attempts
  a = m.attempts

  not-open : (p : ℕ) → p < attempts_in a → (attempt_at a p).state ≡ state.InProgress → ⊥
  unfolding tries_of
  not-open p c e =
      none_passes is_open_attempt 0 (tried a) p no_attempt o.closed (rw length-take c) (ap is_open_attempt (get_or-take a.count a.list p no_attempt (omega (arith, c))) ∙ ap is_open e)

  answer-same : (k : Kind) (id : ℕ) (stale : Bool) (t : Answer) (c : InputChange) → Answered m.queries k id stale t c → attempts_fed a c ≡ a
  answer-same k id stale t c f = rw f.kept (stored_same a f.place (with_answer (record_at m.queries f.place) t stale (refresh_after f.round)) (is_failed t) f.round (record_at m.queries f.place).kind)

  result-same : (id : ℕ) (x : Outcome) (c : InputChange) → Ended m.rules.ech a m.retries.count id x c → attempts_fed a c ≡ a
  result-same id x c f = by (attempt_at a f.place).state refl f.ends
    where
      by : (t : State) → (attempt_at a f.place).state ≡ t → Ends m.rules.ech m.retries.count f.place (attempt_at a f.place) x c t
          → attempts_fed a c ≡ a
      by state.InProgress e g = absurd (not-open f.place f.within e)
      by state.Succeeded e g = absurd g
      by state.Failed e g = absurd g
      by state.Cancelled e g = rw g

event-same : (m : Machine) (e : Event) → Over m.attempts → (after m e).attempts ≡ m.attempts
unfolding input_step
event-same m (call now) o = called_same m now o
event-same m (feed now i b) o =
    every-input m now b (λ t. Unit {0}) (λ c. attempts_fed m.attempts c ≡ m.attempts) refl (λ k id stale t e f. answer-same m o k id stale t) (λ id x f. result-same m o id x) i tt

over-after : (m : Machine) (es : List Event) → Over m.attempts → Over (after_all m es).attempts
unfolding after_all
over-after m [] o = o
over-after m (e ∷ es) o = over-after (after m e) es (rw (event-same m e o) o)

-- Once Succeeded is given, every later call gives it, at any moment and after any events. No rule is needed for this, standing or of form.
pub succeeded-forever : (m : Machine) (now : ℕ) (es : List Event) (later : ℕ) → (output_step m now).output ≡ output.Succeeded
    → (output_step (after_all m es) later).output ≡ output.Succeeded
succeeded-forever m now es later e = over-given (after_all m es) later (over-after m es (given-over m now e))

-- A tape's events as a history, and demand 3 of what they are answered: the claims of specs/Histories.antt.
use Prim.Native.Nat.{ℕ, zero, suc, ◌+◌, ◌≤◌}
use mathlib.Core.Path.{◌≡◌, refl, sym, ap, ◌∙◌}
use mathlib.Core.Bool.{true, false≢true}
use mathlib.Core.List.{List, [], ◌∷◌, ◌++◌}
use native.Mathlib.Omega.{arith}
use lib.ListN.{length, take}
use Rattle.records.specs.declared.names.Names.{Names}
use Rattle.records.specs.declared.names.Echs.{Echs}
use Rattle.state.specs.declared.Machine.{Machine}
use Rattle.machine.specs.Steps.{output_step, input_step}
use Rattle.machine.specs.declared.grant.Output.{Output}
use Rattle.machine.specs.declared.grant.Output.TheVariants as output
use Rattle.parts.specs.Reading.{Reading, read, fault}
use Rattle.bodies.specs.Told as told
use Rattle.bodies.specs.Told.{Told, read_body}
use Rattle.history.specs.History as history
use Rattle.history.specs.History.{Automaton, one, calls, runs, answers, asks_in, finals_in, at_calls}
use Rattle.history.specs.Claims as claims
use Rattle.history.specs.Claims.{AtMost95, Premise, By288, WaitsForSomething, TriesAll}
use Rattle.history.specs.Race.{Fed, unanswered, Condition, AllTried}
use Rattle.history.specs.Demand.{Demand3}
use Rattle.history.proofs.Ending.{demand-3}
use Rattle.answers.specs.Answers.{Said, waiting}
use Rattle.answers.specs.Outputs.{said_of}
use Rattle.replay.specs.Replay.{step_by, step_of}
use Rattle.tapes.specs.Events.{Given, Event}
use Rattle.tapes.specs.Answered.{after, said_to, made_of, asks, asks_among}
use Rattle.tapes.specs.Histories.{race_of, event_then, history_of, words_of, call_then, to_calls, is_final, finals_among, is_rest, Historic, Demanded}

-- an output in words is an ask, final, or a rest, as it is itself
module _ (names : Names) (echs : Echs) where
  said-asks : (o : Output) → asks (said_of names echs o) ≡ history.is_ask o
  unfolding said_of
  said-asks output.Waiting = refl
  said-asks (output.Query i k s p) = refl
  said-asks (output.Timer d) = refl
  said-asks (output.Attempt i r e) = refl
  said-asks (output.Cancel i) = refl
  said-asks output.Succeeded = refl
  said-asks (output.Failed r) = refl
  said-asks (output.Full t) = refl

  said-final : (o : Output) → is_final (said_of names echs o) ≡ history.is_final o
  unfolding said_of
  said-final output.Waiting = refl
  said-final (output.Query i k s p) = refl
  said-final (output.Timer d) = refl
  said-final (output.Attempt i r e) = refl
  said-final (output.Cancel i) = refl
  said-final output.Succeeded = refl
  said-final (output.Failed r) = refl
  said-final (output.Full t) = refl

  said-rest : (o : Output) → is_rest (said_of names echs o) ≡ claims.is_rest o
  unfolding said_of
  said-rest output.Waiting = refl
  said-rest (output.Query i k s p) = refl
  said-rest (output.Timer d) = refl
  said-rest (output.Attempt i r e) = refl
  said-rest (output.Cancel i) = refl
  said-rest output.Succeeded = refl
  said-rest (output.Failed r) = refl
  said-rest (output.Full t) = refl

  said-call : (o : Output) (l : List Said) → call_then (said_of names echs o) l ≡ said_of names echs o ∷ l
  unfolding said_of
  said-call output.Waiting l = refl
  said-call (output.Query i k s p) l = refl
  said-call (output.Timer d) l = refl
  said-call (output.Attempt i r e) l = refl
  said-call (output.Cancel i) l = refl
  said-call output.Succeeded l = refl
  said-call (output.Failed r) l = refl
  said-call (output.Full t) l = refl

  said-waiting : (o : Output) → said_of names echs o ≡ waiting → o ≡ output.Waiting
  unfolding said_of
  said-waiting output.Waiting e = refl
  said-waiting (output.Query i k s p) e = absurd (false≢true (ap is_final e))
  said-waiting (output.Timer d) e = absurd (false≢true (ap is_final e))
  said-waiting (output.Attempt i r x) e = absurd (false≢true (ap is_final e))
  said-waiting (output.Cancel i) e = absurd (false≢true (ap is_final e))
  said-waiting output.Succeeded e = absurd (false≢true (ap is_rest e))
  said-waiting (output.Failed r) e = absurd (let z : ◌≡◌ {A = ℕ} 0 1 = cc in omega arith)
  said-waiting (output.Full t) e = absurd (false≢true (ap is_rest e))

module _ (g : Given) where
  abbrev M : Automaton
  M = race_of g

  -- the machine
  runs_by : (m : Machine) (now : ℕ) (r : Reading Told) (l : List Event) → ((x : Machine) → after x l ≡ runs M x (history_of l))
      → after (step_by m now r).machine l ≡ runs M m (event_then now r (history_of l))
  unfolding runs
  runs_by m now (read told.call end) l h = h (output_step m now).machine
  runs_by m now (read (told.fed i b) end) l h = h (input_step m now i b).machine
  runs_by m now (fault n p) l h = h m

  pub after-runs : (l : List Event) (m : Machine) → after m l ≡ runs M m (history_of l)
  unfolding after runs history_of step_of
  after-runs [] m = refl
  after-runs (e ∷ l) m = runs_by m e.moment (read_body e.body) l (λ x. after-runs l x)

  -- its words
  words-by : (m : Machine) (now : ℕ) (r : Reading Told) (l : List Event) → ((x : Machine) → to_calls (said_to x l) ≡ words_of x (history_of l))
      → call_then (step_by m now r).said (to_calls (said_to (step_by m now r).machine l)) ≡ words_of m (event_then now r (history_of l))
  unfolding words_of
  words-by m now (read told.call end) l h =
      said-call m.names m.echs (output_step m now).output (to_calls (said_to (output_step m now).machine l))
      ∙ ap (λ (w : List Said). said_of m.names m.echs (output_step m now).output ∷ w) (h (output_step m now).machine)
  words-by m now (read (told.fed i b) end) l h = h (input_step m now i b).machine
  words-by m now (fault n p) l h = h m

  pub words : (l : List Event) (m : Machine) → to_calls (said_to m l) ≡ words_of m (history_of l)
  unfolding said_to to_calls words_of history_of step_of
  words [] m = refl
  words (e ∷ l) m = words-by m e.moment (read_body e.body) l (λ x. words l x)

  -- what they ask
  asks-by : (m : Machine) (now : ℕ) (r : Reading Told) (l : List Event) → ((x : Machine) → asks_among (said_to x l) ≡ asks_in (answers M x (history_of l)))
      → one (asks (step_by m now r).said) + asks_among (said_to (step_by m now r).machine l) ≡ asks_in (answers M m (event_then now r (history_of l)))
  unfolding answers asks_in
  asks-by m now (read told.call end) l h = rw (said-asks m.names m.echs (output_step m now).output, h (output_step m now).machine)
  asks-by m now (read (told.fed i b) end) l h = omega (arith, h (input_step m now i b).machine)
  asks-by m now (fault n p) l h = omega (arith, h m)

  asks-among : (l : List Event) (m : Machine) → asks_among (said_to m l) ≡ asks_in (answers M m (history_of l))
  unfolding said_to asks_among answers asks_in history_of step_of
  asks-among [] m = refl
  asks-among (e ∷ l) m = asks-by m e.moment (read_body e.body) l (λ x. asks-among l x)

  pub historic : (l : List Event) → Historic g l
  historic l = record { machine = after-runs l (made_of g); words = words l (made_of g); asks = asks-among l (made_of g) }

  -- final ones among the first
  finals : (n : ℕ) (h : List (history.Event Fed)) (m : Machine) → finals_among (take n (words_of m h)) ≡ finals_in (take n (answers M m h))
  unfolding words_of answers finals_among finals_in
  finals zero h m = refl
  finals (suc n) [] m = refl
  finals (suc n) (history.input t i ∷ h) m = finals (suc n) h (input_step m t i.input i.beside).machine
  finals (suc n) (history.call t ∷ h) m = rw (said-final m.names m.echs (output_step m t).output, finals n h (output_step m t).machine)

  -- one call more
  module _ (P : Machine → ℕ → Output → Type 0) where
    at-end : (h k : List (history.Event Fed)) (m : Machine) → at_calls M P m (h ++ k) → at_calls M P (runs M m h) k
    unfolding at_calls runs
    at-end [] k m a = a
    at-end (history.input t i ∷ h) k m a = at-end h k (input_step m t i.input i.beside).machine a
    at-end (history.call t ∷ h) k m a = at-end h k (output_step m t).machine a.1

    at_call : ((h : List (history.Event Fed)) → at_calls M P M.made h) → (l : List Event) (t : ℕ) → P (after (made_of g) l) t (output_step (after (made_of g) l) t).output
    unfolding at_calls
    at_call a l t = rw (after-runs l (made_of g)) (at-end (history_of l) (history.call t ∷ []) M.made (a (history_of l ++ (history.call t ∷ [])))).0

  waits-by : (m : Machine) (now : ℕ) (r : Reading Told) → ((output_step m now).output ≡ output.Waiting → unanswered m ≡ true) → (step_by m now r).said ≡ waiting → unanswered m ≡ true
  waits-by m now (read told.call end) h e = h (said-waiting m.names m.echs (output_step m now).output e)
  waits-by m now (read (told.fed i b) end) h e = absurd (false≢true (ap is_final e))
  waits-by m now (fault n p) h e = absurd (false≢true (ap is_final e))

  tries-by : (m : Machine) (now : ℕ) (r : Reading Told) → (claims.is_rest (output_step m now).output ≡ true → Condition m → AllTried m) → is_rest (step_by m now r).said ≡ true → Condition m → AllTried m
  tries-by m now (read told.call end) h e = h (sym (said-rest m.names m.echs (output_step m now).output) ∙ e)
  tries-by m now (read (told.fed i b) end) h e = absurd (false≢true e)
  tries-by m now (fault n p) h e = absurd (false≢true e)

  abbrev demand : Demand3 g.rules g.timing g.alts g.names
  demand = demand-3 g.rules g.timing g.alts g.names

  pub most-asks : (l : List Event) → asks_among (said_to (made_of g) l) ≤ 95
  unfolding AtMost95
  most-asks l = rw (asks-among l (made_of g)) (demand.asks (history_of l))

  ends : (l more : List Event) (us : List ℕ) → history_of more ≡ calls us → Premise M (history_of l) us → 288 ≤ length us → 1 ≤ finals_among (take 288 (to_calls (said_to (after (made_of g) l) more)))
  unfolding By288
  ends l more us e p k =
      rw (words more (after (made_of g) l), finals 288 (history_of more) (after (made_of g) l), e, after-runs l (made_of g)) (demand.ends (history_of l) us p k)

  waits : (l : List Event) (e : Event) → (step_of (after (made_of g) l) e.moment e.body).said ≡ waiting → unanswered (after (made_of g) l) ≡ true
  unfolding step_of WaitsForSomething
  waits l e z =
      waits-by (after (made_of g) l) e.moment (read_body e.body) (at_call (λ s t a. a ≡ output.Waiting → unanswered s ≡ true) demand.waits l e.moment) z

  tries : (l : List Event) (e : Event) → is_rest (step_of (after (made_of g) l) e.moment e.body).said ≡ true → Condition (after (made_of g) l) → AllTried (after (made_of g) l)
  unfolding step_of TriesAll
  tries l e z =
      tries-by (after (made_of g) l) e.moment (read_body e.body) (at_call (λ s t a. claims.is_rest a ≡ true → Condition s → AllTried s) demand.tries l e.moment) z

  pub demanded : Demanded g
  demanded = record { asks = most-asks; ends = ends; waits = waits; tries = tries }

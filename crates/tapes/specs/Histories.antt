-- A tape's events as a history of its machine (history/History), and what demand 3 says of the answers that its calls get.
use Rattle.std.specs.Prelude.{ℕ, ◌+◌, ◌≤◌, ◌≡◌, Bool, true, false, List, [], ◌∷◌, length, take}
use Rattle.state.specs.declared.Machine.{Machine}
use Rattle.machine.specs.Steps.{output_step, input_step}
use Rattle.parts.specs.Reading.{Reading, read, fault}
use Rattle.bodies.specs.Told as told
use Rattle.bodies.specs.Told.{Told, read_body}
use Rattle.history.specs.History as history
use Rattle.history.specs.History.{Automaton, one, calls, runs, asks_in}
use Rattle.history.specs.Claims.{Premise}
use Rattle.history.specs.Race.{Fed, race, unanswered, Condition, AllTried}
use Rattle.answers.specs.Answers.{Said, waiting, query, timer, attempt, cancel, succeeded, failed, full, input}
use Rattle.answers.specs.Outputs.{said_of}
use Rattle.replay.specs.Replay.{step_of}
use Rattle.tapes.specs.Events.{Given, Event}
use Rattle.tapes.specs.Answered.{after, said_to, made_of, asks_among}

-- the machine of a configuration, as its host sees it
abbrev pub race_of : Given → Automaton
race_of g = race g.rules g.timing g.alts g.names

-- a call or an input at its moment; a body that is refused is none, and changes nothing
abbrev pub event_then : (now : ℕ) → Reading Told → List (history.Event Fed) → List (history.Event Fed)
event_then now (read told.call end) h = history.call now ∷ h
event_then now (read (told.fed i b) end) h = history.input now (record { input = i; beside = b }) ∷ h
event_then now (fault n p) h = h

unfoldable pub history_of : List Event → List (history.Event Fed)
history_of [] = []
history_of (e ∷ l) = event_then e.moment (read_body e.body) (history_of l)

-- what the calls of a history are answered, with the names and ECH bytes of that moment
unfoldable pub words_of : Machine → List (history.Event Fed) → List Said
words_of m [] = []
words_of m (history.input t i ∷ h) = words_of (input_step m t i.input i.beside).machine h
words_of m (history.call t ∷ h) = said_of m.names m.echs (output_step m t).output ∷ words_of (output_step m t).machine h

-- the answers of a tape that are to calls: all but those to inputs and to bodies that are refused
abbrev pub call_then : Said → List Said → List Said
call_then waiting l = waiting ∷ l
call_then (query id kind stale name) l = query id kind stale name ∷ l
call_then (timer ns) l = timer ns ∷ l
call_then (attempt id retry e) l = attempt id retry e ∷ l
call_then (cancel id) l = cancel id ∷ l
call_then succeeded l = succeeded ∷ l
call_then (failed reason) l = failed reason ∷ l
call_then (full table) l = full table ∷ l
call_then (input n) l = l

unfoldable pub to_calls : List Said → List Said
to_calls [] = []
to_calls (a ∷ l) = call_then a (to_calls l)

-- Succeeded, Failed, Waiting or Full; and how many are
abbrev pub is_final : Said → Bool
is_final waiting = true
is_final (query id kind stale name) = false
is_final (timer ns) = false
is_final (attempt id retry e) = false
is_final (cancel id) = false
is_final succeeded = true
is_final (failed reason) = true
is_final (full table) = true
is_final (input n) = false

unfoldable pub finals_among : List Said → ℕ
finals_among [] = 0
finals_among (a ∷ l) = one (is_final a) + finals_among l

-- Waiting or Failed
abbrev pub is_rest : Said → Bool
is_rest waiting = true
is_rest (query id kind stale name) = false
is_rest (timer ns) = false
is_rest (attempt id retry e) = false
is_rest (cancel id) = false
is_rest succeeded = false
is_rest (failed reason) = true
is_rest (full table) = false
is_rest (input n) = false

-- Events in any number, from the making on: the machine after them is that of their history, and its calls are answered as the history's
pub record Historic (g : Given) (l : List Event) : Type 0 where
  pub machine : after (made_of g) l ≡ runs (race_of g) (race_of g).made (history_of l)
  pub words : to_calls (said_to (made_of g) l) ≡ words_of (made_of g) (history_of l)
  pub asks : asks_among (said_to (made_of g) l) ≡ asks_in (history.answers (race_of g) (race_of g).made (history_of l))

-- So demand 3 holds of what they are answered
pub record Demanded (g : Given) : Type 0 where
  -- 1. at most 95 answers ask for something
  pub asks : (l : List Event) → asks_among (said_to (made_of g) l) ≤ 95
  -- 2. after the events l come calls alone, as each timer ends: one of the first 288 answers is final
  pub ends : (l more : List Event) (us : List ℕ) → history_of more ≡ calls us → Premise (race_of g) (history_of l) us → 288 ≤ length us
      → 1 ≤ finals_among (take 288 (to_calls (said_to (after (made_of g) l) more)))
  -- 3. Waiting is answered only while a query, a refresh or an attempt has no answer
  pub waits : (l : List Event) (e : Event) → (step_of (after (made_of g) l) e.moment e.body).said ≡ waiting → unanswered (after (made_of g) l) ≡ true
  -- 4. where Waiting or Failed is answered and the condition holds, every listed endpoint has been attempted
  pub tries : (l : List Event) (e : Event) → is_rest (step_of (after (made_of g) l) e.moment e.body).said ≡ true → Condition (after (made_of g) l)
      → AllTried (after (made_of g) l)

-- What the events of a tape are answered, one after the other, and the machine after them: the machine's own two steps, as in a replay.
use Rattle.std.specs.Prelude.{ℕ, ◌+◌, Bool, true, false, List, [], ◌∷◌, ◌++◌}
use Rattle.state.specs.State.{made}
use Rattle.state.specs.declared.Machine.{Machine}
use Rattle.answers.specs.Answers.{Said, waiting, query, timer, attempt, cancel, succeeded, failed, full, input, answer_bytes}
use Rattle.history.specs.History.{one}
use Rattle.replay.specs.Replay.{step_of}
use Rattle.tapes.specs.Events.{either, Given, given_of, Event}

-- the machine after events
unfoldable pub after : Machine → List Event → Machine
after m [] = m
after m (e ∷ l) = after (step_of m e.moment e.body).machine l

-- their answers, in order
unfoldable pub said_to : Machine → List Event → List Said
said_to m [] = []
said_to m (e ∷ l) = (step_of m e.moment e.body).said ∷ said_to (step_of m e.moment e.body).machine l

-- answers in bytes, one after the other
unfoldable pub in_bytes : List Said → List ℕ
in_bytes [] = []
in_bytes (a ∷ l) = answer_bytes a ++ in_bytes l

-- the machine that a configuration makes
abbrev pub made_of : Given → Machine
made_of g = made g.rules g.timing g.alts g.names

-- what a tape's machine answers to events; a configuration that is refused makes none
unfoldable pub answers_to : (tape : List ℕ) → List Event → List Said
answers_to tape l = either (given_of tape) (λ n. []) (λ g first. said_to (made_of g) l)

-- an answer that asks the host for something: a query (a refresh too), an attempt or a cancel; and how many do
abbrev pub asks : Said → Bool
asks waiting = false
asks (query id kind stale name) = true
asks (timer ns) = false
asks (attempt id retry e) = true
asks (cancel id) = true
asks succeeded = false
asks (failed reason) = false
asks (full table) = false
asks (input n) = false

unfoldable pub asks_among : List Said → ℕ
asks_among [] = 0
asks_among (a ∷ l) = one (asks a) + asks_among l

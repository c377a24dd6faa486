-- Demand 3 of any machine, claim by claim. `runs M M.made before` is the state after the events `before`: up to the last input, or none.
use Rattle.std.specs.Prelude.{ℕ, ◌+◌, ◌*◌, ◌≤◌, ◌≡◌, Bool, true, false, List, [], ◌∷◌, ◌++◌, length, take}
use Rattle.records.specs.declared.endpoints.Endpoint.{Endpoint}
use Rattle.machine.specs.declared.grant.Output.{Output}
use Rattle.machine.specs.declared.grant.Output.TheVariants as output
use Rattle.history.specs.History.{Automaton, Event, calls, calls_of, runs, answers, asks_in, finals_in, inputs_in, rising, Exactly, NoEarlier, Awaits, keeps, at_calls, unheeded, heeded_in, punctual, on_clock}

-- 1. Over any history, and any clock, it asks for at most 95 queries, attempts and cancels together
unfoldable pub AtMost95 : Automaton → Type 0
AtMost95 M = (h : List (Event M.Input)) → asks_in (answers M M.made h) ≤ 95

-- 2. The clock never goes back over the whole history, there is no more input, and after a timer the host's next call is at its end, which
-- is on the clock: then one of the first 288 answers is final

-- the premise: after the events before, the host calls at the readings us
pub record Premise (M : Automaton) (before : List (Event M.Input)) (us : List ℕ) : Type 0 where
  pub never_back : rising (before ++ calls us)
  pub at_each_end : keeps Exactly M (runs M M.made before) (calls us)

unfoldable pub By288 : Automaton → Type 0
By288 M = (before : List (Event M.Input)) (us : List ℕ)
    → Premise M before us
    → 288 ≤ length us
    → 1 ≤ finals_in (take 288 (answers M (runs M M.made before) (calls us)))

-- The premise can be met: a punctual host does, from any reading on that isn't before the last, as long as the ends are on the clock
unfoldable pub HostThere : Automaton → Type 0
HostThere M = (before : List (Event M.Input)) (t n : ℕ)
    → rising (before ++ calls (t ∷ []))
    → on_clock M (runs M M.made before) t n
    → Premise M before (punctual M (runs M M.made before) t n) × (length (punctual M (runs M M.made before) t n) ≡ n)

-- 3. Waiting is said only while something is unanswered
unfoldable pub WaitsForSomething : (M : Automaton) → (M.State → Bool) → Type 0
WaitsForSomething M unanswered = (h : List (Event M.Input)) → at_calls M (λ s t a. a ≡ output.Waiting → unanswered s ≡ true) M.made h

-- 4. Where Waiting or Failed is said and the condition holds, every listed endpoint has been attempted
abbrev pub is_rest : Output → Bool
is_rest output.Waiting = true
is_rest (output.Query i k s p) = false
is_rest (output.Timer d) = false
is_rest (output.Attempt i r e) = false
is_rest (output.Cancel i) = false
is_rest output.Succeeded = false
is_rest (output.Failed r) = true
is_rest (output.Full x) = false

unfoldable pub TriesAll : (M : Automaton) → (Condition AllTried : M.State → Type 0) → Type 0
TriesAll M Condition AllTried = (h : List (Event M.Input)) → at_calls M (λ s t a. is_rest a ≡ true → Condition s → AllTried s) M.made h

-- Stronger

-- An input that leaves the machine as it is, as a refused one does, need not stop: the host's rule is read over the calls alone
unfoldable pub By288Heeded : Automaton → Type 0
By288Heeded M = (before h : List (Event M.Input))
    → rising (before ++ h)
    → unheeded M (runs M M.made before) h
    → keeps Exactly M (runs M M.made before) (calls (calls_of h))
    → 288 ≤ length (calls_of h)
    → 1 ≤ finals_in (take 288 (answers M (runs M M.made before) h))

-- For a host that calls no earlier than each timer's end, and goes on as long as it likes, all but 287 of the answers are final, and three
-- fewer for each thing that was asked before
unfoldable pub AllBut287 : Automaton → Type 0
AllBut287 M = (before : List (Event M.Input)) (us : List ℕ)
    → rising (before ++ calls us)
    → keeps NoEarlier M (runs M M.made before) (calls us)
    → length us + 3 * asks_in (answers M M.made before) ≤ 287 + finals_in (answers M (runs M M.made before) (calls us))

-- Inputs go on: each adds two. It may come before a timer's end, and the call after it is free.
unfoldable pub TwoForEach : Automaton → Type 0
TwoForEach M = (before h : List (Event M.Input))
    → rising (before ++ h)
    → keeps NoEarlier M (runs M M.made before) h
    → length (answers M (runs M M.made before) h) + 3 * asks_in (answers M M.made before)
    ≤ 287 + 2 * inputs_in h + finals_in (answers M (runs M M.made before) h)

-- A simulation, which goes on after a final answer with an input or not at all: at most 288 calls, three for each input more, and three for
-- each thing asked before less
unfoldable pub Fuel : Automaton → Type 0
Fuel M = (before h : List (Event M.Input))
    → rising (before ++ h)
    → keeps Awaits M (runs M M.made before) h
    → length (answers M (runs M M.made before) h) + 3 * asks_in (answers M M.made before) ≤ 288 + 3 * inputs_in h

-- Over any history at most 64 inputs are heeded, and any other leaves the machine as it is. So a simulation in which each is makes at most
-- 480 calls, 288 + 3 * 64.
unfoldable pub Heeds64 : (M : Automaton) → (M.State → ℕ → M.Input → Bool) → Type 0
Heeds64 M heeds = (h : List (Event M.Input)) → heeded_in M heeds M.made h ≤ 64

unfoldable pub LeavesElse : (M : Automaton) → (M.State → ℕ → M.Input → Bool) → Type 0
LeavesElse M heeds = (s : M.State) (t : ℕ) (i : M.Input) → heeds s t i ≡ false → M.feed s t i ≡ s

-- No endpoint is attempted that was attempted before
unfoldable pub AttemptsNew : (M : Automaton) → (M.State → Endpoint → Bool) → Type 0
AttemptsNew M attempted = (h : List (Event M.Input))
    → at_calls M (λ s t a. (i : ℕ) (r : Bool) (e : Endpoint) → a ≡ output.Attempt i r e → attempted s e ≡ false) M.made h

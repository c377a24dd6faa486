-- What a machine is to its host, what a history is, what was answered over it, and what the host did.
use Rattle.std.specs.Prelude.{ℕ, zero, suc, ◌+◌, ◌≤◌, ◌<◌, ◌^◌, ◌≡◌, Bool, true, false, List, [], ◌∷◌}
use Rattle.machine.specs.declared.grant.Output.{Output}
use Rattle.machine.specs.declared.grant.Output.TheVariants as output

-- it asks the host for something: a query (a refresh too), an attempt or a cancel
abbrev pub is_ask : Output → Bool
is_ask output.Waiting = false
is_ask (output.Query i k s p) = true
is_ask (output.Timer n) = false
is_ask (output.Attempt i r e) = true
is_ask (output.Cancel i) = true
is_ask output.Succeeded = false
is_ask (output.Failed r) = false
is_ask (output.Full t) = false

-- it is Succeeded, Failed, Waiting or Full
abbrev pub is_final : Output → Bool
is_final output.Waiting = true
is_final (output.Query i k s p) = false
is_final (output.Timer n) = false
is_final (output.Attempt i r e) = false
is_final (output.Cancel i) = false
is_final output.Succeeded = true
is_final (output.Failed r) = true
is_final (output.Full t) = true

-- A machine as its host sees it: made once, called for output, fed with inputs. One that is refused leaves the state.
pub record Automaton : Type 1 where
  pub State : Type 0
  pub Input : Type 0
  pub made : State
  pub says : State → ℕ → Output
  pub next : State → ℕ → State
  pub feed : State → ℕ → Input → State

-- An event has a reading of the clock, and is an input, accepted or refused, or a call
pub data Event (I : Type 0) : Type 0 where
  input : ℕ → I → Event I
  call : ℕ → Event I

abbrev pub reading : {I : Type 0} → Event I → ℕ
reading (input t i) = t
reading (call t) = t

-- calls alone, at these readings
abbrev pub calls : {I : Type 0} → List ℕ → List (Event I)
calls [] = []
calls (t ∷ l) = call t ∷ calls l

-- the state after a history
unfoldable pub runs : (M : Automaton) → M.State → List (Event M.Input) → M.State
runs M s [] = s
runs M s (input t i ∷ h) = runs M (M.feed s t i) h
runs M s (call t ∷ h) = runs M (M.next s t) h

-- the answers that its calls got, in order
unfoldable pub answers : (M : Automaton) → M.State → List (Event M.Input) → List Output
answers M s [] = []
answers M s (input t i ∷ h) = answers M (M.feed s t i) h
answers M s (call t ∷ h) = M.says s t ∷ answers M (M.next s t) h

abbrev pub one : Bool → ℕ
one true = 1
one false = 0

-- how many of them ask for something, and how many are final
unfoldable pub asks_in : List Output → ℕ
asks_in [] = 0
asks_in (a ∷ l) = one (is_ask a) + asks_in l

unfoldable pub finals_in : List Output → ℕ
finals_in [] = 0
finals_in (a ∷ l) = one (is_final a) + finals_in l

-- how many inputs a history has, and the readings of its calls
unfoldable pub inputs_in : {I : Type 0} → List (Event I) → ℕ
inputs_in [] = 0
inputs_in (input t i ∷ h) = 1 + inputs_in h
inputs_in (call t ∷ h) = inputs_in h

unfoldable pub calls_of : {I : Type 0} → List (Event I) → List ℕ
calls_of [] = []
calls_of (input t i ∷ h) = calls_of h
calls_of (call t ∷ h) = t ∷ calls_of h

-- no reading here precedes t
unfoldable pub from : {I : Type 0} → ℕ → List (Event I) → Type 0
from t [] = Unit
from t (e ∷ h) = (t ≤ reading e) × from t h

-- no reading precedes an earlier one
unfoldable pub rising : {I : Type 0} → List (Event I) → Type 0
rising [] = Unit
rising (e ∷ h) = from (reading e) h × rising h

-- A rule for the host says of an answer at reading t at which readings u the call right after it may come.

-- As each timer ends, that end being on the clock. After any other answer the host calls when it likes.
abbrev pub Exactly : Output → ℕ → ℕ → Type 0
Exactly output.Waiting t u = Unit
Exactly (output.Query i k s p) t u = Unit
Exactly (output.Timer d) t u = (u ≡ t + d) × (t + d < 2 ^ 64)
Exactly (output.Attempt i r e) t u = Unit
Exactly (output.Cancel i) t u = Unit
Exactly output.Succeeded t u = Unit
Exactly (output.Failed r) t u = Unit
Exactly (output.Full x) t u = Unit

-- weaker: not before the timer's end
abbrev pub NoEarlier : Output → ℕ → ℕ → Type 0
NoEarlier output.Waiting t u = Unit
NoEarlier (output.Query i k s p) t u = Unit
NoEarlier (output.Timer d) t u = t + d ≤ u
NoEarlier (output.Attempt i r e) t u = Unit
NoEarlier (output.Cancel i) t u = Unit
NoEarlier output.Succeeded t u = Unit
NoEarlier (output.Failed r) t u = Unit
NoEarlier (output.Full x) t u = Unit

-- for a simulation: not before the timer's end, and after a final answer not at all; an input comes first
abbrev pub Awaits : Output → ℕ → ℕ → Type 0
Awaits output.Waiting t u = ⊥
Awaits (output.Query i k s p) t u = Unit
Awaits (output.Timer d) t u = t + d ≤ u
Awaits (output.Attempt i r e) t u = Unit
Awaits (output.Cancel i) t u = Unit
Awaits output.Succeeded t u = ⊥
Awaits (output.Failed r) t u = ⊥
Awaits (output.Full x) t u = ⊥

-- what follows first, if it is a call, is at a reading that P allows
abbrev pub calls_at : {I : Type 0} → (ℕ → Type 0) → List (Event I) → Type 0
calls_at P [] = Unit
calls_at P (input t i ∷ h) = Unit
calls_at P (call u ∷ h) = P u

-- the host keeps the rule W over a history from the state s on
unfoldable pub keeps : (Output → ℕ → ℕ → Type 0) → (M : Automaton) → M.State → List (Event M.Input) → Type 0
keeps W M s [] = Unit
keeps W M s (input t i ∷ h) = keeps W M (M.feed s t i) h
keeps W M s (call t ∷ h) = calls_at (W (M.says s t) t) h × keeps W M (M.next s t) h

-- P holds of the state, the reading and the answer at each call of a history
unfoldable pub at_calls : (M : Automaton) → (M.State → ℕ → Output → Type 0) → M.State → List (Event M.Input) → Type 0
at_calls M P s [] = Unit
at_calls M P s (input t i ∷ h) = at_calls M P (M.feed s t i) h
at_calls M P s (call t ∷ h) = P s t (M.says s t) × at_calls M P (M.next s t) h

-- every input leaves the machine as it is: a refused one does, and a result for a cancelled attempt
unfoldable pub unheeded : (M : Automaton) → M.State → List (Event M.Input) → Type 0
unheeded M s [] = Unit
unheeded M s (input t i ∷ h) = (M.feed s t i ≡ s) × unheeded M s h
unheeded M s (call t ∷ h) = unheeded M (M.next s t) h

-- how many inputs pass a test
unfoldable pub heeded_in : (M : Automaton) → (M.State → ℕ → M.Input → Bool) → M.State → List (Event M.Input) → ℕ
heeded_in M test s [] = 0
heeded_in M test s (input t i ∷ h) = one (test s t i) + heeded_in M test (M.feed s t i) h
heeded_in M test s (call t ∷ h) = heeded_in M test (M.next s t) h

-- when the punctual host calls again: at a timer's end, and else at once
abbrev pub after : Output → ℕ → ℕ
after output.Waiting t = t
after (output.Query i k s p) t = t
after (output.Timer d) t = t + d
after (output.Attempt i r e) t = t
after (output.Cancel i) t = t
after output.Succeeded t = t
after (output.Failed r) t = t
after (output.Full x) t = t

-- the readings of its next n calls, the first at t
unfoldable pub punctual : (M : Automaton) → M.State → ℕ → ℕ → List ℕ
punctual M s t zero = []
punctual M s t (suc n) = t ∷ punctual M (M.next s t) (after (M.says s t) t) n

-- all the ends that it waits for are on the clock
unfoldable pub on_clock : (M : Automaton) → M.State → ℕ → ℕ → Type 0
on_clock M s t zero = Unit
on_clock M s t (suc n) = (after (M.says s t) t < 2 ^ 64) × on_clock M (M.next s t) (after (M.says s t) t) n

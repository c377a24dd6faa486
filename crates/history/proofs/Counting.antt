-- Counts over lists of answers and over histories.
use mathlib.Core.Path.{◌≡◌, refl, ap}
use mathlib.Core.Bool.{Bool, true, false}
use mathlib.Core.List.{List, [], ◌∷◌, ◌++◌}
use Prim.Native.Nat.{ℕ, zero, suc, ◌+◌, ◌≤◌}
use native.Mathlib.Omega.{arith}
use lib.ListN.{length, take}
use Rattle.machine.specs.declared.grant.Output.{Output}
use Rattle.history.specs.History.{Automaton, Event, input, call, one, is_final, finals_in, inputs_in, answers, calls, calls_of, unheeded, from, rising, reading}

-- as many answers as calls
pub answers-calls : (M : Automaton) (s : M.State) (us : List ℕ) → length (answers M s (calls us)) ≡ length us
unfolding answers
answers-calls M s [] = refl
answers-calls M s (t ∷ us) = let h = answers-calls M (M.next s t) us in omega arith

pub inputs-calls : (I : Type 0) (us : List ℕ) → inputs_in {I = I} (calls us) ≡ 0
unfolding inputs_in
inputs-calls I [] = refl
inputs-calls I (t ∷ us) = inputs-calls I us

pub one-le : (b : Bool) → one b ≤ 1
one-le true = omega arith
one-le false = omega arith

-- what isn't final in the first n isn't final in all
pub take-finals : (n : ℕ) (l : List Output) → n ≤ length l → finals_in l + n ≤ finals_in (take n l) + length l
unfolding finals_in
take-finals zero [] h = omega arith
take-finals zero (a ∷ l) h = let i = take-finals zero l (omega arith) in let o = one-le (is_final a) in omega arith
take-finals (suc n) [] h = absurd (omega arith)
take-finals (suc n) (a ∷ l) h = let i = take-finals n l (omega arith) in omega arith

-- inputs that leave the machine change no answer
pub unheeded-answers : (M : Automaton) (s : M.State) (h : List (Event M.Input)) → unheeded M s h → answers M s h ≡ answers M s (calls (calls_of h))
unfolding answers calls_of unheeded
unheeded-answers M s [] q = refl
unheeded-answers M s (input t i ∷ h) q = rw q.0 (unheeded-answers M s h q.1)
unheeded-answers M s (call t ∷ h) q = ap (λ (l : List Output). M.says s t ∷ l) (unheeded-answers M (M.next s t) h q)

-- the readings of the calls alone rise too
from-calls : {I : Type 0} (t : ℕ) (h : List (Event I)) → from t h → from {I = I} t (calls (calls_of h))
unfolding from calls_of
from-calls t [] f = tt
from-calls t (input u i ∷ h) f = from-calls t h f.1
from-calls t (call u ∷ h) f = (f.0, from-calls t h f.1)

rising-calls : {I : Type 0} (h : List (Event I)) → rising h → rising {I = I} (calls (calls_of h))
unfolding rising calls_of
rising-calls [] r = tt
rising-calls (input u i ∷ h) r = rising-calls h r.1
rising-calls (call u ∷ h) r = (from-calls u h r.0, rising-calls h r.1)

from-after : {I : Type 0} (t : ℕ) (a h : List (Event I)) → from t (a ++ h) → from t (a ++ calls (calls_of h))
unfolding from
from-after t [] h f = from-calls t h f
from-after t (e ∷ a) h f = (f.0, from-after t a h f.1)

pub rising-after : {I : Type 0} (a h : List (Event I)) → rising (a ++ h) → rising (a ++ calls (calls_of h))
unfolding rising
rising-after [] h r = rising-calls h r
rising-after (e ∷ a) h r = (from-after (reading e) a h r.0, rising-after a h r.1)

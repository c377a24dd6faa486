-- Demand 3 once over any machine that has the facts: 95 by counting what was asked; 288 by a measure that every answer but a final one
-- lowers; the other claims call by call.
use Prim.Native.Nat.{ℕ, ◌+◌, ◌*◌, ◌-◌, ◌≤◌, ◌<◌}
use mathlib.Core.Path.{◌≡◌, refl, ap}
use mathlib.Core.Bool.{Bool, true, false}
use mathlib.Core.Logic.{◌⊎◌, ⊎_elim}
use mathlib.Core.List.{List, [], ◌∷◌, ◌++◌}
use native.Mathlib.Omega.{arith}
use lib.ListN.{length}
use Rattle.machine.specs.declared.grant.Output.{Output}
use Rattle.machine.specs.declared.grant.Output.TheVariants as output
use Rattle.history.specs.History.{Automaton, is_ask, is_final, Event, input, call, one, runs, answers, asks_in, finals_in, inputs_in, calls, calls_of, from, rising, keeps, calls_at, Exactly, NoEarlier, Awaits, at_calls}
use Rattle.history.specs.Facts.{View, Facts}
use Rattle.history.specs.Claims.{AtMost95, By288, By288Heeded, AllBut287, TwoForEach, Fuel, WaitsForSomething, is_rest, TriesAll, AttemptsNew}
use Rattle.history.proofs.Marks.{ahead, ahead-le, ahead-one, ahead_none, ahead-later}
use Rattle.history.proofs.Counting.{one-le, answers-calls, inputs-calls, take-finals, unheeded-answers, rising-after}

-- no reading precedes 0
pub from_zero : {I : Type 0} (h : List (Event I)) → from 0 h
unfolding from
from_zero [] = tt
from_zero (e ∷ h) = (omega arith, from_zero h)

-- Rules for the host

module _ (W X : Output → ℕ → ℕ → Type 0) (f : (a : Output) (t u : ℕ) → W a t u → X a t u) where
  weaker-at : {I : Type 0} (a : Output) (t : ℕ) (h : List (Event I)) → calls_at (W a t) h → calls_at (X a t) h
  weaker-at a t [] k = tt
  weaker-at a t (input u i ∷ h) k = tt
  weaker-at a t (call u ∷ h) k = f a t u k

  -- a host that keeps a rule keeps a weaker one
  weaker : (M : Automaton) (s : M.State) (h : List (Event M.Input)) → keeps W M s h → keeps X M s h
  unfolding keeps
  weaker M s [] k = tt
  weaker M s (input t i ∷ h) k = weaker M (M.feed s t i) h k
  weaker M s (call t ∷ h) k = (weaker-at (M.says s t) t h k.0, weaker M (M.next s t) h k.1)

exactly-no-earlier : (a : Output) (t u : ℕ) → Exactly a t u → NoEarlier a t u
exactly-no-earlier output.Waiting t u k = tt
exactly-no-earlier (output.Query i l s p) t u k = tt
exactly-no-earlier (output.Timer d) t u k = omega arith
exactly-no-earlier (output.Attempt i r e) t u k = tt
exactly-no-earlier (output.Cancel i) t u k = tt
exactly-no-earlier output.Succeeded t u k = tt
exactly-no-earlier (output.Failed r) t u k = tt
exactly-no-earlier (output.Full x) t u k = tt

awaits-no-earlier : (a : Output) (t u : ℕ) → Awaits a t u → NoEarlier a t u
awaits-no-earlier output.Waiting t u k = tt
awaits-no-earlier (output.Query i l s p) t u k = tt
awaits-no-earlier (output.Timer d) t u k = k
awaits-no-earlier (output.Attempt i r e) t u k = tt
awaits-no-earlier (output.Cancel i) t u k = tt
awaits-no-earlier output.Succeeded t u k = tt
awaits-no-earlier (output.Failed r) t u k = tt
awaits-no-earlier (output.Full x) t u k = tt

awaits-more : (a : Output) (t u : ℕ) → Awaits a t u → is_final a ≡ false
awaits-more output.Waiting t u k = absurd k
awaits-more (output.Query i l s p) t u k = refl
awaits-more (output.Timer d) t u k = refl
awaits-more (output.Attempt i r e) t u k = refl
awaits-more (output.Cancel i) t u k = refl
awaits-more output.Succeeded t u k = absurd k
awaits-more (output.Failed r) t u k = absurd k
awaits-more (output.Full x) t u k = absurd k

-- 1 where a call comes first
begins : {I : Type 0} → List (Event I) → ℕ
begins [] = 0
begins (input t i ∷ h) = 0
begins (call t ∷ h) = 1

begins-le : {I : Type 0} (h : List (Event I)) → begins h ≤ 1
unfolding begins
begins-le [] = omega arith
begins-le (input t i ∷ h) = omega arith
begins-le (call t ∷ h) = omega arith

-- after a final answer no call comes first
begins-not : {I : Type 0} (a : Output) (t : ℕ) (h : List (Event I)) → calls_at (Awaits a t) h → one (is_final a) + begins h ≤ 1
unfolding begins
begins-not a t [] k = let o = one-le (is_final a) in omega arith
begins-not a t (input u i ∷ h) k = let o = one-le (is_final a) in omega arith
begins-not a t (call u ∷ h) k = let o = ap one (awaits-more a t u k) in omega arith

finals-few : (M : Automaton) (s : M.State) (h : List (Event M.Input)) → keeps Awaits M s h → finals_in (answers M s h) ≤ inputs_in h + begins h
unfolding keeps answers finals_in inputs_in begins
finals-few M s [] k = omega arith
finals-few M s (input t i ∷ h) k = let z = finals-few M (M.feed s t i) h k in let o = begins-le h in omega arith
finals-few M s (call t ∷ h) k = let z = finals-few M (M.next s t) h k.1 in let o = begins-not (M.says s t) t h k.0 in omega arith

module _ (M : Automaton) (S : View M) (R : Facts M S) where
  -- the standing rules hold after any history
  pub good-runs : (s : M.State) (h : List (Event M.Input)) → R.Good s → R.Good (runs M s h)
  unfolding runs
  good-runs s [] g = g
  good-runs s (input t i ∷ h) g = good-runs (M.feed s t i) h (R.good_feed s t i g)
  good-runs s (call t ∷ h) g = good-runs (M.next s t) h (R.good_next s t g)

  -- a call counts what it asks
  counted : (s : M.State) (t : ℕ) (b : Bool) → R.Good s → is_ask (M.says s t) ≡ b → R.asks (M.next s t) ≡ one b + R.asks s
  counted s t true g e = let z = R.asked s t g e in omega arith
  counted s t false g e = let z = ap R.asks (R.still s t g e) in omega arith

  pub asks-runs : (s : M.State) (h : List (Event M.Input)) → R.Good s → R.asks (runs M s h) ≡ asks_in (answers M s h) + R.asks s
  unfolding runs answers asks_in
  asks-runs s [] g = omega arith
  asks-runs s (input t i ∷ h) g =
      let z = asks-runs (M.feed s t i) h (R.good_feed s t i g) in
      let f = R.fed s t i g in
      omega arith
  asks-runs s (call t ∷ h) g =
      let z = asks-runs (M.next s t) h (R.good_next s t g) in
      let f = counted s t (is_ask (M.says s t)) g refl in
      omega arith

  pub at-most-95 : AtMost95 M
  unfolding AtMost95
  at-most-95 h =
      let z = asks-runs M.made h R.good_made in
      let b = R.most (runs M M.made h) (good-runs M.made h R.good_made) in
      omega arith

  -- what is left to ask, three calls for each
  rest : M.State → ℕ
  rest s = 3 * (95 - R.asks s)

  -- the measure of a call at t: at most 287
  measure : M.State → ℕ → ℕ
  measure s t = rest s + (ahead t (R.attempt_end s) + ahead t (R.resolution_end s))

  measure-low : (s : M.State) (t : ℕ) → rest s ≤ measure s t
  unfolding measure
  measure-low s t = omega arith

  measure-high : (s : M.State) (t : ℕ) → measure s t ≤ rest s + 2
  unfolding measure
  measure-high s t = let a = ahead-le t (R.attempt_end s) in let r = ahead-le t (R.resolution_end s) in omega arith

  measure-later : (s : M.State) (t u : ℕ) → t ≤ u → measure s u ≤ measure s t
  unfolding measure
  measure-later s t u h = let a = ahead-later t u (R.attempt_end s) h in let r = ahead-later t u (R.resolution_end s) h in omega arith

  -- a timer has its own end ahead, and not any more from its end on
  measure-timer : (s : M.State) (t d u : ℕ) → 0 < d → t + d ≤ u → (t + d ≡ R.attempt_end s) ⊎ (t + d ≡ R.resolution_end s)
      → measure s u + 1 ≤ measure s t
  unfolding measure
  measure-timer s t d u p l e =
      ⊎_elim
      (λ (q : t + d ≡ R.attempt_end s). let a = ahead-one t (R.attempt_end s) (omega arith) in let b = ahead_none u (R.attempt_end s) (omega arith) in let c = ahead-later t u (R.resolution_end s) (omega arith) in omega arith)
      (λ (q : t + d ≡ R.resolution_end s). let a = ahead-one t (R.resolution_end s) (omega arith) in let b = ahead_none u (R.resolution_end s) (omega arith) in let c = ahead-later t u (R.attempt_end s) (omega arith) in omega arith)
      e

  -- the measure of what is still to come
  top : M.State → List (Event M.Input) → ℕ
  top s [] = rest s
  top s (input t i ∷ h) = rest s
  top s (call t ∷ h) = measure s t

  top-high : (s : M.State) (h : List (Event M.Input)) → top s h ≤ rest s + 2
  unfolding top
  top-high s [] = omega arith
  top-high s (input t i ∷ h) = omega arith
  top-high s (call t ∷ h) = measure-high s t

  -- a final answer leaves the measure
  top-final : (s : M.State) (t : ℕ) (h : List (Event M.Input)) → from t h → top s h ≤ measure s t
  unfolding top from
  top-final s t [] f = measure-low s t
  top-final s t (input u i ∷ h) f = measure-low s t
  top-final s t (call u ∷ h) f = measure-later s t u f.0

  -- a timer lowers it, whatever follows
  top-timer : (s : M.State) (t d : ℕ) (h : List (Event M.Input)) → 0 < d → (t + d ≡ R.attempt_end s) ⊎ (t + d ≡ R.resolution_end s)
      → calls_at (NoEarlier (output.Timer d) t) h → top s h + 1 ≤ measure s t
  unfolding top
  top-timer s t d [] p e k = let z = measure-timer s t d (t + d) p (omega arith) e in let l = measure-low s (t + d) in omega arith
  top-timer s t d (input u i ∷ h) p e k = let z = measure-timer s t d (t + d) p (omega arith) e in let l = measure-low s (t + d) in omega arith
  top-timer s t d (call u ∷ h) p e k = measure-timer s t d u p k e

  -- an ask lowers it, whatever follows
  top-ask : (s : M.State) (t : ℕ) (h : List (Event M.Input)) → R.Good s → is_ask (M.says s t) ≡ true → top (M.next s t) h + 1 ≤ measure s t
  unfolding rest
  top-ask s t h g e =
      let a = R.asked s t g e in
      let b = R.most (M.next s t) (R.good_next s t g) in
      let z = top-high (M.next s t) h in
      let l = measure-low s t in
      omega arith

  -- what is said of a history that begins at s: all but so many of its answers are final
  Bound : M.State → List (Event M.Input) → Type 0
  Bound s h = length (answers M s h) ≤ top s h + 2 * inputs_in h + finals_in (answers M s h)

  -- a final answer leaves machine and measure
  final : (s : M.State) (t : ℕ) (h : List (Event M.Input)) → R.Good s → is_ask (M.says s t) ≡ false → from t h → Bound (M.next s t) h
      → length (answers M (M.next s t) h) + 1 ≤ measure s t + 2 * inputs_in h + (1 + finals_in (answers M (M.next s t) h))
  unfolding Bound
  final s t h g e f ih = let y : top (M.next s t) h ≡ top s h = ap (λ (x : M.State). top x h) (R.still s t g e) in let z = top-final s t h f in omega arith

  -- one call more, by its answer
  by_answer : (s : M.State) (t : ℕ) (a : Output) (h : List (Event M.Input)) → R.Good s → R.Past s t → from t h → M.says s t ≡ a
      → calls_at (NoEarlier a t) h → Bound (M.next s t) h
      → length (answers M (M.next s t) h) + 1 ≤ measure s t + 2 * inputs_in h + (one (is_final a) + finals_in (answers M (M.next s t) h))
  unfolding Bound
  by_answer s t (output.Query i c b p) h g past f e k ih = let z = top-ask s t h g (rw e) in omega arith
  by_answer s t (output.Attempt i r x) h g past f e k ih = let z = top-ask s t h g (rw e) in omega arith
  by_answer s t (output.Cancel i) h g past f e k ih = let z = top-ask s t h g (rw e) in omega arith
  by_answer s t (output.Timer d) h g past f e k ih =
      let q = R.still s t g (rw e) in
      let w = R.timed s t d g past e in
      let z = top-timer s t d h w.0 w.1 k in
      let y : top (M.next s t) h ≡ top s h = ap (λ (x : M.State). top x h) q in
      omega arith
  by_answer s t output.Succeeded h g past f e k ih = final s t h g (rw e) f ih
  by_answer s t (output.Failed r) h g past f e k ih = final s t h g (rw e) f ih
  by_answer s t output.Waiting h g past f e k ih = final s t h g (rw e) f ih
  by_answer s t (output.Full r) h g past f e k ih = final s t h g (rw e) f ih

  -- an input adds two at most
  by-input : (s : M.State) (t : ℕ) (i : M.Input) (h : List (Event M.Input)) → R.Good s → top (M.feed s t i) h ≤ rest s + 2
  unfolding rest
  by-input s t i h g = let z = top-high (M.feed s t i) h in let a = R.fed s t i g in omega arith

  bound : (s : M.State) (t : ℕ) (h : List (Event M.Input)) → R.Good s → R.Past s t → from t h → rising h → keeps NoEarlier M s h → Bound s h
  unfolding Bound top answers finals_in inputs_in from rising keeps
  bound s t [] g p f r k = omega arith
  bound s t (input u i ∷ h) g p f r k =
      let q = R.past_feed s u i g (R.past_later s t u f.0 p) in
      let ih = bound (M.feed s u i) u h (R.good_feed s u i g) q r.0 r.1 k in
      let z = by-input s u i h g in
      omega arith
  bound s t (call u ∷ h) g p f r k =
      let q = R.past_later s t u f.0 p in
      let ih = bound (M.next s u) u h (R.good_next s u g) (R.past_next s u g q) r.0 r.1 k.1 in
      let z = by_answer s u (M.says s u) h g q r.0 refl k.0 ih in
      omega arith

  -- after the events before, some reading has come that nothing later precedes, and that no moment held exceeds
  record Since (s : M.State) (h : List (Event M.Input)) : Type 0 where
    at : ℕ
    past : R.Past s at
    later : from at h
    goes_on : rising h

  since : (s : M.State) (t : ℕ) (a b : List (Event M.Input)) → R.Good s → R.Past s t → from t (a ++ b) → rising (a ++ b) → Since (runs M s a) b
  unfolding runs from rising
  since s t [] b g p f r = record { at = t; past = p; later = f; goes_on = r }
  since s t (input u i ∷ a) b g p f r =
      since (M.feed s u i) u a b (R.good_feed s u i g) (R.past_feed s u i g (R.past_later s t u f.0 p)) r.0 r.1
  since s t (call u ∷ a) b g p f r = since (M.next s u) u a b (R.good_next s u g) (R.past_next s u g (R.past_later s t u f.0 p)) r.0 r.1

  -- how much is left after what was asked before
  rest-asked : (before : List (Event M.Input)) → rest (runs M M.made before) + 3 * asks_in (answers M M.made before) ≤ 285
  unfolding rest
  rest-asked before =
      let a = asks-runs M.made before R.good_made in
      let m = R.most (runs M M.made before) (good-runs M.made before R.good_made) in
      omega arith

  pub two-for-each : TwoForEach M
  unfolding TwoForEach Bound
  two-for-each before h r k =
      let s = runs M M.made before in
      let w = since M.made 0 before h R.good_made R.past_made (from_zero (before ++ h)) r in
      let b = bound s w.at h (good-runs M.made before R.good_made) w.past w.later w.goes_on k in
      let z = top-high s h in
      let a = rest-asked before in
      omega arith

  pub fuel : Fuel M
  unfolding Fuel TwoForEach
  fuel before h r k =
      let s = runs M M.made before in
      let b = two-for-each before h r (weaker Awaits NoEarlier awaits-no-earlier M s h k) in
      let f = finals-few M s h k in
      let o = begins-le h in
      omega arith

  pub all-but-287 : AllBut287 M
  unfolding AllBut287 TwoForEach
  all-but-287 before us r k =
      let b = two-for-each before (calls us) r k in
      let n = answers-calls M (runs M M.made before) us in
      let i = inputs-calls M.Input us in
      omega arith

  pub by-288 : By288 M
  unfolding By288 AllBut287
  by-288 before us p l =
      let s = runs M M.made before in
      let b = all-but-287 before us p.never_back (weaker Exactly NoEarlier exactly-no-earlier M s (calls us) p.at_each_end) in
      let n = answers-calls M s us in
      let z = take-finals 288 (answers M s (calls us)) (omega arith) in
      omega arith

  pub by-288-heeded : By288Heeded M
  unfolding By288Heeded By288
  by-288-heeded before h r q k l =
      rw (unheeded-answers M (runs M M.made before) h q)
      (by-288 before (calls_of h) (record { never_back = rising-after before h r; at_each_end = k }) l)

  -- what a state's standing gives at a call holds at each call of any history
  pub at-calls : (P : M.State → ℕ → Output → Type 0) → ((s : M.State) (t : ℕ) → R.Good s → P s t (M.says s t))
      → (s : M.State) (h : List (Event M.Input)) → R.Good s → at_calls M P s h
  unfolding at_calls
  at-calls P l s [] g = tt
  at-calls P l s (input t i ∷ h) g = at-calls P l (M.feed s t i) h (R.good_feed s t i g)
  at-calls P l s (call t ∷ h) g = (l s t g, at-calls P l (M.next s t) h (R.good_next s t g))

  pub waits-for-something : WaitsForSomething M S.unanswered
  unfolding WaitsForSomething
  waits-for-something h = at-calls _ R.waits M.made h R.good_made

  -- over any condition that gives what is promised
  pub tries-when : (C T : M.State → Type 0) → ((s : M.State) (t : ℕ) → R.Good s → is_rest (M.says s t) ≡ true → C s → T s) → TriesAll M C T
  unfolding TriesAll
  tries-when C T l h = at-calls _ l M.made h R.good_made

  pub tries-all : TriesAll M S.Condition S.AllTried
  tries-all = tries-when S.Condition S.AllTried R.tries

  pub attempts-new : AttemptsNew M S.attempted
  unfolding AttemptsNew
  attempts-new h = at-calls _ (λ s t g i r e k. R.fresh s t i r e g k) M.made h R.good_made

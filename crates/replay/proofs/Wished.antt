-- The places that a wish names lie inside their tables, whose sizes no change alters; so what is given may be given for one record and one attempt.
use Rattle.upcoming.specs.Wanted.{Wanted}
use Rattle.std.specs.Prelude.{Option, Some, None}
use Prim.Native.Nat.{ℕ, ◌+◌, ◌≤◌, ◌<◌}
use mathlib.Core.Path.{◌≡◌, ap, ◌∙◌}
use mathlib.Core.Bool.{Bool, true, false, cond, ◌||◌}
use mathlib.Core.List.{List, [], ◌∷◌}
use native.Mathlib.Omega.{arith}
use lib.Dec.{ltb as nat_lt}
use lib.ListN.{length, get_or, set, take, length-set, length-take}
use Rattle.pacing.specs.declared.id.IdGenerator.{IdGenerator}
use Rattle.records.specs.Queries.{no_query, no_queries}
use Rattle.records.specs.declared.names.Names.{Names}
use Rattle.records.specs.declared.rules.Rules.{Rules}
use Rattle.records.specs.declared.rules.Timing.{Timing}
use Rattle.records.specs.declared.rules.Alts.{Alts}
use Rattle.records.specs.declared.queries.Query.{Query}
use Rattle.records.specs.declared.queries.Queries.{Queries}
use Rattle.records.specs.declared.services.Services.{Services}
use Rattle.state.specs.State.{no_attempt, no_attempts, made}
use Rattle.state.specs.declared.Machine.{Machine}
use Rattle.state.specs.declared.attempts.Attempt.{Attempt}
use Rattle.state.specs.declared.attempts.Attempts.{Attempts}
use Rattle.starting.specs.Surveys.{first_place, is_open_attempt, is_due_query, tries_of, asks_of}
use Rattle.starting.specs.Starting.{attempt_left, resolution_left}
use Rattle.starting.specs.declared.surveys.Tries.{Tries}
use Rattle.starting.specs.declared.surveys.Asks.{Asks}
use Rattle.machine.specs.Output.{end_wish, last_wish, timer_wish, refresh_wish, query_wish, next_origin, wish_found, wish_from, wish_query, wish_attempt, grant_of, granted}
use Rattle.machine.specs.Steps.{survey_of}
use Rattle.machine.specs.declared.calls.Survey.{Survey}
use Rattle.machine.specs.declared.grant.Turn.{Turn}
use Rattle.machine.specs.declared.wish.Found.{Found}
use Rattle.machine.specs.declared.wish.Found.TheVariants as found
use Rattle.machine.specs.declared.wish.Wish.{Wish}
use Rattle.machine.specs.declared.wish.Wish.TheVariants as wish
use Rattle.replay.specs.Race.{Sized}

-- The sizes of the two tables

pub made-sized : (r : Rules) (t : Timing) (l : Alts) (n : Names) (m : Machine) → m ≡ made r t l n → Sized m.queries m.attempts
unfolding made no_queries no_attempts
made-sized r t l n m e = (ap (λ x. length x.queries.list) e, ap (λ x. length x.attempts.list) e)

pub query-sized : (q : Queries) (a : Attempts) (p : ℕ) (x : Query) → Sized q a → (length (set q.list p x) ≡ 16) × (length a.list ≡ 32)
query-sized q a p x h = (length-set q.list p x ∙ h.0, h.1)

pub attempt-sized : (q : Queries) (a : Attempts) (p : ℕ) (x : Attempt) → Sized q a → (length q.list ≡ 16) × (length (set a.list p x) ≡ 32)
attempt-sized q a p x h = (h.0, length-set a.list p x ∙ h.1)

-- The places of a wish

abbrev Low : ℕ → Option ℕ → Type 0
Low n (Some p) = p < n
Low n None = Unit {0}

first-low : {A : Type 0} (test : A → Bool) (i n : ℕ) (l : List A) → i + length l ≤ n → Low n (first_place test i l)
unfolding first_place
first-low test i n [] h = tt
first-low test i n (x ∷ l) h = by (test x) (omega arith) (first-low test (i + 1) n l (omega arith))
  where
    by : (b : Bool) → i < n → Low n (first_place test (i + 1) l) → Low n (cond b (Some i) (first_place test (i + 1) l))
    by true k r = k
    by false k r = r

taken-low : {A : Type 0} (test : A → Bool) (k n : ℕ) (l : List A) → length l ≡ n → Low n (first_place test 0 (take k l))
taken-low test k n l h = first-low test 0 n (take k l) (omega (arith, length-take k l, h))

abbrev pub Inside : Wish → Type 0
Inside w = (wish_query w < 16) × (wish_attempt w < 32)

none : (0 < 16) × (0 < 32)
none = (omega arith, omega arith)

either : (b : Bool) (v w : Wish) → Inside v → Inside w → Inside (cond b v w)
either true v w h k = h
either false v w h k = k

end-inside : (p : Option ℕ) → Low 32 p → Inside (end_wish p)
end-inside (Some p) h = (omega arith, h)
end-inside None h = none

found_inside : (f : Found) (rest : Wish) → Inside rest → Inside (wish_found f rest)
found_inside (found.Retry e) rest h = none
found_inside (found.Attempt e) rest h = none
found_inside (found.Query k p) rest h = none
found_inside found.Nothing rest h = h

query-inside : (w : Wanted) (rest : Wish) → Inside rest → Inside (query_wish w rest)
query-inside (Some (k, p)) rest h = none
query-inside None rest h = h

refresh-inside : (p : Option ℕ) (rest : Wish) → Low 16 p → Inside rest → Inside (refresh_wish p rest)
refresh-inside (Some p) rest h k = (h, omega arith)
refresh-inside None rest h k = k

timer-inside : (a r : ℕ) (rest : Wish) → Inside rest → Inside (timer_wish a r rest)
unfolding timer_wish
timer-inside a r rest h = either (nat_lt 0 a) (wish.AttemptTimer a) _ none (either (nat_lt 0 r) (wish.ResolutionTimer r) rest none h)

last-inside : (tries : Tries) (asks : Asks) (n : ℕ) → Inside (last_wish tries asks n)
unfolding last_wish
last-inside tries asks n = either (asks.pending || (asks.flying || nat_lt 0 tries.active)) wish.Waiting _ none none

wish-inside : (r : Rules) (t : Timing) (tries : Tries) (asks : Asks) (f : Found) (n now : ℕ) → Low 32 tries.first → Low 16 asks.due → Inside (wish_from r t tries asks f n now)
unfolding wish_from
wish-inside r t tries asks f n now h k =
    either tries.won (end_wish tries.first) _ (end-inside tries.first h)
    (found_inside f _ (query-inside (next_origin r asks) _ (refresh-inside asks.due _ k (timer-inside (attempt_left t tries now) (resolution_left t asks now) _ (last-inside tries asks n)))))

pub seen-inside : (r : Rules) (t : Timing) (alts : ℕ) (q : Queries) (s : Services) (a : Attempts) (retries now : ℕ) (f : Found) (n : ℕ) {seen : Survey} {w : Wish} → Sized q a → seen ≡ survey_of r t alts q s a retries now → w ≡ wish_from r t seen.tries seen.asks f n now → Inside w
unfolding survey_of tries_of asks_of
seen-inside r t alts q s a retries now f n h e v =
    rw (v, e) (wish-inside r t (tries_of a) (asks_of q) f n now (taken-low is_open_attempt a.count 32 a.list h.1) (taken-low is_due_query q.count 16 q.list h.0))

-- what is given for the record and the attempt at the wish's places
pub granted-at : (q : Queries) (a : Attempts) (ids : IdGenerator) (w : Wish) (now : ℕ) {p k : ℕ} {turn : Turn} → p ≡ wish_query w → k ≡ wish_attempt w → turn ≡ grant_of q.count a.count (get_or q.list p no_query) (get_or a.list k no_attempt) ids w now → turn ≡ granted q a ids w now
unfolding granted
granted-at q a ids w now e f g = rw (e, f) at g

-- The punctual host, which calls at a timer's end and else at once, meets the premise of any machine.
use Prim.Native.Nat.{ℕ, zero, suc, ◌+◌, ◌*◌, ◌≤◌, ◌<◌, ◌^◌}
use mathlib.Core.Path.{◌≡◌, refl, ap}
use mathlib.Core.Bool.{Bool, true, false, false≢true, cond}
use mathlib.Core.List.{List, [], ◌∷◌, ◌++◌}
use native.Mathlib.Nat.{mul-suc}
use native.Mathlib.Omega.{arith}
use lib.Dec.{ltb as nat_lt}
use lib.ListN.{length}
use borrow.Author.Tests.{ltb-true}
use Rattle.machine.specs.declared.grant.Output.{Output}
use Rattle.machine.specs.declared.grant.Output.TheVariants as output
use Rattle.history.specs.History.{Automaton, Event, reading, calls, runs, from, rising, keeps, calls_at, Exactly, after, punctual, on_clock}
use Rattle.history.specs.Claims.{HostThere}

pub many : (M : Automaton) (s : M.State) (t n : ℕ) → length (punctual M s t n) ≡ n
unfolding punctual
many M s t zero = refl
many M s t (suc n) = ap suc (many M (M.next s t) (after (M.says s t) t) n)

after-le : (a : Output) (t : ℕ) → t ≤ after a t
after-le output.Waiting t = omega arith
after-le (output.Query i k s p) t = omega arith
after-le (output.Timer d) t = omega arith
after-le (output.Attempt i r e) t = omega arith
after-le (output.Cancel i) t = omega arith
after-le output.Succeeded t = omega arith
after-le (output.Failed r) t = omega arith
after-le (output.Full x) t = omega arith

-- Its readings rise

from_then : (M : Automaton) (s : M.State) (t u n : ℕ) → u ≤ t → from {I = M.Input} u (calls (punctual M s t n))
unfolding punctual from
from_then M s t u zero l = tt
from_then M s t u (suc n) l = (l, from_then M (M.next s t) (after (M.says s t) t) u n (let a = after-le (M.says s t) t in omega arith))

pub rises : (M : Automaton) (s : M.State) (t n : ℕ) → rising {I = M.Input} (calls (punctual M s t n))
unfolding punctual rising
rises M s t zero = tt
rises M s t (suc n) = (from_then M (M.next s t) (after (M.says s t) t) t n (after-le (M.says s t) t), rises M (M.next s t) (after (M.says s t) t) n)

-- after a history whose last reading isn't later
from_last : (M : Automaton) (s : M.State) (t u n : ℕ) (h : List (Event M.Input)) → from u (h ++ calls (t ∷ []))
    → from u (h ++ calls (punctual M s t n))
unfolding from
from_last M s t u n [] f = from_then M s t u n f.0
from_last M s t u n (e ∷ h) f = (f.0, from_last M s t u n h f.1)

rises-after : (M : Automaton) (s : M.State) (t n : ℕ) (h : List (Event M.Input)) → rising (h ++ calls (t ∷ []))
    → rising (h ++ calls (punctual M s t n))
unfolding rising
rises-after M s t n [] r = rises M s t n
rises-after M s t n (e ∷ h) r = (from_last M s t (reading e) n h r.0, rises-after M s t n h r.1)

-- It calls as each timer ends

at_first : (M : Automaton) (s : M.State) (t n : ℕ) (P : ℕ → Type 0) → P t → calls_at {I = M.Input} P (calls (punctual M s t n))
unfolding punctual
at_first M s t zero P p = tt
at_first M s t (suc n) P p = p

after-exactly : (a : Output) (t : ℕ) → after a t < 2 ^ 64 → Exactly a t (after a t)
after-exactly output.Waiting t l = tt
after-exactly (output.Query i k s p) t l = tt
after-exactly (output.Timer d) t l = (refl, l)
after-exactly (output.Attempt i r e) t l = tt
after-exactly (output.Cancel i) t l = tt
after-exactly output.Succeeded t l = tt
after-exactly (output.Failed r) t l = tt
after-exactly (output.Full x) t l = tt

pub exact : (M : Automaton) (s : M.State) (t n : ℕ) → on_clock M s t n → keeps Exactly M s (calls (punctual M s t n))
unfolding punctual keeps on_clock
exact M s t zero c = tt
exact M s t (suc n) c =
    let a = M.says s t in
    (at_first M (M.next s t) (after a t) n (Exactly a t) (after-exactly a t c.0), exact M (M.next s t) (after a t) n c.1)

pub host-there : (M : Automaton) → HostThere M
unfolding HostThere
host-there M before t n r c =
    let s = runs M M.made before in
    (record { never_back = rises-after M s t n before r; at_each_end = exact M s t n c }, many M s t n)

-- so all ends are on the clock where no timer is longer than b and there is room for n of them
after-by : (b : ℕ) (a : Output) (t : ℕ) → ((d : ℕ) → a ≡ output.Timer d → d ≤ b) → after a t ≤ t + b
after-by b output.Waiting t h = omega arith
after-by b (output.Query i k s p) t h = omega arith
after-by b (output.Timer d) t h = let z = h d refl in omega arith
after-by b (output.Attempt i r e) t h = omega arith
after-by b (output.Cancel i) t h = omega arith
after-by b output.Succeeded t h = omega arith
after-by b (output.Failed r) t h = omega arith
after-by b (output.Full x) t h = omega arith

pub on-clock : (M : Automaton) (b : ℕ) → ((s : M.State) (t d : ℕ) → M.says s t ≡ output.Timer d → d ≤ b)
    → (s : M.State) (t n : ℕ) → t + b * n < 2 ^ 64 → on_clock M s t n
unfolding on_clock
on-clock M b h s t zero l = tt
on-clock M b h s t (suc n) l =
    let z = after-by b (M.says s t) t (h s t) in
    let y = mul-suc b n in
    (omega arith, on-clock M b h (M.next s t) (after (M.says s t) t) n (omega arith))

-- the same by computing, for a history that is written out
unfoldable pub is_on_clock : (M : Automaton) → M.State → ℕ → ℕ → Bool
is_on_clock M s t zero = true
is_on_clock M s t (suc n) = cond (nat_lt (after (M.says s t) t) (2 ^ 64)) (is_on_clock M (M.next s t) (after (M.says s t) t) n) false

pub computed-on-clock : (M : Automaton) (s : M.State) (t n : ℕ) → is_on_clock M s t n ≡ true → on_clock M s t n
unfolding on_clock is_on_clock
computed-on-clock M s t zero e = tt
computed-on-clock M s t (suc n) e =
    let u = after (M.says s t) t in
    both (nat_lt u (2 ^ 64)) (is_on_clock M (M.next s t) u n) (λ a. ltb-true u (2 ^ 64) a) (computed-on-clock M (M.next s t) u n) e
  where
    both : {X Y : Type 0} (a b : Bool) → (a ≡ true → X) → (b ≡ true → Y) → cond a b false ≡ true → X × Y
    both true b x y e = (x refl, y e)
    both false b x y e = absurd (false≢true e)

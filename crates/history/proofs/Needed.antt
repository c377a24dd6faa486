-- 95 and 288 are the least numbers that the facts give, and with a timer of 0 there would be none.
use Prim.Native.Nat.{ℕ, ◌+◌, ◌≤◌}
use mathlib.Core.Path.{◌≡◌, refl}
use mathlib.Core.Bool.{Bool, true, false, false≢true, cond}
use mathlib.Core.Logic.{inl}
use mathlib.Core.List.{List, [], ◌∷◌, ◌++◌}
use native.Mathlib.Omega.{arith}
use lib.Dec.{eqb as nat_eq}
use borrow.Author.Tests.{eqb-true}
use lib.ListN.{length, take}
use Rattle.machine.specs.declared.grant.Output.TheVariants as output
use Rattle.history.specs.History.{Automaton, is_ask, Event, calls, runs, answers, asks_in, finals_in, from, rising, punctual, on_clock}
use Rattle.history.specs.Facts.{FactsFor}
use Rattle.history.specs.Claims.{By288, HostThere, Premise}
use Rattle.history.specs.Slowest.{slowest, does, due, zero_timer, zero_says, zero_view}
use Rattle.history.specs.Needed.{AtMost94, By287}
use Rattle.history.proofs.Hosts.{on-clock, host-there}
use Rattle.history.proofs.Slowest.{short}

-- Numbers

-- the punctual host, from any history
host-there-at : (M : Automaton) (before : List (Event M.Input)) (t n : ℕ) → rising (before ++ calls (t ∷ []))
    → on_clock M (runs M M.made before) t n
    → Premise M before (punctual M (runs M M.made before) t n) × (length (punctual M (runs M M.made before) t n) ≡ n)
unfolding HostThere
host-there-at M = host-there M

asks-95 : asks_in (answers slowest slowest.made (calls (punctual slowest slowest.made 0 287))) ≡ 95
unfolding asks_in answers punctual does due
asks-95 = refl

pub not-94 : AtMost94 slowest → ⊥
unfolding AtMost94
not-94 h = let z = h (calls (punctual slowest slowest.made 0 287)) in let y = asks-95 in omega arith

none-of-287 : finals_in (take 287 (answers slowest slowest.made (calls (punctual slowest slowest.made 0 287)))) ≡ 0
unfolding finals_in answers punctual does due
none-of-287 = refl

pub not-287 : By287 slowest → ⊥
unfolding By287 runs rising from
not-287 h =
    let p = host-there-at slowest [] 0 287 (tt, tt) (on-clock slowest 2 short slowest.made 0 287 (omega arith)) in
    let z = h [] (punctual slowest slowest.made 0 287) p.0 (omega (arith, p.1)) in
    let y = none-of-287 in
    omega arith

-- A timer of 0: a machine that has every other fact

zero-ends : (s : zero_timer.State) (t d : ℕ) → zero_says s t ≡ output.Timer d → t + d ≡ 0
unfolding zero_says
zero-ends s t d e = by (nat_eq t 0) refl e
  where
    by : (b : Bool) → nat_eq t 0 ≡ b → cond b (output.Timer 0) output.Waiting ≡ output.Timer d → t + d ≡ 0
    by true h e = let z : 0 ≡ d = cc in omega (arith, eqb-true t 0 h)
    by false h e = absurd (let z : ◌≡◌ {A = ℕ} 0 1 = cc in omega arith)

zero-asks : (s : zero_timer.State) (t : ℕ) → is_ask (zero_says s t) ≡ true → ⊥
unfolding zero_says
zero-asks s t = by (nat_eq t 0)
  where
    by : (b : Bool) → is_ask (cond b (output.Timer 0) output.Waiting) ≡ true → ⊥
    by true e = false≢true e
    by false e = false≢true e

pub zero-facts : FactsFor (λ d. Unit {0}) zero_timer zero_view
zero-facts =
    record {
      Good = λ s. Unit {0};
      Past = λ s t. Unit {0};
      asks = λ s. 0;
      attempt_end = λ s. 0;
      resolution_end = λ s. 0;
      good_made = tt;
      good_next = λ s t g. tt;
      good_feed = λ s t i g. tt;
      most = λ s g. omega arith;
      asked = λ s t g e. absurd (zero-asks s t e);
      still = λ s t g e. refl;
      fed = λ s t i g. refl;
      past_made = tt;
      past_later = λ s t u l p. tt;
      past_next = λ s t g p. tt;
      past_feed = λ s t i g p. tt;
      timed = λ s t d g p e. (tt, inl (zero-ends s t d e));
      waits = λ s t g e. refl;
      tries = λ s t g e c. tt;
      fresh = λ s t i r e g k. refl;
    }

zero-short : (s : zero_timer.State) (t d : ℕ) → zero_says s t ≡ output.Timer d → d ≤ 0
zero-short s t d e = omega (arith, zero-ends s t d e)

none_at_zero : finals_in (take 288 (answers zero_timer tt (calls (punctual zero_timer tt 0 288)))) ≡ 0
unfolding finals_in answers punctual zero_says
none_at_zero = refl

pub zero-breaks : By288 zero_timer → ⊥
unfolding By288 runs rising from
zero-breaks h =
    let p = host-there-at zero_timer [] 0 288 (tt, tt) (on-clock zero_timer 0 zero-short tt 0 288 (omega arith)) in
    let z = h [] (punctual zero_timer tt 0 288) p.0 (omega (arith, p.1)) in
    let y = none_at_zero in
    omega arith

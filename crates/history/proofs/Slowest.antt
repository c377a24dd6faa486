-- The slowest machine has the facts.
use Prim.Native.Nat.{ℕ, suc, ◌+◌, ◌-◌, ◌≤◌, ◌<◌}
use mathlib.Core.Path.{◌≡◌, refl, sym}
use mathlib.Core.Bool.{Bool, true, false, false≢true, not, cond}
use mathlib.Core.Logic.{◌⊎◌, inl, inr}
use native.Mathlib.Omega.{arith}
use lib.Dec.{ltb as nat_lt}
use borrow.Author.Tests.{ltb-true, ltb-false, le-ltb}
use Rattle.machine.specs.declared.grant.Output.{Output}
use Rattle.machine.specs.declared.grant.Output.TheVariants as output
use Rattle.history.specs.History.{is_ask}
use Rattle.history.specs.Claims.{is_rest}
use Rattle.history.specs.Facts.{Facts}
use Rattle.history.specs.Edition.{Left}
use Rattle.history.specs.Slowest.{Slow, Deed, query, refresh, attempt, cancel, wait, rest, due, does, says, goes, slowest, slow_view}

record Good (s : Slow) : Type 0 where
  queries : s.queries ≤ 16
  refreshes : s.refreshes ≤ 16
  attempts : s.attempts ≤ 32
  cancels : s.cancels ≤ 31

-- what each deed rests on
abbrev Rests : Slow → ℕ → Deed → Type 0
Rests s t query = s.queries < 16
Rests s t refresh = s.refreshes < 16
Rests s t attempt = s.attempts < 32
Rests s t cancel = s.cancels < 31
Rests s t (wait d) = Left 1 s.last t d ⊎ Left 2 s.last t d
Rests s t rest = 32 ≤ s.attempts

-- one of two deeds
each : (P : Deed → Type 0) (b : Bool) (x y : Deed) → (b ≡ true → P x) → (b ≡ false → P y) → P (cond b x y)
each P true x y h k = h refl
each P false x y h k = k refl

-- one of two answers
either : (P : Output → Type 0) (b : Bool) (x y : Output) → (b ≡ true → P x) → (b ≡ false → P y) → P (cond b x y)
either P true x y h k = h refl
either P false x y h k = k refl

module _ (s : Slow) (t : ℕ) where
  rests-due : Rests s t (due s)
  unfolding due
  rests-due =
      each (Rests s t) (nat_lt s.queries 16) _ _ (λ e. ltb-true s.queries 16 e)
      (λ e. each (Rests s t) (nat_lt s.refreshes 16) _ _ (λ f. ltb-true s.refreshes 16 f)
      (λ f. each (Rests s t) (nat_lt s.attempts 32) _ _ (λ g. ltb-true s.attempts 32 g)
      (λ g. each (Rests s t) (nat_lt s.cancels 31) cancel rest (λ h. ltb-true s.cancels 31 h) (λ h. ltb-false s.attempts 32 g))))

  rests : Rests s t (does s t)
  unfolding does
  rests =
      each (Rests s t) (nat_lt (t - s.last) 1) _ _ (λ e. inl (ltb-true (t - s.last) 1 e, refl))
      (λ e. each (Rests s t) (nat_lt (t - s.last) 2) _ _ (λ f. inr (ltb-true (t - s.last) 2 f, refl)) (λ f. rests-due))

abbrev asks_of : Slow → ℕ
asks_of s = s.queries + s.refreshes + s.attempts + s.cancels

module _ (s : Slow) (t : ℕ) where
  asked_by : (d : Deed) → is_ask (says s d) ≡ true → asks_of (goes s t d) ≡ suc (asks_of s)
  asked_by query e = omega arith
  asked_by refresh e = omega arith
  asked_by attempt e = omega arith
  asked_by cancel e = omega arith
  asked_by (wait d) e = absurd (false≢true e)
  asked_by rest e = absurd (either (λ x. is_ask x ≡ true → ⊥) s.heard _ _ (λ b h. false≢true h) (λ b h. false≢true h) e)

  still-by : (d : Deed) → is_ask (says s d) ≡ false → goes s t d ≡ s
  still-by query e = absurd (false≢true (sym e))
  still-by refresh e = absurd (false≢true (sym e))
  still-by attempt e = absurd (false≢true (sym e))
  still-by cancel e = absurd (false≢true (sym e))
  still-by (wait d) e = refl
  still-by rest e = refl

  past_by : (d : Deed) → s.last ≤ t → (goes s t d).last ≤ t
  past_by query p = omega arith
  past_by refresh p = omega arith
  past_by attempt p = omega arith
  past_by cancel p = omega arith
  past_by (wait d) p = p
  past_by rest p = p

  good-by : (d : Deed) → Rests s t d → Good s → Good (goes s t d)
  good-by query r g = record { queries = r; refreshes = g.refreshes; attempts = g.attempts; cancels = g.cancels }
  good-by refresh r g = record { queries = g.queries; refreshes = r; attempts = g.attempts; cancels = g.cancels }
  good-by attempt r g = record { queries = g.queries; refreshes = g.refreshes; attempts = r; cancels = g.cancels }
  good-by cancel r g = record { queries = g.queries; refreshes = g.refreshes; attempts = g.attempts; cancels = r }
  good-by (wait d) r g = g
  good-by rest r g = g

  -- what an answer rests on
  abbrev Stands : Output → Type 0
  Stands output.Waiting = (not s.heard ≡ true) × (32 ≤ s.attempts)
  Stands (output.Query i k a p) = Unit {0}
  Stands (output.Timer d) = Left 1 s.last t d ⊎ Left 2 s.last t d
  Stands (output.Attempt i r e) = nat_lt e.port s.attempts ≡ false
  Stands (output.Cancel i) = Unit {0}
  Stands output.Succeeded = ⊥
  Stands (output.Failed r) = ⊥
  Stands (output.Full x) = Unit {0}

  stands_by : (d : Deed) → Rests s t d → Stands (says s d)
  stands_by query r = tt
  stands_by refresh r = tt
  stands_by attempt r = le-ltb s.attempts s.attempts (omega arith)
  stands_by cancel r = tt
  stands_by (wait d) r = r
  stands_by rest r = either Stands s.heard _ _ (λ e. tt) (λ e. (rw e, r))

  stands : Stands (says s (does s t))
  stands = stands_by (does s t) (rests s t)

  rest-tried : (x : Output) → is_rest x ≡ true → Stands x → 32 ≤ s.attempts
  rest-tried output.Waiting e k = k.1
  rest-tried (output.Query i a b p) e k = absurd (false≢true e)
  rest-tried (output.Timer d) e k = absurd (false≢true e)
  rest-tried (output.Attempt i r x) e k = absurd (false≢true e)
  rest-tried (output.Cancel i) e k = absurd (false≢true e)
  rest-tried output.Succeeded e k = absurd (false≢true e)
  rest-tried (output.Failed r) e k = absurd k
  rest-tried (output.Full x) e k = absurd (false≢true e)

  ends : (d : ℕ) → s.last ≤ t → says s (does s t) ≡ output.Timer d → (0 < d) × ((t + d ≡ s.last + 1) ⊎ (t + d ≡ s.last + 2))
  ends d p e = by (rw e at stands)
    where
      by : Stands (output.Timer d) → (0 < d) × ((t + d ≡ s.last + 1) ⊎ (t + d ≡ s.last + 2))
      by (inl (a, b)) = (omega arith, inl (omega arith))
      by (inr (a, b)) = (omega arith, inr (omega arith))

  -- no timer is longer than 2
  pub short : (d : ℕ) → says s (does s t) ≡ output.Timer d → d ≤ 2
  short d e = by (rw e at stands)
    where
      by : Stands (output.Timer d) → d ≤ 2
      by (inl (a, b)) = omega arith
      by (inr (a, b)) = omega arith

pub slowest-facts : Facts slowest slow_view
slowest-facts =
    record {
      Good = Good;
      Past = λ s t. s.last ≤ t;
      asks = asks_of;
      attempt_end = λ s. s.last + 1;
      resolution_end = λ s. s.last + 2;
      good_made = record { queries = omega arith; refreshes = omega arith; attempts = omega arith; cancels = omega arith };
      good_next = λ s t g. good-by s t (does s t) (rests s t) g;
      good_feed = λ s t i g. record { queries = g.queries; refreshes = g.refreshes; attempts = g.attempts; cancels = g.cancels };
      most = λ s g. omega (arith, g.queries, g.refreshes, g.attempts, g.cancels);
      asked = λ s t g e. asked_by s t (does s t) e;
      still = λ s t g e. still-by s t (does s t) e;
      fed = λ s t i g. refl;
      past_made = omega arith;
      past_later = λ s t u l p. omega arith;
      past_next = λ s t g p. past_by s t (does s t) p;
      past_feed = λ s t i g p. p;
      timed = λ s t d g p e. ends s t d p e;
      waits = λ s t g e. (rw e at (stands s t)).0;
      tries = λ s t g e c. rest-tried s t (says s (does s t)) e (stands s t);
      fresh = λ s t i r e g k. rw k at (stands s t);
    }

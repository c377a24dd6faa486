-- Laws of the shortest form of a number.
--     shortest-last, shortest-more    the form at a value of one group, and of more
--     not-tenth, shrunk               the loops that take groups off: at most nine times, and what is left is smaller
use mathlib.Core.Path.{◌≡◌, refl}
use mathlib.Core.Logic.{⊎_elim}
use mathlib.Core.List.{[], ◌∷◌}
use Prim.Native.Nat.{ℕ, zero, suc, ◌+◌, ◌*◌, ◌-◌, ◌/◌, ◌%◌, ◌^◌, ◌≤◌, ◌<◌}
use native.Mathlib.Nat.{eq-or-lt_of_le}
use Rattle.numbers.proofs.Cases.{less-or-not}
use native.Mathlib.Omega.{arith}
use lib.ListN.{length}
use lib.Pow.{shr_lt}
use borrow.Author.Tests.{lt-ltb, le-ltb}
use Rattle.numbers.specs.Numbers.{shortest, number_bytes}

pub shortest-last : (k v : ℕ) → v < 128 → shortest k v ≡ v ∷ []
unfolding shortest
shortest-last zero v h = refl
shortest-last (suc k) v h = simp (lt-ltb v 128 h)

pub shortest-suc : (k v : ℕ) → 128 ≤ v → shortest (suc k) v ≡ (128 + v % 128) ∷ shortest k (v / 128)
unfolding shortest
shortest-suc k v h = simp (le-ltb v 128 h)

pub shortest-more : (i v : ℕ) → i < 9 → 128 ≤ v → shortest (9 - i) v ≡ (128 + v % 128) ∷ shortest (9 - (i + 1)) (v / 128)
shortest-more i v hi h = let e : 9 - i ≡ suc (9 - (i + 1)) = omega arith in rw e (shortest-suc (9 - (i + 1)) v h)

pub one-at-least : (k v : ℕ) → 0 < length (shortest k v)
unfolding shortest
one-at-least zero v = omega arith
one-at-least (suc k) v =
    ⊎_elim (λ h. rw (shortest-last (suc k) v h) (omega arith)) (λ h. rw (shortest-suc k v h) (omega arith)) (less-or-not v 128)

pub not-tenth : (i v : ℕ) → i ≤ 9 → v < 2 ^ (64 - 7 * i) → 128 ≤ v → i < 9
not-tenth i v hi hv h = ⊎_elim (λ e. absurd (let l : v < 2 ^ (64 - 7 * 9) = rw e at hv in omega arith)) (λ l. l) (eq-or-lt_of_le hi)

pub shrunk : (i v : ℕ) → i < 9 → v < 2 ^ (64 - 7 * i) → v / 128 < 2 ^ (64 - 7 * (i + 1))
shrunk i v hi hv =
    let e : 64 - 7 * i ≡ 64 - 7 * (i + 1) + 7 = omega arith in
    shr_lt (64 - 7 * (i + 1)) 7 (rw e at hv)

no_longer : (k v : ℕ) → length (shortest k v) ≤ suc k
unfolding shortest
no_longer zero v = omega arith
no_longer (suc k) v =
    ⊎_elim (λ (h : v < 128). rw (shortest-last (suc k) v h) (omega arith)) (λ (h : 128 ≤ v). rw (shortest-suc k v h) (let i = no_longer k (v / 128) in omega arith)) (less-or-not v 128)

-- a number takes at most ten bytes, and one at least
pub at-most-ten : (n : ℕ) → length (number_bytes n) ≤ 10
unfolding number_bytes
at-most-ten n = no_longer 9 n

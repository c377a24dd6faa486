-- What is so of whatever is read: over any reading, step by step.
use mathlib.Core.Path.{◌≡◌, refl, subst}
use mathlib.Core.Bool.{Bool, true, false, cond}
use Prim.Native.Nat.{ℕ}
use native.Mathlib.Omega.{arith}
use Rattle.parts.specs.Reading.{Reading, read, fault, next}

pub record Good {A : Type 0} (P : A → Type 0) (r : Reading A) : Type 0 where
  pub so : (v : A) (end : ℕ) → read v end ≡ r → P v

module _ {A : Type 0} {P : A → Type 0} where
  pub good-read : (v : A) (p : ℕ) → P v → Good P (read v p)
  good-read v p h = record { so = λ w end e. let x : v ≡ w = cc in subst P x h }

  pub good-fault : (n p : ℕ) → Good P (fault n p)
  good-fault n p = record { so = λ v end e. absurd (let z : ◌≡◌ {A = ℕ} 0 1 = cc in omega arith) }

  pub good-if : (t : Bool) (a b : Reading A) → (t ≡ true → Good P a) → (t ≡ false → Good P b) → Good P (cond t a b)
  good-if true a b g h = g refl
  good-if false a b g h = h refl

  pub good-cond : (t : Bool) (a b : Reading A) → Good P a → Good P b → Good P (cond t a b)
  good-cond t a b g h = good-if t a b (λ e. g) (λ e. h)

  pub good_next : {B : Type 0} (r : Reading B) (f : B → ℕ → Reading A) → ((v : B) (p : ℕ) → read v p ≡ r → Good P (f v p)) → Good P (next r f)
  good_next (read v p) f h = h v p refl
  good_next (fault n p) f h = good-fault n p

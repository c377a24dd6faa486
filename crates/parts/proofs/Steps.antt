-- One field after the other, by what the first said: what a reader's arm returns is what the chain of fields says.
--     went_on, stopped      what comes first was read, or has a fault
--     on-field, off-field   the same of one field
--     Then, then-read       inversion: what was read in a chain was read step by step
--     GotThen, got-then, not-refused, only-got   the same of fields without a place
--     within                a number that was read is at most its limit
--     not-this, only-this   a test that refuses was passed
use mathlib.Core.Path.{◌≡◌, refl, sym, ap, ◌∙◌}
use mathlib.Core.Bool.{Bool, true, false, cond}
use mathlib.Core.Logic.{⊎_elim}
use Prim.Native.Nat.{ℕ, ◌≤◌, ◌<◌}
use native.Mathlib.Omega.{arith}
use Rattle.numbers.specs.Got.{Got, got, refused, and_then}
use Rattle.numbers.specs.Fields.{at_most}
use Rattle.numbers.proofs.Cases.{less-or-not}
use Rattle.numbers.proofs.Steps.{at-most, over}
use Rattle.parts.specs.Reading.{Reading, read, fault, next, field}

module _ {A B : Type 0} {r : Reading A} (f : A → ℕ → Reading B) where
  pub went_on : (v : A) (p : ℕ) → read v p ≡ r → f v p ≡ next r f
  went_on v p e = ap (λ r. next r f) e

  pub stopped : (n p : ℕ) → fault n p ≡ r → fault n p ≡ next r f
  stopped n p e = ap (λ r. next r f) e

module _ {A : Type 0} {r : Got A} (p : ℕ) where
  pub on-field : {v : A} {q : ℕ} → got v q ≡ r → read v q ≡ field p r
  on-field e = ap (field p) e

  pub off-field : {n : ℕ} → refused n ≡ r → fault n p ≡ field p r
  off-field e = ap (field p) e

-- what was read by a chain: its first step, and the rest
pub record Then {A B : Type 0} (r : Reading A) (f : A → ℕ → Reading B) (v : B) (end : ℕ) : Type 0 where
  pub value : A
  pub place : ℕ
  pub first : read value place ≡ r
  pub rest : read v end ≡ f value place

pub then-read : {A B : Type 0} (r : Reading A) (f : A → ℕ → Reading B) {v : B} {end : ℕ} → read v end ≡ next r f → Then r f v end
then-read (read a q) f e = record { value = a; place = q; first = refl; rest = e }
then-read (fault n p) f e = absurd (let z : ◌≡◌ {A = ℕ} 0 1 = cc in omega arith)

pub field-read : {A : Type 0} (p : ℕ) (r : Got A) {v : A} {end : ℕ} → read v end ≡ field p r → got v end ≡ r
field-read p (got w q) {v} {end} e = let x : v ≡ w = cc in let y : end ≡ q = cc in rw (x, y)
field-read p (refused n) e = absurd (let z : ◌≡◌ {A = ℕ} 0 1 = cc in omega arith)

pub within : (limit n : ℕ) (r : Got ℕ) {v q : ℕ} → got v q ≡ at_most limit n r → v ≤ limit
unfolding at_most
within limit n (refused m) e = absurd (let z : ◌≡◌ {A = ℕ} 0 1 = cc in omega arith)
within limit n (got w p) {v} {q} e =
    ⊎_elim (λ (h : limit < w). absurd (let c = e ∙ sym (over limit n w p refl h) in let z : ◌≡◌ {A = ℕ} 0 1 = cc in omega arith))
    (λ (h : w ≤ limit). let c = e ∙ sym (at-most limit n w p refl h) in let d : v ≡ w = cc in omega arith)
    (less-or-not limit w)

module _ {A : Type 0} (n p : ℕ) where
  pub not-this : (t : Bool) (w : A) (q : ℕ) {v : A} {end : ℕ} → read v end ≡ cond t (fault n p) (read w q) → read v end ≡ read w q
  not-this true w q e = absurd (let z : ◌≡◌ {A = ℕ} 0 1 = cc in omega arith)
  not-this false w q e = e

  pub only-this : (t : Bool) (w : A) (q : ℕ) {v : A} {end : ℕ} → read v end ≡ cond t (read w q) (fault n p) → read v end ≡ read w q
  only-this true w q e = e
  only-this false w q e = absurd (let z : ◌≡◌ {A = ℕ} 0 1 = cc in omega arith)

-- the same inversion of fields that carry no place
pub record GotThen {A B : Type 0} (r : Got A) (f : A → ℕ → Got B) (v : B) (end : ℕ) : Type 0 where
  pub value : A
  pub place : ℕ
  pub first : got value place ≡ r
  pub rest : got v end ≡ f value place

pub got-then : {A B : Type 0} (r : Got A) (f : A → ℕ → Got B) {v : B} {end : ℕ} → got v end ≡ and_then r f → GotThen r f v end
got-then (got a q) f e = record { value = a; place = q; first = refl; rest = e }
got-then (refused n) f e = absurd (let z : ◌≡◌ {A = ℕ} 0 1 = cc in omega arith)

pub not-refused : {A : Type 0} (n : ℕ) (t : Bool) (w : A) (q : ℕ) {v : A} {end : ℕ} → got v end ≡ cond t (refused n) (got w q) → got v end ≡ got w q
not-refused n true w q e = absurd (let z : ◌≡◌ {A = ℕ} 0 1 = cc in omega arith)
not-refused n false w q e = e

pub only-got : {A : Type 0} (n : ℕ) (t : Bool) (w : A) (q : ℕ) {v : A} {end : ℕ} → got v end ≡ cond t (got w q) (refused n) → (t ≡ true) × (w ≡ v)
only-got n true w q e = (refl, cc)
only-got n false w q e = absurd (let z : ◌≡◌ {A = ℕ} 0 1 = cc in omega arith)

-- Comparing two byte strings, one byte a turn; the part of a room that a length cuts.
--     same_more, same_not, same_end      a walk over both by an index; nothing cites these now, and docs/PORT.md names them
use Prim.Native.Nat.{ℕ, suc, ◌+◌, ◌<◌, ◌≤◌, min}
use mathlib.Core.Path.{◌≡◌, refl, sym, ap, ◌∙◌}
use mathlib.Core.Bool.{Bool, true, false, ◌&&◌}
use mathlib.Core.List.{List, [], ◌∷◌}
use native.Mathlib.Numerals.{add-one}
use native.Mathlib.Omega.{arith}
use native.Mathlib.Decide.{dec_lt}
use lib.Dec.{eqb as nat_eq}
use lib.Pointwise.{pointwise}
use lib.ListN.{length, take, drop, get_or, drop_of_length-le}
use lib.Seq.{drop-cons, take_all}
use borrow.Author.Tests.{eq-eqb, eqb-true}
use Rattle.records.specs.Names.{same_bytes}

-- lists of other lengths differ
pub other_length : (x y : List ℕ) → (length x ≡ length y → ⊥) → false ≡ same_bytes x y
unfolding same_bytes
other_length [] [] h = absurd (h refl)
other_length [] (b ∷ y) h = refl
other_length (a ∷ x) [] h = refl
other_length (a ∷ x) (b ∷ y) h = first (nat_eq a b) (other_length x y (λ e. h (ap suc e)))
  where
    first : (t : Bool) → false ≡ same_bytes x y → false ≡ t && same_bytes x y
    first true e = e
    first false e = refl

-- a walk over both by an index: one byte more, one that differs, none left
module _ (x y : List ℕ) (i : ℕ) (t : Bool) (p : same_bytes (drop i x) (drop i y) ≡ t) where
  pub same_more : i < length x → i < length y → get_or x i 0 ≡ get_or y i 0 → same_bytes (drop (i + 1) x) (drop (i + 1) y) ≡ t
  unfolding same_bytes
  same_more h k e = rw (add-one) (rw (drop-cons x i 0 h, drop-cons y i 0 k, eq-eqb _ _ e) at p)

  pub same_not : i < length x → i < length y → nat_eq (get_or x i 0) (get_or y i 0) ≡ false → false ≡ t
  unfolding same_bytes
  same_not h k e = rw (drop-cons x i 0 h, drop-cons y i 0 k, e) at p

  pub same_end : length x ≤ i → length y ≤ i → true ≡ t
  unfolding same_bytes
  same_end h k = rw (drop_of_length-le x {i = i} h, drop_of_length-le y {i = i} k) at p

-- the same exactly if equal
pub same_refl : (x : List ℕ) → same_bytes x x ≡ true
unfolding same_bytes
same_refl [] = refl
same_refl (a ∷ x) = rw (eq-eqb a a refl) (same_refl x)

pub same-equal : (x y : List ℕ) → same_bytes x y ≡ true → x ≡ y
unfolding same_bytes
same-equal [] [] e = refl
same-equal [] (b ∷ y) e = absurd (let z : ◌≡◌ {A = ℕ} 0 1 = cc in omega arith)
same-equal (a ∷ x) [] e = absurd (let z : ◌≡◌ {A = ℕ} 0 1 = cc in omega arith)
same-equal (a ∷ x) (b ∷ y) e = first (nat_eq a b) refl e (same-equal x y)
  where
    first : (t : Bool) → nat_eq a b ≡ t → t && same_bytes x y ≡ true → (same_bytes x y ≡ true → x ≡ y) → a ∷ x ≡ b ∷ y
    first true q s ih = let h : a ≡ b = eqb-true a b q in let r : x ≡ y = ih s in cc
    first false q s ih = absurd (let z : ◌≡◌ {A = ℕ} 0 1 = cc in omega arith)

-- a length cut at the room takes the same
pub cut_take : {A : Type 0} (n room : ℕ) (x : List A) → length x ≡ room → take (min n room) x ≡ take n x
cut_take n room x h = elim (dec_lt room n) [ yes p ↦ let e : min n room ≡ room = omega arith in rw (e, take_all room x (omega arith), take_all n x (omega arith)) | no q ↦ let e : min n room ≡ n = omega arith in rw e ]

pub take-cut : (n room : ℕ) (x : List ℕ) → length x ≡ room → take (min n room) x ≡ take n x
take-cut = cut_take

-- `==` of two slices compares them byte by byte
pub same_pointwise : (x y : List ℕ) → pointwise nat_eq x y ≡ same_bytes x y
unfolding same_bytes
same_pointwise [] [] = refl
same_pointwise [] (b ∷ y) = refl
same_pointwise (a ∷ x) [] = refl
same_pointwise (a ∷ x) (b ∷ y) = ap (λ t. nat_eq a b && t) (same_pointwise x y)

pub same_alike : (x y : List ℕ) → x ≡ y → same_bytes x y ≡ true
same_alike x y e = ap (same_bytes x) (sym e) ∙ same_refl x

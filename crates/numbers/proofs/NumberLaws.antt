-- Laws of reading a number.
--     on             what the groups read so far, i of them with the value v, make of what the rest says
--     at-end …       the loop of `read_number`: what each of its ways says of the number at hand
use mathlib.Core.Path.{◌≡◌, refl, sym, ap, ◌∙◌}
use mathlib.Core.Logic.{⊎_elim}
use mathlib.Core.List.{List, [], ◌∷◌}
use Prim.Native.Nat.{ℕ, zero, suc, ◌+◌, ◌*◌, ◌-◌, ◌%◌, ◌^◌, ◌≤◌, ◌<◌}
use native.Mathlib.Nat.{mul_assoc, mul-add, add_assoc, mod-eq_of_lt, mul-le-mul_left, eq-or-lt_of_le}
use native.Mathlib.Numerals.{add-one}
use native.Mathlib.Omega.{arith}
use lib.ListN.{length, get_or, drop, drop_of_length-le}
use lib.Seq.{drop-cons}
use lib.Pow.{pow-add, pow_mono}
use borrow.Author.Tests.{lt-ltb, le-ltb, le-leb, lt-leb, ne_eqb}
use Rattle.numbers.specs.Got.{Got, got, refused}
use Rattle.numbers.specs.Numbers.{below, groups, read_number}
use Rattle.numbers.specs.Refusals.{cut, bad_number}

pub on : (i v : ℕ) → Got ℕ → Got ℕ
on zero v r = r
on (suc i) v r = below v (2 ^ (7 * suc i)) r

pub below-got : (v w u next : ℕ) → (u ≡ 0 → ⊥) → below v w (got u next) ≡ got (v + w * u) next
unfolding below
below-got v w u next n = simp (ne_eqb u 0 n)

below-below : (v w b : ℕ) (r : Got ℕ) → below v w (below b 128 r) ≡ below (v + w * b) (w * 128) r
unfolding below
below-below v w b (refused n) = refl
below-below v w b (got zero next) = refl
below-below v w b (got (suc u) next) =
    ap (below v w) (below-got b 128 (suc u) next (λ e. omega arith)) ∙ below-got v w (b + 128 * suc u) next (λ e. omega arith)
    ∙ ap (λ (x : ℕ). got x next) (simp (mul-add, mul_assoc, add_assoc)) ∙ sym (below-got (v + w * b) (w * 128) (suc u) next (λ e. omega arith))

on-refused : (i v n : ℕ) → on i v (refused n) ≡ refused n
unfolding on below
on-refused zero v n = refl
on-refused (suc i) v n = refl

-- seven more bits
up : (i : ℕ) → 2 ^ (7 * i) * 128 ≡ 2 ^ (7 * suc i)
up i = let e : 7 * suc i ≡ 7 * i + 7 = omega arith in sym (rw (e, pow-add 2 (7 * i) 7))

on_below : (i v b : ℕ) (r : Got ℕ) → v < 2 ^ (7 * i) → on i v (below b 128 r) ≡ on (suc i) (v + 2 ^ (7 * i) * b) r
unfolding on
on_below zero v b r h = let e : v + 1 * b ≡ b = omega arith in ap (λ (x : ℕ). below x 128 r) (sym e)
on_below (suc i) v b r h = below-below v (2 ^ (7 * suc i)) b r ∙ ap (λ (x : ℕ). below (v + 2 ^ (7 * suc i) * b) x r) (up (suc i))

on-got : (i v u next : ℕ) → v < 2 ^ (7 * i) → (u ≡ 0 → i ≡ 0) → on i v (got u next) ≡ got (v + 2 ^ (7 * i) * u) next
unfolding on below
on-got zero v u next h n = let e : v + 1 * u ≡ u = omega arith in ap (λ (x : ℕ). got x next) (sym e)
on-got (suc i) v u next h n = below-got v (2 ^ (7 * suc i)) u next (λ e. let z : suc i ≡ 0 = n e in omega arith)

on-zero : (i v next : ℕ) → 0 < i → on i v (got 0 next) ≡ refused bad_number
unfolding on below
on-zero zero v next h = absurd (omega arith)
on-zero (suc i) v next h = refl

pub groups-end : (k p : ℕ) → groups k p [] ≡ refused cut
unfolding groups
groups-end zero p = refl
groups-end (suc k) p = refl

pub groups-last : (k p b : ℕ) (s : List ℕ) → b < 128 → (k ≡ 0 → b ≤ 1) → groups k p (b ∷ s) ≡ got b (p + 1)
unfolding groups
groups-last zero p b s h t = simp (le-leb b 1 (t refl))
groups-last (suc k) p b s h t = simp (lt-ltb b 128 h)

pub groups-tenth : (p b : ℕ) (s : List ℕ) → 1 < b → groups 0 p (b ∷ s) ≡ refused bad_number
unfolding groups
groups-tenth p b s h = simp (lt-leb b 1 h)

pub groups-more : (k p b : ℕ) (s : List ℕ) → 128 ≤ b → groups (suc k) p (b ∷ s) ≡ below (b % 128) 128 (groups k (p + 1) s)
unfolding groups
groups-more k p b s h = simp (le-ltb b 128 h)

-- what the bytes say, where i groups with the value v stand before the place p
pub here : List ℕ → (i v p : ℕ) → Got ℕ
here s i v p = on i v (groups (9 - i) p (drop p s))

pub at-start : (s : List ℕ) (p : ℕ) → here s 0 0 p ≡ read_number s p
unfolding here on read_number
at-start s p = refl

pub at-end : (s : List ℕ) (i v p : ℕ) → length s ≤ p → here s i v p ≡ refused cut
unfolding here
at-end s i v p h = rw (drop_of_length-le s h, groups-end) (on-refused i v cut)

module _ (s : List ℕ) (i v p : ℕ) (inside : p < length s) where
  front : drop p s ≡ get_or s p 0 ∷ drop (p + 1) s
  front = rw add-one (drop-cons s p 0 inside)

  pub at-tenth : i ≡ 9 → 1 < get_or s p 0 → here s i v p ≡ refused bad_number
  unfolding here
  at-tenth e h = rw (front, e, groups-tenth) (on-refused 9 v bad_number)

  pub at_zero : get_or s p 0 ≡ 0 → 0 < i → here s i v p ≡ refused bad_number
  unfolding here
  at_zero e h = rw (front, e, groups-last (9 - i) p 0 (drop (p + 1) s) (omega arith) (λ z. omega arith)) (on-zero i v (p + 1) h)

  pub at_last : v < 2 ^ (7 * i) → i ≤ 9 → get_or s p 0 < 128 → (i ≡ 9 → get_or s p 0 ≤ 1) → (get_or s p 0 ≡ 0 → i ≡ 0)
      → here s i v p ≡ got (v + 2 ^ (7 * i) * (get_or s p 0 % 128)) (p + 1)
  unfolding here
  at_last hv hi hb h9 h0 =
      rw (front, groups-last (9 - i) p (get_or s p 0) (drop (p + 1) s) hb (λ e. h9 (omega arith)), mod-eq_of_lt hb) (on-got i v (get_or s p 0) (p + 1) hv h0)

  -- a number of one group, 0: that group, added, leaves the value as it is
  pub at_lone : (w : ℕ) → w ≡ v + 2 ^ (7 * i) * (get_or s p 0 % 128) → get_or s p 0 ≡ 0 → i ≡ 0 → v < 2 ^ (7 * i)
      → here s i v p ≡ got w (p + 1)
  at_lone w hw e z hv = at_last hv (omega arith) (omega arith) (λ n. omega arith) (λ n. z) ∙ ap (λ (x : ℕ). got x (p + 1)) (sym hw)

  pub at_more : v < 2 ^ (7 * i) → i < 9 → 128 ≤ get_or s p 0
      → here s i v p ≡ here s (i + 1) (v + 2 ^ (7 * i) * (get_or s p 0 % 128)) (p + 1)
  unfolding here
  at_more hv hi hb =
      let e : 9 - i ≡ suc (9 - (i + 1)) = omega arith in
      rw (front, e, groups-more (9 - (i + 1)) p (get_or s p 0) (drop (p + 1) s) hb, add-one i)
      (on_below i v (get_or s p 0 % 128) (groups (9 - suc i) (p + 1) (drop (p + 1) s)) hv)

-- the value with one group more
pub grown : (i v b : ℕ) → v < 2 ^ (7 * i) → v + 2 ^ (7 * i) * (b % 128) < 2 ^ (7 * (i + 1))
grown i v b h =
    let le : 2 ^ (7 * i) * (b % 128) ≤ 2 ^ (7 * i) * 127 = mul-le-mul_left (2 ^ (7 * i)) (omega arith) in
    rw (add-one, ← up) (omega arith)

-- a group fits above i others
pub group-fits : (i b : ℕ) → i < 9 → 2 ^ (7 * i) * (b % 128) < 2 ^ 64
group-fits i b h =
    let le : 2 ^ (7 * i) * (b % 128) ≤ 2 ^ (7 * i) * 127 = mul-le-mul_left (2 ^ (7 * i)) (omega arith) in
    let m : 2 ^ (7 * i) ≤ 2 ^ 56 = pow_mono {j = 56} (omega arith) in
    omega arith

pub tenth-fits : (i b : ℕ) → i ≡ 9 → b ≤ 1 → 2 ^ (7 * i) * (b % 128) < 2 ^ 64
tenth-fits i b e h = rw e (omega arith)

-- a byte that says that another group follows is not the tenth
pub earlier : (i b : ℕ) → i ≤ 9 → (i ≡ 9 → b ≤ 1) → 128 ≤ b → i < 9
earlier i b h t hb = ⊎_elim (λ e. absurd (let z : b ≤ 1 = t e in omega arith)) (λ l. l) (eq-or-lt_of_le h)

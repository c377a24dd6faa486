-- The loop of `name_ok`: what each of its ways says of the rest of the name.
--     too_long, one_more      a byte in a label that has 63, or fewer; nothing cites these now, and docs/PORT.md names them
use mathlib.Core.Path.{◌≡◌, refl, ◌∙◌}
use mathlib.Core.Bool.{Bool, true, false, ◌&&◌, cond}
use mathlib.Core.List.{List, ◌∷◌}
use Prim.Native.Nat.{ℕ, ◌+◌, ◌-◌, ◌≤◌, ◌<◌}
use native.Mathlib.Numerals.{add-one}
use native.Mathlib.Omega.{arith}
use lib.ListN.{length, get_or, drop, length-drop, drop_of_length-le}
use lib.Seq.{drop-cons}
use lib.Dec.{ltb as nat_lt, eqb as nat_eq}
use borrow.Author.Tests.{ne_eqb, lt-ltb, le-ltb}
use Rattle.numbers.specs.Names.{dot, is_digit, name_byte}
use Rattle.numbers.specs.Walk.{digit_of, walk}

pub name_end : (s : List ℕ) (i run digits : ℕ) → length s ≤ i → walk run digits (drop i s) ≡ nat_lt digits run
unfolding walk
name_end s i run digits h = rw (drop_of_length-le s h) refl

pub name_more : (s : List ℕ) (i run digits : ℕ) → i < length s → walk run digits (drop i s) ≡ cond (nat_eq (get_or s i 0) dot)
    (cond (nat_eq (length s - (i + 1)) 0) (nat_lt digits run) (nat_lt 0 run && walk 0 0 (drop (i + 1) s)))
    (name_byte (get_or s i 0) && (nat_lt run 63 && walk (run + 1) (digits + digit_of (get_or s i 0)) (drop (i + 1) s)))
unfolding walk
name_more s i run digits h =
    let front : drop i s ≡ get_or s i 0 ∷ drop (i + 1) s = rw add-one (drop-cons s i 0 h) in
    rw (front, ← length-drop (i + 1) s) refl

one_at_most : (t : Bool) → cond t 1 0 ≤ 1
one_at_most true = omega arith
one_at_most false = omega arith

pub digit_at_most : (b : ℕ) → digit_of b ≤ 1
unfolding digit_of
digit_at_most b = one_at_most (is_digit b)

module _ (s : List ℕ) (i run digits : ℕ) (inside : i < length s) where
  pub too_long : (get_or s i 0 ≡ 46 → ⊥) → name_byte (get_or s i 0) ≡ true → 63 ≤ run → walk run digits (drop i s) ≡ false
  too_long e n l = name_more s i run digits inside ∙ simp (ne_eqb (get_or s i 0) 46 e, n, le-ltb run 63 l)

  pub one_more : (get_or s i 0 ≡ 46 → ⊥) → name_byte (get_or s i 0) ≡ true → run < 63
      → walk run digits (drop i s) ≡ walk (run + 1) (digits + digit_of (get_or s i 0)) (drop (i + 1) s)
  one_more e n l = name_more s i run digits inside ∙ simp (ne_eqb (get_or s i 0) 46 e, n, lt-ltb run 63 l)

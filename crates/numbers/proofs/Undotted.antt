-- A name without its trailing dot, by its last byte.
--     no_byte, a-dot, no-dot    of no bytes, of a last byte that is a dot, of another one
use mathlib.Core.Path.{◌≡◌, refl, sym, ap, ◌∙◌}
use mathlib.Core.Bool.{Bool, true, false, cond, ◌&&◌}
use mathlib.Core.List.{List, [], ◌∷◌}
use Prim.Native.Nat.{ℕ, suc, ◌-◌, ◌<◌}
use native.Mathlib.Omega.{arith}
use lib.Dec.{eqb as nat_eq}
use lib.ListN.{length, get_or, take}
use borrow.Author.Tests.{eq-eqb, ne_eqb}
use Rattle.numbers.specs.Names.{dot, undotted}

pub no_byte : (s : List ℕ) → length s ≡ 0 → s ≡ undotted s
unfolding undotted
no_byte [] h = refl
no_byte (b ∷ s) h = absurd (omega arith)

-- a byte before others stays
kept : (t : Bool) (b : ℕ) (s u : List ℕ) → 0 < length s → cond (t && nat_eq (length s) 0) [] (b ∷ u) ≡ b ∷ u
kept true b s u h = rw (ne_eqb (length s) 0 (λ e. omega arith)) refl
kept false b s u h = refl

pub a-dot : (s : List ℕ) → 0 < length s → get_or s (length s - 1) 0 ≡ dot → take (length s - 1) s ≡ undotted s
unfolding undotted
a-dot [] h e = absurd (omega arith)
a-dot (b ∷ []) h e = rw (eq-eqb b dot e) refl
a-dot (b ∷ c ∷ s) h e =
    let l : length (b ∷ c ∷ s) - 1 ≡ suc (length (c ∷ s) - 1) = omega arith in
    rw l (ap (λ (x : List ℕ). b ∷ x) (a-dot (c ∷ s) (omega arith) (rw l at e))) ∙ sym (kept (nat_eq b dot) b (c ∷ s) (undotted (c ∷ s)) (omega arith))

pub no-dot : (s : List ℕ) → 0 < length s → (get_or s (length s - 1) 0 ≡ dot → ⊥) → s ≡ undotted s
unfolding undotted
no-dot [] h n = absurd (omega arith)
no-dot (b ∷ []) h n = rw (ne_eqb b dot n) refl
no-dot (b ∷ c ∷ s) h n =
    let l : length (b ∷ c ∷ s) - 1 ≡ suc (length (c ∷ s) - 1) = omega arith in
    ap (λ (x : List ℕ). b ∷ x) (no-dot (c ∷ s) (omega arith) (rw l at n)) ∙ sym (kept (nat_eq b dot) b (c ∷ s) (undotted (c ∷ s)) (omega arith))

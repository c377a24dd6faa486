-- A name without its trailing dot, by the tests on its length and on its last byte.
use Prim.Native.Nat.{ℕ, ◌-◌, ◌<◌}
use mathlib.Core.Path.{◌≡◌, refl, sym}
use mathlib.Core.Bool.{Bool, true, false, cond}
use mathlib.Core.List.{List, [], ◌∷◌}
use native.Mathlib.Omega.{arith}
use lib.Dec.{eqb as nat_eq}
use lib.ListN.{length, get_or, take}
use borrow.Author.Tests.{eqb-true, eqb-false, ne_eqb}
use Rattle.numbers.specs.Names.{dot, undotted}
use Rattle.numbers.proofs.Undotted.{no_byte, a-dot, no-dot}

-- by the last byte, where there is one
by_byte : (s : List ℕ) (t : Bool) → 0 < length s → nat_eq (get_or s (length s - 1) 0) dot ≡ t → undotted s ≡ cond t (take (length s - 1) s) s
by_byte s true h e = sym (a-dot s h (eqb-true _ _ e))
by_byte s false h e = sym (no-dot s h (eqb-false _ _ e))

pub undotted_by_last : (s : List ℕ) → undotted s ≡ cond (nat_eq (length s) 0) s (cond (nat_eq (get_or s (length s - 1) 0) dot) (take (length s - 1) s) s)
undotted_by_last [] = sym (no_byte [] refl)
undotted_by_last (b ∷ s) = rw (ne_eqb (length (b ∷ s)) 0 (λ e. omega arith)) (by_byte (b ∷ s) _ (omega arith) refl)

-- Two numbers, one way or the other; two tests that say the same.
use mathlib.Core.Path.{◌≡◌, refl, sym, ◌∙◌}
use mathlib.Core.Bool.{Bool, true, false}
use mathlib.Core.Logic.{◌⊎◌, inl, inr, ⊎_elim}
use Prim.Native.Nat.{ℕ, ◌+◌, ◌-◌, ◌≤◌, ◌<◌}
use native.Mathlib.Omega.{arith}
use lib.Dec.{ltb as nat_lt, leb as nat_le}
use borrow.Author.Tests.{ltb-true, ltb-false, le-leb, lt-leb}

by-test : (a b : ℕ) (t : Bool) → nat_lt a b ≡ t → (a < b) ⊎ (b ≤ a)
by-test a b true e = inl (ltb-true a b e)
by-test a b false e = inr (ltb-false a b e)

pub less-or-not : (a b : ℕ) → (a < b) ⊎ (b ≤ a)
less-or-not a b = by-test a b (nat_lt a b) refl

-- a sum against a limit, tested by the difference
pub room-left : (len at need : ℕ) → at ≤ len → nat_le need (len - at) ≡ nat_le (at + need) len
room-left len at need h =
    ⊎_elim (λ (l : len < at + need). lt-leb need (len - at) (omega arith) ∙ sym (lt-leb (at + need) len l))
    (λ (l : at + need ≤ len). le-leb need (len - at) (omega arith) ∙ sym (le-leb (at + need) len l))
    (less-or-not len (at + need))

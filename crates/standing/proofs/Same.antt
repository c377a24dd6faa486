-- Two keys are the same whichever comes first: all that the rules use of `same_at`.
use Prim.Native.Nat.{ℕ}
use mathlib.Core.Path.{◌≡◌, refl, sym, ◌∙◌}
use mathlib.Core.Bool.{Bool, true, false}
use Rattle.records.specs.Numbers.{kind_number}
use Rattle.records.specs.Names.{same_at}
use Rattle.records.specs.declared.names.Names.{Names}
use Rattle.records.proofs.SameName.{same-places}
use Rattle.standing.specs.Standing.{Key, same_key}
use Rattle.standing.proofs.Lists.{eqb-sym, no}

pub at-sym : (names : Names) (p q : ℕ) → same_at names p q ≡ same_at names q p
at-sym names p q = go (same_at names p q) (same_at names q p) refl refl
  where
    go : (a b : Bool) → same_at names p q ≡ a → same_at names q p ≡ b → same_at names p q ≡ same_at names q p
    go true b e f = e ∙ sym ((same-places names).back p q e)
    go false true e f = absurd (no (sym e ∙ (same-places names).back q p f))
    go false false e f = e ∙ sym f

pub key-sym : (names : Names) (a b : Key) → same_key names a b ≡ same_key names b a
unfolding same_key
key-sym names a b = rw (eqb-sym (kind_number a.kind) (kind_number b.kind), at-sym names a.name b.name)

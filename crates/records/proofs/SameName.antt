-- Names are compared by an equivalence. The crates above use no more of `same_name` than this.
use Prim.Native.Nat.{ℕ}
use mathlib.Core.Path.{◌≡◌, ap, ◌∙◌}
use mathlib.Core.Bool.{Bool, true}
use Rattle.records.specs.Names.{same_bytes, same_name, name_bytes_at, same_at}
use Rattle.records.specs.declared.names.Names.{Names}
use Rattle.records.proofs.Bytes.{same_refl, same-equal}

pub record Equivalence {A : Type 0} (same : A → A → Bool) : Type 0 where
  pub itself : (x : A) → same x x ≡ true
  pub back : (x y : A) → same x y ≡ true → same y x ≡ true
  pub through : (x y z : A) → same x y ≡ true → same y z ≡ true → same x z ≡ true

pub same_bytes_lem : Equivalence same_bytes
same_bytes_lem =
    record {
      itself = same_refl;
      back = λ x y e. ap (λ z. same_bytes y z) (same-equal x y e) ∙ same_refl y;
      through = λ x y z e f. ap (λ w. same_bytes w z) (same-equal x y e) ∙ f;
    }

pub same-name : Equivalence same_name
unfolding same_name
same-name = same_bytes_lem

-- places are alike by what lies there
pub by_bytes : {A : Type 0} (same : A → A → Bool) → Equivalence same → (at : ℕ → A) → Equivalence (λ p q. same (at p) (at q))
by_bytes same a at =
    record {
      itself = λ p. a.itself (at p);
      back = λ p q e. a.back (at p) (at q) e;
      through = λ p q r e f. a.through (at p) (at q) (at r) e f;
    }

pub same-places : (names : Names) → Equivalence (same_at names)
unfolding same_at
same-places names = by_bytes same_name same-name (name_bytes_at names)

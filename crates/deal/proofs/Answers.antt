-- `deal`'s answer: when it deals and when it refuses, and that its promise settles it.
use Prim.Native.Nat.{ℕ, zero, suc, ◌<◌, ◌≤◌}
use mathlib.Core.Path.{◌≡◌, refl, sym, ap, ◌∙◌}
use mathlib.Core.Logic.{◌⊎◌, inl, inr, ⊎_elim}
use mathlib.Core.List.{List, [], ◌∷◌, map}
use mathlib.Core.Bool.{Bool, true, false, false≢true, ◌&&◌}
use native.Mathlib.Nat.{le_of_suc-le-suc}
use native.Mathlib.Omega.{arith}
use lib.ListN.{length, get_or, length-map}
use lib.Dec.{ltb as nat_lt}
use borrow.Author.Tests.{eq-eqb, ne_eqb, lt-ltb, le-ltb, ltb-true, le-leb, lt-leb}
use Rattle.deal.specs.declared.Dealing.{Dealing}
use Rattle.deal.specs.declared.Dealing.TheVariants.{Dealt, TooLong, OtherRoom, NoGroup}
use Rattle.deal.specs.Interleaving.{interleave, order, Grouped}
use Rattle.deal.specs.Answer.{dealing_number, grouped, deal_answer, deal_out}
use Rattle.deal.proofs.Lists.{lt-or-ge}
use Rattle.deal.proofs.Laws.{by_order}

-- the test says what `Grouped` says
pub grouped-yes : (gs : List ℕ) → Grouped gs → grouped gs ≡ true
grouped-yes [] h = refl
grouped-yes (g ∷ gs) h = rw (lt-ltb g 8 (h 0 (omega arith))) (grouped-yes gs (λ i l. h (suc i) (omega arith)))

pub grouped-no : (gs : List ℕ) (i : ℕ) → i < length gs → 8 ≤ get_or gs i 0 → grouped gs ≡ false
grouped-no [] i l h = absurd (omega arith)
grouped-no (g ∷ gs) zero l h = rw (le-ltb g 8 h) refl
grouped-no (g ∷ gs) (suc i) l h = either (nat_lt g 8) (grouped-no gs i (le_of_suc-le-suc l) h)
  where
    either : (b : Bool) → grouped gs ≡ false → b && grouped gs ≡ false
    either true e = e
    either false e = refl

pub grouped-all : (gs : List ℕ) → grouped gs ≡ true → Grouped gs
grouped-all [] e = λ i l. absurd (omega arith)
grouped-all (g ∷ gs) e = go (nat_lt g 8) refl e (grouped-all gs)
  where
    go : (b : Bool) → nat_lt g 8 ≡ b → b && grouped gs ≡ true → (grouped gs ≡ true → Grouped gs) → Grouped (g ∷ gs)
    go true t e rest zero l = ltb-true g 8 t
    go true t e rest (suc i) l = rest e i (le_of_suc-le-suc l)
    go false t e rest i l = absurd (false≢true e)

-- one group of the list, for a test of any form: it is one of the eight, or the test fails
pub group_small : (gs : List ℕ) (i : ℕ) → i < length gs → (get_or gs i 0 < 8) ⊎ (grouped gs ≡ false)
group_small gs i l = ⊎_elim inl (λ b. inr (grouped-no gs i l b)) (lt-or-ge (get_or gs i 0) 8)

-- each refusal, with the room as it was
pub too_long : (gs out : List ℕ) → 272 < length gs → (1 ≡ deal_answer gs (length out)) × (out ≡ deal_out gs out)
unfolding deal_answer deal_out
too_long gs out l = rw (lt-leb (length gs) 272 l) (refl, refl)

pub other-room : (gs out : List ℕ) → length gs ≤ 272 → (length out ≡ length gs → ⊥) → (2 ≡ deal_answer gs (length out)) × (out ≡ deal_out gs out)
unfolding deal_answer deal_out
other-room gs out l ne = rw (le-leb (length gs) 272 l, ne_eqb (length out) (length gs) ne) (refl, refl)

pub no-group : (gs out : List ℕ) → length gs ≤ 272 → length out ≡ length gs → grouped gs ≡ false → (3 ≡ deal_answer gs (length out)) × (out ≡ deal_out gs out)
unfolding deal_answer deal_out
no-group gs out l e n = rw (le-leb (length gs) 272 l, eq-eqb (length out) (length gs) e, n) (refl, refl)

-- A list that keeps to the bounds is dealt.
pub is-dealt : (gs out : List ℕ) → length gs ≤ 272 → length out ≡ length gs → grouped gs ≡ true → (0 ≡ deal_answer gs (length out)) × (order gs ≡ deal_out gs out)
unfolding deal_answer deal_out
is-dealt gs out l e y = rw (le-leb (length gs) 272 l, eq-eqb (length out) (length gs) e, y) (refl, refl)

-- the groups of a list, where each is one of the eight
pub grouped-map : {A : Type 0} (f : A → ℕ) → ((x : A) → f x < 8) → (xs : List A) → grouped (map f xs) ≡ true
grouped-map f h [] = refl
grouped-map f h (x ∷ xs) = rw (lt-ltb (f x) 8 (h x)) (grouped-map f h xs)

-- Given the groups of a list's members, `deal` deals, and picking by what it leaves in the room is interleaving the list.
pub deals-interleaved : {A : Type 0} (f : A → ℕ) → ((x : A) → f x < 8) → (xs : List A) (d : A) (out : List ℕ) → length xs ≤ 272 → length out ≡ length xs
    → (0 ≡ deal_answer (map f xs) (length out)) × (interleave f xs ≡ map (λ i. get_or xs i d) (deal_out (map f xs) out))
deals-interleaved f h xs d out l e =
    let r = is-dealt (map f xs) out (rw (length-map xs f) l) (e ∙ sym (length-map xs f)) (grouped-map f h xs) in
    (r.0, by_order f xs d ∙ ap (map (λ i. get_or xs i d)) r.1)

-- Any two answers that meet the promise are equal.
pub one_answer : (a b : Dealing) → dealing_number a ≡ dealing_number b → a ≡ b
one_answer a b e = sym (found a) ∙ (ap by_number e ∙ found b)
  where
    by_number : ℕ → Dealing
    by_number n = get_or (Dealt ∷ TooLong ∷ OtherRoom ∷ NoGroup ∷ []) n Dealt

    found : (d : Dealing) → by_number (dealing_number d) ≡ d
    found Dealt = refl
    found TooLong = refl
    found OtherRoom = refl
    found NoGroup = refl

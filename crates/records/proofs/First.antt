-- The first of a list that passes a test: when there is none, that it is a member, and where it stands in a list made of lists.
use Prim.Native.Nat.{ℕ}
use mathlib.Core.Path.{◌≡◌, refl, ap, ◌∙◌}
use mathlib.Core.Logic.{⊎_elim}
use mathlib.Core.Bool.{Bool, true, false, cond}
use mathlib.Core.List.Memᴰ
use mathlib.Core.List.{List, [], ◌∷◌, ◌++◌, map, Memᴰ}
use mathlib.Core.Option.{Option, none, some}
use native.Mathlib.Omega.{arith}
use Rattle.records.specs.Lists.{each, first_of, or_else, first_some}

module _ {A : Type 0} where
  -- none is left exactly when no member passes the test
  pub none-if : (test : A → Bool) (xs : List A) → ((x : A) → Memᴰ x xs → test x ≡ false) → first_of test xs ≡ none
  unfolding first_of
  none-if test [] h = refl
  none-if test (x ∷ xs) h = rw (h x (Memᴰ.head refl)) (none-if test xs (λ i m. h i (Memᴰ.tail m)))

  pub only-if-none : (test : A → Bool) (xs : List A) → first_of test xs ≡ none → (x : A) → Memᴰ x xs → test x ≡ false
  unfolding first_of
  only-if-none test [] e x m = absurd (Memᴰ.not-nil m)
  only-if-none test (y ∷ ys) e x m = go (test y) refl e (only-if-none test ys)
    where
      go : (b : Bool) → test y ≡ b → cond b (some y) (first_of test ys) ≡ none → (first_of test ys ≡ none → (z : A) → Memᴰ z ys → test z ≡ false) → test x ≡ false
      go true t q ih = cc
      go false t q ih = ⊎_elim (λ s. ap test s ∙ t) (λ r. ih q x r) (Memᴰ.cases_cons m)

  -- the first that passes is a member, and passes
  pub first_member : (test : A → Bool) (xs : List A) (x : A) → first_of test xs ≡ some x → Memᴰ x xs × (test x ≡ true)
  unfolding first_of
  first_member test [] x e = absurd (let z : ◌≡◌ {A = ℕ} 0 1 = cc in omega arith)
  first_member test (y ∷ ys) x e = go (test y) refl e (first_member test ys x)
    where
      go : (b : Bool) → test y ≡ b → cond b (some y) (first_of test ys) ≡ some x → (first_of test ys ≡ some x → Memᴰ x ys × (test x ≡ true)) → Memᴰ x (y ∷ ys) × (test x ≡ true)
      go true t q ih = let s : x ≡ y = cc in (Memᴰ.head s, ap test s ∙ t)
      go false t q ih = (Memᴰ.tail (ih q).0, (ih q).1)

  -- of two lists one after the other: the first list's, or else the second's
  pub first-append : (test : A → Bool) (xs ys : List A) → first_of test (xs ++ ys) ≡ or_else (first_of test xs) (first_of test ys)
  unfolding first_of
  first-append test [] ys = refl
  first-append test (x ∷ xs) ys = go (test x) (first-append test xs ys)
    where
      go : (b : Bool) → first_of test (xs ++ ys) ≡ or_else (first_of test xs) (first_of test ys) → cond b (some x) (first_of test (xs ++ ys)) ≡ or_else (cond b (some x) (first_of test xs)) (first_of test ys)
      go true e = refl
      go false e = e

-- of a list made of lists: that of the first list that has one
pub first-each : {A B : Type 0} (test : B → Bool) (f : A → List B) (l : List A) → first_of test (each f l) ≡ first_some (map (λ x. first_of test (f x)) l)
unfolding each first_some first_of
first-each test f [] = refl
first-each test f (x ∷ l) = first-append test (f x) (each f l) ∙ ap (or_else (first_of test (f x))) (first-each test f l)

abbrev pub mapped : {A B : Type 0} → (A → B) → Option A → Option B
mapped f none = none
mapped f (some x) = some (f x)

-- of a list's images: the image of the first whose image passes
pub first-map : {A B : Type 0} (test : B → Bool) (f : A → B) (l : List A) → first_of test (map f l) ≡ mapped f (first_of (λ x. test (f x)) l)
unfolding first_of
first-map test f [] = refl
first-map test f (x ∷ l) = go (test (f x)) (first-map test f l)
  where
    go : (b : Bool) → first_of test (map f l) ≡ mapped f (first_of (λ y. test (f y)) l) → cond b (some (f x)) (first_of test (map f l)) ≡ mapped f (cond b (some x) (first_of (λ y. test (f y)) l))
    go true e = refl
    go false e = e

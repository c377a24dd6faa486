-- Looking for the first that wants a query, one member a turn.
use Rattle.std.specs.Prelude.{Some, None, is_some}
use Prim.Native.Nat.{ℕ, suc, ◌+◌, ◌≤◌, ◌<◌}
use mathlib.Core.Path.{◌≡◌, refl, sym, ap, ◌∙◌}
use mathlib.Core.Bool.{Bool, true, false, cond, ◌||◌}
use mathlib.Core.List.{List}
use Rattle.records.specs.Lists.{some?}
use native.Mathlib.Numerals.{add-one}
use lib.ListN.{length, drop, get_or, drop_of_length-le}
use lib.Seq.{drop-cons}
use Rattle.upcoming.specs.Wanted.{Wanted, or_wanted, first_wanted}

-- one turn: it wants one, or the rest does; none is left
module _ {A : Type 0} (f : ℕ → A → Wanted) (d : A) (l : List A) (i : ℕ) where
  step : i < length l → first_wanted f i (drop i l) ≡ or_wanted (f i (get_or l i d)) (first_wanted f (i + 1) (drop (i + 1) l))
  unfolding first_wanted
  step h = rw (drop-cons l i d, first_wanted, add-one)

  pub want_here : (w : Wanted) → i < length l → w ≡ f i (get_or l i d) → is_some w ≡ true → first_wanted f i (drop i l) ≡ w
  want_here (Some (k, p)) h e g = step h ∙ ap (λ x. or_wanted x (first_wanted f (i + 1) (drop (i + 1) l))) (sym e)
  want_here None h e g = cc

  pub want_more : (w : Wanted) → i < length l → w ≡ f i (get_or l i d) → is_some w ≡ false → first_wanted f i (drop i l) ≡ first_wanted f (i + 1) (drop (i + 1) l)
  want_more None h e g = step h ∙ ap (λ x. or_wanted x (first_wanted f (i + 1) (drop (i + 1) l))) (sym e)
  want_more (Some (k, p)) h e g = cc

pub want_past : {A : Type 0} (f : ℕ → A → Wanted) (l : List A) (i : ℕ) → length l ≤ i → first_wanted f i (drop i l) ≡ None
unfolding first_wanted
want_past f l i h = rw (drop_of_length-le l {i = i} h)

-- whether some member has it: what the first ones have, or the rest
or-one : (s t r : Bool) → (s || t) || r ≡ s || cond t true r
or-one true t r = refl
or-one false true r = refl
or-one false false r = refl

or-end : (s : Bool) → s || false ≡ s
or-end true = refl
or-end false = refl

pub or_more : {A : Type 0} (test : A → Bool) (d : A) (l : List A) (i : ℕ) (s t : Bool) → i < length l → t ≡ s || test (get_or l i d) → t || some? test (drop (i + 1) l) ≡ s || some? test (drop i l)
unfolding some?
or_more test d l i s t h e =
    rw (drop-cons l i d, some?, add-one) (ap (λ b. b || some? test (drop (suc i) l)) e ∙ or-one s (test (get_or l i d)) (some? test (drop (suc i) l)))

pub or_past : {A : Type 0} (test : A → Bool) (l : List A) (i : ℕ) (s : Bool) → length l ≤ i → s || some? test (drop i l) ≡ s
unfolding some?
or_past test l i s h = rw (drop_of_length-le l {i = i} h, some?) (or-end s)

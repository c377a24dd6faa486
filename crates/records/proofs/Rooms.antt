-- A list in a room whose rest is zero: one member more, and reading it back.
use Prim.Native.Nat.{ℕ, zero, suc, ◌-◌, ◌<◌, ◌≤◌}
use mathlib.Core.Path.{◌≡◌, refl, sym, ap, ◌∙◌}
use mathlib.Core.List.{List, [], ◌∷◌, ◌++◌, map, append_assoc}
use native.Mathlib.Omega.{arith}
use lib.ListN.{length, take, get_or, set, replicate, length-append, get_or-eq_default}
use lib.Seq.{set_at, take_at}
use Rattle.records.specs.Lists.{padded}

module _ {A : Type 0} (z : A) where
  pub padded-set : (n : ℕ) (xs : List A) (v : A) → length xs < n → set (padded n z xs) (length xs) v ≡ padded n z (xs ++ (v ∷ []))
  unfolding padded
  padded-set n xs v h =
      ap (λ k. set (xs ++ replicate k z) (length xs) v) e
      ∙ set_at xs z (replicate (n - suc (length xs)) z) v (length xs) refl
      ∙ sym (append_assoc xs (v ∷ []) (replicate (n - suc (length xs)) z))
      ∙ ap (λ k. (xs ++ (v ∷ [])) ++ replicate k z) f
    where
      e : n - length xs ≡ suc (n - suc (length xs))
      e = omega arith

      f : n - suc (length xs) ≡ n - length (xs ++ (v ∷ []))
      f = rw (length-append) (omega arith)

  pub padded-take : (n : ℕ) (xs : List A) → take (length xs) (padded n z xs) ≡ xs
  unfolding padded
  padded-take n xs = take_at xs (replicate (n - length xs) z) (length xs) refl

  get_or-zeros : (m i : ℕ) → get_or (replicate m z) i z ≡ z
  get_or-zeros zero i = refl
  get_or-zeros (suc m) zero = refl
  get_or-zeros (suc m) (suc i) = get_or-zeros m i

  get_or-before : (m : ℕ) (xs : List A) (i : ℕ) → get_or (xs ++ replicate m z) i z ≡ get_or xs i z
  get_or-before m [] i = get_or-zeros m i
  get_or-before m (x ∷ xs) zero = refl
  get_or-before m (x ∷ xs) (suc i) = get_or-before m xs i

  -- past the list there is what a list reads past its end
  pub padded-at : (n : ℕ) (xs : List A) (i : ℕ) → get_or (padded n z xs) i z ≡ get_or xs i z
  unfolding padded
  padded-at n xs i = get_or-before (n - length xs) xs i

  -- past the list the room is zero
  pub padded-past : (n : ℕ) (xs : List A) (i : ℕ) → length xs ≤ i → get_or (padded n z xs) i z ≡ z
  padded-past n xs i h = padded-at n xs i ∙ get_or-eq_default xs z h

pub map_same : {A B : Type 0} (f g : A → B) (xs : List A) → ((x : A) → f x ≡ g x) → map f xs ≡ map g xs
map_same f g [] h = refl
map_same f g (x ∷ xs) h = rw (h x) (ap (λ l. g x ∷ l) (map_same f g xs h))

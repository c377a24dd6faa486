-- Walking over the first n members of a list, one index a turn.
use Prim.Native.Nat.{ℕ, ◌+◌, ◌≤◌, ◌<◌}
use mathlib.Core.Path.{◌≡◌}
use mathlib.Core.Bool.{Bool, false}
use mathlib.Core.List.{List, [], ◌∷◌}
use native.Mathlib.Numerals.{add-one}
use native.Mathlib.Omega.{arith}
use lib.ListN.{length, take, drop, get_or, length-take, drop_of_length-le}
use lib.Seq.{drop-cons, get_or-take}
use Rattle.records.specs.Lists.{some?}

module _ {A : Type 0} (n : ℕ) (l : List A) (i : ℕ) where
  -- the rest from i on is the member at i and the rest from i + 1 on
  pub rest_more : (d : A) → i < n → i < length l → drop i (take n l) ≡ get_or l i d ∷ drop (i + 1) (take n l)
  rest_more d h k =
      let q : i < length (take n l) = simp length-take (omega arith) in
      rw (add-one, drop-cons (take n l) i d, get_or-take)

  -- the rest is empty past the count, and past the end
  pub rest-none : n ≤ i → drop i (take n l) ≡ []
  rest-none h = drop_of_length-le (take n l) {i = i} (simp length-take (omega arith))

  pub rest_end : length l ≤ i → drop i (take n l) ≡ []
  rest_end h = drop_of_length-le (take n l) {i = i} (simp length-take (omega arith))

-- looking for one that passes, one member a turn
module _ {A : Type 0} (d : A) (test : A → Bool) (n : ℕ) (l : List A) (i : ℕ) (t : Bool) (p : some? test (drop i (take n l)) ≡ t) where
  pub some_more : i < n → i < length l → test (get_or l i d) ≡ false → some? test (drop (i + 1) (take n l)) ≡ t
  unfolding some?
  some_more h k e = rw (rest_more n l i d h k, e) at p

  pub some-none : n ≤ i → false ≡ t
  unfolding some?
  some-none h = rw (rest-none n l i h) at p

  pub some_end : length l ≤ i → false ≡ t
  unfolding some?
  some_end h = rw (rest_end n l i h) at p

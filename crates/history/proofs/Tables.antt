-- How many members of a list pass a test, and what each of them has, after one more and after one is replaced.
use mathlib.Core.Path.{◌≡◌, refl}
use mathlib.Core.Bool.{Bool, true, false, false≢true, cond}
use mathlib.Core.List.{List, [], ◌∷◌, ◌++◌}
use Prim.Native.Nat.{ℕ, zero, suc, ◌+◌, ◌≤◌, ◌<◌}
use native.Mathlib.Omega.{arith}
use lib.ListN.{length, get_or, set}
use Rattle.records.specs.Lists.{some?}
use Rattle.history.specs.History.{one}
use Rattle.history.specs.Edition.{All}
use Rattle.history.proofs.Counting.{one-le}

module _ {A : Type 0} where
  unfoldable pub count : (A → Bool) → List A → ℕ
  count p [] = 0
  count p (a ∷ l) = one (p a) + count p l

  pub count-le : (p : A → Bool) (l : List A) → count p l ≤ length l
  unfolding count
  count-le p [] = omega arith
  count-le p (a ∷ l) = let h = count-le p l in let o = one-le (p a) in omega arith

  pub count-push : (p : A → Bool) (l : List A) (a : A) → count p (l ++ (a ∷ [])) ≡ count p l + one (p a)
  unfolding count
  count-push p [] a = omega arith
  count-push p (x ∷ l) a = let h = count-push p l a in omega arith

  -- what goes and what comes
  pub count_set : (p : A → Bool) (l : List A) (i : ℕ) (a d : A) → i < length l → count p (set l i a) + one (p (get_or l i d)) ≡ count p l + one (p a)
  unfolding count
  count_set p [] i a d h = absurd (omega arith)
  count_set p (x ∷ l) zero a d h = omega arith
  count_set p (x ∷ l) (suc i) a d h = let z = count_set p l i a d (omega arith) in omega arith

  pub count-get : (p : A → Bool) (l : List A) (i : ℕ) (d : A) → i < length l → one (p (get_or l i d)) ≤ count p l
  unfolding count
  count-get p [] i d h = absurd (omega arith)
  count-get p (x ∷ l) zero d h = omega arith
  count-get p (x ∷ l) (suc i) d h = let z = count-get p l i d (omega arith) in omega arith

  -- some member passes exactly if one is counted
  pub some-counts : (p : A → Bool) (l : List A) → some? p l ≡ true → 1 ≤ count p l
  unfolding count some?
  some-counts p [] e = absurd (false≢true e)
  some-counts p (x ∷ l) e = by (p x) e (some-counts p l)
    where
      by : (b : Bool) → cond b true (some? p l) ≡ true → (some? p l ≡ true → 1 ≤ count p l) → 1 ≤ one b + count p l
      by true e h = omega arith
      by false e h = let z = h e in omega arith

  pub counts_some : (p : A → Bool) (l : List A) → 1 ≤ count p l → some? p l ≡ true
  unfolding count some?
  counts_some p [] h = absurd (omega arith)
  counts_some p (x ∷ l) h = by (p x) h (counts_some p l)
    where
      by : (b : Bool) → 1 ≤ one b + count p l → (1 ≤ count p l → some? p l ≡ true) → cond b true (some? p l) ≡ true
      by true h k = refl
      by false h k = k (omega arith)

  pub count-apart : (p q : A → Bool) (l : List A) → ((a : A) → one (p a) + one (q a) ≤ 1) → count p l + count q l ≤ length l
  unfolding count
  count-apart p q [] h = omega arith
  count-apart p q (a ∷ l) h = let z = count-apart p q l h in let o = h a in omega arith

  pub all_push : (P : A → Type 0) (l : List A) (a : A) → All P l → P a → All P (l ++ (a ∷ []))
  unfolding All
  all_push P [] a h p = (p, tt)
  all_push P (x ∷ l) a h p = (h.0, all_push P l a h.1 p)

  pub all_set : (P : A → Type 0) (l : List A) (i : ℕ) (a : A) → All P l → P a → All P (set l i a)
  unfolding All
  all_set P [] i a h p = tt
  all_set P (x ∷ l) zero a h p = (p, h.1)
  all_set P (x ∷ l) (suc i) a h p = (h.0, all_set P l i a h.1 p)

  pub all-get : (P : A → Type 0) (l : List A) (i : ℕ) (d : A) → All P l → i < length l → P (get_or l i d)
  unfolding All
  all-get P [] i d h k = absurd (omega arith)
  all-get P (x ∷ l) zero d h k = h.0
  all-get P (x ∷ l) (suc i) d h k = all-get P l i d h.1 (omega arith)

  pub all-imp : (P S : A → Type 0) (l : List A) → ((a : A) → P a → S a) → All P l → All S l
  unfolding All
  all-imp P S [] f h = tt
  all-imp P S (x ∷ l) f h = (f x h.0, all-imp P S l f h.1)

-- A record put into its table: at the first free place it is one more, at a place in use it takes the old one's.
use Prim.Native.Nat.{ℕ, ◌+◌, ◌≤◌, ◌<◌}
use mathlib.Core.Path.{◌≡◌, refl, ap, ◌∙◌}
use mathlib.Core.Bool.{Bool, true, false, cond}
use mathlib.Core.List.{List, [], ◌∷◌, ◌++◌}
use native.Mathlib.Numerals.{add-one}
use native.Mathlib.Omega.{arith}
use lib.Dec.{ltb as nat_lt}
use lib.ListN.{length, take, set, length-set}
use lib.Seq.{take-set-lt, take-suc-set}
use borrow.Author.Tests.{ltb-true, lt-ltb, le-ltb}
use Rattle.records.specs.declared.queries.Query.{Query}
use Rattle.records.specs.declared.queries.Queries.{Queries}
use Rattle.state.specs.State.{asked, tried}
use Rattle.state.specs.declared.attempts.Attempt.{Attempt}
use Rattle.state.specs.declared.attempts.Attempts.{Attempts}
use Rattle.after.specs.After.{counted, put_query, put_attempt}

-- how many, in a room of r
counted-in : (n p r : ℕ) → n ≤ r → p < r → counted n p ≤ r
counted-in n p r h k = by (nat_lt p n)
  where
    by : (b : Bool) → cond b n (p + 1) ≤ r
    by true = h
    by false = omega arith

-- a table t of any kind, with a count and a list in a room of r; u has x at place p
module _ {T A : Type 0} (number : T → ℕ) (list : T → List A) (r : ℕ) (t u : T) (p : ℕ) (x : A) (e : number u ≡ counted (number t) p) (f : list u ≡ set (list t) p x) where
  abbrev used : T → List A
  used v = take (number v) (list v)

  put-old : p < number t → number t ≤ r → used (cond (nat_lt p r) u t) ≡ set (used t) p x
  put-old h k = rw (lt-ltb p r (omega arith), e, f, lt-ltb p (number t) h) (take-set-lt (number t) (list t) p x h)

  put-new : p ≡ number t → p < r → length (list t) ≡ r → used (cond (nat_lt p r) u t) ≡ used t ++ (x ∷ [])
  put-new h k l =
      rw (lt-ltb p r k, e, f, ← h, le-ltb p p (omega arith), add-one p) (take-suc-set (list t) p x (omega (arith, l)))

  put-room : length (list (cond (nat_lt p r) u t)) ≡ length (list t)
  put-room = by (nat_lt p r)
    where
      by : (b : Bool) → length (list (cond b u t)) ≡ length (list t)
      by true = ap length f ∙ length-set (list t) p x
      by false = refl

  put_count : number t ≤ r → number (cond (nat_lt p r) u t) ≤ r
  put_count h = by (nat_lt p r) refl
    where
      by : (b : Bool) → nat_lt p r ≡ b → number (cond b u t) ≤ r
      by true g = omega (arith, e, counted-in (number t) p r h (ltb-true p r g))
      by false g = h

module _ (q : Queries) (p : ℕ) (x : Query) where
  abbrev asking : Queries
  asking = record { count = counted q.count p; list = set q.list p x }

  pub query-old : p < q.count → q.count ≤ 16 → asked (put_query q p x) ≡ set (asked q) p x
  unfolding put_query
  query-old = put-old (λ v. v.count) (λ v. v.list) 16 q asking p x refl refl

  pub query-new : p ≡ q.count → p < 16 → length q.list ≡ 16 → asked (put_query q p x) ≡ asked q ++ (x ∷ [])
  unfolding put_query
  query-new = put-new (λ v. v.count) (λ v. v.list) 16 q asking p x refl refl

  pub query-room : length (put_query q p x).list ≡ length q.list
  unfolding put_query
  query-room = put-room (λ v. v.count) (λ v. v.list) 16 q asking p x refl refl

  pub query-count : q.count ≤ 16 → (put_query q p x).count ≤ 16
  unfolding put_query
  query-count = put_count (λ v. v.count) (λ v. v.list) 16 q asking p x refl refl

module _ (a : Attempts) (p : ℕ) (x : Attempt) where
  abbrev trying : Attempts
  trying = record { count = counted a.count p; list = set a.list p x }

  pub attempt-old : p < a.count → a.count ≤ 32 → tried (put_attempt a p x) ≡ set (tried a) p x
  unfolding put_attempt
  attempt-old = put-old (λ v. v.count) (λ v. v.list) 32 a trying p x refl refl

  pub attempt-new : p ≡ a.count → p < 32 → length a.list ≡ 32 → tried (put_attempt a p x) ≡ tried a ++ (x ∷ [])
  unfolding put_attempt
  attempt-new = put-new (λ v. v.count) (λ v. v.list) 32 a trying p x refl refl

  pub attempt-room : length (put_attempt a p x).list ≡ length a.list
  unfolding put_attempt
  attempt-room = put-room (λ v. v.count) (λ v. v.list) 32 a trying p x refl refl

  pub attempt-count : a.count ≤ 32 → (put_attempt a p x).count ≤ 32
  unfolding put_attempt
  attempt-count = put_count (λ v. v.count) (λ v. v.list) 32 a trying p x refl refl

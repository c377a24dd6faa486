-- Interleaving, rules 3.1 to 3.3 (document 01, part 3); `interleave_endpoints` in the Rust. Its two aims are the draft's: after an endpoint
-- comes one of the other address family (5.3), and a protocol that is not critical is mixed in and not sorted apart (5.1.1). So endpoints stand
-- in groups and are dealt in rounds: a round gives the next member of each group that still has one, most preferred group first.
use Rattle.std.specs.Prelude.{ℕ, zero, suc, ◌+◌, ◌*◌, ◌/◌, ◌%◌, ◌<◌, ◌≡◌, ◌⊎◌, Bool, true, false, length, get_or, take, drop, nat_eq}
use mathlib.Core.List.{List, [], ◌∷◌, ◌++◌, Perm, Pairwise}

-- "Groups by (rank H3, H2OrH1, H2, H1; preferred family first)": rank 0 to 3 in that order, family 0 for the preferred one and 1 for the other.
-- "Names count as preferred": their family is 0. So there are eight groups, and the lowest number is the most preferred.
unfoldable pub group_of : ℕ → ℕ → ℕ
group_of rank family = rank * 2 + family

unfoldable pub rank_of : ℕ → ℕ
rank_of group = group / 2

unfoldable pub family_of : ℕ → ℕ
family_of group = group % 2

module _ {A : Type 0} where
  -- x before xs if the test passed
  abbrev pub cons_if : Bool → A → List A → List A
  cons_if true x xs = x ∷ xs
  cons_if false x xs = xs

  -- the members of xs that pass the test, in their order
  abbrev pub keep : (A → Bool) → List A → List A
  keep p [] = []
  keep p (x ∷ xs) = cons_if (p x) x (keep p xs)

  -- part 0, part 1, .. part (n - 1), one after the other
  abbrev pub joined : ℕ → (ℕ → List A) → List A
  joined zero part = []
  joined (suc n) part = joined n part ++ part n

  -- the members of group g, "input order holds inside a group"
  unfoldable pub queue : (A → ℕ) → List A → ℕ → List A
  queue group xs g = keep (λ x. nat_eq (group x) g) xs

  -- the r-th member of a queue, from 0: a list of one, or of none where the queue is shorter
  unfoldable pub nth : ℕ → List A → List A
  nth r q = take 1 (drop r q)

  -- round r: the r-th member of each of the eight groups, lowest group first
  unfoldable pub round : (A → ℕ) → List A → ℕ → List A
  round group xs r = joined 8 (λ g. nth r (queue group xs g))

  -- all rounds; there are no more of them than members
  unfoldable pub interleave : (A → ℕ) → List A → List A
  interleave group xs = joined (length xs) (round group xs)

-- 0, 1, .. n - 1
abbrev pub upto : ℕ → List ℕ
upto zero = []
upto (suc n) = upto n ++ (n ∷ [])

-- the same over positions: gs has the group of each position, and the result has the positions in dealt order
unfoldable pub order : List ℕ → List ℕ
order gs = interleave (λ i. get_or gs i 0) (upto (length gs))

-- every group is one of the eight
abbrev pub Grouped : List ℕ → Type 0
Grouped gs = (i : ℕ) → i < length gs → get_or gs i 0 < 8

-- the place of position i in its group: how many members of its group stand before it
unfoldable pub place : List ℕ → ℕ → ℕ
place gs i = length (queue (λ g. g) (take i gs) (get_or gs i 0))

-- (p, r, f) is below (q, s, h): so is the first of the three numbers in which they differ
abbrev pub Below : (p r f q s h : ℕ) → Type 0
Below p r f q s h = (p < q) ⊎ ((p ≡ q) × ((r < s) ⊎ ((r ≡ s) × (f < h))))

-- from position i to position j, (place in group, rank, family) rises strictly
unfoldable pub Rises : List ℕ → ℕ → ℕ → Type 0
Rises gs i j = Below (place gs i) (rank_of (get_or gs i 0)) (family_of (get_or gs i 0)) (place gs j) (rank_of (get_or gs j 0)) (family_of (get_or gs j 0))

-- What document 01 says of a result r: it "is a permutation, strictly rising by (place in group, rank, family)". `order` is such a result, and the
-- only one (proofs/Rising.antt).
pub record Interleaved (gs r : List ℕ) : Type 0 where
  pub permutation : Perm r (upto (length gs))
  pub rising : Pairwise (Rises gs) r

-- Laws of the groups, of interleaving over lists of anything, and of `order`.
use Prim.Native.Nat.{ℕ, zero, suc, ◌+◌, ◌<◌, ◌≤◌}
use mathlib.Core.Path.{◌≡◌, refl, sym, ap, ◌∙◌}
use mathlib.Core.Logic.{⊎_elim}
use mathlib.Core.List.Memᴰ
use mathlib.Core.List.Perm
use mathlib.Core.List.{List, [], ◌∷◌, ◌++◌, map, map-append, Memᴰ, Perm}
use mathlib.Core.Bool.{Bool, true, false}
use native.Mathlib.Nat.{add_comm, le_of_suc-le-suc}
use native.Mathlib.Omega.{arith}
use lib.ListN.{length, get_or, take, length-append, length-map, get_or-map}
use lib.Seq.{take_all, take-suc, take-length}
use lib.Dec.{eqb as nat_eq}
use borrow.Author.Tests.{eq-eqb, ne_eqb, eqb-true}
use Rattle.deal.specs.Interleaving.{group_of, rank_of, family_of, keep, joined, queue, nth, round, interleave, upto, order, Grouped}
use Rattle.deal.proofs.Lists.{keep-joined, keep_all, keep-none, keep-ext, length-keep, joined-ext, joined-none, joined-more, joined-only, joined-nth, nth_past, mem-nth, mem-joined, mem-keep, perm-of-eq, joined-swap, joined-insert, keep-map, map-joined, map-nth, get_or-mem, perm-length}

-- The example in the Rust's comment: three IPv6 addresses, then one IPv4 address, each with H3 and H2OrH1, and IPv6 preferred.
pub comment-example : order (group_of 0 0 ∷ group_of 1 0 ∷ group_of 0 0 ∷ group_of 1 0 ∷ group_of 0 0 ∷ group_of 1 0 ∷ group_of 0 1 ∷ group_of 1 1 ∷ []) ≡ 0 ∷ 6 ∷ 1 ∷ 7 ∷ 2 ∷ 3 ∷ 4 ∷ 5 ∷ []
unfolding group_of order interleave round nth queue
comment-example = refl

-- A group is its rank and its family, and ranks below 4 and families below 2 give the eight.
pub group-rank : (r f : ℕ) → f < 2 → rank_of (group_of r f) ≡ r
unfolding rank_of group_of
group-rank r f l = omega arith

pub group-family : (r f : ℕ) → f < 2 → family_of (group_of r f) ≡ f
unfolding family_of group_of
group-family r f l = omega arith

pub group-below : (r f : ℕ) → r < 4 → f < 2 → group_of r f < 8
unfolding group_of
group-below r f k l = omega arith

pub group-again : (g : ℕ) → group_of (rank_of g) (family_of g) ≡ g
unfolding group_of rank_of family_of
group-again g = omega arith

module _ {A : Type 0} where
  -- there are no more rounds than members
  round-past : (f : A → ℕ) (xs : List A) (r : ℕ) → length xs ≤ r → round f xs r ≡ []
  unfolding round queue
  round-past f xs r l = joined-none 8 _ (λ g m. nth_past r (keep (λ x. nat_eq (f x) g) xs) (omega (arith, length-keep (λ x. nat_eq (f x) g) xs)))

  -- every member of the result is one of the list
  pub interleave-member : {x : A} (f : A → ℕ) (xs : List A) → Memᴰ x (interleave f xs) → Memᴰ x xs
  unfolding interleave round queue
  interleave-member f xs m =
      let v = mem-joined (length xs) (round f xs) m in
      let w = mem-joined 8 (λ g. nth v.0 (queue f xs g)) v.2 in
      (mem-keep (λ x. nat_eq (f x) w.0) xs (mem-nth v.0 (queue f xs w.0) w.2)).0

  -- lists whose groups have the same members in the same order are dealt alike
  pub alike : (f : A → ℕ) (xs ys : List A) → ((g : ℕ) → g < 8 → queue f xs g ≡ queue f ys g) → interleave f xs ≡ interleave f ys
  unfolding interleave
  alike f xs ys e = sym more-x ∙ (joined-ext (length ys + length xs) (round f xs) (round f ys) same ∙ (rw add_comm more-y))
    where
      more-x : joined (length ys + length xs) (round f xs) ≡ joined (length xs) (round f xs)
      more-x = joined-more (length xs) (length ys) (round f xs) (λ k l. round-past f xs k l)

      more-y : joined (length xs + length ys) (round f ys) ≡ joined (length ys) (round f ys)
      more-y = joined-more (length ys) (length xs) (round f ys) (λ k l. round-past f ys k l)

      same : (r : ℕ) → r < length ys + length xs → round f xs r ≡ round f ys r
      same r l = unfold round in joined-ext 8 _ _ (λ g m. ap (nth r) (e g m))

  -- every member of the r-th of queue g is in group g
  pub nth-group : (f : A → ℕ) (xs : List A) (g r : ℕ) (x : A) → Memᴰ x (nth r (queue f xs g)) → f x ≡ g
  unfolding queue
  nth-group f xs g r x m = eqb-true (f x) g (mem-keep (λ y. nat_eq (f y) g) xs (mem-nth r (keep (λ y. nat_eq (f y) g) xs) m)).1

  -- the rounds of one group together are its queue
  rounds-queue : (f : A → ℕ) (xs : List A) (g : ℕ) → joined (length xs) (λ r. nth r (queue f xs g)) ≡ queue f xs g
  rounds-queue f xs g = joined-nth (length xs) (queue f xs g) ∙ take_all (length xs) (queue f xs g) short
    where
      short : length (queue f xs g) ≤ length xs
      short = unfold queue in length-keep (λ x. nat_eq (f x) g) xs

  -- Input order holds inside a group: each group's queue stays as it was.
  pub inner-order : (f : A → ℕ) (xs : List A) (g : ℕ) → g < 8 → queue f (interleave f xs) g ≡ queue f xs g
  unfolding interleave round
  inner-order f xs g l =
      split ∙ (joined-ext (length xs) (λ r. keep p (round f xs r)) (λ r. nth r (queue f xs g)) (λ r m. each r) ∙ rounds-queue f xs g)
    where
      p : A → Bool
      p x = nat_eq (f x) g

      split : queue f (interleave f xs) g ≡ joined (length xs) (λ r. keep p (round f xs r))
      split = unfold queue in keep-joined p (length xs) (round f xs)

      yes-g : (r : ℕ) (x : A) → Memᴰ x (nth r (queue f xs g)) → p x ≡ true
      yes-g r x m = eq-eqb (f x) g (nth-group f xs g r x m)

      no-g : (r k : ℕ) → (k ≡ g → ⊥) → (x : A) → Memᴰ x (nth r (queue f xs k)) → p x ≡ false
      no-g r k ne x m = ne_eqb (f x) g (λ q. ne (sym (nth-group f xs k r x m) ∙ q))

      each : (r : ℕ) → keep p (round f xs r) ≡ nth r (queue f xs g)
      each r =
          unfold round in
          (keep-joined p 8 (λ k. nth r (queue f xs k)) ∙ (joined-only 8 g (λ k. keep p (nth r (queue f xs k))) l (λ k ne. keep-none p _ (no-g r k ne)) ∙ keep_all p _ (yes-g r)))

  -- Interleaving twice is the same as once.
  pub twice : (f : A → ℕ) (xs : List A) → interleave f (interleave f xs) ≡ interleave f xs
  twice f xs = alike f (interleave f xs) xs (inner-order f xs)

  -- An empty list gives nothing.
  pub empty : (f : A → ℕ) → interleave f [] ≡ []
  unfolding interleave
  empty f = refl

  -- the queues of all groups together are the list
  queues-perm : (f : A → ℕ) (n : ℕ) (xs : List A) → ((x : A) → Memᴰ x xs → f x < n) → Perm (joined n (queue f xs)) xs
  unfolding queue
  queues-perm f n [] h = perm-of-eq (joined-none n (λ g. []) (λ k l. refl))
  queues-perm f n (x ∷ xs) h =
      Perm.trans (joined-insert x (f x) n (λ g. keep (λ y. nat_eq (f y) g) xs) (h x (Memᴰ.head refl))) (Perm.cons x (queues-perm f n xs (λ y m. h y (Memᴰ.tail m))))

  -- The result is a permutation of the list.
  pub permutation : (f : A → ℕ) (xs : List A) → ((x : A) → Memᴰ x xs → f x < 8) → Perm (interleave f xs) xs
  unfolding interleave round
  permutation f xs h =
      Perm.trans (joined-swap (length xs) 8 (λ r g. nth r (queue f xs g)))
      (Perm.trans (perm-of-eq (joined-ext 8 (λ g. joined (length xs) (λ r. nth r (queue f xs g))) (queue f xs) (λ g l. rounds-queue f xs g))) (queues-perm f 8 xs h))

  -- Only the groups of the members matter.
  pub group-ext : (f g : A → ℕ) (xs : List A) → ((x : A) → Memᴰ x xs → f x ≡ g x) → interleave f xs ≡ interleave g xs
  unfolding interleave round queue
  group-ext f g xs e =
      joined-ext (length xs) _ _ (λ r l. joined-ext 8 _ _ (λ k m. ap (nth r) (keep-ext (λ x. nat_eq (f x) k) (λ x. nat_eq (g x) k) xs (λ x i. ap (λ (n : ℕ). nat_eq n k) (e x i)))))

module _ {A B : Type 0} (h : A → B) where
  pub map-queue : (f : B → ℕ) (xs : List A) (g : ℕ) → queue f (map h xs) g ≡ map h (queue (λ x. f (h x)) xs g)
  unfolding queue
  map-queue f xs g = keep-map h (λ x. nat_eq (f x) g) xs

  map-round : (f : B → ℕ) (xs : List A) (r : ℕ) → round f (map h xs) r ≡ map h (round (λ x. f (h x)) xs r)
  unfolding round
  map-round f xs r =
      joined-ext 8 (λ g. nth r (queue f (map h xs) g)) (λ g. map h (nth r (queue (λ x. f (h x)) xs g)))
      (λ g m. ap (nth r) (map-queue f xs g) ∙ sym (map-nth h r (queue (λ x. f (h x)) xs g)))
      ∙ sym (map-joined h 8 (λ g. nth r (queue (λ x. f (h x)) xs g)))

  -- What is dealt does not matter, only its group.
  pub natural : (f : B → ℕ) (xs : List A) → interleave f (map h xs) ≡ map h (interleave (λ x. f (h x)) xs)
  unfolding interleave
  natural f xs =
      rw (length-map xs h)
      (joined-ext (length xs) (round f (map h xs)) (λ r. map h (round (λ x. f (h x)) xs r)) (λ r l. map-round f xs r)
      ∙ sym (map-joined h (length xs) (round (λ x. f (h x)) xs)))

-- within the list the default does not matter
get_d_default : {A : Type 0} (xs : List A) (i : ℕ) (d e : A) → i < length xs → get_or xs i d ≡ get_or xs i e
get_d_default [] i d e l = absurd (omega arith)
get_d_default (x ∷ xs) zero d e l = refl
get_d_default (x ∷ xs) (suc i) d e l = get_d_default xs i d e (le_of_suc-le-suc l)

-- the positions below n
pub mem-upto : (n i : ℕ) → Memᴰ i (upto n) → i < n
mem-upto zero i m = absurd (Memᴰ.not-nil m)
mem-upto (suc n) i m =
    ⊎_elim (λ l. let h : i < n = mem-upto n i l in omega arith) (λ r. let e : i ≡ n = Memᴰ.eq_of_singleton r in omega arith) (Memᴰ.append_cases (upto n) m)

pub length-upto : (n : ℕ) → length (upto n) ≡ n
length-upto zero = refl
length-upto (suc n) = length-append (upto n) (n ∷ []) ∙ omega (arith, length-upto n)

pub map-upto : {A : Type 0} (xs : List A) (d : A) (n : ℕ) → n ≤ length xs → map (λ i. get_or xs i d) (upto n) ≡ take n xs
map-upto xs d zero l = refl
map-upto xs d (suc n) l =
    map-append (λ (i : ℕ). get_or xs i d) (upto n) (n ∷ [])
    ∙ (ap (λ ys. ys ++ (get_or xs n d ∷ [])) (map-upto xs d n (omega arith)) ∙ sym (take-suc xs n d l))

-- Interleaving a list is picking its members by `order` of their groups.
pub by_order : {A : Type 0} (f : A → ℕ) (xs : List A) (d : A) → interleave f xs ≡ map (λ i. get_or xs i d) (order (map f xs))
unfolding order
by_order f xs d =
    ap (interleave f) (sym (map-upto xs d (length xs) (omega arith) ∙ take-length xs))
    ∙ (natural (λ i. get_or xs i d) f (upto (length xs)) ∙ ap (map (λ i. get_or xs i d)) groups)
  where
    at : (i : ℕ) → i < length xs → f (get_or xs i d) ≡ get_or (map f xs) i 0
    at i l = sym (get_or-map f xs i d) ∙ get_d_default (map f xs) i (f d) 0 (rw (length-map xs f) l)

    groups : interleave (λ i. f (get_or xs i d)) (upto (length xs)) ≡ interleave (λ i. get_or (map f xs) i 0) (upto (length (map f xs)))
    groups = rw (length-map xs f) (group-ext (λ i. f (get_or xs i d)) (λ i. get_or (map f xs) i 0) (upto (length xs)) (λ i m. at i (mem-upto (length xs) i m)))

-- `order` is a permutation of the positions,
pub order-permutation : (gs : List ℕ) → Grouped gs → Perm (order gs) (upto (length gs))
unfolding order
order-permutation gs small = permutation (λ i. get_or gs i 0) (upto (length gs)) (λ i m. small i (mem-upto (length gs) i m))

-- and as long as the list
pub length-order : (gs : List ℕ) → Grouped gs → length (order gs) ≡ length gs
length-order gs s = perm-length (order-permutation gs s) ∙ length-upto (length gs)

-- every member of `order` is a position
pub order-member : (gs : List ℕ) (i : ℕ) → Memᴰ i (order gs) → i < length gs
unfolding order
order-member gs i m = mem-upto (length gs) i (interleave-member (λ k. get_or gs k 0) (upto (length gs)) m)

pub order_below : (gs : List ℕ) (k : ℕ) → k < length (order gs) → get_or (order gs) k 0 < length gs
order_below gs k l = order-member gs (get_or (order gs) k 0) (get_or-mem (order gs) k 0 l)

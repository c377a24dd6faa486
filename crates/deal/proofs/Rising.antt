-- `order` is a permutation of the positions, strictly rising by (place in group, rank, family), and the only one.
use Prim.Native.Nat.{ℕ, zero, suc, ◌+◌, ◌*◌, ◌-◌, ◌/◌, ◌%◌, ◌<◌, ◌≤◌}
use mathlib.Core.Path.{◌≡◌, refl, sym, ap, ◌∙◌, subst}
use mathlib.Core.Logic.Or
use mathlib.Core.Logic.{inl, inr, ⊎_elim}
use mathlib.Core.List.Memᴰ
use mathlib.Core.List.Perm
use mathlib.Core.List.Pairwise
use mathlib.Core.List.{List, [], ◌∷◌, ◌++◌, Memᴰ, Mem, mem-cons_self, eq-or-mem_of_mem-cons, Pairwise, Pairwise-cons, Perm}
use mathlib.Core.Bool.{Bool, true, false}
use native.Mathlib.Nat.{ℕ_set}
use native.Mathlib.Omega.{arith}
use native.Mathlib.Bridge.{le_prop}
use lib.ListN.{length, get_or, take, length-map}
use lib.Dec.{eqb as nat_eq}
use borrow.Author.Tests.{eqb-true}
use Rattle.deal.specs.Interleaving.{rank_of, family_of, cons_if, keep, queue, nth, round, interleave, upto, order, Grouped, place, Below, Rises, Interleaved}
use Rattle.deal.proofs.Lists.{lt-or-ge, keep_append, nth_past, nth_left, nth_right, mem-nth, mem-joined, joined-pairwise, nth-pairwise, get_d_past}
use Rattle.deal.proofs.Laws.{nth-group, map-queue, map-upto, order-permutation}

-- as many of the first n positions are in group g as of the first n groups are g
queue-length : (gs : List ℕ) (n g : ℕ) → n ≤ length gs → length (queue (λ i. get_or gs i 0) (upto n) g) ≡ length (queue (λ x. x) (take n gs) g)
queue-length gs n g l = sym (ap (λ ys. length (queue (λ x. x) ys g)) (sym (map-upto gs 0 n l)) ∙ (ap length (map-queue (λ i. get_or gs i 0) (λ x. x) (upto n) g) ∙ length-map (queue (λ i. get_or gs i 0) (upto n) g) (λ i. get_or gs i 0)))

place_at : (gs : List ℕ) (n : ℕ) → place gs n ≡ length (queue (λ g. g) (take n gs) (get_or gs n 0))
unfolding place
place_at gs n = refl

-- the r-th of queue g has place r
nth-place : (gs : List ℕ) (g r n i : ℕ) → n ≤ length gs → Memᴰ i (nth r (queue (λ k. get_or gs k 0) (upto n) g)) → place gs i ≡ r
unfolding queue
nth-place gs g r zero i l m = absurd (Memᴰ.not-nil (mem-nth r [] m))
nth-place gs g r (suc n) i l m = ⊎_elim (λ h. nth-place gs g r n i (omega arith) (early h)) late (lt-or-ge r (length a))
  where
    p : ℕ → Bool
    p k = nat_eq (get_or gs k 0) g

    a : List ℕ
    a = keep p (upto n)

    split : keep p (upto (suc n)) ≡ a ++ cons_if (p n) n []
    split = keep_append p (upto n) (n ∷ [])

    m' : Memᴰ i (nth r (a ++ cons_if (p n) n []))
    m' = subst (λ (q : List ℕ). Memᴰ i (nth r q)) split m

    early : r < length a → Memᴰ i (nth r a)
    early h = subst (λ (q : List ℕ). Memᴰ i q) (nth_left r a (cons_if (p n) n []) h) m'

    late : length a ≤ r → place gs i ≡ r
    late h = go (p n) refl (subst (λ (q : List ℕ). Memᴰ i q) (nth_right r a (cons_if (p n) n []) h) m')
      where
        go : (b : Bool) → p n ≡ b → Memᴰ i (nth (r - length a) (cons_if b n [])) → place gs i ≡ r
        go false e w = absurd (Memᴰ.not-nil (mem-nth (r - length a) [] w))
        go true e w =
            let i=n : i ≡ n = Memᴰ.eq_of_singleton (mem-nth (r - length a) (n ∷ []) w) in
            let g=n : get_or gs n 0 ≡ g = eqb-true (get_or gs n 0) g e in
            let q : length a ≡ length (keep (λ x. nat_eq x g) (take n gs)) = queue-length gs n g (omega arith) in
            ap (place gs) i=n ∙ (place_at gs n ∙ (ap (λ k. length (keep (λ x. nat_eq x k) (take n gs))) g=n ∙ (sym q ∙ last)))
          where
            none : 1 ≤ r - length a → ⊥
            none h1 = Memᴰ.not-nil (subst (λ (q : List ℕ). Memᴰ i q) (nth_past (r - length a) (n ∷ []) h1) w)

            last : length a ≡ r
            last = ⊎_elim (λ z. omega arith) (λ z. absurd (none z)) (lt-or-ge (r - length a) 1)

-- (place, rank, family) as one number: it rises as the three do, since groups are below 8 and rank * 2 + family is the group
unfoldable pub key : List ℕ → ℕ → ℕ
key gs i = place gs i * 8 + get_or gs i 0

key-at : (gs : List ℕ) (i : ℕ) → key gs i ≡ place gs i * 8 + get_or gs i 0
unfolding key
key-at gs i = refl

-- the order of the key
abbrev KeyRises : List ℕ → ℕ → ℕ → Type 0
KeyRises gs i j = key gs i < key gs j

-- `order` rises by the key
key-rising : (gs : List ℕ) → Pairwise (KeyRises gs) (order gs)
unfolding order interleave round
key-rising gs = joined-pairwise (KeyRises gs) (λ i j. le_prop) (length (upto (length gs))) (round at (upto (length gs))) inside across
  where
    at : ℕ → ℕ
    at i = get_or gs i 0

    dealt : ℕ → ℕ → List ℕ
    dealt r g = nth r (queue at (upto (length gs)) g)

    is : (r g i : ℕ) → Memᴰ i (dealt r g) → key gs i ≡ r * 8 + g
    is r g i m =
        let p : place gs i ≡ r = nth-place gs g r (length gs) i (omega arith) m in
        let q : get_or gs i 0 ≡ g = nth-group at (upto (length gs)) g r i m in
        key-at gs i ∙ rw (p, q) refl

    inside : (r : ℕ) → Pairwise (KeyRises gs) (round at (upto (length gs)) r)
    inside r = joined-pairwise (KeyRises gs) (λ i j. le_prop) 8 (dealt r) (λ g. nth-pairwise (KeyRises gs) r (queue at (upto (length gs)) g)) next
      where
        next : (g h : ℕ) → g < h → (i j : ℕ) → Memᴰ i (dealt r g) → Memᴰ j (dealt r h) → KeyRises gs i j
        next g h l i j m n = rw (is r g i m, is r h j n) (omega arith)

    across : (r s : ℕ) → r < s → (i j : ℕ) → Memᴰ i (round at (upto (length gs)) r) → Memᴰ j (round at (upto (length gs)) s) → KeyRises gs i j
    across r s l i j m n =
        let v = mem-joined 8 (dealt r) m in
        let w = mem-joined 8 (dealt s) n in
        rw (is r v.0 i v.2, is s w.0 j w.2) (omega (arith, v.1))

-- past the list the group reads as 0, so it is below 8 everywhere
below-8 : (gs : List ℕ) → Grouped gs → (i : ℕ) → get_or gs i 0 < 8
below-8 gs small i = ⊎_elim (small i) (λ l. rw (get_d_past gs i 0 l) (omega arith)) (lt-or-ge i (length gs))

-- p * 8 + g rises exactly as (p, g / 2, g % 2) does
number-below : (p g q h : ℕ) → g < 8 → h < 8 → p * 8 + g < q * 8 + h → Below p (g / 2) (g % 2) q (h / 2) (h % 2)
number-below p g q h g8 h8 l =
    ⊎_elim inl
    (λ (ge : q ≤ p). inr (omega arith, ⊎_elim inl (λ (f : h / 2 ≤ g / 2). inr (omega arith, omega arith)) (lt-or-ge (g / 2) (h / 2))))
    (lt-or-ge p q)

below-number : (p g q h : ℕ) → g < 8 → h < 8 → Below p (g / 2) (g % 2) q (h / 2) (h % 2) → p * 8 + g < q * 8 + h
below-number p g q h g8 h8 (inl l) = omega arith
below-number p g q h g8 h8 (inr (e, inl l)) = omega arith
below-number p g q h g8 h8 (inr (e, inr (f, l))) = omega arith

-- The key rises exactly as (place, rank, family) does.
pub key-triple : (gs : List ℕ) → Grouped gs → (i j : ℕ) → key gs i < key gs j → Rises gs i j
unfolding Rises rank_of family_of key
key-triple gs small i j = number-below (place gs i) (get_or gs i 0) (place gs j) (get_or gs j 0) (below-8 gs small i) (below-8 gs small j)

pub triple-key : (gs : List ℕ) → Grouped gs → (i j : ℕ) → Rises gs i j → key gs i < key gs j
unfolding Rises rank_of family_of key
triple-key gs small i j = below-number (place gs i) (get_or gs i 0) (place gs j) (get_or gs j 0) (below-8 gs small i) (below-8 gs small j)

-- `order` is what document 01 says of the result.
pub interleaved : (gs : List ℕ) → Grouped gs → Interleaved gs (order gs)
interleaved gs small = record { permutation = order-permutation gs small; rising = Pairwise.imp {R = KeyRises gs} {S = Rises gs} (key-triple gs small) {l = order gs} (key-rising gs) }

-- two lists that hold the same members and are strictly rising by k are equal
sorted-unique : (k : ℕ → ℕ) (xs ys : List ℕ) → Pairwise (λ i j. k i < k j) xs → Pairwise (λ i j. k i < k j) ys → Perm xs ys → xs ≡ ys
sorted-unique k [] ys a b p = Perm.nil-eq p
sorted-unique k (x ∷ xs) [] a b p = Perm.eq-nil p
sorted-unique k (x ∷ xs) (y ∷ ys) a b p = rw head (ap (λ (l : List ℕ). y ∷ l) (sorted-unique k xs ys ca.1 cb.1 rest))
  where
    ca : ((z : ℕ) → Mem z xs → k x < k z) × Pairwise (λ i j. k i < k j) xs
    ca = Pairwise-cons.0 a

    cb : ((z : ℕ) → Mem z ys → k y < k z) × Pairwise (λ i j. k i < k j) ys
    cb = Pairwise-cons.0 b

    head : x ≡ y
    head =
        Or.elim (ℕ_set x y) (eq-or-mem_of_mem-cons ((Perm.mem_iff p).0 mem-cons_self)) (λ e. e)
        (λ m. Or.elim (ℕ_set x y) (eq-or-mem_of_mem-cons ((Perm.mem_iff p).1 mem-cons_self)) (λ e. sym e) (λ n. absurd (clash (cb.0 x m) (ca.0 y n))))
      where
        clash : k y < k x → k x < k y → ⊥
        clash u v = omega arith

    rest : Perm xs ys
    rest = Perm.cons_inv (subst (λ (z : ℕ). Perm (z ∷ xs) (y ∷ ys)) head p)

-- And it is the only one: document 01's sentence says all of it.
pub only-order : (gs r : List ℕ) → Grouped gs → Interleaved gs r → r ≡ order gs
only-order gs r small d =
    sorted-unique (key gs) r (order gs) (Pairwise.imp {R = Rises gs} {S = KeyRises gs} (triple-key gs small) {l = r} d.rising) (key-rising gs)
    (Perm.trans d.permutation (Perm.symm (order-permutation gs small)))

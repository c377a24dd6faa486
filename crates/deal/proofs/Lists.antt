-- Laws of lists of anything: `keep`, `joined`, `nth`, their members and their lengths.
use Prim.Native.Nat.{ℕ, zero, suc, ◌+◌, ◌-◌, ◌<◌, ◌≤◌}
use mathlib.Core.Path.{◌≡◌, refl, sym, ap, ◌∙◌, subst}
use mathlib.Core.Logic.{◌⊎◌, inl, inr, ⊎_elim, ∥∥₁_elim}
use mathlib.Core.List.Memᴰ
use mathlib.Core.List.Perm
use mathlib.Core.List.{List, [], ◌∷◌, ◌++◌, map, map-append, append-nil, append_assoc, Memᴰ, Mem, Permᴰ, Pairwise, Pairwise-append, Pairwise-singleton, Perm, perm_append_comm, perm_middle}
use mathlib.Core.Bool.{Bool, true, false}
use native.Mathlib.Nat.{zero-add, suc-add, eq-or-lt_of_le, le_of_suc-le-suc, ℕ_set}
use native.Mathlib.Numerals.{add-one}
use native.Mathlib.Omega.{arith}
use native.Mathlib.Decide.{dec_lt}
use lib.ListN.{length, get_or, take, drop, length-append, length-drop, drop_of_length-le}
use lib.Seq.{take-add, take-append-le, drop-append-le, drop-append-add}
use lib.Dec.{eqb as nat_eq}
use borrow.Author.Tests.{eq-eqb, ne_eqb}
use Rattle.deal.specs.Interleaving.{cons_if, keep, joined, nth}

-- one of two
pub lt-or-ge : (a b : ℕ) → (a < b) ⊎ (b ≤ a)
lt-or-ge a b = elim (dec_lt a b) [ yes p ↦ inl p | no n ↦ inr (omega arith) ]

module _ {A : Type 0} where
  cons_if-append : (b : Bool) (x : A) (xs ys : List A) → cons_if b x xs ++ ys ≡ cons_if b x (xs ++ ys)
  cons_if-append true x xs ys = refl
  cons_if-append false x xs ys = refl

  pub keep_append : (p : A → Bool) (xs ys : List A) → keep p (xs ++ ys) ≡ keep p xs ++ keep p ys
  keep_append p [] ys = refl
  keep_append p (x ∷ xs) ys = ap (cons_if (p x) x) (keep_append p xs ys) ∙ sym (cons_if-append (p x) x (keep p xs) (keep p ys))

  pub keep-joined : (p : A → Bool) (n : ℕ) (F : ℕ → List A) → keep p (joined n F) ≡ joined n (λ k. keep p (F k))
  keep-joined p zero F = refl
  keep-joined p (suc n) F = keep_append p (joined n F) (F n) ∙ ap (λ (l : List A). l ++ keep p (F n)) (keep-joined p n F)

  pub keep_all : (p : A → Bool) (xs : List A) → ((x : A) → Memᴰ x xs → p x ≡ true) → keep p xs ≡ xs
  keep_all p [] h = refl
  keep_all p (x ∷ xs) h = rw (h x (Memᴰ.head refl)) (ap (λ (l : List A). x ∷ l) (keep_all p xs (λ y m. h y (Memᴰ.tail m))))

  pub keep-none : (p : A → Bool) (xs : List A) → ((x : A) → Memᴰ x xs → p x ≡ false) → keep p xs ≡ []
  keep-none p [] h = refl
  keep-none p (x ∷ xs) h = rw (h x (Memᴰ.head refl)) (keep-none p xs (λ y m. h y (Memᴰ.tail m)))

  pub keep-ext : (p q : A → Bool) (xs : List A) → ((x : A) → Memᴰ x xs → p x ≡ q x) → keep p xs ≡ keep q xs
  keep-ext p q [] e = refl
  keep-ext p q (x ∷ xs) e = rw (e x (Memᴰ.head refl)) (ap (cons_if (q x) x) (keep-ext p q xs (λ y m. e y (Memᴰ.tail m))))

  cons_if-length : (b : Bool) (x : A) (xs : List A) → length (cons_if b x xs) ≤ suc (length xs)
  cons_if-length true x xs = omega arith
  cons_if-length false x xs = omega arith

  pub length-keep : (p : A → Bool) (xs : List A) → length (keep p xs) ≤ length xs
  length-keep p [] = omega arith
  length-keep p (x ∷ xs) = omega (arith, cons_if-length (p x) x (keep p xs), length-keep p xs)

  pub joined-ext : (n : ℕ) (F G : ℕ → List A) → ((k : ℕ) → k < n → F k ≡ G k) → joined n F ≡ joined n G
  joined-ext zero F G e = refl
  joined-ext (suc n) F G e =
      let a : joined n F ≡ joined n G = joined-ext n F G (λ k l. e k (omega arith)) in
      let b : F n ≡ G n = e n (omega arith) in
      cc

  pub joined-none : (n : ℕ) (F : ℕ → List A) → ((k : ℕ) → k < n → F k ≡ []) → joined n F ≡ []
  joined-none zero F e = refl
  joined-none (suc n) F e = rw (joined-none n F (λ k l. e k (omega arith)), e n (omega arith)) refl

  -- parts past m that are empty add nothing
  pub joined-more : (m n : ℕ) (F : ℕ → List A) → ((k : ℕ) → m ≤ k → F k ≡ []) → joined (n + m) F ≡ joined m F
  joined-more m zero F e = rw zero-add refl
  joined-more m (suc n) F e = rw suc-add (rw (e (n + m) (omega arith)) (append-nil (joined (n + m) F) ∙ joined-more m n F e))

  -- one part alone is not empty
  pub joined-only : (n g : ℕ) (F : ℕ → List A) → g < n → ((k : ℕ) → (k ≡ g → ⊥) → F k ≡ []) → joined n F ≡ F g
  joined-only zero g F l e = absurd (omega arith)
  joined-only (suc n) g F l e =
      ⊎_elim
      (λ (q : g ≡ n). rw (joined-none n F (λ k m. e k (λ r. omega arith))) (ap F (sym q)))
      (λ (m : g < n). rw (e n (λ r. omega arith)) (append-nil (joined n F) ∙ joined-only n g F m e))
      (eq-or-lt_of_le (le_of_suc-le-suc l))

  pub joined-nth : (n : ℕ) (q : List A) → joined n (λ r. nth r q) ≡ take n q
  unfolding nth
  joined-nth zero q = refl
  joined-nth (suc n) q = ap (λ (l : List A). l ++ take 1 (drop n q)) (joined-nth n q) ∙ sym (rw (← add-one) (take-add n 1 q))

  pub nth_past : (r : ℕ) (q : List A) → length q ≤ r → nth r q ≡ []
  unfolding nth
  nth_past r q l = rw (drop_of_length-le q l) refl

  pub nth_left : (r : ℕ) (a b : List A) → r < length a → nth r (a ++ b) ≡ nth r a
  unfolding nth
  nth_left r a b l = rw (drop-append-le r a b (omega arith)) (take-append-le 1 (drop r a) b (omega (arith, length-drop r a)))

  pub nth_right : (r : ℕ) (a b : List A) → length a ≤ r → nth r (a ++ b) ≡ nth (r - length a) b
  unfolding nth
  nth_right r a b l = ap (take 1) (ap (λ k. drop k (a ++ b)) e ∙ drop-append-add a b (r - length a))
    where
      e : r ≡ length a + (r - length a)
      e = omega arith

  -- members
  mem-take : {x : A} (n : ℕ) (xs : List A) → Memᴰ x (take n xs) → Memᴰ x xs
  mem-take zero xs m = absurd (Memᴰ.not-nil m)
  mem-take (suc n) [] m = m
  mem-take (suc n) (y ∷ xs) m =
      ⊎_elim (λ q. Memᴰ.head q) (λ t. Memᴰ.tail (mem-take n xs t)) (Memᴰ.cases_cons m)

  mem-drop : {x : A} (n : ℕ) (xs : List A) → Memᴰ x (drop n xs) → Memᴰ x xs
  mem-drop zero xs m = m
  mem-drop (suc n) [] m = m
  mem-drop (suc n) (y ∷ xs) m = Memᴰ.tail (mem-drop n xs m)

  pub mem-nth : {x : A} (r : ℕ) (q : List A) → Memᴰ x (nth r q) → Memᴰ x q
  unfolding nth
  mem-nth r q m = mem-drop r q (mem-take 1 (drop r q) m)

  pub mem-joined : {x : A} (n : ℕ) (F : ℕ → List A) → Memᴰ x (joined n F) → (k : ℕ) × (k < n) × Memᴰ x (F k)
  mem-joined zero F m = absurd (Memᴰ.not-nil m)
  mem-joined {x} (suc n) F m = ⊎_elim (λ l. up (mem-joined n F l)) (λ r. (n, omega arith, r)) (Memᴰ.append_cases (joined n F) m)
    where
      up : ((k : ℕ) × (k < n) × Memᴰ x (F k)) → (k : ℕ) × (k < suc n) × Memᴰ x (F k)
      up t = (t.0, omega arith, t.2)

  pub mem-keep : {x : A} (p : A → Bool) (xs : List A) → Memᴰ x (keep p xs) → Memᴰ x xs × (p x ≡ true)
  mem-keep p [] m = absurd (Memᴰ.not-nil m)
  mem-keep {x} p (y ∷ xs) m = go (p y) refl m (mem-keep p xs)
    where
      up : Memᴰ x xs × (p x ≡ true) → Memᴰ x (y ∷ xs) × (p x ≡ true)
      up t = (Memᴰ.tail t.0, t.1)

      go : (b : Bool) → p y ≡ b → Memᴰ x (cons_if b y (keep p xs)) → (Memᴰ x (keep p xs) → Memᴰ x xs × (p x ≡ true)) → Memᴰ x (y ∷ xs) × (p x ≡ true)
      go true e n ih = ⊎_elim (λ q. (Memᴰ.head q, ap p q ∙ e)) (λ t. up (ih t)) (Memᴰ.cases_cons n)
      go false e n ih = up (ih n)

  pub perm-of-eq : {xs ys : List A} → xs ≡ ys → Perm xs ys
  perm-of-eq {xs} e = subst (λ (l : List A). Perm xs l) e (Perm.refl xs)

  shuffle : (a b c d : List A) → Perm ((a ++ b) ++ (c ++ d)) ((a ++ c) ++ (b ++ d))
  shuffle a b c d =
      Perm.trans (perm-of-eq (append_assoc a b (c ++ d)))
      (Perm.trans (Perm.append_left a (Perm.trans (perm-of-eq (sym (append_assoc b c d))) (Perm.trans (Perm.append_right d (perm_append_comm b c)) (perm-of-eq (append_assoc c b d)))))
      (perm-of-eq (sym (append_assoc a c (b ++ d)))))

  joined-zip : (n : ℕ) (P Q : ℕ → List A) → Perm (joined n (λ r. P r ++ Q r)) (joined n P ++ joined n Q)
  joined-zip zero P Q = Perm.refl []
  joined-zip (suc n) P Q = Perm.trans (Perm.append_right (P n ++ Q n) (joined-zip n P Q)) (shuffle (joined n P) (joined n Q) (P n) (Q n))

  pub joined-swap : (n m : ℕ) (F : ℕ → ℕ → List A) → Perm (joined n (λ r. joined m (F r))) (joined m (λ g. joined n (λ r. F r g)))
  joined-swap n zero F = perm-of-eq (joined-none n (λ r. []) (λ k l. refl))
  joined-swap n (suc m) F = Perm.trans (joined-zip n (λ r. joined m (F r)) (λ r. F r m)) (Perm.append_right (joined n (λ r. F r m)) (joined-swap n m F))

  pub joined-insert : (x : A) (k n : ℕ) (F : ℕ → List A) → k < n → Perm (joined n (λ g. cons_if (nat_eq k g) x (F g))) (x ∷ joined n F)
  joined-insert x k zero F l = absurd (omega arith)
  joined-insert x k (suc n) F l = ⊎_elim here (λ m. below m (joined-insert x k n F m)) (eq-or-lt_of_le (le_of_suc-le-suc l))
    where
      here : k ≡ n → Perm (joined (suc n) (λ g. cons_if (nat_eq k g) x (F g))) (x ∷ joined (suc n) F)
      here q =
          rw (eq-eqb k n q, joined-ext n (λ g. cons_if (nat_eq k g) x (F g)) F (λ g m. ap (λ (b : Bool). cons_if b x (F g)) (ne_eqb k g (λ e. omega arith))))
          (perm_middle (joined n F) (F n))

      below : k < n → Perm (joined n (λ g. cons_if (nat_eq k g) x (F g))) (x ∷ joined n F) → Perm (joined (suc n) (λ g. cons_if (nat_eq k g) x (F g))) (x ∷ joined (suc n) F)
      below m ih = rw (ne_eqb k n (λ e. omega arith)) (Perm.append_right (F n) ih)

  pub joined-pairwise : (R : A → A → Type 0) → ((a b : A) → IsProp (R a b)) → (n : ℕ) (F : ℕ → List A) → ((k : ℕ) → Pairwise R (F k)) → ((k l : ℕ) → k < l → (a b : A) → Memᴰ a (F k) → Memᴰ b (F l) → R a b) → Pairwise R (joined n F)
  joined-pairwise R pr zero F each cross = Pairwise.nil
  joined-pairwise R pr (suc n) F each cross = (Pairwise-append pr {l₁ = joined n F} {l₂ = F n}).1 (joined-pairwise R pr n F each cross, each n, between)
    where
      between : (a : A) → Mem a (joined n F) → (b : A) → Mem b (F n) → R a b
      between a i b j =
          ∥∥₁_elim i (pr a b) (λ i'. ∥∥₁_elim j (pr a b) (λ j'. let w = mem-joined n F i' in cross w.0 n w.1 a b w.2 j'))

  pub nth-pairwise : (R : A → A → Type 0) (r : ℕ) (q : List A) → Pairwise R (nth r q)
  unfolding nth
  nth-pairwise R r q = go (drop r q)
    where
      go : (l : List A) → Pairwise R (take 1 l)
      go [] = Pairwise.nil
      go (x ∷ l) = Pairwise-singleton R x

  -- past its end a list reads as the default
  pub get_d_past : (xs : List A) (i : ℕ) (d : A) → length xs ≤ i → get_or xs i d ≡ d
  get_d_past [] i d l = refl
  get_d_past (x ∷ xs) zero d l = absurd (omega arith)
  get_d_past (x ∷ xs) (suc i) d l = get_d_past xs i d (le_of_suc-le-suc l)

  -- an element within a list is a member
  pub get_or-mem : (xs : List A) (i : ℕ) (d : A) → i < length xs → Memᴰ (get_or xs i d) xs
  get_or-mem [] i d l = absurd (omega arith)
  get_or-mem (x ∷ xs) zero d l = Memᴰ.head refl
  get_or-mem (x ∷ xs) (suc i) d l = Memᴰ.tail (get_or-mem xs i d (le_of_suc-le-suc l))

  -- a test that is passed only where another is
  pub keep-keep : (p q : A → Bool) → ((x : A) → p x ≡ true → q x ≡ true) → (xs : List A) → keep p (keep q xs) ≡ keep p xs
  keep-keep p q h [] = refl
  keep-keep p q h (x ∷ xs) = go (p x) (q x) refl refl (keep-keep p q h xs)
    where
      go : (b e : Bool) → p x ≡ b → q x ≡ e → keep p (keep q xs) ≡ keep p xs → keep p (cons_if (q x) x (keep q xs)) ≡ cons_if (p x) x (keep p xs)
      go true e pb qe ih = rw (h x pb, pb) (ap (λ l. x ∷ l) ih)
      go false true pb qe ih = rw (qe, pb) ih
      go false false pb qe ih = rw (qe, pb) ih

  -- more parts are no shorter
  pub joined-longer : (m n : ℕ) (F : ℕ → List A) → m ≤ n → length (joined m F) ≤ length (joined n F)
  joined-longer m zero F l = let e : m ≡ 0 = omega arith in rw e (omega arith)
  joined-longer m (suc n) F l = ⊎_elim
      (λ (s : m < suc n). let i : length (joined m F) ≤ length (joined n F) = joined-longer m n F (omega arith) in omega (arith, length-append (joined n F) (F n)))
      (λ (s : suc n ≤ m). let e : m ≡ suc n = omega arith in rw e (omega arith))
      (lt-or-ge m (suc n))

  -- a permutation has the same length
  pub perm-length : {xs ys : List A} → Perm xs ys → length xs ≡ length ys
  perm-length {xs} {ys} p = ∥∥₁_elim p (ℕ_set (length xs) (length ys)) go
    where
      go : {us vs : List A} → Permᴰ us vs → length us ≡ length vs
      go Permᴰ.nil = refl
      go (Permᴰ.cons e p) = ap suc (go p)
      go (Permᴰ.swap e f) = refl
      go (Permᴰ.trans p q) = go p ∙ go q

module _ {A B : Type 0} (h : A → B) where
  cons_if-map : (b : Bool) (x : A) (xs : List A) → cons_if b (h x) (map h xs) ≡ map h (cons_if b x xs)
  cons_if-map true x xs = refl
  cons_if-map false x xs = refl

  pub keep-map : (p : B → Bool) (xs : List A) → keep p (map h xs) ≡ map h (keep (λ x. p (h x)) xs)
  keep-map p [] = refl
  keep-map p (x ∷ xs) = ap (cons_if (p (h x)) (h x)) (keep-map p xs) ∙ cons_if-map (p (h x)) x (keep (λ y. p (h y)) xs)

  pub map-joined : (n : ℕ) (F : ℕ → List A) → map h (joined n F) ≡ joined n (λ k. map h (F k))
  map-joined zero F = refl
  map-joined (suc n) F = map-append h (joined n F) (F n) ∙ ap (λ (l : List B). l ++ map h (F n)) (map-joined n F)

  map-take : (n : ℕ) (xs : List A) → map h (take n xs) ≡ take n (map h xs)
  map-take zero xs = refl
  map-take (suc n) [] = refl
  map-take (suc n) (x ∷ xs) = ap (λ (l : List B). h x ∷ l) (map-take n xs)

  map-drop : (n : ℕ) (xs : List A) → map h (drop n xs) ≡ drop n (map h xs)
  map-drop zero xs = refl
  map-drop (suc n) [] = refl
  map-drop (suc n) (x ∷ xs) = map-drop n xs

  pub map-nth : (r : ℕ) (q : List A) → map h (nth r q) ≡ nth r (map h q)
  unfolding nth
  map-nth r q = map-take 1 (drop r q) ∙ ap (take 1) (map-drop r q)

-- Laws of the tests of lists: what `set`, `++` and a weaker test do to them. All that the steps need of lists is here.
use Prim.Native.Nat.{ℕ, zero, suc, ◌+◌, ◌<◌, ◌≤◌}
use mathlib.Core.Path.{◌≡◌, refl, sym, ap, ◌∙◌}
use mathlib.Core.Bool.{Bool, true, false, not, cond}
use mathlib.Core.List.{List, [], ◌∷◌, ◌++◌, map, map-append, append_assoc, append-nil}
use native.Mathlib.Nat.{zero-add, le_of_suc-le-suc}
use native.Mathlib.Numerals.{add-one}
use native.Mathlib.Omega.{arith}
use lib.Dec.{eqb as nat_eq, ltb as nat_lt}
use lib.ListN.{length, get_or, take, drop, set, replicate, length-take}
use lib.Seq.{sets, take-suc-set, take-set-lt, set_split, split_at, map-set_same, get_or-take, get_or-set_other}
use borrow.Author.Tests.{ltb-true, ne_eqb, eqb-true, eq-eqb, lt-ltb}
use Rattle.records.specs.Lists.{each, some?}
use Rattle.standing.specs.Lists.{◌and◌, ◌or◌, every, every_at, apart, total, all, has}

-- Both of two tests

pub no : ◌≡◌ {A = Bool} false true → ⊥
no e = let z : ◌≡◌ {A = ℕ} 0 1 = cc in omega arith

pub both : {a b : Bool} → a ≡ true → b ≡ true → (a and b) ≡ true
unfolding ◌and◌
both p q = rw (p, q)

pub left : (a b : Bool) → (a and b) ≡ true → a ≡ true
unfolding ◌and◌
left true b h = refl
left false b h = h

pub right : (a b : Bool) → (a and b) ≡ true → b ≡ true
unfolding ◌and◌
right true b h = h
right false b h = absurd (no h)

-- a list of rules: one of them, and all of them put together
pub rule : (k : ℕ) (bs : List Bool) → all bs ≡ true → get_or bs k true ≡ true
unfolding all
rule k [] h = refl
rule zero (b ∷ bs) h = left _ _ h
rule (suc k) (b ∷ bs) h = rule k bs (right _ _ h)

pub all2 : {a b : Bool} → a ≡ true → b ≡ true → all (a ∷ b ∷ []) ≡ true
unfolding all
all2 a' b' = both a' (both b' refl)

pub all3 : {a b c : Bool} → a ≡ true → b ≡ true → c ≡ true → all (a ∷ b ∷ c ∷ []) ≡ true
unfolding all
all3 a' b' c' = both a' (both b' (both c' refl))

pub all4 : {a b c d : Bool} → a ≡ true → b ≡ true → c ≡ true → d ≡ true → all (a ∷ b ∷ c ∷ d ∷ []) ≡ true
unfolding all
all4 a' b' c' d' = both a' (both b' (both c' (both d' refl)))

pub all5 : {a b c d e : Bool} → a ≡ true → b ≡ true → c ≡ true → d ≡ true → e ≡ true → all (a ∷ b ∷ c ∷ d ∷ e ∷ []) ≡ true
unfolding all
all5 a' b' c' d' e' = both a' (both b' (both c' (both d' (both e' refl))))

pub all10 : {a b c d e f g h i j : Bool} → a ≡ true → b ≡ true → c ≡ true → d ≡ true → e ≡ true → f ≡ true → g ≡ true → h ≡ true → i ≡ true → j ≡ true → all (a ∷ b ∷ c ∷ d ∷ e ∷ f ∷ g ∷ h ∷ i ∷ j ∷ []) ≡ true
unfolding all
all10 a' b' c' d' e' f' g' h' i' j' = both a' (both b' (both c' (both d' (both e' (both f' (both g' (both h' (both i' (both j' refl)))))))))

pub or-imp : (a b c : Bool) → (a ≡ true → c ≡ true) → (a or b) ≡ true → (c or b) ≡ true
unfolding ◌or◌
or-imp true b c f h = rw (f refl)
or-imp false b true f h = refl
or-imp false b false f h = h

pub or_right : (a b c : Bool) → (b ≡ true → c ≡ true) → (a or b) ≡ true → (a or c) ≡ true
unfolding ◌or◌
or_right true b c f h = refl
or_right false b c f h = f h

pub or-true : (a : Bool) → (a or true) ≡ true
unfolding ◌or◌
or-true true = refl
or-true false = refl

pub or_left : (a b : Bool) → a ≡ true → (a or b) ≡ true
unfolding ◌or◌
or_left a b h = rw h

-- the second of two, where the first isn't
pub or-second : (a b : Bool) → a ≡ false → (a or b) ≡ true → b ≡ true
unfolding ◌or◌
or-second a b e h = rw e at h

module _ {A : Type 0} where
  -- `every`

  pub every-imp : (p q : A → Bool) → ((x : A) → p x ≡ true → q x ≡ true) → (l : List A) → every p l ≡ true → every q l ≡ true
  unfolding every
  every-imp p q f [] h = refl
  every-imp p q f (x ∷ l) h = both (f x (left _ _ h)) (every-imp p q f l (right _ _ h))

  pub every-all : (p : A → Bool) → ((x : A) → p x ≡ true) → (l : List A) → every p l ≡ true
  unfolding every
  every-all p f [] = refl
  every-all p f (x ∷ l) = both (f x) (every-all p f l)

  pub every-join : (p : A → Bool) (a b : List A) → every p a ≡ true → every p b ≡ true → every p (a ++ b) ≡ true
  unfolding every
  every-join p [] b g h = h
  every-join p (x ∷ a) b g h = both (left _ _ g) (every-join p a b (right _ _ g) h)

  pub every_first : (p : A → Bool) (a b : List A) → every p (a ++ b) ≡ true → every p a ≡ true
  unfolding every
  every_first p [] b h = refl
  every_first p (x ∷ a) b h = both (left _ _ h) (every_first p a b (right _ _ h))

  pub every_rest : (p : A → Bool) (a b : List A) → every p (a ++ b) ≡ true → every p b ≡ true
  unfolding every
  every_rest p [] b h = h
  every_rest p (x ∷ a) b h = every_rest p a b (right _ _ h)

  -- one more anywhere, and one less
  every_in : (p : A → Bool) (a b : List A) (x : A) → p x ≡ true → every p (a ++ b) ≡ true → every p (a ++ x ∷ b) ≡ true
  unfolding every
  every_in p a b x e h = every-join p a (x ∷ b) (every_first p a b h) (both e (every_rest p a b h))

  every-out : (p : A → Bool) (a b : List A) (x : A) → every p (a ++ x ∷ b) ≡ true → every p (a ++ b) ≡ true
  unfolding every
  every-out p a b x h = every-join p a b (every_first p a (x ∷ b) h) (right _ _ (every_rest p a (x ∷ b) h))

  pub every-last : (p : A → Bool) (l : List A) (x : A) → every p l ≡ true → p x ≡ true → every p (l ++ (x ∷ [])) ≡ true
  unfolding every
  every-last p l x h e = every-join p l (x ∷ []) h (both e refl)

  pub every_set : (p : A → Bool) (l : List A) (i : ℕ) (x : A) → p x ≡ true → every p l ≡ true → every p (set l i x) ≡ true
  unfolding every
  every_set p [] i x e h = refl
  every_set p (y ∷ l) zero x e h = both e (right _ _ h)
  every_set p (y ∷ l) (suc i) x e h = both (left _ _ h) (every_set p l i x e (right _ _ h))

  pub every-at : (p : A → Bool) (l : List A) (i : ℕ) (d : A) → i < length l → every p l ≡ true → p (get_or l i d) ≡ true
  unfolding every
  every-at p [] i d b h = absurd (omega arith)
  every-at p (y ∷ l) zero d b h = left _ _ h
  every-at p (y ∷ l) (suc i) d b h = every-at p l i d (le_of_suc-le-suc b) (right _ _ h)

  pub every_drop : (p : A → Bool) (n : ℕ) (l : List A) → every p (drop n l) ≡ true → every p (drop (suc n) l) ≡ true
  unfolding every
  every_drop p zero [] h = refl
  every_drop p zero (x ∷ l) h = right _ _ h
  every_drop p (suc n) [] h = refl
  every_drop p (suc n) (x ∷ l) h = every_drop p n l h

  pub every-replicate : (p : A → Bool) (n : ℕ) (x : A) → p x ≡ true → every p (replicate n x) ≡ true
  unfolding every
  every-replicate p zero x e = refl
  every-replicate p (suc n) x e = both e (every-replicate p n x e)

  -- some member passes, or every member fails
  pub none_passes : (p : A → Bool) (l : List A) → some? p l ≡ false → every (λ x. not (p x)) l ≡ true
  unfolding some? every
  none_passes p [] h = refl
  none_passes p (x ∷ l) h = go (p x) h (none_passes p l)
    where
      go : (b : Bool) → cond b true (some? p l) ≡ false → (some? p l ≡ false → every (λ y. not (p y)) l ≡ true) → (not b and every (λ y. not (p y)) l) ≡ true
      go true f g = absurd (no (sym f))
      go false f g = both refl (g f)

  pub some-set : (p : A → Bool) (l : List A) (i : ℕ) (x d : A) → (p (get_or l i d) ≡ true → p x ≡ true) → some? p l ≡ true → some? p (set l i x) ≡ true
  unfolding some?
  some-set p [] i x d f h = h
  some-set p (y ∷ l) zero x d f h = go (p y) (p x) f h
    where
      go : (b c : Bool) → (b ≡ true → c ≡ true) → cond b true (some? p l) ≡ true → cond c true (some? p l) ≡ true
      go true c g k = rw (g refl)
      go false true g k = refl
      go false false g k = k
  some-set p (y ∷ l) (suc i) x d f h = go (p y) h (some-set p l i x d f)
    where
      go : (b : Bool) → cond b true (some? p l) ≡ true → (some? p l ≡ true → some? p (set l i x) ≡ true) → cond b true (some? p (set l i x)) ≡ true
      go true k g = refl
      go false k g = g k

  pub some-append : (p : A → Bool) (a b : List A) → some? p a ≡ true → some? p (a ++ b) ≡ true
  unfolding some?
  some-append p [] b h = absurd (no h)
  some-append p (x ∷ a) b h = go (p x) h (some-append p a b)
    where
      go : (t : Bool) → cond t true (some? p a) ≡ true → (some? p a ≡ true → some? p (a ++ b) ≡ true) → cond t true (some? p (a ++ b)) ≡ true
      go true k g = refl
      go false k g = g k

  -- `every_at`

  pub at-replicate : (p : ℕ → A → Bool) (k n : ℕ) (x : A) → ((i : ℕ) → p i x ≡ true) → every_at p k (replicate n x) ≡ true
  unfolding every_at
  at-replicate p k zero x e = refl
  at-replicate p k (suc n) x e = both (e k) (at-replicate p (suc k) n x e)

  pub at-imp : (p q : ℕ → A → Bool) → ((i : ℕ) (x : A) → p i x ≡ true → q i x ≡ true) → (k : ℕ) (l : List A) → every_at p k l ≡ true → every_at q k l ≡ true
  unfolding every_at
  at-imp p q f k [] h = refl
  at-imp p q f k (x ∷ l) h = both (f k x (left _ _ h)) (at-imp p q f (suc k) l (right _ _ h))

  -- a weaker test at the places that there are
  pub at-within : (p q : ℕ → A → Bool) (k : ℕ) (l : List A) → ((i : ℕ) (x : A) → i < k + length l → p i x ≡ true → q i x ≡ true) → every_at p k l ≡ true → every_at q k l ≡ true
  unfolding every_at
  at-within p q k [] f h = refl
  at-within p q k (x ∷ l) f h = both (f k x (omega arith) (left _ _ h)) (at-within p q (suc k) l (λ i y b. f i y (omega arith)) (right _ _ h))

  -- the same tests at other places
  pub at_moved : (p q : ℕ → A → Bool) (k n : ℕ) (l : List A) → ((i : ℕ) (x : A) → i < length l → p (k + i) x ≡ true → q (n + i) x ≡ true) → every_at p k l ≡ true → every_at q n l ≡ true
  unfolding every_at
  at_moved p q k n [] f h = refl
  at_moved p q k n (x ∷ l) f h =
      let a : k + 0 ≡ k = omega arith in
      let b : n + 0 ≡ n = omega arith in
      both (rw b at (f 0 x (omega arith) (rw a (left _ _ h))))
      (at_moved p q (suc k) (suc n) l
      (λ i y c e. let c' : suc k + i ≡ k + suc i = omega arith in let d' : n + suc i ≡ suc n + i = omega arith in rw d' at (f (suc i) y (omega arith) (rw c' at e)))
      (right _ _ h))

  -- from each place, and at each place
  pub at_of : (p : ℕ → A → Bool) (k : ℕ) (l : List A) (d : A) → ((i : ℕ) → i < length l → p (k + i) (get_or l i d) ≡ true) → every_at p k l ≡ true
  unfolding every_at
  at_of p k [] d f = refl
  at_of p k (x ∷ l) d f =
      let e : k + 0 ≡ k = omega arith in
      both (rw e at (f 0 (omega arith))) (at_of p (suc k) l d (λ i b. let g : suc k + i ≡ k + suc i = omega arith in rw g (f (suc i) (omega arith))))

  pub at_at : (p : ℕ → A → Bool) (k : ℕ) (l : List A) (i : ℕ) (d : A) → i < length l → every_at p k l ≡ true → p (k + i) (get_or l i d) ≡ true
  unfolding every_at
  at_at p k [] i d b h = absurd (omega arith)
  at_at p k (x ∷ l) zero d b h = let e : k + 0 ≡ k = omega arith in rw e (left _ _ h)
  at_at p k (x ∷ l) (suc i) d b h = let e : k + suc i ≡ suc k + i = omega arith in rw e (at_at p (suc k) l i d (le_of_suc-le-suc b) (right _ _ h))

  pub at_set : (p : ℕ → A → Bool) (k : ℕ) (l : List A) (i : ℕ) (x : A) → p (i + k) x ≡ true → every_at p k l ≡ true → every_at p k (set l i x) ≡ true
  unfolding every_at
  at_set p k [] i x e h = refl
  at_set p k (y ∷ l) zero x e h = both (rw zero-add at e) (right _ _ h)
  at_set p k (y ∷ l) (suc i) x e h =
      let g : suc i + k ≡ i + suc k = omega arith in
      both (left _ _ h) (at_set p (suc k) l i x (rw g at e) (right _ _ h))

  at-past : (p q : ℕ → A → Bool) (k n : ℕ) (l : List A) → ((j : ℕ) (x : A) → k < j → p j x ≡ true → q j x ≡ true) → k < n → every_at p n l ≡ true → every_at q n l ≡ true
  unfolding every_at
  at-past p q k n [] f b h = refl
  at-past p q k n (x ∷ l) f b h = both (f n x b (left _ _ h)) (at-past p q k (suc n) l f (omega arith) (right _ _ h))

  -- the test changes at one place only, where the new member passes it
  pub at-put : (p q : ℕ → A → Bool) (k : ℕ) (l : List A) (i : ℕ) (x : A) → ((j : ℕ) (y : A) → (j ≡ i + k → ⊥) → p j y ≡ true → q j y ≡ true) → q (i + k) x ≡ true → every_at p k l ≡ true → every_at q k (set l i x) ≡ true
  unfolding every_at
  at-put p q k [] i x f e h = refl
  at-put p q k (y ∷ l) zero x f e h = both (rw zero-add at e) (at-past p q k (suc k) l (λ j z b. f j z (λ r. omega arith)) (omega arith) (right _ _ h))
  at-put p q k (y ∷ l) (suc i) x f e h =
      let g : suc i + k ≡ i + suc k = omega arith in
      both (f k y (λ r. omega arith) (left _ _ h)) (at-put p q (suc k) l i x (λ j z n. f j z (λ r. n (r ∙ g))) (rw g at e) (right _ _ h))

  -- several from place i on, each of which passes there
  pub at-sets : (p : ℕ → A → Bool) (l : List A) (i : ℕ) (xs : List A) → every_at p i xs ≡ true → every_at p 0 l ≡ true → every_at p 0 (sets l i xs) ≡ true
  unfolding every_at
  at-sets p l i [] e h = h
  at-sets p l i (x ∷ xs) e h =
      let z : i + 0 ≡ i = omega arith in
      at-sets p (set l i x) (suc i) xs (right _ _ e) (at_set p 0 l i x (rw z (left _ _ e)) h)

  -- what lies before them, and what lies past them, stays
  pub sets-before : (l : List A) (i : ℕ) (xs : List A) (j : ℕ) (d : A) → j < i → get_or (sets l i xs) j d ≡ get_or l j d
  sets-before l i [] j d b = refl
  sets-before l i (x ∷ xs) j d b = sets-before (set l i x) (suc i) xs j d (omega arith) ∙ get_or-set_other l i j x d (λ e. omega arith)

  pub sets-past : (l : List A) (i : ℕ) (xs : List A) (j : ℕ) (d : A) → i + length xs ≤ j → get_or (sets l i xs) j d ≡ get_or l j d
  sets-past l i [] j d b = refl
  sets-past l i (x ∷ xs) j d b = sets-past (set l i x) (suc i) xs j d (omega arith) ∙ get_or-set_other l i j x d (λ e. omega arith)

  -- `apart`

  module _ (r : A → A → Bool) where
    -- one less
    apart_out : (a b : List A) (x : A) → apart r (a ++ x ∷ b) ≡ true → apart r (a ++ b) ≡ true
    unfolding every apart
    apart_out [] b x h = right _ _ h
    apart_out (y ∷ a) b x h = both (every-out (λ z. not (r y z)) a b x (left _ _ h)) (apart_out a b x (right _ _ h))

    -- one more, anywhere, that is like none: the likeness is symmetric
    apart_in : ((x y : A) → r x y ≡ r y x) → (a b : List A) (x : A) → every (λ y. not (r x y)) (a ++ b) ≡ true → apart r (a ++ b) ≡ true → apart r (a ++ x ∷ b) ≡ true
    unfolding every apart
    apart_in s [] b x e h = both e h
    apart_in s (y ∷ a) b x e h =
        both (every_in (λ z. not (r y z)) a b x (rw (s y x) (left _ _ e)) (left _ _ h)) (apart_in s a b x (right _ _ e) (right _ _ h))

    -- one more at the end
    pub apart-last : ((x y : A) → r x y ≡ r y x) → (l : List A) (x : A) → every (λ y. not (r x y)) l ≡ true → apart r l ≡ true → apart r (l ++ (x ∷ [])) ≡ true
    apart-last s l x e h = apart_in s l [] x (rw append-nil e) (rw append-nil h)

    unlike : (t : A → A → Bool) (p : A → Bool) (x : A) → ((y : A) → p y ≡ true → r x y ≡ t x y) → (l : List A) → every p l ≡ true → every (λ y. not (r x y)) l ≡ true → every (λ y. not (t x y)) l ≡ true
    unfolding every
    unlike t p x f [] g h = refl
    unlike t p x f (y ∷ l) g h = both (sym (ap not (f y (left _ _ g))) ∙ left _ _ h) (unlike t p x f l (right _ _ g) (right _ _ h))

    -- two likenesses that agree on what passes a test
    pub apart-like : (t : A → A → Bool) (p : A → Bool) → ((x y : A) → p x ≡ true → p y ≡ true → r x y ≡ t x y) → (l : List A) → every p l ≡ true → apart r l ≡ true → apart t l ≡ true
    unfolding every apart
    apart-like t p f [] g h = refl
    apart-like t p f (x ∷ l) g h = both (unlike t p x (λ y c. f x y (left _ _ g) c) l (right _ _ g) (left _ _ h)) (apart-like t p f l (right _ _ g) (right _ _ h))

  -- `total`: one changed, one more
  pub total-set : (f : A → ℕ) (l : List A) (i : ℕ) (x d : A) → i < length l → total f (set l i x) + f (get_or l i d) ≡ total f l + f x
  unfolding total
  total-set f [] i x d b = absurd (omega arith)
  total-set f (y ∷ l) zero x d b = omega arith
  total-set f (y ∷ l) (suc i) x d b = omega (arith, total-set f l i x d (le_of_suc-le-suc b))

  pub total-append : (f : A → ℕ) (a b : List A) → total f (a ++ b) ≡ total f a + total f b
  unfolding total
  total-append f [] b = omega arith
  total-append f (x ∷ a) b = omega (arith, total-append f a b)

  pub total-few : (f : A → ℕ) → ((x : A) → f x ≤ 1) → (l : List A) → total f l ≤ length l
  unfolding total
  total-few f h [] = omega arith
  total-few f h (x ∷ l) = omega (arith, h x, total-few f h l)

  -- What is in use of a list in a room: one more
  pub used-more : (l : List A) (n : ℕ) (x : A) → n < length l → take (n + 1) (set l n x) ≡ take n l ++ (x ∷ [])
  used-more l n x h = rw add-one (take-suc-set l n x h)

  pub used-length : (l : List A) (n : ℕ) → n ≤ length l → length (take n l) ≡ n
  used-length l n h = rw length-take (omega arith)

-- a fresh id: above all of them
fresh : (n : ℕ) (l : List ℕ) → every (λ i. nat_lt i n) l ≡ true → every (λ i. not (nat_eq n i)) l ≡ true
fresh n l h = every-imp (λ i. nat_lt i n) (λ i. not (nat_eq n i)) (λ i b. ap not (ne_eqb n i (λ e. omega (arith, ltb-true i n b)))) l h

pub eqb-sym : (a b : ℕ) → nat_eq a b ≡ nat_eq b a
eqb-sym a b = go (nat_eq a b) refl
  where
    go : (t : Bool) → nat_eq a b ≡ t → nat_eq a b ≡ nat_eq b a
    go true e = e ∙ sym (eq-eqb b a (sym (eqb-true a b e)))
    go false e = e ∙ sym (ne_eqb b a (λ r. no (sym e ∙ eq-eqb a b (sym r))))

module _ {A B : Type 0} (f : A → List B) where
  each_append : (a b : List A) → each f (a ++ b) ≡ each f a ++ each f b
  unfolding each
  each_append [] b = refl
  each_append (x ∷ a) b = rw (each_append a b) (sym (append_assoc (f x) (each f a) (each f b)))

  pub each_last : (l : List A) (x : A) → each f (l ++ (x ∷ [])) ≡ each f l ++ f x
  unfolding each
  each_last l x = each_append l (x ∷ []) ∙ ap (λ k. each f l ++ k) (append-nil (f x))

  -- what each gives, with the part of the member at i taken apart
  pub each_at : (l : List A) (i : ℕ) (d : A) → i < length l → each f l ≡ each f (take i l) ++ (f (get_or l i d) ++ each f (drop (suc i) l))
  unfolding each
  each_at l i d h = ap (each f) (split_at l i d h) ∙ each_append (take i l) (get_or l i d ∷ drop (suc i) l)

  pub each_set : (l : List A) (i : ℕ) (x : A) → i < length l → each f (set l i x) ≡ each f (take i l) ++ (f x ++ each f (drop (suc i) l))
  unfolding each
  each_set l i x h = ap (each f) (set_split l i x h) ∙ each_append (take i l) (x ∷ drop (suc i) l)

  pub every-each : (p : B → Bool) (q : A → Bool) → ((x : A) → q x ≡ true → every p (f x) ≡ true) → (l : List A) → every q l ≡ true → every p (each f l) ≡ true
  unfolding each every
  every-each p q g [] h = refl
  every-each p q g (x ∷ l) h = every-join p (f x) (each f l) (g x (left _ _ h)) (every-each p q g l (right _ _ h))

module _ {A B : Type 0} (f : A → B) where
  pub map-set : (l : List A) (i : ℕ) (x : A) → map f (set l i x) ≡ set (map f l) i (f x)
  map-set [] i x = refl
  map-set (y ∷ l) zero x = refl
  map-set (y ∷ l) (suc i) x = ap (λ k. f y ∷ k) (map-set l i x)

  pub every_map : (p : B → Bool) (l : List A) → every p (map f l) ≡ every (λ x. p (f x)) l
  unfolding every
  every_map p [] = refl
  every_map p (x ∷ l) = ap (λ b. p (f x) and b) (every_map p l)

  -- what is in use, seen by a part of each member: one changed that keeps the part, one changed, one more
  pub used-same : (l : List A) (n i : ℕ) (x d : A) → i < n → f x ≡ f (get_or l i d) → map f (take n (set l i x)) ≡ map f (take n l)
  used-same l n i x d b e = rw (take-set-lt n l i x b) (map-set_same f (take n l) i x d (e ∙ ap f (sym (get_or-take n l i d b))))

  pub used-set : (l : List A) (n i : ℕ) (x : A) → i < n → map f (take n (set l i x)) ≡ set (map f (take n l)) i (f x)
  used-set l n i x b = rw (take-set-lt n l i x b) (map-set (take n l) i x)

  pub used-last : (l : List A) (n : ℕ) (x : A) → n < length l → map f (take (n + 1) (set l n x)) ≡ map f (take n l) ++ (f x ∷ [])
  used-last l n x b = rw (used-more l n x b) (map-append f (take n l) (x ∷ []))

-- Marks: what a list of marks says of a place goes on when a mark is added, or one that is off changes
pub mark-append : (a b : List Bool) (i : ℕ) → get_or a i false ≡ true → get_or (a ++ b) i false ≡ true
mark-append [] b i h = absurd (no h)
mark-append (x ∷ a) b zero h = h
mark-append (x ∷ a) b (suc i) h = mark-append a b i h

pub mark_set : (a : List Bool) (k : ℕ) (b : Bool) (i : ℕ) → get_or a k false ≡ false → get_or a i false ≡ true → get_or (set a k b) i false ≡ true
mark_set [] k b i e h = h
mark_set (x ∷ a) zero b zero e h = absurd (no (sym e ∙ h))
mark_set (x ∷ a) zero b (suc i) e h = h
mark_set (x ∷ a) (suc k) b zero e h = h
mark_set (x ∷ a) (suc k) b (suc i) e h = mark_set a k b i e h

-- a place that has a mark is one of the list
pub mark-in : (a : List Bool) (i : ℕ) → get_or a i false ≡ true → i < length a
mark-in [] i h = absurd (no h)
mark-in (x ∷ a) zero h = omega arith
mark-in (x ∷ a) (suc i) h = omega (arith, mark-in a i h)

pub has-append : (i : ℕ) (a b : List ℕ) → has i a ≡ true → has i (a ++ b) ≡ true
unfolding has ◌or◌
has-append i [] b h = absurd (no h)
has-append i (x ∷ a) b h = or_right (nat_eq i x) (has i a) (has i (a ++ b)) (has-append i a b) h

pub has_last : (a : List ℕ) (i : ℕ) → has i (a ++ (i ∷ [])) ≡ true
unfolding has ◌or◌
has_last [] i = rw (eq-eqb i i refl)
has_last (x ∷ a) i = or_right (nat_eq i x) true (has i (a ++ (i ∷ []))) (λ e. has_last a i) (or-true (nat_eq i x))

-- One list has a number more than the other, somewhere
pub record Grows (l : List ℕ) (n : ℕ) (k : List ℕ) : Type 0 where
  pub before : List ℕ
  pub after : List ℕ
  pub without : l ≡ before ++ after
  pub with : k ≡ before ++ n ∷ after

-- a fresh number keeps them apart and below the next
pub grown-apart : {l k : List ℕ} {n : ℕ} → Grows l n k → every (λ i. nat_lt i n) l ≡ true → apart nat_eq l ≡ true → apart nat_eq k ≡ true
grown-apart {l} {k} {n} g b h =
    rw g.with (apart_in nat_eq eqb-sym g.before g.after n (rw g.without at (fresh n l b)) (rw g.without at h))

pub grown-below : {l k : List ℕ} {n : ℕ} → Grows l n k → every (λ i. nat_lt i n) l ≡ true → every (λ i. nat_lt i (n + 1)) k ≡ true
grown-below {l} {k} {n} g h =
    rw g.with
    (every_in (λ i. nat_lt i (n + 1)) g.before g.after n (lt-ltb n (n + 1) (omega arith))
    (rw g.without at (every-imp (λ i. nat_lt i n) (λ i. nat_lt i (n + 1)) (λ i b. lt-ltb i (n + 1) (omega (arith, ltb-true i n b))) l h)))

-- so does one number less
pub shrunk-apart : {l k : List ℕ} {n : ℕ} → Grows l n k → apart nat_eq k ≡ true → apart nat_eq l ≡ true
shrunk-apart g h = rw g.without (apart_out nat_eq g.before g.after _ (rw g.with at h))

pub shrunk-every : {l k : List ℕ} {n : ℕ} → Grows l n k → (p : ℕ → Bool) → every p k ≡ true → every p l ≡ true
shrunk-every g p h = rw g.without (every-out p g.before g.after _ (rw g.with at h))

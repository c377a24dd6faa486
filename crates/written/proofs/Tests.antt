-- Tests of lists in their rooms: what it takes to see that a value which was read is in form.
--     both_hold, or_left, or_right, all_none, all_more   tests together
--     every-zeros, every_front, every_map                a test of each member
--     at-zeros, at-shift, at_map, at-pairs               a test of each member at its place
--     padded-length, padded-past, padded-fits            a list in its room
use mathlib.Core.Path.{◌≡◌, refl, sym, ap, ◌∙◌}
use mathlib.Core.Bool.{Bool, true, false}
use mathlib.Core.List.{List, [], ◌∷◌, ◌++◌, map}
use Prim.Native.Nat.{ℕ, zero, suc, ◌+◌, ◌-◌, ◌≤◌, ◌<◌}
use native.Mathlib.Omega.{arith}
use lib.ListN.{length, get_or, drop, replicate, length-append, length-replicate}
use lib.Seq.{drop_at}
use borrow.Author.Tests.{le-leb, eq-eqb}
use Rattle.records.specs.Lists.{padded}
use Rattle.standing.specs.Lists.{◌and◌, ◌or◌, all, every, every_at}
use Rattle.standing.specs.Standing.{fits}
use Rattle.parts.specs.Written.{All}

pub both_hold : (a b : Bool) → a ≡ true → b ≡ true → (a and b) ≡ true
unfolding ◌and◌
both_hold true b p q = q
both_hold false b p q = p

pub or_left : (a b : Bool) → a ≡ true → (a or b) ≡ true
unfolding ◌or◌
or_left a b p = rw p

pub or_right : (a b : Bool) → b ≡ true → (a or b) ≡ true
unfolding ◌or◌
or_right true b q = refl
or_right false b q = q

pub all_none : all [] ≡ true
unfolding all
all_none = refl

pub all_more : (t : Bool) (ts : List Bool) → t ≡ true → all ts ≡ true → all (t ∷ ts) ≡ true
unfolding all
all_more t ts p q = both_hold t (all ts) p q

module _ {A : Type 0} (p : A → Bool) where
  pub every-zeros : (z : A) → p z ≡ true → (k : ℕ) → every p (replicate k z) ≡ true
  unfolding every
  every-zeros z h zero = refl
  every-zeros z h (suc k) = both_hold (p z) (every p (replicate k z)) h (every-zeros z h k)

  pub every_front : (l rest : List A) → All (λ x. p x ≡ true) l → every p rest ≡ true → every p (l ++ rest) ≡ true
  unfolding every All
  every_front [] rest ok h = h
  every_front (x ∷ l) rest ok h = both_hold (p x) (every p (l ++ rest)) ok.0 (every_front l rest ok.1 h)

  pub every_map : {B : Type 0} (g : B → A) → ((b : B) → p (g b) ≡ true) → (l : List B) → every p (map g l) ≡ true
  unfolding every
  every_map g h [] = refl
  every_map g h (b ∷ l) = both_hold (p (g b)) (every p (map g l)) (h b) (every_map g h l)

pub all_any : {A : Type 0} (Q : A → Type 0) → ((x : A) → Q x) → (l : List A) → All Q l
unfolding All
all_any Q h [] = tt
all_any Q h (x ∷ l) = (h x, all_any Q h l)

pub map-twice : {A B C : Type 0} (f : B → C) (g : A → B) (l : List A) → map f (map g l) ≡ map (λ a. f (g a)) l
map-twice f g [] = refl
map-twice f g (a ∷ l) = ap (λ t. f (g a) ∷ t) (map-twice f g l)

module _ {A : Type 0} (m : ℕ) (z : A) where
  pub padded-length : (l : List A) → length l ≤ m → length (padded m z l) ≡ m
  unfolding padded
  padded-length l h =
      let e : length l + (m - length l) ≡ m = omega arith in
      length-append l (replicate (m - length l) z) ∙ ap (λ k. length l + k) (length-replicate (m - length l) z) ∙ e

  -- what lies past the list is empty
  pub padded-past : (p : A → Bool) (l : List A) (n : ℕ) → length l ≡ n → p z ≡ true → every p (drop n (padded m z l)) ≡ true
  unfolding padded
  padded-past p l n e h = rw (drop_at l (replicate (m - length l) z) n e) (every-zeros p z h (m - length l))

  pub padded-every : (p : A → Bool) (l : List A) → All (λ x. p x ≡ true) l → p z ≡ true → every p (padded m z l) ≡ true
  unfolding padded
  padded-every p l ok h = every_front p l (replicate (m - length l) z) ok (every-zeros p z h (m - length l))

-- a list in its room fits
pub padded-fits : {A : Type 0} (m : ℕ) (z : A) (p : A → Bool) (l : List A) (n : ℕ) → length l ≡ n → n ≤ m → p z ≡ true → fits m p n (padded m z l) ≡ true
unfolding fits
padded-fits m z p l n e h k =
    all_more _ _ (eq-eqb (length (padded m z l)) m (padded-length m z l (omega (arith, e, h))))
    (all_more _ _ (le-leb n m h) (all_more _ _ (padded-past m z p l n e k) all_none))

module _ {A : Type 0} where
  pub at-zeros : (p : ℕ → A → Bool) (z : A) (n : ℕ) → ((j : ℕ) → n ≤ j → p j z ≡ true) → (k i : ℕ) → n ≤ i → every_at p i (replicate k z) ≡ true
  unfolding every_at
  at-zeros p z n h zero i l = refl
  at-zeros p z n h (suc k) i l = both_hold (p i z) (every_at p (suc i) (replicate k z)) (h i l) (at-zeros p z n h k (suc i) (omega arith))

  pub at-shift : (p : ℕ → A → Bool) (i : ℕ) (l : List A) → every_at (λ j x. p (suc j) x) i l ≡ every_at p (suc i) l
  unfolding every_at
  at-shift p i [] = refl
  at-shift p i (x ∷ l) = ap (λ t. p (suc i) x and t) (at-shift p (suc i) l)

  module _ {B : Type 0} (g : B → A) (Q : B → Type 0) where
    -- members that pass at each place before n, and what follows from n on
    pub at_map : (p : ℕ → A → Bool) (n : ℕ) (rest : List A) → ((j : ℕ) (b : B) → j < n → Q b → p j (g b) ≡ true) → every_at p n rest ≡ true
        → (l : List B) (i : ℕ) → All Q l → i + length l ≡ n → every_at p i (map g l ++ rest) ≡ true
    unfolding every_at All
    at_map p n rest h r [] i ok e = let k : i ≡ n = omega (arith, e) in rw k r
    at_map p n rest h r (b ∷ l) i ok e =
        let k : i + suc (length l) ≡ n = e in
        both_hold (p i (g b)) (every_at p (suc i) (map g l ++ rest)) (h i b (omega (arith, k)) ok.0) (at_map p n rest h r l (suc i) ok.1 (omega (arith, k)))

    -- members with a mark each, and zeros without
    pub at-pairs : (q : Bool → A → Bool) (t : B → Bool) → ((b : B) → Q b → q (t b) (g b) ≡ true) → (z : A) → q false z ≡ true → (k : ℕ) (l : List B) → All Q l
        → every_at (λ i x. q (get_or (map t l) i false) x) 0 (map g l ++ replicate k z) ≡ true
    unfolding every_at All
    at-pairs q t h z c k [] ok = at-zeros (λ i x. q (get_or [] i false) x) z 0 (λ j l. c) k 0 (omega arith)
    at-pairs q t h z c k (b ∷ l) ok =
        both_hold (q (t b) (g b)) (every_at (λ i x. q (get_or (t b ∷ map t l) i false) x) 1 (map g l ++ replicate k z)) (h b ok.0)
        (sym (at-shift (λ i x. q (get_or (t b ∷ map t l) i false) x) 0 (map g l ++ replicate k z)) ∙ at-pairs q t h z c k l ok.1)

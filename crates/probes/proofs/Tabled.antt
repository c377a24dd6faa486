-- A table that is made place by place.
use Rattle.std.proofs.Common.{◌≡◌, ℕ, zero, suc, ◌+◌, ◌<◌, ◌≤◌, List, length, get_or, set, sym, refl, ap, ◌∙◌, arith, length-set, get_or-set_other, get_or-set_same, ext_get_or}
use native.Mathlib.Decide.{dec_lt}
use Rattle.probes.specs.Flat.{tabled}

module _ {A : Type 0} (f : ℕ → A) where
  tabled-length : (i n : ℕ) → length (tabled f i n) ≡ n
  unfolding tabled
  tabled-length i zero = refl
  tabled-length i (suc n) = ap suc (tabled-length (i + 1) n)

  tabled-at : (d : A) (i n k : ℕ) → k < n → get_or (tabled f i n) k d ≡ f (i + k)
  unfolding tabled
  tabled-at d i zero k l = absurd (omega arith)
  tabled-at d i (suc n) zero l = let z : i ≡ i + 0 = omega arith in ap f z
  tabled-at d i (suc n) (suc k) l = let w : i + 1 + k ≡ i + suc k = omega arith in tabled-at d (i + 1) n k (omega arith) ∙ ap f w

-- the first k of n places hold what f says; d stands past the end
pub record Made {A : Type 0} (f : ℕ → A) (d : A) (n : ℕ) (list : List A) (k : ℕ) : Type 0 where
  pub within : k ≤ n
  pub long : length list ≡ n
  pub done : (j : ℕ) → j < k → get_or list j d ≡ f j

module _ {A : Type 0} (f : ℕ → A) (d : A) (n : ℕ) (list : List A) where
  pub made_none : length list ≡ n → Made f d n list 0
  made_none e = record { within = omega arith; long = e; done = λ j h. absurd (omega arith) }

  module _ (k : ℕ) (m : Made f d n list k) where
    pub made_more : (v : A) → k < n → v ≡ f k → Made f d n (set list k v) (k + 1)
    made_more v h e = record { within = omega arith; long = length-set list k v ∙ m.long; done = λ j l. elim (dec_lt j k) [ yes b ↦ get_or-set_other list k j v d (λ q. absurd (omega arith)) ∙ m.done j b | no b ↦ last j (omega arith) ] }
      where
        last : (j : ℕ) → j ≡ k → get_or (set list k v) j d ≡ f j
        last j q = ap (λ i. get_or (set list k v) i d) q ∙ (get_or-set_same list k v d (omega (arith, m.long)) ∙ (e ∙ ap f (sym q)))

    pub made_all : n ≤ k → list ≡ tabled f 0 n
    made_all h = ext_get_or d list (tabled f 0 n) (m.long ∙ sym (tabled-length f 0 n)) (λ i b. m.done i (omega (arith, m.long)) ∙ (let z : i ≡ 0 + i = omega arith in ap f z ∙ sym (tabled-at f d 0 n i (omega (arith, m.long)))))

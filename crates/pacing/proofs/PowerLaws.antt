-- Laws of the saturating power and product.
--     one_power, past-cap     a multiplier of at most 1, an exponent of at least 32
--     power_cut, product_cut  what `power` and `product` return, of the definitions
--     nothing, within, beyond the product: by 0, below the cap, above it; then the same cases of both definitions
use Rattle.std.proofs.Common.{◌≡◌, ℕ, zero, suc, ◌-◌, ◌*◌, ◌/◌, ◌^◌, ◌<◌, ◌≤◌, min, max, sym, refl, ◌∙◌, le_of_lt, div-lt_iff_lt-mul, mul-zero, le-div_iff_mul-le, arith, pow_mono}
use native.Mathlib.Decide.{dec_lt}
use Rattle.pacing.specs.Pacing.{power_of, product_of}
use native.Mathlib.Nat.{pow-le-pow_left, pow-zero, pow-succ', min-eq_left, min-eq_right}

one-pow : (e : ℕ) → 1 ^ e ≡ 1
one-pow zero = pow-zero 1
one-pow (suc e) = pow-succ' 1 e ∙ rw (one-pow e) refl

pub one_power : (cap m e : ℕ) → 0 < cap → m ≤ 1 → 1 ≡ min cap (max 1 m ^ e)
one_power cap m e h l = let o : max 1 m ≡ 1 = omega arith in rw (o, one-pow e) (omega arith)

pub past-cap : (m e : ℕ) → 1 < m → 32 ≤ e → 2 ^ 32 - 1 ≡ min (2 ^ 32 - 1) (max 1 m ^ e)
past-cap m e h l =
    let a : 2 ^ 32 ≤ 2 ^ e = pow_mono l in
    let b : 2 ^ e ≤ max 1 m ^ e = pow-le-pow_left (omega arith) e in
    sym (min-eq_left (omega arith))

-- an exponent cut at 32 gives the same
pub power_cut : (m n : ℕ) → min (max m 1 ^ min n 32) (2 ^ 32 - 1) ≡ power_of m n
unfolding power_of
power_cut m n = elim (dec_lt n 32) [ yes h ↦ below h | no h ↦ elim (dec_lt 1 m) [ yes k ↦ many k (omega arith) | no k ↦ one (omega arith) ] ]
  where
    turned : (e : ℕ) → min (max m 1 ^ e) (2 ^ 32 - 1) ≡ min (2 ^ 32 - 1) (max 1 m ^ e)
    turned e = let o : max m 1 ≡ max 1 m = omega arith in rw o (omega arith)

    below : n < 32 → min (max m 1 ^ min n 32) (2 ^ 32 - 1) ≡ min (2 ^ 32 - 1) (max 1 m ^ n)
    below h = let e : min n 32 ≡ n = omega arith in rw e (turned n)

    many : 1 < m → 32 ≤ n → min (max m 1 ^ min n 32) (2 ^ 32 - 1) ≡ min (2 ^ 32 - 1) (max 1 m ^ n)
    many k h = let e : min n 32 ≡ 32 = omega arith in rw e (turned 32 ∙ (sym (past-cap m 32 k (omega arith)) ∙ past-cap m n k h))

    one : m ≤ 1 → min (max m 1 ^ min n 32) (2 ^ 32 - 1) ≡ min (2 ^ 32 - 1) (max 1 m ^ n)
    one l = turned (min n 32) ∙ (sym (one_power (2 ^ 32 - 1) m (min n 32) (omega arith) l) ∙ one_power (2 ^ 32 - 1) m n (omega arith) l)

pub product_cut : (d f : ℕ) → min (d * f) (2 ^ 64 - 1) ≡ product_of d f
unfolding product_of
product_cut d f = omega arith

positive : {g : ℕ} → (g ≡ 0 → ⊥) → 0 < g
positive {g} n = omega (arith, n)

pub nothing : (cap d g : ℕ) → g ≡ 0 → 0 ≡ min cap (d * g)
nothing cap d g e = sym (rw (e, mul-zero) (min-eq_right (omega arith)))

pub within : (cap d g : ℕ) → (g ≡ 0 → ⊥) → d ≤ cap / g → d * g ≤ cap
within cap d g n h = (le-div_iff_mul-le (positive n)).0 h

pub beyond : (cap d g : ℕ) → (g ≡ 0 → ⊥) → cap / g < d → cap ≡ min cap (d * g)
beyond cap d g n h = sym (min-eq_left (le_of_lt ((div-lt_iff_lt-mul (positive n)).0 h)))

-- the cases of both definitions, over any test that says as much
pub power_of_one : (m e : ℕ) → m ≤ 1 → power_of m e ≡ 1
unfolding power_of
power_of_one m e l = sym (one_power _ m e (omega arith) l)

pub power_of_many : (m e : ℕ) → 1 < m → 32 ≤ e → power_of m e ≡ 2 ^ 32 - 1
unfolding power_of
power_of_many m e h l = sym (past-cap m e h l)

pub product_within : (d g : ℕ) → 0 < g → d ≤ (2 ^ 64 - 1) / g → product_of d g ≡ d * g
unfolding product_of
product_within d g h l = min-eq_right (within _ d g (λ e. omega arith) l)

pub product_beyond : (d g : ℕ) → 0 < g → (2 ^ 64 - 1) / g < d → product_of d g ≡ 2 ^ 64 - 1
unfolding product_of
product_beyond d g h l = sym (beyond _ d g (λ e. omega arith) l)

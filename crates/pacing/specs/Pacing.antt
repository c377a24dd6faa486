-- Pacing: rules 2.1 to 2.3.
use Rattle.std.specs.Prelude.{ℕ, ◌-◌, ◌*◌, ◌^◌, min, max}

-- multiplier to the power; above 2^32-1 it becomes 2^32-1; multiplier 0 counts as 1
unfoldable pub power_of : (multiplier exponent : ℕ) → ℕ
power_of m e = min (2 ^ 32 - 1) (max 1 m ^ e)

-- the exponent is in-progress attempts less 1, never below 0
unfoldable pub factor_of : (multiplier in_progress : ℕ) → ℕ
factor_of m n = power_of m (n - 1)

-- the product; above 2^64-1 it becomes 2^64-1
unfoldable pub product_of : (delay factor : ℕ) → ℕ
product_of d f = min (2 ^ 64 - 1) (d * f)

unfoldable pub delay_of : (delay multiplier in_progress : ℕ) → ℕ
delay_of d m n = product_of d (factor_of m n)

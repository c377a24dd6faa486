-- Masks and shifts as remainders, quotients and sums.
--     low_seven     the mask 127 is the remainder by 128
--     high_bit      the eighth bit set above the low seven is 128 added
--     above         a group shifted above the k bits of a number is added to it
use mathlib.Core.Path.{◌≡◌, ap, ◌∙◌}
use Prim.Native.Nat.{ℕ, ◌+◌, ◌*◌, ◌%◌, ◌^◌, ◌<◌}
use native.Mathlib.Nat.{mod-eq_of_lt, mul_comm, add_comm, mod-lt}
use lib.Bits.{bit_and, bit_or, and_mask, or_shifted, or_shifted_r}
use lib.Dec.{lit<}

pub low_seven : (b : ℕ) → bit_and b 127 ≡ b % 128
low_seven b = and_mask b 7

pub above : (k v b : ℕ) → v < 2 ^ k → 2 ^ k * (b % 128) < 2 ^ 64 → bit_or v ((bit_and b 127 * 2 ^ k) % 2 ^ 64) ≡ v + 2 ^ k * (b % 128)
above k v b hv hb =
    let g = b % 128 in
    let e : g * 2 ^ k ≡ 2 ^ k * g = mul_comm g (2 ^ k) in
    let f : (g * 2 ^ k) % 2 ^ 64 ≡ g * 2 ^ k = mod-eq_of_lt (rw e hb) in
    ap (λ (x : ℕ). bit_or v ((x * 2 ^ k) % 2 ^ 64)) (low_seven b)
    ∙ ap (bit_or v) f ∙ or_shifted_r g k v hv ∙ add_comm (g * 2 ^ k) v ∙ ap (λ (x : ℕ). v + x) e

-- the eighth bit above the low seven
pub high_bit : (v : ℕ) → bit_or 128 (bit_and v 127) ≡ 128 + v % 128
high_bit v = ap (bit_or 128) (low_seven v) ∙ or_shifted 1 7 (v % 128) (mod-lt v (lit< tt))

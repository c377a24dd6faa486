use mathlib.Core.Path.{◌≡◌, ap}
use Prim.Native.Nat.{ℕ, ◌+◌, ◌-◌, ◌<◌}
use native.Mathlib.Omega.{arith}
use lib.ListN.{length}
use Rattle.numbers.specs.Numbers.{shortest, number_bytes}
use Rattle.numbers.proofs.WriteLaws.{shortest-last, shortest-more, not-tenth, shrunk}
use Rattle.numbers.proofs.number.number_len.Goals as goal

refl-len : (n : ℕ) → 0 + length (shortest 9 n) ≡ length (number_bytes n)
unfolding number_bytes
refl-len n = omega arith

sooner : (c : goal.In-loop-v) → c.loop-v.i < 9
sooner c = not-tenth _ _ c.loop-v.invariant.2 c.loop-v.invariant.1 c.loop-v-test.true

pub loop-v-init : goal.loop-v-init
loop-v-init c = (refl-len _, c.ranges.n.fits, omega arith)

pub loop-v-preserved : goal.loop-v-preserved
loop-v-preserved c =
    let m = ap length (shortest-more _ _ (sooner c) c.loop-v-test.true) in
    (omega arith, shrunk _ _ (sooner c) c.loop-v.invariant.1, omega (arith, sooner c))

pub returns : goal.returns
returns c = let m = ap length (shortest-last (9 - c.loop-v.i) _ c.loop-v-test.false) in omega arith

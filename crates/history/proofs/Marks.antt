-- An end still ahead counts one.
use mathlib.Core.Path.{◌≡◌, refl}
use mathlib.Core.Bool.{Bool, true, false}
use Prim.Native.Nat.{ℕ, ◌≤◌, ◌<◌}
use native.Mathlib.Omega.{arith}
use lib.Dec.{ltb as nat_lt}
use borrow.Author.Tests.{ltb-false, lt-ltb, le-ltb}
use Rattle.history.specs.History.{one}

-- 1 while the end e lies ahead of t
unfoldable pub ahead : ℕ → ℕ → ℕ
ahead t e = one (nat_lt t e)

one-le : (b : Bool) → one b ≤ 1
one-le true = omega arith
one-le false = omega arith

pub ahead-le : (t e : ℕ) → ahead t e ≤ 1
unfolding ahead
ahead-le t e = one-le (nat_lt t e)

pub ahead-one : (t e : ℕ) → t < e → ahead t e ≡ 1
unfolding ahead
ahead-one t e h = rw (lt-ltb t e h)

pub ahead_none : (t e : ℕ) → e ≤ t → ahead t e ≡ 0
unfolding ahead
ahead_none t e h = rw (le-ltb t e h)

later-by : (t u e : ℕ) (b : Bool) → t ≤ u → nat_lt t e ≡ b → ahead u e ≤ one b
later-by t u e true h p = ahead-le u e
later-by t u e false h p = let q = ltb-false t e p in let z = ahead_none u e (omega arith) in omega arith

-- time alone brings no end ahead
pub ahead-later : (t u e : ℕ) → t ≤ u → ahead u e ≤ ahead t e
unfolding ahead
ahead-later t u e h = later-by t u e (nat_lt t e) h refl

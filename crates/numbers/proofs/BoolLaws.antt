-- `&&` as a test in two steps takes it: a first test that is false decides. Nothing cites this law now; docs/PORT.md names it.
use mathlib.Core.Path.{◌≡◌}
use mathlib.Core.Bool.{Bool, true, false, ◌&&◌}

pub and_first : (x a b : Bool) → x ≡ a → x ≡ false → x ≡ a && b
and_first x true b e f = cc
and_first x false b e f = e

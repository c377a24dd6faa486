use mathlib.Core.Path.{◌≡◌}
use Prim.Native.Nat.{◌≤◌}
use lib.ListN.{drop}
use Rattle.numbers.specs.Names.{name_ok}
use Rattle.numbers.specs.Walk.{walk}
use Rattle.numbers.proofs.name.name_ok.Given as goal

abbrev pub invariant-loop-i : goal.invariant-loop-i
invariant-loop-i l = (walk l.run l.digits (drop l.i l.s) ≡ name_ok l.s) × (l.run ≤ 63) × (l.digits ≤ l.run)

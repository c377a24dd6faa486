-- `configuration::fill_alts` meets its contract.
use mathlib.Core.Path.{◌≡◌}
use Prim.Native.Nat.{◌-◌, ◌≤◌}
use Rattle.parts.specs.Filling.{stored}
use Rattle.parts.specs.Items.{items}
use Rattle.configuration.specs.Configuration.{alt}
use Rattle.configuration.specs.Filling.{alt_of, alt_name}
use Rattle.configuration.proofs.fill_alts.Given as goal

abbrev pub invariant-loop-i : goal.invariant-loop-i
invariant-loop-i l =
    (l.fn.l.count ≤ 4)
    × (stored alt_of l.out.alts.list l.i (items (alt l.s) (l.fn.l.count - l.i) l.p) ≡ stored alt_of l.initial.out.alts.list 0 (items (alt l.s) l.fn.l.count l.fn.l.first))
    × (stored (alt_name l.s) l.out.names.list l.i (items (alt l.s) (l.fn.l.count - l.i) l.p) ≡ stored (alt_name l.s) l.initial.out.names.list 0 (items (alt l.s) l.fn.l.count l.fn.l.first))

use Rattle.std.proofs.Common.{◌≡◌, ◌-◌, length}
use Rattle.parts.specs.Addresses.{address}
use Rattle.parts.specs.Filling.{stored}
use Rattle.parts.specs.Items.{items}
use Rattle.records.specs.declared.queries.Addr.{Addr}
use Rattle.parts.proofs.address.fill.Given as goal

abbrev pub invariant-loop-i : goal.invariant-loop-i
invariant-loop-i g l =
    (length l.out ≡ length l.initial.out)
    × ((keep : _) → ((a : Addr) (x : _) → goal.K-post g l.keep a x → x ≡ keep a)
    → stored keep l.out l.i (items (address l.form l.s) (l.fn.l.count - l.i) l.p) ≡ stored keep l.initial.out 0 (items (address l.form l.s) l.fn.l.count l.fn.l.first))

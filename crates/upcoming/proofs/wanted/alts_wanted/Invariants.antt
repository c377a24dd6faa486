-- `upcoming::wanted::alts_wanted` meets its contract: what is left wants first what all want first.
use mathlib.Core.Path.{◌≡◌}
use lib.ListN.{drop}
use Prim.Native.Nat.{◌+◌}
use Rattle.records.specs.Classes.{same_class}
use Rattle.upcoming.specs.Wanted.{first_wanted, alt_wanted}
use Rattle.upcoming.proofs.wanted.alts_wanted.Given as goal

abbrev pub invariant-loop-i : goal.invariant-loop-i
invariant-loop-i l = first_wanted (λ j x. alt_wanted l.p l.queries (same_class l.same) (j + 1) x.host) l.i (drop l.i l.a-items) ≡ first_wanted (λ j x. alt_wanted l.p l.queries (same_class l.same) (j + 1) x.host) 0 l.a-items

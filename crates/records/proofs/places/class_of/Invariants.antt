-- The first that passes is the first of those that are left.
use Rattle.std.proofs.Common.{◌≡◌, ◌-◌}
use Rattle.records.specs.Classes.{first_from}
use Rattle.records.proofs.places.class_of.Given as goal

abbrev pub invariant-loop-q : goal.invariant-loop-q
invariant-loop-q g l = first_from (λ k. g.T.Places.alike l.table k l.p) l.q (l.n - l.q) ≡ first_from (λ k. g.T.Places.alike l.table k l.p) 0 l.n

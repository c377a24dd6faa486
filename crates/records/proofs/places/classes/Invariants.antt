-- The places so far have their class, and those that follow have 0.
use Rattle.std.proofs.Common.{ℕ, ◌≡◌, ◌-◌, ◌≤◌, take, drop, length}
use lib.ListN.{replicate}
use Rattle.records.specs.Classes.{classes_from}
use Rattle.records.proofs.places.classes.Given as goal

abbrev pub invariant-loop-p : goal.invariant-loop-p
invariant-loop-p g l =
    (length l.list ≡ g.row.N) × (take l.p l.list ≡ classes_from l.n (g.T.Places.alike l.table) 0 l.p) × ((k : ℕ) → l.p ≤ k → drop k l.list ≡ replicate (g.row.N - k) 0)

-- What is left to store, stored behind what is stored, is all.
use Rattle.std.proofs.Common.{◌≡◌, ◌+◌, length, drop}
use lib.Seq.{sets}
use Rattle.numbers.proofs.put.put_bytes.Given as goal

abbrev pub invariant-loop-i : goal.invariant-loop-i
invariant-loop-i l = (sets l.out (l.at + l.i) (drop l.i l.bytes) ≡ sets l.initial.out l.at l.bytes) × (length l.out ≡ length l.initial.out)

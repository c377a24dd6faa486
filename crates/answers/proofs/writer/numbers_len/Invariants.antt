use mathlib.Core.Path.{◌≡◌}
use Prim.Native.Nat.{◌+◌}
use lib.ListN.{length, drop}
use Rattle.answers.specs.Parts.{numbers_bytes}
use Rattle.answers.proofs.writer.numbers_len.Given as goal

abbrev pub invariant-loop-n : goal.invariant-loop-n
invariant-loop-n l = l.need + length (numbers_bytes (drop l.n-index l.numbers)) ≡ length (numbers_bytes l.numbers)

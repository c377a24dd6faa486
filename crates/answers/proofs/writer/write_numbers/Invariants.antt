use mathlib.Core.Path.{◌≡◌}
use Prim.Native.Nat.{◌+◌}
use lib.ListN.{length, drop}
use Rattle.numbers.specs.Put.{put_bytes}
use Rattle.answers.specs.Parts.{numbers_bytes}
use Rattle.answers.proofs.writer.write_numbers.Given as goal

abbrev pub invariant-loop-n : goal.invariant-loop-n
invariant-loop-n l =
    (put_bytes l.out l.p (numbers_bytes (drop l.n-index l.numbers)) ≡ put_bytes l.initial.out l.at (numbers_bytes l.numbers))
    × (l.p + length (numbers_bytes (drop l.n-index l.numbers)) ≡ l.at + length (numbers_bytes l.numbers)) × (length l.out ≡ length l.initial.out)

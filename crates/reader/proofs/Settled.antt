-- What the reader of answers shows settles what it gives: any two that meet its promise are equal.
use mathlib.Core.Path.{◌≡◌}
use Prim.Native.Nat.{ℕ}
use Rattle.std.specs.Prelude.{Result}
use Rattle.numbers.specs.Shown.{shown}
use Rattle.numbers.specs.declared.refusal.Refusal.{Refusal}
use Rattle.numbers.proofs.Settled.{settled}
use Rattle.reader.specs.declared.Answer.{Answer}

pub answer-settled : (a b : Result (Answer × ℕ) Refusal) → shown a ≡ shown b → a ≡ b
answer-settled a b e = settled a b e

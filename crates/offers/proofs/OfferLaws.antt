-- The ECH field of a service, by what its number says: ech-none, ech-some.
use mathlib.Core.Path.{◌≡◌}
use mathlib.Core.Bool.{cond}
use mathlib.Core.List.{List}
use Prim.Native.Nat.{ℕ, ◌-◌}
use lib.Dec.{eqb as nat_eq}
use Rattle.std.specs.Prelude.{Option, None, Some}
use borrow.Author.Tests.{eq-eqb, ne_eqb}
use Rattle.numbers.specs.Got.{got}
use Rattle.numbers.specs.Fields.{at_most, bytes_at}
use Rattle.numbers.specs.Numbers.{read_number}
use Rattle.numbers.specs.Refusals.{too_many}
use Rattle.numbers.specs.declared.field.Span.{Span}
use Rattle.parts.specs.Reading.{Reading, read, next, field}
use Rattle.parts.proofs.Steps.{went_on, on-field}
use Rattle.offers.specs.Offers.{ech}

module _ (s : List ℕ) (p n q : ℕ) (e : got n q ≡ at_most 513 too_many (read_number s p)) where
  unfoldable after-length : ℕ → ℕ → Reading (Option Span)
  after-length n q = cond (nat_eq n 0) (read None q) (next (field q (bytes_at s (n - 1) q)) (λ b end. read (Some b) end))

  pub ech-none : n ≡ 0 → read None q ≡ ech s p
  unfolding ech after-length
  ech-none h = simp (eq-eqb n 0 h) at (went_on after-length n q (on-field p e))

  pub ech-some : (n ≡ 0 → ⊥) → next (field q (bytes_at s (n - 1) q)) (λ b end. read (Some b) end) ≡ ech s p
  unfolding ech after-length
  ech-some h = simp (ne_eqb n 0 h) at (went_on after-length n q (on-field p e))

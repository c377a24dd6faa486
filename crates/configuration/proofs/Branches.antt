-- What follows a field that decides, by what it is.
--     is-four, is-six, is_none, by_name, by-literal     a host's kind
--     some-multiplier                                   the multiplier, which isn't 0
use mathlib.Core.Path.{◌≡◌, ap, ◌∙◌}
use mathlib.Core.Bool.{cond}
use mathlib.Core.List.{List}
use Prim.Native.Nat.{ℕ, ◌%◌}
use lib.Dec.{eqb as nat_eq}
use borrow.Author.Tests.{eq-eqb, ne_eqb}
use Rattle.numbers.specs.Got.{Got, got}
use Rattle.numbers.specs.Fields.{at_most, name_at}
use Rattle.numbers.specs.Numbers.{read_number}
use Rattle.numbers.specs.Refusals.{out_of_range}
use Rattle.numbers.specs.declared.field.Span.{Span}
use Rattle.parts.specs.Reading.{read, fault, next, field}
use Rattle.parts.specs.Addresses.{four, six}
use Rattle.parts.proofs.Steps.{went_on, on-field}
use Rattle.configuration.specs.Configuration.{literal_by, host_by, multiplier_at}
use Rattle.configuration.specs.declared.HostSpan.TheVariants.{Absent, Named, V4, V6}

module _ (s : List ℕ) (kind p : ℕ) where
  pub is-four : kind ≡ 1 → next (four s p) (λ a end. read (V4 (a.lo % 4294967296)) end) ≡ literal_by s kind p
  unfolding literal_by
  is-four e = simp (eq-eqb kind 1 e)

  pub is-six : (kind ≡ 1 → ⊥) → kind ≡ 2 → next (six s p) (λ a end. read (V6 a.hi a.lo) end) ≡ literal_by s kind p
  unfolding literal_by
  is-six n e = simp (ne_eqb kind 1 n, eq-eqb kind 2 e)

  pub is_none : (kind ≡ 1 → ⊥) → (kind ≡ 2 → ⊥) → read Absent p ≡ literal_by s kind p
  unfolding literal_by
  is_none n m = simp (ne_eqb kind 1 n, ne_eqb kind 2 m)

  module _ (limit : ℕ) where
    pub by_name : {r : Got Span} → r ≡ name_at s limit p → kind ≡ 0 → next (field p r) (λ b end. read (Named b) end) ≡ host_by s limit kind p
    unfolding host_by
    by_name f e = ap (λ r. next (field p r) (λ b end. read (Named b) end)) f ∙ simp (eq-eqb kind 0 e)

    pub by-literal : (kind ≡ 0 → ⊥) → literal_by s kind p ≡ host_by s limit kind p
    unfolding host_by
    by-literal n = simp (ne_eqb kind 0 n)

module _ (s : List ℕ) (p v q : ℕ) (e : got v q ≡ at_most 4294967295 out_of_range (read_number s p)) where
  pub some-multiplier : (v ≡ 0 → ⊥) → read v q ≡ multiplier_at s p
  unfolding multiplier_at
  some-multiplier h = simp (ne_eqb v 0 h) at (went_on (λ v end. cond (nat_eq v 0) (fault out_of_range p) (read v end)) v q (on-field p e))

-- One field after the other, by what the first said: what a reader's arm returns is what the chain of fields says.
--     went_on, stopped          the first field was read, or refused
--     at-most, over             a number against its limit
--     no_length, some-length    a name's length
--     whole, short              raw bytes that are there, or cut
--     there                     where bytes that were read lie
--     between, is_name, no_name_lem the same of a reader's arm, and the bytes as a name
use mathlib.Core.Path.{◌≡◌, sym, ap, ◌∙◌}
use mathlib.Core.Bool.{Bool, true, false, cond}
use mathlib.Core.List.{List}
use mathlib.Core.Logic.{⊎_elim}
use Rattle.std.specs.Prelude.{Result, Ok}
use Prim.Native.Nat.{ℕ, ◌+◌, ◌-◌, ◌≤◌, ◌<◌}
use native.Mathlib.Omega.{arith}
use lib.Dec.{leb as nat_le, eqb as nat_eq}
use lib.ListN.{length, take, drop}
use borrow.Author.Tests.{le-leb, lt-leb, eq-eqb, ne_eqb}
use Rattle.numbers.specs.Got.{Got, got, refused, and_then}
use Rattle.numbers.specs.Fields.{at_most, bytes_at, name_length, named, span_bytes}
use Rattle.numbers.specs.Names.{name_ok}
use Rattle.numbers.specs.Refusals.{cut, bad_name, too_many}
use Rattle.numbers.specs.Shown.{shown}
use Rattle.numbers.specs.declared.field.Span.{Span}
use Rattle.numbers.specs.declared.refusal.Refusal.{Refusal}
use Rattle.numbers.proofs.Cases.{less-or-not}

pub went_on : {A B : Type 0} {r : Got A} (f : A → ℕ → Got B) (v : A) (next : ℕ) → got v next ≡ r → f v next ≡ and_then r f
went_on f v next e = ap (λ r. and_then r f) e

pub stopped : {A B : Type 0} {r : Got A} (f : A → ℕ → Got B) (n : ℕ) → refused n ≡ r → refused n ≡ and_then r f
stopped f n e = ap (λ r. and_then r f) e

module _ {r : Got ℕ} (limit n v next : ℕ) (e : got v next ≡ r) where
  pub at-most : v ≤ limit → got v next ≡ at_most limit n r
  unfolding at_most
  at-most h = simp (le-leb v limit h) at (went_on (λ x y. cond (nat_le x limit) (got x y) (refused n)) v next e)

  pub over : limit < v → refused n ≡ at_most limit n r
  unfolding at_most
  over h = simp (lt-leb v limit h) at (went_on (λ x y. cond (nat_le x limit) (got x y) (refused n)) v next e)

module _ (r : Got ℕ) (limit v next : ℕ) (e : got v next ≡ at_most limit too_many r) where
  pub no_length : v ≡ 0 → refused bad_name ≡ name_length limit r
  unfolding name_length
  no_length h = simp (eq-eqb v 0 h) at (went_on (λ x y. cond (nat_eq x 0) (refused bad_name) (got x y)) v next e)

  pub some-length : (v ≡ 0 → ⊥) → got v next ≡ name_length limit r
  unfolding name_length
  some-length h = simp (ne_eqb v 0 h) at (went_on (λ x y. cond (nat_eq x 0) (refused bad_name) (got x y)) v next e)

module _ (s : List ℕ) (n p : ℕ) where
  pub whole : p + n ≤ length s → got (record { start = p; len = n }) (p + n) ≡ bytes_at s n p
  unfolding bytes_at
  whole h = simp (le-leb (p + n) (length s) h)

  pub short : length s < p + n → refused cut ≡ bytes_at s n p
  unfolding bytes_at
  short h = simp (lt-leb (p + n) (length s) h)

-- bytes that were read lie where they were asked for, inside the slice
pub record There (s : List ℕ) (n p : ℕ) (b : Span) (next : ℕ) : Type 0 where
  pub span : b ≡ record { start = p; len = n }
  pub after : next ≡ p + n
  pub inside : p + n ≤ length s

pub there : (s : List ℕ) (n p : ℕ) {b : Span} {next : ℕ} → got b next ≡ bytes_at s n p → There s n p b next
there s n p e =
    ⊎_elim (λ (h : length s < p + n). absurd (let c = e ∙ sym (short s n p h) in let z : ◌≡◌ {A = ℕ} 0 1 = cc in omega arith))
    (λ (h : p + n ≤ length s). let c = e ∙ sym (whole s n p h) in record { span = cc; after = cc; inside = h })
    (less-or-not (length s) (p + n))

-- the same of a reader's arm: what the bytes read are, and what the name rule says of them
module _ (s : List ℕ) (n p : ℕ) {r : Result (Span × ℕ) Refusal} {b : Span} {next : ℕ} (arm : r ≡ Ok (b, next)) (e : shown r ≡ bytes_at s n p) where
  found : There s n p b next
  found = there s n p (sym (ap shown arm) ∙ e)

  pub between : (p ≤ next) × (next ≤ length s)
  between = let a = found.after in let i = found.inside in (omega arith, omega arith)

  named_by : {t v : Bool} → t ≡ name_ok (take (next - p) (drop p s)) → t ≡ v → name_ok (take n (drop p s)) ≡ v
  named_by h i = let a = found.after in let d : next - p ≡ n = omega arith in sym (rw d at h) ∙ i

  pub is_name : {t : Bool} → t ≡ name_ok (take (next - p) (drop p s)) → t ≡ true → got b next ≡ named s n p
  unfolding named
  is_name h i =
      rw (found.span, found.after)
      (simp (named_by h i) at (went_on (λ b next. cond (name_ok (span_bytes s b)) (got b next) (refused bad_name)) (record { start = p; len = n }) (p + n) (whole s n p found.inside)))

  pub no_name_lem : {t : Bool} → t ≡ name_ok (take (next - p) (drop p s)) → t ≡ false → refused bad_name ≡ named s n p
  unfolding named
  no_name_lem h i =
      simp (named_by h i) at (went_on (λ b next. cond (name_ok (span_bytes s b)) (got b next) (refused bad_name)) (record { start = p; len = n }) (p + n) (whole s n p found.inside))

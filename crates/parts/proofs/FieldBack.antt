-- Fields that are written are read back.
--     versions-small, versions-back, port-back   versions and a port, by their numbers
--     kept_back, field_back                      bytes in their room, and a name
use mathlib.Core.Path.{◌≡◌, refl, sym, ap, ◌∙◌}
use mathlib.Core.Bool.{Bool, true, false, cond}
use mathlib.Core.List.{List, [], ◌∷◌}
use Prim.Native.Nat.{ℕ, ◌+◌, ◌-◌, ◌*◌, ◌≤◌}
use native.Mathlib.Omega.{arith}
use lib.ListN.{length, length-append}
use borrow.Author.Tests.{le-leb}
use Rattle.numbers.specs.Got.{got, refused}
use Rattle.numbers.specs.Fields.{span_bytes, name_length, named, name_at}
use Rattle.numbers.specs.Names.{name_ok, longest_name, undotted, labels, label_ok, labels_ok, every}
use Rattle.numbers.specs.Numbers.{read_number, number_bytes}
use Rattle.numbers.specs.Refusals.{too_many, bad_name}
use Rattle.numbers.proofs.Steps as numbers
use Rattle.records.specs.declared.rules.Port.{Port}
use Rattle.records.specs.declared.rules.Port.TheVariants as port
use Rattle.records.specs.declared.rules.Versions.{Versions}
use Rattle.parts.specs.Reading.{read, field}
use Rattle.parts.specs.Fields.{versions_of, port_of}
use Rattle.parts.specs.Rooms.{fits, kept}
use Rattle.parts.specs.Written.{bit, versions_number, port_number, named_bytes}
use Rattle.parts.proofs.Steps.{on-field}
use Rattle.parts.proofs.Copying.{kept_there}
use Rattle.parts.proofs.Fields.{own-port}
use Rattle.parts.proofs.Back.{There, there-left, there-right, there-length, most-back, bytes_back, span-back, Back}

-- an empty name is none
not-empty : (bs : List ℕ) → name_ok bs ≡ true → length bs ≡ 0 → ⊥
unfolding name_ok labels_ok labels undotted label_ok every
not-empty [] e z = let w : ◌≡◌ {A = ℕ} 0 1 = ap (λ t. cond t 1 0) e in omega arith
not-empty (b ∷ bs) e z = omega arith

bit-small : (b : Bool) → bit b ≤ 1
bit-small true = omega arith
bit-small false = omega arith

pub versions-small : (v : Versions) → versions_number v ≤ 7
unfolding versions_number
versions-small v = omega (arith, bit-small v.h3, bit-small v.h2, bit-small v.h1)

versions-bits : (a b c : Bool) → versions_of (bit a + 2 * bit b + 4 * bit c) ≡ record { h3 = a; h2 = b; h1 = c }
unfolding versions_of
versions-bits true true true = refl
versions-bits true true false = refl
versions-bits true false true = refl
versions-bits true false false = refl
versions-bits false true true = refl
versions-bits false true false = refl
versions-bits false false true = refl
versions-bits false false false = refl

pub versions-back : (v : Versions) → versions_of (versions_number v) ≡ v
unfolding versions_number
versions-back v = versions-bits v.h3 v.h2 v.h1

pub port-back : (x : Port) → port_of (port_number x) ≡ x
unfolding port_of
port-back port.Origin = refl
port-back (port.Own p) = let e : p + 1 - 1 ≡ p = omega arith in sym (own-port (p + 1) (λ z. omega arith)) ∙ ap port.Own e

module _ (s : List ℕ) where
  -- bytes that stand in the body and fit their room are kept
  pub kept_back : (room p : ℕ) (bs : List ℕ) → length bs ≤ room → There s p bs → kept room s (record { start = p; len = length bs }) ≡ bs
  unfolding fits
  kept_back room p bs h t =
      kept_there room s (record { start = p; len = length bs }) (simp (le-leb (length bs) room h, le-leb (p + length bs) (length s) (there-length s p bs t)))
      ∙ span-back s p bs t

  module _ (p : ℕ) (bs : List ℕ) (ok : name_ok bs ≡ true) (short : length bs ≤ longest_name) (t : There s p (named_bytes bs)) where
    name-start : ℕ
    name-start = p + length (number_bytes (length bs))

    name-there : There s name-start bs
    unfolding named_bytes name-start
    name-there = there-right s p (number_bytes (length bs)) bs t

    name-end : name-start + length bs ≡ p + length (named_bytes bs)
    unfolding named_bytes name-start
    name-end = omega (arith, length-append (number_bytes (length bs)) bs)

    name-long : got (length bs) name-start ≡ name_length longest_name (read_number s p)
    unfolding named_bytes name-start
    name-long =
        numbers.some-length (read_number s p) longest_name (length bs) name-start
        (most-back s p longest_name too_many (length bs) short (omega arith) (there-left s p (number_bytes (length bs)) bs t)) (not-empty bs ok)

    name-named : got (record { start = name-start; len = length bs }) (name-start + length bs) ≡ named s (length bs) name-start
    unfolding named
    name-named =
        simp (ap name_ok (span-back s name-start bs name-there) ∙ ok)
        at (numbers.went_on (λ b q. cond (name_ok (span_bytes s b)) (got b q) (refused bad_name)) (record { start = name-start; len = length bs }) (name-start + length bs) (bytes_back s name-start bs name-there))

    pub field_back : Back (field p (name_at s longest_name p)) (p + length (named_bytes bs)) (λ b. kept longest_name s b ≡ bs)
    unfolding name_at
    field_back = record {
      value = record { start = name-start; len = length bs };
      reads = ap (read (record { start = name-start; len = length bs })) (sym name-end) ∙ on-field p (name-named ∙ numbers.went_on (named s) (length bs) name-start name-long);
      right = kept_back longest_name name-start bs short name-there;
    }

-- Where reading a configuration stops: the number of a fault is one of 1 to 6, its place lies in the body or at its end, and a body without
-- fault is read to its end.
--     fields-inside                    the fields that every edition has
--     edition-inside, edition-whole    any edition
--     fault-number, fault-place, read_whole, zero-whole, whole-zero     what `configuration_fault` gives
use mathlib.Core.Path.{◌≡◌, sym, ap, ◌∙◌}
use mathlib.Core.List.{List}
use Prim.Native.Nat.{ℕ, ◌%◌, ◌≤◌}
use native.Mathlib.Omega.{arith}
use lib.Dec.{ltb as nat_lt, eqb as nat_eq}
use lib.ListN.{length}
use Rattle.numbers.specs.Fields.{at_most, name_at}
use Rattle.numbers.specs.Names.{longest_name, longest_origin}
use Rattle.numbers.specs.Numbers.{read_number}
use Rattle.numbers.specs.Refusals.{out_of_range, trailing}
use Rattle.parts.specs.Reading.{Reading, read, fault, field}
use Rattle.parts.specs.Items.{counted}
use Rattle.parts.specs.Addresses.{four, six}
use Rattle.parts.specs.Fields.{versions_at, port_at}
use Rattle.bodies.specs.Events.{fault_of}
use Rattle.configuration.specs.Configuration.{literal_by, host_by, origin_at, alt_host_at, version_of, alt, preference_of, choices, front, multiplier_at, pace, flagged, back, set_up, rest_at, fields_at, edition_at, none_added, setup_at}
use Rattle.configuration.specs.declared.HostSpan.TheVariants.{Absent, Named, V4, V6}
use Rattle.configuration.specs.declared.Setup.{Setup}
use Rattle.configuration.proofs.Editions.{edition-read}
use Rattle.written.proofs.Inside.{Inside, in-read, in-fault, in-cond, in-next, in_field, number-plain, name-plain, range_inside, counted-inside, four-inside, six-inside, versions-inside, port-inside, number_small, place_inside, none_read, read_none}

module _ (s : List ℕ) where
  literal-inside : (kind p : ℕ) → p ≤ length s → Inside s (literal_by s kind p)
  unfolding literal_by
  literal-inside kind p h =
      in-cond s (nat_eq kind 1) _ _ (in-next s (four s p) _ (four-inside s p h) (λ a end i. in-read s (V4 (a.lo % 4294967296)) end i))
      (in-cond s (nat_eq kind 2) _ _ (in-next s (six s p) _ (six-inside s p h) (λ a end i. in-read s (V6 a.hi a.lo) end i)) (in-read s Absent p h))

  host-inside : (limit kind p : ℕ) → p ≤ length s → Inside s (host_by s limit kind p)
  unfolding host_by
  host-inside limit kind p h =
      in-cond s (nat_eq kind 0) _ _ (in-next s (field p (name_at s limit p)) _ (in_field s p h (name_at s limit p) (name-plain s limit p h)) (λ b end i. in-read s (Named b) end i))
      (literal-inside kind p h)

  origin-inside : (p : ℕ) → p ≤ length s → Inside s (origin_at s p)
  unfolding origin_at
  origin-inside p h = in-next s (field p (at_most 2 out_of_range (read_number s p))) (host_by s longest_origin) (range_inside s 2 p h) (host-inside longest_origin)

  alt-inside : (p : ℕ) → p ≤ length s → Inside s (alt s p)
  unfolding alt alt_host_at
  alt-inside p h =
      in-next s (alt_host_at s p) _ (in-next s (field p (at_most 3 out_of_range (read_number s p))) (host_by s longest_name) (range_inside s 3 p h) (host-inside longest_name)) (λ x q i.
      in-next s (port_at s q) _ (port-inside s q i) (λ y r j.
      in-next s (field r (at_most 2 out_of_range (read_number s r))) _ (range_inside s 2 r j) (λ v end k.
      in-read s (record { host = x; port = y; version = version_of v }) end k)))

  front-inside : Inside s (front s)
  unfolding front choices
  front-inside =
      in-next s (field 0 (at_most 65535 out_of_range (read_number s 0))) _ (range_inside s 65535 0 (omega arith)) (λ port p h.
      in-next s (origin_at s p) _ (origin-inside p h) (λ x q i.
      in-next s (versions_at s q) _ (versions-inside s q i) (λ v r j.
      in-next s (field r (at_most 3 out_of_range (read_number s r))) _ (range_inside s 3 r j) (λ n end k.
      in-read s (record { port = port; host = x; versions = v; preference = preference_of n }) end k))))

  multiplier-inside : (p : ℕ) → p ≤ length s → Inside s (multiplier_at s p)
  unfolding multiplier_at
  multiplier-inside p h =
      in-next s (field p (at_most 4294967295 out_of_range (read_number s p))) _ (range_inside s 4294967295 p h) (λ v end i.
      in-cond s (nat_eq v 0) (fault out_of_range p) (read v end) (in-fault s out_of_range p (omega arith, omega arith) h) (in-read s v end i))

  pace-inside : (p : ℕ) → p ≤ length s → Inside s (pace s p)
  unfolding pace
  pace-inside p h =
      in-next s (field p (read_number s p)) _ (in_field s p h (read_number s p) (number-plain s p h)) (λ r q i.
      in-next s (field q (read_number s q)) _ (in_field s q i (read_number s q) (number-plain s q i)) (λ d t j.
      in-next s (multiplier_at s t) _ (multiplier-inside t j) (λ m end k. in-read s (record { resolution = r; delay = d; multiplier = m }) end k)))

  back_inside : (p : ℕ) → p ≤ length s → Inside s (back s p)
  unfolding back flagged
  back_inside p h =
      in-next s (pace s p) _ (pace-inside p h) (λ t q i.
      in-next s (field q (at_most 3 out_of_range (read_number s q))) _ (range_inside s 3 q i) (λ flags r j.
      in-next s (field r (at_most 2 out_of_range (read_number s r))) _ (range_inside s 2 r j) (λ v end k. in-read s _ end k)))

  pub fields-inside : Inside s (fields_at s)
  unfolding fields_at rest_at
  fields-inside =
      in-next s (front s) _ front-inside (λ f p h.
      in-next s (counted 4 (alt s) s p) _ (counted-inside s (alt s) alt-inside 4 p h) (λ l q i.
      in-next s (back s q) _ (back_inside q i) (λ b end j. in-read s (set_up f l b) end j)))

  module _ {A : Type 0} (added : List ℕ → Setup → ℕ → Reading A) (own : (c : Setup) (p : ℕ) → p ≤ length s → Inside s (added s c p)) where
    pub edition-inside : Inside s (edition_at added s)
    unfolding edition_at
    edition-inside =
        in-next s (fields_at s) _ fields-inside (λ c p h.
        in-next s (added s c p) _ (own c p h) (λ v end i.
        in-cond s (nat_lt end (length s)) (fault trailing end) (read v end) (in-fault s trailing end (omega arith, omega arith) i) (in-read s v end i)))

    pub edition-whole : (v : A) (end : ℕ) → read v end ≡ edition_at added s → end ≡ length s
    edition-whole v end e = omega (arith, (edition-read added s e).whole, edition-inside.ends v end e)

  none_inside : (c : Setup) (p : ℕ) → p ≤ length s → Inside s (none_added s c p)
  none_inside c p h = in-read s c p h

  setup-inside : Inside s (setup_at s)
  unfolding setup_at
  setup-inside = edition-inside none_added none_inside

  pub fault-number : (fault_of (setup_at s)).number ≤ 6
  fault-number = number_small s (setup_at s) setup-inside

  pub fault-place : (fault_of (setup_at s)).place ≤ length s
  fault-place = place_inside s (setup_at s) setup-inside

  pub read_whole : (c : Setup) (end : ℕ) → read c end ≡ setup_at s → end ≡ length s
  unfolding setup_at
  read_whole c end e = edition-whole none_added none_inside c end e

  -- 0 is given exactly where the body is read whole
  pub zero-whole : (fault_of (setup_at s)).number ≡ 0 → (c : Setup) × (read c (length s) ≡ setup_at s)
  zero-whole z = let x = none_read s (setup_at s) setup-inside z in (x.0, ap (read x.0) (sym (read_whole x.0 _ x.1)) ∙ x.1)

  pub whole-zero : (c : Setup) (end : ℕ) → read c end ≡ setup_at s → (fault_of (setup_at s)).number ≡ 0
  whole-zero c end e = read_none s (setup_at s) e

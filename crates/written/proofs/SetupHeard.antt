-- What a configuration that was read is known by: its origin has a host, each name is one and within its limit.
--     OriginHeard, AltHeard     a host
--     SetupHeard, fields-heard  the fields that every edition has
use mathlib.Core.Path.{◌≡◌, refl}
use mathlib.Core.List.{List}
use Prim.Native.Nat.{ℕ, zero, suc, ◌%◌, ◌≤◌}
use native.Mathlib.Omega.{arith}
use lib.Dec.{eqb as nat_eq}
use lib.ListN.{length}
use borrow.Author.Tests.{eqb-false}
use Rattle.numbers.specs.Got.{got}
use Rattle.numbers.specs.Fields.{at_most, name_at}
use Rattle.numbers.specs.Names.{longest_name, longest_origin}
use Rattle.numbers.specs.Numbers.{read_number}
use Rattle.numbers.specs.Refusals.{out_of_range}
use Rattle.numbers.specs.declared.field.Span.{Span}
use Rattle.parts.specs.Reading.{read, field}
use Rattle.parts.specs.Items.{counted, listed}
use Rattle.parts.specs.Addresses.{four, six}
use Rattle.parts.specs.Fields.{versions_at, port_at}
use Rattle.parts.specs.Rooms.{kept}
use Rattle.parts.specs.Written.{All}
use Rattle.parts.specs.declared.address.Items.{Items}
use Rattle.parts.proofs.Steps.{field-read, within}
use Rattle.parts.proofs.Items.{Row, counted-row, items-all}
use Rattle.configuration.specs.Configuration.{literal_by, host_by, origin_at, alt_host_at, version_of, alt, preference_of, choices, front, back, host_in, set_up, rest_at, fields_at}
use Rattle.configuration.specs.declared.HostSpan.{HostSpan}
use Rattle.configuration.specs.declared.HostSpan.TheVariants.{Absent, Named, V4, V6}
use Rattle.configuration.specs.declared.AltSpan.{AltSpan}
use Rattle.configuration.specs.declared.Front.{Front}
use Rattle.configuration.specs.declared.Setup.{Setup}
use Rattle.written.proofs.Good.{Good, good-read, good-if, good_next}
use Rattle.written.proofs.Heard.{NameHeard, name-heard}

module _ (s : List ℕ) where
  abbrev pub OriginHeard : HostSpan → Type 0
  OriginHeard Absent = ⊥
  OriginHeard (Named b) = NameHeard s b × (length (kept longest_name s b) ≤ longest_origin)
  OriginHeard (V4 x) = Unit {0}
  OriginHeard (V6 x y) = Unit {0}

  abbrev pub AltHeard : HostSpan → Type 0
  AltHeard Absent = Unit {0}
  AltHeard (Named b) = NameHeard s b
  AltHeard (V4 x) = Unit {0}
  AltHeard (V6 x y) = Unit {0}

  -- a host by its kind
  host-good : (P : HostSpan → Type 0) (limit kind p : ℕ) → ((b : Span) (end : ℕ) → got b end ≡ name_at s limit p → P (Named b)) → ((x : ℕ) → P (V4 x)) → ((x y : ℕ) → P (V6 x y))
      → ((kind ≡ 0 → ⊥) → (kind ≡ 1 → ⊥) → (kind ≡ 2 → ⊥) → P Absent) → Good P (host_by s limit kind p)
  unfolding host_by literal_by
  host-good P limit kind p name v4 v6 none =
      good-if (nat_eq kind 0) _ _ (λ e. good_next (field p (name_at s limit p)) _ (λ b end f. good-read (Named b) end (name b end (field-read p (name_at s limit p) f)))) (λ e0.
      good-if (nat_eq kind 1) _ _ (λ e. good_next (four s p) _ (λ a end f. good-read (V4 (a.lo % 4294967296)) end (v4 (a.lo % 4294967296)))) (λ e1.
      good-if (nat_eq kind 2) _ _ (λ e. good_next (six s p) _ (λ a end f. good-read (V6 a.hi a.lo) end (v6 a.hi a.lo))) (λ e2.
      good-read Absent p (none (eqb-false kind 0 e0) (eqb-false kind 1 e1) (eqb-false kind 2 e2)))))

  origin-good : (p : ℕ) → Good OriginHeard (origin_at s p)
  unfolding origin_at
  origin-good p =
      good_next (field p (at_most 2 out_of_range (read_number s p))) (host_by s longest_origin) (λ kind q e.
      host-good OriginHeard longest_origin kind q (λ b end f. name-heard s longest_origin (omega arith) q b end f) (λ x. tt) (λ x y. tt)
      (λ n0 n1 n2. absurd (let h = within 2 out_of_range (read_number s p) (field-read p (at_most 2 out_of_range (read_number s p)) e) in few kind h n0 n1 n2)))
    where
      few : (kind : ℕ) → kind ≤ 2 → (kind ≡ 0 → ⊥) → (kind ≡ 1 → ⊥) → (kind ≡ 2 → ⊥) → ⊥
      few zero h n0 n1 n2 = n0 refl
      few (suc zero) h n0 n1 n2 = n1 refl
      few (suc (suc zero)) h n0 n1 n2 = n2 refl
      few (suc (suc (suc kind))) h n0 n1 n2 = omega arith

  alt-host-good : (p : ℕ) → Good AltHeard (alt_host_at s p)
  unfolding alt_host_at
  alt-host-good p =
      good_next (field p (at_most 3 out_of_range (read_number s p))) (host_by s longest_name) (λ kind q e.
      host-good AltHeard longest_name kind q (λ b end f. (name-heard s longest_name (omega arith) q b end f).0) (λ x. tt) (λ x y. tt) (λ n0 n1 n2. tt))

  alt-good : (p : ℕ) → Good (λ (a : AltSpan). AltHeard a.host) (alt s p)
  unfolding alt
  alt-good p =
      good_next (alt_host_at s p) _ (λ h q e.
      good_next (port_at s q) _ (λ x r f.
      good_next (field r (at_most 2 out_of_range (read_number s r))) _ (λ v end g.
      good-read (record { host = h; port = x; version = version_of v }) end ((alt-host-good p).so h q e))))

  front-good : Good (λ (f : Front). OriginHeard f.host) (front s)
  unfolding front choices
  front-good =
      good_next (field 0 (at_most 65535 out_of_range (read_number s 0))) _ (λ port p d.
      good_next (origin_at s p) _ (λ h q e.
      good_next (versions_at s q) _ (λ x r f.
      good_next (field r (at_most 3 out_of_range (read_number s r))) _ (λ v end g.
      good-read (record { port = port; host = h; versions = x; preference = preference_of v }) end ((origin-good p).so h q e)))))

  pub record SetupHeard (c : Setup) : Type 0 where
    pub origin : OriginHeard c.origin
    pub host : c.rules.host ≡ host_in c.origin
    pub end : ℕ
    pub row : Row 4 (alt s) c.alts end
    pub alts : All (λ (a : AltSpan). AltHeard a.host) (listed 4 (alt s) c.alts)

  alts-heard : (l : Items) (end : ℕ) → Row 4 (alt s) l end → All (λ (a : AltSpan). AltHeard a.host) (listed 4 (alt s) l)
  alts-heard l end r = items-all (alt s) (λ a. AltHeard a.host) (λ p. (alt-good p).so) l.count l.first (listed 4 (alt s) l) end r.all

  fields-good : Good SetupHeard (fields_at s)
  unfolding fields_at rest_at set_up
  fields-good =
      good_next (front s) _ (λ f p d.
      good_next (counted 4 (alt s) s p) _ (λ l q e.
      let r = counted-row 4 (alt s) s p e in
      good_next (back s q) _ (λ b end g.
      good-read (set_up f l b) end (record { origin = front-good.so f p d; host = refl; end = q; row = r; alts = alts-heard l q r }))))

  pub fields-heard : (c : Setup) (end : ℕ) → read c end ≡ fields_at s → SetupHeard c
  fields-heard = fields-good.so

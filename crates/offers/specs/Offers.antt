-- A service in an HTTPS answer, rule B.6: first where its name, ECH bytes and hints stand, then what they are.
use Rattle.std.specs.Prelude.{cond, ℕ, ◌-◌, List, map, nat_eq, length, replicate, Option, None, Some}
use Rattle.numbers.specs.Fields.{at_most, bytes_at, name_at}
use Rattle.numbers.specs.Names.{longest_name}
use Rattle.numbers.specs.Numbers.{read_number}
use Rattle.numbers.specs.Refusals.{out_of_range, too_many}
use Rattle.numbers.specs.declared.field.Span.{Span}
use Rattle.records.specs.Lists.{padded}
use Rattle.records.specs.Names.{no_name, no_ech}
use Rattle.records.specs.Services.{no_service, no_services}
use Rattle.records.specs.declared.names.Ech.{Ech}
use Rattle.records.specs.declared.names.EchPlace.{EchPlace}
use Rattle.records.specs.declared.names.EchPlace.TheVariants as place
use Rattle.records.specs.declared.names.Name.{Name}
use Rattle.records.specs.declared.services.Service.{Service}
use Rattle.after.specs.declared.TargetEchs.{TargetEchs}
use Rattle.after.specs.declared.TargetNames.{TargetNames}
use Rattle.parts.specs.Reading.{Reading, read, next, field}
use Rattle.parts.specs.Items.{counted, listed}
use Rattle.parts.specs.Addresses.{address, fours_in, sixes_in}
use Rattle.parts.specs.Fields.{versions_at, port_at}
use Rattle.parts.specs.Rooms.{kept, name_in, ech_in}
use Rattle.parts.specs.declared.address.Form.TheVariants.{Four, Six}
use Rattle.parts.specs.declared.address.Items.{Items}
use Rattle.offers.specs.declared.Head.{Head}
use Rattle.offers.specs.declared.Way.{Way}
use Rattle.offers.specs.declared.Hints.{Hints}
use Rattle.offers.specs.declared.Offer.{Offer}
use Rattle.offers.specs.declared.Located.{Located}
use Rattle.offers.specs.declared.Offered.{Offered}

-- priority, target name, versions
unfoldable pub head : List ℕ → (p : ℕ) → Reading Head
head s p = next (field p (at_most 65535 out_of_range (read_number s p))) (λ n q. next (field q (name_at s longest_name q)) (λ b q. next (versions_at s q) (λ v end.
    read (record { priority = n; name = b; versions = v }) end)))

-- ECH: 0 for none, else the length plus one, then the bytes
unfoldable pub ech : List ℕ → (p : ℕ) → Reading (Option Span)
ech s p = next (field p (at_most 513 too_many (read_number s p))) (λ n q.
    cond (nat_eq n 0) (read None q) (next (field q (bytes_at s (n - 1) q)) (λ b end. read (Some b) end)))

-- port, ECH
unfoldable pub way : List ℕ → (p : ℕ) → Reading Way
way s p = next (port_at s p) (λ x q. next (ech s q) (λ e end. read (record { port = x; ech = e }) end))

-- IPv4 hints, IPv6 hints
unfoldable pub hints : List ℕ → (p : ℕ) → Reading Hints
hints s p = next (counted 4 (address Four s) s p) (λ f q. next (counted 4 (address Six s) s q) (λ x end. read (record { four = f; six = x }) end))

unfoldable pub offer : List ℕ → (p : ℕ) → Reading Offer
offer s p = next (head s p) (λ h q. next (way s q) (λ w q. next (hints s q) (λ x end. read (record { head = h; way = w; hints = x }) end)))

-- What stands there. The places of its name and ECH bytes in the machine's tables are settled when it is stored.

abbrev pub sealed_at : Option Span → EchPlace
sealed_at None = place.Without
sealed_at (Some b) = place.At 0

unfoldable pub service_of : List ℕ → Offer → Service
service_of s o = record {
  priority = o.head.priority;
  name = 0;
  ech = sealed_at o.way.ech;
  versions = o.head.versions;
  port = o.way.port;
  n4 = (fours_in s o.hints.four).count;
  v4 = (fours_in s o.hints.four).list;
  n6 = (sixes_in s o.hints.six).count;
  v6 = (sixes_in s o.hints.six).list;
}

unfoldable pub target_name : List ℕ → Offer → Name
target_name s o = name_in (kept longest_name s o.head.name)

abbrev pub ech_from : List ℕ → Option Span → Ech
ech_from s None = no_ech
ech_from s (Some b) = ech_in (kept 512 s b)

unfoldable pub target_ech : List ℕ → Offer → Ech
target_ech s o = ech_from s o.way.ech

-- services with their names and ECH bytes, in their rooms; and none
unfoldable pub brought : List ℕ → List Offer → Offered
brought s l = record {
  services = record { count = length l; list = padded 4 no_service (map (service_of s) l) };
  names = record { list = padded 4 no_name (map (target_name s) l) };
  echs = record { list = padded 4 no_ech (map (target_ech s) l) };
}

unfoldable pub no_offered : Offered
no_offered = record { services = no_services; names = record { list = replicate 4 no_name }; echs = record { list = replicate 4 no_ech } }

unfoldable pub offered_in : List ℕ → Items → Offered
offered_in s l = brought s (listed 4 (offer s) l)

-- The same services, and where their names and ECH bytes stand; and none. A service without ECH bytes has the empty span: its `ech` says which.

abbrev pub no_span : Span
no_span = record { start = 0; len = 0 }

abbrev pub span_of : Option Span → Span
span_of None = no_span
span_of (Some b) = b

unfoldable pub located : List ℕ → List Offer → Located
located s l = record {
  services = record { count = length l; list = padded 4 no_service (map (service_of s) l) };
  names = padded 4 no_span (map (λ o. o.head.name) l);
  echs = padded 4 no_span (map (λ o. span_of o.way.ech) l);
}

unfoldable pub no_located : Located
no_located = record { services = no_services; names = replicate 4 no_span; echs = replicate 4 no_span }

unfoldable pub located_in : List ℕ → Items → Located
located_in s l = located s (listed 4 (offer s) l)

-- what stands there, in its rooms: `brought` of the same services (proofs/Places.antt)
unfoldable pub names_in : List ℕ → List Span → TargetNames
names_in s l = record { list = map (λ b. name_in (kept longest_name s b)) l }

unfoldable pub echs_in : List ℕ → List Span → TargetEchs
echs_in s l = record { list = map (λ b. ech_in (kept 512 s b)) l }

unfoldable pub in_rooms : List ℕ → Located → Offered
in_rooms s o = record { services = o.services; names = names_in s o.names; echs = echs_in s o.echs }

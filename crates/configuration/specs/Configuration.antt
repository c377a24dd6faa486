-- The configuration body, rules B.1 and B.8: its fields in order, with names and alternative services where they stand. A later edition
-- adds its fields after the mode.
use Rattle.std.specs.Prelude.{cond, ℕ, ◌%◌, List, nat_lt, nat_le, nat_eq, length}
use Rattle.numbers.specs.Fields.{at_most, name_at}
use Rattle.numbers.specs.Names.{longest_name, longest_origin}
use Rattle.numbers.specs.Numbers.{read_number}
use Rattle.numbers.specs.Refusals.{out_of_range, trailing}
use Rattle.records.specs.declared.rules.Host.{Host}
use Rattle.records.specs.declared.rules.Host.TheVariants as host
use Rattle.records.specs.declared.rules.Mode.{Mode}
use Rattle.records.specs.declared.rules.Mode.TheVariants as mode
use Rattle.records.specs.declared.rules.Preference.{Preference}
use Rattle.records.specs.declared.rules.Preference.TheVariants.{DualStackPreferV6, DualStackPreferV4, Ipv6Only, Ipv4Only}
use Rattle.records.specs.declared.rules.Version.{Version}
use Rattle.records.specs.declared.rules.Version.TheVariants as version
use Rattle.parts.specs.Reading.{Reading, read, fault, next, field}
use Rattle.parts.specs.Items.{counted}
use Rattle.parts.specs.Addresses.{four, six}
use Rattle.parts.specs.Fields.{versions_at, port_at}
use Rattle.parts.specs.declared.address.Items.{Items}
use Rattle.configuration.specs.declared.HostSpan.{HostSpan}
use Rattle.configuration.specs.declared.HostSpan.TheVariants.{Absent, Named, V4, V6}
use Rattle.configuration.specs.declared.AltSpan.{AltSpan}
use Rattle.configuration.specs.declared.Front.{Front}
use Rattle.configuration.specs.declared.Pace.{Pace}
use Rattle.configuration.specs.declared.Back.{Back}
use Rattle.configuration.specs.declared.Setup.{Setup}

-- host 1 IPv4, 2 IPv6 (no scope), 3 none
unfoldable pub literal_by : List ℕ → (kind p : ℕ) → Reading HostSpan
literal_by s kind p =
    cond (nat_eq kind 1) (next (four s p) (λ a end. read (V4 (a.lo % 4294967296)) end))
    (cond (nat_eq kind 2) (next (six s p) (λ a end. read (V6 a.hi a.lo) end))
    (read Absent p))

-- host 0: length and bytes of a name
unfoldable pub host_by : List ℕ → (limit kind p : ℕ) → Reading HostSpan
host_by s limit kind p = cond (nat_eq kind 0) (next (field p (name_at s limit p)) (λ b end. read (Named b) end)) (literal_by s kind p)

-- the origin's host, 0 to 2; an alternative service's, 0 to 3
unfoldable pub origin_at : List ℕ → (p : ℕ) → Reading HostSpan
origin_at s p = next (field p (at_most 2 out_of_range (read_number s p))) (host_by s longest_origin)

unfoldable pub alt_host_at : List ℕ → (p : ℕ) → Reading HostSpan
alt_host_at s p = next (field p (at_most 3 out_of_range (read_number s p))) (host_by s longest_name)

-- version 0 to 2
unfoldable pub version_of : ℕ → Version
version_of v = cond (nat_eq v 0) version.H3 (cond (nat_eq v 1) version.H2 version.H1)

-- an alternative service: host, port, version
unfoldable pub alt : List ℕ → (p : ℕ) → Reading AltSpan
alt s p =
    next (alt_host_at s p) (λ h q.
    next (port_at s q) (λ x q.
    next (field q (at_most 2 out_of_range (read_number s q))) (λ v end.
    read (record { host = h; port = x; version = version_of v }) end)))

-- preference 0 to 3, in the order of `IpPreference`
unfoldable pub preference_of : ℕ → Preference
preference_of v = cond (nat_eq v 0) DualStackPreferV6 (cond (nat_eq v 1) DualStackPreferV4 (cond (nat_eq v 2) Ipv6Only Ipv4Only))

-- port, host, versions, preference
unfoldable pub choices : List ℕ → ℕ → HostSpan → (p : ℕ) → Reading Front
choices s port host p =
    next (versions_at s p) (λ x q.
    next (field q (at_most 3 out_of_range (read_number s q))) (λ v end.
    read (record { port = port; host = host; versions = x; preference = preference_of v }) end))

unfoldable pub front : List ℕ → Reading Front
front s = next (field 0 (at_most 65535 out_of_range (read_number s 0))) (λ port q. next (origin_at s q) (λ h q. choices s port h q))

-- multiplier 1 to 2^32-1
unfoldable pub multiplier_at : List ℕ → (p : ℕ) → Reading ℕ
multiplier_at s p = next (field p (at_most 4294967295 out_of_range (read_number s p))) (λ v end. cond (nat_eq v 0) (fault out_of_range p) (read v end))

-- resolution delay, attempt delay, multiplier
unfoldable pub pace : List ℕ → (p : ℕ) → Reading Pace
pace s p =
    next (field p (read_number s p)) (λ r q.
    next (field q (read_number s q)) (λ d q.
    next (multiplier_at s q) (λ m end.
    read (record { resolution = r; delay = d; multiplier = m }) end)))

-- mode 0 to 2, in the order of `ResolutionMode`
unfoldable pub mode_of : ℕ → Mode
mode_of v = cond (nat_eq v 0) mode.Ip (cond (nat_eq v 1) mode.Name mode.NameWithHttpsRr)

-- flags, of which bit 0 is `ech` and bit 1 `wait_for_preferred_address`; mode
unfoldable pub flagged : List ℕ → Pace → (p : ℕ) → Reading Back
flagged s t p =
    next (field p (at_most 3 out_of_range (read_number s p))) (λ flags q.
    next (field q (at_most 2 out_of_range (read_number s q))) (λ v end.
    read (record {
      timing = record { wait = nat_le 2 flags; multiplier = t.multiplier; resolution = t.resolution; delay = t.delay };
      ech = nat_eq (flags % 2) 1;
      mode = mode_of v;
    }) end))

unfoldable pub back : List ℕ → (p : ℕ) → Reading Back
back s p = next (pace s p) (λ t q. flagged s t q)

-- an origin has a host: `Absent` can't be read there
abbrev pub host_in : HostSpan → Host
host_in Absent = host.Named
host_in (Named b) = host.Named
host_in (V4 x) = host.V4 x
host_in (V6 x y) = host.V6 x y

unfoldable pub set_up : Front → Items → Back → Setup
set_up f l b =
    record {
      rules = record { host = host_in f.host; port = f.port; versions = f.versions; preference = f.preference; mode = b.mode; ech = b.ech };
      timing = b.timing;
      origin = f.host;
      alts = l;
    }

-- the fields that every edition has: up to the mode
unfoldable pub rest_at : List ℕ → Front → Items → (p : ℕ) → Reading Setup
rest_at s f l p = next (back s p) (λ b end. read (set_up f l b) end)

unfoldable pub fields_at : List ℕ → Reading Setup
fields_at s = next (front s) (λ f q. next (counted 4 (alt s) s q) (λ l q. rest_at s f l q))

-- An edition of the body is known by the fields that it adds after the mode; what they may be can hang on the fields before. Nothing follows
-- the last field.
unfoldable pub edition_at : {A : Type 0} → (added : List ℕ → Setup → ℕ → Reading A) → List ℕ → Reading A
edition_at added s = next (fields_at s) (λ c q. next (added s c q) (λ v end. cond (nat_lt end (length s)) (fault trailing end) (read v end)))

-- this edition adds none
abbrev pub none_added : List ℕ → Setup → ℕ → Reading Setup
none_added s c p = read c p

unfoldable pub setup_at : List ℕ → Reading Setup
setup_at s = edition_at none_added s

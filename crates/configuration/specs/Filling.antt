-- What a sound configuration holds (rules B.8 and S.8): its alternative services and its names in their rooms, zero past counts and
-- lengths.
use Rattle.std.specs.Prelude.{List, ◌∷◌, map, ℕ, length, get_or, replicate}
use Rattle.numbers.specs.Names.{longest_name}
use Rattle.records.specs.Lists.{padded}
use Rattle.records.specs.Names.{no_name, blank_name}
use Rattle.records.specs.Rules.{no_alt, no_alts}
use Rattle.records.specs.declared.names.Name.{Name}
use Rattle.records.specs.declared.names.Names.{Names}
use Rattle.records.specs.declared.rules.Alt.{Alt}
use Rattle.records.specs.declared.rules.AltHost.{AltHost}
use Rattle.records.specs.declared.rules.AltHost.TheVariants as althost
use Rattle.records.specs.declared.rules.Host.TheVariants as host
use Rattle.parts.specs.Items.{listed}
use Rattle.parts.specs.Rooms.{kept, name_in}
use Rattle.parts.specs.declared.address.Items.{Items}
use Rattle.configuration.specs.Configuration.{alt}
use Rattle.configuration.specs.declared.HostSpan.{HostSpan}
use Rattle.configuration.specs.declared.HostSpan.TheVariants.{Absent, Named, V4, V6}
use Rattle.configuration.specs.declared.AltSpan.{AltSpan}
use Rattle.configuration.specs.declared.AltNames.{AltNames}
use Rattle.configuration.specs.declared.Alternatives.{Alternatives}
use Rattle.configuration.specs.declared.Setup.{Setup}
use Rattle.configuration.specs.declared.Configured.{Configured}

abbrev pub alt_host : HostSpan → AltHost
alt_host Absent = althost.Origin
alt_host (Named b) = althost.Own host.Named
alt_host (V4 x) = althost.Own (host.V4 x)
alt_host (V6 x y) = althost.Own (host.V6 x y)

unfoldable pub alt_of : AltSpan → Alt
alt_of a = record { host = alt_host a.host; port = a.port; version = a.version }

-- a host's name; empty where it has none
abbrev pub host_name : List ℕ → HostSpan → Name
host_name s Absent = no_name
host_name s (Named b) = name_in (kept longest_name s b)
host_name s (V4 x) = no_name
host_name s (V6 x y) = no_name

unfoldable pub alt_name : List ℕ → AltSpan → Name
alt_name s a = host_name s a.host

-- the alternative services, with their names beside; and none
unfoldable pub alts_by : List ℕ → List AltSpan → Alternatives
alts_by s l = record {
  alts = record { count = length l; list = padded 4 no_alt (map alt_of l) };
  names = record { list = padded 4 no_name (map (alt_name s) l) };
}

unfoldable pub no_alternatives : Alternatives
no_alternatives = record { alts = no_alts; names = record { list = replicate 4 no_name } }

unfoldable pub alts_in : List ℕ → Items → Alternatives
alts_in s l = alts_by s (listed 4 (alt s) l)

-- the names' places: 0 the origin, 1 to 4 the alternative services
unfoldable pub names_with : Name → AltNames → Names
names_with origin l = record { list = origin ∷ get_or l.list 0 blank_name ∷ get_or l.list 1 blank_name ∷ get_or l.list 2 blank_name ∷ get_or l.list 3 blank_name ∷ replicate 9 no_name }

unfoldable pub configured_by : List ℕ → HostSpan → List AltSpan → Configured
configured_by s origin l = record {
  alts = record { count = length l; list = padded 4 no_alt (map alt_of l) };
  names = record { list = host_name s origin ∷ padded 13 no_name (map (alt_name s) l) };
}

unfoldable pub configured_in : List ℕ → Setup → Configured
configured_in s c = configured_by s c.origin (listed 4 (alt s) c.alts)

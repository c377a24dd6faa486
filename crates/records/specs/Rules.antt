-- What the configuration says of families, modes and hosts. Rules 4.4 and 4.8 to 4.10; its values: rule B.8.
use Rattle.std.specs.Prelude.{Bool, true, false, replicate}
use Rattle.records.specs.declared.rules.Alt.{Alt}
use Rattle.records.specs.declared.rules.Alts.{Alts}
use Rattle.records.specs.declared.rules.AltHost.{AltHost}
use Rattle.records.specs.declared.rules.AltHost.TheVariants as alt
use Rattle.records.specs.declared.rules.Host.{Host}
use Rattle.records.specs.declared.rules.Host.TheVariants as host
use Rattle.records.specs.declared.rules.Mode.{Mode}
use Rattle.records.specs.declared.rules.Mode.TheVariants as mode
use Rattle.records.specs.declared.rules.Port.TheVariants as port
use Rattle.records.specs.declared.rules.Preference.{Preference}
use Rattle.records.specs.declared.rules.Preference.TheVariants.{DualStackPreferV6, DualStackPreferV4, Ipv6Only, Ipv4Only}
use Rattle.records.specs.declared.rules.Version.TheVariants as version

abbrev pub no_alt : Alt
no_alt = record { host = alt.Origin; port = port.Origin; version = version.H3 }

unfoldable pub no_alts : Alts
no_alts = record { count = 0; list = replicate 4 no_alt }

-- the preferred family, and the families that are allowed
abbrev pub prefers_six : Preference → Bool
prefers_six DualStackPreferV6 = true
prefers_six DualStackPreferV4 = false
prefers_six Ipv6Only = true
prefers_six Ipv4Only = false

abbrev pub allows_six : Preference → Bool
allows_six DualStackPreferV6 = true
allows_six DualStackPreferV4 = true
allows_six Ipv6Only = true
allows_six Ipv4Only = false

abbrev pub allows_four : Preference → Bool
allows_four DualStackPreferV6 = true
allows_four DualStackPreferV4 = true
allows_four Ipv6Only = false
allows_four Ipv4Only = true

-- "the by-name modes", and the one of them that asks for HTTPS records
abbrev pub by_name : Mode → Bool
by_name mode.Ip = false
by_name mode.Name = true
by_name mode.NameWithHttpsRr = true

abbrev pub with_https : Mode → Bool
with_https mode.Ip = false
with_https mode.Name = false
with_https mode.NameWithHttpsRr = true

abbrev pub is_named : Host → Bool
is_named host.Named = true
is_named (host.V4 x) = false
is_named (host.V6 h l) = false

-- the host of an alternative service: "the origin's without host"
abbrev pub host_of : Host → AltHost → Host
host_of origin alt.Origin = origin
host_of origin (alt.Own h) = h

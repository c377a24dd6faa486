-- A configuration as a host writes it (rule B.8), in plain values: its bytes, and what is held of it. proofs/GivenBack.antt has the law: what
-- is written is read back.
use Rattle.std.specs.Prelude.{ℕ, ◌%◌, ◌^◌, ◌≤◌, ◌<◌, ◌≡◌, true, List, [], ◌∷◌, ◌++◌, map, nat_le, nat_eq, length}
use Rattle.numbers.specs.Names.{name_ok, longest_name, longest_origin}
use Rattle.numbers.specs.Numbers.{number_bytes}
use Rattle.records.specs.Lists.{padded}
use Rattle.records.specs.Names.{no_name}
use Rattle.records.specs.Rules.{no_alt}
use Rattle.records.specs.declared.names.Name.{Name}
use Rattle.records.specs.declared.rules.Alt.{Alt}
use Rattle.records.specs.declared.rules.AltHost.{AltHost}
use Rattle.records.specs.declared.rules.AltHost.TheVariants as althost
use Rattle.records.specs.declared.rules.Host.{Host}
use Rattle.records.specs.declared.rules.Host.TheVariants as host
use Rattle.records.specs.declared.rules.Rules.{Rules}
use Rattle.records.specs.declared.rules.Timing.{Timing}
use Rattle.parts.specs.Fields.{versions_of, port_of}
use Rattle.parts.specs.Rooms.{name_in}
use Rattle.parts.specs.Written.{word_bytes, six_bytes, named_bytes, row_bytes, All}
use Rattle.configuration.specs.Configuration.{version_of, preference_of, mode_of}
use Rattle.configuration.specs.declared.Configured.{Configured}

pub data GivenHost : Type 0 where
  named : List ℕ → GivenHost
  four : ℕ → GivenHost
  six : ℕ → ℕ → GivenHost
  absent : GivenHost

-- port and version by their numbers in rules B.6 and B.8
pub record GivenAlt : Type 0 where
  pub host : GivenHost
  pub port : ℕ
  pub version : ℕ

pub record Given : Type 0 where
  pub port : ℕ
  pub host : GivenHost
  pub versions : ℕ
  pub preference : ℕ
  pub alts : List GivenAlt
  pub resolution : ℕ
  pub delay : ℕ
  pub multiplier : ℕ
  pub flags : ℕ
  pub mode : ℕ

abbrev pub host_number : GivenHost → ℕ
host_number (named bs) = 0
host_number (four x) = 1
host_number (six h l) = 2
host_number absent = 3

abbrev pub host_rest : GivenHost → List ℕ
host_rest (named bs) = named_bytes bs
host_rest (four x) = word_bytes x
host_rest (six h l) = six_bytes (record { hi = h; lo = l })
host_rest absent = []

unfoldable pub host_bytes : GivenHost → List ℕ
host_bytes g = number_bytes (host_number g) ++ host_rest g

unfoldable pub alt_bytes : GivenAlt → List ℕ
alt_bytes a = host_bytes a.host ++ (number_bytes a.port ++ number_bytes a.version)

unfoldable pub front_bytes : Given → List ℕ
front_bytes c = number_bytes c.port ++ (host_bytes c.host ++ (number_bytes c.versions ++ number_bytes c.preference))

unfoldable pub back_bytes : Given → List ℕ
back_bytes c = number_bytes c.resolution ++ (number_bytes c.delay ++ (number_bytes c.multiplier ++ (number_bytes c.flags ++ number_bytes c.mode)))

unfoldable pub given_bytes : Given → List ℕ
given_bytes c = front_bytes c ++ (row_bytes alt_bytes c.alts ++ back_bytes c)

-- which values a body has room for

abbrev pub FitsHost : (limit : ℕ) → GivenHost → Type 0
FitsHost limit (named bs) = (name_ok bs ≡ true) × (length bs ≤ limit)
FitsHost limit (four x) = x < 2 ^ 32
FitsHost limit (six h l) = (h < 2 ^ 64) × (l < 2 ^ 64)
FitsHost limit absent = Unit {0}

pub record FitsAlt (a : GivenAlt) : Type 0 where
  pub host : FitsHost longest_name a.host
  pub port : a.port ≤ 2 ^ 16
  pub version : a.version ≤ 2

pub record Fits (c : Given) : Type 0 where
  pub port : c.port < 2 ^ 16
  pub host : FitsHost longest_origin c.host
  pub there : host_number c.host ≤ 2
  pub versions : c.versions ≤ 7
  pub preference : c.preference ≤ 3
  pub few : length c.alts ≤ 4
  pub alts : All FitsAlt c.alts
  pub resolution : c.resolution < 2 ^ 64
  pub delay : c.delay < 2 ^ 64
  pub some : 0 < c.multiplier
  pub multiplier : c.multiplier < 2 ^ 32
  pub flags : c.flags ≤ 3
  pub mode : c.mode ≤ 2

-- what is held of it

abbrev pub given_host : GivenHost → Host
given_host (named bs) = host.Named
given_host (four x) = host.V4 x
given_host (six h l) = host.V6 h l
given_host absent = host.Named

abbrev pub given_alt_host : GivenHost → AltHost
given_alt_host (named bs) = althost.Own host.Named
given_alt_host (four x) = althost.Own (host.V4 x)
given_alt_host (six h l) = althost.Own (host.V6 h l)
given_alt_host absent = althost.Origin

abbrev pub given_name : GivenHost → Name
given_name (named bs) = name_in bs
given_name (four x) = no_name
given_name (six h l) = no_name
given_name absent = no_name

abbrev pub given_alt : GivenAlt → Alt
given_alt a = record { host = given_alt_host a.host; port = port_of a.port; version = version_of a.version }

abbrev pub alt_given_name : GivenAlt → Name
alt_given_name a = given_name a.host

unfoldable pub given_rules : Given → Rules
given_rules c = record {
  host = given_host c.host;
  port = c.port;
  versions = versions_of c.versions;
  preference = preference_of c.preference;
  mode = mode_of c.mode;
  ech = nat_eq (c.flags % 2) 1;
}

unfoldable pub given_timing : Given → Timing
given_timing c = record { wait = nat_le 2 c.flags; multiplier = c.multiplier; resolution = c.resolution; delay = c.delay }

unfoldable pub given_configured : Given → Configured
given_configured c = record {
  alts = record { count = length c.alts; list = padded 4 no_alt (map given_alt c.alts) };
  names = record { list = given_name c.host ∷ padded 13 no_name (map alt_given_name c.alts) };
}

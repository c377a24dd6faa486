-- Bodies as a host writes them, rules B.5 to B.7: the bytes of an event in plain values, and what it tells.
-- proofs/ReadBack.antt has the law: what is written is read back.
use Rattle.std.specs.Prelude.{ℕ, ◌+◌, ◌^◌, ◌≤◌, ◌<◌, ◌≡◌, Bool, true, List, ◌++◌, map, length}
use Rattle.std.proofs.Math.Option.{Option, none, some}
use Rattle.numbers.specs.Names.{name_ok, longest_name}
use Rattle.numbers.specs.Numbers.{number_bytes}
use Rattle.records.specs.Lists.{padded}
use Rattle.records.specs.Names.{no_name, no_ech}
use Rattle.records.specs.Numbers.{input_kind}
use Rattle.records.specs.Queries.{no_addr, no_addresses}
use Rattle.records.specs.Services.{no_hint, no_service}
use Rattle.records.specs.declared.names.Ech.{Ech}
use Rattle.records.specs.declared.names.EchPlace.{EchPlace}
use Rattle.records.specs.declared.names.EchPlace.TheVariants as place
use Rattle.records.specs.declared.names.Name.{Name}
use Rattle.records.specs.declared.queries.Addr.{Addr}
use Rattle.records.specs.declared.queries.Addresses.{Addresses}
use Rattle.records.specs.declared.queries.Kind.{Kind}
use Rattle.records.specs.declared.queries.Kind.TheVariants.{Https, Aaaa, A}
use Rattle.records.specs.declared.rules.Port.{Port}
use Rattle.records.specs.declared.rules.Versions.{Versions}
use Rattle.records.specs.declared.services.Hint.{Hint}
use Rattle.records.specs.declared.services.Service.{Service}
use Rattle.input.specs.declared.Input.TheVariants as input
use Rattle.machine.specs.declared.calls.Beside.{Beside}
use Rattle.parts.specs.Rooms.{name_in, ech_in}
use Rattle.parts.specs.Written.{word_bytes, six_bytes, scoped_bytes, row_bytes, bit, versions_number, port_number, named_bytes, All, FitsHint, FitsAddr, four_addr}
use Rattle.offers.specs.Offers.{no_offered}
use Rattle.offers.specs.declared.Offered.{Offered}
use Rattle.bodies.specs.Told as body
use Rattle.bodies.specs.Told.{Told, fed}

-- A service

pub record Entry : Type 0 where
  pub priority : ℕ
  pub name : List ℕ
  pub versions : Versions
  pub port : Port
  pub ech : Option (List ℕ)
  pub fours : List ℕ
  pub sixes : List Hint

abbrev pub ech_bytes : Option (List ℕ) → List ℕ
ech_bytes none = number_bytes 0
ech_bytes (some bs) = number_bytes (length bs + 1) ++ bs

unfoldable pub head_bytes : Entry → List ℕ
head_bytes x = number_bytes x.priority ++ (named_bytes x.name ++ number_bytes (versions_number x.versions))

unfoldable pub way_bytes : Entry → List ℕ
way_bytes x = number_bytes (port_number x.port) ++ ech_bytes x.ech

unfoldable pub hints_bytes : Entry → List ℕ
hints_bytes x = row_bytes word_bytes x.fours ++ row_bytes six_bytes x.sixes

unfoldable pub entry_bytes : Entry → List ℕ
entry_bytes x = head_bytes x ++ (way_bytes x ++ hints_bytes x)

-- Events

pub data Sent : Type 0 where
  call : Sent
  failed : Kind → (id : ℕ) → (stale : Bool) → Sent
  scoped : (id : ℕ) → (stale : Bool) → List Addr → Sent
  fours : (id : ℕ) → (stale : Bool) → List ℕ → Sent
  entries : (id : ℕ) → (stale : Bool) → List Entry → Sent
  success : (id : ℕ) → Sent
  failure : (id : ℕ) → Sent
  retry : (id : ℕ) → List ℕ → Sent

abbrev pub written : Sent → List ℕ
written call = number_bytes 7
written (failed k id stale) = number_bytes (input_kind k) ++ (number_bytes id ++ number_bytes (bit stale + 2))
written (scoped id stale l) = number_bytes 1 ++ (number_bytes id ++ (number_bytes (bit stale) ++ row_bytes scoped_bytes l))
written (fours id stale l) = number_bytes 2 ++ (number_bytes id ++ (number_bytes (bit stale) ++ row_bytes word_bytes l))
written (entries id stale l) = number_bytes 3 ++ (number_bytes id ++ (number_bytes (bit stale) ++ row_bytes entry_bytes l))
written (success id) = number_bytes 4 ++ number_bytes id
written (failure id) = number_bytes 5 ++ number_bytes id
written (retry id bs) = number_bytes 6 ++ (number_bytes id ++ (number_bytes (length bs) ++ bs))

-- Which values a body has room for

abbrev pub FitsEch : Option (List ℕ) → Type 0
FitsEch none = Unit {0}
FitsEch (some bs) = length bs ≤ 512

pub record FitsEntry (x : Entry) : Type 0 where
  pub priority : x.priority < 2 ^ 16
  pub name : name_ok x.name ≡ true
  pub short : length x.name ≤ longest_name
  pub port : port_number x.port ≤ 2 ^ 16
  pub ech : FitsEch x.ech
  pub fours : length x.fours ≤ 4
  pub four : All (λ a. a < 2 ^ 32) x.fours
  pub sixes : length x.sixes ≤ 4
  pub six : All FitsHint x.sixes

abbrev pub Fits : Sent → Type 0
Fits call = Unit {0}
Fits (failed k id stale) = id < 2 ^ 64
Fits (scoped id stale l) = (id < 2 ^ 64) × (length l ≤ 8) × All FitsAddr l
Fits (fours id stale l) = (id < 2 ^ 64) × (length l ≤ 8) × All (λ a. a < 2 ^ 32) l
Fits (entries id stale l) = (id < 2 ^ 64) × (length l ≤ 4) × All FitsEntry l
Fits (success id) = id < 2 ^ 64
Fits (failure id) = id < 2 ^ 64
Fits (retry id bs) = (id < 2 ^ 64) × (length bs ≤ 512)

-- What they tell

abbrev pub place_of : Option (List ℕ) → EchPlace
place_of none = place.Without
place_of (some bs) = place.At 0

abbrev pub ech_of : Option (List ℕ) → Ech
ech_of none = no_ech
ech_of (some bs) = ech_in bs

unfoldable pub service : Entry → Service
service x = record {
  priority = x.priority;
  name = 0;
  ech = place_of x.ech;
  versions = x.versions;
  port = x.port;
  n4 = length x.fours;
  v4 = padded 4 0 x.fours;
  n6 = length x.sixes;
  v6 = padded 4 no_hint x.sixes;
}

abbrev pub name_of : Entry → Name
name_of x = name_in x.name

abbrev pub seal_of : Entry → Ech
seal_of x = ech_of x.ech

unfoldable pub offering : List Entry → Offered
offering l = record {
  services = record { count = length l; list = padded 4 no_service (map service l) };
  names = record { list = padded 4 no_name (map name_of l) };
  echs = record { list = padded 4 no_ech (map seal_of l) };
}

abbrev pub beside : Addresses → Offered → Ech → Beside
beside a o e = record { addresses = a; services = o.services; names = o.names; echs = o.echs; retry = e }

abbrev pub told : Sent → Told
told call = body.call
told (failed k id stale) = fed (input.Fails k id stale) (beside no_addresses no_offered no_ech)
told (scoped id stale l) = fed (input.Holds Aaaa id stale (length l)) (beside (record { list = padded 8 no_addr l }) no_offered no_ech)
told (fours id stale l) = fed (input.Holds A id stale (length l)) (beside (record { list = padded 8 no_addr (map four_addr l) }) no_offered no_ech)
told (entries id stale l) = fed (input.Holds Https id stale 0) (beside no_addresses (offering l) no_ech)
told (success id) = fed (input.Success id) (beside no_addresses no_offered no_ech)
told (failure id) = fed (input.Failure id) (beside no_addresses no_offered no_ech)
told (retry id bs) = fed (input.EchRetry id) (beside no_addresses no_offered (ech_in bs))

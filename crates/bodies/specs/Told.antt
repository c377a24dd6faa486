-- What a body tells, in plain values: a call, or an input with what comes beside it (rules B.5 and B.7).
use Rattle.std.specs.Prelude.{ℕ, List}
use Rattle.records.specs.Names.{no_ech}
use Rattle.records.specs.Queries.{no_addresses}
use Rattle.records.specs.declared.names.Ech.{Ech}
use Rattle.records.specs.declared.queries.Addresses.{Addresses}
use Rattle.records.specs.declared.queries.Kind.{Kind}
use Rattle.records.specs.declared.queries.Kind.TheVariants.{Https, Aaaa, A}
use Rattle.input.specs.declared.Input.{Input}
use Rattle.input.specs.declared.Input.TheVariants as input
use Rattle.machine.specs.declared.calls.Beside.{Beside}
use Rattle.parts.specs.Reading.{Reading, read, next}
use Rattle.parts.specs.Addresses.{addresses_in}
use Rattle.parts.specs.Rooms.{kept, ech_in}
use Rattle.parts.specs.declared.address.Form.TheVariants.{Four, Scoped}
use Rattle.parts.specs.declared.address.Items.{Items}
use Rattle.offers.specs.Offers.{no_offered, offered_in, no_located, located_in}
use Rattle.bodies.specs.Events.{event_at}
use Rattle.offers.specs.declared.Located.{Located}
use Rattle.offers.specs.declared.Offered.{Offered}
use Rattle.bodies.specs.declared.Event.{Event}
use Rattle.bodies.specs.declared.Event.TheVariants as event

-- an HTTPS answer has no addresses: its services are counted where they lie
abbrev pub address_count : Kind → Items → ℕ
address_count Https l = 0
address_count Aaaa l = l.count
address_count A l = l.count

-- the input of an event; a call is none, and reads as Success 0
abbrev pub input_of : Event → Input
input_of event.Call = input.Success 0
input_of (event.Fails k id stale) = input.Fails k id stale
input_of (event.Holds k id stale l) = input.Holds k id stale (address_count k l)
input_of (event.Success id) = input.Success id
input_of (event.Failure id) = input.Failure id
input_of (event.EchRetry id b) = input.EchRetry id

-- its addresses, its services and its retry; zero where it has none
abbrev pub addresses_for : List ℕ → Kind → Items → Addresses
addresses_for s Https l = no_addresses
addresses_for s Aaaa l = addresses_in Scoped s l
addresses_for s A l = addresses_in Four s l

abbrev pub addresses_of : List ℕ → Event → Addresses
addresses_of s event.Call = no_addresses
addresses_of s (event.Fails k id stale) = no_addresses
addresses_of s (event.Holds k id stale l) = addresses_for s k l
addresses_of s (event.Success id) = no_addresses
addresses_of s (event.Failure id) = no_addresses
addresses_of s (event.EchRetry id b) = no_addresses

abbrev pub offered_for : List ℕ → Kind → Items → Offered
offered_for s Https l = offered_in s l
offered_for s Aaaa l = no_offered
offered_for s A l = no_offered

abbrev pub offered_of : List ℕ → Event → Offered
offered_of s event.Call = no_offered
offered_of s (event.Fails k id stale) = no_offered
offered_of s (event.Holds k id stale l) = offered_for s k l
offered_of s (event.Success id) = no_offered
offered_of s (event.Failure id) = no_offered
offered_of s (event.EchRetry id b) = no_offered

-- the same services, with where their names and ECH bytes stand
abbrev pub located_for : List ℕ → Kind → Items → Located
located_for s Https l = located_in s l
located_for s Aaaa l = no_located
located_for s A l = no_located

abbrev pub located_of : List ℕ → Event → Located
located_of s event.Call = no_located
located_of s (event.Fails k id stale) = no_located
located_of s (event.Holds k id stale l) = located_for s k l
located_of s (event.Success id) = no_located
located_of s (event.Failure id) = no_located
located_of s (event.EchRetry id b) = no_located

abbrev pub retry_of : List ℕ → Event → Ech
retry_of s event.Call = no_ech
retry_of s (event.Fails k id stale) = no_ech
retry_of s (event.Holds k id stale l) = no_ech
retry_of s (event.Success id) = no_ech
retry_of s (event.Failure id) = no_ech
retry_of s (event.EchRetry id b) = ech_in (kept 512 s b)

unfoldable pub beside_of : List ℕ → Event → Beside
beside_of s e = record {
  addresses = addresses_of s e;
  services = (offered_of s e).services;
  names = (offered_of s e).names;
  echs = (offered_of s e).echs;
  retry = retry_of s e;
}

pub data Told : Type 0 where
  call : Told
  fed : Input → Beside → Told

abbrev pub told_by : List ℕ → Event → Told
told_by s event.Call = call
told_by s (event.Fails k id stale) = fed (input_of (event.Fails k id stale)) (beside_of s (event.Fails k id stale))
told_by s (event.Holds k id stale l) = fed (input_of (event.Holds k id stale l)) (beside_of s (event.Holds k id stale l))
told_by s (event.Success id) = fed (input_of (event.Success id)) (beside_of s (event.Success id))
told_by s (event.Failure id) = fed (input_of (event.Failure id)) (beside_of s (event.Failure id))
told_by s (event.EchRetry id b) = fed (input_of (event.EchRetry id b)) (beside_of s (event.EchRetry id b))

-- a body read: what it tells, or its first fault
unfoldable pub read_body : List ℕ → Reading Told
read_body s = next (event_at s) (λ e end. read (told_by s e) end)

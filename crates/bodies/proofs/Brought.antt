-- Services that an event brings, where they stand.
--     offered-rooms             in their rooms they are those that it offers
--     four-names, four-echs     there is a place for each of four
--     none-located              where no service is counted, no place is told
use mathlib.Core.Path.{◌≡◌, refl, sym}
use mathlib.Core.List.{List}
use Prim.Native.Nat.{ℕ}
use lib.ListN.{length}
use Rattle.records.specs.declared.queries.Kind.TheVariants.{Https, Aaaa, A}
use Rattle.parts.specs.declared.address.Items.{Items}
use Rattle.offers.specs.Offers.{no_located, located_in, in_rooms}
use Rattle.offers.specs.declared.Located.{Located}
use Rattle.offers.proofs.Places as places
use Rattle.offers.proofs.Places.{rooms-none, offered-located}
use Rattle.bodies.specs.Told.{offered_of, located_of}
use Rattle.bodies.specs.declared.Event.{Event}
use Rattle.bodies.specs.declared.Event.TheVariants as event

module _ (s : List ℕ) where
  pub offered-rooms : (e : Event) → offered_of s e ≡ in_rooms s (located_of s e)
  offered-rooms event.Call = sym (rooms-none s)
  offered-rooms (event.Fails k id stale) = sym (rooms-none s)
  offered-rooms (event.Holds Https id stale l) = offered-located s l
  offered-rooms (event.Holds Aaaa id stale l) = sym (rooms-none s)
  offered-rooms (event.Holds A id stale l) = sym (rooms-none s)
  offered-rooms (event.Success id) = sym (rooms-none s)
  offered-rooms (event.Failure id) = sym (rooms-none s)
  offered-rooms (event.EchRetry id b) = sym (rooms-none s)

  -- an event brings none, or those of an HTTPS answer
  of-each : (P : Located → Type 0) → P no_located → ((l : Items) → P (located_in s l)) → (e : Event) → P (located_of s e)
  of-each P none some event.Call = none
  of-each P none some (event.Fails k id stale) = none
  of-each P none some (event.Holds Https id stale l) = some l
  of-each P none some (event.Holds Aaaa id stale l) = none
  of-each P none some (event.Holds A id stale l) = none
  of-each P none some (event.Success id) = none
  of-each P none some (event.Failure id) = none
  of-each P none some (event.EchRetry id b) = none

  pub four-names : (e : Event) → length (located_of s e).names ≡ 4
  unfolding no_located
  four-names = of-each (λ o. length o.names ≡ 4) refl (places.four-names s)

  pub four-echs : (e : Event) → length (located_of s e).echs ≡ 4
  unfolding no_located
  four-echs = of-each (λ o. length o.echs ≡ 4) refl (places.four-echs s)

  pub none-located : (e : Event) → (located_of s e).services.count ≡ 0 → located_of s e ≡ no_located
  none-located = of-each (λ o. o.services.count ≡ 0 → o ≡ no_located) (λ h. refl) (places.none-located s)

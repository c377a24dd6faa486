-- Services of an HTTPS answer where they stand, and the same in their rooms.
--     located-none, located-all         of services that can't be read, and of those that are found
--     each-of-four                      what is made of each of four, one after the other
--     no_name_lem, no-ech                   the empty span in its room
--     rooms-brought, rooms-none         in their rooms they are the services that an answer brings, and none are none
--     offered-located                   the same of the services at a place
--     four-names, four-echs             there is a place for each of four
--     none-located                      where no service is counted, no place is told
use mathlib.Core.Path.{◌≡◌, refl, sym, ap, ◌∙◌}
use mathlib.Core.List.{List, [], ◌∷◌, ◌++◌, map, map-append}
use Prim.Native.Nat.{ℕ, zero, suc, ◌-◌, ◌≤◌}
use native.Mathlib.Omega.{arith}
use lib.ListN.{length, get_or, replicate, length-append, length-replicate, length-map}
use borrow.Author.Tests.{le-leb}
use Rattle.std.specs.Prelude.{Option, None, Some}
use Rattle.numbers.specs.Names.{longest_name}
use Rattle.numbers.specs.declared.field.Span.{Span}
use Rattle.records.specs.Lists.{padded}
use Rattle.records.specs.Names.{no_name, no_ech}
use Rattle.records.specs.Services.{no_service, no_services}
use Rattle.records.specs.declared.services.Service.{Service}
use Rattle.parts.specs.Items.{listed}
use Rattle.parts.specs.Rooms.{fits, kept, name_in, ech_in}
use Rattle.parts.specs.declared.address.Items.{Items}
use Rattle.parts.proofs.Items.{listed-few}
use Rattle.offers.specs.Offers.{offer, service_of, target_name, ech_from, target_ech, brought, no_offered, offered_in}
use Rattle.offers.specs.Offers.{no_span, span_of, located, no_located, located_in, names_in, echs_in, in_rooms}
use Rattle.offers.specs.declared.Offer.{Offer}

module _ (s : List ℕ) (l : Items) where
  pub located-none : listed 4 (offer s) l ≡ [] → no_located ≡ located_in s l
  unfolding no_located located_in located no_services padded
  located-none e = rw e

  pub located-all : {n : ℕ} {services : List Service} {names echs : List Span}
      → (n ≡ length (listed 4 (offer s) l)) × (services ≡ padded 4 no_service (map (service_of s) (listed 4 (offer s) l)))
      → names ≡ padded 4 no_span (map (λ o. o.head.name) (listed 4 (offer s) l))
      → echs ≡ padded 4 no_span (map (λ o. span_of o.way.ech) (listed 4 (offer s) l))
      → record { services = record { count = n; list = services }; names = names; echs = echs } ≡ located_in s l
  unfolding located_in located
  located-all a b c = λ j. record { services = record { count = a.0 j; list = a.1 j }; names = b j; echs = c j }

module _ {A B : Type 0} (f : A → B) (z : A) where
  pub each-of-four : (l : List A) → length l ≡ 4 → f (get_or l 0 z) ∷ f (get_or l 1 z) ∷ f (get_or l 2 z) ∷ f (get_or l 3 z) ∷ [] ≡ map f l
  each-of-four (a ∷ b ∷ c ∷ d ∷ []) e = refl
  each-of-four [] e = absurd (omega arith)
  each-of-four (a ∷ []) e = absurd (omega arith)
  each-of-four (a ∷ b ∷ []) e = absurd (omega arith)
  each-of-four (a ∷ b ∷ c ∷ []) e = absurd (omega arith)
  each-of-four (a ∷ b ∷ c ∷ d ∷ x ∷ l) e = absurd (omega arith)

  map-replicate : (n : ℕ) → map f (replicate n z) ≡ replicate n (f z)
  map-replicate zero = refl
  map-replicate (suc n) = ap (λ l. f z ∷ l) (map-replicate n)

  map-padded : (n : ℕ) (l : List A) → map f (padded n z l) ≡ padded n (f z) (map f l)
  unfolding padded
  map-padded n l = rw (length-map l f) (map-append f l (replicate (n - length l) z) ∙ ap (λ r. map f l ++ r) (map-replicate (n - length l)))

padded-length : {A : Type 0} (n : ℕ) (z : A) (l : List A) → length l ≤ n → length (padded n z l) ≡ n
unfolding padded
padded-length n z l h = rw (length-append, length-replicate) (omega (arith, h))

module _ (s : List ℕ) where
  none_kept : (room : ℕ) → kept room s no_span ≡ []
  unfolding kept fits
  none_kept room = rw (le-leb 0 room (omega arith), le-leb 0 (length s) (omega arith))

  pub no_name_lem : name_in (kept longest_name s no_span) ≡ no_name
  unfolding name_in no_name padded
  no_name_lem = rw (none_kept longest_name)

  pub no-ech : ech_in (kept 512 s no_span) ≡ no_ech
  unfolding ech_in no_ech padded
  no-ech = rw (none_kept 512)

  ech-at : (e : Option Span) → ech_in (kept 512 s (span_of e)) ≡ ech_from s e
  ech-at None = no-ech
  ech-at (Some b) = refl

  map-names : (l : List Offer) → map (λ b. name_in (kept longest_name s b)) (map (λ o. o.head.name) l) ≡ map (target_name s) l
  unfolding target_name
  map-names [] = refl
  map-names (o ∷ l) = ap (λ t. name_in (kept longest_name s o.head.name) ∷ t) (map-names l)

  map-echs : (l : List Offer) → map (λ b. ech_in (kept 512 s b)) (map (λ o. span_of o.way.ech) l) ≡ map (target_ech s) l
  unfolding target_ech
  map-echs [] = refl
  map-echs (o ∷ l) = λ j. ech-at o.way.ech j ∷ map-echs l j

  pub rooms-brought : (l : List Offer) → in_rooms s (located s l) ≡ brought s l
  unfolding in_rooms names_in echs_in located brought
  rooms-brought l =
      let names = map-padded (λ b. name_in (kept longest_name s b)) no_span 4 (map (λ o. o.head.name) l) in
      let echs = map-padded (λ b. ech_in (kept 512 s b)) no_span 4 (map (λ o. span_of o.way.ech) l) in
      λ j. record {
        services = record { count = length l; list = padded 4 no_service (map (service_of s) l) };
        names = record { list = (names ∙ (λ i. padded 4 (no_name_lem i) (map-names l i))) j };
        echs = record { list = (echs ∙ (λ i. padded 4 (no-ech i) (map-echs l i))) j };
      }

  pub rooms-none : in_rooms s no_located ≡ no_offered
  unfolding in_rooms names_in echs_in no_located no_offered
  rooms-none = rw (no_name_lem, no-ech)

  pub offered-located : (l : Items) → offered_in s l ≡ in_rooms s (located_in s l)
  unfolding offered_in located_in
  offered-located l = sym (rooms-brought (listed 4 (offer s) l))

  pub four-names : (l : Items) → length (located_in s l).names ≡ 4
  unfolding located_in located
  four-names l = padded-length 4 no_span _ (rw length-map (listed-few _ _ l))

  pub four-echs : (l : Items) → length (located_in s l).echs ≡ 4
  unfolding located_in located
  four-echs l = padded-length 4 no_span _ (rw length-map (listed-few _ _ l))

  nothing : (l : List Offer) → length l ≡ 0 → l ≡ []
  nothing [] e = refl
  nothing (o ∷ l) e = absurd (omega arith)

  pub none-located : (l : Items) → (located_in s l).services.count ≡ 0 → located_in s l ≡ no_located
  unfolding located_in located
  none-located l e = sym (located-none s l (nothing (listed 4 (offer s) l) e))

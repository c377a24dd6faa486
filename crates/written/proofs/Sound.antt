-- Every value that is read is in form (`sound`): counts fit, names are names, and all that is unused is zero.
--     addresses-sound, services-sound   what comes beside an input
--     event-sound, body-sound           an event, and a body
use mathlib.Core.Path.{◌≡◌, refl, sym, ap, subst, ◌∙◌}
use mathlib.Core.Bool.{Bool, true, false, not}
use mathlib.Core.List.{List, [], ◌++◌, map}
use Prim.Native.Nat.{ℕ, ◌-◌, ◌≤◌, ◌<◌}
use native.Mathlib.Omega.{arith}
use lib.Dec.{leb as nat_le}
use lib.ListN.{length, get_or, take, replicate, length-map}
use borrow.Author.Tests.{le-leb, lt-leb, eq-eqb}
use Rattle.std.specs.Prelude.{Option, None, Some}
use Rattle.numbers.specs.Names.{name_ok, longest_name}
use Rattle.numbers.specs.declared.field.Span.{Span}
use Rattle.records.specs.Lists.{padded}
use Rattle.records.specs.Names.{no_name, no_ech, name_bytes}
use Rattle.records.specs.Queries.{no_addr, no_addresses}
use Rattle.records.specs.Services.{no_hint, no_service, no_services, has_ech}
use Rattle.records.specs.declared.queries.Addr.{Addr}
use Rattle.records.specs.declared.queries.Kind.{Kind}
use Rattle.records.specs.declared.queries.Kind.TheVariants.{Https, Aaaa, A}
use Rattle.records.proofs.Rooms.{padded-take}
use Rattle.input.specs.declared.Input.{Input}
use Rattle.machine.specs.declared.calls.Beside.{Beside}
use Rattle.standing.specs.Lists.{◌and◌, ◌or◌, all, every, every_at}
use Rattle.standing.specs.Standing.{zero?, empty_addr, empty_hint, formed, addresses_stand}
use Rattle.standing.specs.Sound.{hints_sound, name_sound, ech_sound, sealed, services_sound, sound}
use Rattle.parts.specs.Reading.{read}
use Rattle.parts.specs.Items.{listed}
use Rattle.parts.specs.Addresses.{address, addresses_in, low, halves, fours_in, sixes_in}
use Rattle.parts.specs.Rooms.{kept, name_in, ech_in}
use Rattle.parts.specs.declared.address.Form.TheVariants.{Four, Six, Scoped}
use Rattle.parts.specs.declared.address.Items.{Items}
use Rattle.parts.proofs.Steps.{then-read}
use Rattle.parts.proofs.Items.{items-length, items-all, listed-few}
use Rattle.parts.proofs.Copying.{kept-few, name_back}
use Rattle.offers.specs.Offers.{offer, sealed_at, service_of, target_name, ech_from, target_ech, brought, no_offered, offered_in}
use Rattle.offers.specs.declared.Offer.{Offer}
use Rattle.bodies.specs.Events.{event_at}
use Rattle.bodies.specs.Told.{Told, call, fed, input_of, beside_of, told_by, read_body}
use Rattle.bodies.specs.declared.Event.{Event}
use Rattle.bodies.specs.declared.Event.TheVariants as event
use Rattle.parts.specs.Written.{All}
use Rattle.written.proofs.Tests.{both_hold, or_left, or_right, all_none, all_more, every_map, all_any, map-twice, padded-length, padded-every, padded-fits, at-zeros, at_map, at-pairs}
use Rattle.written.proofs.Heard.{Heard, event-heard, four-formed, NameHeard, offer-heard}

fed-sound : (i : Input) (b : Beside) → sound i b ≡ true → (j : Input) (c : Beside) → fed i b ≡ fed j c → sound j c ≡ true
fed-sound i b h j c e =
    let x : i ≡ j = cc in
    let y : b ≡ c = cc in
    subst (λ j. sound j c ≡ true) x (subst (λ c. sound i c ≡ true) y h)

no-addr-empty : empty_addr no_addr ≡ true
unfolding all ◌and◌
no-addr-empty = refl

no-hint-empty : empty_hint no_hint ≡ true
unfolding ◌and◌
no-hint-empty = refl

no-addr-formed : (k : Kind) → formed k no_addr ≡ true
unfolding all ◌and◌
no-addr-formed Https = refl
no-addr-formed Aaaa = refl
no-addr-formed A = refl

-- addresses in their room
pub addresses-sound : (k : Kind) (l : List Addr) (n : ℕ) → length l ≡ n → n ≤ 8 → All (λ a. formed k a ≡ true) l → addresses_stand n k (record { list = padded 8 no_addr l }) ≡ true
unfolding addresses_stand
addresses-sound k l n e h ok =
    both_hold _ _ (padded-fits 8 no_addr empty_addr l n e h no-addr-empty) (padded-every 8 no_addr (formed k) l ok (no-addr-formed k))

no-addresses-sound : (k : Kind) → addresses_stand 0 k no_addresses ≡ true
unfolding no_addresses padded All
no-addresses-sound k = addresses-sound k [] 0 refl (omega arith) tt

-- a name, and ECH bytes, in their rooms
name-sound : (n i : ℕ) (bs : List ℕ) → length bs ≤ longest_name → name_ok bs ≡ true → i < n → name_sound n i (name_in bs) ≡ true
unfolding name_sound name_in
name-sound n i bs h ok l =
    all_more _ _ (padded-fits 253 0 zero? bs (length bs) refl h refl)
    (all_more _ _ (or_right (nat_le n i) _ (ap name_ok (name_back bs) ∙ ok))
    (all_more _ _ (or_left (not (nat_le n i)) (zero? (length bs)) (ap not (lt-leb n i l))) all_none))

no-name-sound : (n i : ℕ) → n ≤ i → name_sound n i no_name ≡ true
unfolding name_sound no_name padded
no-name-sound n i l =
    all_more _ _ (padded-fits 253 0 zero? [] 0 refl (omega arith) refl)
    (all_more _ _ (or_left (nat_le n i) (name_ok (name_bytes no_name)) (le-leb n i l)) (all_more _ _ (or_right (not (nat_le n i)) true refl) all_none))

ech-sound : (there : Bool) (bs : List ℕ) → length bs ≤ 512 → (there or zero? (length bs)) ≡ true → ech_sound there (ech_in bs) ≡ true
unfolding ech_sound ech_in
ech-sound there bs h k = both_hold _ _ (padded-fits 512 0 zero? bs (length bs) refl h refl) k

no-ech-in : ech_in [] ≡ no_ech
unfolding ech_in no_ech padded
no-ech-in = refl

no-ech-sound : (there : Bool) → ech_sound there no_ech ≡ true
no-ech-sound there = subst (λ e. ech_sound there e ≡ true) no-ech-in (ech-sound there [] (omega arith) (or_right there true refl))

module _ (s : List ℕ) where
  sealed-sound : (e : Option Span) → ech_sound (has_ech (sealed_at e)) (ech_from s e) ≡ true
  sealed-sound None = no-ech-sound false
  sealed-sound (Some b) = ech-sound true (kept 512 s b) (kept-few s 512 b) (or_left true (zero? (length (kept 512 s b))) refl)

  hints-sound : (o : Offer) → hints_sound (service_of s o) ≡ true
  unfolding hints_sound service_of fours_in sixes_in
  hints-sound o =
      let f = listed 4 (address Four s) o.hints.four in
      let x = listed 4 (address Six s) o.hints.six in
      both_hold _ _ (padded-fits 4 0 zero? (map low f) (length f) (length-map f low) (listed-few 4 (address Four s) o.hints.four) refl)
      (padded-fits 4 no_hint empty_hint (map halves x) (length x) (length-map x halves) (listed-few 4 (address Six s) o.hints.six) no-hint-empty)

  seal-sound : (o : Offer) → ech_sound (sealed (service_of s o)) (target_ech s o) ≡ true
  unfolding service_of target_ech
  seal-sound o = sealed-sound o.way.ech

  target_sound : (n i : ℕ) (o : Offer) → NameHeard s o.head.name → i < n → name_sound n i (target_name s o) ≡ true
  unfolding target_name
  target_sound n i o h l = name-sound n i (kept longest_name s o.head.name) (kept-few s longest_name o.head.name) h l

  -- services with their names and ECH bytes
  module _ (os : List Offer) (few : length os ≤ 4) (ok : All (λ o. NameHeard s o.head.name) os) where
    shown : take (length os) (padded 4 no_service (map (service_of s) os)) ≡ map (service_of s) os
    shown = ap (λ k. take k (padded 4 no_service (map (service_of s) os))) (sym (length-map os (service_of s))) ∙ padded-take no_service 4 (map (service_of s) os)

    names-sound : every_at (name_sound (length os)) 0 (padded 4 no_name (map (target_name s) os)) ≡ true
    unfolding padded
    names-sound =
        let k = 4 - length (map (target_name s) os) in
        at_map (target_name s) (λ o. NameHeard s o.head.name) (name_sound (length os)) (length os) (replicate k no_name)
        (λ j o l h. target_sound (length os) j o h l)
        (at-zeros (name_sound (length os)) no_name (length os) (λ j l. no-name-sound (length os) j l) k (length os) (omega arith))
        os 0 ok (omega arith)

    seals-sound : every_at (λ i x. ech_sound (get_or (map sealed (take (length os) (padded 4 no_service (map (service_of s) os)))) i false) x) 0 (padded 4 no_ech (map (target_ech s) os)) ≡ true
    unfolding padded
    seals-sound =
        let k = 4 - length (map (target_ech s) os) in
        ap (λ ts. every_at (λ i x. ech_sound (get_or ts i false) x) 0 (map (target_ech s) os ++ replicate k no_ech)) (ap (map sealed) shown ∙ map-twice sealed (service_of s) os)
        ∙ at-pairs (target_ech s) (λ o. NameHeard s o.head.name) ech_sound (λ o. sealed (service_of s o)) (λ o h. seal-sound o) no_ech (no-ech-sound false) k os ok

    pub services-sound : services_sound (brought s os).services (brought s os).names (brought s os).echs ≡ true
    unfolding services_sound brought
    services-sound =
        all_more _ _ (le-leb (length os) 4 few)
        (all_more _ _ (eq-eqb _ 4 (padded-length 4 no_service (map (service_of s) os) (omega (arith, few, length-map os (service_of s)))))
        (all_more _ _ (ap (every hints_sound) shown ∙ every_map hints_sound (service_of s) hints-sound os)
        (all_more _ _ (eq-eqb _ 4 (padded-length 4 no_name (map (target_name s) os) (omega (arith, few, length-map os (target_name s)))))
        (all_more _ _ names-sound
        (all_more _ _ (eq-eqb _ 4 (padded-length 4 no_ech (map (target_ech s) os) (omega (arith, few, length-map os (target_ech s)))))
        (all_more _ _ seals-sound all_none))))))

  none-brought : brought s [] ≡ no_offered
  unfolding brought no_offered no_services padded
  none-brought = refl

  none-sound : services_sound no_offered.services no_offered.names no_offered.echs ≡ true
  unfolding All
  none-sound = subst (λ o. services_sound o.services o.names o.echs ≡ true) none-brought (services-sound [] (omega arith) tt)

  fails-sound : (k : Kind) (id : ℕ) (stale : Bool) → sound (input_of (event.Fails k id stale)) (beside_of s (event.Fails k id stale)) ≡ true
  unfolding beside_of
  fails-sound Https id stale = both_hold true _ refl none-sound
  fails-sound Aaaa id stale = no-addresses-sound Aaaa
  fails-sound A id stale = no-addresses-sound A

  module _ (bytes : (i : ℕ) → get_or s i 0 < 256) where
    holds-sound : (k : Kind) (id : ℕ) (stale : Bool) (l : Items) → Heard s (event.Holds k id stale l) → sound (input_of (event.Holds k id stale l)) (beside_of s (event.Holds k id stale l)) ≡ true
    unfolding beside_of offered_in addresses_in
    holds-sound Https id stale l h =
        let os = listed 4 (offer s) l in
        both_hold true _ refl (services-sound os (listed-few 4 (offer s) l) (items-all (offer s) (λ o. NameHeard s o.head.name) (offer-heard s) l.count l.first os h.end h.row.all))
    holds-sound Aaaa id stale l h =
        let l8 = listed 8 (address Scoped s) l in
        addresses-sound Aaaa l8 l.count (items-length (address Scoped s) l.count l.first l8 h.end h.row.all) h.row.few (all_any (λ a. formed Aaaa a ≡ true) (λ a. refl) l8)
    holds-sound A id stale l h =
        let l8 = listed 8 (address Four s) l in
        addresses-sound A l8 l.count (items-length (address Four s) l.count l.first l8 h.end h.row.all) h.row.few
        (items-all (address Four s) (λ a. formed A a ≡ true) (four-formed s bytes) l.count l.first l8 h.end h.row.all)

    heard-sound : (e : Event) → Heard s e → sound (input_of e) (beside_of s e) ≡ true
    unfolding beside_of
    heard-sound event.Call h = refl
    heard-sound (event.Fails k id stale) h = fails-sound k id stale
    heard-sound (event.Holds k id stale l) h = holds-sound k id stale l h
    heard-sound (event.Success id) h = refl
    heard-sound (event.Failure id) h = refl
    heard-sound (event.EchRetry id b) h = ech-sound true (kept 512 s b) (kept-few s 512 b) (or_left true (zero? (length (kept 512 s b))) refl)

    pub event-sound : (e : Event) (end : ℕ) → read e end ≡ event_at s → sound (input_of e) (beside_of s e) ≡ true
    event-sound e end r = heard-sound e (event-heard s e end r)

    -- what a body tells is in form
    told-sound : (e : Event) → sound (input_of e) (beside_of s e) ≡ true → (i : Input) (b : Beside) → told_by s e ≡ fed i b → sound i b ≡ true
    told-sound event.Call h i b t = absurd (let z : ◌≡◌ {A = ℕ} 0 1 = ap number t in omega arith)
      where
        number : Told → ℕ
        number call = 0
        number (fed i b) = 1
    told-sound (event.Fails k id stale) h i b t = fed-sound (input_of (event.Fails k id stale)) (beside_of s (event.Fails k id stale)) h i b t
    told-sound (event.Holds k id stale l) h i b t = fed-sound (input_of (event.Holds k id stale l)) (beside_of s (event.Holds k id stale l)) h i b t
    told-sound (event.Success id) h i b t = fed-sound (input_of (event.Success id)) (beside_of s (event.Success id)) h i b t
    told-sound (event.Failure id) h i b t = fed-sound (input_of (event.Failure id)) (beside_of s (event.Failure id)) h i b t
    told-sound (event.EchRetry id x) h i b t = fed-sound (input_of (event.EchRetry id x)) (beside_of s (event.EchRetry id x)) h i b t

    pub body-sound : (i : Input) (b : Beside) (end : ℕ) → read (fed i b) end ≡ read_body s → sound i b ≡ true
    unfolding read_body
    body-sound i b end r =
        let t = then-read (event_at s) (λ e end. read (told_by s e) end) r in
        let x : told_by s t.value ≡ fed i b = let q = t.rest in cc in
        told-sound t.value (event-sound t.value t.place t.first) i b x

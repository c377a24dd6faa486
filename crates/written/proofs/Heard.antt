-- What an event that was read is known by: its items can be read again, its names are names, its IPv4 addresses have 32 bits.
--     Held, Heard, event-heard  the items of an event
--     four-formed               an IPv4 address
--     NameHeard, name-heard     a name, as it is kept; offer-heard, that of a service
use mathlib.Core.Path.{◌≡◌, refl, sym, ap, subst, ◌∙◌}
use mathlib.Core.Bool.{true, cond}
use mathlib.Core.List.{List}
use Prim.Native.Nat.{ℕ, ◌+◌, ◌%◌, ◌^◌, ◌≤◌, ◌<◌}
use native.Mathlib.Omega.{arith}
use lib.Dec.{ltb as nat_lt, leb as nat_le, eqb as nat_eq}
use lib.ListN.{length, get_or}
use borrow.Author.Tests.{lt-ltb, le-leb}
use Rattle.numbers.specs.Got.{got, refused}
use Rattle.numbers.specs.Fields.{at_most, bytes_at, span_bytes, name_length, named, name_at}
use Rattle.numbers.specs.Names.{name_ok, longest_name}
use Rattle.numbers.specs.Numbers.{read_number}
use Rattle.numbers.specs.Refusals.{out_of_range, too_many, trailing, bad_name}
use Rattle.numbers.specs.declared.field.Span.{Span}
use Rattle.numbers.proofs.Steps.{there}
use Rattle.records.specs.declared.queries.Addr.{Addr}
use Rattle.records.specs.declared.queries.Kind.{Kind}
use Rattle.records.specs.declared.queries.Kind.TheVariants.{Https, Aaaa, A}
use Rattle.standing.specs.Standing.{formed}
use Rattle.parts.specs.Reading.{Reading, read, fault, next, field}
use Rattle.parts.specs.Addresses.{word, four, address}
use Rattle.parts.specs.Fields.{versions_at}
use Rattle.parts.specs.Rooms.{fits, kept}
use Rattle.parts.specs.declared.address.Form.TheVariants.{Four, Scoped}
use Rattle.parts.specs.declared.address.Items.{Items}
use Rattle.parts.proofs.Steps.{then-read, field-read, got-then, not-refused, only-got, within}
use Rattle.parts.proofs.Items.{Row, counted-row}
use Rattle.parts.proofs.Addresses.{word_small}
use Rattle.parts.proofs.Copying.{kept_there, span-length}
use Rattle.offers.specs.Offers.{head, way, hints, offer}
use Rattle.offers.specs.declared.Head.{Head}
use Rattle.offers.specs.declared.Offer.{Offer}
use Rattle.bodies.specs.Events.{items_at, answer_at, retry_at, rest_at, input_at, kind_at, body_at, event_at}
use Rattle.bodies.specs.declared.Event.{Event}
use Rattle.bodies.specs.declared.Event.TheVariants as event
use Rattle.written.proofs.Good.{Good, good-read, good-fault, good-cond, good_next}
use Rattle.written.proofs.Tests.{all_none, all_more}

pub record Held {A : Type 0} (most : ℕ) (f : ℕ → Reading A) (l : Items) : Type 0 where
  pub end : ℕ
  pub row : Row most f l end

abbrev pub HeldItems : Kind → List ℕ → Items → Type 0
HeldItems Https s l = Held 4 (offer s) l
HeldItems Aaaa s l = Held 8 (address Scoped s) l
HeldItems A s l = Held 8 (address Four s) l

abbrev pub Heard : List ℕ → Event → Type 0
Heard s event.Call = Unit {0}
Heard s (event.Fails k id stale) = Unit {0}
Heard s (event.Holds k id stale l) = HeldItems k s l
Heard s (event.Success id) = Unit {0}
Heard s (event.Failure id) = Unit {0}
Heard s (event.EchRetry id b) = Unit {0}

items-held : (k : Kind) (s : List ℕ) (p : ℕ) (l : Items) (end : ℕ) → read l end ≡ items_at k s p → HeldItems k s l
items-held Https s p l end e = record { end = end; row = counted-row 4 (offer s) s p e }
items-held Aaaa s p l end e = record { end = end; row = counted-row 8 (address Scoped s) s p e }
items-held A s p l end e = record { end = end; row = counted-row 8 (address Four s) s p e }

module _ (s : List ℕ) where
  answer-good : (k : Kind) (id p : ℕ) → Good (Heard s) (answer_at k s id p)
  unfolding answer_at
  answer-good k id p =
      good_next (field p (at_most 3 out_of_range (read_number s p))) _ (λ flags q a.
      good-cond (nat_le 2 flags) (read (event.Fails k id (nat_eq (flags % 2) 1)) q) (next (items_at k s q) (λ l end. read (event.Holds k id (nat_eq (flags % 2) 1) l) end))
      (good-read (event.Fails k id (nat_eq (flags % 2) 1)) q tt)
      (good_next (items_at k s q) (λ l end. read (event.Holds k id (nat_eq (flags % 2) 1) l) end) (λ l end b. good-read (event.Holds k id (nat_eq (flags % 2) 1) l) end (items-held k s q l end b))))

  retry-good : (id p : ℕ) → Good (Heard s) (retry_at s id p)
  unfolding retry_at
  retry-good id p =
      good_next (field p (at_most 512 too_many (read_number s p))) _ (λ n q a.
      good_next (field q (bytes_at s n q)) (λ b end. read (event.EchRetry id b) end) (λ b end c. good-read (event.EchRetry id b) end tt))

  rest-good : (k id p : ℕ) → Good (Heard s) (rest_at s k id p)
  unfolding rest_at
  rest-good k id p =
      good-cond (nat_eq k 1) _ _ (answer-good Aaaa id p)
      (good-cond (nat_eq k 2) _ _ (answer-good A id p)
      (good-cond (nat_eq k 3) _ _ (answer-good Https id p)
      (good-cond (nat_eq k 4) _ _ (good-read (event.Success id) p tt)
      (good-cond (nat_eq k 5) _ _ (good-read (event.Failure id) p tt) (retry-good id p)))))

  input-good : (k p : ℕ) → Good (Heard s) (input_at s k p)
  unfolding input_at
  input-good k p = good_next (field p (read_number s p)) (λ id q. rest_at s k id q) (λ id q a. rest-good k id q)

  body-good : Good (Heard s) (body_at s)
  unfolding body_at
  body-good =
      good_next (field 0 (kind_at s)) (λ k q. cond (nat_eq k 7) (read event.Call q) (input_at s k q))
      (λ k q a. good-cond (nat_eq k 7) (read event.Call q) (input_at s k q) (good-read event.Call q tt) (input-good k q))

  event-good : Good (Heard s) (event_at s)
  unfolding event_at
  event-good =
      good_next (body_at s) (λ e end. cond (nat_lt end (length s)) (fault trailing end) (read e end))
      (λ e end a. good-cond (nat_lt end (length s)) (fault trailing end) (read e end) (good-fault trailing end) (good-read e end (body-good.so e end a)))

  pub event-heard : (e : Event) (end : ℕ) → read e end ≡ event_at s → Heard s e
  event-heard = event-good.so

  pub four-formed : ((i : ℕ) → get_or s i 0 < 256) → (p : ℕ) (a : Addr) (end : ℕ) → read a end ≡ four s p → formed A a ≡ true
  unfolding four
  four-formed bytes p a end e =
      let t = then-read (field p (bytes_at s 4 p)) (λ b end. read (record { hi = 0; lo = word s p; scope = 0 }) end) e in
      let x : record { hi = 0; lo = word s p; scope = 0 } ≡ a = let r = t.rest in cc in
      subst (λ a. formed A a ≡ true) x (all_more _ _ refl (all_more _ _ (lt-ltb (word s p) (2 ^ 32) (omega (arith, word_small s bytes p))) (all_more _ _ refl all_none)))

  -- a name, as it is kept
  abbrev pub NameHeard : Span → Type 0
  NameHeard b = name_ok (kept longest_name s b) ≡ true

  length-within : (limit p n q : ℕ) → got n q ≡ name_length limit (read_number s p) → n ≤ limit
  unfolding name_length
  length-within limit p n q e =
      let t = got-then (at_most limit too_many (read_number s p)) (λ n q. cond (nat_eq n 0) (refused bad_name) (got n q)) e in
      let x = not-refused bad_name (nat_eq t.value 0) t.value t.place t.rest in
      let y : n ≡ t.value = cc in
      omega (arith, y, within limit too_many (read_number s p) t.first)

  named-heard : (n p : ℕ) (b : Span) (end : ℕ) → n ≤ longest_name → got b end ≡ named s n p → NameHeard b × (length (kept longest_name s b) ≤ n)
  unfolding named fits
  named-heard n p b end h e =
      let t = got-then (bytes_at s n p) (λ b q. cond (name_ok (span_bytes s b)) (got b q) (refused bad_name)) e in
      let i = there s n p t.first in
      let a = only-got bad_name (name_ok (span_bytes s t.value)) t.value t.place t.rest in
      let f : fits longest_name s (record { start = p; len = n }) ≡ true = simp (le-leb n longest_name h, le-leb (p + n) (length s) i.inside) in
      let w : name_ok (span_bytes s (record { start = p; len = n })) ≡ true = subst (λ b. name_ok (span_bytes s b) ≡ true) i.span a.0 in
      let k = kept_there longest_name s (record { start = p; len = n }) f in
      let l : length (kept longest_name s (record { start = p; len = n })) ≤ n = omega (arith, ap length k, span-length s p n i.inside) in
      subst (λ b. NameHeard b × (length (kept longest_name s b) ≤ n)) (sym i.span ∙ a.1) (ap name_ok k ∙ w, l)

  pub name-heard : (limit : ℕ) → limit ≤ longest_name → (p : ℕ) (b : Span) (end : ℕ) → got b end ≡ name_at s limit p → NameHeard b × (length (kept longest_name s b) ≤ limit)
  unfolding name_at
  name-heard limit low p b end e =
      let t = got-then (name_length limit (read_number s p)) (named s) e in
      let h = length-within limit p t.value t.place t.first in
      let x = named-heard t.value t.place b end (omega arith) t.rest in
      (x.0, omega (arith, x.1, h))

  head-heard : (p : ℕ) (h : Head) (end : ℕ) → read h end ≡ head s p → NameHeard h.name
  unfolding head
  head-heard p h end e =
      let t = then-read (field p (at_most 65535 out_of_range (read_number s p)))
      (λ n q. next (field q (name_at s longest_name q)) (λ b q. next (versions_at s q) (λ v end. read (record { priority = n; name = b; versions = v }) end))) e in
      let u = then-read (field t.place (name_at s longest_name t.place)) (λ b q. next (versions_at s q) (λ v end. read (record { priority = t.value; name = b; versions = v }) end)) t.rest in
      let v = then-read (versions_at s u.place) (λ v end. read (record { priority = t.value; name = u.value; versions = v }) end) u.rest in
      let w : record { priority = t.value; name = u.value; versions = v.value } ≡ h = let r = v.rest in cc in
      subst (λ h. NameHeard h.name) w (name-heard longest_name (omega arith) t.place u.value u.place (field-read t.place (name_at s longest_name t.place) u.first)).0

  pub offer-heard : (p : ℕ) (o : Offer) (end : ℕ) → read o end ≡ offer s p → NameHeard o.head.name
  unfolding offer
  offer-heard p o end e =
      let t = then-read (head s p) (λ h q. next (way s q) (λ w q. next (hints s q) (λ x end. read (record { head = h; way = w; hints = x }) end))) e in
      let u = then-read (way s t.place) (λ w q. next (hints s q) (λ x end. read (record { head = t.value; way = w; hints = x }) end)) t.rest in
      let v = then-read (hints s u.place) (λ x end. read (record { head = t.value; way = u.value; hints = x }) end) u.rest in
      let w : record { head = t.value; way = u.value; hints = v.value } ≡ o = let r = v.rest in cc in
      subst (λ o. NameHeard o.head.name) w (head-heard p t.value t.place t.first)

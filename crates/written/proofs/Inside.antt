-- Where reading stops: the number of a fault is one of 1 to 6, its place lies in the body or at its end, and a body without fault is read to
-- its end.
--     Plain, Inside         of a field, and of reading
--     event-inside          of a body
--     fault-number, fault-place, read_whole, zero-whole, whole-zero     what `body_fault` gives
use mathlib.Core.Path.{◌≡◌, refl, sym, ap, subst, ◌∙◌}
use mathlib.Core.Bool.{Bool, true, false, cond}
use mathlib.Core.List.{List, [], ◌∷◌}
use Prim.Native.Nat.{ℕ, zero, suc, ◌+◌, ◌-◌, ◌*◌, ◌%◌, ◌≤◌, ◌<◌}
use native.Mathlib.Omega.{arith}
use lib.Dec.{ltb as nat_lt, leb as nat_le, eqb as nat_eq}
use lib.ListN.{length, drop, length-drop}
use borrow.Author.Tests.{ltb-false}
use Rattle.std.specs.Prelude.{None, Some}
use Rattle.numbers.specs.Got.{Got, got, refused, and_then}
use Rattle.numbers.specs.Fields.{at_most, bytes_at, span_bytes, name_length, named, name_at}
use Rattle.numbers.specs.Names.{name_ok, longest_name}
use Rattle.numbers.specs.Numbers.{below, groups, read_number}
use Rattle.numbers.specs.Refusals.{cut, bad_number, out_of_range, bad_name, too_many, trailing}
use Rattle.numbers.proofs.Steps.{there}
use Rattle.records.specs.declared.queries.Kind.{Kind}
use Rattle.records.specs.declared.queries.Kind.TheVariants.{Https, Aaaa, A}
use Rattle.parts.specs.Reading.{Reading, read, fault, next, field}
use Rattle.parts.specs.Items.{items, past, counted}
use Rattle.parts.specs.Addresses.{word, long, four, six, scoped, address}
use Rattle.parts.specs.Fields.{versions_of, versions_at, port_of, port_at}
use Rattle.parts.specs.declared.address.Form.{Form}
use Rattle.parts.specs.declared.address.Form.TheVariants.{Four, Six, Scoped}
use Rattle.parts.proofs.Steps.{then-read}
use Rattle.offers.specs.Offers.{head, ech, way, hints, offer}
use Rattle.bodies.specs.Events.{items_at, answer_at, retry_at, rest_at, input_at, kind_at, body_at, event_at, fault_of}
use Rattle.bodies.specs.declared.Event.{Event}
use Rattle.bodies.specs.declared.Event.TheVariants as event

-- 1 to 6
abbrev Small : ℕ → Type 0
Small n = (0 < n) × (n ≤ 6)

-- of a field: it ends at most at a place
pub record Plain {A : Type 0} (most : ℕ) (r : Got A) : Type 0 where
  pub number : (n : ℕ) → refused n ≡ r → Small n
  pub ends : (v : A) (end : ℕ) → got v end ≡ r → end ≤ most

-- of reading
pub record Inside {A : Type 0} (s : List ℕ) (r : Reading A) : Type 0 where
  pub number : (n p : ℕ) → fault n p ≡ r → Small n × (p ≤ length s)
  pub ends : (v : A) (end : ℕ) → read v end ≡ r → end ≤ length s

module _ {A : Type 0} (most : ℕ) where
  plain-got : (v : A) (q : ℕ) → q ≤ most → Plain most (got v q)
  plain-got v q h = record {
    number = λ n e. absurd (let z : ◌≡◌ {A = ℕ} 0 1 = cc in omega arith);
    ends = λ w end e. let x : end ≡ q = cc in omega (arith, x, h);
  }

  plain-refused : (n : ℕ) → Small n → Plain {A = A} most (refused n)
  plain-refused n h = record {
    number = λ m e. let x : n ≡ m = cc in subst Small x h;
    ends = λ w end e. absurd (let z : ◌≡◌ {A = ℕ} 0 1 = cc in omega arith);
  }

  plain-cond : (t : Bool) (a b : Got A) → Plain most a → Plain most b → Plain most (cond t a b)
  plain-cond true a b g h = g
  plain-cond false a b g h = h

  plain_then : {B : Type 0} (r : Got B) (f : B → ℕ → Got A) → Plain most r → ((v : B) (q : ℕ) → q ≤ most → Plain most (f v q)) → Plain most (and_then r f)
  plain_then (got v q) f g h = h v q (g.ends v q refl)
  plain_then (refused n) f g h = plain-refused n (g.number n refl)

module _ {A : Type 0} (s : List ℕ) where
  pub in-read : (v : A) (q : ℕ) → q ≤ length s → Inside s (read v q)
  in-read v q h = record {
    number = λ n p e. absurd (let z : ◌≡◌ {A = ℕ} 0 1 = cc in omega arith);
    ends = λ w end e. let x : end ≡ q = cc in omega (arith, x, h);
  }

  pub in-fault : (n p : ℕ) → Small n → p ≤ length s → Inside {A = A} s (fault n p)
  in-fault n p h i = record {
    number = λ m q e. let x : n ≡ m = cc in let y : q ≡ p = cc in (subst Small x h, omega (arith, y, i));
    ends = λ w end e. absurd (let z : ◌≡◌ {A = ℕ} 0 1 = cc in omega arith);
  }

  pub in-cond : (t : Bool) (a b : Reading A) → Inside s a → Inside s b → Inside s (cond t a b)
  in-cond true a b g h = g
  in-cond false a b g h = h

  pub in-next : {B : Type 0} (r : Reading B) (f : B → ℕ → Reading A) → Inside s r → ((v : B) (q : ℕ) → q ≤ length s → Inside s (f v q)) → Inside s (next r f)
  in-next (read v q) f g h = h v q (g.ends v q refl)
  in-next (fault n p) f g h = let x = g.number n p refl in in-fault n p x.0 x.1

  pub in_field : (p : ℕ) → p ≤ length s → (r : Got A) → Plain (length s) r → Inside s (field p r)
  in_field p h (got v q) g = in-read v q (g.ends v q refl)
  in_field p h (refused n) g = in-fault n p (g.number n refl) h

-- a number, over its groups: it ends within the bytes that it is read from
within-below : (v w : ℕ) (r : Got ℕ) (most : ℕ) → Plain most r → Plain most (below v w r)
unfolding below
within-below v w (got u q) most g = plain-cond most (nat_eq u 0) (refused bad_number) (got (v + w * u) q) (plain-refused most bad_number (omega arith, omega arith)) (plain-got most (v + w * u) q (g.ends u q refl))
within-below v w (refused n) most g = plain-refused most n (g.number n refl)

within-groups : (left p : ℕ) (bs : List ℕ) → Plain (p + length bs) (groups left p bs)
unfolding groups
within-groups zero p [] = plain-refused (p + 0) cut (omega arith, omega arith)
within-groups (suc left) p [] = plain-refused (p + 0) cut (omega arith, omega arith)
within-groups zero p (b ∷ bs) = plain-cond (p + length (b ∷ bs)) (nat_le b 1) (got b (p + 1)) (refused bad_number) (plain-got (p + length (b ∷ bs)) b (p + 1) (omega arith)) (plain-refused (p + length (b ∷ bs)) bad_number (omega arith, omega arith))
within-groups (suc left) p (b ∷ bs) =
    let e : (p + 1) + length bs ≡ p + length (b ∷ bs) = omega arith in
    plain-cond (p + length (b ∷ bs)) (nat_lt b 128) (got b (p + 1)) (below (b % 128) 128 (groups left (p + 1) bs)) (plain-got (p + length (b ∷ bs)) b (p + 1) (omega arith))
    (within-below (b % 128) 128 (groups left (p + 1) bs) (p + length (b ∷ bs)) (subst (λ m. Plain m (groups left (p + 1) bs)) e (within-groups left (p + 1) bs)))

-- fields
module _ (s : List ℕ) where
  pub number-plain : (p : ℕ) → p ≤ length s → Plain (length s) (read_number s p)
  unfolding read_number
  number-plain p h =
      let w = within-groups 9 p (drop p s) in
      record { number = w.number; ends = λ v end e. omega (arith, w.ends v end e, length-drop p s, h) }

  most-plain : (limit n p : ℕ) → Small n → p ≤ length s → Plain (length s) (at_most limit n (read_number s p))
  unfolding at_most
  most-plain limit n p k h =
      plain_then (length s) (read_number s p) (λ v q. cond (nat_le v limit) (got v q) (refused n)) (number-plain p h) (λ v q i. plain-cond (length s) (nat_le v limit) (got v q) (refused n) (plain-got (length s) v q i) (plain-refused (length s) n k))

  only-cut : {A : Type 0} (t : Bool) (v : A) (q n m : ℕ) → refused m ≡ cond t (got v q) (refused n) → n ≡ m
  only-cut true v q n m e = absurd (let z : ◌≡◌ {A = ℕ} 0 1 = cc in omega arith)
  only-cut false v q n m e = cc

  bytes-plain : (n p : ℕ) → Plain (length s) (bytes_at s n p)
  unfolding bytes_at
  bytes-plain n p = record {
    number = λ m e. subst Small (only-cut (nat_le (p + n) (length s)) (record { start = p; len = n }) (p + n) cut m e) (omega arith, omega arith);
    ends = λ b end e. let t = there s n p e in omega (arith, t.after, t.inside);
  }

  pub name-plain : (limit p : ℕ) → p ≤ length s → Plain (length s) (name_at s limit p)
  unfolding name_at name_length named
  name-plain limit p h =
      plain_then (length s) (name_length limit (read_number s p)) (named s)
      (plain_then (length s) (at_most limit too_many (read_number s p)) (λ n q. cond (nat_eq n 0) (refused bad_name) (got n q)) (most-plain limit too_many p (omega arith, omega arith) h)
      (λ n q i. plain-cond (length s) (nat_eq n 0) (refused bad_name) (got n q) (plain-refused (length s) bad_name (omega arith, omega arith)) (plain-got (length s) n q i)))
      (λ n q i. plain_then (length s) (bytes_at s n q) (λ b r. cond (name_ok (span_bytes s b)) (got b r) (refused bad_name)) (bytes-plain n q)
      (λ b r j. plain-cond (length s) (name_ok (span_bytes s b)) (got b r) (refused bad_name) (plain-got (length s) b r j) (plain-refused (length s) bad_name (omega arith, omega arith))))

  pub range_inside : (limit p : ℕ) → p ≤ length s → Inside s (field p (at_most limit out_of_range (read_number s p)))
  range_inside limit p h = in_field s p h (at_most limit out_of_range (read_number s p)) (most-plain limit out_of_range p (omega arith, omega arith) h)

  size-inside : (limit p : ℕ) → p ≤ length s → Inside s (field p (at_most limit too_many (read_number s p)))
  size-inside limit p h = in_field s p h (at_most limit too_many (read_number s p)) (most-plain limit too_many p (omega arith, omega arith) h)

  bytes_inside : (n p : ℕ) → p ≤ length s → Inside s (field p (bytes_at s n p))
  bytes_inside n p h = in_field s p h (bytes_at s n p) (bytes-plain n p)

  -- items in a row
  module _ {A : Type 0} (f : ℕ → Reading A) (one : (p : ℕ) → p ≤ length s → Inside s (f p)) where
    items-inside : (n p : ℕ) → p ≤ length s → Inside s (items f n p)
    unfolding items
    items-inside zero p h = in-read s [] p h
    items-inside (suc n) p h = in-next s (f p) _ (one p h) (λ a q i. in-next s (items f n q) (λ l end. read (a ∷ l) end) (items-inside n q i) (λ l end j. in-read s (a ∷ l) end j))

    past-inside : (r : Reading (List A)) → Inside s r → Inside s (past r)
    past-inside (read l q) g = in-read s tt q (g.ends l q refl)
    past-inside (fault n p) g = let x = g.number n p refl in in-fault s n p x.0 x.1

    pub counted-inside : (most p : ℕ) → p ≤ length s → Inside s (counted most f s p)
    unfolding counted
    counted-inside most p h =
        in-next s (field p (at_most most too_many (read_number s p))) _ (size-inside most p h) (λ n q i.
        in-next s (past (items f n q)) (λ t end. read (record { count = n; first = q }) end) (past-inside (items f n q) (items-inside n q i)) (λ t end j. in-read s (record { count = n; first = q }) end j))

  -- addresses
  pub four-inside : (p : ℕ) → p ≤ length s → Inside s (four s p)
  unfolding four
  four-inside p h = in-next s (field p (bytes_at s 4 p)) (λ b end. read (record { hi = 0; lo = word s p; scope = 0 }) end) (bytes_inside 4 p h) (λ b end i. in-read s (record { hi = 0; lo = word s p; scope = 0 }) end i)

  pub six-inside : (p : ℕ) → p ≤ length s → Inside s (six s p)
  unfolding six
  six-inside p h = in-next s (field p (bytes_at s 16 p)) (λ b end. read (record { hi = long s p; lo = long s (p + 8); scope = 0 }) end) (bytes_inside 16 p h) (λ b end i. in-read s (record { hi = long s p; lo = long s (p + 8); scope = 0 }) end i)

  scoped-inside : (p : ℕ) → p ≤ length s → Inside s (scoped s p)
  unfolding scoped
  scoped-inside p h =
      in-next s (six s p) _ (six-inside p h) (λ a q i.
      in-next s (field q (at_most 4294967295 out_of_range (read_number s q))) (λ scope end. read (record { hi = a.hi; lo = a.lo; scope = scope }) end) (range_inside 4294967295 q i)
      (λ scope end j. in-read s (record { hi = a.hi; lo = a.lo; scope = scope }) end j))

  address-inside : (form : Form) (p : ℕ) → p ≤ length s → Inside s (address form s p)
  address-inside Four p h = four-inside p h
  address-inside Six p h = six-inside p h
  address-inside Scoped p h = scoped-inside p h

  -- services
  pub versions-inside : (p : ℕ) → p ≤ length s → Inside s (versions_at s p)
  unfolding versions_at
  versions-inside p h = in-next s (field p (at_most 7 out_of_range (read_number s p))) (λ v end. read (versions_of v) end) (range_inside 7 p h) (λ v end i. in-read s (versions_of v) end i)

  pub port-inside : (p : ℕ) → p ≤ length s → Inside s (port_at s p)
  unfolding port_at
  port-inside p h = in-next s (field p (at_most 65536 out_of_range (read_number s p))) (λ v end. read (port_of v) end) (range_inside 65536 p h) (λ v end i. in-read s (port_of v) end i)

  head-inside : (p : ℕ) → p ≤ length s → Inside s (head s p)
  unfolding head
  head-inside p h =
      in-next s (field p (at_most 65535 out_of_range (read_number s p))) _ (range_inside 65535 p h) (λ n q i.
      in-next s (field q (name_at s longest_name q)) _ (in_field s q i (name_at s longest_name q) (name-plain longest_name q i)) (λ b r j.
      in-next s (versions_at s r) (λ v end. read (record { priority = n; name = b; versions = v }) end) (versions-inside r j) (λ v end k. in-read s (record { priority = n; name = b; versions = v }) end k)))

  ech-inside : (p : ℕ) → p ≤ length s → Inside s (ech s p)
  unfolding ech
  ech-inside p h =
      in-next s (field p (at_most 513 too_many (read_number s p))) _ (size-inside 513 p h) (λ n q i.
      in-cond s (nat_eq n 0) (read None q) (next (field q (bytes_at s (n - 1) q)) (λ b end. read (Some b) end)) (in-read s None q i)
      (in-next s (field q (bytes_at s (n - 1) q)) (λ b end. read (Some b) end) (bytes_inside (n - 1) q i) (λ b end j. in-read s (Some b) end j)))

  way-inside : (p : ℕ) → p ≤ length s → Inside s (way s p)
  unfolding way
  way-inside p h = in-next s (port_at s p) _ (port-inside p h) (λ x q i. in-next s (ech s q) (λ e end. read (record { port = x; ech = e }) end) (ech-inside q i) (λ e end j. in-read s (record { port = x; ech = e }) end j))

  hints-inside : (p : ℕ) → p ≤ length s → Inside s (hints s p)
  unfolding hints
  hints-inside p h =
      in-next s (counted 4 (address Four s) s p) _ (counted-inside (address Four s) (address-inside Four) 4 p h) (λ f q i.
      in-next s (counted 4 (address Six s) s q) (λ x end. read (record { four = f; six = x }) end) (counted-inside (address Six s) (address-inside Six) 4 q i) (λ x end j. in-read s (record { four = f; six = x }) end j))

  offer-inside : (p : ℕ) → p ≤ length s → Inside s (offer s p)
  unfolding offer
  offer-inside p h =
      in-next s (head s p) _ (head-inside p h) (λ a q i.
      in-next s (way s q) _ (way-inside q i) (λ b r j.
      in-next s (hints s r) (λ x end. read (record { head = a; way = b; hints = x }) end) (hints-inside r j) (λ x end k. in-read s (record { head = a; way = b; hints = x }) end k)))

  -- bodies
  rows_inside : (k : Kind) (p : ℕ) → p ≤ length s → Inside s (items_at k s p)
  rows_inside Https p h = counted-inside (offer s) offer-inside 4 p h
  rows_inside Aaaa p h = counted-inside (address Scoped s) (address-inside Scoped) 8 p h
  rows_inside A p h = counted-inside (address Four s) (address-inside Four) 8 p h

  answer-inside : (k : Kind) (id p : ℕ) → p ≤ length s → Inside s (answer_at k s id p)
  unfolding answer_at
  answer-inside k id p h =
      in-next s (field p (at_most 3 out_of_range (read_number s p))) _ (range_inside 3 p h) (λ flags q i.
      in-cond s (nat_le 2 flags) (read (event.Fails k id (nat_eq (flags % 2) 1)) q) (next (items_at k s q) (λ l end. read (event.Holds k id (nat_eq (flags % 2) 1) l) end))
      (in-read s (event.Fails k id (nat_eq (flags % 2) 1)) q i)
      (in-next s (items_at k s q) (λ l end. read (event.Holds k id (nat_eq (flags % 2) 1) l) end) (rows_inside k q i) (λ l end j. in-read s (event.Holds k id (nat_eq (flags % 2) 1) l) end j)))

  retry-inside : (id p : ℕ) → p ≤ length s → Inside s (retry_at s id p)
  unfolding retry_at
  retry-inside id p h =
      in-next s (field p (at_most 512 too_many (read_number s p))) _ (size-inside 512 p h) (λ n q i.
      in-next s (field q (bytes_at s n q)) (λ b end. read (event.EchRetry id b) end) (bytes_inside n q i) (λ b end j. in-read s (event.EchRetry id b) end j))

  rest-inside : (k id p : ℕ) → p ≤ length s → Inside s (rest_at s k id p)
  unfolding rest_at
  rest-inside k id p h =
      in-cond s (nat_eq k 1) _ _ (answer-inside Aaaa id p h)
      (in-cond s (nat_eq k 2) _ _ (answer-inside A id p h)
      (in-cond s (nat_eq k 3) _ _ (answer-inside Https id p h)
      (in-cond s (nat_eq k 4) _ _ (in-read s (event.Success id) p h)
      (in-cond s (nat_eq k 5) _ _ (in-read s (event.Failure id) p h) (retry-inside id p h)))))

  kind-plain : Plain (length s) (kind_at s)
  unfolding kind_at
  kind-plain =
      plain_then (length s) (at_most 7 out_of_range (read_number s 0)) (λ k q. cond (nat_eq k 0) (refused out_of_range) (got k q)) (most-plain 7 out_of_range 0 (omega arith, omega arith) (omega arith))
      (λ k q i. plain-cond (length s) (nat_eq k 0) (refused out_of_range) (got k q) (plain-refused (length s) out_of_range (omega arith, omega arith)) (plain-got (length s) k q i))

  body-inside : Inside s (body_at s)
  unfolding body_at input_at
  body-inside =
      in-next s (field 0 (kind_at s)) (λ k q. cond (nat_eq k 7) (read event.Call q) (input_at s k q)) (in_field s 0 (omega arith) (kind_at s) kind-plain) (λ k q i.
      in-cond s (nat_eq k 7) (read event.Call q) (input_at s k q) (in-read s event.Call q i)
      (in-next s (field q (read_number s q)) (λ id r. rest_at s k id r) (in_field s q i (read_number s q) (number-plain q i)) (λ id r j. rest-inside k id r j)))

  pub event-inside : Inside s (event_at s)
  unfolding event_at
  event-inside =
      in-next s (body_at s) (λ e end. cond (nat_lt end (length s)) (fault trailing end) (read e end)) body-inside (λ e end i.
      in-cond s (nat_lt end (length s)) (fault trailing end) (read e end) (in-fault s trailing end (omega arith, omega arith) i) (in-read s e end i))

  -- what a fault gives
  module _ {A : Type 0} where
    pub number_small : (r : Reading A) → Inside s r → (fault_of r).number ≤ 6
    number_small (read v end) g = omega arith
    number_small (fault n p) g = (g.number n p refl).0.1

    pub place_inside : (r : Reading A) → Inside s r → (fault_of r).place ≤ length s
    place_inside (read v end) g = g.ends v end refl
    place_inside (fault n p) g = (g.number n p refl).1

    pub none_read : (r : Reading A) → Inside s r → (fault_of r).number ≡ 0 → (v : A) × (read v (fault_of r).place ≡ r)
    none_read (read v end) g z = (v, refl)
    none_read (fault n p) g z = absurd (let h = (g.number n p refl).0.0 in omega arith)

    pub read_none : (r : Reading A) {v : A} {end : ℕ} → read v end ≡ r → (fault_of r).number ≡ 0
    read_none r e = sym (ap (λ r. (fault_of r).number) e)

  -- `body_fault`
  pub fault-number : (fault_of (event_at s)).number ≤ 6
  fault-number = number_small (event_at s) event-inside

  pub fault-place : (fault_of (event_at s)).place ≤ length s
  fault-place = place_inside (event_at s) event-inside

  -- a body without fault is read to its end
  not-trailing : (t : Bool) (e v : Event) (q end : ℕ) → nat_lt q (length s) ≡ t → read v end ≡ cond t (fault trailing q) (read e q) → length s ≤ end
  not-trailing true e v q end h i = absurd (let z : ◌≡◌ {A = ℕ} 0 1 = cc in omega arith)
  not-trailing false e v q end h i = let x : end ≡ q = cc in omega (arith, x, ltb-false q (length s) h)

  pub read_whole : (e : Event) (end : ℕ) → read e end ≡ event_at s → end ≡ length s
  unfolding event_at
  read_whole e end i =
      let t = then-read (body_at s) (λ e end. cond (nat_lt end (length s)) (fault trailing end) (read e end)) i in
      let a = not-trailing (nat_lt t.place (length s)) t.value e t.place end refl t.rest in
      omega (arith, a, event-inside.ends e end i)

  -- 0 is given exactly where the body is read whole
  pub zero-whole : (fault_of (event_at s)).number ≡ 0 → (e : Event) × (read e (length s) ≡ event_at s)
  zero-whole z = let x = none_read (event_at s) event-inside z in (x.0, ap (read x.0) (sym (read_whole x.0 _ x.1)) ∙ x.1)

  pub whole-zero : (e : Event) (end : ℕ) → read e end ≡ event_at s → (fault_of (event_at s)).number ≡ 0
  whole-zero e end i = read_none (event_at s) i

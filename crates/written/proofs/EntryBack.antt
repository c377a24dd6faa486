-- Services that are written are read back.
--     ech-back                            an ECH field
--     head-back, way_back, hints-back     the parts of a service
--     entry-back                          a service
use mathlib.Core.Path.{◌≡◌, refl, sym, ap, ◌∙◌}
use mathlib.Core.List.{List, ◌++◌, map-id}
use mathlib.Core.Option.{Option, none, some}
use Prim.Native.Nat.{ℕ, ◌+◌, ◌-◌, ◌^◌, ◌<◌}
use native.Mathlib.Omega.{arith}
use lib.ListN.{length, length-append}
use Rattle.std.specs.Prelude.{Option as CodeOption, None, Some}
use Rattle.numbers.specs.Fields.{bytes_at}
use Rattle.numbers.specs.Names.{longest_name}
use Rattle.numbers.specs.Numbers.{number_bytes}
use Rattle.numbers.specs.Refusals.{out_of_range, too_many}
use Rattle.numbers.specs.declared.field.Span.{Span}
use Rattle.records.specs.Lists.{padded}
use Rattle.records.specs.Services.{no_hint}
use Rattle.records.specs.declared.queries.Addr.{Addr}
use Rattle.records.specs.declared.services.Hint.{Hint}
use Rattle.parts.specs.Reading.{read, next, field}
use Rattle.parts.specs.Items.{counted, listed}
use Rattle.parts.specs.Addresses.{address, low, halves, fours_in, sixes_in}
use Rattle.parts.specs.Fields.{versions_of, versions_at, port_of, port_at}
use Rattle.parts.specs.Rooms.{kept, name_in, ech_in}
use Rattle.parts.specs.declared.address.Form.TheVariants.{Four, Six}
use Rattle.parts.specs.declared.address.Items.{Items}
use Rattle.parts.specs.Written.{FitsHint, versions_number, port_number, named_bytes, row_bytes, word_bytes, six_bytes, four_addr}
use Rattle.parts.proofs.Steps.{went_on, on-field}
use Rattle.parts.proofs.Back.{There, there-left, there-right, most-back, limited-back, bytes_back, Back, Each, each-length, each_map, counted_back}
use Rattle.parts.proofs.AddressBack.{four-back, six-back}
use Rattle.parts.proofs.FieldBack.{versions-small, versions-back, port-back, kept_back, field_back}
use Rattle.offers.specs.Offers.{head, ech, way, hints, offer, sealed_at, service_of, target_name, ech_from, target_ech}
use Rattle.offers.specs.declared.Head.{Head}
use Rattle.offers.specs.declared.Way.{Way}
use Rattle.offers.specs.declared.Hints.{Hints}
use Rattle.offers.specs.declared.Offer.{Offer}
use Rattle.offers.proofs.OfferLaws.{ech-none, ech-some}
use Rattle.written.specs.Written.{Entry, FitsEntry, FitsEch, ech_bytes, head_bytes, way_bytes, hints_bytes, entry_bytes, place_of, ech_of, service, name_of, seal_of}

module _ (s : List ℕ) where
  pub head-back : (p : ℕ) (x : Entry) → FitsEntry x → There s p (head_bytes x)
      → Back (head s p) (p + length (head_bytes x)) (λ h. (h.priority ≡ x.priority) × (kept longest_name s h.name ≡ x.name) × (h.versions ≡ x.versions))
  unfolding head head_bytes versions_at
  head-back p x ok t =
      let n = number_bytes x.priority in
      let v = number_bytes (versions_number x.versions) in
      let m = named_bytes x.name in
      let t1 = there-right s p n (m ++ v) t in
      let q = p + length n in
      let a = limited-back s p 65535 out_of_range x.priority (let h = ok.priority in omega arith) (omega arith) (there-left s p n (m ++ v) t) in
      let b = field_back s q x.name ok.name ok.short (there-left s q m v t1) in
      let r = q + length m in
      let c = limited-back s r 7 out_of_range (versions_number x.versions) (versions-small x.versions) (omega arith) (there-right s q m v t1) in
      let e : r + length v ≡ p + length (n ++ (m ++ v)) = omega (arith, length-append n (m ++ v), length-append m v) in
      let w : Head = record { priority = x.priority; name = b.value; versions = versions_of (versions_number x.versions) } in
      record {
        value = w;
        reads =
            ap (read w) (sym e)
            ∙ went_on (λ u end. read (record { priority = x.priority; name = b.value; versions = u }) end) (versions_of (versions_number x.versions)) (r + length v)
            (went_on (λ u end. read (versions_of u) end) (versions_number x.versions) (r + length v) c)
            ∙ went_on (λ u q. next (versions_at s q) (λ v end. read (record { priority = x.priority; name = u; versions = v }) end)) b.value r b.reads
            ∙ went_on _ x.priority q a;
        right = (refl, b.right, versions-back x.versions);
      }

  -- an ECH field, and what is kept of its bytes
  unfoldable pub EchRight : Option (List ℕ) → CodeOption Span → Type 0
  EchRight o e = (sealed_at e ≡ place_of o) × (ech_from s e ≡ ech_of o)

  pub ech-back : (p : ℕ) (o : Option (List ℕ)) → FitsEch o → There s p (ech_bytes o) → Back (ech s p) (p + length (ech_bytes o)) (EchRight o)
  unfolding EchRight
  ech-back p none ok t = record { value = None; reads = ech-none s p 0 (p + length (number_bytes 0)) (most-back s p 513 too_many 0 (omega arith) (omega arith) t) refl; right = (refl, refl) }
  ech-back p (some bs) ok t =
      let n = number_bytes (length bs + 1) in
      let q = p + length n in
      let a = most-back s p 513 too_many (length bs + 1) (omega (arith, ok)) (omega arith) (there-left s p n bs t) in
      let u = there-right s p n bs t in
      let k : length bs ≡ length bs + 1 - 1 = omega arith in
      let b : Span = record { start = q; len = length bs } in
      let e : q + length bs ≡ p + length (n ++ bs) = omega (arith, length-append n bs) in
      record {
        value = Some b;
        reads =
            ap (read (Some b)) (sym e)
            ∙ went_on (λ b end. read (Some b) end) b (q + length bs) (on-field q (bytes_back s q bs u) ∙ ap (λ k. field q (bytes_at s k q)) k)
            ∙ ech-some s p (length bs + 1) q a (λ z. omega arith);
        right = (refl, ap ech_in (kept_back s 512 q bs ok u));
      }

  pub way_back : (p : ℕ) (x : Entry) → FitsEntry x → There s p (way_bytes x) → Back (way s p) (p + length (way_bytes x)) (λ w. (w.port ≡ x.port) × EchRight x.ech w.ech)
  unfolding way way_bytes port_at
  way_back p x ok t =
      let n = number_bytes (port_number x.port) in
      let q = p + length n in
      let a = limited-back s p 65536 out_of_range (port_number x.port) (let h = ok.port in omega arith) (omega arith) (there-left s p n (ech_bytes x.ech) t) in
      let b = ech-back q x.ech ok.ech (there-right s p n (ech_bytes x.ech) t) in
      let end = q + length (ech_bytes x.ech) in
      let e : end ≡ p + length (n ++ ech_bytes x.ech) = omega (arith, length-append n (ech_bytes x.ech)) in
      let w : Way = record { port = port_of (port_number x.port); ech = b.value } in
      record {
        value = w;
        reads =
            ap (read w) (sym e)
            ∙ went_on (λ u end. read (record { port = port_of (port_number x.port); ech = u }) end) b.value end b.reads
            ∙ went_on (λ u q. next (ech s q) (λ e end. read (record { port = u; ech = e }) end)) (port_of (port_number x.port)) q
            (went_on (λ u end. read (port_of u) end) (port_number x.port) q a);
        right = (port-back x.port, b.right);
      }

  -- hints in their rooms
  abbrev SixRight : Addr → Hint → Type 0
  SixRight a h = a ≡ record { hi = h.hi; lo = h.lo; scope = 0 }

  unfoldable pub FoursRight : List ℕ → Items → Type 0
  FoursRight l it = fours_in s it ≡ record { count = length l; list = padded 4 0 l }

  unfoldable pub SixesRight : List Hint → Items → Type 0
  SixesRight l it = sixes_in s it ≡ record { count = length l; list = padded 4 no_hint l }

  fours-right : (l : List ℕ) (it : Items) → Each (λ a x. a ≡ four_addr x) (listed 4 (address Four s) it) l → FoursRight l it
  unfolding FoursRight fours_in
  fours-right l it e =
      let n = each-length (λ a x. a ≡ four_addr x) (listed 4 (address Four s) it) l e in
      let m = each_map (λ a x. a ≡ four_addr x) low (λ x. x) (λ a x h. ap low h) (listed 4 (address Four s) it) l e ∙ map-id l in
      λ j. record { count = n j; list = padded 4 0 (m j) }

  sixes-right : (l : List Hint) (it : Items) → Each SixRight (listed 4 (address Six s) it) l → SixesRight l it
  unfolding SixesRight sixes_in
  sixes-right l it e =
      let n = each-length SixRight (listed 4 (address Six s) it) l e in
      let m = each_map SixRight halves (λ h. h) (λ a h k. ap halves k) (listed 4 (address Six s) it) l e ∙ map-id l in
      λ j. record { count = n j; list = padded 4 no_hint (m j) }

  pub hints-back : (p : ℕ) (x : Entry) → FitsEntry x → There s p (hints_bytes x) → Back (hints s p) (p + length (hints_bytes x)) (λ h. FoursRight x.fours h.four × SixesRight x.sixes h.six)
  unfolding hints hints_bytes
  hints-back p x ok t =
      let n = row_bytes word_bytes x.fours in
      let m = row_bytes six_bytes x.sixes in
      let q = p + length n in
      let a = counted_back (λ a x. a ≡ four_addr x) (address Four s) s word_bytes (λ a. a < 2 ^ 32) (λ p x h t. record { value = four_addr x; reads = four-back s p x h t; right = refl })
      4 x.fours p ok.fours (omega arith) ok.four (there-left s p n m t) in
      let b = counted_back SixRight (address Six s) s six_bytes FitsHint (λ p h k t. record { value = record { hi = h.hi; lo = h.lo; scope = 0 }; reads = six-back s p h k t; right = refl })
      4 x.sixes q ok.sixes (omega arith) ok.six (there-right s p n m t) in
      let e : q + length m ≡ p + length (n ++ m) = omega (arith, length-append n m) in
      let w : Hints = record { four = a.value; six = b.value } in
      record {
        value = w;
        reads =
            ap (read w) (sym e)
            ∙ went_on (λ u end. read (record { four = a.value; six = u }) end) b.value (q + length m) b.reads
            ∙ went_on (λ u q. next (counted 4 (address Six s) s q) (λ v end. read (record { four = u; six = v }) end)) a.value q a.reads;
        right = (fours-right x.fours a.value a.right.1, sixes-right x.sixes b.value b.right.1);
      }

  unfoldable pub EntryRight : Offer → Entry → Type 0
  EntryRight o x = (service_of s o ≡ service x) × (target_name s o ≡ name_of x) × (target_ech s o ≡ seal_of x)

  pub entry-back : (p : ℕ) (x : Entry) → FitsEntry x → There s p (entry_bytes x) → Back (offer s p) (p + length (entry_bytes x)) (λ o. EntryRight o x)
  unfolding offer entry_bytes EntryRight EchRight FoursRight SixesRight service_of service target_name target_ech
  entry-back p x ok t =
      let a = head-back p x ok (there-left s p (head_bytes x) (way_bytes x ++ hints_bytes x) t) in
      let q = p + length (head_bytes x) in
      let t1 = there-right s p (head_bytes x) (way_bytes x ++ hints_bytes x) t in
      let b = way_back q x ok (there-left s q (way_bytes x) (hints_bytes x) t1) in
      let r = q + length (way_bytes x) in
      let c = hints-back r x ok (there-right s q (way_bytes x) (hints_bytes x) t1) in
      let end = r + length (hints_bytes x) in
      let e : end ≡ p + length (head_bytes x ++ (way_bytes x ++ hints_bytes x)) = omega (arith, length-append (head_bytes x) (way_bytes x ++ hints_bytes x), length-append (way_bytes x) (hints_bytes x)) in
      let w : Offer = record { head = a.value; way = b.value; hints = c.value } in
      record {
        value = w;
        reads =
            ap (read w) (sym e)
            ∙ went_on (λ u end. read (record { head = a.value; way = b.value; hints = u }) end) c.value end c.reads
            ∙ went_on (λ u q. next (hints s q) (λ v end. read (record { head = a.value; way = u; hints = v }) end)) b.value r b.reads
            ∙ went_on (λ u q. next (way s q) (λ v q. next (hints s q) (λ w end. read (record { head = u; way = v; hints = w }) end))) a.value q a.reads;
        right = (
          (λ j. record {
            priority = a.right.0 j;
            name = 0;
            ech = b.right.1.0 j;
            versions = a.right.2 j;
            port = b.right.0 j;
            n4 = (c.right.0 j).count;
            v4 = (c.right.0 j).list;
            n6 = (c.right.1 j).count;
            v6 = (c.right.1 j).list;
          }),
          ap name_in a.right.1,
          b.right.1.1,
        );
      }

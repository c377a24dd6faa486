-- A body that is written is never refused: reading gives back what was written, and ends where the body ends.
--     read_back
use mathlib.Core.Path.{◌≡◌, refl, sym, ap, subst, ◌∙◌}
use mathlib.Core.Bool.{Bool, true, false}
use mathlib.Core.List.{List, [], ◌++◌, map, map-id}
use Prim.Native.Nat.{ℕ, ◌+◌, ◌%◌, ◌^◌, ◌<◌}
use native.Mathlib.Omega.{arith}
use lib.Dec.{eqb as nat_eq}
use lib.ListN.{length, length-append}
use Rattle.numbers.specs.Got.{got}
use Rattle.numbers.specs.Fields.{bytes_at}
use Rattle.numbers.specs.Numbers.{number_bytes}
use Rattle.numbers.specs.Refusals.{out_of_range, too_many}
use Rattle.records.specs.Lists.{padded}
use Rattle.records.specs.Numbers.{input_kind}
use Rattle.records.specs.Names.{no_name, no_ech}
use Rattle.records.specs.Queries.{no_addr, no_addresses}
use Rattle.records.specs.Services.{no_service}
use Rattle.records.specs.declared.queries.Addr.{Addr}
use Rattle.records.specs.declared.queries.Kind.{Kind}
use Rattle.records.specs.declared.queries.Kind.TheVariants.{Https, Aaaa, A}
use Rattle.input.specs.declared.Input.TheVariants as input
use Rattle.parts.specs.Reading.{read, next, field}
use Rattle.parts.specs.Items.{listed}
use Rattle.parts.specs.Addresses.{address, addresses_in}
use Rattle.parts.specs.Rooms.{kept, ech_in}
use Rattle.parts.specs.declared.address.Form.TheVariants.{Four, Scoped}
use Rattle.parts.specs.declared.address.Items.{Items}
use Rattle.parts.proofs.Steps.{went_on, on-field}
use Rattle.offers.specs.Offers.{offer, service_of, target_name, target_ech, brought, no_offered, offered_in}
use Rattle.bodies.specs.Events.{items_at, answer_at, retry_at, rest_at, input_at, kind_at, body_at}
use Rattle.bodies.specs.Told.{Told, fed, beside_of, told_by, read_body}
use Rattle.bodies.specs.declared.Event.{Event}
use Rattle.bodies.specs.declared.Event.TheVariants as event
use Rattle.bodies.proofs.EventLaws.{some-kind, a_call, an-input, answer-fails, answer-holds, all_read, body-told}
use Rattle.parts.specs.Written.{FitsAddr, bit, row_bytes, scoped_bytes, word_bytes, four_addr}
use Rattle.written.specs.Written.{Entry, Sent, call, failed, scoped, fours, entries, success, failure, retry, written, Fits, FitsEntry, told, entry_bytes, service, name_of, seal_of, offering, beside}
use Rattle.parts.proofs.Back.{append-none, There, there-all, there-left, there-right, number-back, most-back, limited-back, bytes_back, Each, each-length, each_map, counted_back}
use Rattle.parts.proofs.FieldBack.{kept_back}
use Rattle.parts.proofs.AddressBack.{four-back, scoped-back}
use Rattle.written.proofs.EntryBack.{EntryRight, entry-back}

-- what is read of the whole body
module _ (s : List ℕ) (e : Event) (v : Told) where
  whole_back : read e (length s) ≡ body_at s → told_by s e ≡ v → read_body s ≡ read v (length s)
  whole_back b t = sym (body-told s e (length s) (all_read s e (length s) b (omega arith))) ∙ ap (λ u. read u (length s)) t

-- kind and id
abbrev body_of : (k id : ℕ) → List ℕ → List ℕ
body_of k id rest = number_bytes k ++ (number_bytes id ++ rest)

abbrev place_of : (k id : ℕ) → ℕ
place_of k id = 0 + length (number_bytes k) + length (number_bytes id)

module _ (k id : ℕ) (rest : List ℕ) (low : 0 < k) (high : k < 7) (small : id < 2 ^ 64) where
  abbrev body : List ℕ
  body = body_of k id rest

  kind-there : got k (0 + length (number_bytes k)) ≡ kind_at body
  kind-there = some-kind body k (0 + length (number_bytes k)) (most-back body 0 7 out_of_range k (omega arith) (omega arith) (there-left body 0 (number_bytes k) (number_bytes id ++ rest) (there-all body))) (λ z. omega arith)

  rest-there : There body (place_of k id) rest
  rest-there = there-right body (0 + length (number_bytes k)) (number_bytes id) rest (there-right body 0 (number_bytes k) (number_bytes id ++ rest) (there-all body))

  body_back : rest_at body k id (place_of k id) ≡ body_at body
  unfolding input_at
  body_back =
      let q = 0 + length (number_bytes k) in
      let t = there-right body 0 (number_bytes k) (number_bytes id ++ rest) (there-all body) in
      went_on (λ id q. rest_at body k id q) id (q + length (number_bytes id)) (on-field q (number-back body q id small (there-left body q (number_bytes id) rest t)))
      ∙ an-input body k q kind-there (λ z. omega arith)

  body_end : place_of k id + length rest ≡ length body
  body_end = omega (arith, length-append (number_bytes k) (number_bytes id ++ rest), length-append (number_bytes id) rest)

kind-low : (k : Kind) → 0 < input_kind k
kind-low Https = omega arith
kind-low Aaaa = omega arith
kind-low A = omega arith

kind-high : (k : Kind) → input_kind k < 7
kind-high Https = omega arith
kind-high Aaaa = omega arith
kind-high A = omega arith

kind-answer : (k : Kind) (s : List ℕ) (id p : ℕ) → answer_at k s id p ≡ rest_at s (input_kind k) id p
unfolding rest_at
kind-answer Https s id p = refl
kind-answer Aaaa s id p = refl
kind-answer A s id p = refl

bit-small : (b : Bool) → bit b < 2
bit-small true = omega arith
bit-small false = omega arith

held-bit : (b : Bool) → nat_eq (bit b % 2) 1 ≡ b
held-bit true = refl
held-bit false = refl

failed-bit : (b : Bool) → nat_eq ((bit b + 2) % 2) 1 ≡ b
failed-bit true = refl
failed-bit false = refl

-- answers
module _ (k : Kind) (id : ℕ) (small : id < 2 ^ 64) (stale : Bool) where
  abbrev failing : List ℕ
  failing = body_of (input_kind k) id (number_bytes (bit stale + 2))

  fails-back : read (event.Fails k id stale) (length failing) ≡ body_at failing
  fails-back =
      let n = number_bytes (bit stale + 2) in
      let q = place_of (input_kind k) id in
      let h = bit-small stale in
      let e = most-back failing q 3 out_of_range (bit stale + 2) (omega arith) (omega arith) (rest-there (input_kind k) id n (kind-low k) (kind-high k) small) in
      ap (λ b. read (event.Fails k id b) (length failing)) (sym (failed-bit stale))
      ∙ ap (read (event.Fails k id (nat_eq ((bit stale + 2) % 2) 1))) (sym (body_end (input_kind k) id n (kind-low k) (kind-high k) small))
      ∙ answer-fails k failing id q (bit stale + 2) (q + length n) e (omega arith)
      ∙ kind-answer k failing id q
      ∙ body_back (input_kind k) id n (kind-low k) (kind-high k) small

  module _ (row : List ℕ) where
    abbrev flagged : List ℕ
    flagged = number_bytes (bit stale) ++ row

    abbrev holding : List ℕ
    holding = body_of (input_kind k) id flagged

    abbrev row_place : ℕ
    row_place = place_of (input_kind k) id + length (number_bytes (bit stale))

    row-there : There holding row_place row
    row-there = there-right holding (place_of (input_kind k) id) (number_bytes (bit stale)) row (rest-there (input_kind k) id flagged (kind-low k) (kind-high k) small)

    holds-back : (it : Items) → read it (row_place + length row) ≡ items_at k holding row_place → read (event.Holds k id stale it) (length holding) ≡ body_at holding
    holds-back it b =
        let q = place_of (input_kind k) id in
        let n = number_bytes (bit stale) in
        let h = bit-small stale in
        let t = rest-there (input_kind k) id flagged (kind-low k) (kind-high k) small in
        let e = most-back holding q 3 out_of_range (bit stale) (omega arith) (omega arith) (there-left holding q n row t) in
        let l : row_place + length row ≡ length holding = omega (arith, length-append n row, body_end (input_kind k) id flagged (kind-low k) (kind-high k) small) in
        ap (λ b. read (event.Holds k id b it) (length holding)) (sym (held-bit stale))
        ∙ ap (read (event.Holds k id (nat_eq (bit stale % 2) 1) it)) (sym l)
        ∙ went_on (λ l end. read (event.Holds k id (nat_eq (bit stale % 2) 1) l) end) it (row_place + length row) b
        ∙ answer-holds k holding id q (bit stale) row_place e (omega arith)
        ∙ kind-answer k holding id q
        ∙ body_back (input_kind k) id flagged (kind-low k) (kind-high k) small

same-list : {A : Type 0} (vs l : List A) → Each (λ a x. a ≡ x) vs l → vs ≡ l
same-list vs l e = sym (map-id vs) ∙ each_map (λ a x. a ≡ x) (λ a. a) (λ x. x) (λ a x h. h) vs l e ∙ map-id l

-- each event
scoped-told : (s : List ℕ) (id : ℕ) (stale : Bool) (l : List Addr) (it : Items) → it.count ≡ length l → listed 8 (address Scoped s) it ≡ l
    → told_by s (event.Holds Aaaa id stale it) ≡ told (scoped id stale l)
unfolding beside_of addresses_in
scoped-told s id stale l it n m = λ j. fed (input.Holds Aaaa id stale (n j)) (beside (record { list = padded 8 no_addr (m j) }) no_offered no_ech)

fours-told : (s : List ℕ) (id : ℕ) (stale : Bool) (l : List ℕ) (it : Items) → it.count ≡ length l → listed 8 (address Four s) it ≡ map four_addr l
    → told_by s (event.Holds A id stale it) ≡ told (fours id stale l)
unfolding beside_of addresses_in
fours-told s id stale l it n m = λ j. fed (input.Holds A id stale (n j)) (beside (record { list = padded 8 no_addr (m j) }) no_offered no_ech)

scoped-read : (id : ℕ) (stale : Bool) (l : List Addr) → Fits (scoped id stale l) → read_body (written (scoped id stale l)) ≡ read (told (scoped id stale l)) (length (written (scoped id stale l)))
scoped-read id stale l ok =
    let row = row_bytes scoped_bytes l in
    let s = written (scoped id stale l) in
    let b = counted_back (λ a x. a ≡ x) (address Scoped s) s scoped_bytes FitsAddr (λ p x h t. record { value = x; reads = scoped-back s p x h t; right = refl })
    8 l (row_place Aaaa id ok.0 stale row) ok.1 (omega arith) ok.2 (row-there Aaaa id ok.0 stale row) in
    whole_back s (event.Holds Aaaa id stale b.value) (told (scoped id stale l)) (holds-back Aaaa id ok.0 stale row b.value b.reads)
    (scoped-told s id stale l b.value b.right.0 (same-list (listed 8 (address Scoped s) b.value) l b.right.1))

fours-read : (id : ℕ) (stale : Bool) (l : List ℕ) → Fits (fours id stale l) → read_body (written (fours id stale l)) ≡ read (told (fours id stale l)) (length (written (fours id stale l)))
fours-read id stale l ok =
    let row = row_bytes word_bytes l in
    let s = written (fours id stale l) in
    let b = counted_back (λ a x. a ≡ four_addr x) (address Four s) s word_bytes (λ a. a < 2 ^ 32) (λ p x h t. record { value = four_addr x; reads = four-back s p x h t; right = refl })
    8 l (row_place A id ok.0 stale row) ok.1 (omega arith) ok.2 (row-there A id ok.0 stale row) in
    let m = sym (map-id (listed 8 (address Four s) b.value)) ∙ each_map (λ a x. a ≡ four_addr x) (λ a. a) four_addr (λ a x h. h) (listed 8 (address Four s) b.value) l b.right.1 in
    whole_back s (event.Holds A id stale b.value) (told (fours id stale l)) (holds-back A id ok.0 stale row b.value b.reads) (fours-told s id stale l b.value b.right.0 m)

offered-right : (s : List ℕ) (l : List Entry) (it : Items) → Each (EntryRight s) (listed 4 (offer s) it) l → offered_in s it ≡ offering l
unfolding offered_in brought offering EntryRight
offered-right s l it e =
    let n = each-length (EntryRight s) (listed 4 (offer s) it) l e in
    let a = each_map (EntryRight s) (service_of s) service (λ o x h. h.0) (listed 4 (offer s) it) l e in
    let b = each_map (EntryRight s) (target_name s) name_of (λ o x h. h.1) (listed 4 (offer s) it) l e in
    let c = each_map (EntryRight s) (target_ech s) seal_of (λ o x h. h.2) (listed 4 (offer s) it) l e in
    λ j. record {
      services = record { count = n j; list = padded 4 no_service (a j) };
      names = record { list = padded 4 no_name (b j) };
      echs = record { list = padded 4 no_ech (c j) };
    }

entries-told : (s : List ℕ) (id : ℕ) (stale : Bool) (l : List Entry) (it : Items) → offered_in s it ≡ offering l → told_by s (event.Holds Https id stale it) ≡ told (entries id stale l)
unfolding beside_of
entries-told s id stale l it e = λ j. fed (input.Holds Https id stale 0) (beside no_addresses (e j) no_ech)

entries-read : (id : ℕ) (stale : Bool) (l : List Entry) → Fits (entries id stale l) → read_body (written (entries id stale l)) ≡ read (told (entries id stale l)) (length (written (entries id stale l)))
entries-read id stale l ok =
    let row = row_bytes entry_bytes l in
    let s = written (entries id stale l) in
    let b = counted_back (EntryRight s) (offer s) s entry_bytes FitsEntry (entry-back s)
    4 l (row_place Https id ok.0 stale row) ok.1 (omega arith) ok.2 (row-there Https id ok.0 stale row) in
    whole_back s (event.Holds Https id stale b.value) (told (entries id stale l)) (holds-back Https id ok.0 stale row b.value b.reads)
    (entries-told s id stale l b.value (offered-right s l b.value b.right.1))

-- a result has nothing after its id
module _ (k id : ℕ) (low : 0 < k) (high : k < 7) (small : id < 2 ^ 64) (e : Event) (v : Told) where
  bare-read : ((s : List ℕ) (p : ℕ) → read e p ≡ rest_at s k id p) → ((s : List ℕ) → told_by s e ≡ v)
      → read_body (number_bytes k ++ number_bytes id) ≡ read v (length (number_bytes k ++ number_bytes id))
  bare-read r t =
      let s = body_of k id [] in
      let n : place_of k id ≡ length s = let h = body_end k id [] low high small in omega (arith, h) in
      subst (λ l. read_body (number_bytes k ++ l) ≡ read v (length (number_bytes k ++ l))) (sym (append-none (number_bytes id)))
      (whole_back s e v (ap (read e) (sym n) ∙ r s (place_of k id) ∙ body_back k id [] low high small) (t s))

success-rest : (id : ℕ) (s : List ℕ) (p : ℕ) → read (event.Success id) p ≡ rest_at s 4 id p
unfolding rest_at
success-rest id s p = refl

failure-rest : (id : ℕ) (s : List ℕ) (p : ℕ) → read (event.Failure id) p ≡ rest_at s 5 id p
unfolding rest_at
failure-rest id s p = refl

retry-rest : (id : ℕ) (s : List ℕ) (p : ℕ) → retry_at s id p ≡ rest_at s 6 id p
unfolding rest_at
retry-rest id s p = refl

retry-told : (s : List ℕ) (id : ℕ) (bs : List ℕ) (p : ℕ) → kept 512 s (record { start = p; len = length bs }) ≡ bs
    → told_by s (event.EchRetry id (record { start = p; len = length bs })) ≡ told (retry id bs)
unfolding beside_of
retry-told s id bs p e = λ j. fed (input.EchRetry id) (beside no_addresses no_offered (ech_in (e j)))

retry-read : (id : ℕ) (bs : List ℕ) → Fits (retry id bs) → read_body (written (retry id bs)) ≡ read (told (retry id bs)) (length (written (retry id bs)))
unfolding retry_at
retry-read id bs ok =
    let s = written (retry id bs) in
    let n = number_bytes (length bs) in
    let q = place_of 6 id in
    let t = rest-there 6 id (n ++ bs) (omega arith) (omega arith) ok.0 in
    let u = there-right s q n bs t in
    let a = limited-back s q 512 too_many (length bs) ok.1 (omega arith) (there-left s q n bs t) in
    let b = on-field (q + length n) (bytes_back s (q + length n) bs u) in
    let e = event.EchRetry id (record { start = q + length n; len = length bs }) in
    let l : q + length n + length bs ≡ length s = omega (arith, length-append n bs, body_end 6 id (n ++ bs) (omega arith) (omega arith) ok.0) in
    whole_back s e (told (retry id bs))
    (ap (read e) (sym l)
    ∙ went_on (λ b end. read (event.EchRetry id b) end) (record { start = q + length n; len = length bs }) (q + length n + length bs) b
    ∙ went_on (λ n q. next (field q (bytes_at s n q)) (λ b end. read (event.EchRetry id b) end)) (length bs) (q + length n) a
    ∙ retry-rest id s q
    ∙ body_back 6 id (n ++ bs) (omega arith) (omega arith) ok.0)
    (retry-told s id bs (q + length n) (kept_back s 512 (q + length n) bs ok.1 u))

fails-told : (s : List ℕ) (k : Kind) (id : ℕ) (stale : Bool) → told_by s (event.Fails k id stale) ≡ told (failed k id stale)
unfolding beside_of
fails-told s k id stale = refl

success-told : (id : ℕ) (s : List ℕ) → told_by s (event.Success id) ≡ told (success id)
unfolding beside_of
success-told id s = refl

failure-told : (id : ℕ) (s : List ℕ) → told_by s (event.Failure id) ≡ told (failure id)
unfolding beside_of
failure-told id s = refl

call-read : read_body (number_bytes 7) ≡ read (told call) (length (number_bytes 7))
call-read =
    let s = number_bytes 7 in
    let k = some-kind s 7 (0 + length s) (most-back s 0 7 out_of_range 7 (omega arith) (omega arith) (there-all s)) (λ z. omega arith) in
    let n : 0 + length s ≡ length s = omega arith in
    whole_back s event.Call (told call) (ap (read event.Call) (sym n) ∙ a_call s 7 (0 + length s) k refl) refl

pub read_back : (v : Sent) → Fits v → read_body (written v) ≡ read (told v) (length (written v))
read_back call ok = call-read
read_back (failed k id stale) ok = whole_back (written (failed k id stale)) (event.Fails k id stale) (told (failed k id stale)) (fails-back k id ok stale) (fails-told (written (failed k id stale)) k id stale)
read_back (scoped id stale l) ok = scoped-read id stale l ok
read_back (fours id stale l) ok = fours-read id stale l ok
read_back (entries id stale l) ok = entries-read id stale l ok
read_back (success id) ok = bare-read 4 id (omega arith) (omega arith) ok (event.Success id) (told (success id)) (success-rest id) (success-told id)
read_back (failure id) ok = bare-read 5 id (omega arith) (omega arith) ok (event.Failure id) (told (failure id)) (failure-rest id) (failure-told id)
read_back (retry id bs) ok = retry-read id bs ok

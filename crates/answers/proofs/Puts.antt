-- What the writer hands over is what the answer says.
--     name_taken, ech_taken           the part of a room that was lent; name_inside, ech_inside: it is one
--     query_parts                     a query's parts are its fields' bytes; four_put, six_put, host_put: an attempt's
--     four_bytes, eight_bytes         an address, the highest byte first
--     unsealed_put, sealed_put        an attempt with the ECH bytes of its place; host_said, rooms_said: with the names that its host comes from
--     full_put, in_table              an output that is two numbers; a place, if it is one of the table: nothing cites these now, and docs/PORT.md names them
use mathlib.Core.Path.{◌≡◌, refl, sym, ap, ◌∙◌}
use mathlib.Core.Bool.{Bool, true, false, cond, ◌&&◌}
use mathlib.Core.List.{List, [], ◌∷◌, ◌++◌}
use Prim.Native.Nat.{ℕ, zero, suc, ◌+◌, ◌/◌, ◌≤◌, ◌<◌}
use native.Mathlib.Omega.{arith}
use lib.ListN.{length, take, length-take}
use lib.Dec.{eqb as nat_eq, ltb as nat_lt}
use borrow.Author.Tests.{lt-ltb}
use Rattle.numbers.specs.Names.{dot, undotted}
use Rattle.records.specs.Names.{name_bytes, ech_bytes, connect_name}
use Rattle.records.specs.Numbers.{kind_number, rank_number}
use Rattle.records.specs.declared.names.Name.{Name}
use Rattle.records.specs.declared.names.Ech.{Ech}
use Rattle.records.specs.declared.queries.Kind.{Kind}
use Rattle.records.specs.declared.names.EchPlace.TheVariants.{Without, At}
use Rattle.records.specs.declared.endpoints.Target.{Target}
use Rattle.records.specs.declared.endpoints.Target.TheVariants.{V4, V6, Named}
use Rattle.records.specs.declared.endpoints.Endpoint.{Endpoint}
use Rattle.machine.specs.declared.grant.Table.{Table}
use Rattle.machine.specs.declared.grant.Output.{Output}
use Rattle.machine.specs.declared.grant.Output.TheVariants as output
use Rattle.answers.specs.Answers.{query, attempt, number, raw, bit, table_number, high_first, target_fields, joined, answer_bytes}
use Rattle.answers.specs.Outputs.{said_target, said_endpoint, said_by}
use Rattle.answers.specs.Parts.{numbers_bytes, parts_bytes, attempt_bytes}
use Rattle.std.specs.Int.{w32, w64, to_be_bytes}
use Rattle.answers.proofs.Joined.{numbers-fields, parts}

taken : (k : ℕ) (x : List ℕ) → take (length (take k x)) x ≡ take k x
taken zero x = refl
taken (suc k) [] = refl
taken (suc k) (b ∷ x) = ap (λ (y : List ℕ). b ∷ y) (taken k x)

pub name_taken : (name : Name) {n : ℕ} → n ≡ length (name_bytes name) → take n name.bytes ≡ name_bytes name
unfolding name_bytes
name_taken name e = rw e (taken name.len name.bytes)

pub ech_taken : (ech : Ech) {n : ℕ} → n ≡ length (ech_bytes ech) → take n ech.bytes ≡ ech_bytes ech
unfolding ech_bytes
ech_taken ech e = rw e (taken ech.len ech.bytes)

pub name_inside : (name : Name) {n : ℕ} → n ≡ length (name_bytes name) → n ≤ length name.bytes
unfolding name_bytes
name_inside name e = let l = length-take name.len name.bytes in omega arith

pub ech_inside : (ech : Ech) {n : ℕ} → n ≡ length (ech_bytes ech) → n ≤ length ech.bytes
unfolding ech_bytes
ech_inside ech e = let l = length-take ech.len ech.bytes in omega arith

pub query_parts : (id : ℕ) (kind : Kind) (stale : Bool) (name : List ℕ)
    → answer_bytes (query id kind stale name) ≡ parts_bytes (1 ∷ id ∷ kind_number kind ∷ bit stale ∷ length name ∷ []) name [] []
unfolding answer_bytes joined
query_parts id kind stale name = parts (1 ∷ id ∷ kind_number kind ∷ bit stale ∷ length name ∷ []) name [] []

-- an address, the highest byte first
pub four_bytes : (x : ℕ) → to_be_bytes w32 x ≡ high_first 4 x
unfolding high_first
four_bytes x =
    let a : x / 256 / 256 ≡ x / 65536 = omega arith in
    let b : x / 65536 / 256 ≡ x / 16777216 = omega arith in
    rw (a, b) refl

pub eight_bytes : (x : ℕ) → to_be_bytes w64 x ≡ high_first 8 x
unfolding high_first
eight_bytes x =
    let a : x / 256 / 256 ≡ x / 65536 = omega arith in
    let b : x / 65536 / 256 ≡ x / 16777216 = omega arith in
    let d : x / 16777216 / 256 ≡ x / 4294967296 = omega arith in
    let e : x / 4294967296 / 256 ≡ x / 1099511627776 = omega arith in
    let f : x / 1099511627776 / 256 ≡ x / 281474976710656 = omega arith in
    let g : x / 281474976710656 / 256 ≡ x / 72057594037927936 = omega arith in
    rw (a, b, d, e, f, g) refl

module _ (id : ℕ) (retry : Bool) (e : Endpoint) (host : List ℕ) (sealed : ℕ) (ech : List ℕ) {b k : ℕ} (again : b ≡ bit retry) (ranked : k ≡ rank_number e.rank) where
  pub four_put : {x : ℕ} {address : List ℕ} → e.target ≡ V4 x → address ≡ to_be_bytes w32 x
      → parts_bytes (3 ∷ id ∷ b ∷ k ∷ 0 ∷ []) address (e.port ∷ sealed ∷ []) ech ≡ attempt_bytes id retry e host sealed ech
  unfolding attempt_bytes high_first
  four_put {x} t a =
      let f = a ∙ four_bytes x in
      rw (again, ranked, f, t) (sym (parts (3 ∷ id ∷ bit retry ∷ rank_number e.rank ∷ 0 ∷ []) (high_first 4 x) (e.port ∷ sealed ∷ []) ech))

  pub six_put : {h l scope : ℕ} {address : List ℕ} → e.target ≡ V6 h l scope → address ≡ high_first 8 h ++ high_first 8 l
      → parts_bytes (3 ∷ id ∷ b ∷ k ∷ 1 ∷ []) address (scope ∷ e.port ∷ sealed ∷ []) ech ≡ attempt_bytes id retry e host sealed ech
  unfolding attempt_bytes
  six_put {h} {l} {scope} t a =
      rw (again, ranked, a, t) (sym (parts (3 ∷ id ∷ bit retry ∷ rank_number e.rank ∷ 1 ∷ []) (high_first 8 h ++ high_first 8 l) (scope ∷ e.port ∷ sealed ∷ []) ech))

  pub host_put : {p : ℕ} → e.target ≡ Named p
      → parts_bytes (3 ∷ id ∷ b ∷ k ∷ 2 ∷ length host ∷ []) host (e.port ∷ sealed ∷ []) ech ≡ attempt_bytes id retry e host sealed ech
  unfolding attempt_bytes
  host_put t =
      rw (again, ranked, t) (sym (parts (3 ∷ id ∷ bit retry ∷ rank_number e.rank ∷ 2 ∷ length host ∷ []) host (e.port ∷ sealed ∷ []) ech))

-- no ECH bytes after their number are none
no_more : (id : ℕ) (retry : Bool) (e : Endpoint) (host : List ℕ) (t : Target)
    → joined (number 3 ∷ number id ∷ number (bit retry) ∷ number (rank_number e.rank) ∷ (target_fields (said_target host t) ++ (number e.port ∷ number 0 ∷ raw [] ∷ [])))
    ≡ joined (number 3 ∷ number id ∷ number (bit retry) ∷ number (rank_number e.rank) ∷ (target_fields (said_target host t) ++ (number e.port ∷ number 0 ∷ [])))
unfolding joined
no_more id retry e host (V4 x) = refl
no_more id retry e host (V6 h l s) = refl
no_more id retry e host (Named p) = refl

-- with the ECH bytes of its place, if it has one
module _ (id : ℕ) (retry : Bool) (e : Endpoint) (host ech : List ℕ) where
  pub unsealed_put : e.ech ≡ Without → attempt_bytes id retry e host 0 [] ≡ answer_bytes (attempt id retry (said_endpoint host ech e))
  unfolding attempt_bytes answer_bytes
  unsealed_put w = rw w (no_more id retry e host e.target)

  pub sealed_put : {p n : ℕ} → e.ech ≡ At p → n ≡ length ech + 1 → attempt_bytes id retry e host n ech ≡ answer_bytes (attempt id retry (said_endpoint host ech e))
  unfolding attempt_bytes answer_bytes
  sealed_put w m = rw (w, m) refl

-- the host that a by-name endpoint connects to
undotted-few : (s : List ℕ) → length (undotted s) ≤ length s
unfolding undotted
undotted-few [] = omega arith
undotted-few (b ∷ s) = either (nat_eq b dot && nat_eq (length s) 0) (undotted-few s)
  where
    either : (t : Bool) → length (undotted s) ≤ length s → length (cond t [] (b ∷ undotted s)) ≤ length (b ∷ s)
    either true h = omega arith
    either false h = omega arith

pub connect_few : (origin own : List ℕ) → length origin ≤ 253 → length own ≤ 253 → length (connect_name origin own) ≤ 253
unfolding connect_name
connect_few origin own h k = either (nat_eq (length (undotted own)) 0)
  where
    either : (t : Bool) → length (cond t (undotted origin) (undotted own)) ≤ 253
    either true = let l = undotted-few origin in omega arith
    either false = let l = undotted-few own in omega arith

pub host_few : (n m : ℕ) (x y : List ℕ) {h : List ℕ} → length x ≡ 253 → length y ≡ 253 → h ≡ connect_name (take n x) (take m y) → length h ≤ 253
host_few n m x y a b e =
    let l = ap length e in
    let k = connect_few (take n x) (take m y) (let t = length-take n x in omega arith) (let t = length-take m y in omega arith) in
    omega arith

pub host_said : (id : ℕ) (retry : Bool) (e : Endpoint) (ech : List ℕ) {h k : List ℕ} → h ≡ k
    → answer_bytes (attempt id retry (said_endpoint h ech e)) ≡ answer_bytes (attempt id retry (said_endpoint k ech e))
host_said id retry e ech s = ap (λ x. answer_bytes (attempt id retry (said_endpoint x ech e))) s

-- an attempt with the parts of three rooms that were lent
pub rooms_said : (id : ℕ) (retry : Bool) (e : Endpoint) (origin own : Name) (ech : Ech) (n m k : ℕ) → n ≡ length (name_bytes origin) → m ≡ length (name_bytes own) → k ≡ length (ech_bytes ech)
    → answer_bytes (attempt id retry (said_endpoint (connect_name (take n origin.bytes) (take m own.bytes)) (take k ech.bytes) e))
    ≡ answer_bytes (attempt id retry (said_endpoint (connect_name (name_bytes origin) (name_bytes own)) (ech_bytes ech) e))
rooms_said id retry e origin own ech n m k f g h =
    ap (λ x. answer_bytes (attempt id retry (said_endpoint (connect_name x (take m own.bytes)) (take k ech.bytes) e))) (name_taken origin f)
    ∙ ap (λ x. answer_bytes (attempt id retry (said_endpoint (connect_name (name_bytes origin) x) (take k ech.bytes) e))) (name_taken own g)
    ∙ ap (λ x. answer_bytes (attempt id retry (said_endpoint (connect_name (name_bytes origin) (name_bytes own)) x e))) (ech_taken ech h)

-- an output that is two numbers
module _ (origin name ech : List ℕ) {o : Output} where
  pub full_put : {x : Table} {n : ℕ} → o ≡ output.Full x → n ≡ table_number x → numbers_bytes (7 ∷ n ∷ []) ≡ answer_bytes (said_by origin name ech o)
  unfolding answer_bytes
  full_put {x} t e = rw (t, e) (sym (numbers-fields (7 ∷ table_number x ∷ [])))

-- a place, if it is one of the table
pub in_table : (size : ℕ) {p q : ℕ} → p ≡ q → p < size → p ≡ cond (nat_lt q size) q 0
in_table size {p} {q} e h = simp (lt-ltb q size (omega arith)) e

-- Input bodies and the call, rules B.1, B.5 and B.7: what a body says, with its items and bytes where they stand.
use Rattle.std.specs.Prelude.{cond, ℕ, ◌%◌, List, Result, Ok, Err, nat_lt, nat_le, nat_eq, length}
use Rattle.numbers.specs.Got.{Got, got, refused, and_then}
use Rattle.numbers.specs.Fields.{at_most, bytes_at}
use Rattle.numbers.specs.Numbers.{read_number}
use Rattle.numbers.specs.Refusals.{out_of_range, too_many, trailing, refusal_number}
use Rattle.records.specs.declared.queries.Kind.{Kind}
use Rattle.records.specs.declared.queries.Kind.TheVariants.{Https, Aaaa, A}
use Rattle.parts.specs.Reading.{Reading, read, fault, next, field}
use Rattle.parts.specs.Items.{counted}
use Rattle.parts.specs.Addresses.{address}
use Rattle.parts.specs.declared.address.Form.TheVariants.{Four, Scoped}
use Rattle.parts.specs.declared.address.Items.{Items}
use Rattle.parts.specs.declared.reading.Fault as found
use Rattle.offers.specs.Offers.{offer}
use Rattle.bodies.specs.declared.Event.{Event}
use Rattle.bodies.specs.declared.Event.TheVariants as event

-- the items of an answer: at most 8 addresses, with a scope in an AAAA answer, or at most 4 services
abbrev pub items_at : Kind → List ℕ → (p : ℕ) → Reading Items
items_at Https s p = counted 4 (offer s) s p
items_at Aaaa s p = counted 8 (address Scoped s) s p
items_at A s p = counted 8 (address Four s) s p

-- flags, of which bit 0 is stale and bit 1 failed; a failed answer ends there
unfoldable pub answer_at : Kind → List ℕ → (id p : ℕ) → Reading Event
answer_at k s id p = next (field p (at_most 3 out_of_range (read_number s p))) (λ flags q.
    cond (nat_le 2 flags) (read (event.Fails k id (nat_eq (flags % 2) 1)) q) (next (items_at k s q) (λ l end. read (event.Holds k id (nat_eq (flags % 2) 1) l) end)))

-- an ECH retry: length, bytes
unfoldable pub retry_at : List ℕ → (id p : ℕ) → Reading Event
retry_at s id p = next (field p (at_most 512 too_many (read_number s p))) (λ n q. next (field q (bytes_at s n q)) (λ b end. read (event.EchRetry id b) end))

-- what follows the id: 1 AAAA, 2 A, 3 HTTPS, 4 success, 5 failure, 6 ECH retry
unfoldable pub rest_at : List ℕ → (kind id p : ℕ) → Reading Event
rest_at s kind id p =
    cond (nat_eq kind 1) (answer_at Aaaa s id p)
    (cond (nat_eq kind 2) (answer_at A s id p)
    (cond (nat_eq kind 3) (answer_at Https s id p)
    (cond (nat_eq kind 4) (read (event.Success id) p)
    (cond (nat_eq kind 5) (read (event.Failure id) p) (retry_at s id p)))))

unfoldable pub input_at : List ℕ → (kind p : ℕ) → Reading Event
input_at s kind p = next (field p (read_number s p)) (λ id q. rest_at s kind id q)

-- 1 to 7
unfoldable pub kind_at : List ℕ → Got ℕ
kind_at s = and_then (at_most 7 out_of_range (read_number s 0)) (λ k q. cond (nat_eq k 0) (refused out_of_range) (got k q))

-- the call, 7, has no id
unfoldable pub body_at : List ℕ → Reading Event
body_at s = next (field 0 (kind_at s)) (λ kind q. cond (nat_eq kind 7) (read event.Call q) (input_at s kind q))

-- and nothing follows the last field
unfoldable pub event_at : List ℕ → Reading Event
event_at s = next (body_at s) (λ e end. cond (nat_lt end (length s)) (fault trailing end) (read e end))

-- the number of a first fault and the place of its field
pub record Fault : Type 0 where
  pub number : ℕ
  pub place : ℕ

-- the fault of what was read, and where; 0 where it has none
abbrev pub fault_of : {A : Type 0} → Reading A → Fault
fault_of (read v end) = record { number = 0; place = end }
fault_of (fault n p) = record { number = n; place = p }

-- what the code says of it: where the body ends, or its fault
abbrev pub fault_shown : Result ℕ found.Fault → Fault
fault_shown (Ok end) = record { number = 0; place = end }
fault_shown (Err e) = record { number = refusal_number e.refusal; place = e.place }

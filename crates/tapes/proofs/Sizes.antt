-- How long answers are: of one event, and of all events of a tape.
--     said-size        an output takes 11 bytes at most, and 782 more where it asks for something
--     step-size        for each byte of the event 265 at most; or 4, and 782 more where it asks for something
--     Sized, sized     the same of events one after the other
use Rattle.std.specs.Prelude.{Ok, Err}
use Prim.Native.Nat.{ℕ, zero, suc, ◌+◌, ◌*◌, ◌/◌, ◌%◌, ◌≤◌, ◌<◌}
use mathlib.Core.Path.{◌≡◌, refl, ap, ◌∙◌}
use mathlib.Core.Bool.{Bool, true, false, cond, ◌&&◌}
use mathlib.Core.Logic.{⊎_elim}
use mathlib.Core.List.{List, [], ◌∷◌, ◌++◌}
use native.Mathlib.Omega.{arith}
use lib.Dec.{eqb as nat_eq}
use lib.ListN.{length, length-append}
use Rattle.numbers.specs.Names.{dot, undotted}
use Rattle.numbers.specs.Numbers.{number_bytes, read_number, groups}
use Rattle.numbers.specs.Fields.{at_most}
use Rattle.numbers.specs.Refusals.{refusal_number}
use Rattle.numbers.specs.declared.refusal.Refusal.{Refusal}
use Rattle.numbers.specs.declared.refusal.Refusal.TheVariants.{Cut, BadNumber, OutOfRange, BadName, TooMany, Trailing, UnknownId, AlreadyAnswered, WrongType, StaleRefresh, EchNotSent, AlreadyEnded, NoRoom}
use Rattle.numbers.proofs.Cases.{less-or-not}
use Rattle.numbers.proofs.WriteLaws.{at-most-ten, shortest-last, shortest-suc}
use Rattle.records.specs.Names.{name_bytes_at, ech_bytes_at, connect_name}
use Rattle.records.specs.Numbers.{kind_number, rank_number}
use Rattle.records.specs.declared.names.EchPlace.{EchPlace}
use Rattle.records.specs.declared.names.EchPlace.TheVariants.{Without, At}
use Rattle.records.specs.declared.endpoints.Endpoint.{Endpoint}
use Rattle.records.specs.declared.endpoints.Rank.{Rank}
use Rattle.records.specs.declared.endpoints.Rank.TheVariants as rank
use Rattle.records.specs.declared.endpoints.Target.{Target}
use Rattle.records.specs.declared.endpoints.Target.TheVariants.{V4, V6, Named}
use Rattle.records.specs.declared.queries.Kind.{Kind}
use Rattle.records.specs.declared.queries.Kind.TheVariants.{Https, Aaaa, A}
use Rattle.state.specs.declared.Machine.{Machine}
use Rattle.machine.specs.Steps.{Taken, output_step, input_step}
use Rattle.input.specs.declared.Input.{Input}
use Rattle.machine.specs.declared.calls.Beside.{Beside}
use Rattle.machine.specs.declared.grant.Output.{Output}
use Rattle.machine.specs.declared.grant.Output.TheVariants as output
use Rattle.machine.specs.declared.grant.Table.{Table}
use Rattle.machine.specs.declared.grant.Table.TheVariants as table
use Rattle.machine.specs.declared.wish.Reason.{Reason}
use Rattle.machine.specs.declared.wish.Reason.TheVariants as reason
use Rattle.history.specs.History.{one}
use Rattle.answers.specs.Answers.{Said, input, Field, number, raw, bit, reason_number, table_number, high_first, target_fields, ech_fields, joined, answer_bytes}
use Rattle.answers.specs.Outputs.{said_target, said_ech, output_name, output_ech, said_of, taken_number}
use Rattle.parts.specs.Reading.{Reading, read, fault, next}
use Rattle.bodies.specs.Events.{kind_at, body_at, event_at}
use Rattle.bodies.specs.Told.{input_of, beside_of, told_by, read_body}
use Rattle.bodies.specs.declared.Event as body
use Rattle.written.proofs.Inside.{event-inside}
use Rattle.replay.specs.Replay.{step_by, step_of}
use Rattle.tapes.specs.Events.{Event}
use Rattle.tapes.specs.Answered.{said_to, in_bytes, asks, asks_among}
use Rattle.tapes.proofs.Places.{size, Rises}
use Rattle.tapes.proofs.Rooms.{told-cases, Fits, step_fits, name-few, ech-few}

-- numbers
one_byte : (n : ℕ) → n < 128 → length (number_bytes n) ≡ 1
unfolding number_bytes
one_byte n h = ap length (shortest-last 9 n h)

two_bytes : (n : ℕ) → n < 16384 → length (number_bytes n) ≤ 2
unfolding number_bytes
two_bytes n h =
    ⊎_elim (λ (l : n < 128). rw (shortest-last 9 n l) (omega arith))
    (λ (l : 128 ≤ n). let d : n / 128 < 128 = omega arith in rw (shortest-suc 8 n l, shortest-last 8 (n / 128) d) (omega arith))
    (less-or-not n 128)

-- fields
put-number : (n : ℕ) (l : List Field) → length (joined (number n ∷ l)) ≡ length (number_bytes n) + length (joined l)
unfolding joined
put-number n l = length-append (number_bytes n) (joined l)

put-raw : (x : List ℕ) (l : List Field) → length (joined (raw x ∷ l)) ≡ length x + length (joined l)
unfolding joined
put-raw x l = length-append x (joined l)

put-none : length (joined []) ≡ 0
unfolding joined
put-none = refl

put_both : (a b : List Field) → length (joined (a ++ b)) ≡ length (joined a) + length (joined b)
put_both [] b = omega (arith, put-none)
put_both (number n ∷ a) b = omega (arith, put-number n (a ++ b), put-number n a, put_both a b)
put_both (raw x ∷ a) b = omega (arith, put-raw x (a ++ b), put-raw x a, put_both a b)

high-length : (k n : ℕ) → length (high_first k n) ≡ k
unfolding high_first
high-length zero n = refl
high-length (suc k) n = omega (arith, length-append (high_first k (n / 256)) (n % 256 ∷ []), high-length k (n / 256))

-- small numbers
bit-small : (b : Bool) → bit b < 128
bit-small true = omega arith
bit-small false = omega arith

rank-small : (r : Rank) → rank_number r < 128
rank-small rank.H3 = omega arith
rank-small rank.H2OrH1 = omega arith
rank-small rank.H2 = omega arith
rank-small rank.H1 = omega arith

kind-small : (k : Kind) → kind_number k < 128
kind-small Https = omega arith
kind-small Aaaa = omega arith
kind-small A = omega arith

reason-small : (r : Reason) → reason_number r < 128
reason-small reason.Dns = omega arith
reason-small reason.Connection = omega arith

table-small : (t : Table) → table_number t < 128
table-small table.Queries = omega arith
table-small table.Attempts = omega arith

refusal-small : (e : Refusal) → refusal_number e < 128
refusal-small Cut = omega arith
refusal-small BadNumber = omega arith
refusal-small OutOfRange = omega arith
refusal-small BadName = omega arith
refusal-small TooMany = omega arith
refusal-small Trailing = omega arith
refusal-small UnknownId = omega arith
refusal-small AlreadyAnswered = omega arith
refusal-small WrongType = omega arith
refusal-small StaleRefresh = omega arith
refusal-small EchNotSent = omega arith
refusal-small AlreadyEnded = omega arith
refusal-small NoRoom = omega arith

taken-small : (t : Taken) → taken_number t < 128
taken-small (Ok tt) = omega arith
taken-small (Err e) = refusal-small e

-- a host is no longer than its name
undotted-few : (s : List ℕ) → length (undotted s) ≤ length s
unfolding undotted
undotted-few [] = omega arith
undotted-few (b ∷ s) = by (nat_eq b dot && nat_eq (length s) 0) (undotted-few s)
  where
    by : (t : Bool) → length (undotted s) ≤ length s → length (cond t [] (b ∷ undotted s)) ≤ length (b ∷ s)
    by true h = omega arith
    by false h = omega arith

host-few : (origin own : List ℕ) → length origin ≤ 253 → length own ≤ 253 → length (connect_name origin own) ≤ 253
unfolding connect_name
host-few origin own h k = by (nat_eq (length (undotted own)) 0)
  where
    by : (t : Bool) → length (cond t (undotted origin) (undotted own)) ≤ 253
    by true = omega (arith, undotted-few origin, h)
    by false = omega (arith, undotted-few own, k)

-- an attempt: its target takes 256 bytes at most, its ECH bytes 514
target-size : (name : List ℕ) (t : Target) → length name ≤ 253 → length (joined (target_fields (said_target name t))) ≤ 256
target-size name (V4 a) h = omega (arith, put-number 0 (raw (high_first 4 a) ∷ []), put-raw (high_first 4 a) [], put-none, one_byte 0 (omega arith), high-length 4 a)
target-size name (V6 a l s) h =
    omega (arith, put-number 1 (raw (high_first 8 a ++ high_first 8 l) ∷ number s ∷ []), put-raw (high_first 8 a ++ high_first 8 l) (number s ∷ []), put-number s [], put-none, one_byte 1 (omega arith), length-append (high_first 8 a) (high_first 8 l), high-length 8 a, high-length 8 l, at-most-ten s)
target-size name (Named p) h =
    omega (arith, put-number 2 (number (length name) ∷ raw name ∷ []), put-number (length name) (raw name ∷ []), put-raw name [], put-none, one_byte 2 (omega arith), two_bytes (length name) (omega arith), h)

ech-size : (x : List ℕ) (p : EchPlace) → length x ≤ 512 → length (joined (ech_fields (said_ech x p))) ≤ 514
ech-size x Without h = omega (arith, put-number 0 [], put-none, one_byte 0 (omega arith))
ech-size x (At p) h = omega (arith, put-number (length x + 1) (raw x ∷ []), put-raw x [], put-none, two_bytes (length x + 1) (omega arith), h)

attempt-size : (name x : List ℕ) (id : ℕ) (retry : Bool) (e : Endpoint) → length name ≤ 253 → length x ≤ 512
    → length (joined (number 3 ∷ number id ∷ number (bit retry) ∷ number (rank_number e.rank) ∷ (target_fields (said_target name e.target) ++ (number e.port ∷ ech_fields (said_ech x e.ech))))) ≤ 793
attempt-size name x id retry e h k =
    let tail = target_fields (said_target name e.target) ++ (number e.port ∷ ech_fields (said_ech x e.ech)) in
    omega (
      arith,
      put-number 3 (number id ∷ number (bit retry) ∷ number (rank_number e.rank) ∷ tail),
      put-number id (number (bit retry) ∷ number (rank_number e.rank) ∷ tail),
      put-number (bit retry) (number (rank_number e.rank) ∷ tail),
      put-number (rank_number e.rank) tail,
      put_both (target_fields (said_target name e.target)) (number e.port ∷ ech_fields (said_ech x e.ech)),
      put-number e.port (ech_fields (said_ech x e.ech)),
      one_byte 3 (omega arith),
      at-most-ten id,
      one_byte (bit retry) (bit-small retry),
      one_byte (rank_number e.rank) (rank-small e.rank),
      at-most-ten e.port,
      target-size name e.target h,
      ech-size x e.ech k,
    )

query-size : (name : List ℕ) (id : ℕ) (kind : Kind) (stale : Bool) → length name ≤ 253
    → length (joined (number 1 ∷ number id ∷ number (kind_number kind) ∷ number (bit stale) ∷ number (length name) ∷ raw name ∷ [])) ≤ 793
query-size name id kind stale h =
    omega (
      arith,
      put-number 1 (number id ∷ number (kind_number kind) ∷ number (bit stale) ∷ number (length name) ∷ raw name ∷ []),
      put-number id (number (kind_number kind) ∷ number (bit stale) ∷ number (length name) ∷ raw name ∷ []),
      put-number (kind_number kind) (number (bit stale) ∷ number (length name) ∷ raw name ∷ []),
      put-number (bit stale) (number (length name) ∷ raw name ∷ []),
      put-number (length name) (raw name ∷ []),
      put-raw name [],
      put-none,
      one_byte 1 (omega arith),
      at-most-ten id,
      one_byte (kind_number kind) (kind-small kind),
      one_byte (bit stale) (bit-small stale),
      two_bytes (length name) (omega arith),
      h,
    )

-- a number of one byte and one more
pair_size : (k n : ℕ) → k < 128 → length (joined (number k ∷ number n ∷ [])) ≤ 11
pair_size k n h = omega (arith, put-number k (number n ∷ []), put-number n [], put-none, one_byte k h, at-most-ten n)

lone-size : (k : ℕ) → k < 128 → length (joined (number k ∷ [])) ≡ 1
lone-size k h = omega (arith, put-number k [], put-none, one_byte k h)

input-size : (n : ℕ) → n < 128 → length (answer_bytes (input n)) ≡ 2
unfolding answer_bytes
input-size n h = omega (arith, put-number 8 (number n ∷ []), put-number n [], put-none, one_byte 8 (omega arith), one_byte n h)

-- an output
module _ (m : Machine) (h : Fits m) where
  said-size : (o : Output) → length (answer_bytes (said_of m.names m.echs o)) ≤ 11 + 782 * one (asks (said_of m.names m.echs o))
  unfolding answer_bytes said_of
  said-size output.Waiting = omega (arith, lone-size 0 (omega arith))
  said-size (output.Query id kind stale p) = query-size (name_bytes_at m.names (output_name (output.Query id kind stale p))) id kind stale (name-few m h (output_name (output.Query id kind stale p)))
  said-size (output.Timer ns) = omega (arith, pair_size 2 ns (omega arith))
  said-size (output.Attempt id retry e) =
      attempt-size (connect_name (name_bytes_at m.names 0) (name_bytes_at m.names (output_name (output.Attempt id retry e)))) (ech_bytes_at m.echs (output_ech (output.Attempt id retry e))) id retry e
      (host-few (name_bytes_at m.names 0) (name_bytes_at m.names (output_name (output.Attempt id retry e))) (name-few m h 0) (name-few m h (output_name (output.Attempt id retry e))))
      (ech-few m h (output_ech (output.Attempt id retry e)))
  said-size (output.Cancel id) = omega (arith, pair_size 4 id (omega arith))
  said-size output.Succeeded = omega (arith, lone-size 5 (omega arith))
  said-size (output.Failed r) = omega (arith, pair_size 6 (reason_number r) (omega arith))
  said-size (output.Full t) = omega (arith, pair_size 7 (table_number t) (omega arith))

-- an event
pub record Sized (e : Event) (a : Said) : Type 0 where
  pub most : length (answer_bytes a) ≤ 265 * size e
  pub few : length (answer_bytes a) ≤ 4 * size e + 782 * one (asks a)

one-most : (b : Bool) → one b ≤ 1
one-most true = omega arith
one-most false = omega arith

taken-sized : (e : Event) (n : ℕ) → n < 128 → Sized e (input n)
taken-sized e n h = record { most = omega (arith, input-size n h); few = omega (arith, input-size n h) }

-- an empty body is cut, so a body that is read has a byte
empty-cut : event_at [] ≡ fault 1 0
unfolding event_at body_at kind_at at_most read_number groups
empty-cut = refl

not-empty : (s : List ℕ) {x : body.Event} {end : ℕ} → read x end ≡ event_at s → 0 < length s
not-empty [] e = absurd (let c = e ∙ empty-cut in let z : ◌≡◌ {A = ℕ} 0 1 = cc in omega arith)
not-empty (b ∷ s) e = omega arith

module _ (m : Machine) (now : ℕ) (h : Fits m) where
  call-sized : (e : Event) → 0 < length e.body → Sized e (said_of m.names m.echs (output_step m now).output)
  call-sized e k =
      let a = said_of m.names m.echs (output_step m now).output in
      let s = said-size m h (output_step m now).output in
      record { most = omega (arith, s, one-most (asks a), k); few = omega (arith, s, k) }

  fed-sized : (e : Event) (i : Input) (b : Beside) → Sized e (input (taken_number (input_step m now i b).taken))
  fed-sized e i b = taken-sized e (taken_number (input_step m now i b).taken) (taken-small (input_step m now i b).taken)

  told-sized : (e : Event) (x : body.Event) (end : ℕ) → read x end ≡ event_at e.body → Sized e (step_by m now (read (told_by e.body x) end)).said
  told-sized e x end i =
      told-cases e.body (λ t. Sized e (step_by m now (read t end)).said) (call-sized e (not-empty e.body i)) (λ y. fed-sized e (input_of y) (beside_of e.body y)) x

  read-sized : (e : Event) (r : Reading body.Event) → r ≡ event_at e.body → Sized e (step_by m now (next r (λ x end. read (told_by e.body x) end))).said
  read-sized e (read x end) i = told-sized e x end i
  read-sized e (fault n p) i = taken-sized e n (omega (arith, ((event-inside e.body).number n p i).0.1))

  step-sized : (e : Event) → Sized e (step_of m now e.body).said
  unfolding step_of read_body
  step-sized e = read-sized e (event_at e.body) refl

-- events one after the other, which begin at p or later and end at `end`
pub most-size : (l : List Event) (p end : ℕ) (m : Machine) → Rises p l end → Fits m → length (in_bytes (said_to m l)) + 265 * p ≤ 265 * end
unfolding Rises said_to in_bytes
most-size [] p end m r h = omega arith
most-size (e ∷ l) p end m r h =
    let x = step_of m e.moment e.body in
    omega (arith, length-append (answer_bytes x.said) (in_bytes (said_to x.machine l)), (step-sized m e.moment h e).most, r.0, most-size l (e.place + size e) end x.machine r.1 (step_fits m e.moment h e.body))

pub few-size : (l : List Event) (p end : ℕ) (m : Machine) → Rises p l end → Fits m → length (in_bytes (said_to m l)) + 4 * p ≤ 4 * end + 782 * asks_among (said_to m l)
unfolding Rises said_to in_bytes asks_among
few-size [] p end m r h = omega arith
few-size (e ∷ l) p end m r h =
    let x = step_of m e.moment e.body in
    omega (arith, length-append (answer_bytes x.said) (in_bytes (said_to x.machine l)), (step-sized m e.moment h e).few, r.0, few-size l (e.place + size e) end x.machine r.1 (step_fits m e.moment h e.body))

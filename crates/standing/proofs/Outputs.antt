-- Whatever a call asks for may be asked for, and so every call keeps the standing rules.
use Rattle.std.specs.Prelude.{Option, Some, None}
use Prim.Native.Nat.{ℕ, suc, ◌+◌, ◌<◌, ◌≤◌}
use mathlib.Core.Path.{◌≡◌, refl}
use mathlib.Core.Bool.{Bool, true, false, not, cond, ◌||◌}
use mathlib.Core.List.{List, [], ◌∷◌}
use native.Mathlib.Omega.{arith}
use lib.Dec.{ltb as nat_lt, leb as nat_le}
use lib.ListN.{length, get_or, take, length-map}
use lib.Seq.{get_or-take}
use borrow.Author.Tests.{leb-false}
use Rattle.records.specs.Endpoints.{same_endpoint}
use Rattle.records.specs.Lists.{some?}
use Rattle.records.specs.Names.{same_at}
use Rattle.records.specs.Queries.{no_query}
use Rattle.records.specs.declared.queries.Kind.{Kind}
use Rattle.records.specs.declared.queries.Refresh.{Refresh}
use Rattle.records.specs.declared.queries.Refresh.TheVariants.{Idle, InFlight, Done}
use Rattle.records.specs.declared.endpoints.Endpoint.{Endpoint}
use Rattle.state.specs.State.{no_attempt, asked, tried, retries_of, is_open}
use Rattle.state.specs.declared.Machine.{Machine}
use Rattle.state.specs.declared.attempts.State.TheVariants.{Cancelled}
use Rattle.input.specs.Input.{record_at, attempt_at}
use Rattle.upcoming.specs.Next.{Next, attempted, next_retry, next_endpoint}
use Rattle.starting.specs.Surveys.{first_place, tries_of, asks_of, hints_of, is_open_attempt, has_won_attempt, is_due, is_due_query}
use Rattle.starting.specs.Starting.{attempt_left, resolution_left}
use Rattle.upcoming.specs.Wanted.{Wanted, next_query}
use Rattle.starting.specs.declared.surveys.Tries.{Tries}
use Rattle.starting.specs.declared.surveys.Asks.{Asks as Survey}
use Rattle.machine.specs.Output.{end_wish, last_wish, timer_wish, refresh_wish, query_wish, attempt_wish, retry_wish, gate, wish_by, wish_of, reason_of, query_grant, attempt_grant, grant_of, granted}
use Rattle.machine.specs.Steps.{called, turn_of, output_step}
use Rattle.machine.specs.declared.grant.Turn.{Turn}
use Rattle.machine.specs.declared.wish.Wish.{Wish}
use Rattle.machine.specs.declared.wish.Wish.TheVariants as wish
use Rattle.standing.specs.Standing.{keys, phase, standing}
use Rattle.standing.proofs.Lists.{no, used-length}
use Rattle.standing.proofs.Parts.{Standing, stands, parts}
use Rattle.standing.proofs.Asking.{ask-stands}
use Rattle.standing.proofs.Answering.{refresh-stands}
use Rattle.standing.proofs.Trying.{start-stands, cancel-stands}
use Rattle.standing.proofs.Wanting.{Wants, Asks, query-says}
use Rattle.standing.proofs.Listed.{endpoint_in, Known, next_known, retry-known}

-- the first that passes lies in the list, and passes
pub record Lies {A : Type 0} (test : A → Bool) (d : A) (i : ℕ) (l : List A) (p : ℕ) : Type 0 where
  pub place : ℕ
  pub from : p ≡ i + place
  pub within : place < length l
  pub passes : test (get_or l place d) ≡ true

first-lies : {A : Type 0} (test : A → Bool) (d : A) (i : ℕ) (l : List A) (p : ℕ) → first_place test i l ≡ Some p → Lies test d i l p
unfolding first_place
first-lies test d i [] p e = absurd (let z : ◌≡◌ {A = ℕ} 0 1 = cc in omega arith)
first-lies test d i (x ∷ l) p e = go (test x) refl e (first-lies test d (i + 1) l p)
  where
    go : (b : Bool) → test x ≡ b → cond b (Some i) (first_place test (i + 1) l) ≡ Some p → (first_place test (i + 1) l ≡ Some p → Lies test d (i + 1) l p) → Lies test d i (x ∷ l) p
    go true t f r = let s : i ≡ p = cc in record { place = 0; from = omega arith; within = omega arith; passes = t }
    go false t f r = let w = r f in record { place = suc w.place; from = omega (arith, w.from); within = omega (arith, w.within); passes = w.passes }

first_passes : {A : Type 0} (test : A → Bool) (d : A) (n : ℕ) (l : List A) (p : ℕ) → n ≤ length l → first_place test 0 (take n l) ≡ Some p → (p < n) × (test (get_or l p d) ≡ true)
first_passes test d n l p fit e =
    let w = first-lies test d 0 (take n l) p e in
    let z : w.place ≡ p = omega (arith, w.from) in
    let b : p < n = omega (arith, w.within, used-length l n fit) in
    (b, rw (z, get_or-take n l p d b) at w.passes)

due-now : (stale : Bool) (r : Refresh) → is_due stale r ≡ true → (stale ≡ true) × (r ≡ Idle)
due-now stale Idle e = (e, refl)
due-now stale (InFlight i) e = absurd (no e)
due-now stale Done e = absurd (no e)

module _ (m : Machine) (h : Standing m) where
  -- an endpoint that wasn't attempted
  abbrev pub fresh : Endpoint → Bool
  fresh e = not (attempted (same_endpoint m.names m.echs) m.attempts e)

  -- what a wish rests on
  abbrev pub Says : Wish → Type 0
  Says (wish.Cancel p) = (p < m.attempts.count) × (is_open (attempt_at m.attempts p).state ≡ true) × (some? has_won_attempt (tried m.attempts) ≡ true)
  Says wish.Succeeded = Unit {0}
  Says (wish.Retry e) = (endpoint_in (phase m.queries) (retries_of m.retries) e ≡ true) × (fresh e ≡ true)
  Says (wish.Attempt e) = (endpoint_in (phase m.queries) (retries_of m.retries) e ≡ true) × (fresh e ≡ true)
  Says (wish.Query k p) = Wants m k p
  Says (wish.Refresh p) = (p < m.queries.count) × ((record_at m.queries p).stale ≡ true) × ((record_at m.queries p).refresh ≡ Idle)
  Says (wish.AttemptTimer n) = Unit {0}
  Says (wish.ResolutionTimer n) = Unit {0}
  Says (wish.Failed r) = Unit {0}
  Says wish.Waiting = Unit {0}

  end-says : some? has_won_attempt (tried m.attempts) ≡ true → (p : Option ℕ) → first_place is_open_attempt 0 (tried m.attempts) ≡ p → Says (end_wish p)
  end-says won (Some p) e = let w = first_passes is_open_attempt no_attempt m.attempts.count m.attempts.list p (omega (arith, h.room.attempts.size, h.room.attempts.few)) e in (w.0, w.1, won)
  end-says won None e = tt

  refresh-says : (rest : Wish) → Says rest → (p : Option ℕ) → first_place is_due_query 0 (asked m.queries) ≡ p → Says (refresh_wish p rest)
  refresh-says rest f (Some p) e =
      let w = first_passes is_due_query no_query m.queries.count m.queries.list p (omega (arith, h.room.queries.size, h.room.queries.few)) e in
      let d = due-now (record_at m.queries p).stale (record_at m.queries p).refresh w.1 in
      (w.0, d.0, d.1)
  refresh-says rest f None e = f

  if-says : (b : Bool) (v w : Wish) → (b ≡ true → Says v) → Says w → Says (cond b v w)
  if-says true v w f g = f refl
  if-says false v w f g = g

  retry-says : (n : Next) (rest : Wish) → Known m h fresh n → Says rest → Says (retry_wish n rest)
  retry-says (Some e) rest f g = f
  retry-says None rest f g = g

  attempt-says : (n : Next) (rest : Wish) → Known m h fresh n → Says rest → Says (attempt_wish n rest)
  attempt-says (Some e) rest f g = f
  attempt-says None rest f g = g

  gated : (b : Bool) (n : Next) → Known m h fresh n → Known m h fresh (cond b n None)
  gated true n f = f
  gated false n f = tt

  want-says : (w : Wanted) (rest : Wish) → Asks m h w → Says rest → Says (query_wish w rest)
  want-says (Some (k, p)) rest f g = f
  want-says None rest f g = g

  timer-says : (a r : ℕ) (rest : Wish) → Says rest → Says (timer_wish a r rest)
  unfolding timer_wish
  timer-says a r rest f = if-says (nat_lt 0 a) (wish.AttemptTimer a) _ (λ e. tt) (if-says (nat_lt 0 r) (wish.ResolutionTimer r) rest (λ e. tt) f)

  last_says : (tries : Tries) (asks : Survey) (count : ℕ) → Says (last_wish tries asks count)
  unfolding last_wish
  last_says tries asks count = if-says (asks.pending || (asks.flying || nat_lt 0 tries.active)) wish.Waiting (wish.Failed (reason_of count)) (λ e. tt) tt

  pub wish-says : (now : ℕ) → Says (wish_of m now)
  unfolding wish_of wish_by tries_of asks_of
  wish-says now =
      let alike = same_endpoint m.names m.echs in
      if-says (some? has_won_attempt (tried m.attempts)) (end_wish (first_place is_open_attempt 0 (tried m.attempts))) _
      (λ e. end-says e (first_place is_open_attempt 0 (tried m.attempts)) refl)
      (retry-says (next_retry alike m.attempts m.retries) _ (retry-known m h alike)
      (attempt-says (cond (gate m.rules m.timing (tries_of m.attempts) (asks_of m.queries) (hints_of m.services) now) (next_endpoint alike m.rules m.alts m.queries m.answers m.services m.attempts (same_at m.names)) None) _
      (gated (gate m.rules m.timing (tries_of m.attempts) (asks_of m.queries) (hints_of m.services) now) (next_endpoint alike m.rules m.alts m.queries m.answers m.services m.attempts (same_at m.names)) (next_known m h alike))
      (want-says (next_query m.rules m.alts m.queries m.services (same_at m.names)) _ (query-says m h)
      (refresh-says (timer_wish (attempt_left m.timing (tries_of m.attempts) now) (resolution_left m.timing (asks_of m.queries) now) (last_wish (tries_of m.attempts) (asks_of m.queries) m.attempts.count))
      (timer-says (attempt_left m.timing (tries_of m.attempts) now) (resolution_left m.timing (asks_of m.queries) now) _ (last_says (tries_of m.attempts) (asks_of m.queries) m.attempts.count))
      (first_place is_due_query 0 (asked m.queries)) refl))))

  -- What is given for it

  full-or : (b : Bool) (t u : Turn) → (b ≡ true → Standing (called m t.change)) → (b ≡ false → Standing (called m u.change)) → Standing (called m (cond b t u).change)
  full-or true t u f g = f refl
  full-or false t u f g = g refl

  attempt-stands : (retry : Bool) (e : Endpoint) (now : ℕ) → endpoint_in (phase m.queries) (retries_of m.retries) e ≡ true → Standing (called m (attempt_grant m.attempts.count m.ids.next retry e now).change)
  unfolding attempt_grant
  attempt-stands retry e now f = full-or (nat_le 32 m.attempts.count) _ _ (λ g. h) (λ g. start-stands m h now e retry (leb-false 32 m.attempts.count g) f)

  no-records : length (keys m.queries) ≡ 0 → m.queries.count ≡ 0
  unfolding keys
  no-records e = omega (arith, used-length m.queries.list m.queries.count (omega (arith, h.room.queries.size, h.room.queries.few)), rw length-map at e)

  query-stands : (k : Kind) (p : ℕ) → Wants m k p → Standing (called m (query_grant m.queries.count m.ids.next k p).change)
  unfolding query_grant
  query-stands k p f = full-or (nat_le 16 m.queries.count) _ _ (λ g. h) (λ g. ask-stands m h k p (leb-false 16 m.queries.count g) f.known f.new (λ e. no-records (f.first e)) f.order)

  given-stands : (w : Wish) (now : ℕ) → Says w → Standing (called m (granted m.queries m.attempts m.ids w now).change)
  unfolding granted grant_of
  given-stands (wish.Cancel p) now f = cancel-stands m h p f.0 f.1 Cancelled refl f.2
  given-stands wish.Succeeded now f = h
  given-stands (wish.Retry e) now f = attempt-stands true e now f.0
  given-stands (wish.Attempt e) now f = attempt-stands false e now f.0
  given-stands (wish.Query k p) now f = query-stands k p f
  given-stands (wish.Refresh p) now f = refresh-stands m h p f.0 f.1 f.2
  given-stands (wish.AttemptTimer n) now f = h
  given-stands (wish.ResolutionTimer n) now f = h
  given-stands (wish.Failed r) now f = h
  given-stands wish.Waiting now f = h

pub output-stands : (m : Machine) (now : ℕ) → Standing m → Standing (output_step m now).machine
unfolding output_step turn_of
output-stands m now h = given-stands m h (wish_of m now) now (wish-says m h now)

-- Every call keeps the standing rules, at whatever moment it comes.
pub output-keeps : (m : Machine) (now : ℕ) → standing m ≡ true → standing (output_step m now).machine ≡ true
output-keeps m now h = stands (output-stands m now (parts m h))

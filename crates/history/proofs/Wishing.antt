-- What the rules call for rests on what an edition must show.
use Rattle.std.specs.Prelude.{Option, Some, None}
use Prim.Native.Nat.{ℕ, suc, ◌+◌, ◌-◌, ◌≤◌, ◌<◌}
use mathlib.Core.Path.{◌≡◌, refl, ap, ◌∙◌}
use mathlib.Core.Bool.{Bool, true, false, false≢true, not, cond, ◌&&◌, ◌||◌}
use mathlib.Core.Logic.{inl, inr}
use mathlib.Core.List.{List, [], ◌∷◌, Memᴰ}
use mathlib.Core.Option.{Option as Maybe, none, some}
use native.Mathlib.Omega.{arith}
use lib.Dec.{ltb as nat_lt}
use lib.ListN.{length, get_or}
use borrow.Author.Tests.{ltb-true, not-true, not-false}
use Rattle.records.specs.Lists.{some?, first_of}
use Rattle.records.specs.Names.{same_at}
use Rattle.records.specs.Queries.{no_query, answered}
use Rattle.records.specs.Endpoints.{same_endpoint}
use Rattle.records.specs.declared.rules.Mode.{Mode}
use Rattle.records.specs.declared.rules.Mode.TheVariants as mode
use Rattle.records.specs.declared.queries.Kind.{Kind}
use Rattle.records.specs.declared.queries.Kind.TheVariants.{Https, Aaaa, A}
use Rattle.records.specs.declared.queries.Answer.{Answer}
use Rattle.records.specs.declared.queries.Answer.TheVariants as answer
use Rattle.records.specs.declared.queries.Query.{Query}
use Rattle.records.specs.declared.endpoints.Endpoint.{Endpoint}
use Rattle.records.proofs.First.{only-if-none, first_member}
use Rattle.state.specs.State.{asked, tried, no_attempt, is_open}
use Rattle.state.specs.declared.Machine.{Machine}
use Rattle.state.specs.declared.attempts.Attempt.{Attempt}
use Rattle.starting.specs.Surveys.{first_place, later_of, sooner_of, latest_of, oldest_of, starts, is_open_attempt, tries_of, is_kind, is_answered, has_address, came, answer_times, is_due_query, asks_of, hints_of}
use Rattle.starting.specs.Starting.{elapsed, left_of, attempt_delay, attempt_left, resolution_left, some_address, may_start}
use Rattle.upcoming.specs.Wanted.{Wanted, wanted_in, wanted_by, next_query}
use Rattle.upcoming.specs.Next.{Next, attempted, next_of, next_retry, next_endpoint}
use Rattle.machine.specs.declared.wish.Wish.{Wish}
use Rattle.machine.specs.declared.wish.Wish.TheVariants as wish
use Rattle.machine.specs.Output.{end_wish, reason_of, last_wish, timer_wish, refresh_wish, query_wish, attempt_wish, retry_wish, gate, wish_by, wish_of, origin_in}
use Rattle.history.specs.Race.{unanswered, listed, was_attempted, AllTried, holds_address, Condition, address_origin, mode_name, https_answered, address_held, WithHints, as_before, any_address, edition}
use Rattle.history.specs.Edition.{Delays, Left, Rests, came_at, All, Edition}
use Rattle.history.proofs.Tables.{counts_some}
use Rattle.history.proofs.Feeding.{Served}
use Rattle.history.proofs.Opening.{opens, opens-address, opens-name, opens-https, some-imp, kind-answered, answer-came}

-- Searches

-- the first place that passes is one
place_at : {B : Type 0} (test : B → Bool) (i : ℕ) (l : List B) (d : B) (p : ℕ) → first_place test i l ≡ Some p
    → (i ≤ p) × (p < i + length l) × (test (get_or l (p - i) d) ≡ true)
unfolding first_place
place_at test i [] d p e = absurd (let z : ◌≡◌ {A = ℕ} 0 1 = cc in omega arith)
place_at test i (x ∷ l) d p e = by (test x) refl e (place_at test (i + 1) l d p)
  where
    by : (b : Bool) → test x ≡ b → cond b (Some i) (first_place test (i + 1) l) ≡ Some p
        → (first_place test (i + 1) l ≡ Some p → (i + 1 ≤ p) × (p < i + 1 + length l) × (test (get_or l (p - (i + 1)) d) ≡ true))
        → (i ≤ p) × (p < i + suc (length l)) × (test (get_or (x ∷ l) (p - i) d) ≡ true)
    by true t e h = let z : i ≡ p = cc in let y : p - i ≡ 0 = omega arith in (omega arith, omega arith, rw y t)
    by false t e h = let k = h e in let y : p - i ≡ suc (p - (i + 1)) = omega (arith, k.0) in (omega (arith, k.0), omega (arith, k.1), rw y k.2)

-- an attempt in progress has a start
open-some : (l : List Attempt) → nat_lt 0 (length (starts l)) ≡ true → some? is_open_attempt l ≡ true
unfolding starts some?
open-some [] e = absurd (false≢true e)
open-some (a ∷ l) e = by (is_open a.state) e (open-some l)
  where
    by : (b : Bool) → nat_lt 0 (length (cond b (a.started ∷ starts l) (starts l))) ≡ true
        → (nat_lt 0 (length (starts l)) ≡ true → some? is_open_attempt l ≡ true)
        → cond b true (some? is_open_attempt l) ≡ true
    by true e h = refl
    by false e h = h e

-- Moments

abbrev pub moment_of : Option ℕ → ℕ
moment_of None = 0
moment_of (Some t) = t

later-le : (t u : ℕ) (m : Option ℕ) → u ≤ t → moment_of m ≤ t → moment_of (later_of u m) ≤ t
later-le t u None h k = h
later-le t u (Some s) h k = omega arith

sooner-le : (t u : ℕ) (m : Option ℕ) → u ≤ t → moment_of m ≤ t → moment_of (sooner_of u m) ≤ t
sooner-le t u None h k = h
sooner-le t u (Some s) h k = omega arith

latest-le : (t : ℕ) (l : List Attempt) → All (λ a. a.started ≤ t) l → moment_of (latest_of (starts l)) ≤ t
unfolding All starts latest_of
latest-le t [] h = omega arith
latest-le t (a ∷ l) h = by (is_open a.state) (latest-le t l h.1)
  where
    by : (b : Bool) → moment_of (latest_of (starts l)) ≤ t → moment_of (latest_of (cond b (a.started ∷ starts l) (starts l))) ≤ t
    by true k = later-le t a.started (latest_of (starts l)) h.0 k
    by false k = k

oldest-le : (t : ℕ) (l : List Query) → All (λ q. came_at q.answer ≤ t) l → moment_of (oldest_of (answer_times l)) ≤ t
unfolding All answer_times oldest_of
oldest-le t [] h = omega arith
oldest-le t (q ∷ l) h = by q.answer h.0 (oldest-le t l h.1)
  where
    by : (x : Answer) → came_at x ≤ t → moment_of (oldest_of (answer_times l)) ≤ t → moment_of (oldest_of (came x (answer_times l))) ≤ t
    by answer.Pending k i = i
    by (answer.Failed u) k i = sooner-le t u (oldest_of (answer_times l)) k i
    by (answer.Held u n) k i = sooner-le t u (oldest_of (answer_times l)) k i

-- what is left of a delay
left-of : (delay : ℕ) (m : Option ℕ) (now : ℕ) → nat_lt 0 (left_of delay m now) ≡ true → Left delay (moment_of m) now (left_of delay m now)
unfolding elapsed
left-of delay None now e = absurd (let z = ltb-true 0 0 e in omega arith)
left-of delay (Some t) now e = let z = ltb-true 0 (delay - (now - t)) e in (omega arith, refl)

left-pending : (pending : Bool) (delay : ℕ) (m : Option ℕ) (now : ℕ) → nat_lt 0 (cond pending (left_of delay m now) 0) ≡ true
    → Left delay (moment_of m) now (cond pending (left_of delay m now) 0)
left-pending true delay m now e = left-of delay m now e
left-pending false delay m now e = absurd (let z = ltb-true 0 0 e in omega arith)

abbrev pub delays : Delays
delays =
    record {
      attempt = λ m. attempt_delay m.timing (tries_of m.attempts).active;
      start = λ m. moment_of (tries_of m.attempts).latest;
      resolution = λ m. m.timing.resolution;
      oldest = λ m. moment_of (asks_of m.queries).oldest;
    }

-- One step of the order

module _ (P : Wish → Type 0) where
  if-so : (b : Bool) (x y : Wish) → (b ≡ true → P x) → (b ≡ false → P y) → P (cond b x y)
  if-so true x y h k = h refl
  if-so false x y h k = k refl

  if-end : (x : Option ℕ) → ((p : ℕ) → x ≡ Some p → P (wish.Cancel p)) → P wish.Succeeded → P (end_wish x)
  if-end (Some p) h k = h p refl
  if-end None h k = k

  if-retry : (x : Next) (rest : Wish) → ((e : Endpoint) → x ≡ Some e → P (wish.Retry e)) → P rest → P (retry_wish x rest)
  if-retry (Some e) rest h k = h e refl
  if-retry None rest h k = k

  if-attempt : (x : Next) (rest : Wish) → ((e : Endpoint) → x ≡ Some e → P (wish.Attempt e)) → (x ≡ None → P rest)
      → P (attempt_wish x rest)
  if-attempt (Some e) rest h k = h e refl
  if-attempt None rest h k = k refl

  if-query : (x : Wanted) (rest : Wish) → ((k : Kind) (p : ℕ) → P (wish.Query k p)) → (x ≡ None → P rest) → P (query_wish x rest)
  if-query (Some (k, p)) rest h g = h k p
  if-query None rest h g = g refl

  if-refresh : (x : Option ℕ) (rest : Wish) → ((p : ℕ) → x ≡ Some p → P (wish.Refresh p)) → P rest → P (refresh_wish x rest)
  if-refresh (Some p) rest h k = h p refl
  if-refresh None rest h k = k

-- The first that wasn't attempted

next-new : (test : Endpoint → Bool) (l : List Endpoint) (e : Endpoint) → next_of (first_of (λ x. not (test x)) l) ≡ Some e → test e ≡ false
next-new test l e h = by (first_of (λ x. not (test x)) l) refl h
  where
    by : (o : Maybe Endpoint) → first_of (λ x. not (test x)) l ≡ o → next_of o ≡ Some e → test e ≡ false
    by none g h = absurd (let z : ◌≡◌ {A = ℕ} 0 1 = cc in omega arith)
    by (some x) g h = let z : x ≡ e = cc in not-true (test e) (first_member (λ y. not (test y)) l e (g ∙ ap some z)).1

next-none : (test : Endpoint → Bool) (l : List Endpoint) → next_of (first_of (λ x. not (test x)) l) ≡ None → (e : Endpoint)
    → Memᴰ e l → test e ≡ true
next-none test l h e i = by (first_of (λ x. not (test x)) l) refl h
  where
    by : (o : Maybe Endpoint) → first_of (λ x. not (test x)) l ≡ o → next_of o ≡ None → test e ≡ true
    by none g h = not-false (test e) (only-if-none (λ y. not (test y)) l g e i)
    by (some x) g h = absurd (let z : ◌≡◌ {A = ℕ} 0 1 = cc in omega arith)

-- Nothing else to do

origin-none : (m : Mode) (o others : Wanted) → wanted_in m o others ≡ None → origin_in m o ≡ None
origin-none mode.Ip None others e = refl
origin-none mode.Ip (Some (k, p)) others e = e
origin-none mode.Name o others e = refl
origin-none mode.NameWithHttpsRr o others e = e

module _ (m : Machine) (now : ℕ) where
  abbrev may : Bool
  may = may_start m.rules m.timing (asks_of m.queries) (hints_of m.services) now

  abbrev following : Next
  following = next_endpoint (same_endpoint m.names m.echs) m.rules m.alts m.queries m.answers m.services m.attempts (same_at m.names)

  abbrev is_gated : Bool
  is_gated = gate m.rules m.timing (tries_of m.attempts) (asks_of m.queries) (hints_of m.services) now

  abbrev gated : Next
  gated = cond is_gated following None

  pub record Idle : Type 0 where
    pub no-attempt : gated ≡ None
    pub no-query : next_query m.rules m.alts m.queries m.services (same_at m.names) ≡ None
    pub no-delay : nat_lt 0 (attempt_left m.timing (tries_of m.attempts) now) ≡ false
    pub no-wait : nat_lt 0 (resolution_left m.timing (asks_of m.queries) now) ≡ false

  -- where attempts may start, all are made
  all-tried : Idle → may ≡ true → AllTried m
  unfolding gate listed was_attempted next_endpoint
  all-tried i e = next-none (attempted (same_endpoint m.names m.echs) m.attempts) _ (rw (i.no-delay, e) at i.no-attempt)

  -- with some address and some answer they may
  opens-some : Idle → some_address (asks_of m.queries) (hints_of m.services) ≡ true → some? is_answered (asked m.queries) ≡ true → may ≡ true
  unfolding asks_of next_query wanted_by
  opens-some i s e =
      let w = answer-came (asked m.queries) e in
      opens m.timing (asks_of m.queries) (hints_of m.services) now m.rules s w.0 w.1
      (λ p. record {
        https = kind-answered Https (asked m.queries) p;
        aaaa = kind-answered Aaaa (asked m.queries) p;
        a = kind-answered A (asked m.queries) p;
      })
      (origin-none m.rules.mode _ _ i.no-query) i.no-wait

  held-address : (q : Query) → holds_address q ≡ true → has_address q.answer ≡ true
  held-address q e = by (is_kind Https q) e
    where
      by : (b : Bool) → not b && has_address q.answer ≡ true → has_address q.answer ≡ true
      by true e = absurd (false≢true e)
      by false e = e

  address-answered : (x : Answer) → has_address x ≡ true → answered x ≡ true
  address-answered answer.Pending e = absurd (false≢true e)
  address-answered (answer.Failed t) e = refl
  address-answered (answer.Held t n) e = refl

  pub idle-tried : Idle → Condition m → AllTried m
  unfolding asks_of some_address
  idle-tried i (address_origin e) = all-tried i (opens-address m.timing (asks_of m.queries) (hints_of m.services) now m.rules e)
  idle-tried i (mode_name e) = all-tried i (opens-name m.timing (asks_of m.queries) (hints_of m.services) now m.rules e)
  idle-tried i (https_answered e f) = all-tried i (opens-https m.timing (asks_of m.queries) (hints_of m.services) now m.rules e f)
  idle-tried i (address_held e) =
      let a = some-imp holds_address (λ x. has_address x.answer) (asked m.queries) held-address e in
      all-tried i
      (opens-some i (rw a) (some-imp (λ x. has_address x.answer) is_answered (asked m.queries) (λ x h. address-answered x.answer h) a))

  -- with hints too, as no service is held before an answer
  hinted-answered : Served m.services (asked m.queries) → some_address (asks_of m.queries) (hints_of m.services) ≡ true
      → some? is_answered (asked m.queries) ≡ true
  unfolding asks_of hints_of some_address some?
  hinted-answered (inr h) e = counts_some is_answered (asked m.queries) h
  hinted-answered (inl h) e =
      some-imp (λ x. has_address x.answer) is_answered (asked m.queries) (λ x k. address-answered x.answer k)
      (by (some? (λ x. has_address x.answer) (asked m.queries)) (rw h at e))
    where
      by : (b : Bool) → b || false ≡ true → b ≡ true
      by true e = refl
      by false e = absurd (false≢true e)

  pub idle-hinted : Idle → Served m.services (asked m.queries) → WithHints m → AllTried m
  idle-hinted i s (as_before c) = idle-tried i c
  idle-hinted i s (any_address e) = all-tried i (opens-some i e (hinted-answered s e))

  -- The whole order: what each wish rests on, and at the end that nothing else was to do

  abbrev pub Why : Wish → Type 0
  Why (wish.Cancel p) = Rests delays m now (wish.Cancel p)
  Why wish.Succeeded = Unit {0}
  Why (wish.Retry e) = Rests delays m now (wish.Retry e)
  Why (wish.Attempt e) = Rests delays m now (wish.Attempt e)
  Why (wish.Query k p) = Unit {0}
  Why (wish.Refresh p) = Rests delays m now (wish.Refresh p)
  Why (wish.AttemptTimer n) = Rests delays m now (wish.AttemptTimer n)
  Why (wish.ResolutionTimer n) = Rests delays m now (wish.ResolutionTimer n)
  Why (wish.Failed r) = Idle
  Why wish.Waiting = (unanswered m ≡ true) × Idle

  why-last : Idle → Why (last_wish (tries_of m.attempts) (asks_of m.queries) m.attempts.count)
  unfolding last_wish asks_of tries_of unanswered
  why-last i =
      let asks = asks_of m.queries in
      let tries = tries_of m.attempts in
      if-so Why (asks.pending || (asks.flying || nat_lt 0 tries.active)) wish.Waiting (wish.Failed (reason_of m.attempts.count))
      (λ e. (pending asks.pending asks.flying (nat_lt 0 tries.active) (some? is_open_attempt (tried m.attempts)) (open-some (tried m.attempts)) e, i)) (λ e. i)
    where
      pending : (a b c d : Bool) → (c ≡ true → d ≡ true) → a || (b || c) ≡ true → a || (b || d) ≡ true
      pending true b c d h e = refl
      pending false true c d h e = refl
      pending false false c d h e = h e

  why-timer : gated ≡ None → next_query m.rules m.alts m.queries m.services (same_at m.names) ≡ None
      → Why (timer_wish (attempt_left m.timing (tries_of m.attempts) now) (resolution_left m.timing (asks_of m.queries) now) (last_wish (tries_of m.attempts) (asks_of m.queries) m.attempts.count))
  unfolding timer_wish attempt_left resolution_left
  why-timer g q =
      if-so Why (nat_lt 0 (attempt_left m.timing (tries_of m.attempts) now)) _ _ (λ e. left-of (attempt_delay m.timing (tries_of m.attempts).active) (tries_of m.attempts).latest now e)
      (λ e. if-so Why (nat_lt 0 (resolution_left m.timing (asks_of m.queries) now)) _ _ (λ f. left-pending (asks_of m.queries).pending m.timing.resolution (asks_of m.queries).oldest now f)
      (λ f. why-last (record { no-attempt = g; no-query = q; no-delay = e; no-wait = f })))

  found_at : {B : Type 0} (test : B → Bool) (l : List B) (d : B) (p : ℕ) → first_place test 0 l ≡ Some p
      → (p < length l) × (test (get_or l p d) ≡ true)
  found_at test l d p e = let k = place_at test 0 l d p e in let z : p - 0 ≡ p = omega arith in (omega (arith, k.1), rw z at k.2)

  gate-new : (b : Bool) (x : Next) (e : Endpoint) → cond b x None ≡ Some e → x ≡ Some e
  gate-new true x e h = h
  gate-new false x e h = absurd (let z : ◌≡◌ {A = ℕ} 0 1 = cc in omega arith)

  pub why : Why (wish_of m now)
  unfolding wish_of wish_by tries_of asks_of next_retry next_endpoint was_attempted
  why =
      if-so Why (tries_of m.attempts).won _ _
      (λ w. if-end Why (tries_of m.attempts).first (λ p e. let k = found_at is_open_attempt (tried m.attempts) no_attempt p e in (k.0, k.1, w)) tt)
      (λ w. if-retry Why (next_retry (same_endpoint m.names m.echs) m.attempts m.retries) _ (λ x e. next-new (attempted (same_endpoint m.names m.echs) m.attempts) _ x e)
      (if-attempt Why gated _ (λ x e. next-new (attempted (same_endpoint m.names m.echs) m.attempts) _ x (gate-new is_gated following x e))
      (λ g. if-query Why (next_query m.rules m.alts m.queries m.services (same_at m.names)) _ (λ k p. tt)
      (λ q. if-refresh Why (asks_of m.queries).due _ (λ p e. found_at is_due_query (asked m.queries) no_query p e) (why-timer g q)))))

  -- so the rules are an edition
  rests-on : (w : Wish) → Why w → Rests delays m now w
  rests-on (wish.Cancel p) r = r
  rests-on wish.Succeeded r = tt
  rests-on (wish.Retry e) r = r
  rests-on (wish.Attempt e) r = r
  rests-on (wish.Query k p) r = tt
  rests-on (wish.Refresh p) r = r
  rests-on (wish.AttemptTimer n) r = r
  rests-on (wish.ResolutionTimer n) r = r
  rests-on (wish.Failed x) r = idle-tried r
  rests-on wish.Waiting r = (r.0, idle-tried r.1)

pub is-edition : Edition edition
unfolding tries_of asks_of
is-edition =
    record {
      delays = delays;
      rests = λ m now. rests-on m now (wish_of m now) (why m now);
      started = λ m t h. latest-le t (tried m.attempts) h;
      answered = λ m t h. oldest-le t (asked m.queries) h;
    }

-- What an event leaves: the attempts that there are, the records, and every name and all ECH bytes that are in use.
use Prim.Native.Nat.{ℕ, zero, suc, ◌+◌, ◌-◌, ◌<◌, ◌≤◌}
use mathlib.Core.Path.{◌≡◌, refl, sym, ap, ◌∙◌}
use mathlib.Core.Logic.{◌⊎◌, inl, inr, ⊎_elim}
use mathlib.Core.Bool.{Bool, true, false, cond}
use mathlib.Core.List.{List, [], ◌∷◌, map}
use native.Mathlib.Omega.{arith}
use lib.Dec.{eqb as nat_eq, ltb as nat_lt, leb as nat_le}
use lib.ListN.{length, get_or, set}
use lib.Seq.{get_or-set_same, get_or-set_other}
use borrow.Author.Tests.{eqb-true, eqb-false, ltb-true, ltb-false, leb-true, leb-false, le-ltb}
use Rattle.records.specs.Lists.{cell}
use Rattle.records.specs.Names.{blank_ech, no_ech, name_at, ech_at}
use Rattle.records.specs.Queries.{no_query, answered}
use Rattle.records.specs.declared.names.Ech.{Ech}
use Rattle.records.specs.declared.names.Echs.{Echs}
use Rattle.records.specs.declared.queries.Kind.{Kind}
use Rattle.records.specs.declared.queries.Kind.TheVariants.{Https, Aaaa, A}
use Rattle.records.specs.declared.queries.Answer.{Answer}
use Rattle.records.specs.declared.queries.Answer.TheVariants.{Pending, Failed, Held}
use Rattle.records.specs.declared.queries.Query.{Query}
use Rattle.records.specs.declared.queries.Queries.{Queries}
use Rattle.records.specs.declared.endpoints.Endpoint.{Endpoint}
use Rattle.state.specs.Changes.{first_ech}
use Rattle.state.specs.State.{no_attempt, tried, retries_of, is_open, new_attempt, with_state}
use Rattle.state.specs.declared.Machine.{Machine}
use Rattle.state.specs.declared.attempts.State.{State}
use Rattle.state.specs.declared.attempts.State.TheVariants as state
use Rattle.state.specs.declared.attempts.Attempt.{Attempt}
use Rattle.state.specs.declared.attempts.Attempts.{Attempts}
use Rattle.state.specs.declared.changes.InputChange.{InputChange}
use Rattle.state.specs.declared.changes.InputChange.TheVariants as change
use Rattle.state.specs.declared.changes.Round.{Round}
use Rattle.state.specs.declared.changes.Round.TheVariants.{First, Second}
use Rattle.state.specs.declared.changes.CallChange.{CallChange}
use Rattle.state.specs.declared.changes.CallChange.TheVariants as calls
use Rattle.input.specs.Input.{record_at, attempt_at, with_answer, is_failed, stored_at}
use Rattle.input.specs.Verdicts.{Waits, MayBe, Answered, Ended, Ends, again, end_of, refresh_after}
use Rattle.input.specs.declared.Outcome.{Outcome}
use Rattle.input.specs.declared.Outcome.TheVariants as outcome
use Rattle.after.specs.After.{queries_called, attempts_called, put_query, put_attempt, put_echs, put_ech}
use Rattle.machine.specs.Output.{wish_of, only, new_query, refreshed, query_grant, attempt_grant, grant_of, granted}
use Rattle.machine.specs.Steps.{called, fed, turn_of, output_step, input_step}
use Rattle.machine.specs.declared.calls.Beside.{Beside}
use Rattle.machine.specs.declared.grant.Output.TheVariants as output
use Rattle.machine.specs.declared.grant.Table.TheVariants as table
use Rattle.machine.specs.declared.wish.Wish.{Wish}
use Rattle.machine.specs.declared.wish.Wish.TheVariants as wish
use Rattle.after.specs.declared.TargetEchs.{TargetEchs}
use Rattle.standing.specs.Lists.{◌or◌, every, has}
use Rattle.standing.specs.Standing.{named, kept, phase, refused, held_of, idle}
use Rattle.standing.specs.Kept.{Event, call, feed, in_form, after}
use Rattle.standing.specs.Sound.{services_sound, answer_sound}
use Rattle.standing.proofs.Lists.{no, left, right, rule, or-second, sets-before, sets-past}
use Rattle.standing.proofs.Parts.{Standing}
use Rattle.standing.proofs.Https.{before, name-stays, phase-was}
use Rattle.standing.proofs.Tables.{query-more, query-put, attempt-more, attempt-put}
use Rattle.standing.proofs.Answering.{resting-of}
use Rattle.standing.proofs.Outputs.{Says, wish-says}
use Rattle.standing.proofs.Inputs.{only-first}
use Rattle.standing.proofs.Taken.{every-input}
use Rattle.standing.proofs.Trying.{marks, unmarked}

-- ECH bytes that are in use

-- they lie outside the four places of an answer that comes
ech-outside : (round : Round) (rs : List ℕ) (p : ℕ) → kept (before round) rs p ≡ true → (p < first_ech round) ⊎ (first_ech round + 4 ≤ p)
unfolding kept
ech-outside First rs p h = go (nat_lt p 4) refl h
  where
    go : (a : Bool) → nat_lt p 4 ≡ a → cond a (nat_le 1 0) (cond (nat_lt p 8) (nat_le 2 0) (has (p - 8) rs)) ≡ true → (p < 0) ⊎ (4 ≤ p)
    go true e g = absurd (omega (arith, leb-true 1 0 g))
    go false e g = inr (ltb-false p 4 e)
ech-outside Second rs p h = go (nat_lt p 4) (nat_lt p 8) refl refl h
  where
    go : (a b : Bool) → nat_lt p 4 ≡ a → nat_lt p 8 ≡ b → cond a (nat_le 1 1) (cond b (nat_le 2 1) (has (p - 8) rs)) ≡ true → (p < 4) ⊎ (8 ≤ p)
    go true b e f g = inl (ltb-true p 4 e)
    go false true e f g = absurd (omega (arith, leb-true 2 1 g))
    go false false e f g = inr (ltb-false p 8 f)

-- a place that is in use isn't written over by an answer
pub ech-stays : (e : Echs) (round : Round) (t : TargetEchs) (rs : List ℕ) (p : ℕ) → length t.list ≡ 4 → kept (before round) rs p ≡ true
    → ech_at (put_echs e round t) p ≡ ech_at e p
unfolding ech_at put_echs
ech-stays e round t rs p l h =
    ⊎_elim
    (λ b. rw (sets-before e.list (first_ech round) t.list p _ b))
    (λ b. rw (sets-past e.list (first_ech round) t.list p _ (omega arith)))
    (ech-outside round rs p h)

-- nor by a retry, which comes for an attempt that had none
kept-retry : (k : ℕ) (rs : List ℕ) (i p : ℕ) → has i rs ≡ false → kept k rs p ≡ true → p ≡ 8 + i → ⊥
unfolding kept
kept-retry k rs i p n h e =
    let z : 8 + i - 8 ≡ i = omega arith in
    no (sym n ∙ (rw (e, le-ltb (8 + i) 4 (omega arith), le-ltb (8 + i) 8 (omega arith), z) at h))

pub ech-stays-retry : (e : Echs) (k : ℕ) (rs : List ℕ) (i : ℕ) (x : Ech) (p : ℕ) → has i rs ≡ false → kept k rs p ≡ true
    → ech_at (put_ech e i x) p ≡ ech_at e p
unfolding ech_at put_ech
ech-stays-retry e k rs i x p n h = go (nat_lt i 32)
  where
    go : (b : Bool) → cell 40 blank_ech no_ech (cond b (record { list = set e.list (8 + i) x }) e).list p ≡ cell 40 blank_ech no_ech e.list p
    go true = rw (get_or-set_other e.list (8 + i) p x blank_ech (kept-retry k rs i p n h))
    go false = refl

-- what every member passes, this one does
has-every : (t : ℕ → Bool) (i : ℕ) (l : List ℕ) → has i l ≡ true → every t l ≡ true → t i ≡ true
unfolding has every
has-every t i [] e h = absurd (no e)
has-every t i (x ∷ l) e h = go (nat_eq i x) refl e (λ g. has-every t i l g (right _ _ h))
  where
    go : (b : Bool) → nat_eq i x ≡ b → (b or has i l) ≡ true → (has i l ≡ true → t i ≡ true) → t i ≡ true
    go true f g r = ap t (eqb-true i x f) ∙ left _ _ h
    go false f g r = r (or-second _ _ refl g)

-- one table after the other: the same places hold the same, and perhaps there are more
pub record Trials (a b : Attempts) : Type 0 where
  pub count : a.count ≤ b.count
  pub ends : (p : ℕ) → p < a.count → (attempt_at b p).endpoint ≡ (attempt_at a p).endpoint
  pub ids : (p : ℕ) → p < a.count → (attempt_at b p).id ≡ (attempt_at a p).id
  pub ended : (p : ℕ) → p < a.count → is_open (attempt_at a p).state ≡ false → is_open (attempt_at b p).state ≡ false

pub record Records (q r : Queries) : Type 0 where
  pub count : q.count ≤ r.count
  pub kinds : (p : ℕ) → p < q.count → (record_at r p).kind ≡ (record_at q p).kind
  pub names : (p : ℕ) → p < q.count → (record_at r p).name ≡ (record_at q p).name
  pub begun : (p : ℕ) → p < q.count → idle (record_at q p).refresh ≡ false → idle (record_at r p).refresh ≡ false

pub record Onward (m later : Machine) : Type 0 where
  pub trials : Trials m.attempts later.attempts
  pub records : Records m.queries later.queries
  pub names : (p : ℕ) → named (phase m.queries) p ≡ true → name_at later.names p ≡ name_at m.names p
  pub echs : (p : ℕ) → kept (phase m.queries) (retries_of m.retries) p ≡ true → ech_at later.echs p ≡ ech_at m.echs p

closed-end : (o : Outcome) → is_open (end_of o) ≡ false
closed-end outcome.Success = refl
closed-end outcome.Failure = refl
closed-end outcome.EchRetry = refl

module _ (m : Machine) (h : Standing m) where
  abbrev q : Queries
  q = m.queries

  abbrev k : ℕ
  k = phase q

  abbrev rs : List ℕ
  rs = retries_of m.retries

  abbrev a : Attempts
  a = m.attempts

  fit : a.count ≤ length a.list
  fit = omega (arith, h.room.attempts.size, h.room.attempts.few)

  -- the attempts that there are, and perhaps more
  same-all : Trials a a
  same-all = record { count = omega arith; ends = λ p b. refl; ids = λ p b. refl; ended = λ p b e. e }

  same_more : (x : Attempt) → a.count < 32 → Trials a (put_attempt a a.count x)
  same_more x b = rw (attempt-more a x b) (record { count = omega arith; ends = λ p c. ap (λ y. y.endpoint) (old p c); ids = λ p c. ap (λ y. y.id) (old p c); ended = λ p c e. ap (λ y. is_open y.state) (old p c) ∙ e })
    where
      old : (p : ℕ) → p < a.count → get_or (set a.list a.count x) p no_attempt ≡ attempt_at a p
      old p c = get_or-set_other a.list a.count p x no_attempt (λ e. omega arith)

  same-put : (i : ℕ) (s : State) → i < a.count → is_open s ≡ false → Trials a (put_attempt a i (with_state (attempt_at a i) s))
  same-put i s b closed =
      rw (attempt-put a i x b h.room.attempts.few)
      (record {
        count = omega arith;
        ends = λ p c. go (λ y z. y.endpoint ≡ z.endpoint) refl (λ y. refl) p (nat_eq p i) refl;
        ids = λ p c. go (λ y z. y.id ≡ z.id) refl (λ y. refl) p (nat_eq p i) refl;
        ended = λ p c. go (λ y z. is_open z.state ≡ false → is_open y.state ≡ false) (λ e. closed) (λ y e. e) p (nat_eq p i) refl;
      })
    where
      x : Attempt
      x = with_state (attempt_at a i) s

      go : (P : Attempt → Attempt → Type 0) → P x (attempt_at a i) → ((y : Attempt) → P y y) → (p : ℕ) (t : Bool) → nat_eq p i ≡ t
          → P (get_or (set a.list i x) p no_attempt) (attempt_at a p)
      go P here there p true e = rw (eqb-true p i e, get_or-set_same a.list i x no_attempt (omega (arith, fit))) here
      go P here there p false e = rw (get_or-set_other a.list i p x no_attempt (eqb-false p i e)) (there (attempt_at a p))

  -- the records that there are, and perhaps more
  keys-all : Records q q
  keys-all = record { count = omega arith; kinds = λ p b. refl; names = λ p b. refl; begun = λ p b e. e }

  keys-more : (x : Query) → q.count < 16 → Records q (put_query q q.count x)
  keys-more x b = rw (query-more q x b) (record { count = omega arith; kinds = λ p c. ap (λ y. y.kind) (old p c); names = λ p c. ap (λ y. y.name) (old p c); begun = λ p c e. ap (λ y. idle y.refresh) (old p c) ∙ e })
    where
      old : (p : ℕ) → p < q.count → get_or (set q.list q.count x) p no_query ≡ record_at q p
      old p c = get_or-set_other q.list q.count p x no_query (λ e. omega arith)

  -- one changed that is for the same, and whose refresh, once begun, stays so
  keys-put : (i : ℕ) (x : Query) → i < q.count → x.kind ≡ (record_at q i).kind → x.name ≡ (record_at q i).name
      → (idle (record_at q i).refresh ≡ false → idle x.refresh ≡ false) → Records q (put_query q i x)
  keys-put i x b kind name refresh =
      rw (query-put q i x b h.room.queries.few)
      (record {
        count = omega arith;
        kinds = λ p c. go (λ y z. y.kind ≡ z.kind) kind (λ y. refl) p (nat_eq p i) refl;
        names = λ p c. go (λ y z. y.name ≡ z.name) name (λ y. refl) p (nat_eq p i) refl;
        begun = λ p c. go (λ y z. idle z.refresh ≡ false → idle y.refresh ≡ false) refresh (λ y e. e) p (nat_eq p i) refl;
      })
    where
      go : (P : Query → Query → Type 0) → P x (record_at q i) → ((y : Query) → P y y) → (p : ℕ) (t : Bool) → nat_eq p i ≡ t
          → P (get_or (set q.list i x) p no_query) (record_at q p)
      go P here there p true e = rw (eqb-true p i e, get_or-set_same q.list i x no_query (omega (arith, h.room.queries.size, h.room.queries.few))) here
      go P here there p false e = rw (get_or-set_other q.list i p x no_query (eqb-false p i e)) (there (record_at q p))

  -- Calls

  call-on : (c : CallChange) → Trials a (attempts_called a c) → Records q (queries_called q c) → Onward m (called m c)
  call-on c t r = record { trials = t; records = r; names = λ p e. refl; echs = λ p e. refl }

  on : Onward m m
  on = record { trials = same-all; records = keys-all; names = λ p e. refl; echs = λ p e. refl }

  started : (retry : Bool) (e : Endpoint) (now : ℕ) → Onward m (called m (attempt_grant a.count m.ids.next retry e now).change)
  unfolding attempt_grant
  started retry e now = go (nat_le 32 a.count) refl
    where
      go : (t : Bool) → nat_le 32 a.count ≡ t
          → Onward m (called m (cond t (only (output.Full table.Attempts)) (record { output = output.Attempt m.ids.next retry e; change = calls.Tries a.count (new_attempt m.ids.next e now retry) })).change)
      go true f = on
      go false f = call-on (calls.Tries a.count (new_attempt m.ids.next e now retry)) (same_more _ (leb-false 32 a.count f)) keys-all

  asked-on : (k : Kind) (p : ℕ) → Onward m (called m (query_grant q.count m.ids.next k p).change)
  unfolding query_grant
  asked-on k p = go (nat_le 16 q.count) refl
    where
      go : (t : Bool) → nat_le 16 q.count ≡ t
          → Onward m (called m (cond t (only (output.Full table.Queries)) (record { output = output.Query m.ids.next k true p; change = calls.Asks q.count (new_query m.ids.next k p) })).change)
      go true f = on
      go false f = call-on (calls.Asks q.count (new_query m.ids.next k p)) same-all (keys-more _ (leb-false 16 q.count f))

  given-on : (w : Wish) (now : ℕ) → Says m h w → Onward m (called m (granted q a m.ids w now).change)
  unfolding granted grant_of
  given-on (wish.Cancel p) now f = call-on (calls.Cancels p (with_state (attempt_at a p) state.Cancelled)) (same-put p state.Cancelled f.0 refl) keys-all
  given-on wish.Succeeded now f = on
  given-on (wish.Retry e) now f = started true e now
  given-on (wish.Attempt e) now f = started false e now
  given-on (wish.Query k p) now f = asked-on k p
  given-on (wish.Refresh p) now f = call-on (calls.Asks p (refreshed (record_at q p) m.ids.next)) same-all (keys-put p (refreshed (record_at q p) m.ids.next) f.0 refl refl (λ e. refl))
  given-on (wish.AttemptTimer n) now f = on
  given-on (wish.ResolutionTimer n) now f = on
  given-on (wish.Failed r) now f = on
  given-on wish.Waiting now f = on

  call-onward : (now : ℕ) → Onward m (output_step m now).machine
  unfolding output_step turn_of
  call-onward now = given-on (wish_of m now) now (wish-says m h now)

  -- Inputs

  module _ (b : Beside) where
    https-on : (p : ℕ) → p < q.count → p ≡ 0 → (record_at q p).kind ≡ Https → (t : Answer) (stale : Bool) (id : ℕ) (round : Round)
        → Waits round id (record_at q p) → MayBe round stale
        → answered t ≡ true → answer_sound Https (held_of t) b ≡ true → (x : Query) → Records q (put_query q p x) → Onward m (fed m (stored_at p x (is_failed t) round Https) b)
    unfolding services_sound
    https-on (suc p) c z e t stale id round w f come s x r = absurd (omega arith)
    https-on zero c z e Pending stale id round w f come s x r = absurd (no come)
    https-on zero c z e (Failed n) stale id round w f come s x r = record { trials = same-all; records = r; names = λ p g. refl; echs = λ p g. refl }
    https-on zero c z e (Held t n) stale id round w f come s x r =
        let was = phase-was m h c e (Held t n) stale id round w f come (eqb-true n 0 (left _ _ s)) in
        record {
          trials = same-all;
          records = r;
          names = λ p g. name-stays m.names round b.names p (eqb-true _ 4 (rule 3 _ (right _ _ s))) (rw was at g);
          echs = λ p g. ech-stays m.echs round b.echs rs p (eqb-true _ 4 (rule 5 _ (right _ _ s))) (rw was at g);
        }

    -- a refresh that was begun is one that is waited for, and done with the answer
    still-begun : (p : ℕ) → p < q.count → (round : Round) (id : ℕ) → Waits round id (record_at q p) → idle (record_at q p).refresh ≡ false
        → idle (refresh_after round) ≡ false
    still-begun p c First id w e = absurd (no (sym (rw (resting-of m h p c Pending false id w.1) at e)))
    still-begun p c Second id w e = refl

    module _ (k : Kind) (id : ℕ) (stale : Bool) (t : Answer) (come : answered t ≡ true) (sounds : answer_sound k (held_of t) b ≡ true) (c : InputChange) (f : Answered q k id stale t c) where
      abbrev new : Query
      new = with_answer (record_at q f.place) t stale (refresh_after f.round)

      inside : f.place < q.count
      inside = omega (arith, f.within)

      same_key_lem : Records q (put_query q f.place new)
      same_key_lem = keys-put f.place new inside refl refl (still-begun f.place inside f.round id f.waits)

      by_kind : (j : Kind) → (record_at q f.place).kind ≡ j → answer_sound j (held_of t) b ≡ true
          → Onward m (fed m (stored_at f.place new (is_failed t) f.round j) b)
      by_kind Https e s =
          https-on f.place inside (only-first q f.place inside (omega (arith, h.room.queries.size, h.room.queries.few)) e h.records.https) e t stale id f.round f.waits f.fresh come s new same_key_lem
      by_kind Aaaa e s = record { trials = same-all; records = same_key_lem; names = λ p g. refl; echs = λ p g. refl }
      by_kind A e s = record { trials = same-all; records = same_key_lem; names = λ p g. refl; echs = λ p g. refl }

      answer-on : Onward m (fed m c b)
      answer-on = rw f.kept (by_kind (record_at q f.place).kind refl (rw f.kind sounds))

    -- no retry came yet for an attempt in progress
    none_came : (p : ℕ) → p < a.count → is_open (attempt_at a p).state ≡ true → has p rs ≡ false
    unfolding marks
    none_came p c e = go (has p rs) refl
      where
        go : (t : Bool) → has p rs ≡ t → t ≡ false
        go true f = absurd (no (sym (unmarked m h p c e state.Failed refl) ∙ has-every (λ i. get_or (map refused (tried a)) i false) p rs f h.again.failures))
        go false f = refl

    result-on : (id : ℕ) (o : Outcome) (c : InputChange) → Ended m.rules.ech a m.retries.count id o c → Onward m (fed m c b)
    result-on id o c f = by (attempt_at a f.place).state refl f.ends
      where
        inside : f.place < a.count
        inside = omega (arith, f.within)

        ended : (t : Bool) → is_open (attempt_at a f.place).state ≡ true
            → Onward m (fed m (cond t (change.Retries f.place (with_state (attempt_at a f.place) (end_of o)) m.retries.count) (change.Ends f.place (with_state (attempt_at a f.place) (end_of o)))) b)
        ended true e = record { trials = same-put f.place (end_of o) inside (closed-end o); records = keys-all; names = λ p g. refl; echs = λ p g. ech-stays-retry m.echs k rs f.place b.retry p (none_came f.place inside e) g }
        ended false e = record { trials = same-put f.place (end_of o) inside (closed-end o); records = keys-all; names = λ p g. refl; echs = λ p g. refl }

        by : (t : State) → (attempt_at a f.place).state ≡ t → Ends m.rules.ech m.retries.count f.place (attempt_at a f.place) o c t
            → Onward m (fed m c b)
        by state.InProgress e g = rw g.1 (ended (again (attempt_at a f.place) m.retries.count o) (rw e))
        by state.Succeeded e g = absurd g
        by state.Failed e g = absurd g
        by state.Cancelled e g = rw g on

  pub event-onward : (e : Event) → in_form e ≡ true → Onward m (after m e)
  unfolding input_step
  event-onward (call now) s = call-onward now
  event-onward (feed now i b) s = every-input m now b (λ t. t ≡ true) (λ c. Onward m (fed m c b)) on (answer-on b) (λ id o f c. result-on b id o c) i s

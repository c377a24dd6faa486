-- An attempt that starts, and one that ends, keep the rules; so does an ECH retry.
use Prim.Native.Nat.{ℕ, ◌+◌, ◌-◌, ◌<◌}
use mathlib.Core.Path.{◌≡◌, refl, sym, ap, ◌∙◌}
use mathlib.Core.Bool.{Bool, true, false, not, cond}
use mathlib.Core.List.{List, [], ◌∷◌, ◌++◌, map, append_assoc, append-nil}
use native.Mathlib.Omega.{arith}
use lib.Dec.{eqb as nat_eq, ltb as nat_lt, leb as nat_le}
use lib.ListN.{length, get_or, set, length-set, length-map, get_or-map}
use lib.Seq.{take-set-lt, get_or-take, get_or-set_same}
use borrow.Author.Tests.{eqb-true, le-ltb, lt-ltb}
use Rattle.records.specs.Lists.{each, some?}
use Rattle.records.specs.Services.{has_ech}
use Rattle.records.specs.declared.names.Ech.{Ech}
use Rattle.records.specs.declared.names.EchPlace.{EchPlace}
use Rattle.records.specs.declared.names.EchPlace.TheVariants.{Without, At}
use Rattle.records.specs.declared.endpoints.Endpoint.{Endpoint}
use Rattle.state.specs.State.{no_attempt, asked, tried, retries_of, is_open, has_won, new_attempt, with_state}
use Rattle.state.specs.declared.Machine.{Machine}
use Rattle.state.specs.declared.attempts.State.{State}
use Rattle.state.specs.declared.attempts.State.TheVariants as state
use Rattle.state.specs.declared.attempts.Attempt.{Attempt}
use Rattle.state.specs.declared.attempts.Attempts.{Attempts}
use Rattle.state.specs.declared.changes.CallChange.TheVariants.{Tries, Cancels}
use Rattle.state.specs.declared.changes.InputChange.TheVariants.{Ends, Retries}
use Rattle.input.specs.Input.{attempt_at}
use Rattle.after.specs.After.{put_ech}
use Rattle.machine.specs.Steps.{called, fed}
use Rattle.machine.specs.declared.calls.Beside.{Beside}
use Rattle.standing.specs.Lists.{◌and◌, ◌or◌, every, every_at, total, has}
use Rattle.standing.specs.Standing.{zero?, record_ids, attempt_id, ids_of, has_failed, is_cancelled, won, refused, opened, phase, kept, ech_in, attempt_in, ech_stands}
use Rattle.standing.specs.Sound.{ech_sound}
use Rattle.standing.proofs.Lists.{no, both, left, right, or-imp, or_left, or_right, or-true, or-second, every-imp, every-at, every_set, every-last, some-set, some-append, at-imp, at_set, apart-last, eqb-sym, used-more, used-same, used-set, used-last, used-length, total-append, total-set, Grows, mark-append, mark_set, has-append, has_last}
use Rattle.standing.proofs.Parts.{Standing, Numbered, fits_more, fits-put, numbers_more, numbers-same}
use Rattle.standing.proofs.Tables.{push_attempt, change_attempt, push_retry, attempt-more, attempt-put, retry-more, next-id}

-- Cancelled only once one has succeeded

abbrev wins : Attempt → Bool
wins x = has_won x.state

abbrev stays : Attempt → Bool
stays x = not (is_cancelled x.state)

won-more : (l : List Attempt) (x : Attempt) → stays x ≡ true → (some? wins l or every stays l) ≡ true → (some? wins (l ++ (x ∷ [])) or every stays (l ++ (x ∷ []))) ≡ true
won-more l x e h = go (some? wins l) refl
  where
    go : (b : Bool) → some? wins l ≡ b → (some? wins (l ++ (x ∷ [])) or every stays (l ++ (x ∷ []))) ≡ true
    go true f = or_left _ _ (some-append wins l (x ∷ []) f)
    go false f = or_right _ true _ (λ t. every-last stays l x (or-second _ _ f h) e) (or-true _)

won-set : (l : List Attempt) (i : ℕ) (x d : Attempt) → (wins (get_or l i d) ≡ true → ⊥) → stays x ≡ true → (some? wins l or every stays l) ≡ true → (some? wins (set l i x) or every stays (set l i x)) ≡ true
won-set l i x d n e h = go (some? wins l) refl
  where
    go : (b : Bool) → some? wins l ≡ b → (some? wins (set l i x) or every stays (set l i x)) ≡ true
    go true f = or_left _ _ (some-set wins l i x d (λ w. absurd (n w)) f)
    go false f = or_right _ true _ (λ t. every_set stays l i x e (or-second _ _ f h)) (or-true _)

-- An attempt starts

module _ (m : Machine) (h : Standing m) (now : ℕ) (e : Endpoint) (retry : Bool) (room : m.attempts.count < 32)
    (known : attempt_in (phase m.queries) (retries_of m.retries) (new_attempt m.ids.next e now retry) ≡ true) where
  abbrev a : Attempts
  a = m.attempts

  abbrev x : Attempt
  x = new_attempt m.ids.next e now retry

  inside : a.count < length a.list
  inside = omega (arith, h.room.attempts.size)

  grows : Grows (ids_of m.queries a) m.ids.next (ids_of m.queries (push_attempt a x))
  unfolding ids_of
  grows =
      let f = each record_ids (asked m.queries) in
      let k = map attempt_id (tried a) in
      record {
        before = f ++ k;
        after = [];
        without = sym (append-nil (f ++ k));
        with = ap (λ l. f ++ l) (used-last attempt_id a.list a.count x inside) ∙ sym (append_assoc f k (m.ids.next ∷ []));
      }

  more-opened : total opened (tried (push_attempt a x)) ≡ total opened (tried a) + 1
  unfolding total
  more-opened = rw (used-more a.list a.count x inside, total-append)

  still-won : won (push_attempt a x) ≡ true
  unfolding won
  still-won = rw (used-more a.list a.count x inside) (won-more (tried a) x refl h.winner)

  pub start-stands : Standing (called m (Tries a.count x))
  start-stands =
      rw (attempt-more a x room, next-id m h)
      (record {
        room = record { alts = h.room.alts; queries = h.room.queries; services = h.room.services; attempts = fits_more h.room.attempts x room; retries = h.room.retries };
        numbers = numbers_more h.numbers m.queries (push_attempt a x) grows (omega arith);
        records = h.records;
        order = h.order;
        winner = still-won;
        again = record {
          failures = rw (used-last refused a.list a.count x inside) (every-imp _ _ (λ i. mark-append (map refused (tried a)) (refused x ∷ []) i) (retries_of m.retries) h.again.failures);
          once = h.again.once;
          fewer = omega (arith, more-opened, h.again.fewer);
        };
        places = record { names = h.places.names; ends = rw (used-more a.list a.count x inside) (every-last _ (tried a) x h.places.ends known) };
        services = h.services;
        tables = h.tables;
        settings = h.settings;
      })

-- An attempt in progress ends

not-refused : (s : State) (b : Bool) → is_open s ≡ true → (has_failed s and b) ≡ false
unfolding ◌and◌
not-refused state.InProgress b e = refl
not-refused state.Succeeded b e = refl
not-refused state.Failed b e = absurd (no e)
not-refused state.Cancelled b e = refl

not-winner : (s : State) → is_open s ≡ true → has_won s ≡ true → ⊥
not-winner state.InProgress e f = no f
not-winner state.Succeeded e f = no e
not-winner state.Failed e f = no f
not-winner state.Cancelled e f = no f

module _ (m : Machine) (h : Standing m) (i : ℕ) (b : i < m.attempts.count) (going : is_open (attempt_at m.attempts i).state ≡ true) (s : State) (closed : is_open s ≡ false) where
  abbrev tries : Attempts
  tries = m.attempts

  abbrev old : Attempt
  old = attempt_at tries i

  abbrev new : Attempt
  new = with_state old s

  unfoldable pub marks : List Bool
  marks = map refused (tried tries)

  pub within : i < length (tried tries)
  within = rw (used-length tries.list tries.count (omega (arith, h.room.attempts.size, h.room.attempts.few))) b

  old-is : get_or (tried tries) i no_attempt ≡ old
  old-is = get_or-take tries.count tries.list i no_attempt b

  -- no retry names it
  pub unmarked : get_or marks i false ≡ false
  unfolding marks ◌and◌
  unmarked = get_or-map refused (tried tries) i no_attempt ∙ ap refused old-is ∙ not-refused old.state _ going

  end-ids : ids_of m.queries (change_attempt tries i new) ≡ ids_of m.queries tries
  unfolding ids_of
  end-ids = ap (λ l. each record_ids (asked m.queries) ++ l) (used-same attempt_id tries.list tries.count i new no_attempt b refl)

  pub end-numbers : Numbered m.ids.next m.queries (change_attempt tries i new)
  end-numbers = numbers-same h.numbers m.queries (change_attempt tries i new) end-ids refl

  pub end-marks : every (λ j. get_or (map refused (tried (change_attempt tries i new))) j false) (retries_of m.retries) ≡ true
  unfolding marks
  end-marks = rw (used-set refused tries.list tries.count i new b) (every-imp _ _ (λ j. mark_set marks i (refused new) j unmarked) (retries_of m.retries) h.again.failures)

  pub one-closed : total opened (tried (change_attempt tries i new)) + 1 ≡ total opened (tried tries)
  one-closed =
      let o : opened old ≡ 1 = rw going in
      let c : opened new ≡ 0 = rw closed in
      let t = total-set opened (tried tries) i new no_attempt within in
      rw (take-set-lt tries.count tries.list i new b) (omega (arith, t, ap opened old-is))

  pub end-ends : (p : Attempt → Bool) → p new ≡ p old → every p (tried tries) ≡ true → every p (tried (change_attempt tries i new)) ≡ true
  end-ends p e f = rw (take-set-lt tries.count tries.list i new b) (every_set p (tried tries) i new (e ∙ (rw old-is at (every-at p (tried tries) i no_attempt within f))) f)

  no-winner : wins (get_or (tried tries) i no_attempt) ≡ true → ⊥
  no-winner w = not-winner old.state going (rw old-is at w)

  -- cancelled only where one has won
  pub end-won : is_cancelled s ≡ false → won (change_attempt tries i new) ≡ true
  unfolding won
  end-won e = rw (take-set-lt tries.count tries.list i new b) (won-set (tried tries) i new no_attempt no-winner (ap not e) h.winner)

  pub cancel-won : some? wins (tried tries) ≡ true → won (change_attempt tries i new) ≡ true
  unfolding won
  cancel-won e = rw (take-set-lt tries.count tries.list i new b) (or_left _ _ (some-set wins (tried tries) i new no_attempt (λ w. absurd (no-winner w)) e))

  -- the machine with the attempt ended
  abbrev pub ended : Machine
  ended =
      record {
        rules = m.rules;
        timing = m.timing;
        alts = m.alts;
        ids = m.ids;
        queries = m.queries;
        answers = m.answers;
        services = m.services;
        attempts = change_attempt tries i new;
        retries = m.retries;
        names = m.names;
        echs = m.echs;
      }

  end-stands : won (change_attempt tries i new) ≡ true → Standing ended
  end-stands w =
      record {
        room = record { alts = h.room.alts; queries = h.room.queries; services = h.room.services; attempts = fits-put h.room.attempts i new b; retries = h.room.retries };
        numbers = end-numbers;
        records = h.records;
        order = h.order;
        winner = w;
        again = record { failures = end-marks; once = h.again.once; fewer = omega (arith, one-closed, h.again.fewer) };
        places = record { names = h.places.names; ends = end-ends (attempt_in (phase m.queries) (retries_of m.retries)) refl h.places.ends };
        services = h.services;
        tables = h.tables;
        settings = h.settings;
      }

  pub result-stands : is_cancelled s ≡ false → (beside : Beside) → Standing (fed m (Ends i new) beside)
  result-stands e beside = rw (attempt-put tries i new b h.room.attempts.few) (end-stands (end-won e))

  pub cancel-stands : some? wins (tried tries) ≡ true → Standing (called m (Cancels i new))
  cancel-stands e = rw (attempt-put tries i new b h.room.attempts.few) (end-stands (cancel-won e))

-- An ECH retry: the attempt fails, a retry comes, and its bytes lie at 8 + i

kept_more : (k : ℕ) (rs : List ℕ) (i p : ℕ) → kept k rs p ≡ true → kept k (rs ++ (i ∷ [])) p ≡ true
unfolding kept
kept_more k rs i p h = go (nat_lt p 4) (nat_lt p 8) h
  where
    go : (b c : Bool) → cond b (nat_le 1 k) (cond c (nat_le 2 k) (has (p - 8) rs)) ≡ true → cond b (nat_le 1 k) (cond c (nat_le 2 k) (has (p - 8) (rs ++ (i ∷ [])))) ≡ true
    go true c e = e
    go false true e = e
    go false false e = has-append (p - 8) rs (i ∷ []) e

kept-last : (k : ℕ) (rs : List ℕ) (i : ℕ) → kept k (rs ++ (i ∷ [])) (8 + i) ≡ true
unfolding kept
kept-last k rs i =
    let z : 8 + i - 8 ≡ i = omega arith in
    rw (le-ltb (8 + i) 4 (omega arith), le-ltb (8 + i) 8 (omega arith), z) (has_last rs i)

ech-more : (k : ℕ) (rs : List ℕ) (i : ℕ) (e : EchPlace) → ech_in k rs e ≡ true → ech_in k (rs ++ (i ∷ [])) e ≡ true
ech-more k rs i Without h = refl
ech-more k rs i (At p) h = kept_more k rs i p h

in-more : (k : ℕ) (rs : List ℕ) (i : ℕ) (a : Attempt) → attempt_in k rs a ≡ true → attempt_in k (rs ++ (i ∷ [])) a ≡ true
in-more k rs i a h = both (left _ _ h) (ech-more k rs i a.endpoint.ech (right _ _ h))

stands-more : (k : ℕ) (rs : List ℕ) (i p : ℕ) (e : Ech) → ech_stands k rs p e ≡ true → ech_stands k (rs ++ (i ∷ [])) p e ≡ true
unfolding ech_stands
stands-more k rs i p e h = both (left _ _ h) (or-imp (kept k rs p) (zero? e.len) (kept k (rs ++ (i ∷ [])) p) (kept_more k rs i p) (right _ _ h))

sound-stands : (k : ℕ) (rs : List ℕ) (p : ℕ) (e : Ech) → kept k rs p ≡ true → ech_sound true e ≡ true → ech_stands k rs p e ≡ true
unfolding ech_stands ech_sound
sound-stands k rs p e f h = both (left _ _ h) (or_left _ _ f)

module _ (m : Machine) (h : Standing m) (i : ℕ) (b : i < m.attempts.count) (going : is_open (attempt_at m.attempts i).state ≡ true)
    (with-ech : has_ech (attempt_at m.attempts i).endpoint.ech ≡ true) (no-retry : (attempt_at m.attempts i).retry ≡ false) (beside : Beside) (canonical : ech_sound true beside.retry ≡ true) where
  abbrev rs : List ℕ
  rs = retries_of m.retries

  abbrev broken : Attempt
  broken = with_state (attempt_at m.attempts i) state.Failed

  abbrev after : Attempts
  after = change_attempt m.attempts i broken

  -- there is room, since it was in progress
  room-left : m.retries.count < 32
  room-left = omega (arith, one-closed m h i b going state.Failed refl, h.again.fewer, h.room.attempts.few)

  rs-more : retries_of (push_retry m.retries i) ≡ rs ++ (i ∷ [])
  rs-more = used-more m.retries.list m.retries.count i (omega (arith, room-left, h.room.retries.size))

  -- it is not among the retries
  is-new : (j : ℕ) → get_or (marks m h i b going state.Failed refl) j false ≡ true → not (nat_eq i j) ≡ true
  is-new j e = go (nat_eq i j) refl
    where
      go : (t : Bool) → nat_eq i j ≡ t → not t ≡ true
      go true g = absurd (no (sym (unmarked m h i b going state.Failed refl) ∙ (rw (← (eqb-true i j g)) at e)))
      go false g = refl

  marked : get_or (map refused (tried after)) i false ≡ true
  unfolding ◌and◌
  marked =
      let w : i < length (map refused (tried m.attempts)) = rw length-map (within m h i b going state.Failed refl) in
      rw (used-set refused m.attempts.list m.attempts.count i broken b, get_or-set_same (map refused (tried m.attempts)) i (refused broken) false w, with-ech, no-retry)

  ech-put : put_ech m.echs i beside.retry ≡ record { list = set m.echs.list (8 + i) beside.retry }
  unfolding put_ech
  ech-put = rw (lt-ltb i 32 (omega (arith, h.room.attempts.few)))

  new-echs : every_at (ech_stands (phase m.queries) (rs ++ (i ∷ []))) 0 (set m.echs.list (8 + i) beside.retry) ≡ true
  new-echs =
      let z : 8 + i + 0 ≡ 8 + i = omega arith in
      at_set _ 0 m.echs.list (8 + i) beside.retry
      (rw z (sound-stands (phase m.queries) (rs ++ (i ∷ [])) (8 + i) beside.retry (kept-last (phase m.queries) rs i) canonical))
      (at-imp _ _ (stands-more (phase m.queries) rs i) 0 m.echs.list h.tables.echs)

  pub retry-stands : Standing (fed m (Retries i broken m.retries.count) beside)
  unfolding marks
  retry-stands =
      rw (attempt-put m.attempts i broken b h.room.attempts.few, retry-more m.retries i room-left (omega (arith, h.room.attempts.few)), ech-put)
      (record {
        room = record { alts = h.room.alts; queries = h.room.queries; services = h.room.services; attempts = fits-put h.room.attempts i broken b; retries = fits_more h.room.retries i room-left };
        numbers = end-numbers m h i b going state.Failed refl;
        records = h.records;
        order = h.order;
        winner = end-won m h i b going state.Failed refl refl;
        again = record {
          failures = rw rs-more (every-last _ rs i (end-marks m h i b going state.Failed refl) marked);
          once = rw rs-more (apart-last nat_eq eqb-sym rs i (every-imp _ _ is-new rs h.again.failures) h.again.once);
          fewer = omega (arith, one-closed m h i b going state.Failed refl, h.again.fewer);
        };
        places = rw rs-more (record {
          names = h.places.names;
          ends = end-ends m h i b going state.Failed refl (attempt_in (phase m.queries) (rs ++ (i ∷ []))) refl (every-imp _ _ (in-more (phase m.queries) rs i) (tried m.attempts) h.places.ends);
        });
        services = h.services;
        tables = rw rs-more (record {
          name_room = h.tables.name_room;
          names = h.tables.names;
          ech_room = rw length-set h.tables.ech_room;
          echs = new-echs;
        });
        settings = h.settings;
      })

-- What a query, an attempt and a cancel ask for isn't asked for again.
use Prim.Native.Nat.{ℕ, zero, suc, ◌<◌, ◌≤◌}
use mathlib.Core.Path.{◌≡◌, refl, sym, ap, ◌∙◌}
use mathlib.Core.Bool.{Bool, true, false, not, cond}
use mathlib.Core.List.{List, [], ◌∷◌, ◌++◌, map}
use mathlib.Core.Option.{none, some}
use native.Mathlib.Omega.{arith}
use lib.Dec.{eqb as nat_eq, leb as nat_le}
use lib.ListN.{length, get_or, set, length-map, get_or-map}
use lib.Seq.{get_or-take, get_or-set_same}
use borrow.Author.Tests.{eq-eqb, leb-false}
use Rattle.records.specs.Endpoints.{shown, same_endpoint}
use Rattle.records.specs.Lists.{each}
use Rattle.records.specs.Names.{name_bytes_at, name_bytes, same_at, same_name}
use Rattle.records.specs.Numbers.{kind_number}
use Rattle.records.specs.Queries.{no_query}
use Rattle.records.specs.declared.names.Names.{Names}
use Rattle.records.specs.declared.endpoints.Endpoint.{Endpoint}
use Rattle.records.specs.declared.queries.Kind.{Kind}
use Rattle.records.specs.declared.queries.Query.{Query}
use Rattle.records.specs.declared.queries.Queries.{Queries}
use Rattle.records.specs.declared.queries.Refresh.TheVariants.{Idle}
use Rattle.records.proofs.Alike.{shown-to-same}
use Rattle.records.proofs.SameName.{same-name}
use Rattle.state.specs.State.{no_attempt, asked, tried, is_open, new_attempt, with_state}
use Rattle.state.specs.declared.Machine.{Machine}
use Rattle.state.specs.declared.attempts.State.TheVariants.{Cancelled}
use Rattle.state.specs.declared.attempts.Attempt.{Attempt}
use Rattle.state.specs.declared.attempts.Attempts.{Attempts}
use Rattle.state.specs.declared.changes.CallChange.TheVariants as calls
use Rattle.input.specs.Input.{record_at, attempt_at}
use Rattle.upcoming.specs.Next.{attempted}
use Rattle.machine.specs.Output.{wish_of, only, new_query, refreshed, query_grant, attempt_grant, grant_of, granted}
use Rattle.machine.specs.Steps.{called, turn_of, output_step}
use Rattle.machine.specs.declared.grant.Output.TheVariants as output
use Rattle.machine.specs.declared.grant.Table.TheVariants as table
use Rattle.machine.specs.declared.grant.Turn.{Turn}
use Rattle.machine.specs.declared.wish.Wish.{Wish}
use Rattle.machine.specs.declared.wish.Wish.TheVariants as wish
use Rattle.standing.specs.Lists.{every, apart}
use Rattle.standing.specs.Standing.{Key, key_of, key_at, keys, same_key, one_each, record_ids, attempt_id, ids_of, idle, named, named_key, phase, standing}
use Rattle.standing.specs.Kept.{Event, call, in_form, after, after_all, Ask, query, refresh, attempt, cancel, ask_of, asks_at, IsFor, Asked, Once}
use Rattle.standing.proofs.Lists.{no, both, left, right, every-at, none_passes, eqb-sym, used-length}
use Rattle.standing.proofs.Parts.{Standing, parts}
use Rattle.standing.proofs.Same.{key-sym}
use Rattle.standing.proofs.Tables.{query-more, query-put, attempt-more, attempt-put}
use Rattle.standing.proofs.Wanting.{Wants}
use Rattle.standing.proofs.Outputs.{fresh, Says, wish-says, output-stands}
use Rattle.standing.proofs.Events.{event-stands, events-stand}
use Rattle.standing.proofs.Onward.{Onward, event-onward}
use Rattle.standing.proofs.Attempted.{onward-attempted}

-- Members that are apart

module _ {B : Type 0} (r : B → B → Bool) where
  apart-rest : (a b : List B) → apart r (a ++ b) ≡ true → apart r b ≡ true
  unfolding apart
  apart-rest [] b h = h
  apart-rest (x ∷ a) b h = apart-rest a b (right _ _ h)

  -- two that are alike are one
  apart-same : ((x y : B) → r x y ≡ r y x) → (l : List B) (i j : ℕ) (d : B) → i < length l → j < length l → apart r l ≡ true
      → r (get_or l i d) (get_or l j d) ≡ true → i ≡ j
  unfolding apart
  apart-same s [] i j d b c h e = absurd (omega arith)
  apart-same s (x ∷ l) zero zero d b c h e = refl
  apart-same s (x ∷ l) zero (suc j) d b c h e = absurd (no (sym (ap not e) ∙ every-at (λ y. not (r x y)) l j d (omega arith) (left _ _ h)))
  apart-same s (x ∷ l) (suc i) zero d b c h e = absurd (no (sym (ap not (s x (get_or l i d) ∙ e)) ∙ every-at (λ y. not (r x y)) l i d (omega arith) (left _ _ h)))
  apart-same s (x ∷ l) (suc i) (suc j) d b c h e = ap suc (apart-same s l i j d (omega arith) (omega arith) (right _ _ h) e)

same_key_lem : (names : Names) (x y : Key) → x.kind ≡ y.kind → name_bytes_at names x.name ≡ name_bytes_at names y.name → same_key names x y ≡ true
unfolding same_key same_at
same_key_lem names x y k n = both (eq-eqb _ _ (ap kind_number k)) (ap (λ z. same_name z (name_bytes_at names y.name)) n ∙ same-name.itself _)

the-ask : (y x : Ask) → some y ≡ some x → y ≡ x
the-ask y x e = cc

no-ask : {x : Ask} → none ≡ some x → ⊥
no-ask e = let z : ◌≡◌ {A = ℕ} 0 1 = cc in omega arith

module _ (m : Machine) (h : Standing m) where
  abbrev q : Queries
  q = m.queries

  abbrev a : Attempts
  a = m.attempts

  query-room : q.count ≤ length q.list
  query-room = omega (arith, h.room.queries.size, h.room.queries.few)

  attempt-room : a.count ≤ length a.list
  attempt-room = omega (arith, h.room.attempts.size, h.room.attempts.few)

  -- the key of record p, and the id of attempt p, as they are read off the lists
  key-within : (p : ℕ) → p < q.count → p < length (keys q)
  unfolding keys
  key-within p b = rw (length-map, used-length q.list q.count query-room) b

  key-at : (p : ℕ) → p < q.count → get_or (keys q) p (key_of no_query) ≡ key_of (record_at q p)
  unfolding keys
  key-at p b = get_or-map key_of (asked q) p no_query ∙ ap key_of (get_or-take q.count q.list p no_query b)

  id-at : (p : ℕ) → p < a.count → get_or (map attempt_id (tried a)) p (attempt_id no_attempt) ≡ (attempt_at a p).id
  id-at p b = get_or-map attempt_id (tried a) p no_attempt ∙ ap attempt_id (get_or-take a.count a.list p no_attempt b)

  -- one record for a type and name, one attempt for an id
  one-record : (p r : ℕ) → p < q.count → r < q.count → same_key m.names (key_of (record_at q p)) (key_of (record_at q r)) ≡ true → p ≡ r
  unfolding one_each
  one-record p r b c e = apart-same (same_key m.names) (key-sym m.names) (keys q) p r (key_of no_query) (key-within p b) (key-within r c) h.records.one (rw (key-at p b, key-at r c) e)

  one-attempt : (p r : ℕ) → p < a.count → r < a.count → (attempt_at a p).id ≡ (attempt_at a r).id → p ≡ r
  unfolding ids_of
  one-attempt p r b c e =
      let long : length (map attempt_id (tried a)) ≡ a.count = rw length-map (used-length a.list a.count attempt-room) in
      apart-same nat_eq eqb-sym (map attempt_id (tried a)) p r (attempt_id no_attempt) (rw long b) (rw long c)
      (apart-rest nat_eq (each record_ids (asked q)) (map attempt_id (tried a)) h.numbers.distinct) (rw (id-at p b, id-at r c) (eq-eqb _ _ e))

  -- A query: no record is for the same

  query-once : (k : Kind) (p : ℕ) → q.count < 16 → Wants m k p
      → Once m (called m (calls.Asks q.count (new_query m.ids.next k p))) (query k (name_bytes_at m.names p))
  query-once k p b w = record { new = λ f. before f.0 f.1; held = held }
    where
      x : Query
      x = new_query m.ids.next k p

      before : (r : ℕ) → IsFor m k (name_bytes_at m.names p) r → ⊥
      before r f =
          no (sym (ap not (same_key_lem m.names (key_at k p) (key_of (record_at q r)) (sym f.kind) (sym f.name)))
          ∙ (rw (key-at r f.within) at (every-at (λ j. not (same_key m.names (key_at k p) j)) (keys q) r (key_of no_query) (key-within r f.within) w.new)))

      there : get_or (set q.list q.count x) q.count no_query ≡ x
      there = get_or-set_same q.list q.count x no_query (omega (arith, h.room.queries.size))

      held : Asked (called m (calls.Asks q.count x)) (query k (name_bytes_at m.names p))
      held = rw (query-more q x b) (q.count, record { within = omega arith; kind = ap (λ y. y.kind) there; name = ap (λ y. name_bytes_at m.names y.name) there })

  -- A refresh: it wasn't begun

  refresh-once : (p : ℕ) → p < q.count → (record_at q p).refresh ≡ Idle
      → Once m (called m (calls.Asks p (refreshed (record_at q p) m.ids.next))) (refresh (record_at q p).kind (name_bytes_at m.names (record_at q p).name))
  refresh-once p b e = record { new = λ f. before f.0 f.1 f.2; held = held }
    where
      x : Query
      x = refreshed (record_at q p) m.ids.next

      before : (r : ℕ) → IsFor m (record_at q p).kind (name_bytes_at m.names (record_at q p).name) r → idle (record_at q r).refresh ≡ false → ⊥
      before r f g =
          let z = one-record r p f.within b (same_key_lem m.names (key_of (record_at q r)) (key_of (record_at q p)) f.kind f.name) in
          no (sym (rw (z, e) at g))

      there : get_or (set q.list p x) p no_query ≡ x
      there = get_or-set_same q.list p x no_query (omega (arith, query-room))

      held : Asked (called m (calls.Asks p x)) (refresh (record_at q p).kind (name_bytes_at m.names (record_at q p).name))
      held =
          rw (query-put q p x b h.room.queries.few)
          (p, record { within = b; kind = ap (λ y. y.kind) there; name = ap (λ y. name_bytes_at m.names y.name) there }, ap (λ y. idle y.refresh) there)

  -- An attempt: no attempt shows the same

  attempt-once : (retry : Bool) (e : Endpoint) (now : ℕ) → a.count < 32 → fresh m h e ≡ true
      → Once m (called m (calls.Tries a.count (new_attempt m.ids.next e now retry))) (attempt (shown m.names m.echs e))
  unfolding attempted
  attempt-once retry e now b f = record { new = λ g. before g.0 g.1 g.2; held = held }
    where
      x : Attempt
      x = new_attempt m.ids.next e now retry

      untried : (t : Bool) → not t ≡ true → t ≡ false
      untried true g = absurd (no g)
      untried false g = refl

      before : (r : ℕ) → r < a.count → shown m.names m.echs (attempt_at a r).endpoint ≡ shown m.names m.echs e → ⊥
      before r c s =
          let alike = same_endpoint m.names m.echs in
          let n = every-at (λ y. not (alike e y.endpoint)) (tried a) r no_attempt (rw (used-length a.list a.count attempt-room) c) (none_passes (λ y. alike e y.endpoint) (tried a) (untried _ f)) in
          no (sym (ap not (shown-to-same m.names m.echs e (attempt_at a r).endpoint (sym s))) ∙ (rw (get_or-take a.count a.list r no_attempt c) at n))

      there : get_or (set a.list a.count x) a.count no_attempt ≡ x
      there = get_or-set_same a.list a.count x no_attempt (omega (arith, h.room.attempts.size))

      held : Asked (called m (calls.Tries a.count x)) (attempt (shown m.names m.echs e))
      held = rw (attempt-more a x b) (a.count, omega arith, ap (λ y. shown m.names m.echs y.endpoint) there)

  -- A cancel: the attempt was in progress

  cancel-once : (p : ℕ) → p < a.count → is_open (attempt_at a p).state ≡ true
      → Once m (called m (calls.Cancels p (with_state (attempt_at a p) Cancelled))) (cancel (attempt_at a p).id)
  cancel-once p b e = record { new = λ g. before g.0 g.1 g.2 g.3; held = held }
    where
      x : Attempt
      x = with_state (attempt_at a p) Cancelled

      before : (r : ℕ) → r < a.count → (attempt_at a r).id ≡ (attempt_at a p).id → is_open (attempt_at a r).state ≡ false → ⊥
      before r c f g = no (sym g ∙ ap (λ i. is_open (attempt_at a i).state) (one-attempt r p c b f) ∙ e)

      there : get_or (set a.list p x) p no_attempt ≡ x
      there = get_or-set_same a.list p x no_attempt (omega (arith, attempt-room))

      held : Asked (called m (calls.Cancels p x)) (cancel (attempt_at a p).id)
      held = rw (attempt-put a p x b h.room.attempts.few) (p, b, ap (λ y. y.id) there, ap (λ y. is_open y.state) there)

  -- What is given for a wish

  turn-once : (b : Bool) (t u : Turn) → ask_of m t.output ≡ none
      → (b ≡ false → (x : Ask) → ask_of m u.output ≡ some x → Once m (called m u.change) x)
      → (x : Ask) → ask_of m (cond b t u).output ≡ some x → Once m (called m (cond b t u).change) x
  turn-once true t u e f x g = absurd (no-ask (sym e ∙ g))
  turn-once false t u e f x g = f refl x g

  attempt-given : (retry : Bool) (e : Endpoint) (now : ℕ) → fresh m h e ≡ true → (x : Ask)
      → ask_of m (attempt_grant a.count m.ids.next retry e now).output ≡ some x
      → Once m (called m (attempt_grant a.count m.ids.next retry e now).change) x
  unfolding attempt_grant
  attempt-given retry e now f =
      turn-once (nat_le 32 a.count) (only (output.Full table.Attempts)) (record { output = output.Attempt m.ids.next retry e; change = calls.Tries a.count (new_attempt m.ids.next e now retry) }) refl
      (λ r y i. rw (← the-ask _ y i) (attempt-once retry e now (leb-false 32 a.count r) f))

  query-given : (k : Kind) (p : ℕ) → Wants m k p → (x : Ask) → ask_of m (query_grant q.count m.ids.next k p).output ≡ some x
      → Once m (called m (query_grant q.count m.ids.next k p).change) x
  unfolding query_grant
  query-given k p f =
      turn-once (nat_le 16 q.count) (only (output.Full table.Queries)) (record { output = output.Query m.ids.next k true p; change = calls.Asks q.count (new_query m.ids.next k p) }) refl
      (λ r y i. rw (← the-ask _ y i) (query-once k p (leb-false 16 q.count r) f))

  given-once : (w : Wish) (now : ℕ) → Says m h w → (x : Ask) → ask_of m (granted q a m.ids w now).output ≡ some x
      → Once m (called m (granted q a m.ids w now).change) x
  unfolding granted grant_of
  given-once (wish.Cancel p) now f = λ x e. rw (← the-ask _ x e) (cancel-once p f.0 f.1)
  given-once wish.Succeeded now f = λ x e. absurd (no-ask e)
  given-once (wish.Retry e) now f = attempt-given true e now f.1
  given-once (wish.Attempt e) now f = attempt-given false e now f.1
  given-once (wish.Query k p) now f = query-given k p f
  given-once (wish.Refresh p) now f = λ x e. rw (← the-ask _ x e) (refresh-once p f.0 f.2)
  given-once (wish.AttemptTimer n) now f = λ x e. absurd (no-ask e)
  given-once (wish.ResolutionTimer n) now f = λ x e. absurd (no-ask e)
  given-once (wish.Failed r) now f = λ x e. absurd (no-ask e)
  given-once wish.Waiting now f = λ x e. absurd (no-ask e)

  call-once : (now : ℕ) (x : Ask) → ask_of m (output_step m now).output ≡ some x → Once m (output_step m now).machine x
  unfolding output_step turn_of
  call-once now x e = given-once (wish_of m now) now (wish-says m h now) x e

  -- What was asked for stays so

  still-for : (later : Machine) → Onward m later → (k : Kind) (x : List ℕ) (p : ℕ) → IsFor m k x p → IsFor later k x p
  still-for later o k x p f =
      let known : named (phase q) (record_at q p).name ≡ true = rw (key-at p f.within) at (every-at (named_key (phase q)) (keys q) p (key_of no_query) (key-within p f.within) h.places.names) in
      record {
        within = omega (arith, f.within, o.records.count);
        kind = o.records.kinds p f.within ∙ f.kind;
        name = ap (λ i. name_bytes_at later.names i) (o.records.names p f.within) ∙ ap name_bytes (o.names (record_at q p).name known) ∙ f.name;
      }

  still-asked : (later : Machine) → Onward m later → (x : Ask) → Asked m x → Asked later x
  still-asked later o (query k x) f = (f.0, still-for later o k x f.0 f.1)
  still-asked later o (refresh k x) f = (f.0, still-for later o k x f.0 f.1, o.records.begun f.0 f.1.within f.2)
  still-asked later o (attempt e) f = let t = onward-attempted m later h o in (f.0, omega (arith, f.1, t.count), t.same f.0 f.1 ∙ f.2)
  still-asked later o (cancel i) f = (f.0, omega (arith, f.1, o.trials.count), o.trials.ids f.0 f.1 ∙ f.2, o.trials.ended f.0 f.1 f.3)

asked-on : (m : Machine) (es : List Event) → Standing m → every in_form es ≡ true → (x : Ask) → Asked m x → Asked (after_all m es) x
unfolding after_all every
asked-on m [] h s x f = f
asked-on m (e ∷ es) h s x f = asked-on (after m e) es (event-stands m e h (left _ _ s)) (right _ _ s) x (still-asked m h (after m e) (event-onward m h e (left _ _ s)) x f)

-- What a call asks for was not asked for before, and is in the tables afterwards.
pub ask-once : (m : Machine) (now : ℕ) (x : Ask) → standing m ≡ true → asks_at m now ≡ some x → Once m (after m (call now)) x
ask-once m now x h e = call-once m (parts m h) now x e

-- It stays there, whatever happens.
pub asked-stays : (m : Machine) (es : List Event) (x : Ask) → standing m ≡ true → every in_form es ≡ true → Asked m x → Asked (after_all m es) x
asked-stays m es x h s f = asked-on m es (parts m h) s x f

-- So no later call asks for it again.
pub asked-once : (m : Machine) (now : ℕ) (es : List Event) (later : ℕ) (x : Ask) → standing m ≡ true → every in_form es ≡ true
    → asks_at m now ≡ some x → asks_at (after_all (after m (call now)) es) later ≡ some x → ⊥
asked-once m now es later x h s e f =
    let g = output-stands m now (parts m h) in
    (call-once (after_all (after m (call now)) es) (events-stand (after m (call now)) es g s) later x f).new
    (asked-on (after m (call now)) es g s x (call-once m (parts m h) now x e).held)

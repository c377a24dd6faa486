-- Unused room is the zero value itself: one content has one value.
use Prim.Native.Nat.{ℕ, ◌-◌, ◌<◌}
use mathlib.Core.Path.{◌≡◌, refl, sym, ap, ◌∙◌}
use mathlib.Core.Bool.{Bool, true, false, not}
use mathlib.Core.List.{List, [], ◌∷◌, ◌++◌}
use native.Mathlib.Nat.{zero-add}
use native.Mathlib.Omega.{arith}
use lib.ListN.{length, get_or, take, drop, replicate, take-append-drop, length-take, length-drop, get_or-map}
use borrow.Author.Tests.{eqb-true, lt-ltb}
use Rattle.records.specs.Lists.{padded}
use Rattle.records.specs.Names.{no_name, blank_name, no_ech, blank_ech, name_at, ech_at}
use Rattle.records.specs.Queries.{no_query, no_addr, blank_addresses}
use Rattle.records.specs.Rules.{no_alt}
use Rattle.records.specs.Services.{no_service, no_hint, has_ech}
use Rattle.records.specs.declared.names.Name.{Name}
use Rattle.records.specs.declared.names.Ech.{Ech}
use Rattle.records.specs.declared.names.EchPlace.{EchPlace}
use Rattle.records.specs.declared.names.EchPlace.TheVariants.{Without, At}
use Rattle.records.specs.declared.rules.Alt.{Alt}
use Rattle.records.specs.declared.rules.AltHost.{AltHost}
use Rattle.records.specs.declared.rules.AltHost.TheVariants as alt
use Rattle.records.specs.declared.rules.Port.{Port}
use Rattle.records.specs.declared.rules.Port.TheVariants as port
use Rattle.records.specs.declared.rules.Version.{Version}
use Rattle.records.specs.declared.rules.Version.TheVariants as version
use Rattle.records.specs.declared.queries.Addr.{Addr}
use Rattle.records.specs.declared.queries.Kind.TheVariants.{Https}
use Rattle.records.specs.declared.queries.Answer.{Answer}
use Rattle.records.specs.declared.queries.Answer.TheVariants as answer
use Rattle.records.specs.declared.queries.Query.{Query}
use Rattle.records.specs.declared.services.Hint.{Hint}
use Rattle.records.specs.declared.services.Service.{Service}
use Rattle.records.specs.declared.endpoints.Rank.TheVariants as rank
use Rattle.records.specs.declared.endpoints.Target.{Target}
use Rattle.records.specs.declared.endpoints.Target.TheVariants.{V4, V6, Named}
use Rattle.records.proofs.Numbered.{one-kind, one_rank}
use Rattle.state.specs.State.{no_attempt, is_open}
use Rattle.state.specs.declared.Machine.{Machine}
use Rattle.input.specs.Input.{record_at}
use Rattle.state.specs.declared.attempts.Attempt.{Attempt}
use Rattle.state.specs.declared.attempts.State.{State}
use Rattle.state.specs.declared.attempts.State.TheVariants as state
use Rattle.standing.specs.Lists.{every}
use Rattle.standing.specs.Standing.{fits, zero?, empty_addr, empty_hint, pending, empty_query, own_port, empty_service, empty_target, empty_attempt, origin_host, is_h3, empty_alt, held, addresses_stand, addressed, service_stands, name_stands, ech_stands, standing}
use Rattle.standing.specs.Kept.{ZerosPast, Rooms}
use Rattle.standing.proofs.Lists.{no, left, right, rule, at_at}
use Rattle.standing.proofs.Parts.{fits-of, to-fits, Standing, parts}
use Rattle.standing.proofs.Answering.{is-idle}
use Rattle.standing.proofs.Wanting.{service-at}

-- What is empty is the zero

off : (b : Bool) → not b ≡ true → b ≡ false
off true e = absurd (no e)
off false e = refl

is-pending : (a : Answer) → pending a ≡ true → a ≡ answer.Pending
is-pending answer.Pending e = refl
is-pending (answer.Failed t) e = absurd (no e)
is-pending (answer.Held t n) e = absurd (no e)

without : (e : EchPlace) → not (has_ech e) ≡ true → e ≡ Without
without Without h = refl
without (At p) h = absurd (no h)

of-origin : (p : Port) → not (own_port p) ≡ true → p ≡ port.Origin
of-origin port.Origin h = refl
of-origin (port.Own p) h = absurd (no h)

zero-target : (t : Target) → empty_target t ≡ true → t ≡ V4 0
zero-target (V4 a) h = ap V4 (eqb-true a 0 h)
zero-target (V6 a b c) h = absurd (no h)
zero-target (Named p) h = absurd (no h)

in-progress : (s : State) → is_open s ≡ true → s ≡ state.InProgress
in-progress state.InProgress h = refl
in-progress state.Succeeded h = absurd (no h)
in-progress state.Failed h = absurd (no h)
in-progress state.Cancelled h = absurd (no h)

is-origin : (a : AltHost) → origin_host a ≡ true → a ≡ alt.Origin
is-origin alt.Origin h = refl
is-origin (alt.Own x) h = absurd (no h)

is-h3 : (v : Version) → is_h3 v ≡ true → v ≡ version.H3
is-h3 version.H3 h = refl
is-h3 version.H2 h = absurd (no h)
is-h3 version.H1 h = absurd (no h)

pub zero_number : (n : ℕ) → zero? n ≡ true → n ≡ 0
zero_number n h = eqb-true n 0 h

pub zero-addr : (a : Addr) → empty_addr a ≡ true → a ≡ no_addr
zero-addr a h = λ j. record { hi = zero_number a.hi (rule 0 _ h) j; lo = zero_number a.lo (rule 1 _ h) j; scope = zero_number a.scope (rule 2 _ h) j }

pub zero-hint : (x : Hint) → empty_hint x ≡ true → x ≡ no_hint
zero-hint x h = λ j. record { hi = zero_number x.hi (left _ _ h) j; lo = zero_number x.lo (right _ _ h) j }

pub zero-query : (q : Query) → empty_query q ≡ true → q ≡ no_query
unfolding empty_query
zero-query q h =
    λ j. record {
      id = zero_number q.id (rule 0 _ h) j;
      kind = one-kind q.kind Https (eqb-true _ 0 (rule 3 _ h)) j;
      name = zero_number q.name (rule 1 _ h) j;
      stale = off q.stale (rule 2 _ h) j;
      answer = is-pending q.answer (rule 4 _ h) j;
      refresh = is-idle q.refresh (rule 5 _ h) j;
    }

pub zero-attempt : (a : Attempt) → empty_attempt a ≡ true → a ≡ no_attempt
unfolding empty_attempt
zero-attempt a h =
    λ j. record {
      id = zero_number a.id (rule 0 _ h) j;
      endpoint = record {
        target = zero-target a.endpoint.target (rule 1 _ h) j;
        port = zero_number a.endpoint.port (rule 2 _ h) j;
        rank = one_rank a.endpoint.rank rank.H3 (eqb-true _ 0 (rule 3 _ h)) j;
        ech = without a.endpoint.ech (rule 4 _ h) j;
      };
      started = zero_number a.started (rule 5 _ h) j;
      state = in-progress a.state (rule 6 _ h) j;
      retry = off a.retry (rule 7 _ h) j;
    }

pub zero-alt : (a : Alt) → empty_alt a ≡ true → a ≡ no_alt
zero-alt a h = λ j. record { host = is-origin a.host (rule 0 _ h) j; port = of-origin a.port (rule 1 _ h) j; version = is-h3 a.version (rule 2 _ h) j }

-- A list in a room

module _ {A : Type 0} (empty : A → Bool) (z : A) (is : (x : A) → empty x ≡ true → x ≡ z) where
  all-zeros : (l : List A) → every empty l ≡ true → l ≡ replicate (length l) z
  unfolding every
  all-zeros [] h = refl
  all-zeros (x ∷ l) h = λ j. is x (left _ _ h) j ∷ all-zeros l (right _ _ h) j

  pub zeros-past : (n count : ℕ) (l : List A) → fits n empty count l ≡ true → ZerosPast n z count l
  unfolding padded
  zeros-past n count l h =
      let f = to-fits n empty count l h in
      let k : length (drop count l) ≡ n - length (take count l) = rw (length-drop, length-take) (omega (arith, f.size, f.few)) in
      sym (take-append-drop count l) ∙ ap (λ r. take count l ++ r) (all-zeros (drop count l) f.rest ∙ ap (λ i. replicate i z) k)

  -- nothing in use: the room itself is zero
  pub zeros-all : (n count : ℕ) (l : List A) → count ≡ 0 → fits n empty count l ≡ true → l ≡ replicate n z
  unfolding padded
  zeros-all n count l e h = let z' : n - 0 ≡ n = omega arith in zeros-past n 0 l (rw e at h) ∙ ap (λ i. replicate i z) z'

-- so two lists in one room that agree on what is in use are one
pub same-room : {A : Type 0} (size : ℕ) (z : A) (n : ℕ) (l k : List A) → ZerosPast size z n l → ZerosPast size z n k → take n l ≡ take n k → l ≡ k
same-room size z n l k f g e = f ∙ ap (padded size z) e ∙ sym g

pub zero-service : (s : Service) → empty_service s ≡ true → s ≡ no_service
unfolding empty_service no_service
zero-service s h =
    let four = zero_number s.n4 (rule 7 _ h) in
    let six = zero_number s.n6 (rule 9 _ h) in
    λ j. record {
      priority = zero_number s.priority (rule 0 _ h) j;
      name = zero_number s.name (rule 1 _ h) j;
      ech = without s.ech (rule 2 _ h) j;
      versions = record { h3 = off s.versions.h3 (rule 3 _ h) j; h2 = off s.versions.h2 (rule 4 _ h) j; h1 = off s.versions.h1 (rule 5 _ h) j };
      port = of-origin s.port (rule 6 _ h) j;
      n4 = four j;
      v4 = zeros-all zero? 0 zero_number 4 s.n4 s.v4 four (rule 8 _ h) j;
      n6 = six j;
      v6 = zeros-all empty_hint no_hint zero-hint 4 s.n6 s.v6 six (rule 10 _ h) j;
    }

-- a name of length 0, and ECH bytes of length 0, in their rooms
pub zero-name : (n : Name) → fits 253 zero? n.len n.bytes ≡ true → n.len ≡ 0 → n ≡ no_name
unfolding no_name
zero-name n h e = λ j. record { len = e j; bytes = zeros-all zero? 0 zero_number 253 n.len n.bytes e h j }

pub zero-ech : (x : Ech) → fits 512 zero? x.len x.bytes ≡ true → x.len ≡ 0 → x ≡ no_ech
unfolding no_ech
zero-ech x h e = λ j. record { len = e j; bytes = zeros-all zero? 0 zero_number 512 x.len x.bytes e h j }

-- The whole

module _ (m : Machine) (h : Standing m) where
  answer-room : (p : ℕ) → p < 16 → ZerosPast 8 no_addr (held (record_at m.queries p)) (get_or m.answers.list p blank_addresses).list
  unfolding addressed addresses_stand
  answer-room p b =
      rw (← get_or-map held m.queries.list p no_query) (zeros-past empty_addr no_addr zero-addr 8 _ _
      (left _ _ (rw zero-add at (at_at _ 0 m.answers.list p blank_addresses (omega (arith, h.records.size)) h.records.zeros))))

  name-room : (p : ℕ) → p < 14 → ZerosPast 253 0 (name_at m.names p).len (name_at m.names p).bytes
  unfolding name_at name_stands
  name-room p b =
      rw (lt-ltb p 14 b) (zeros-past zero? 0 zero_number 253 _ _
      (rule 0 _ (rw zero-add at (at_at _ 0 m.names.list p blank_name (omega (arith, h.tables.name_room)) h.tables.names))))

  ech-room : (p : ℕ) → p < 40 → ZerosPast 512 0 (ech_at m.echs p).len (ech_at m.echs p).bytes
  unfolding ech_at ech_stands
  ech-room p b =
      rw (lt-ltb p 40 b) (zeros-past zero? 0 zero_number 512 _ _
      (left _ _ (rw zero-add at (at_at _ 0 m.echs.list p blank_ech (omega (arith, h.tables.ech_room)) h.tables.echs))))

  rooms : Rooms m
  unfolding service_stands
  rooms =
      record {
        alts = zeros-past empty_alt no_alt zero-alt 4 _ _ (fits-of h.room.alts);
        queries = zeros-past empty_query no_query zero-query 16 _ _ (fits-of h.room.queries);
        services = zeros-past empty_service no_service zero-service 4 _ _ (fits-of h.room.services);
        attempts = zeros-past empty_attempt no_attempt zero-attempt 32 _ _ (fits-of h.room.attempts);
        retries = zeros-past zero? 0 zero_number 32 _ _ (fits-of h.room.retries);
        addresses = answer-room;
        fours = λ i b. zeros-past zero? 0 zero_number 4 _ _ (rule 2 _ (service-at m h i b));
        sixes = λ i b. zeros-past empty_hint no_hint zero-hint 4 _ _ (rule 3 _ (service-at m h i b));
        names = name-room;
        echs = ech-room;
      }

-- What a machine that keeps the standing rules doesn't use is zero, in every room.
pub one_value : (m : Machine) → standing m ≡ true → Rooms m
one_value m h = rooms m (parts m h)

-- The standing rules: one test of the whole machine, made of small ones. Each takes only the parts that it reads, so that a step which leaves
-- these alone keeps it. The made machine passes (proofs/Making.antt), and every step keeps it (proofs/Outputs.antt and
-- proofs/Inputs.antt).
use Rattle.std.specs.Prelude.{ℕ, ◌+◌, ◌-◌, ◌*◌, ◌^◌, Bool, true, false, not, cond, List, [], ◌∷◌, ◌++◌, map, nat_eq, nat_lt, nat_le, length, drop, get_or}
use Rattle.numbers.specs.Names.{name_ok}
use Rattle.records.specs.Lists.{each, some?}
use Rattle.records.specs.Numbers.{kind_number, rank_number}
use Rattle.records.specs.Names.{same_at, name_bytes, name_bytes_at, same_bytes}
use Rattle.records.specs.Rules.{is_named, allows_six, allows_four}
use Rattle.records.specs.Services.{offered, has_ech}
use Rattle.records.specs.declared.names.Name.{Name}
use Rattle.records.specs.declared.names.Names.{Names}
use Rattle.records.specs.declared.names.Ech.{Ech}
use Rattle.records.specs.declared.names.Echs.{Echs}
use Rattle.records.specs.declared.names.EchPlace.{EchPlace}
use Rattle.records.specs.declared.names.EchPlace.TheVariants.{Without, At}
use Rattle.records.specs.declared.rules.Rules.{Rules}
use Rattle.records.specs.declared.rules.Alt.{Alt}
use Rattle.records.specs.declared.rules.Alts.{Alts}
use Rattle.records.specs.declared.rules.AltHost.{AltHost}
use Rattle.records.specs.declared.rules.AltHost.TheVariants as alt
use Rattle.records.specs.declared.rules.Port.{Port}
use Rattle.records.specs.declared.rules.Port.TheVariants as port
use Rattle.records.specs.declared.rules.Version.{Version}
use Rattle.records.specs.declared.rules.Version.TheVariants as version
use Rattle.records.specs.declared.rules.Mode.{Mode}
use Rattle.records.specs.declared.rules.Mode.TheVariants as mode
use Rattle.records.specs.declared.rules.Preference.{Preference}
use Rattle.records.specs.declared.queries.Kind.{Kind}
use Rattle.records.specs.declared.queries.Kind.TheVariants.{Https, Aaaa, A}
use Rattle.records.specs.declared.queries.Answer.{Answer}
use Rattle.records.specs.declared.queries.Answer.TheVariants as answer
use Rattle.records.specs.declared.queries.Refresh.{Refresh}
use Rattle.records.specs.declared.queries.Refresh.TheVariants.{Idle, InFlight, Done}
use Rattle.records.specs.declared.queries.Addr.{Addr}
use Rattle.records.specs.declared.queries.Addresses.{Addresses}
use Rattle.records.specs.declared.queries.Query.{Query}
use Rattle.records.specs.declared.queries.Queries.{Queries}
use Rattle.records.specs.declared.queries.Answers.{Answers}
use Rattle.records.specs.declared.services.Hint.{Hint}
use Rattle.records.specs.declared.services.Service.{Service}
use Rattle.records.specs.declared.services.Services.{Services}
use Rattle.records.specs.declared.endpoints.Target.{Target}
use Rattle.records.specs.declared.endpoints.Target.TheVariants.{V4, V6, Named}
use Rattle.state.specs.declared.Machine.{Machine}
use Rattle.state.specs.declared.attempts.State.{State}
use Rattle.state.specs.declared.attempts.State.TheVariants as state
use Rattle.state.specs.declared.attempts.Attempt.{Attempt}
use Rattle.state.specs.declared.attempts.Attempts.{Attempts}
use Rattle.state.specs.declared.attempts.Retries.{Retries}
use Rattle.standing.specs.Lists.{◌and◌, ◌or◌, all, every, every_at, apart, total, has}
use Rattle.state.specs.Https.{prefixed}
use Rattle.state.specs.State.{asked, tried, retries_of, is_open, has_won, is_prefixed, https_place}

-- Room

-- a list with a count, in a room of n: the count fits, and what lies past it is empty
unfoldable pub fits : {A : Type 0} → ℕ → (A → Bool) → ℕ → List A → Bool
fits n empty count l = all (nat_eq (length l) n ∷ nat_le count n ∷ every empty (drop count l) ∷ [])

abbrev pub zero? : ℕ → Bool
zero? n = nat_eq n 0

abbrev pub empty_addr : Addr → Bool
empty_addr a = all (zero? a.hi ∷ zero? a.lo ∷ zero? a.scope ∷ [])

abbrev pub empty_hint : Hint → Bool
empty_hint h = zero? h.hi and zero? h.lo

abbrev pub pending : Answer → Bool
pending answer.Pending = true
pending (answer.Failed t) = false
pending (answer.Held t n) = false

abbrev pub idle : Refresh → Bool
idle Idle = true
idle (InFlight i) = false
idle Done = false

unfoldable pub empty_query : Query → Bool
empty_query q = all (zero? q.id ∷ zero? q.name ∷ not q.stale ∷ zero? (kind_number q.kind) ∷ pending q.answer ∷ idle q.refresh ∷ [])

abbrev pub own_port : Port → Bool
own_port port.Origin = false
own_port (port.Own p) = true

unfoldable pub empty_service : Service → Bool
empty_service s =
    all (
    zero? s.priority ∷ zero? s.name ∷ not (has_ech s.ech) ∷ not s.versions.h3 ∷ not s.versions.h2 ∷ not s.versions.h1 ∷ not (own_port s.port)
    ∷ zero? s.n4 ∷ fits 4 zero? s.n4 s.v4 ∷ zero? s.n6 ∷ fits 4 empty_hint s.n6 s.v6 ∷ []
    )

abbrev pub empty_target : Target → Bool
empty_target (V4 a) = zero? a
empty_target (V6 h l s) = false
empty_target (Named p) = false

unfoldable pub empty_attempt : Attempt → Bool
empty_attempt a =
    all (
    zero? a.id ∷ empty_target a.endpoint.target ∷ zero? a.endpoint.port ∷ zero? (rank_number a.endpoint.rank) ∷ not (has_ech a.endpoint.ech)
    ∷ zero? a.started ∷ is_open a.state ∷ not a.retry ∷ []
    )

abbrev pub origin_host : AltHost → Bool
origin_host alt.Origin = true
origin_host (alt.Own h) = false

abbrev pub is_h3 : Version → Bool
is_h3 version.H3 = true
is_h3 version.H2 = false
is_h3 version.H1 = false

abbrev pub empty_alt : Alt → Bool
empty_alt a = all (origin_host a.host ∷ not (own_port a.port) ∷ is_h3 a.version ∷ [])

unfoldable pub roomy : Alts → Queries → Services → Attempts → Retries → Bool
roomy l q s a r =
    all (
    fits 4 empty_alt l.count l.list ∷ fits 16 empty_query q.count q.list ∷ fits 4 empty_service s.count s.list
    ∷ fits 32 empty_attempt a.count a.list ∷ fits 32 zero? r.count r.list ∷ []
    )

-- Ids

-- the ids of a record: its own, and its refresh's while that is in flight
abbrev pub flight : Refresh → List ℕ
flight Idle = []
flight (InFlight i) = i ∷ []
flight Done = []

abbrev pub record_ids : Query → List ℕ
record_ids q = q.id ∷ flight q.refresh

abbrev pub attempt_id : Attempt → ℕ
attempt_id a = a.id

unfoldable pub ids_of : Queries → Attempts → List ℕ
ids_of q a = each record_ids (asked q) ++ map attempt_id (tried a)

-- a refresh that was begun took an id
abbrev pub begun : Query → ℕ
begun q = cond (idle q.refresh) 0 1

-- ids of records, refreshes in flight and attempts are distinct and below next; next = records + refreshes begun + attempts
unfoldable pub numbered : ℕ → Queries → Attempts → Bool
numbered next q a =
    all (
    apart nat_eq (ids_of q a) ∷ every (λ i. nat_lt i next) (ids_of q a)
    ∷ nat_eq next (q.count + total begun (asked q) + a.count) ∷ []
    )

-- Records

-- what a record is for
pub record Key : Type 0 where
  pub kind : Kind
  pub name : ℕ

abbrev pub key_of : Query → Key
key_of q = record { kind = q.kind; name = q.name }

-- what the records are for, in order
unfoldable pub keys : Queries → List Key
keys q = map key_of (asked q)

unfoldable pub same_key : Names → Key → Key → Bool
same_key names a b = nat_eq (kind_number a.kind) (kind_number b.kind) and same_at names a.name b.name

abbrev pub is_https : Kind → Bool
is_https Https = true
is_https Aaaa = false
is_https A = false

-- one record for a name and type
unfoldable pub one_each : Names → List Key → Bool
one_each names ks = apart (same_key names) ks

-- at most one HTTPS record, and it is record 0
unfoldable pub https_first : List Key → Bool
https_first ks = every (λ k. not (is_https k.kind)) (drop 1 ks)

-- what is asked for an origin that is a name, in this order (rule 5.1)
abbrev pub key_at : Kind → ℕ → Key
key_at k p = record { kind = k; name = p }

unfoldable pub address_keys : Preference → List Key
address_keys p = cond (allows_six p) (key_at Aaaa 0 ∷ []) [] ++ cond (allows_four p) (key_at A 0 ∷ []) []

abbrev pub keys_in : Mode → Rules → List Key
keys_in mode.Ip r = key_at Https (https_place r) ∷ address_keys r.preference
keys_in mode.Name r = []
keys_in mode.NameWithHttpsRr r = key_at Https (https_place r) ∷ []

unfoldable pub first_keys : Rules → List Key
first_keys r = cond (is_named r.host) (keys_in r.mode r) []

abbrev pub is_key : Key → Key → Bool
is_key a b = nat_eq (kind_number a.kind) (kind_number b.kind) and nat_eq a.name b.name

-- two lists agree as far as both go
unfoldable pub agree : List Key → List Key → Bool
agree [] ks = true
agree (f ∷ fs) [] = true
agree (f ∷ fs) (k ∷ ks) = is_key f k and agree fs ks

-- no other record before they all exist
unfoldable pub origin_first : Rules → List Key → Bool
origin_first r ks = agree (first_keys r) ks

-- in flight only of a stale answer; done: the answer is fresh
abbrev pub steady : Bool → Refresh → Bool
steady stale Idle = true
steady stale (InFlight i) = stale
steady stale Done = not stale

-- a record that is unanswered isn't stale and has no refresh; addresses only of a held answer, and none of an HTTPS answer
unfoldable pub tidy : Kind → Answer → Bool → Refresh → Bool
tidy k answer.Pending stale r = not stale and idle r
tidy k (answer.Failed t) stale r = steady stale r
tidy k (answer.Held t n) stale r = steady stale r and cond (is_https k) (zero? n) (nat_le n 8)

abbrev pub tidy_query : Query → Bool
tidy_query q = tidy q.kind q.answer q.stale q.refresh

-- how many addresses a record holds
abbrev pub held_of : Answer → ℕ
held_of answer.Pending = 0
held_of (answer.Failed t) = 0
held_of (answer.Held t n) = n

abbrev pub held : Query → ℕ
held q = held_of q.answer

-- an IPv4 address is the low 32 bits
abbrev pub formed : Kind → Addr → Bool
formed Https a = empty_addr a
formed Aaaa a = true
formed A a = all (zero? a.hi ∷ nat_lt a.lo (2 ^ 32) ∷ zero? a.scope ∷ [])

abbrev pub kind_of : Query → Kind
kind_of q = q.kind

-- the addresses of record i are of its type, and zeros past its count
unfoldable pub addresses_stand : ℕ → Kind → Addresses → Bool
addresses_stand n k a = fits 8 empty_addr n a.list and every (formed k) a.list

unfoldable pub addressed : Queries → Answers → Bool
addressed q d = every_at (λ i. addresses_stand (get_or (map held q.list) i 0) (get_or (map kind_of q.list) i Https)) 0 d.list

unfoldable pub recorded : Names → Queries → Answers → Bool
recorded names q d =
    all (
    one_each names (keys q) ∷ https_first (keys q) ∷ every tidy_query (asked q)
    ∷ nat_eq (length d.list) 16 ∷ addressed q d ∷ []
    )

-- Attempts and retries

abbrev pub has_failed : State → Bool
has_failed state.InProgress = false
has_failed state.Succeeded = false
has_failed state.Failed = true
has_failed state.Cancelled = false

abbrev pub is_cancelled : State → Bool
is_cancelled state.InProgress = false
is_cancelled state.Succeeded = false
is_cancelled state.Failed = false
is_cancelled state.Cancelled = true

-- an attempt is cancelled only once one has succeeded
unfoldable pub won : Attempts → Bool
won a = some? (λ x. has_won x.state) (tried a) or every (λ x. not (is_cancelled x.state)) (tried a)

-- a retry names an attempt that failed, had ECH and was no retry
abbrev pub refused : Attempt → Bool
refused a = has_failed a.state and (has_ech a.endpoint.ech and not a.retry)

abbrev pub opened : Attempt → ℕ
opened a = cond (is_open a.state) 1 0

-- the last rule follows from the others, but only by counting; as a rule of its own each step keeps it, and there is always room for a retry
unfoldable pub retried : Attempts → Retries → Bool
retried a r =
    all (
    every (λ i. get_or (map refused (tried a)) i false) (retries_of r) ∷ apart nat_eq (retries_of r)
    ∷ nat_le (r.count + total opened (tried a)) a.count ∷ []
    )

-- Tables

-- how many answers the HTTPS record has had: 0, 1, or 2 with its refresh
abbrev pub come : Refresh → ℕ
come Idle = 1
come (InFlight i) = 1
come Done = 2

abbrev pub phase_of : Kind → Answer → Refresh → ℕ
phase_of Https answer.Pending r = 0
phase_of Https (answer.Failed t) r = come r
phase_of Https (answer.Held t n) r = come r
phase_of Aaaa a r = 0
phase_of A a r = 0

abbrev pub query_phase : Query → ℕ
query_phase q = phase_of q.kind q.answer q.refresh

unfoldable pub phase : Queries → ℕ
phase q = get_or (map query_phase (asked q)) 0 0

abbrev pub holds_https : Kind → Answer → Bool
holds_https Https (answer.Held t n) = true
holds_https Https (answer.Failed t) = false
holds_https Https answer.Pending = false
holds_https Aaaa a = false
holds_https A a = false

abbrev pub query_holds : Query → Bool
query_holds q = holds_https q.kind q.answer

unfoldable pub holding : Queries → Bool
holding q = get_or (map query_holds (asked q)) 0 false

-- the answer that a place of the names needs: none for the origin, the alternatives and the HTTPS name; 3 outside the table
unfoldable pub name_needs : ℕ → ℕ
name_needs p = cond (nat_lt p 5) 0 (cond (nat_lt p 9) 1 (cond (nat_lt p 13) 2 (cond (nat_eq p 13) 0 3)))

unfoldable pub named : ℕ → ℕ → Bool
named phase p = nat_le (name_needs p) phase

-- the same of the ECH table; from 8 on what the retries brought
unfoldable pub kept : ℕ → List ℕ → ℕ → Bool
kept phase retries p = cond (nat_lt p 4) (nat_le 1 phase) (cond (nat_lt p 8) (nat_le 2 phase) (has (p - 8) retries))

abbrev pub target_in : ℕ → Target → Bool
target_in phase (V4 a) = true
target_in phase (V6 h l s) = true
target_in phase (Named p) = named phase p

abbrev pub ech_in : ℕ → List ℕ → EchPlace → Bool
ech_in phase retries Without = true
ech_in phase retries (At p) = kept phase retries p

abbrev pub named_key : ℕ → Key → Bool
named_key phase k = named phase k.name

abbrev pub attempt_in : ℕ → List ℕ → Attempt → Bool
attempt_in phase retries a = target_in phase a.endpoint.target and ech_in phase retries a.endpoint.ech

-- each place lies in its table
unfoldable pub placed : ℕ → List Key → List Attempt → List ℕ → Bool
placed phase ks tries retries = all (every (named_key phase) ks ∷ every (attempt_in phase retries) tries ∷ [])

-- service i of the first answer has name 5 + i and ECH i, of the second name 9 + i and ECH 4 + i
abbrev pub ech_of : ℕ → EchPlace → Bool
ech_of p Without = true
ech_of p (At e) = nat_eq e p

unfoldable pub service_stands : ℕ → ℕ → Service → Bool
service_stands phase i s =
    all (
    nat_eq s.name (phase * 4 + 1 + i) ∷ ech_of (phase * 4 - 4 + i) s.ech ∷ fits 4 zero? s.n4 s.v4 ∷ fits 4 empty_hint s.n6 s.v6 ∷ []
    )

-- services only while the HTTPS answer is held
unfoldable pub served : ℕ → Bool → Services → Bool
served phase holds s = all ((holds or zero? s.count) ∷ every_at (service_stands phase) 0 (offered s) ∷ [])

-- the tables are zero where nothing lies, and past each length; a name that is there is one
unfoldable pub name_stands : ℕ → ℕ → Name → Bool
name_stands phase p n = all (fits 253 zero? n.len n.bytes ∷ (named phase p or zero? n.len) ∷ (zero? n.len or name_ok (name_bytes n)) ∷ [])

unfoldable pub ech_stands : ℕ → List ℕ → ℕ → Ech → Bool
ech_stands phase retries p e = fits 512 zero? e.len e.bytes and (kept phase retries p or zero? e.len)

unfoldable pub tabled : ℕ → List ℕ → Names → Echs → Bool
tabled phase retries n e =
    all (
    nat_eq (length n.list) 14 ∷ every_at (name_stands phase) 0 n.list
    ∷ nat_eq (length e.list) 40 ∷ every_at (ech_stands phase retries) 0 e.list ∷ []
    )

-- The configuration's names: a host that is a name has one, at its place, and another has none; name 13 is the HTTPS name where it has a prefix

abbrev pub own_name : AltHost → Bool
own_name alt.Origin = false
own_name (alt.Own h) = is_named h

-- whether there is a name at p, or none
unfoldable pub lies : Bool → Names → ℕ → Bool
lies on n p = cond on (nat_lt 0 (length (name_bytes_at n p))) (zero? (length (name_bytes_at n p)))

unfoldable pub configured : Rules → Alts → Names → Bool
configured r l n =
    all (
    lies (is_named r.host) n 0 ∷ nat_le (length (name_bytes_at n 0)) 239 ∷ every_at (λ i a. lies (own_name a.host) n (1 + i)) 0 l.list
    ∷ same_bytes (name_bytes_at n 13) (cond (is_prefixed r) (prefixed r.port (name_bytes_at n 0)) []) ∷ []
    )

-- The whole

unfoldable pub standing : Machine → Bool
standing m =
    all (
    roomy m.alts m.queries m.services m.attempts m.retries
    ∷ numbered m.ids.next m.queries m.attempts
    ∷ recorded m.names m.queries m.answers
    ∷ origin_first m.rules (keys m.queries)
    ∷ won m.attempts
    ∷ retried m.attempts m.retries
    ∷ placed (phase m.queries) (keys m.queries) (tried m.attempts) (retries_of m.retries)
    ∷ served (phase m.queries) (holding m.queries) m.services
    ∷ tabled (phase m.queries) (retries_of m.retries) m.names m.echs
    ∷ configured m.rules m.alts m.names ∷ []
    )

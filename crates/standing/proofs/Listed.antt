-- The places of what is attempted next are known: of a listed endpoint, and of a retry.
use Rattle.std.specs.Prelude.{Some, None}
use Prim.Native.Nat.{ℕ, zero, suc, ◌+◌, ◌-◌, ◌*◌, ◌<◌, ◌≤◌}
use mathlib.Core.Path.{◌≡◌, refl, sym, ap, ◌∙◌}
use mathlib.Core.Logic.{◌⊎◌, ⊎_elim}
use mathlib.Core.Bool.{Bool, true, false, cond, not}
use mathlib.Core.List.Memᴰ
use mathlib.Core.List.{List, [], ◌∷◌, map, Memᴰ}
use mathlib.Core.Option.{Option, none, some}
use native.Mathlib.Omega.{arith}
use lib.Dec.{ltb as nat_lt, leb as nat_le}
use lib.ListN.{length, get_or, take, length-take, length-map}
use lib.Seq.{get_or-take}
use borrow.Author.Tests.{eqb-true, eq-eqb, lt-ltb, le-ltb, ltb-true}
use Rattle.deal.specs.Interleaving.{cons_if, keep, upto}
use Rattle.records.specs.Lists.{each, first_of}
use Rattle.records.specs.Names.{same_at}
use Rattle.records.specs.References.{target_of, endpoint_of, literal_at, literal_six, literal_four}
use Rattle.records.specs.Rules.{allows_six, allows_four, by_name}
use Rattle.records.specs.Services.{blank_service, offered, any_ech}
use Rattle.records.specs.declared.names.EchPlace.{EchPlace}
use Rattle.records.specs.declared.names.EchPlace.TheVariants.{Without, At}
use Rattle.records.specs.declared.rules.Rules.{Rules}
use Rattle.records.specs.declared.rules.Alt.{Alt}
use Rattle.records.specs.declared.rules.Alts.{Alts}
use Rattle.records.specs.declared.rules.AltHost.{AltHost}
use Rattle.records.specs.declared.rules.AltHost.TheVariants as alt
use Rattle.records.specs.declared.rules.Host.{Host}
use Rattle.records.specs.declared.rules.Host.TheVariants as host
use Rattle.records.specs.declared.queries.Queries.{Queries}
use Rattle.records.specs.declared.queries.Answers.{Answers}
use Rattle.records.specs.declared.services.Service.{Service}
use Rattle.records.specs.declared.services.Services.{Services}
use Rattle.records.specs.declared.endpoints.Rank.{Rank}
use Rattle.records.specs.declared.endpoints.Endpoint.{Endpoint}
use Rattle.records.specs.declared.references.Source.{Source}
use Rattle.records.specs.declared.references.Source.TheVariants.{Held6, Held4, Hint6, Hint4, Literal6, Literal4, Name}
use Rattle.records.specs.declared.references.Item.{Item}
use Rattle.records.proofs.First.{first_member}
use Rattle.listing.specs.Held.{Same, held_targets}
use Rattle.listing.specs.Items.{run_items, item_of}
use Rattle.listing.specs.Order.{insert_after, sorted_to, by_priority}
use Rattle.listing.specs.Listing.{ech_if, port_or, host_runs, service_by_name, service_held, service_hints, service_runs, enabled, from_http_versions, origin_of, origin_targets, origin_runs, own_targets, alt_targets, alt_runs, alts_from, last_runs, service_at, ordered, usable, tier_items, service_tiers, tiers, endpoints_to_attempt, is_enabled, rank_of, nothing, one_target}
use Rattle.listing.specs.declared.hosts.HostTargets.{HostTargets}
use Rattle.listing.specs.declared.runs.Run.{Run}
use Rattle.listing.proofs.Endpoints.{endpoint-from}
use Rattle.state.specs.State.{tried, retries_of, no_attempt}
use Rattle.state.specs.declared.Machine.{Machine}
use Rattle.upcoming.specs.Next.{Next, Alike, attempted, next_of, retried_at, retry_endpoints, next_retry, next_endpoint}
use Rattle.standing.specs.Lists.{◌and◌, every, has}
use Rattle.standing.specs.Standing.{phase, named, kept, target_in, ech_in, attempt_in, ech_of, service_stands, refused}
use Rattle.standing.proofs.Lists.{both, left, right, rule, or_left, or_right, or-true, mark-in, every-imp, every-all, every-join, every_map, every-at, every-each}
use Rattle.standing.proofs.Parts.{Standing}
use Rattle.standing.proofs.Https.{setting-named}
use Rattle.standing.proofs.Wanting.{service-named, offered-phase, service-at, few-services}

pub in-every : {A : Type 0} {x : A} (p : A → Bool) (l : List A) → Memᴰ x l → every p l ≡ true → p x ≡ true
unfolding every
in-every p [] m h = absurd (Memᴰ.not-nil m)
in-every p (y ∷ l) m h = ⊎_elim (λ e. ap p e ∙ left _ _ h) (λ k. in-every p l k (right _ _ h)) (Memᴰ.cases_cons m)

-- the ECH of service i of an answer
first-kept : (rs : List ℕ) (i : ℕ) → i < 4 → kept 1 rs (1 * 4 - 4 + i) ≡ true
unfolding kept
first-kept rs i b = rw (lt-ltb (1 * 4 - 4 + i) 4 (omega arith))

second-kept : (rs : List ℕ) (i : ℕ) → i < 4 → kept 2 rs (2 * 4 - 4 + i) ≡ true
unfolding kept
second-kept rs i b = rw (le-ltb (2 * 4 - 4 + i) 4 (omega arith), lt-ltb (2 * 4 - 4 + i) 8 (omega arith))

service-kept : (k : ℕ) (rs : List ℕ) (i p : ℕ) → (k ≡ 1) ⊎ (k ≡ 2) → i < 4 → p ≡ k * 4 - 4 + i → kept k rs p ≡ true
service-kept k rs i p c b e =
    ⊎_elim
    (λ g. let f : p ≡ 1 * 4 - 4 + i = omega (arith, g) in rw f (rw g (first-kept rs i b)))
    (λ g. let f : p ≡ 2 * 4 - 4 + i = omega (arith, g) in rw f (rw g (second-kept rs i b)))
    c

-- Known places, with so many answers and these retries
module _ (k : ℕ) (rs : List ℕ) where
  abbrev source_in : Source → Bool
  source_in (Held6 q) = true
  source_in (Held4 q) = true
  source_in (Hint6 i) = true
  source_in (Hint4 i) = true
  source_in (Literal6 l) = true
  source_in (Literal4 l) = true
  source_in (Name w) = named k w

  abbrev item_in : Item → Bool
  item_in i = source_in i.source and ech_in k rs i.ech

  abbrev run_in : Run → Bool
  run_in r = source_in r.source and ech_in k rs r.ech

  abbrev pub endpoint_in : Endpoint → Bool
  endpoint_in e = target_in k e.target and ech_in k rs e.ech

  six-in : (h : Host) → target_in k (literal_six h) ≡ true
  six-in host.Named = refl
  six-in (host.V4 x) = refl
  six-in (host.V6 a b) = refl

  four-in : (h : Host) → target_in k (literal_four h) ≡ true
  four-in host.Named = refl
  four-in (host.V4 x) = refl
  four-in (host.V6 a b) = refl

  target-in : (r : Rules) (a : Alts) (d : Answers) (s : Services) (p : ℕ) (x : Source) → source_in x ≡ true → target_in k (target_of r a d s p x) ≡ true
  target-in r a d s p (Held6 q) e = refl
  target-in r a d s p (Held4 q) e = refl
  target-in r a d s p (Hint6 i) e = refl
  target-in r a d s p (Hint4 i) e = refl
  target-in r a d s p (Literal6 l) e = six-in (literal_at r a l)
  target-in r a d s p (Literal4 l) e = four-in (literal_at r a l)
  target-in r a d s p (Name w) e = e

  endpoint-in : (r : Rules) (a : Alts) (d : Answers) (s : Services) (i : Item) → item_in i ≡ true → endpoint_in (endpoint_of r a d s i) ≡ true
  unfolding endpoint_of
  endpoint-in r a d s i h = both (target-in r a d s i.place i.source (left _ _ h)) (right _ _ h)

  -- runs and their members
  items-in : (r : Run) → run_in r ≡ true → every item_in (run_items r) ≡ true
  unfolding run_items
  items-in r h = rw (every_map (item_of r) item_in (upto r.count)) (every-all (λ p. item_in (item_of r p)) (λ p. h) (upto r.count))

  tier-in : (l : List Run) → every run_in l ≡ true → every item_in (tier_items l) ≡ true
  unfolding tier_items
  tier-in l h = every-each run_items item_in run_in items-in l h

  -- a host's targets
  abbrev targets_in : HostTargets → Bool
  targets_in x = source_in x.first.source and source_in x.second.source

  host-in : (x : HostTargets) (port : ℕ) (ech : EchPlace) (v : Rank) → targets_in x ≡ true → ech_in k rs ech ≡ true → every run_in (host_runs x port ech v) ≡ true
  unfolding every
  host-in x port ech v h e = both (both (left _ _ h) e) (both (both (right _ _ h) e) refl)

  either-in : (b : Bool) (x y : HostTargets) → targets_in x ≡ true → targets_in y ≡ true → targets_in (cond b x y) ≡ true
  either-in true x y f g = f
  either-in false x y f g = g

  none_in : targets_in nothing ≡ true
  none_in = both refl refl

  held_in : (same : Same) (q : Queries) (p : ℕ) → targets_in (held_targets same q p) ≡ true
  unfolding held_targets
  held_in same q p = both refl refl

  named_in : (p : ℕ) → named k p ≡ true → targets_in (one_target (Name p)) ≡ true
  named_in p h = both h refl

  at_each : (f : Rank → List Run) → ((v : Rank) → every run_in (f v) ≡ true) → (l : List Rank) → every run_in (each f l) ≡ true
  unfolding each every
  at_each f g [] = refl
  at_each f g (v ∷ l) = every-join run_in (f v) (each f l) (g v) (at_each f g l)

  ech-if : (on : Bool) (e : EchPlace) → ech_in k rs e ≡ true → ech_in k rs (ech_if on e) ≡ true
  ech-if true e h = h
  ech-if false e h = refl

  module _ (r : Rules) (q : Queries) (same : Same) where
    hints-in : (i : ℕ) (s : Service) → targets_in (service_hints r i s) ≡ true
    unfolding service_hints
    hints-in i s = either-in (service_by_name r) nothing _ none_in (both refl refl)

    service-in : (i : ℕ) (s : Service) → named k s.name ≡ true → ech_in k rs s.ech ≡ true → every run_in (service_runs r q same i s) ≡ true
    unfolding service_runs service_held
    service-in i s n e =
        at_each _
        (λ v. every-join run_in
        (host_runs (cond (service_by_name r) (one_target (Name s.name)) (held_targets same q s.name)) (port_or r.port s.port) (ech_if r.ech s.ech) v)
        (host_runs (service_hints r i s) (port_or r.port s.port) (ech_if r.ech s.ech) v)
        (host-in _ (port_or r.port s.port) (ech_if r.ech s.ech) v (either-in (service_by_name r) (one_target (Name s.name)) (held_targets same q s.name) (named_in s.name n) (held_in same q s.name)) (ech-if r.ech s.ech e))
        (host-in (service_hints r i s) (port_or r.port s.port) (ech_if r.ech s.ech) v (hints-in i s) (ech-if r.ech s.ech e)))
        (from_http_versions (enabled r.versions s.versions))

    origin-in : targets_in (origin_targets r q same) ≡ true
    unfolding origin_targets
    origin-in = by r.host
      where
        by : (h : Host) → targets_in (origin_of (by_name r.mode) q same h) ≡ true
        by host.Named = either-in (by_name r.mode) (one_target (Name 0)) (held_targets same q 0) (named_in 0 (setting-named k 0 (omega arith))) (held_in same q 0)
        by (host.V4 x) = both refl refl
        by (host.V6 a b) = both refl refl

    own_in : (w : ℕ) (h : Host) → named k w ≡ true → targets_in (own_targets r q same w h) ≡ true
    own_in w host.Named n = either-in (by_name r.mode) (one_target (Name w)) (held_targets same q w) (named_in w n) (held_in same q w)
    own_in w (host.V4 x) n = either-in (allows_four r.preference) (one_target (Literal4 w)) nothing (both refl refl) none_in
    own_in w (host.V6 a b) n = either-in (allows_six r.preference) (one_target (Literal6 w)) nothing (both refl refl) none_in

    alt-in : (w : ℕ) (h : AltHost) → named k w ≡ true → targets_in (alt_targets r q same w h) ≡ true
    alt-in w alt.Origin n = origin-in
    alt-in w (alt.Own h) n = own_in w h n

    alt-runs-in : (i : ℕ) (a : Alt) → i < 4 → every run_in (alt_runs r q same i a) ≡ true
    unfolding alt_runs every
    alt-runs-in i a b = go (is_enabled r.versions a.version)
      where
        go : (on : Bool) → every run_in (cond on (host_runs (alt_targets r q same (i + 1) a.host) (port_or r.port a.port) Without (rank_of a.version)) []) ≡ true
        go true = host-in (alt_targets r q same (i + 1) a.host) (port_or r.port a.port) Without (rank_of a.version) (alt-in (i + 1) a.host (setting-named k (i + 1) (omega arith))) refl
        go false = refl

    alts-in : (i : ℕ) (l : List Alt) → i + length l ≤ 4 → every run_in (alts_from r q same i l) ≡ true
    unfolding alts_from every
    alts-in i [] b = refl
    alts-in i (a ∷ l) b = every-join run_in (alt_runs r q same i a) (alts_from r q same (i + 1) l) (alt-runs-in i a (omega arith)) (alts-in (i + 1) l (omega arith))

    last-in : (a : Alts) → length a.list ≡ 4 → every run_in (last_runs r a q same) ≡ true
    unfolding last_runs origin_runs
    last-in a four =
        every-join run_in (alts_from r q same 0 (take a.count a.list)) _
        (alts-in 0 (take a.count a.list) (omega (arith, length-take a.count a.list)))
        (at_each _ (λ v. host-in (origin_targets r q same) r.port Without v origin-in refl) _)

-- the places of services are below their count
insert-every : (p : ℕ → Bool) (f : ℕ → ℕ) (x : ℕ) (l : List ℕ) → p x ≡ true → every p l ≡ true → every p (insert_after f x l) ≡ true
unfolding every
insert-every p f x [] e h = both e refl
insert-every p f x (y ∷ l) e h = go (nat_le (f y) (f x)) (insert-every p f x l e (right _ _ h))
  where
    go : (b : Bool) → every p (insert_after f x l) ≡ true → every p (cond b (y ∷ insert_after f x l) (x ∷ y ∷ l)) ≡ true
    go true g = both (left _ _ h) g
    go false g = both e h

sorted-every : (ps : List ℕ) (n : ℕ) → every (λ z. nat_lt z n) (sorted_to ps n) ≡ true
unfolding every
sorted-every ps zero = refl
sorted-every ps (suc n) = insert-every (λ z. nat_lt z (suc n)) (λ i. get_or ps i 0) n (sorted_to ps n) (lt-ltb n (suc n) (omega arith)) (every-imp _ _ (λ z e. lt-ltb z (suc n) (omega (arith, ltb-true z n e))) (sorted_to ps n) (sorted-every ps n))

keep-every : (p t : ℕ → Bool) (l : List ℕ) → every p l ≡ true → every p (keep t l) ≡ true
unfolding every
keep-every p t [] h = refl
keep-every p t (x ∷ l) h = go (t x) (keep-every p t l (right _ _ h))
  where
    go : (b : Bool) → every p (keep t l) ≡ true → every p (cons_if b x (keep t l)) ≡ true
    go true g = both (left _ _ h) g
    go false g = g

usable-every : (on : Bool) (s : Services) → every (λ z. nat_lt z (length (offered s))) (usable on s) ≡ true
unfolding usable ordered by_priority
usable-every on s =
    let ps = map (λ x. x.priority) (offered s) in
    let e : length ps ≡ length (offered s) = rw length-map in
    keep-every (λ z. nat_lt z (length (offered s))) _ (sorted_to ps (length ps)) (every-imp _ _ (λ z h. lt-ltb z (length (offered s)) (omega (arith, ltb-true z (length ps) h))) (sorted_to ps (length ps)) (sorted-every ps (length ps)))

-- What is attempted next

module _ (m : Machine) (h : Standing m) where
  abbrev rs : List ℕ
  rs = retries_of m.retries

  abbrev answers : ℕ
  answers = phase m.queries

  abbrev same : Same
  same = same_at m.names

  ech-in : (e : EchPlace) (p : ℕ) → kept answers rs p ≡ true → ech_of p e ≡ true → ech_in answers rs e ≡ true
  ech-in Without p f e = refl
  ech-in (At q) p f e = rw (eqb-true q p e) f

  -- a service by its place in the answer
  at_place : (i : ℕ) → i < length (offered m.services) → service_at m.services i ≡ get_or (offered m.services) i blank_service
  at_place i b = sym (get_or-take m.services.count m.services.list i blank_service (omega (arith, length-take m.services.count m.services.list)))

  service-tier : (i : ℕ) → nat_lt i (length (offered m.services)) ≡ true → every (item_in answers rs) (tier_items (service_runs m.rules m.queries same i (service_at m.services i))) ≡ true
  unfolding service_stands
  service-tier i c =
      let b = ltb-true i (length (offered m.services)) c in
      let s = service-at m h i b in
      let f = offered-phase m h i b in
      rw (at_place i b)
      (tier-in answers rs _ (service-in answers rs m.rules m.queries same i (get_or (offered m.services) i blank_service)
      (service-named answers i _ f (omega (arith, few-services m h)) (eqb-true _ _ (rule 0 _ s)))
      (ech-in (get_or (offered m.services) i blank_service).ech (answers * 4 - 4 + i) (service-kept answers rs i (answers * 4 - 4 + i) f (omega (arith, few-services m h)) refl) (rule 1 _ s))))

  last-tier : (b : Bool) → every (every (item_in answers rs)) (cond b [] (tier_items (last_runs m.rules m.alts m.queries same) ∷ [])) ≡ true
  unfolding every
  last-tier true = refl
  last-tier false = both (tier-in answers rs _ (last-in answers rs m.rules m.queries same m.alts h.room.alts.size)) refl

  tiers-in : every (every (item_in answers rs)) (tiers m.rules m.alts m.queries m.services same) ≡ true
  unfolding tiers service_tiers
  tiers-in =
      every-join _ (map (λ i. tier_items (service_runs m.rules m.queries same i (service_at m.services i))) (usable m.rules.ech m.services)) _
      (rw (every_map (λ i. tier_items (service_runs m.rules m.queries same i (service_at m.services i))) (every (item_in answers rs)) (usable m.rules.ech m.services))
      (every-imp _ _ service-tier (usable m.rules.ech m.services) (usable-every m.rules.ech m.services)))
      (last-tier (any_ech m.rules.ech m.services))

  -- its places are known, and it is one that is looked for
  abbrev pub Known : (Endpoint → Bool) → Next → Type 0
  Known test None = Unit {0}
  Known test (Some e) = (endpoint_in answers rs e ≡ true) × (test e ≡ true)

  listed_in : (e : Endpoint) → Memᴰ e (endpoints_to_attempt m.rules m.alts m.queries m.answers m.services same) → endpoint_in answers rs e ≡ true
  listed_in e k =
      let w = endpoint-from m.rules m.alts m.queries m.answers m.services same e k in
      let i = in-every (item_in answers rs) w.0 w.3 (in-every (every (item_in answers rs)) _ w.2 tiers-in) in
      rw (← w.4) (endpoint-in answers rs m.rules m.alts m.answers m.services w.1 i)

  first-known : (test : Endpoint → Bool) (l : List Endpoint) → ((e : Endpoint) → Memᴰ e l → endpoint_in answers rs e ≡ true) → Known test (next_of (first_of test l))
  first-known test l f = by (first_of test l) refl
    where
      by : (o : Option Endpoint) → first_of test l ≡ o → Known test (next_of o)
      by none e = tt
      by (some x) e = let w = first_member test l x e in (f x w.0, w.1)

  pub next_known : (alike : Alike) → Known (λ e. not (attempted alike m.attempts e)) (next_endpoint alike m.rules m.alts m.queries m.answers m.services m.attempts same)
  unfolding next_endpoint
  next_known alike = first-known _ _ listed_in

-- A retry: the target of the attempt that it is for, and the bytes that came with it

has_in : (p : ℕ) (l : List ℕ) → Memᴰ p l → has p l ≡ true
unfolding has
has_in p [] k = absurd (Memᴰ.not-nil k)
has_in p (x ∷ l) k = ⊎_elim (λ e. or_left _ _ (eq-eqb p x e)) (λ t. or_right _ true _ (λ u. has_in p l t) (or-true _)) (Memᴰ.cases_cons k)

retry-kept : (k : ℕ) (rs : List ℕ) (p : ℕ) → has p rs ≡ true → kept k rs (8 + p) ≡ true
unfolding kept
retry-kept k rs p e =
    let z : 8 + p - 8 ≡ p = omega arith in
    rw (le-ltb (8 + p) 4 (omega arith), le-ltb (8 + p) 8 (omega arith), z) e

module _ (m : Machine) (h : Standing m) where
  abbrev came : List ℕ
  came = retries_of m.retries

  retry-in : (p : ℕ) → Memᴰ p came → endpoint_in (phase m.queries) came (retried_at m.attempts p) ≡ true
  retry-in p k =
      let mark = in-every (λ i. get_or (map refused (tried m.attempts)) i false) came k h.again.failures in
      let b : p < length (tried m.attempts) = rw length-map at (mark-in (map refused (tried m.attempts)) p mark) in
      let e : get_or (tried m.attempts) p no_attempt ≡ get_or m.attempts.list p no_attempt = get_or-take m.attempts.count m.attempts.list p no_attempt (omega (arith, length-take m.attempts.count m.attempts.list)) in
      both (left _ _ (rw e at (every-at (attempt_in (phase m.queries) came) (tried m.attempts) p no_attempt b h.places.ends))) (retry-kept (phase m.queries) came p (has_in p came k))

  retries-in : (l : List ℕ) → ((p : ℕ) → Memᴰ p l → Memᴰ p came) → every (endpoint_in (phase m.queries) came) (retry_endpoints m.attempts l) ≡ true
  unfolding retry_endpoints every
  retries-in [] f = refl
  retries-in (p ∷ l) f = go (nat_lt p 32) (retries-in l (λ x k. f x (Memᴰ.tail k)))
    where
      go : (b : Bool) → every (endpoint_in (phase m.queries) came) (retry_endpoints m.attempts l) ≡ true
          → every (endpoint_in (phase m.queries) came) (cond b (retried_at m.attempts p ∷ retry_endpoints m.attempts l) (retry_endpoints m.attempts l)) ≡ true
      go true g = both (retry-in p (f p (Memᴰ.head refl))) g
      go false g = g

  pub retry-known : (alike : Alike) → Known m h (λ e. not (attempted alike m.attempts e)) (next_retry alike m.attempts m.retries)
  unfolding next_retry
  retry-known alike = first-known m h _ (retry_endpoints m.attempts came) (λ e k. in-every _ (retry_endpoints m.attempts came) k (retries-in came (λ p t. t)))

-- How many endpoints a tier has at most: 48 for a service, 80 for alternative services and origin; 4 * 48 + 80 is 272.
use Prim.Native.Nat.{ℕ, ◌+◌, ◌*◌, ◌≤◌, min}
use mathlib.Core.Path.{◌≡◌, refl, ap, ◌∙◌}
use mathlib.Core.Bool.{Bool, true, false, cond}
use mathlib.Core.List.{List, [], ◌∷◌, ◌++◌}
use native.Mathlib.Omega.{arith}
use lib.ListN.{length, take, length-append, length-take}
use Rattle.records.specs.declared.rules.Rules.{Rules}
use Rattle.records.specs.declared.rules.Alt.{Alt}
use Rattle.records.specs.declared.rules.Alts.{Alts}
use Rattle.records.specs.declared.queries.Query.{Query}
use Rattle.records.specs.declared.queries.Queries.{Queries}
use Rattle.listing.specs.Held.{Same, held_count, first_held, held_at, held_targets}
use Rattle.records.specs.Lists.{each}
use Rattle.listing.specs.Items.{run}
use Rattle.listing.specs.Listing.{quic, combined, from_http_versions, enabled, is_enabled, rank_of, port_or, ech_if, service_by_name, host_runs, service_held, service_hints, service_runs, origin_of, own_targets, origin_targets, origin_runs, alt_targets, alt_runs, alts_from, last_runs, tier_items}
use Rattle.records.specs.Rules.{by_name, allows_six, allows_four}
use Rattle.records.specs.declared.services.Service.{Service}
use Rattle.records.specs.declared.queries.Answer.{Answer}
use Rattle.records.specs.declared.queries.Answer.TheVariants.{Pending, Failed, Held}
use Rattle.records.specs.declared.queries.Kind.{Kind}
use Rattle.records.specs.declared.queries.Kind.TheVariants.{Aaaa, A}
use Rattle.records.specs.declared.rules.AltHost.{AltHost}
use Rattle.records.specs.declared.rules.AltHost.TheVariants as alt
use Rattle.records.specs.declared.rules.Host.{Host}
use Rattle.records.specs.declared.rules.Host.TheVariants as host
use Rattle.records.specs.declared.endpoints.Rank.{Rank}
use Rattle.records.specs.declared.endpoints.Rank.TheVariants as rank
use Rattle.records.specs.declared.names.EchPlace.{EchPlace}
use Rattle.records.specs.declared.names.EchPlace.TheVariants.{Without}
use Rattle.listing.specs.declared.hosts.HostTargets.{HostTargets}
use Rattle.listing.specs.declared.runs.Run.{Run}
use Rattle.listing.proofs.Tiers.{items-append, run_length, head-length}

-- how many endpoints a pair of parts has
abbrev size : HostTargets → ℕ
size x = x.first.count + x.second.count

none_left : length (tier_items []) ≡ 0
unfolding tier_items each
none_left = refl

runs-size : (x : HostTargets) (port : ℕ) (ech : EchPlace) (k : Rank) → length (tier_items (host_runs x port ech k)) ≡ size x
runs-size x port ech k =
    let a = run x.first port k ech in
    let b = run x.second port k ech in
    omega (arith, head-length a (b ∷ []), head-length b [], run_length a, run_length b, none_left)

count-le : (a : Answer) → held_count a ≤ 8
count-le Pending = omega arith
count-le (Failed t) = omega arith
count-le (Held t n) = omega arith

held-le : (test : Query → Bool) (i : ℕ) (l : List Query) → (first_held test i l).count ≤ 8
unfolding first_held
held-le test i [] = omega arith
held-le test i (q ∷ l) = either (test q) (held-le test (i + 1) l)
  where
    either : (b : Bool) → (first_held test (i + 1) l).count ≤ 8 → (cond b (record { query = i; count = held_count q.answer }) (first_held test (i + 1) l)).count ≤ 8
    either true h = count-le q.answer
    either false h = h

held-at-le : (n : Same) (q : Queries) (k : Kind) (w : ℕ) → (held_at n q k w).count ≤ 8
unfolding held_at
held-at-le n q k w = held-le _ 0 _

held-size : (n : Same) (q : Queries) (w : ℕ) → size (held_targets n q w) ≤ 16
unfolding held_targets
held-size n q w = omega (arith, held-at-le n q Aaaa w, held-at-le n q A w)

either-size : (b : Bool) (x y : HostTargets) (m : ℕ) → size x ≤ m → size y ≤ m → size (cond b x y) ≤ m
either-size true x y m h k = h
either-size false x y m h k = k

service-held-size : (r : Rules) (q : Queries) (n : Same) (s : Service) → size (service_held r q n s) ≤ 16
unfolding service_held
service-held-size r q n s = either-size (service_by_name r) _ _ 16 (omega arith) (held-size n q s.name)

hint-le : (b : Bool) (n : ℕ) → cond b (min n 4) 0 ≤ 4
hint-le true n = omega arith
hint-le false n = omega arith

service-hints-size : (r : Rules) (i : ℕ) (s : Service) → size (service_hints r i s) ≤ 8
unfolding service_hints
service-hints-size r i s = either-size (service_by_name r) _ _ 8 (omega arith) (omega (arith, hint-le (allows_six r.preference) s.n6, hint-le (allows_four r.preference) s.n4))

origin-size : (r : Rules) (q : Queries) (n : Same) → size (origin_targets r q n) ≤ 16
unfolding origin_targets
origin-size r q n = by-host r.host
  where
    by-host : (h : Host) → size (origin_of (by_name r.mode) q n h) ≤ 16
    by-host host.Named = either-size (by_name r.mode) _ _ 16 (omega arith) (held-size n q 0)
    by-host (host.V4 x) = omega arith
    by-host (host.V6 a b) = omega arith

own-size : (r : Rules) (q : Queries) (n : Same) (w : ℕ) (h : Host) → size (own_targets r q n w h) ≤ 16
own-size r q n w host.Named = either-size (by_name r.mode) _ _ 16 (omega arith) (held-size n q w)
own-size r q n w (host.V4 x) = either-size (allows_four r.preference) _ _ 16 (omega arith) (omega arith)
own-size r q n w (host.V6 a b) = either-size (allows_six r.preference) _ _ 16 (omega arith) (omega arith)

alt-size : (r : Rules) (q : Queries) (n : Same) (w : ℕ) (h : AltHost) → size (alt_targets r q n w h) ≤ 16
alt-size r q n w alt.Origin = origin-size r q n
alt-size r q n w (alt.Own h) = own-size r q n w h

-- at most two ranks, of at most m endpoints each
each_next : (f : Rank → List Run) (k : Rank) (l : List Rank) → length (tier_items (each f (k ∷ l))) ≡ length (tier_items (f k)) + length (tier_items (each f l))
unfolding each
each_next f k l = ap length (items-append (f k) (each f l)) ∙ length-append (tier_items (f k)) (tier_items (each f l))

each_none : (f : Rank → List Run) → length (tier_items (each f [])) ≡ 0
unfolding each tier_items
each_none f = refl

module _ (f : Rank → List Run) (m : ℕ) (few : (k : Rank) → length (tier_items (f k)) ≤ m) where
  one_rank : (b c : Bool) → length (tier_items (each f (combined b c))) ≤ m
  one_rank true true = omega (arith, each_next f rank.H2OrH1 [], each_none f, few rank.H2OrH1)
  one_rank true false = omega (arith, each_next f rank.H2 [], each_none f, few rank.H2)
  one_rank false true = omega (arith, each_next f rank.H1 [], each_none f, few rank.H1)
  one_rank false false = omega (arith, each_none f)

  two-ranks : (a b c : Bool) → length (tier_items (each f (quic a ++ combined b c))) ≤ m + m
  two-ranks true b c = omega (arith, each_next f rank.H3 (combined b c), few rank.H3, one_rank b c)
  two-ranks false b c = omega (arith, one_rank b c)

pub service_le : (r : Rules) (q : Queries) (n : Same) (i : ℕ) (s : Service) → length (tier_items (service_runs r q n i s)) ≤ 48
unfolding service_runs from_http_versions
service_le r q n i s = let v = enabled r.versions s.versions in two-ranks (λ k. host_runs (service_held r q n s) (port_or r.port s.port) (ech_if r.ech s.ech) k ++ host_runs (service_hints r i s) (port_or r.port s.port) (ech_if r.ech s.ech) k) 24 both_runs v.h3 v.h2 v.h1
  where
    both_runs : (k : Rank) → length (tier_items (host_runs (service_held r q n s) (port_or r.port s.port) (ech_if r.ech s.ech) k ++ host_runs (service_hints r i s) (port_or r.port s.port) (ech_if r.ech s.ech) k)) ≤ 24
    both_runs k =
        rw (items-append, length-append, runs-size, runs-size)
        (omega (arith, service-held-size r q n s, service-hints-size r i s))

origin-le : (r : Rules) (q : Queries) (n : Same) → length (tier_items (origin_runs r q n)) ≤ 16
unfolding origin_runs from_http_versions
origin-le r q n = one_rank (host_runs (origin_targets r q n) r.port Without) 16 (λ k. omega (arith, runs-size (origin_targets r q n) r.port Without k, origin-size r q n)) r.versions.h2 r.versions.h1

alt-le : (r : Rules) (q : Queries) (n : Same) (i : ℕ) (a : Alt) → length (tier_items (alt_runs r q n i a)) ≤ 16
unfolding alt_runs
alt-le r q n i a = on (is_enabled r.versions a.version)
  where
    on : (b : Bool) → length (tier_items (cond b (host_runs (alt_targets r q n (i + 1) a.host) (port_or r.port a.port) Without (rank_of a.version)) [])) ≤ 16
    on true = omega (arith, runs-size (alt_targets r q n (i + 1) a.host) (port_or r.port a.port) Without (rank_of a.version), alt-size r q n (i + 1) a.host)
    on false = omega (arith, none_left)

alts-le : (r : Rules) (q : Queries) (n : Same) (i : ℕ) (l : List Alt) → length (tier_items (alts_from r q n i l)) ≤ 16 * length l
unfolding alts_from
alts-le r q n i [] = omega (arith, none_left)
alts-le r q n i (a ∷ l) =
    let e = ap length (items-append (alt_runs r q n i a) (alts_from r q n (i + 1) l)) ∙ length-append (tier_items (alt_runs r q n i a)) (tier_items (alts_from r q n (i + 1) l)) in
    omega (arith, e, alt-le r q n i a, alts-le r q n (i + 1) l)

pub last_le : (r : Rules) (a : Alts) (q : Queries) (n : Same) → length a.list ≡ 4 → length (tier_items (last_runs r a q n)) ≤ 80
unfolding last_runs
last_le r a q n four =
    let e = ap length (items-append (alts_from r q n 0 (take a.count a.list)) (origin_runs r q n)) ∙ length-append (tier_items (alts_from r q n 0 (take a.count a.list))) (tier_items (origin_runs r q n)) in
    omega (arith, e, alts-le r q n 0 (take a.count a.list), length-take a.count a.list, origin-le r q n)

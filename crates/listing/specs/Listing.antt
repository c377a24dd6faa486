-- The listing as the Rust has it (`endpoints_to_attempt`): which endpoints are attempted, in which order. Rules 4.1 to 4.15 (document 01, part 4).
-- Each sentence of part 4 and its definition, from the whole down (docs/DIFFERENCES.md, 1 to 3, has what the Rust corrects):
--     "Services by priority, stable" ordered; "each interleaved alone" dealt, items_to_attempt (rules 4.5 and 4.15)
--     "skip those without ECH .." records' any_ech, usable (rule 4.6); "Unless so, then alternative services and origin together" tiers, last_runs
--     (H) "A service's endpoints" service_held, service_hints, service_runs (rules 4.7 and 4.8); its versions from_http_versions, enabled (rule 4.3)
--     (H) "Origin fallback" origin_targets, origin_runs (rule 4.9); (H) "A host's addresses" Held.held_at (rule 4.11)
--     "An alternative service" alt_targets, alt_runs (rule 4.10); the name of a by-name endpoint is records' connect_name (rule 4.12)
-- `same` says of two places among the names whether they hold the same name (rule S.7).
use Rattle.std.specs.Prelude.{ℕ, ◌+◌, min, Bool, true, false, cond, ◌&&◌, List, [], ◌∷◌, ◌++◌, map, length, take, get_or}
use Rattle.deal.specs.Interleaving.{interleave, keep}
use Rattle.records.specs.Lists.{each}
use Rattle.records.specs.Names.{same_at}
use Rattle.records.specs.Rules.{prefers_six, allows_six, allows_four, by_name, with_https, is_named}
use Rattle.records.specs.Services.{offered, any_ech, is_usable, blank_service}
use Rattle.records.specs.Endpoints.{Shown, shown}
use Rattle.records.specs.References.{endpoint_of}
use Rattle.records.specs.declared.names.Names.{Names}
use Rattle.records.specs.declared.names.Echs.{Echs}
use Rattle.records.specs.declared.names.EchPlace.{EchPlace}
use Rattle.records.specs.declared.names.EchPlace.TheVariants.{Without}
use Rattle.records.specs.declared.rules.Rules.{Rules}
use Rattle.records.specs.declared.rules.Alt.{Alt}
use Rattle.records.specs.declared.rules.Alts.{Alts}
use Rattle.records.specs.declared.rules.AltHost.{AltHost}
use Rattle.records.specs.declared.rules.AltHost.TheVariants as alt
use Rattle.records.specs.declared.rules.Host.{Host}
use Rattle.records.specs.declared.rules.Host.TheVariants as host
use Rattle.records.specs.declared.rules.Port.{Port}
use Rattle.records.specs.declared.rules.Port.TheVariants.{Origin, Own}
use Rattle.records.specs.declared.rules.Version.{Version}
use Rattle.records.specs.declared.rules.Version.TheVariants as version
use Rattle.records.specs.declared.rules.Versions.{Versions}
use Rattle.records.specs.declared.queries.Queries.{Queries}
use Rattle.records.specs.declared.queries.Answers.{Answers}
use Rattle.records.specs.declared.services.Service.{Service}
use Rattle.records.specs.declared.services.Services.{Services}
use Rattle.records.specs.declared.endpoints.Rank.{Rank}
use Rattle.records.specs.declared.endpoints.Rank.TheVariants as rank
use Rattle.records.specs.declared.endpoints.Endpoint.{Endpoint}
use Rattle.records.specs.declared.references.Source.{Source}
use Rattle.records.specs.declared.references.Source.TheVariants.{Held6, Hint6, Hint4, Literal6, Literal4, Name}
use Rattle.records.specs.declared.references.Item.{Item}
use Rattle.listing.specs.declared.hosts.Targets.{Targets}
use Rattle.listing.specs.declared.hosts.HostTargets.{HostTargets}
use Rattle.listing.specs.declared.runs.Run.{Run}
use Rattle.listing.specs.Order.{by_priority}
use Rattle.listing.specs.Items.{run, run_items, group_of}
use Rattle.listing.specs.Held.{Same, held_targets}

-- "combined by `from_http_versions`": H3 alone; H2 and H1 as one where both are there
abbrev pub combined : Bool → Bool → List Rank
combined true true = rank.H2OrH1 ∷ []
combined true false = rank.H2 ∷ []
combined false true = rank.H1 ∷ []
combined false false = []

abbrev pub quic : Bool → List Rank
quic true = rank.H3 ∷ []
quic false = []

unfoldable pub from_http_versions : Versions → List Rank
from_http_versions v = quic v.h3 ++ combined v.h2 v.h1

-- "its enabled versions"
abbrev pub enabled : Versions → Versions → Versions
enabled on v = record { h3 = on.h3 && v.h3; h2 = on.h2 && v.h2; h1 = on.h1 && v.h1 }

abbrev pub is_enabled : Versions → Version → Bool
is_enabled on version.H3 = on.h3
is_enabled on version.H2 = on.h2
is_enabled on version.H1 = on.h1

abbrev pub rank_of : Version → Rank
rank_of version.H3 = rank.H3
rank_of version.H2 = rank.H2
rank_of version.H1 = rank.H1

-- "its port or the origin's"
abbrev pub port_or : ℕ → Port → ℕ
port_or origin Origin = origin
port_or origin (Own p) = p

-- "its ECH if ECH is on"
abbrev pub ech_if : Bool → EchPlace → EchPlace
ech_if on e = cond on e Without

-- no target of any source, and one of a source alone
abbrev pub no_targets : Targets
no_targets = record { source = Held6 0; count = 0 }

abbrev pub nothing : HostTargets
nothing = record { first = no_targets; second = no_targets }

abbrev pub one_target : Source → HostTargets
one_target s = record { first = record { source = s; count = 1 }; second = no_targets }

-- what a host has, at a rank
abbrev pub host_runs : HostTargets → ℕ → EchPlace → Rank → List Run
host_runs x port ech rank = run x.first port rank ech ∷ run x.second port rank ech ∷ []

-- "in `NameWithHttpsRr` with a named origin"
abbrev pub service_by_name : Rules → Bool
service_by_name r = is_named r.host && with_https r.mode

-- (H) A service's endpoints, as the Rust has them: by name, its target's name; else the answers held for its name, then its hints of the allowed families
unfoldable pub service_held : Rules → Queries → Same → Service → HostTargets
service_held r q same s = cond (service_by_name r) (one_target (Name s.name)) (held_targets same q s.name)

unfoldable pub service_hints : Rules → ℕ → Service → HostTargets
service_hints r i s =
    cond (service_by_name r) nothing
    (record {
      first = record { source = Hint6 i; count = cond (allows_six r.preference) (min s.n6 4) 0 };
      second = record { source = Hint4 i; count = cond (allows_four r.preference) (min s.n4 4) 0 };
    })

-- with each of its enabled versions, "its port or the origin's; its ECH if ECH is on"
unfoldable pub service_runs : Rules → Queries → Same → ℕ → Service → List Run
service_runs r q same i s =
    each
    (λ k. host_runs (service_held r q same s) (port_or r.port s.port) (ech_if r.ech s.ech) k ++ host_runs (service_hints r i s) (port_or r.port s.port) (ech_if r.ech s.ech) k)
    (from_http_versions (enabled r.versions s.versions))

-- "the origin's addresses, or its name in the by-name modes"; an address is listed whatever the preference
abbrev pub origin_of : Bool → Queries → Same → Host → HostTargets
origin_of named? q same host.Named = cond named? (one_target (Name 0)) (held_targets same q 0)
origin_of named? q same (host.V4 x) = one_target (Literal4 0)
origin_of named? q same (host.V6 h l) = one_target (Literal6 0)

unfoldable pub origin_targets : Rules → Queries → Same → HostTargets
origin_targets r q same = origin_of (by_name r.mode) q same r.host

-- "enabled among H2, H1, combined .. no ECH"
unfoldable pub origin_runs : Rules → Queries → Same → List Run
origin_runs r q same = each (host_runs (origin_targets r q same) r.port Without) (from_http_versions (record { h3 = false; h2 = r.versions.h2; h1 = r.versions.h1 }))

-- an alternative's own host: its addresses, or by name its name; "a literal only if its family is allowed". The host of number i is at i + 1.
abbrev pub own_targets : Rules → Queries → Same → ℕ → Host → HostTargets
own_targets r q same w host.Named = cond (by_name r.mode) (one_target (Name w)) (held_targets same q w)
own_targets r q same w (host.V4 x) = cond (allows_four r.preference) (one_target (Literal4 w)) nothing
own_targets r q same w (host.V6 h l) = cond (allows_six r.preference) (one_target (Literal6 w)) nothing

-- "the origin's without host"
abbrev pub alt_targets : Rules → Queries → Same → ℕ → AltHost → HostTargets
alt_targets r q same w alt.Origin = origin_targets r q same
alt_targets r q same w (alt.Own h) = own_targets r q same w h

-- "its version if enabled, its port or the origin's, no ECH"
unfoldable pub alt_runs : Rules → Queries → Same → ℕ → Alt → List Run
alt_runs r q same i a = cond (is_enabled r.versions a.version) (host_runs (alt_targets r q same (i + 1) a.host) (port_or r.port a.port) Without (rank_of a.version)) []

unfoldable pub alts_from : Rules → Queries → Same → ℕ → List Alt → List Run
alts_from r q same i [] = []
alts_from r q same i (a ∷ l) = alt_runs r q same i a ++ alts_from r q same (i + 1) l

-- the last tier: alternative services and origin together
unfoldable pub last_runs : Rules → Alts → Queries → Same → List Run
last_runs r a q same = alts_from r q same 0 (take a.count a.list) ++ origin_runs r q same

abbrev pub service_at : Services → ℕ → Service
service_at s i = get_or s.list i blank_service

-- "Services by priority, stable", by their places in the answer
unfoldable pub ordered : Services → List ℕ
ordered s = by_priority (map (λ x. x.priority) (offered s))

-- those that are used
unfoldable pub usable : Bool → Services → List ℕ
usable on s = keep (λ i. is_usable (any_ech on s) (service_at s i).ech) (ordered s)

-- the endpoints of a tier before they are dealt
unfoldable pub tier_items : List Run → List Item
tier_items runs = each run_items runs

unfoldable pub service_tiers : Rules → Queries → Services → Same → List (List Item)
service_tiers r q s same = map (λ i. tier_items (service_runs r q same i (service_at s i))) (usable r.ech s)

-- "Unless so, then alternative services and origin together"
unfoldable pub tiers : Rules → Alts → Queries → Services → Same → List (List Item)
tiers r a q s same = service_tiers r q s same ++ cond (any_ech r.ech s) [] (tier_items (last_runs r a q same) ∷ [])

-- "each interleaved alone"
unfoldable pub dealt : Rules → List Item → List Item
dealt r xs = interleave (group_of (prefers_six r.preference)) xs

-- how many tiers there are
unfoldable pub tier_count : Rules → Services → ℕ
tier_count r s = length (usable r.ech s) + cond (any_ech r.ech s) 0 1

-- tier k of the listing; none past the last
unfoldable pub tier_at : Rules → Alts → Queries → Services → Same → ℕ → List Item
tier_at r a q s same k = dealt r (get_or (tiers r a q s same) k [])

unfoldable pub items_to_attempt : Rules → Alts → Queries → Services → Same → List Item
items_to_attempt r a q s same = each (dealt r) (tiers r a q s same)

-- the listing as endpoints, and as endpoints with their bytes
unfoldable pub endpoints_to_attempt : Rules → Alts → Queries → Answers → Services → Same → List Endpoint
endpoints_to_attempt r a q d s same = map (endpoint_of r a d s) (items_to_attempt r a q s same)

unfoldable pub shown_to_attempt : Rules → Alts → Queries → Answers → Services → Names → Echs → List Shown
shown_to_attempt r a q d s n e = map (shown n e) (endpoints_to_attempt r a q d s (same_at n))

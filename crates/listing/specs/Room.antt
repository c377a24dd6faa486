-- What the code keeps: lists in rooms, with what is unused zero (rules S.2 and S.8). A reader needs `listed` and `tiered` of it, which public
-- promises cite, and `ranked`: rule 4.3 (document 01, part 4).
use Rattle.std.specs.Prelude.{ℕ, ◌≤◌, ◌<◌, ◌≡◌, Bool, false, cond, List, [], ◌∷◌, ◌++◌, map, nat_lt, length, take, get_or}
use Rattle.records.specs.Lists.{padded}
use Rattle.records.specs.Rules.{no_alt}
use Rattle.records.specs.References.{no_item}
use Rattle.records.specs.declared.names.EchPlace.{EchPlace}
use Rattle.records.specs.declared.names.EchPlace.TheVariants.{Without}
use Rattle.records.specs.declared.rules.Rules.{Rules}
use Rattle.records.specs.declared.rules.Alts.{Alts}
use Rattle.records.specs.declared.queries.Queries.{Queries}
use Rattle.records.specs.declared.endpoints.Rank.{Rank}
use Rattle.records.specs.declared.endpoints.Rank.TheVariants as rank
use Rattle.records.specs.declared.references.Item.{Item}
use Rattle.listing.specs.declared.versions.Ranks.{Ranks}
use Rattle.listing.specs.declared.hosts.Targets.{Targets}
use Rattle.listing.specs.declared.hosts.HostTargets.{HostTargets}
use Rattle.listing.specs.declared.runs.Run.{Run}
use Rattle.listing.specs.declared.runs.HostRuns.{HostRuns}
use Rattle.listing.specs.declared.runs.Undealt.{Undealt}
use Rattle.listing.specs.declared.Tier.{Tier}
use Rattle.listing.specs.declared.order.ServiceOrder.{ServiceOrder}
use Rattle.listing.specs.declared.Listing.{Listing}
use Rattle.listing.specs.Held.{Same}
use Rattle.listing.specs.Listing.{nothing, alt_runs}
use Rattle.listing.specs.Items.{group_of, run}

-- a listing in its room of 272, and a tier in its room of 80
unfoldable pub listed : List Item → Listing
listed xs = record { count = length xs; list = padded 272 no_item xs }

unfoldable pub tiered : List Item → Tier
tiered xs = record { count = length xs; list = padded 80 no_item xs }

-- a tier before it is dealt, with the group of each endpoint
unfoldable pub grouped : Bool → List Item → Undealt
grouped prefer6 xs = record { count = length xs; list = padded 80 no_item xs; groups = padded 80 0 (map (group_of prefer6) xs) }

-- places of services in a room of 4
unfoldable pub placed : List ℕ → ServiceOrder
placed ks = record { count = length ks; list = padded 4 0 ks }

-- at most two ranks, one after the other
abbrev pub ranked : List Rank → Ranks
ranked [] = record { count = 0; first = rank.H3; second = rank.H3 }
ranked (a ∷ []) = record { count = 1; first = a; second = rank.H3 }
ranked (a ∷ b ∷ l) = record { count = 2; first = a; second = b }

-- targets, none where they are off, and both at a rank
abbrev pub targets_if : Bool → Targets → Targets
targets_if on x = record { source = x.source; count = cond on x.count 0 }

abbrev pub host_runs_if : Bool → HostTargets → ℕ → EchPlace → Rank → HostRuns
host_runs_if on x port ech rank = record { first = run (targets_if on x.first) port rank ech; second = run (targets_if on x.second) port rank ech }

abbrev pub both_runs : HostRuns → List Run
both_runs x = x.first ∷ x.second ∷ []

-- what is held and what is hinted at at most two ranks, and two empty runs
abbrev pub at_ranks : HostTargets → HostTargets → Ranks → ℕ → EchPlace → List Run
at_ranks held hints k port ech =
    both_runs (host_runs_if (nat_lt 0 k.count) held port ech k.first)
    ++ both_runs (host_runs_if (nat_lt 0 k.count) hints port ech k.first)
    ++ both_runs (host_runs_if (nat_lt 1 k.count) held port ech k.second)
    ++ both_runs (host_runs_if (nat_lt 1 k.count) hints port ech k.second)
    ++ both_runs (host_runs_if false nothing 0 Without rank.H3)

-- the runs of alternative service i, none past the count
unfoldable pub alt_runs_at : Rules → Queries → Same → Alts → ℕ → List Run
alt_runs_at r q same a i = cond (nat_lt i a.count) (alt_runs r q same i (get_or a.list i no_alt)) []

-- what a tier has
abbrev pub tier_members : Tier → List Item
tier_members t = take t.count t.list

-- places in order, in a room of 4
pub record Orders (ks : List ℕ) (count : ℕ) (list : List ℕ) : Type 0 where
  pub front : take count list ≡ ks
  pub number : count ≡ length ks
  pub few : count ≤ 4
  pub within : (k : ℕ) → k < count → get_or list k 0 < 4

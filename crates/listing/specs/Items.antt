-- Runs of listed endpoints: rule 4.13 (document 01, part 4); and the group in which each is dealt: rule 3.1 (document 01, part 3).
use Rattle.std.specs.Prelude.{ℕ, Bool, cond, List, map}
use Rattle.deal.specs.Interleaving.{upto}
use Rattle.deal.specs.Interleaving as dealing
use Rattle.records.specs.Numbers.{rank_number}
use Rattle.records.specs.declared.endpoints.Rank.{Rank}
use Rattle.records.specs.declared.names.EchPlace.{EchPlace}
use Rattle.records.specs.declared.references.Source.{Source}
use Rattle.records.specs.declared.references.Source.TheVariants.{Held6, Held4, Hint6, Hint4, Literal6, Literal4, Name}
use Rattle.records.specs.declared.endpoints.Target.{Target}
use Rattle.records.specs.declared.endpoints.Target.TheVariants.{V4, V6, Named}
use Rattle.records.specs.declared.endpoints.Endpoint.{Endpoint}
use Rattle.listing.specs.declared.hosts.Targets.{Targets}
use Rattle.listing.specs.declared.runs.Run.{Run}
use Rattle.records.specs.declared.references.Item.{Item}

-- 0 for the preferred family, 1 for the other; "Names count as preferred"
abbrev pub family_of : Bool → Source → ℕ
family_of prefer6 (Held6 q) = cond prefer6 0 1
family_of prefer6 (Held4 q) = cond prefer6 1 0
family_of prefer6 (Hint6 i) = cond prefer6 0 1
family_of prefer6 (Hint4 i) = cond prefer6 1 0
family_of prefer6 (Literal6 k) = cond prefer6 0 1
family_of prefer6 (Literal4 k) = cond prefer6 1 0
family_of prefer6 (Name w) = 0

-- "Groups by (rank H3, H2OrH1, H2, H1; preferred family first)", eight in all
abbrev pub group_of : Bool → Item → ℕ
group_of prefer6 i = dealing.group_of (rank_number i.rank) (family_of prefer6 i.source)

-- the same of an endpoint: the family of its target, and the group of its rank and family
abbrev pub target_family : Bool → Target → ℕ
target_family prefer6 (V4 a) = cond prefer6 1 0
target_family prefer6 (V6 h l s) = cond prefer6 0 1
target_family prefer6 (Named p) = 0

abbrev pub endpoint_group : Bool → Endpoint → ℕ
endpoint_group prefer6 e = dealing.group_of (rank_number e.rank) (target_family prefer6 e.target)

-- a run: the first so many places of one source, with one port, rank and ECH place
abbrev pub item_of : Run → ℕ → Item
item_of r p = record { source = r.source; port = r.port; place = p; rank = r.rank; ech = r.ech }

unfoldable pub run_items : Run → List Item
run_items r = map (item_of r) (upto r.count)

abbrev pub run : Targets → ℕ → Rank → EchPlace → Run
run x port rank ech = record { source = x.source; port = port; count = x.count; rank = rank; ech = ech }

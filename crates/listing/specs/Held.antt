-- What is held for a name: rule 4.11 (document 01, part 4). `same` says of two places among the names whether they hold the same name (rule S.7;
-- `records`, same_at).
use Rattle.std.specs.Prelude.{ℕ, ◌+◌, min, Bool, cond, ◌&&◌, List, [], ◌∷◌, nat_eq, take}
use Rattle.records.specs.Numbers.{kind_number}
use Rattle.records.specs.Queries.{answered}
use Rattle.records.specs.declared.queries.Kind.{Kind}
use Rattle.records.specs.declared.queries.Kind.TheVariants.{Aaaa, A}
use Rattle.records.specs.declared.queries.Answer.{Answer}
use Rattle.records.specs.declared.queries.Answer.TheVariants.{Pending, Failed, Held}
use Rattle.records.specs.declared.queries.Query.{Query}
use Rattle.records.specs.declared.queries.Queries.{Queries}
use Rattle.records.specs.declared.references.Source.TheVariants.{Held6, Held4}
use Rattle.listing.specs.declared.held.Holding.{Holding}
use Rattle.listing.specs.declared.hosts.HostTargets.{HostTargets}

abbrev pub Same : Type 0
Same = ℕ → ℕ → Bool

-- how many addresses an answer has, a count above 8 cut at 8; a failed answer has none
abbrev pub held_count : Answer → ℕ
held_count Pending = 0
held_count (Failed t) = 0
held_count (Held t n) = min n 8

abbrev pub is_for : Kind → Kind → Answer → Bool
is_for kind k a = nat_eq (kind_number k) (kind_number kind) && answered a

-- an answered record of that type and of the name at that place
unfoldable pub is_held : Same → Kind → ℕ → Query → Bool
is_held same kind place q = is_for kind q.kind q.answer && same q.name place

-- the first record that passes, and how many addresses it holds; none is record 0 with no address
unfoldable pub first_held : (Query → Bool) → ℕ → List Query → Holding
first_held test i [] = record { query = 0; count = 0 }
first_held test i (q ∷ l) = cond (test q) (record { query = i; count = held_count q.answer }) (first_held test (i + 1) l)

-- (H) "A host's addresses" are those of the first answered record of its name and type
unfoldable pub held_at : Same → Queries → Kind → ℕ → Holding
held_at same queries kind place = first_held (is_held same kind place) 0 (take queries.count queries.list)

-- its IPv6 and its IPv4 addresses
unfoldable pub held_targets : Same → Queries → ℕ → HostTargets
held_targets same queries place =
    record {
      first = record { source = Held6 (held_at same queries Aaaa place).query; count = (held_at same queries Aaaa place).count };
      second = record { source = Held4 (held_at same queries A place).query; count = (held_at same queries A place).count };
    }

-- References to endpoints: where a target is found, and what is read there. Rule 4.13. A place outside its table reads as
-- the zero of its kind (rule S.8).
use Rattle.std.specs.Prelude.{ℕ, ◌-◌, ◌%◌, cond, nat_eq}
use Rattle.records.specs.Lists.{cell}
use Rattle.records.specs.Rules.{no_alt, host_of}
use Rattle.records.specs.Queries.{address_at}
use Rattle.records.specs.Services.{hint_six, hint_four}
use Rattle.records.specs.declared.rules.Rules.{Rules}
use Rattle.records.specs.declared.rules.Alts.{Alts}
use Rattle.records.specs.declared.rules.Host.{Host}
use Rattle.records.specs.declared.rules.Host.TheVariants as host
use Rattle.records.specs.declared.queries.Addr.{Addr}
use Rattle.records.specs.declared.queries.Answers.{Answers}
use Rattle.records.specs.declared.services.Hint.{Hint}
use Rattle.records.specs.declared.services.Services.{Services}
use Rattle.records.specs.declared.names.EchPlace.TheVariants.{Without}
use Rattle.records.specs.declared.endpoints.Rank.TheVariants as rank
use Rattle.records.specs.declared.endpoints.Target.{Target}
use Rattle.records.specs.declared.endpoints.Target.TheVariants.{V4, V6, Named}
use Rattle.records.specs.declared.endpoints.Endpoint.{Endpoint}
use Rattle.records.specs.declared.references.Source.{Source}
use Rattle.records.specs.declared.references.Source.TheVariants.{Held6, Held4, Hint6, Hint4, Literal6, Literal4, Name}
use Rattle.records.specs.declared.references.Item.{Item}

abbrev pub no_item : Item
no_item = record { source = Held6 0; port = 0; place = 0; rank = rank.H3; ech = Without }

-- the host of the origin (0) or of alternative service k (1 + k)
unfoldable pub literal_at : Rules → Alts → ℕ → Host
literal_at r a k = cond (nat_eq k 0) r.host (host_of r.host (cell 4 no_alt no_alt a.list (k - 1)).host)

abbrev pub six : Addr → Target
six a = V6 a.hi a.lo a.scope

-- a hint and a host that is an address have no scope
abbrev pub hinted : Hint → Target
hinted h = V6 h.hi h.lo 0

abbrev pub literal_six : Host → Target
literal_six (host.V6 h l) = V6 h l 0
literal_six (host.V4 x) = V6 0 0 0
literal_six host.Named = V6 0 0 0

abbrev pub literal_four : Host → Target
literal_four (host.V4 x) = V4 x
literal_four (host.V6 h l) = V4 0
literal_four host.Named = V4 0

-- the target that stands at a place of a source; an IPv4 address of an answer is the low 32 bits
abbrev pub target_of : Rules → Alts → Answers → Services → ℕ → Source → Target
target_of r a d s p (Held6 q) = six (address_at d q p)
target_of r a d s p (Held4 q) = V4 ((address_at d q p).lo % 4294967296)
target_of r a d s p (Hint6 i) = hinted (hint_six s i p)
target_of r a d s p (Hint4 i) = V4 (hint_four s i p)
target_of r a d s p (Literal6 k) = literal_six (literal_at r a k)
target_of r a d s p (Literal4 k) = literal_four (literal_at r a k)
target_of r a d s p (Name w) = Named w

unfoldable pub endpoint_of : Rules → Alts → Answers → Services → Item → Endpoint
endpoint_of r a d s i = record { target = target_of r a d s i.place i.source; port = i.port; rank = i.rank; ech = i.ech }

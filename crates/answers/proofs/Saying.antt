-- With the machine's tables, an attempt says its endpoint as the definitions show it, and a query the name at its place.
use mathlib.Core.Path.{◌≡◌, refl, ap}
use mathlib.Core.Bool.{Bool, cond}
use Prim.Native.Nat.{ℕ, ◌<◌}
use lib.Dec.{ltb as nat_lt}
use borrow.Author.Tests.{lt-ltb}
use Rattle.records.specs.Endpoints.{shown, shown_target, shown_ech}
use Rattle.records.specs.Names.{name_bytes_at, ech_bytes_at, connect_name, host_at}
use Rattle.records.specs.declared.names.Names.{Names}
use Rattle.records.specs.declared.names.Echs.{Echs}
use Rattle.records.specs.declared.names.EchPlace.{EchPlace}
use Rattle.records.specs.declared.names.EchPlace.TheVariants.{Without, At}
use Rattle.records.specs.declared.endpoints.Endpoint.{Endpoint}
use Rattle.records.specs.declared.endpoints.Target.{Target}
use Rattle.records.specs.declared.endpoints.Target.TheVariants.{V4, V6, Named}
use Rattle.records.specs.declared.queries.Kind.{Kind}
use Rattle.machine.specs.declared.grant.Output.TheVariants as output
use Rattle.answers.specs.Answers.{query, attempt}
use Rattle.answers.specs.Outputs.{said_target, said_ech, target_name, sealed_place, output_name, output_ech, said_of}

in_place : (size p : ℕ) → p < size → cond (nat_lt p size) p 0 ≡ p
in_place size p h = simp (lt-ltb p size h)

target-shown : (names : Names) (t : Target) → said_target (connect_name (name_bytes_at names 0) (name_bytes_at names (target_name t))) t ≡ shown_target names t
unfolding host_at
target-shown names (V4 a) = refl
target-shown names (V6 h l s) = refl
target-shown names (Named p) = refl

ech-shown : (echs : Echs) (e : EchPlace) → said_ech (ech_bytes_at echs (sealed_place e)) e ≡ shown_ech echs e
ech-shown echs Without = refl
ech-shown echs (At p) = refl

pub query-says : (names : Names) (echs : Echs) (id : ℕ) (kind : Kind) (stale : Bool) (p : ℕ) → p < 14
    → said_of names echs (output.Query id kind stale p) ≡ query id kind stale (name_bytes_at names p)
unfolding said_of output_name
query-says names echs id kind stale p h = ap (λ q. query id kind stale (name_bytes_at names q)) (in_place 14 p h)

pub attempt-says : (names : Names) (echs : Echs) (id : ℕ) (retry : Bool) (e : Endpoint) → target_name e.target < 14 → sealed_place e.ech < 40
    → said_of names echs (output.Attempt id retry e) ≡ attempt id retry (shown names echs e)
unfolding said_of output_name output_ech
attempt-says names echs id retry e h k =
    rw (in_place 14 (target_name e.target) h, in_place 40 (sealed_place e.ech) k, target-shown names e.target, ech-shown echs e.ech) refl

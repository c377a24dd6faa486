-- What the machine's answers say: an output with the names and ECH bytes at its places, and what became of an input.
use Rattle.machine.specs.Steps.{Taken}
use Rattle.std.specs.Prelude.{Ok, Err, ℕ, cond, List, nat_lt}
use Rattle.std.proofs.Math.Option.{Option, none, some}
use Rattle.numbers.specs.Refusals.{refusal_number}
use Rattle.records.specs.Endpoints.{ShownTarget, four, six, host, Shown}
use Rattle.records.specs.Names.{name_bytes_at, ech_bytes_at, connect_name}
use Rattle.records.specs.declared.names.Names.{Names}
use Rattle.records.specs.declared.names.Echs.{Echs}
use Rattle.records.specs.declared.names.EchPlace.{EchPlace}
use Rattle.records.specs.declared.names.EchPlace.TheVariants.{Without, At}
use Rattle.records.specs.declared.endpoints.Target.{Target}
use Rattle.records.specs.declared.endpoints.Target.TheVariants.{V4, V6, Named}
use Rattle.records.specs.declared.endpoints.Endpoint.{Endpoint}
use Rattle.machine.specs.declared.grant.Output.{Output}
use Rattle.machine.specs.declared.grant.Output.TheVariants as output
use Rattle.answers.specs.Answers.{Said, waiting, query, timer, attempt, cancel, succeeded, failed, full}

-- an endpoint with the bytes of its host and of its ECH configuration
abbrev pub said_target : (name : List ℕ) → Target → ShownTarget
said_target name (V4 a) = four a
said_target name (V6 h l s) = six h l s
said_target name (Named p) = host name

abbrev pub said_ech : List ℕ → EchPlace → Option (List ℕ)
said_ech ech Without = none
said_ech ech (At p) = some ech

abbrev pub said_endpoint : (name ech : List ℕ) → Endpoint → Shown
said_endpoint name ech e = record { target = said_target name e.target; port = e.port; rank = e.rank; ech = said_ech ech e.ech }

-- an output, with the origin's name and what lies at the places that it has; a by-name host is the own name, or else the origin's, undotted
abbrev pub said_by : (origin name ech : List ℕ) → Output → Said
said_by origin name ech output.Waiting = waiting
said_by origin name ech (output.Query id kind stale p) = query id kind stale name
said_by origin name ech (output.Timer ns) = timer ns
said_by origin name ech (output.Attempt id retry e) = attempt id retry (said_endpoint (connect_name origin name) ech e)
said_by origin name ech (output.Cancel id) = cancel id
said_by origin name ech output.Succeeded = succeeded
said_by origin name ech (output.Failed reason) = failed reason
said_by origin name ech (output.Full table) = full table

-- the place of the name that an output has; 0 where it has none, and for a place outside the table, which no output has
abbrev pub target_name : Target → ℕ
target_name (V4 a) = 0
target_name (V6 h l s) = 0
target_name (Named p) = p

abbrev pub named_at : Output → ℕ
named_at output.Waiting = 0
named_at (output.Query id kind stale p) = p
named_at (output.Timer ns) = 0
named_at (output.Attempt id retry e) = target_name e.target
named_at (output.Cancel id) = 0
named_at output.Succeeded = 0
named_at (output.Failed reason) = 0
named_at (output.Full table) = 0

unfoldable pub output_name : Output → ℕ
output_name o = cond (nat_lt (named_at o) 14) (named_at o) 0

-- the same of its ECH bytes
abbrev pub sealed_place : EchPlace → ℕ
sealed_place Without = 0
sealed_place (At p) = p

abbrev pub sealed_at : Output → ℕ
sealed_at output.Waiting = 0
sealed_at (output.Query id kind stale p) = 0
sealed_at (output.Timer ns) = 0
sealed_at (output.Attempt id retry e) = sealed_place e.ech
sealed_at (output.Cancel id) = 0
sealed_at output.Succeeded = 0
sealed_at (output.Failed reason) = 0
sealed_at (output.Full table) = 0

unfoldable pub output_ech : Output → ℕ
output_ech o = cond (nat_lt (sealed_at o) 40) (sealed_at o) 0

-- an output, with the machine's tables
unfoldable pub said_of : Names → Echs → Output → Said
said_of names echs o = said_by (name_bytes_at names 0) (name_bytes_at names (output_name o)) (ech_bytes_at echs (output_ech o)) o

-- what became of an input: "8, number"
abbrev pub taken_number : Taken → ℕ
taken_number (Ok tt) = 0
taken_number (Err e) = refusal_number e

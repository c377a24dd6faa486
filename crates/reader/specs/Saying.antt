-- What an answer that was read says, with its bytes; and which answers fit the bytes (rules S.1 and B.10): all that the writer puts.
use Rattle.std.specs.Prelude.{ℕ, ◌+◌, ◌^◌, ◌≤◌, ◌<◌, List, length, Some, None}
use Rattle.std.specs.Prelude as code
use Rattle.std.proofs.Math.Option.{Option, none, some}
use Rattle.numbers.specs.Fields.{span_bytes}
use Rattle.numbers.specs.Names.{longest_name}
use Rattle.numbers.specs.declared.field.Span.{Span}
use Rattle.records.specs.Endpoints.{ShownTarget, four, six, host, Shown}
use Rattle.parts.specs.Addresses.{word, long}
use Rattle.answers.specs.Answers.{Said, waiting, query, timer, attempt, cancel, succeeded, failed, full, input}
use Rattle.reader.specs.declared.TargetSpan.{TargetSpan}
use Rattle.reader.specs.declared.TargetSpan.TheVariants.{V4, V6, Named}
use Rattle.reader.specs.declared.EndpointSpan.{EndpointSpan}
use Rattle.reader.specs.declared.Answer.{Answer}
use Rattle.reader.specs.declared.Answer.TheVariants.{Waiting, Query, Timer, Attempt, Cancel, Succeeded, Failed, Full, Taken}

abbrev pub target_in : List ℕ → TargetSpan → ShownTarget
target_in s (V4 b) = four (word s b.start)
target_in s (V6 b scope) = six (long s b.start) (long s (b.start + 8)) scope
target_in s (Named b) = host (span_bytes s b)

abbrev pub ech_in : List ℕ → code.Option Span → Option (List ℕ)
ech_in s None = none
ech_in s (Some b) = some (span_bytes s b)

abbrev pub endpoint_in : List ℕ → EndpointSpan → Shown
endpoint_in s e = record { target = target_in s e.target; port = e.port; rank = e.rank; ech = ech_in s e.ech }

abbrev pub said_in : List ℕ → Answer → Said
said_in s Waiting = waiting
said_in s (Query id kind stale b) = query id kind stale (span_bytes s b)
said_in s (Timer ns) = timer ns
said_in s (Attempt id retry e) = attempt id retry (endpoint_in s e)
said_in s (Cancel id) = cancel id
said_in s Succeeded = succeeded
said_in s (Failed reason) = failed reason
said_in s (Full table) = full table
said_in s (Taken n) = input n

abbrev pub FitsTarget : ShownTarget → Type 0
FitsTarget (four a) = a < 2 ^ 32
FitsTarget (six h l scope) = (h < 2 ^ 64) × (l < 2 ^ 64) × (scope < 2 ^ 32)
FitsTarget (host x) = length x ≤ longest_name

abbrev pub FitsEch : Option (List ℕ) → Type 0
FitsEch none = Unit {0}
FitsEch (some x) = length x ≤ 512

abbrev pub Fits : Said → Type 0
Fits waiting = Unit {0}
Fits (query id kind stale name) = (id < 2 ^ 64) × (length name ≤ longest_name)
Fits (timer ns) = ns < 2 ^ 64
Fits (attempt id retry e) = (id < 2 ^ 64) × FitsTarget e.target × (e.port < 2 ^ 16) × FitsEch e.ech
Fits (cancel id) = id < 2 ^ 64
Fits succeeded = Unit {0}
Fits (failed reason) = Unit {0}
Fits (full table) = Unit {0}
Fits (input n) = n ≤ 13

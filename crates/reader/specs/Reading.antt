-- Answers read back: the first fault in the order of the fields, or what the answer says with its bytes where they stand.
use Rattle.std.specs.Prelude.{ℕ, ◌-◌, cond, List, Option, Some, None, nat_eq}
use Rattle.numbers.specs.Got.{Got, got, and_then}
use Rattle.numbers.specs.Fields.{at_most, bytes_at}
use Rattle.numbers.specs.Names.{longest_name}
use Rattle.numbers.specs.Numbers.{read_number}
use Rattle.numbers.specs.Refusals.{out_of_range, too_many}
use Rattle.numbers.specs.declared.field.Span.{Span}
use Rattle.records.specs.declared.queries.Kind.{Kind}
use Rattle.records.specs.declared.queries.Kind.TheVariants.{Https, Aaaa, A}
use Rattle.records.specs.declared.endpoints.Rank.{Rank}
use Rattle.records.specs.declared.endpoints.Rank.TheVariants as rank
use Rattle.machine.specs.declared.wish.Reason.{Reason}
use Rattle.machine.specs.declared.wish.Reason.TheVariants.{Dns, Connection}
use Rattle.machine.specs.declared.grant.Table.{Table}
use Rattle.machine.specs.declared.grant.Table.TheVariants as table
use Rattle.reader.specs.declared.TargetSpan.{TargetSpan}
use Rattle.reader.specs.declared.TargetSpan.TheVariants.{V4, V6, Named}
use Rattle.reader.specs.declared.EndpointSpan.{EndpointSpan}
use Rattle.reader.specs.declared.Answer.{Answer}
use Rattle.reader.specs.declared.Answer.TheVariants.{Waiting, Query, Timer, Attempt, Cancel, Succeeded, Failed, Full, Taken}

-- the case of each number
unfoldable pub kind_of : ℕ → Kind
kind_of n = cond (nat_eq n 0) Https (cond (nat_eq n 1) Aaaa A)

unfoldable pub rank_of : ℕ → Rank
rank_of n = cond (nat_eq n 0) rank.H3 (cond (nat_eq n 1) rank.H2OrH1 (cond (nat_eq n 2) rank.H2 rank.H1))

unfoldable pub reason_of : ℕ → Reason
reason_of n = cond (nat_eq n 0) Dns Connection

unfoldable pub table_of : ℕ → Table
table_of n = cond (nat_eq n 0) table.Queries table.Attempts

-- a number in its range
abbrev pub chosen_at : List ℕ → (limit at : ℕ) → Got ℕ
chosen_at s limit at = at_most limit out_of_range (read_number s at)

-- "length, name": at most a name's; whether it is one is not asked
unfoldable pub sized_at : List ℕ → (at : ℕ) → Got Span
sized_at s at = and_then (at_most longest_name too_many (read_number s at)) (bytes_at s)

-- "type 0 HTTPS 1 AAAA 2 A, allow_stale, length, name"
unfoldable pub query_at : List ℕ → (id at : ℕ) → Got Answer
query_at s id at =
    and_then (chosen_at s 2 at) (λ kind p.
    and_then (chosen_at s 1 p) (λ stale p.
    and_then (sized_at s p) (λ name end.
    got (Query id (kind_of kind) (nat_eq stale 1) name) end)))

-- "4 bytes"; "16 bytes, scope"; "length, name"
unfoldable pub four_at : List ℕ → (at : ℕ) → Got TargetSpan
four_at s at = and_then (bytes_at s 4 at) (λ b end. got (V4 b) end)

unfoldable pub six_at : List ℕ → (at : ℕ) → Got TargetSpan
six_at s at = and_then (bytes_at s 16 at) (λ b p. and_then (chosen_at s 4294967295 p) (λ scope end. got (V6 b scope) end))

unfoldable pub host_at : List ℕ → (at : ℕ) → Got TargetSpan
host_at s at = and_then (sized_at s at) (λ b end. got (Named b) end)

unfoldable pub target_by : List ℕ → (kind at : ℕ) → Got TargetSpan
target_by s kind at = cond (nat_eq kind 0) (four_at s at) (cond (nat_eq kind 1) (six_at s at) (host_at s at))

unfoldable pub target_at : List ℕ → (at : ℕ) → Got TargetSpan
target_at s at = and_then (chosen_at s 2 at) (target_by s)

-- "0 none, else length+1, bytes"
unfoldable pub sealed_by : List ℕ → (sealed at : ℕ) → Got (Option Span)
sealed_by s sealed at = cond (nat_eq sealed 0) (got None at) (and_then (bytes_at s (sealed - 1) at) (λ b end. got (Some b) end))

unfoldable pub ech_at : List ℕ → (at : ℕ) → Got (Option Span)
ech_at s at = and_then (at_most 513 too_many (read_number s at)) (sealed_by s)

-- "version rank, target, ECH"; the port ends the target
unfoldable pub port_at : List ℕ → ℕ → TargetSpan → (at : ℕ) → Got EndpointSpan
port_at s rank target at =
    and_then (chosen_at s 65535 at) (λ port p.
    and_then (ech_at s p) (λ ech end.
    got (record { target = target; port = port; rank = rank_of rank; ech = ech }) end))

unfoldable pub endpoint_at : List ℕ → (at : ℕ) → Got EndpointSpan
endpoint_at s at = and_then (chosen_at s 3 at) (λ rank p. and_then (target_at s p) (λ target p. port_at s rank target p))

unfoldable pub attempt_at : List ℕ → (id at : ℕ) → Got Answer
attempt_at s id at =
    and_then (chosen_at s 1 at) (λ retry p.
    and_then (endpoint_at s p) (λ e end.
    got (Attempt id (nat_eq retry 1) e) end))

-- the most that the number after an answer's kind can be; an id or a time may be any
unfoldable pub most_of : (kind : ℕ) → ℕ
most_of kind = cond (nat_eq kind 6) 1 (cond (nat_eq kind 7) 1 (cond (nat_eq kind 8) 13 18446744073709551615))

-- an answer after its kind and the number n that follows it
unfoldable pub rest_at : List ℕ → (kind n at : ℕ) → Got Answer
rest_at s kind n at =
    cond (nat_eq kind 1) (query_at s n at)
    (cond (nat_eq kind 2) (got (Timer n) at)
    (cond (nat_eq kind 3) (attempt_at s n at)
    (cond (nat_eq kind 4) (got (Cancel n) at)
    (cond (nat_eq kind 6) (got (Failed (reason_of n)) at)
    (cond (nat_eq kind 7) (got (Full (table_of n)) at)
    (got (Taken n) at))))))

-- Waiting and Succeeded have their kind alone
unfoldable pub kind_at : List ℕ → (kind at : ℕ) → Got Answer
kind_at s kind at = cond (nat_eq kind 0) (got Waiting at) (cond (nat_eq kind 5) (got Succeeded at) (and_then (chosen_at s (most_of kind) at) (rest_at s kind)))

unfoldable pub answer_at : List ℕ → (at : ℕ) → Got Answer
answer_at s at = and_then (chosen_at s 8 at) (kind_at s)

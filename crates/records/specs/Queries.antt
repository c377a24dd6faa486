-- Query records and the addresses of their answers. Rules 4.11 and 4.13; zeros: rule S.8.
use Rattle.std.specs.Prelude.{ℕ, Bool, true, false, cond, [], nat_lt, get_or, replicate}
use Rattle.records.specs.Lists.{cell}
use Rattle.records.specs.declared.queries.Addr.{Addr}
use Rattle.records.specs.declared.queries.Addresses.{Addresses}
use Rattle.records.specs.declared.queries.Answers.{Answers}
use Rattle.records.specs.declared.queries.Answer.{Answer}
use Rattle.records.specs.declared.queries.Answer.TheVariants.{Pending, Failed, Held}
use Rattle.records.specs.declared.queries.Kind.TheVariants.{Https}
use Rattle.records.specs.declared.queries.Query.{Query}
use Rattle.records.specs.declared.queries.Queries.{Queries}
use Rattle.records.specs.declared.queries.Refresh.TheVariants.{Idle}

-- the zeros, and what a list of them reads past its end where that is another value
abbrev pub no_query : Query
no_query = record { id = 0; kind = Https; name = 0; stale = false; answer = Pending; refresh = Idle }

unfoldable pub no_queries : Queries
no_queries = record { count = 0; list = replicate 16 no_query }

abbrev pub no_addr : Addr
no_addr = record { hi = 0; lo = 0; scope = 0 }

unfoldable pub no_addresses : Addresses
no_addresses = record { list = replicate 8 no_addr }

abbrev pub blank_addresses : Addresses
blank_addresses = record { list = [] }

unfoldable pub no_answers : Answers
no_answers = record { list = replicate 16 no_addresses }

-- a failed answer is one
abbrev pub answered : Answer → Bool
answered Pending = false
answered (Failed t) = true
answered (Held t n) = true

-- the address at a place of a record's answer; the zero outside the tables
unfoldable pub address_at : Answers → ℕ → ℕ → Addr
address_at d q p = cond (nat_lt q 16) (cell 8 no_addr no_addr (get_or d.list q blank_addresses).list p) no_addr

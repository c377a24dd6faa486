-- The numbers for what an answer shows: rules B.5, B.10 and B.11.
use Rattle.std.specs.Prelude.{ℕ}
use Rattle.records.specs.declared.endpoints.Rank.{Rank}
use Rattle.records.specs.declared.endpoints.Rank.TheVariants as rank
use Rattle.records.specs.declared.queries.Kind.{Kind}
use Rattle.records.specs.declared.queries.Kind.TheVariants.{Https, Aaaa, A}
use Rattle.records.specs.declared.endpoints.Target.{Target}
use Rattle.records.specs.declared.endpoints.Target.TheVariants.{V4, V6, Named}

-- "rank H3, H2OrH1, H2, H1"
abbrev pub rank_number : Rank → ℕ
rank_number rank.H3 = 0
rank_number rank.H2OrH1 = 1
rank_number rank.H2 = 2
rank_number rank.H1 = 3

-- "type 0 HTTPS 1 AAAA 2 A", in an answer
abbrev pub kind_number : Kind → ℕ
kind_number Https = 0
kind_number Aaaa = 1
kind_number A = 2

-- "1 AAAA, 2 A, 3 HTTPS", in an input
abbrev pub input_kind : Kind → ℕ
input_kind Aaaa = 1
input_kind A = 2
input_kind Https = 3

-- a target's case in an answer: 0 an IPv4 address, 1 an IPv6 address, 2 a name
abbrev pub target_number : Target → ℕ
target_number (V4 a) = 0
target_number (V6 h l s) = 1
target_number (Named p) = 2

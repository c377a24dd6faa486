-- Fields of a body, rules B.1 to B.4 (document 01, "Refusal numbers"): read in order, the first fault given; a length is tested before its bytes.
use Rattle.std.specs.Prelude.{cond, ℕ, ◌+◌, List, nat_le, nat_eq, length, take, drop}
use Rattle.numbers.specs.Got.{Got, got, refused, and_then}
use Rattle.numbers.specs.Names.{name_ok}
use Rattle.numbers.specs.Numbers.{read_number}
use Rattle.numbers.specs.Refusals.{cut, bad_name, too_many}
use Rattle.numbers.specs.declared.field.Span.{Span}

-- a number at most the limit; a larger one gets the refusal n of its field, OutOfRange or TooMany
unfoldable pub at_most : (limit n : ℕ) → Got ℕ → Got ℕ
at_most limit n r = and_then r (λ v next. cond (nat_le v limit) (got v next) (refused n))

-- n raw bytes from the place p on, or Cut
unfoldable pub bytes_at : List ℕ → (n p : ℕ) → Got Span
bytes_at s n p = cond (nat_le (p + n) (length s)) (got (record { start = p; len = n }) (p + n)) (refused cut)

-- the bytes of a span
abbrev pub span_bytes : List ℕ → Span → List ℕ
span_bytes s b = take b.len (drop b.start s)

-- the length of a name: above the limit TooMany, 0 BadName
unfoldable pub name_length : (limit : ℕ) → Got ℕ → Got ℕ
name_length limit r = and_then (at_most limit too_many r) (λ n next. cond (nat_eq n 0) (refused bad_name) (got n next))

-- n bytes from the place p on that are a name, or BadName
unfoldable pub named : List ℕ → (n p : ℕ) → Got Span
named s n p = and_then (bytes_at s n p) (λ b next. cond (name_ok (span_bytes s b)) (got b next) (refused bad_name))

-- a name: its length, at most the limit, then its bytes; the two limits are `longest_name` and `longest_origin`
unfoldable pub name_at : List ℕ → (limit at : ℕ) → Got Span
name_at s limit at = and_then (name_length limit (read_number s at)) (named s)

-- Bytes of a body in their rooms, rules B.3 and S.8: what is left of a room is zero.
use Rattle.std.specs.Prelude.{ℕ, ◌+◌, Bool, ◌&&◌, cond, List, [], nat_le, length}
use Rattle.numbers.specs.Fields.{span_bytes}
use Rattle.numbers.specs.declared.field.Span.{Span}
use Rattle.records.specs.Lists.{padded}
use Rattle.records.specs.declared.names.Name.{Name}
use Rattle.records.specs.declared.names.Ech.{Ech}

-- bytes that lie in the body and fit a room
unfoldable pub fits : (room : ℕ) → List ℕ → Span → Bool
fits room s b = nat_le b.len room && nat_le (b.start + b.len) (length s)

-- the bytes themselves; none where they don't
unfoldable pub kept : (room : ℕ) → List ℕ → Span → List ℕ
kept room s b = cond (fits room s b) (span_bytes s b) []

unfoldable pub name_in : List ℕ → Name
name_in bs = record { len = length bs; bytes = padded 253 0 bs }

unfoldable pub ech_in : List ℕ → Ech
ech_in bs = record { len = length bs; bytes = padded 512 0 bs }

-- Ids, rules 1.1 and 1.2: the first is 0, each is one more than the one before, and 2^64 - 1 is followed by 0.
use Rattle.std.specs.Prelude.{◌+◌, ◌%◌, ◌^◌}
use Rattle.pacing.specs.declared.id.IdGenerator.{IdGenerator}
use Rattle.pacing.specs.declared.id.Issued.{Issued}

abbrev pub first_id : IdGenerator
first_id = record { next = 0 }

-- the id that is given, and the generator after it
abbrev pub next_id : IdGenerator → Issued
next_id ids = record { id = ids.next; ids = record { next = (ids.next + 1) % 2 ^ 64 } }

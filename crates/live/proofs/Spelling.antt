-- A walk by hand over the live machine stands over a table of types of which the first entry alone is known: then no comparison of types
-- spells the machine out. What it asks of the other entries is said here; those of the table itself have it. Rattle finds the proofs of the
-- thin calls alone now, so nothing here cites these words; they are kept as they were.
use mathlib.Core.Path.{◌≡◌}
use mathlib.Core.List.{[], ◌∷◌}
use lib.Dec.{T as Yes}
use mir.Syntax.{Ty}
use mir.Raw.{raw}
use mir.Table.{Table, spell}
use mir.Val.{Val, has_ty, WT}
use denote.RattleType.{RattleType}
use denote.Laws.{Is}
use denote.Memory.{raw_all, pointee}

-- the first entry of a table, which is the answer's, over other entries; and those that stand there
abbrev pub over : Table → Table → Table
over [] tab = tab
over (d ∷ Δ) tab = d ∷ tab

abbrev pub rest : Table → Table
rest [] = []
rest (d ∷ Δ) = Δ

-- a type as a table spells it
abbrev pub spelled : Table → RattleType → Ty
spelled tab R = spell tab (pointee R.written)

-- the machine sees the row's type so, and what the row owns has it
abbrev pub Seen : Table → RattleType → Type 0
Seen tab R = raw_all R.mir ≡ raw (spelled tab R) ∷ []

abbrev pub Held : Table → RattleType → Type 0
Held tab R = (r : R.Denot) (v : Val) → Is R r (v ∷ []) → Yes (has_ty (spelled tab R) v) × WT v

-- The refusal table, rule R.1 (document 01, "Refusal numbers"): each number has a name, and the definitions cite the name.
use Rattle.std.specs.Prelude.{ℕ, List, [], ◌∷◌}
use Rattle.numbers.specs.declared.refusal.Refusal.{Refusal}
use Rattle.numbers.specs.declared.refusal.Refusal.TheVariants.{Cut, BadNumber, OutOfRange, BadName, TooMany, Trailing, UnknownId, AlreadyAnswered, WrongType, StaleRefresh, EchNotSent, AlreadyEnded, NoRoom}

abbrev pub cut : ℕ
cut = 1

abbrev pub bad_number : ℕ
bad_number = 2

abbrev pub out_of_range : ℕ
out_of_range = 3

abbrev pub bad_name : ℕ
bad_name = 4

abbrev pub too_many : ℕ
too_many = 5

abbrev pub trailing : ℕ
trailing = 6

abbrev pub unknown_id : ℕ
unknown_id = 7

abbrev pub already_answered : ℕ
already_answered = 8

abbrev pub wrong_type : ℕ
wrong_type = 9

abbrev pub stale_refresh : ℕ
stale_refresh = 10

abbrev pub ech_not_sent : ℕ
ech_not_sent = 11

abbrev pub already_ended : ℕ
already_ended = 12

abbrev pub no_room : ℕ
no_room = 13

abbrev pub refusal_number : Refusal → ℕ
refusal_number Cut = cut
refusal_number BadNumber = bad_number
refusal_number OutOfRange = out_of_range
refusal_number BadName = bad_name
refusal_number TooMany = too_many
refusal_number Trailing = trailing
refusal_number UnknownId = unknown_id
refusal_number AlreadyAnswered = already_answered
refusal_number WrongType = wrong_type
refusal_number StaleRefresh = stale_refresh
refusal_number EchNotSent = ech_not_sent
refusal_number AlreadyEnded = already_ended
refusal_number NoRoom = no_room

-- the table's order: the refusal n stands at the place n - 1
abbrev pub all_refusals : List Refusal
all_refusals =
    Cut ∷ BadNumber ∷ OutOfRange ∷ BadName ∷ TooMany ∷ Trailing ∷ UnknownId ∷ AlreadyAnswered ∷ WrongType ∷ StaleRefresh ∷ EchNotSent ∷ AlreadyEnded ∷ NoRoom ∷ []

-- What `deal` answers, and what it leaves in the room lent to it, for any groups and any room: rule 3.5 (document 01, part 3).
use Rattle.std.specs.Prelude.{ℕ, List, [], ◌∷◌, Bool, true, cond, ◌&&◌, length, nat_eq, nat_le, nat_lt}
use Rattle.deal.specs.Interleaving.{order}
use Rattle.deal.specs.declared.Dealing.{Dealing}
use Rattle.deal.specs.declared.Dealing.TheVariants.{Dealt, TooLong, OtherRoom, NoGroup}

-- the number of an answer, which document 01 leaves open: 0 for dealt, else a refusal
abbrev pub dealing_number : Dealing → ℕ
dealing_number Dealt = 0
dealing_number TooLong = 1
dealing_number OtherRoom = 2
dealing_number NoGroup = 3

-- every group is one of the eight, as a test
abbrev pub grouped : List ℕ → Bool
grouped [] = true
grouped (g ∷ gs) = nat_lt g 8 && grouped gs

-- The first test that fails gives the refusal, lengths before groups: a list of at most 272, a room of the list's length, groups below 8.
unfoldable pub deal_answer : List ℕ → ℕ → ℕ
deal_answer gs room = cond (nat_le (length gs) 272) (cond (nat_eq room (length gs)) (cond (grouped gs) 0 3) 2) 1

-- The room holds the dealt positions if they were dealt, else what it held.
unfoldable pub deal_out : List ℕ → List ℕ → List ℕ
deal_out gs out = cond (nat_eq (deal_answer gs (length out)) 0) (order gs) out

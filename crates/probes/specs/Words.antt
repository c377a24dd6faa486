-- What an entry says of an outcome: it returns the outcome's number, and stores its values into words that the caller lends.
use Rattle.std.specs.Prelude.{ℕ, Bool, true, false, List, [], ◌∷◌, slice_index_or}
use Rattle.std.proofs.lemmas.List.Edits.{sets}
use Rattle.numbers.specs.Got.{Got, got, refused}
use Rattle.numbers.specs.Put as put
use Rattle.numbers.specs.Refusals.{all_refusals}
use Rattle.numbers.specs.declared.field.Span.{Span}
use Rattle.numbers.specs.declared.refusal.Refusal.{Refusal}
use Rattle.numbers.specs.declared.refusal.Refusal.TheVariants.{Cut}
use Rattle.pacing.specs.declared.id.Issued.{Issued}

-- the lent words after it: the values from the first word on, as many as there are words for; the others are as they were
unfoldable pub filled : List ℕ → List ℕ → List ℕ
filled words values = sets words 0 values

-- 0 for what was read, or the refusal's number
abbrev pub number_of : {A : Type 0} → Got A → ℕ
number_of (got v next) = 0
number_of (refused n) = n

-- value and next place
abbrev pub read_words : Got ℕ → List ℕ
read_words (got v next) = v ∷ next ∷ []
read_words (refused n) = []

-- where the bytes start, how many they are, and the next place
abbrev pub span_words : Got Span → List ℕ
span_words (got b next) = b.start ∷ b.len ∷ next ∷ []
span_words (refused n) = []

-- 0 for what was written, or the refusal's number
abbrev pub put_number : put.Placed → ℕ
put_number (put.placed next) = 0
put_number (put.refused n) = n

-- the next place
abbrev pub put_words : put.Placed → List ℕ
put_words (put.placed next) = next ∷ []
put_words (put.refused n) = []

abbrev pub flag_of : Bool → ℕ
flag_of true = 1
flag_of false = 0

-- the refusal at a place of the table, from 0; past its end the first
unfoldable pub refusal_at : ℕ → Refusal
refusal_at place = slice_index_or all_refusals place Cut

-- the id that is given, and the one that comes next
abbrev pub issued_words : Issued → List ℕ
issued_words i = i.id ∷ i.ids.next ∷ []

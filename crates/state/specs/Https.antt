-- The HTTPS name: rule 5.3 (RFC 9460, section 2.3).
use Rattle.std.specs.Prelude.{ℕ, zero, suc, ◌+◌, ◌/◌, ◌%◌, cond, List, [], ◌∷◌, ◌++◌, nat_lt, length, take}
use Rattle.records.specs.Lists.{padded}
use Rattle.records.specs.declared.names.Name.{Name}
use Rattle.state.specs.declared.https.Digits.{Digits}

-- a number below 10 to the n, in decimal
unfoldable pub decimal : (n : ℕ) → ℕ → List ℕ
decimal zero x = []
decimal (suc n) x = cond (nat_lt x 10) [] (decimal n (x / 10)) ++ ((48 + x % 10) ∷ [])

-- `_` and `._https.`
abbrev pub underscore : List ℕ
underscore = 95 ∷ []

abbrev pub https_label : List ℕ
https_label = 46 ∷ 95 ∷ 104 ∷ 116 ∷ 116 ∷ 112 ∷ 115 ∷ 46 ∷ []

-- (H) `_PORT._https.` before the origin's name
unfoldable pub prefixed : ℕ → List ℕ → List ℕ
prefixed port origin = ((underscore ++ decimal 5 port) ++ https_label) ++ origin

-- at most five digits in their room
unfoldable pub digits_in : List ℕ → Digits
digits_in ds = record { count = length ds; list = padded 5 0 ds }

-- bytes in the room of a name, cut at the room
unfoldable pub name_in : List ℕ → Name
name_in bs = record { len = length (take 253 bs); bytes = padded 253 0 (take 253 bs) }

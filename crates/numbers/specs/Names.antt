-- Names, rules S.1 and S.5 (document 01, "Sizes"). Without one dot at its end, a name is split at its dots into labels; each is of 1 to 63
-- letters, digits, `-` or `_`, and the last has a byte that is no digit.
use Rattle.std.specs.Prelude.{ℕ, Bool, true, ◌&&◌, ◌||◌, not, cond, List, [], ◌∷◌, length, nat_le, nat_eq}

-- the longest name, and the longest of an origin: before that one, the prefix of its HTTPS name still fits
abbrev pub longest_name : ℕ
longest_name = 253

abbrev pub longest_origin : ℕ
longest_origin = 239

-- every member passes the test
unfoldable pub every : {A : Type 0} → (A → Bool) → List A → Bool
every p [] = true
every p (x ∷ xs) = p x && every p xs

unfoldable pub between : ℕ → ℕ → ℕ → Bool
between lo hi b = nat_le lo b && nat_le b hi

-- 0 to 9
unfoldable pub is_digit : ℕ → Bool
is_digit b = between 48 57 b

-- a letter (a to z, A to Z), a digit, `-` or `_`
unfoldable pub name_byte : ℕ → Bool
name_byte b = between 97 122 b || (between 65 90 b || (is_digit b || (nat_eq b 45 || nat_eq b 95)))

-- the dot
abbrev pub dot : ℕ
dot = 46

-- the bytes without one trailing dot
unfoldable pub undotted : List ℕ → List ℕ
undotted [] = []
undotted (b ∷ s) = cond (nat_eq b dot && nat_eq (length s) 0) [] (b ∷ undotted s)

-- a byte put in front of the first label
unfoldable pub in_front : ℕ → List (List ℕ) → List (List ℕ)
in_front b [] = (b ∷ []) ∷ []
in_front b (l ∷ ls) = (b ∷ l) ∷ ls

-- the labels: what stands between the dots
unfoldable pub labels : List ℕ → List (List ℕ)
labels [] = [] ∷ []
labels (b ∷ s) = cond (nat_eq b dot) ([] ∷ labels s) (in_front b (labels s))

unfoldable pub last : List (List ℕ) → List ℕ
last [] = []
last (l ∷ ls) = cond (nat_eq (length ls) 0) l (last ls)

-- 1 to 63 bytes
unfoldable pub label_ok : List ℕ → Bool
label_ok l = (nat_le 1 (length l) && nat_le (length l) 63) && every name_byte l

unfoldable pub labels_ok : List (List ℕ) → Bool
labels_ok ls = every label_ok ls && not (every is_digit (last ls))

unfoldable pub name_ok : List ℕ → Bool
name_ok s = labels_ok (labels (undotted s))

-- What the loop of the function `name_ok` keeps: a name walked byte by byte (rule S.5). That it says what specs/Names' `name_ok` says is proved (proofs/NameWalk.antt).
use Rattle.std.specs.Prelude.{ℕ, ◌+◌, Bool, ◌&&◌, cond, List, [], ◌∷◌, length, nat_lt, nat_eq}
use Rattle.numbers.specs.Names.{dot, is_digit, name_byte}

-- 1 for a digit, 0 for another byte
unfoldable pub digit_of : ℕ → ℕ
digit_of b = cond (is_digit b) 1 0

-- the rest of a name, inside a label that has `run` bytes so far, `digits` of them digits
unfoldable pub walk : (run digits : ℕ) → List ℕ → Bool
walk run digits [] = nat_lt digits run
walk run digits (b ∷ s) =
    cond (nat_eq b dot)
    (cond (nat_eq (length s) 0) (nat_lt digits run) (nat_lt 0 run && walk 0 0 s))
    (name_byte b && (nat_lt run 63 && walk (run + 1) (digits + digit_of b) s))

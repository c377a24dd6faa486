-- How the writer puts an answer: numbers, bytes, numbers, bytes. That these are the bytes of the answer's fields is proved (proofs/Joined.antt).
use Rattle.std.specs.Prelude.{List, [], ◌∷◌, ◌++◌, Bool, ℕ}
use Rattle.numbers.specs.Numbers.{number_bytes}
use Rattle.records.specs.Numbers.{rank_number}
use Rattle.records.specs.declared.endpoints.Endpoint.{Endpoint}
use Rattle.answers.specs.Answers.{number, raw, bit, target_fields, joined}
use Rattle.answers.specs.Outputs.{said_target}

unfoldable pub numbers_bytes : List ℕ → List ℕ
numbers_bytes [] = []
numbers_bytes (n ∷ l) = number_bytes n ++ numbers_bytes l

unfoldable pub parts_bytes : (head body tail ech : List ℕ) → List ℕ
parts_bytes head body tail ech = numbers_bytes head ++ (body ++ (numbers_bytes tail ++ ech))

-- an attempt to an endpoint with this host, and with ECH bytes after their number
unfoldable pub attempt_bytes : (id : ℕ) → (retry : Bool) → Endpoint → (host : List ℕ) → (sealed : ℕ) → (ech : List ℕ) → List ℕ
attempt_bytes id retry e host sealed ech =
    joined
    (number 3 ∷ number id ∷ number (bit retry) ∷ number (rank_number e.rank)
    ∷ (target_fields (said_target host e.target) ++ (number e.port ∷ number sealed ∷ raw ech ∷ [])))

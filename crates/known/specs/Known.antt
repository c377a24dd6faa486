-- Document 01's starred examples, the resolution delay and the empty tape as one list: what the definitions give, beside what the document
-- says.
use Rattle.std.specs.Prelude.{ℕ, ◌+◌, ◌≡◌, cond, Some, List, [], ◌∷◌, map, nat_eq}
use Rattle.deal.specs.Interleaving.{group_of, interleave}
use Rattle.numbers.specs.Got.{Got, got, refused}
use Rattle.numbers.specs.Numbers.{read_number, number_bytes}
use Rattle.pacing.specs.Pacing.{factor_of, product_of}
use Rattle.starting.specs.Starting.{resolution_met}
use Rattle.replay.specs.Replay.{Run, replay_of}

-- a reading as numbers: 0 with the value and the next place, or the refusal's number
abbrev pub told : Got ℕ → List ℕ
told (got v next) = 0 ∷ v ∷ next ∷ []
told (refused n) = n ∷ []

-- an endpoint of the interleaving example: rank (0 H3, 2 H2), family (6 or 4) and its letter
pub record Sample : Type 0 where
  pub rank : ℕ
  pub family : ℕ
  pub letter : ℕ

abbrev pub a : Sample
a = record { rank = 0; family = 6; letter = 0xA }

abbrev pub b : Sample
b = record { rank = 0; family = 6; letter = 0xB }

abbrev pub c : Sample
c = record { rank = 0; family = 4; letter = 0xC }

abbrev pub d : Sample
d = record { rank = 2; family = 4; letter = 0xD }

-- its group, preferring v6
abbrev pub preferring_six : Sample → ℕ
preferring_six e = group_of e.rank (cond (nat_eq e.family 6) 0 1)

-- 1 for a delay of 50,000,000 ns that is met so long after an answer at the moment t, else 0
abbrev pub met : (t after : ℕ) → ℕ
met t after = cond (resolution_met 50_000_000 (Some t) (t + after)) 1 0

-- a replay as numbers: its status, place and calls, and then the bytes of its answers
abbrev pub replayed : Run → List ℕ
replayed r = r.status ∷ r.place ∷ r.calls ∷ r.bytes

-- "0 or 1 in progress: factor 1" is said of any multiplier m, "after the answer" of an answer at any moment t, and the empty tape is
-- replayed into a buffer of any size
unfoldable pub given : (m t room : ℕ) → List (List ℕ)
given m t room =
    (factor_of m 0 ∷ factor_of m 1 ∷ [])
    ∷ (factor_of 2 32 ∷ [])
    ∷ (factor_of 3 21 ∷ factor_of 3 22 ∷ [])
    ∷ (factor_of 65_535 3 ∷ factor_of 65_536 3 ∷ [])
    ∷ (product_of 250_000_000 4_294_967_295 ∷ [])
    ∷ (product_of 4_294_967_297 4_294_967_295 ∷ [])
    ∷ (product_of 8_589_934_592 2_147_483_648 ∷ [])
    ∷ number_bytes 443
    ∷ told (read_number (0xBB ∷ 0x03 ∷ []) 0)
    ∷ told (read_number (0x80 ∷ 0x00 ∷ []) 0)
    ∷ told (read_number (0x80 ∷ []) 0)
    ∷ map (λ e. e.letter) (interleave preferring_six (a ∷ b ∷ c ∷ d ∷ []))
    ∷ (met t 49_999_999 ∷ met t 50_000_000 ∷ [])
    ∷ replayed (replay_of [] room)
    ∷ []

unfoldable pub said : List (List ℕ)
said =
    (1 ∷ 1 ∷ [])
    ∷ (2_147_483_648 ∷ [])
    ∷ (3_486_784_401 ∷ 4_294_967_295 ∷ [])
    ∷ (4_294_836_225 ∷ 4_294_967_295 ∷ [])
    ∷ (1_073_741_823_750_000_000 ∷ [])
    ∷ (18_446_744_073_709_551_615 ∷ [])
    ∷ (18_446_744_073_709_551_615 ∷ [])
    ∷ (0xBB ∷ 0x03 ∷ [])
    ∷ (0 ∷ 443 ∷ 2 ∷ [])
    ∷ (2 ∷ [])
    ∷ (1 ∷ [])
    ∷ (0xA ∷ 0xC ∷ 0xD ∷ 0xB ∷ [])
    ∷ (0 ∷ 1 ∷ [])
    ∷ (1 ∷ 0 ∷ 0 ∷ [])
    ∷ []

-- the single statement, proved in proofs/Examples.antt
abbrev pub Known : Type 0
Known = (m t room : ℕ) → given m t room ≡ said

-- By which numbers frames and bodies are refused: a frame by 1 to 3, a configuration by 1 to 6.
--     Few, Lean          of a field, and of reading
--     body-few, frame-few
--     setup-lean
use Prim.Native.Nat.{ℕ, zero, suc, ◌+◌, ◌*◌, ◌%◌, ◌≤◌, ◌<◌}
use mathlib.Core.Path.{refl}
use mathlib.Core.Bool.{Bool, true, false, cond}
use mathlib.Core.List.{List, [], ◌∷◌}
use native.Mathlib.Omega.{arith}
use lib.Dec.{eqb as nat_eq, ltb as nat_lt, leb as nat_le}
use lib.ListN.{length, drop}
use Rattle.numbers.specs.Got.{Got, got, refused, and_then}
use Rattle.numbers.specs.Fields.{at_most, bytes_at}
use Rattle.numbers.specs.Numbers.{below, groups, read_number}
use Rattle.numbers.specs.Refusals.{cut, bad_number, out_of_range}
use Rattle.parts.specs.Reading.{Reading, read, fault}
use Rattle.configuration.specs.Configuration.{none_added, setup_at}
use Rattle.configuration.specs.declared.Setup.{Setup}
use Rattle.written.proofs.Inside.{Inside, in-read}
use Rattle.written.proofs.SetupInside.{edition-inside}
use Rattle.replay.specs.Frames.{longest_body, body_at, frame_at}

-- refused by 1 to `most`
abbrev pub Few : {A : Type 0} → ℕ → Got A → Type 0
Few most (got v q) = Unit {0}
Few most (refused n) = (0 < n) × (n ≤ most)

abbrev pub Lean : {A : Type 0} → Reading A → Type 0
Lean (read v q) = Unit {0}
Lean (fault n p) = (0 < n) × (n ≤ 6)

module _ {A : Type 0} where
  few-cond : (t : Bool) (a b : Got A) → Few 3 a → Few 3 b → Few 3 (cond t a b)
  few-cond true a b g h = g
  few-cond false a b g h = h

  few-then : {B : Type 0} (r : Got B) (f : B → ℕ → Got A) → Few 3 r → ((v : B) (q : ℕ) → Few 3 (f v q)) → Few 3 (and_then r f)
  few-then (got v q) f g h = h v q
  few-then (refused n) f g h = g

-- numbers and bytes
below-few : (v w : ℕ) (r : Got ℕ) → Few 3 r → Few 3 (below v w r)
unfolding below
below-few v w (got u q) g = few-cond (nat_eq u 0) (refused bad_number) (got (v + w * u) q) (omega arith, omega arith) tt
below-few v w (refused n) g = g

groups-few : (k p : ℕ) (s : List ℕ) → Few 3 (groups k p s)
unfolding groups
groups-few k p [] = (omega arith, omega arith)
groups-few zero p (b ∷ s) = few-cond (nat_le b 1) (got b (p + 1)) (refused bad_number) tt (omega arith, omega arith)
groups-few (suc k) p (b ∷ s) =
    few-cond (nat_lt b 128) (got b (p + 1)) (below (b % 128) 128 (groups k (p + 1) s)) tt (below-few (b % 128) 128 (groups k (p + 1) s) (groups-few k (p + 1) s))

module _ (s : List ℕ) where
  number-few : (p : ℕ) → Few 3 (read_number s p)
  unfolding read_number
  number-few p = groups-few 9 p (drop p s)

  length-few : (p : ℕ) → Few 3 (at_most longest_body out_of_range (read_number s p))
  unfolding at_most
  length-few p =
      few-then (read_number s p) (λ v q. cond (nat_le v longest_body) (got v q) (refused out_of_range)) (number-few p) (λ v q.
      few-cond (nat_le v longest_body) (got v q) (refused out_of_range) tt (omega arith, omega arith))

  bytes-few : (n p : ℕ) → Few 3 (bytes_at s n p)
  unfolding bytes_at
  bytes-few n p = few-cond (nat_le (p + n) (length s)) (got (record { start = p; len = n }) (p + n)) (refused cut) tt (omega arith, omega arith)

  -- frames
  pub body-few : (p : ℕ) → Few 3 (body_at s p)
  unfolding body_at
  body-few p = few-then (at_most longest_body out_of_range (read_number s p)) (bytes_at s) (length-few p) bytes-few

  pub frame-few : (p : ℕ) → Few 3 (frame_at s p)
  unfolding frame_at
  frame-few p =
      few-then (read_number s p) (λ t q. and_then (body_at s q) (λ b end. got (record { moment = t; body = b }) end)) (number-few p) (λ t q.
      few-then (body_at s q) (λ b end. got (record { moment = t; body = b }) end) (body-few q) (λ b end. tt))

-- the configuration
setup-by : (s : List ℕ) (r : Reading Setup) → Inside s r → Lean r
setup-by s (read c end) h = tt
setup-by s (fault n p) h = (h.number n p refl).0

pub setup-lean : (s : List ℕ) → Lean (setup_at s)
unfolding setup_at
setup-lean s = setup-by s (setup_at s) (edition-inside s none_added (λ c p h. in-read s c p h))

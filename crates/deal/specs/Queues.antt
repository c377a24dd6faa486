-- What the dealing code keeps for rule 3.2 (document 01, part 3): eight queues with room for 272 positions each in one array, and their lengths.
use Rattle.std.specs.Prelude.{ℕ, ◌+◌, ◌*◌, ◌<◌, ◌≤◌, ◌≡◌, List, map, Bool, nat_lt, length, get_or, take, drop}
use Rattle.deal.specs.Interleaving.{queue, upto, keep}

-- those of the first n positions that are in group g
abbrev pub line : List ℕ → ℕ → ℕ → List ℕ
line gs n g = queue (λ i. get_or gs i 0) (upto n) g

-- queue g stands in qs from g * 272 on, and counts has its length
pub record Held (gs : List ℕ) (n : ℕ) (qs counts : List ℕ) : Type 0 where
  pub room : length qs ≡ 2176
  pub eight : length counts ≡ 8
  pub counted : (g : ℕ) → g < 8 → get_or counts g 0 ≡ length (line gs n g)
  pub stands : (g : ℕ) → g < 8 → take (length (line gs n g)) (drop (g * 272) qs) ≡ line gs n g

-- group g has an r-th member, from 0
abbrev pub has : List ℕ → ℕ → ℕ → Bool
has counts r g = nat_lt r (get_or counts g 0)

-- the first m of `active` are the groups that have an r-th member, lowest first
pub record Active (counts : List ℕ) (r m : ℕ) (active : List ℕ) : Type 0 where
  pub within : m ≤ 8
  pub eight : length active ≡ 8
  pub are : take m active ≡ keep (has counts r) (upto 8)

-- the r-th member of queue g
abbrev pub member : List ℕ → ℕ → ℕ → ℕ
member qs r g = get_or qs (g * 272 + r) 0

-- the r-th member of each of the groups
abbrev pub members : List ℕ → ℕ → List ℕ → List ℕ
members qs r groups = map (member qs r) groups

-- What an edition of the rules must show, wish by wish, for demand 3 to hold of the calls over it.
use Rattle.std.specs.Prelude.{ℕ, ◌-◌, ◌≤◌, ◌<◌, ◌≡◌, true, false, List, [], ◌∷◌, length, get_or}
use Rattle.records.specs.Lists.{some?}
use Rattle.records.specs.Queries.{no_query}
use Rattle.records.specs.declared.queries.Answer.{Answer}
use Rattle.records.specs.declared.queries.Answer.TheVariants as answer
use Rattle.state.specs.State.{asked, tried, no_attempt}
use Rattle.state.specs.declared.Machine.{Machine}
use Rattle.starting.specs.Surveys.{is_open_attempt, has_won_attempt, is_due_query}
use Rattle.machine.specs.declared.wish.Wish.{Wish}
use Rattle.machine.specs.declared.wish.Wish.TheVariants as wish
use Rattle.history.specs.Race.{unanswered, Condition, AllTried, was_attempted}

-- the attempt delay and the moment that it runs from, the resolution delay and its moment
pub record Delays : Type 0 where
  pub attempt : Machine → ℕ
  pub start : Machine → ℕ
  pub resolution : Machine → ℕ
  pub oldest : Machine → ℕ

-- d is what is left of a delay since a moment, and something is left
abbrev pub Left : (delay since now d : ℕ) → Type 0
Left delay since now d = (now - since < delay) × (d ≡ delay - (now - since))

-- what each wish rests on
abbrev pub Rests : Delays → Machine → ℕ → Wish → Type 0
Rests d m now (wish.Cancel p) =
    (p < length (tried m.attempts)) × (is_open_attempt (get_or (tried m.attempts) p no_attempt) ≡ true) × (some? has_won_attempt (tried m.attempts) ≡ true)
Rests d m now wish.Succeeded = Unit
Rests d m now (wish.Retry e) = was_attempted m e ≡ false
Rests d m now (wish.Attempt e) = was_attempted m e ≡ false
Rests d m now (wish.Query k p) = Unit
Rests d m now (wish.Refresh p) = (p < length (asked m.queries)) × (is_due_query (get_or (asked m.queries) p no_query) ≡ true)
Rests d m now (wish.AttemptTimer n) = Left (d.attempt m) (d.start m) now n
Rests d m now (wish.ResolutionTimer n) = Left (d.resolution m) (d.oldest m) now n
Rests d m now (wish.Failed r) = Condition m → AllTried m
Rests d m now wish.Waiting = (unanswered m ≡ true) × (Condition m → AllTried m)

-- when an answer came; 0 while there is none
abbrev pub came_at : Answer → ℕ
came_at answer.Pending = 0
came_at (answer.Failed t) = t
came_at (answer.Held t n) = t

-- each member has P
unfoldable pub All : {A : Type 0} → (A → Type 0) → List A → Type 0
All P [] = Unit
All P (x ∷ l) = P x × All P l

pub record Edition (calls : Machine → ℕ → Wish) : Type 0 where
  pub delays : Delays
  pub rests : (m : Machine) (now : ℕ) → Rests delays m now (calls m now)
  -- the delays run from moments that are held, or from 0
  pub started : (m : Machine) (t : ℕ) → All (λ a. a.started ≤ t) (tried m.attempts) → delays.start m ≤ t
  pub answered : (m : Machine) (t : ℕ) → All (λ q. came_at q.answer ≤ t) (asked m.queries) → delays.oldest m ≤ t

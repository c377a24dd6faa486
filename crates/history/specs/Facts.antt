-- What demand 3 needs of a machine, whatever its rules are: one record of facts, each about a single step.
use Rattle.std.specs.Prelude.{ℕ, suc, ◌+◌, ◌≤◌, ◌<◌, ◌≡◌, Bool, true, false, ◌⊎◌}
use Rattle.records.specs.declared.endpoints.Endpoint.{Endpoint}
use Rattle.machine.specs.declared.grant.Output.TheVariants as output
use Rattle.history.specs.History.{Automaton, is_ask}
use Rattle.history.specs.Claims.{is_rest}

-- what the claims look at in a state
pub record View (M : Automaton) : Type 1 where
  -- a query, refresh or attempt is unanswered
  pub unanswered : M.State → Bool
  -- the condition of the last sentence, and what it promises
  pub Condition : M.State → Type 0
  pub AllTried : M.State → Type 0
  -- an endpoint was attempted
  pub attempted : M.State → Endpoint → Bool

-- `Lasts` says how long a timer may be
pub record FactsFor (Lasts : ℕ → Type 0) (M : Automaton) (S : View M) : Type 1 where
  -- what stands in a state whatever the clock does, and that no moment held in it is later than t
  pub Good : M.State → Type 0
  pub Past : M.State → ℕ → Type 0
  -- how often it has asked, and where the attempt delay and the resolution delay end (anywhere while none runs)
  pub asks : M.State → ℕ
  pub attempt_end : M.State → ℕ
  pub resolution_end : M.State → ℕ
  pub good_made : Good M.made
  pub good_next : (s : M.State) (t : ℕ) → Good s → Good (M.next s t)
  pub good_feed : (s : M.State) (t : ℕ) (i : M.Input) → Good s → Good (M.feed s t i)
  pub most : (s : M.State) → Good s → asks s ≤ 95
  -- an ask is counted, any other answer leaves the machine, an input asks nothing
  pub asked : (s : M.State) (t : ℕ) → Good s → is_ask (M.says s t) ≡ true → asks (M.next s t) ≡ suc (asks s)
  pub still : (s : M.State) (t : ℕ) → Good s → is_ask (M.says s t) ≡ false → M.next s t ≡ s
  pub fed : (s : M.State) (t : ℕ) (i : M.Input) → Good s → asks (M.feed s t i) ≡ asks s
  -- moments held are readings that were given
  pub past_made : Past M.made 0
  pub past_later : (s : M.State) (t u : ℕ) → t ≤ u → Past s t → Past s u
  pub past_next : (s : M.State) (t : ℕ) → Good s → Past s t → Past (M.next s t) t
  pub past_feed : (s : M.State) (t : ℕ) (i : M.Input) → Good s → Past s t → Past (M.feed s t i) t
  -- a timer ends where one of the two delays ends
  pub timed : (s : M.State) (t d : ℕ) → Good s → Past s t → M.says s t ≡ output.Timer d
      → Lasts d × ((t + d ≡ attempt_end s) ⊎ (t + d ≡ resolution_end s))
  -- what Waiting, Failed and an attempt rest on
  pub waits : (s : M.State) (t : ℕ) → Good s → M.says s t ≡ output.Waiting → S.unanswered s ≡ true
  pub tries : (s : M.State) (t : ℕ) → Good s → is_rest (M.says s t) ≡ true → S.Condition s → S.AllTried s
  pub fresh : (s : M.State) (t i : ℕ) (r : Bool) (e : Endpoint) → Good s → M.says s t ≡ output.Attempt i r e → S.attempted s e ≡ false

-- A timer is never 0
abbrev pub Facts : (M : Automaton) → View M → Type 1
Facts M S = FactsFor (λ d. 0 < d) M S

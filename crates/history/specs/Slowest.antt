-- The slowest machine that the facts allow: 16 queries, 16 refreshes, 32 attempts and 31 cancels, and both delays before each. It is small, so
-- it is what the edits under must-fail spoil. And one more, whose timer is 0.
use Rattle.std.specs.Prelude.{ℕ, suc, ◌-◌, ◌≤◌, Bool, true, false, not, cond, nat_eq, nat_lt}
use Rattle.records.specs.Endpoints.{no_endpoint}
use Rattle.records.specs.declared.queries.Kind.TheVariants.{Https}
use Rattle.records.specs.declared.endpoints.Endpoint.{Endpoint}
use Rattle.machine.specs.declared.grant.Output.{Output}
use Rattle.machine.specs.declared.grant.Output.TheVariants as output
use Rattle.machine.specs.declared.grant.Table.TheVariants as table
use Rattle.history.specs.History.{Automaton}
use Rattle.history.specs.Facts.{View}

-- how many of each it asked for, when it last did, and whether its answer came
pub record Slow : Type 0 where
  pub queries : ℕ
  pub refreshes : ℕ
  pub attempts : ℕ
  pub cancels : ℕ
  pub last : ℕ
  pub heard : Bool

pub data Deed : Type 0 where
  query : Deed
  refresh : Deed
  attempt : Deed
  cancel : Deed
  wait : ℕ → Deed
  rest : Deed

unfoldable pub due : Slow → Deed
due s = cond (nat_lt s.queries 16) query (cond (nat_lt s.refreshes 16) refresh (cond (nat_lt s.attempts 32) attempt (cond (nat_lt s.cancels 31) cancel rest)))

-- the delays are 1 and 2
unfoldable pub does : Slow → ℕ → Deed
does s t = cond (nat_lt (t - s.last) 1) (wait (1 - (t - s.last))) (cond (nat_lt (t - s.last) 2) (wait (2 - (t - s.last))) (due s))

-- endpoints are told apart by their ports
abbrev pub numbered : ℕ → Endpoint
numbered n = record { target = no_endpoint.target; port = n; rank = no_endpoint.rank; ech = no_endpoint.ech }

abbrev pub says : Slow → Deed → Output
says s query = output.Query 0 Https true 0
says s refresh = output.Query 0 Https false 0
says s attempt = output.Attempt 0 false (numbered s.attempts)
says s cancel = output.Cancel 0
says s (wait d) = output.Timer d
says s rest = cond s.heard (output.Full table.Queries) output.Waiting

abbrev pub goes : Slow → ℕ → Deed → Slow
goes s t query = record { queries = suc s.queries; refreshes = s.refreshes; attempts = s.attempts; cancels = s.cancels; last = t; heard = s.heard }
goes s t refresh = record { queries = s.queries; refreshes = suc s.refreshes; attempts = s.attempts; cancels = s.cancels; last = t; heard = s.heard }
goes s t attempt = record { queries = s.queries; refreshes = s.refreshes; attempts = suc s.attempts; cancels = s.cancels; last = t; heard = s.heard }
goes s t cancel = record { queries = s.queries; refreshes = s.refreshes; attempts = s.attempts; cancels = suc s.cancels; last = t; heard = s.heard }
goes s t (wait d) = s
goes s t rest = s

-- its one input is the answer
abbrev pub hears : Slow → Slow
hears s = record { queries = s.queries; refreshes = s.refreshes; attempts = s.attempts; cancels = s.cancels; last = s.last; heard = true }

abbrev pub slowest : Automaton
slowest =
    record {
      State = Slow;
      Input = Unit {0};
      made = record { queries = 0; refreshes = 0; attempts = 0; cancels = 0; last = 0; heard = false };
      says = λ s t. says s (does s t);
      next = λ s t. goes s t (does s t);
      feed = λ s t i. hears s;
    }

-- 32 endpoints are listed, whatever the condition
abbrev pub slow_view : View slowest
slow_view = record { unanswered = λ s. not s.heard; Condition = λ s. Unit {0}; AllTried = λ s. 32 ≤ s.attempts; attempted = λ s e. nat_lt e.port s.attempts }

-- a timer of 0 at reading 0, for ever
unfoldable pub zero_says : Unit {0} → ℕ → Output
zero_says s t = cond (nat_eq t 0) (output.Timer 0) output.Waiting

abbrev pub zero_timer : Automaton
zero_timer = record { State = Unit {0}; Input = Unit {0}; made = tt; says = zero_says; next = λ s t. s; feed = λ s t i. s }

abbrev pub zero_view : View zero_timer
zero_view = record { unanswered = λ s. true; Condition = λ s. Unit {0}; AllTried = λ s. Unit {0}; attempted = λ s e. false }

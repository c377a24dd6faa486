-- Demand 3 in its order, of any machine and of Braidhatch; and what is stronger.
use Rattle.records.specs.declared.names.Names.{Names}
use Rattle.records.specs.declared.rules.Rules.{Rules}
use Rattle.records.specs.declared.rules.Timing.{Timing}
use Rattle.records.specs.declared.rules.Alts.{Alts}
use Rattle.history.specs.History.{Automaton}
use Rattle.history.specs.Claims.{AtMost95, By288, HostThere, WaitsForSomething, TriesAll, By288Heeded, AllBut287, TwoForEach, Fuel, Heeds64, LeavesElse, AttemptsNew}
use Rattle.history.specs.Facts.{View}
use Rattle.history.specs.Race.{race, heeds, unanswered, Condition, WithHints, AllTried, was_attempted}

pub record Demand (M : Automaton) (S : View M) : Type 0 where
  pub asks : AtMost95 M
  -- and the premise can be met
  pub ends : By288 M
  pub host : HostThere M
  pub waits : WaitsForSomething M S.unanswered
  pub tries : TriesAll M S.Condition S.AllTried

-- each is stronger than one of these, or new
pub record Stronger (M : Automaton) (S : View M) : Type 0 where
  pub heeded : By288Heeded M
  pub all_but : AllBut287 M
  pub two_each : TwoForEach M
  pub fuel : Fuel M
  pub fresh : AttemptsNew M S.attempted

-- Of Braidhatch, in every configuration and whatever its inputs bring

abbrev pub seen : (r : Rules) (t : Timing) (l : Alts) (n : Names) → View (race r t l n)
seen r t l n = record { unanswered = unanswered; Condition = Condition; AllTried = AllTried; attempted = was_attempted }

-- 95 = 16 records + 16 refreshes + 32 attempts + 31 cancels. What can be reached is 94, with 15 refreshes; that isn't proved: with 16 records one
-- more is always wanted, and the Full that stands for it hides the last refresh.
abbrev pub Demand3 : Rules → Timing → Alts → Names → Type 0
Demand3 r t l n = Demand (race r t l n) (seen r t l n)

pub record Beyond (r : Rules) (t : Timing) (l : Alts) (n : Names) : Type 0 where
  pub stronger : Stronger (race r t l n) (seen r t l n)
  -- the last sentence with hints counted too
  pub hinted : TriesAll (race r t l n) WithHints AllTried
  -- inputs that change something are few, and any other leaves the machine
  pub few : Heeds64 (race r t l n) heeds
  pub leaves : LeavesElse (race r t l n) heeds

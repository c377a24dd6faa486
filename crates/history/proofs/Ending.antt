-- Demand 3 of Braidhatch, and what is stronger.
use Prim.Native.Nat.{ℕ}
use mathlib.Core.Path.{◌≡◌, refl, sym, ◌∙◌}
use mathlib.Core.Bool.{Bool, true, false, false≢true, cond}
use lib.Dec.{leb as nat_le}
use Rattle.records.specs.declared.names.Names.{Names}
use Rattle.records.specs.declared.rules.Rules.{Rules}
use Rattle.records.specs.declared.rules.Timing.{Timing}
use Rattle.records.specs.declared.rules.Alts.{Alts}
use Rattle.state.specs.declared.Machine.{Machine}
use Rattle.machine.specs.declared.wish.Wish.{Wish}
use Rattle.machine.specs.declared.wish.Wish.TheVariants as wish
use Rattle.machine.specs.declared.grant.Turn.{Turn}
use Rattle.machine.specs.Output.{wish_of, granted, grant_of, query_grant, attempt_grant}
use Rattle.machine.specs.Steps.{turn_of, output_step}
use Rattle.history.specs.History.{Automaton}
use Rattle.history.specs.Claims.{is_rest, LeavesElse}
use Rattle.history.specs.Facts.{View, Facts}
use Rattle.history.specs.Race.{race, race_by, edition, view, WithHints, AllTried}
use Rattle.history.specs.Edition.{Edition}
use Rattle.history.specs.Demand.{Demand, Stronger, Demand3, Beyond}
use Rattle.history.proofs.Calling.{at-most-95, by-288, by-288-heeded, all-but-287, two-for-each, fuel, waits-for-something, tries-all, tries-when, attempts-new}
use Rattle.history.proofs.Hosts.{host-there}
use Rattle.history.proofs.Editions.{facts, good-own, heeds-64, leaves}
use Rattle.history.proofs.Wishing.{is-edition, Why, why, Idle, idle-hinted}

never : (b : Bool) (x y : Turn) → is_rest x.output ≡ false → is_rest y.output ≡ false → is_rest (cond b x y).output ≡ true → ⊥
never true x y h k e = false≢true (sym h ∙ e)
never false x y h k e = false≢true (sym k ∙ e)

-- of any machine that has the facts
module _ (M : Automaton) (S : View M) (F : Facts M S) where
  pub demand : Demand M S
  demand =
      record {
        asks = at-most-95 M S F;
        ends = by-288 M S F;
        host = host-there M;
        waits = waits-for-something M S F;
        tries = tries-all M S F;
      }

  pub stronger : Stronger M S
  stronger =
      record {
        heeded = by-288-heeded M S F;
        all_but = all-but-287 M S F;
        two_each = two-for-each M S F;
        fuel = fuel M S F;
        fresh = attempts-new M S F;
      }

-- of the calls over any edition
module _ (wish : Machine → ℕ → Wish) (E : Edition wish) (r : Rules) (t : Timing) (l : Alts) (n : Names) where
  pub edition-demand : Demand (race_by wish r t l n) (view wish r t l n)
  edition-demand = demand (race_by wish r t l n) (view wish r t l n) (facts wish E r t l n)

  pub edition-stronger : Stronger (race_by wish r t l n) (view wish r t l n)
  edition-stronger = stronger (race_by wish r t l n) (view wish r t l n) (facts wish E r t l n)

-- of Braidhatch
module _ (r : Rules) (t : Timing) (l : Alts) (n : Names) where
  -- the calls over this edition are `process_output` and `process_input`
  pub same-race : race_by edition r t l n ≡ race r t l n
  unfolding output_step turn_of
  same-race = refl

  pub demand-3 : Demand3 r t l n
  unfolding output_step turn_of
  demand-3 = edition-demand edition is-edition r t l n

  -- where Waiting or Failed is said nothing else was to do
  rest-idle : (m : Machine) (now : ℕ) (w : Wish) → is_rest (granted m.queries m.attempts m.ids w now).output ≡ true → Why m now w
      → Idle m now
  unfolding granted grant_of query_grant attempt_grant
  rest-idle m now (wish.Cancel p) e y = absurd (false≢true e)
  rest-idle m now wish.Succeeded e y = absurd (false≢true e)
  rest-idle m now (wish.Retry x) e y = absurd (never (nat_le 32 m.attempts.count) _ _ refl refl e)
  rest-idle m now (wish.Attempt x) e y = absurd (never (nat_le 32 m.attempts.count) _ _ refl refl e)
  rest-idle m now (wish.Query k p) e y = absurd (never (nat_le 16 m.queries.count) _ _ refl refl e)
  rest-idle m now (wish.Refresh p) e y = absurd (false≢true e)
  rest-idle m now (wish.AttemptTimer d) e y = absurd (false≢true e)
  rest-idle m now (wish.ResolutionTimer d) e y = absurd (false≢true e)
  rest-idle m now (wish.Failed x) e y = y
  rest-idle m now wish.Waiting e y = y.1

  pub beyond : Beyond r t l n
  unfolding output_step turn_of LeavesElse
  beyond =
      record {
        stronger = edition-stronger edition is-edition r t l n;
        hinted =
            tries-when (race_by edition r t l n) (view edition r t l n) (facts edition is-edition r t l n) WithHints AllTried
            (λ m now o e. idle-hinted m now (rest-idle m now (wish_of m now) e (why m now)) (good-own edition is-edition r t l n m o).served);
        few = heeds-64 edition is-edition r t l n;
        leaves = leaves;
      }

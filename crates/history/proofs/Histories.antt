-- Two histories of Braidhatch itself in which a timer is given for ever: after a clock that went back, and to a host that doesn't wait.
use Prim.Native.Nat.{ℕ, zero, suc}
use mathlib.Core.Path.{◌≡◌, refl}
use mathlib.Core.Bool.{true}
use mathlib.Core.List.{[], ◌∷◌, ◌++◌}
use native.Mathlib.Omega.{arith}
use lib.ListN.{take, replicate, length-replicate}
use Rattle.records.specs.Lists.{some?, first_of}
use Rattle.records.specs.Queries.{no_queries}
use Rattle.records.specs.Rules.{no_alts}
use Rattle.records.specs.Services.{no_services}
use Rattle.records.specs.declared.names.Names.{Names}
use Rattle.records.specs.declared.queries.Kind.TheVariants.{Https, Aaaa}
use Rattle.state.specs.State.{made, no_attempts, no_retries, is_prefixed, https_place}
use Rattle.state.specs.declared.Machine.{Machine}
use Rattle.starting.specs.Surveys.{first_place, latest_of, oldest_of, starts, tries_of, answer_times, asks_of, hints_of}
use Rattle.starting.specs.Starting.{elapsed, attempt_left, resolution_left, some_address, move_on_without_timeout, move_on_with_timeout, may_start}
use Rattle.upcoming.specs.Wanted.{first_wanted, missing, origin_wanted, targets_wanted, alts_wanted, wanted_by, next_query}
use Rattle.upcoming.specs.Next.{retry_endpoints, next_retry}
use Rattle.input.specs.Input.{asked_from, asked_of, first_answer, answer_verdict}
use Rattle.machine.specs.declared.calls.Beside.{Beside}
use Rattle.machine.specs.declared.grant.Output.TheVariants as output
use Rattle.machine.specs.Output.{timer_wish, gate, wish_by, wish_of, query_grant, grant_of, granted}
use Rattle.after.specs.After.{put_query}
use Rattle.machine.specs.Steps.{turn_of, output_step, judged, input_step}
use Rattle.history.specs.History.{Automaton, calls, from, rising, runs, answers, finals_in, punctual}
use Rattle.history.specs.Race.{Fed, race}
use Rattle.history.specs.Needed.{ClockBack, AnyTime, six_only, ten_long, asks_then_hears}
use Rattle.history.proofs.Calling.{from_zero}
use Rattle.history.proofs.Hosts.{many, rises, exact, is_on_clock, computed-on-clock}

-- calls at one reading
at_once : (I : Type 0) (t n : ℕ) → from {I = I} t (calls (replicate n t))
unfolding from
at_once I t zero = tt
at_once I t (suc n) = (omega arith, at_once I t n)

same-time : (I : Type 0) (t n : ℕ) → rising {I = I} (calls (replicate n t))
unfolding rising
same-time I t zero = tt
same-time I t (suc n) = (at_once I t n, same-time I t n)

module _ (n : Names) (b : Beside) where
  abbrev M : Automaton
  M = race six_only ten_long no_alts n

  abbrev heard : ℕ → Machine
  heard t = runs M M.made (asks_then_hears b t)

  -- what comes of computing: two queries and, once the clock is back, the whole delay again and again, all ends on the clock; and likewise for
  -- a host that calls at 0 for ever
  pub record Told : Type 0 where
    pub ten-again : answers M M.made (asks_then_hears b 1_000_000 ++ calls (0 ∷ 10 ∷ []))
        ≡ output.Query 0 Https true 0 ∷ output.Query 1 Aaaa true 0 ∷ output.Timer 10 ∷ output.Timer 10 ∷ []
    pub none-back : finals_in (take 288 (answers M (heard 1_000_000) (calls (punctual M (heard 1_000_000) 0 288)))) ≡ 0
    pub on-time : is_on_clock M (heard 1_000_000) 0 288 ≡ true
    pub none-early : finals_in (take 288 (answers M (heard 0) (calls (replicate 288 0)))) ≡ 0

  pub told : Told
  unfolding finals_in answers runs punctual is_on_clock made output_step turn_of wish_of wish_by granted grant_of query_grant no_queries no_attempts no_services
      no_retries no_alts tries_of asks_of hints_of some? starts latest_of first_place answer_times oldest_of next_retry retry_endpoints first_of gate
      attempt_left may_start move_on_without_timeout move_on_with_timeout some_address next_query wanted_by origin_wanted missing targets_wanted alts_wanted
      first_wanted https_place is_prefixed put_query input_step judged answer_verdict asked_of asked_from first_answer timer_wish resolution_left elapsed
  told = record { ten-again = refl; none-back = refl; on-time = refl; none-early = refl }

  pub never-back-needed : ClockBack M → ⊥
  unfolding ClockBack
  never-back-needed h =
      let s = heard 1_000_000 in
      let z = h (asks_then_hears b 1_000_000) (punctual M s 0 288) (rises M s 0 288)
      (exact M s 0 288 (computed-on-clock M s 0 288 told.on-time)) (omega (arith, many M s 0 288)) in
      let y = told.none-back in
      omega arith

  risen : rising (asks_then_hears b 0 ++ calls (replicate 288 0))
  unfolding rising
  risen = (from_zero _, (from_zero _, (from_zero _, same-time Fed 0 288)))

  pub timers-needed : AnyTime M → ⊥
  unfolding AnyTime
  timers-needed h =
      let z = h (asks_then_hears b 0) (replicate 288 0) risen (omega (arith, length-replicate {A = ℕ} 288 0)) in
      let y = told.none-early in
      omega arith

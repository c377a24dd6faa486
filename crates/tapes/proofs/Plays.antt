-- Replay and tape check as what they do with a tape's events, one after the other: a run without places to read at.
--     plays, checks                              over a list of events and where they end
--     closed_run, closed-check, closed-events, closed-stop     of a tape whose configuration is refused
--     opened-run, opened-check                   of any other
use Prim.Native.Nat.{ℕ, zero, suc, ◌+◌}
use mathlib.Core.Path.{◌≡◌, refl, sym, ap, ◌∙◌}
use mathlib.Core.Bool.{Bool, true, false, cond}
use mathlib.Core.List.{List, [], ◌∷◌}
use native.Mathlib.Omega.{arith}
use lib.Dec.{leb as nat_le}
use lib.ListN.{length}
use borrow.Author.Tests.{ne_eqb}
use Rattle.numbers.specs.Fields.{span_bytes}
use Rattle.numbers.specs.Got.{Got, got, refused, and_then}
use Rattle.numbers.specs.declared.field.Span.{Span}
use Rattle.state.specs.declared.Machine.{Machine}
use Rattle.parts.specs.Reading.{Reading, read, fault}
use Rattle.bodies.specs.Events.{event_at, fault_of}
use Rattle.answers.specs.Answers.{answer_bytes}
use Rattle.configuration.specs.Configuration.{setup_at}
use Rattle.configuration.specs.declared.Setup.{Setup}
use Rattle.replay.specs.Frames.{body_at, frame_at}
use Rattle.replay.specs.declared.frames.Frame.{Frame}
use Rattle.replay.specs.Check.{or_else, on_read, check_events, check_of}
use Rattle.replay.specs.Replay.{step_of, Run, ended, on_frame, on_step, run, run_from, machine_of, replay_from, replay_of, on_body}
use Rattle.replay.specs.Replay as replay
use Rattle.tapes.specs.Events.{either, Given, given_by, on_setup, given_of, Event, event_of, events_from, Stop, stop_at, stop_from, events_of, stop_of, body_fault}
use Rattle.tapes.specs.Answered.{made_of}
use Rattle.tapes.proofs.Numbers.{Lean, setup-lean}

unfoldable pub plays : List Event → Stop → (written room : ℕ) → Machine → Run
plays [] s written room m = ended s.number s.place
plays (e ∷ l) s written room m =
    on_step e.place written room (step_of m e.moment e.body)
    (plays l s (written + length (answer_bytes (step_of m e.moment e.body).said)) room (step_of m e.moment e.body).machine)

unfoldable pub checks : List Event → ℕ → ℕ
checks [] n = n
checks (e ∷ l) n = or_else (body_fault e) (checks l n)

-- the events from a place on
module _ (tape : List ℕ) where
  module _ (room : ℕ) where
    run_by : (k at w : ℕ) (m : Machine) → ((next w : ℕ) (x : Machine) → run k tape next w room x ≡ plays (events_from k tape next) (stop_from k tape next) w room x) → (t : Bool) (r : Got Frame)
        → cond t (ended 0 at) (on_frame at r (λ f next. on_step at w room (step_of m f.moment (span_bytes tape f.body))
        (run k tape next (w + length (answer_bytes (step_of m f.moment (span_bytes tape f.body)).said)) room (step_of m f.moment (span_bytes tape f.body)).machine)))
        ≡ plays (cond t [] (either r (λ n. []) (λ f next. event_of tape at f ∷ events_from k tape next))) (cond t (stop_at 0 at) (either r (λ n. stop_at n at) (λ f next. stop_from k tape next))) w room m
    unfolding plays
    run_by k at w m ih true r = refl
    run_by k at w m ih false (refused n) = refl
    run_by k at w m ih false (got f next) =
        ap (on_step at w room (step_of m f.moment (span_bytes tape f.body)))
        (ih next (w + length (answer_bytes (step_of m f.moment (span_bytes tape f.body)).said)) (step_of m f.moment (span_bytes tape f.body)).machine)

    run-plays : (k at w : ℕ) (m : Machine) → run k tape at w room m ≡ plays (events_from k tape at) (stop_from k tape at) w room m
    unfolding run plays events_from stop_from
    run-plays zero at w m = refl
    run-plays (suc k) at w m = run_by k at w m (λ next w x. run-plays k next w x) (nat_le (length tape) at) (frame_at tape at)

  check-by : (k at : ℕ) → ((next : ℕ) → check_events k tape next ≡ checks (events_from k tape next) (stop_from k tape next).number) → (t : Bool) (r : Got Frame)
      → cond t 0 (on_read r (λ f next. or_else (fault_of (event_at (span_bytes tape f.body))).number (check_events k tape next)))
      ≡ checks (cond t [] (either r (λ n. []) (λ f next. event_of tape at f ∷ events_from k tape next))) (cond t (stop_at 0 at) (either r (λ n. stop_at n at) (λ f next. stop_from k tape next))).number
  unfolding checks
  check-by k at ih true r = refl
  check-by k at ih false (refused n) = refl
  check-by k at ih false (got f next) = ap (or_else (fault_of (event_at (span_bytes tape f.body))).number) (ih next)

  check-checks : (k at : ℕ) → check_events k tape at ≡ checks (events_from k tape at) (stop_from k tape at).number
  unfolding check_events checks events_from stop_from
  check-checks zero at = refl
  check-checks (suc k) at = check-by k at (λ next. check-checks k next) (nat_le (length tape) at) (frame_at tape at)

  -- the whole tape
  abbrev replay_by : (room : ℕ) → Got Given → Run
  replay_by room g = either g (λ n. ended n 0) (λ g first. plays (events_from (length tape) tape first) (stop_from (length tape) tape first) 0 room (made_of g))

  setup-by : (room next : ℕ) (body : List ℕ) (r : Reading Setup) → replay.on_setup r (λ c. run_from tape next room (machine_of body c)) ≡ replay_by room (on_setup body next r)
  unfolding run_from machine_of
  setup-by room next body (read c end) = run-plays room (length tape) next 0 (made_of (given_by body c))
  setup-by room next body (fault n p) = refl

  body-by : (room : ℕ) (r : Got Span) → on_body r (λ b next. replay_from tape (span_bytes tape b) next room) ≡ replay_by room (and_then r (λ b next. on_setup (span_bytes tape b) next (setup_at (span_bytes tape b))))
  unfolding replay_from
  body-by room (got b next) = setup-by room next (span_bytes tape b) (setup_at (span_bytes tape b))
  body-by room (refused n) = refl

  replay-by : (room : ℕ) → replay_of tape room ≡ replay_by room (given_of tape)
  unfolding replay_of given_of
  replay-by room = body-by room (body_at tape 0)

  abbrev check_by : Got Given → ℕ
  check_by g = either g (λ n. n) (λ g first. checks (events_from (length tape) tape first) (stop_from (length tape) tape first).number)

  check-setup-by : (next : ℕ) (body : List ℕ) (r : Reading Setup) → Lean r → or_else (fault_of r).number (check_events (length tape) tape next) ≡ check_by (on_setup body next r)
  check-setup-by next body (read c end) h = check-checks (length tape) next
  check-setup-by next body (fault n p) h = rw (ne_eqb n 0 (λ e. omega (arith, e, h.0)))

  check-body-by : (r : Got Span) → on_read r (λ b next. or_else (fault_of (setup_at (span_bytes tape b))).number (check_events (length tape) tape next))
      ≡ check_by (and_then r (λ b next. on_setup (span_bytes tape b) next (setup_at (span_bytes tape b))))
  check-body-by (got b next) = check-setup-by next (span_bytes tape b) (setup_at (span_bytes tape b)) (setup-lean (span_bytes tape b))
  check-body-by (refused n) = refl

  check-whole : check_of tape ≡ check_by (given_of tape)
  unfolding check_of given_of
  check-whole = check-body-by (body_at tape 0)

  module _ {n : ℕ} (e : refused n ≡ given_of tape) where
    pub closed_run : (room : ℕ) → replay_of tape room ≡ ended n 0
    closed_run room = replay-by room ∙ ap (replay_by room) (sym e)

    pub closed-check : check_of tape ≡ n
    closed-check = check-whole ∙ ap check_by (sym e)

    pub closed-events : events_of tape ≡ []
    unfolding events_of
    closed-events = ap (λ g. either g (λ n. []) (λ g first. events_from (length tape) tape first)) (sym e)

    pub closed-stop : stop_of tape ≡ stop_at n 0
    unfolding stop_of
    closed-stop = ap (λ g. either g (λ n. stop_at n 0) (λ g first. stop_from (length tape) tape first)) (sym e)

  module _ {g : Given} {first : ℕ} (e : got g first ≡ given_of tape) where
    pub opened-events : events_of tape ≡ events_from (length tape) tape first
    unfolding events_of
    opened-events = ap (λ g. either g (λ n. []) (λ g first. events_from (length tape) tape first)) (sym e)

    pub opened-stop : stop_of tape ≡ stop_from (length tape) tape first
    unfolding stop_of
    opened-stop = ap (λ g. either g (λ n. stop_at n 0) (λ g first. stop_from (length tape) tape first)) (sym e)

    pub opened-run : (room : ℕ) → replay_of tape room ≡ plays (events_of tape) (stop_of tape) 0 room (made_of g)
    opened-run room = rw (opened-events, opened-stop) (replay-by room ∙ ap (replay_by room) (sym e))

    pub opened-check : check_of tape ≡ checks (events_of tape) (stop_of tape).number
    opened-check = rw (opened-events, opened-stop) (check-whole ∙ ap check_by (sym e))

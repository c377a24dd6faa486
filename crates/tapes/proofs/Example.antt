-- The claims on one tape, by computing: their premises can be met.
use Prim.Native.Nat.{ℕ, ◌≤◌}
use mathlib.Core.Path.{◌≡◌, refl, ap, ◌∙◌}
use mathlib.Core.List.{[], ◌∷◌, ◌++◌}
use native.Mathlib.Omega.{arith}
use lib.ListN.{length}
use Rattle.numbers.specs.Fields.{at_most, bytes_at}
use Rattle.numbers.specs.Numbers.{below, groups, read_number}
use Rattle.numbers.specs.Refusals.{cut, out_of_range}
use Rattle.parts.specs.Addresses.{four}
use Rattle.parts.specs.Fields.{versions_at}
use Rattle.parts.specs.Items.{counted, items}
use Rattle.configuration.specs.Configuration.{setup_at, front, origin_at, host_by, literal_by, choices, multiplier_at, pace, flagged, back, rest_at, fields_at, edition_at}
use Rattle.bodies.specs.Events as bodies
use Rattle.bodies.specs.Events.{kind_at, event_at}
use Rattle.bodies.specs.Told.{read_body}
use Rattle.replay.specs.Frames.{body_at, frame_at}
use Rattle.replay.specs.Check.{check_events, check_of}
use Rattle.replay.specs.Replay.{Run, replay_of}
use Rattle.tapes.specs.Events.{given_of, events_from, Stop, stop_at, stop_from, frames_of, frames_end, events_of, stop_of, faults_in, calls_in}
use Rattle.tapes.specs.Claims.{room_for, Refuses}
use Rattle.tapes.specs.Example.{setup, call_frame, bad_frame, called, refused}
use Rattle.tapes.proofs.Written.{roomy}
use Rattle.tapes.proofs.Bounded.{bounded}

-- the call is before the place of the fault; no body is refused, or one is
pub record Computed : Type 0 where
  pub called-events : events_of called ≡ record { place = 16; moment = 5; body = 7 ∷ [] } ∷ []
  pub called-stop : stop_of called ≡ stop_at cut 19
  pub called-check : check_of called ≡ cut
  pub called-calls : calls_in (events_of called) ≡ 1
  pub refused-faults : faults_in (events_of refused) ≡ out_of_range ∷ []
  pub refused-stop : stop_of refused ≡ stop_at cut 22
  pub refused-check : check_of refused ≡ out_of_range
  pub sound-check : check_of (setup ++ call_frame) ≡ 0

pub computed : Computed
unfolding events_of stop_of given_of events_from stop_from faults_in calls_in check_of check_events body_at frame_at at_most bytes_at read_number groups below setup_at front
    origin_at host_by literal_by four choices versions_at counted items fields_at edition_at rest_at back pace multiplier_at flagged event_at bodies.body_at kind_at read_body
computed =
    record {
      called-events = refl;
      called-stop = refl;
      called-check = refl;
      called-calls = refl;
      refused-faults = refl;
      refused-stop = refl;
      refused-check = refl;
      sound-check = refl;
    }

-- with room enough, replay stops with the number that tape check gives
pub stops : (room : ℕ) → room_for (length called) ≤ room → (replay_of called room).status ≡ cut
stops room h = ap (λ (r : Run). r.status) ((roomy called).enough room (omega (arith, (bounded called).bytes, h))) ∙ ap (λ (s : Stop). s.number) computed.called-stop

-- a frame that can be taken out
pub refuses : Refuses bad_frame out_of_range
unfolding frames_of frames_end events_from stop_from body_at frame_at at_most bytes_at read_number groups event_at bodies.body_at kind_at
refuses = record { event = record { place = 0; moment = 6; body = 0 ∷ [] }; only = refl; whole = refl; fault = refl; some = λ e. omega arith }

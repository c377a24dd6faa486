-- Room that is never too short: the claim Bounded of specs/Claims.antt.
use Prim.Native.Nat.{ℕ, ◌≤◌}
use mathlib.Core.Path.{◌≡◌, refl, ap, subst}
use mathlib.Core.List.{List}
use native.Mathlib.Omega.{arith}
use lib.ListN.{length}
use Rattle.numbers.specs.Fields.{span_bytes}
use Rattle.numbers.specs.Got.{Got, got, refused}
use Rattle.parts.specs.Reading.{Reading, read, fault}
use Rattle.parts.proofs.Steps.{got-then}
use Rattle.configuration.specs.Configuration.{setup_at}
use Rattle.configuration.specs.declared.Setup.{Setup}
use Rattle.replay.specs.Frames.{body_at}
use Rattle.replay.specs.Replay.{Run}
use Rattle.tapes.specs.Events.{Given, given_by, on_setup, given_of, events_of, stop_of}
use Rattle.tapes.specs.Answered.{in_bytes, made_of, answers_to}
use Rattle.tapes.specs.Claims.{room_for, Bounded}
use Rattle.tapes.proofs.Checked.{ends, rises, refused-few}
use Rattle.tapes.proofs.Histories.{most-asks}
use Rattle.tapes.proofs.Rooms.{Fits, given-fits}
use Rattle.tapes.proofs.Sizes.{most-size, few-size}
use Rattle.tapes.proofs.Written.{closed-played, opened-answers, roomy}

setup-fits : (body : List ℕ) (next : ℕ) (r : Reading Setup) {g : Given} {first : ℕ} → got g first ≡ on_setup body next r → Fits (made_of g)
setup-fits body next (read c end) {g} e = let x : given_by body c ≡ g = cc in subst (λ g. Fits (made_of g)) x (given-fits body c)
setup-fits body next (fault n p) e = absurd (let z : ◌≡◌ {A = ℕ} 0 1 = cc in omega arith)

module _ (tape : List ℕ) where
  opened-fits : {g : Given} {first : ℕ} → got g first ≡ given_of tape → Fits (made_of g)
  unfolding given_of
  opened-fits e =
      let t = got-then (body_at tape 0) (λ b next. on_setup (span_bytes tape b) next (setup_at (span_bytes tape b))) e in
      setup-fits (span_bytes tape t.value) t.place (setup_at (span_bytes tape t.value)) t.rest

  size-by : (r : Got Given) → r ≡ given_of tape → length (in_bytes (answers_to tape (events_of tape))) ≤ room_for (length tape)
  size-by (refused n) e = omega (arith, ap (λ (r : Run). length r.bytes) (closed-played tape e))
  size-by (got g first) e =
      let f = opened-fits e in
      let s = (stop_of tape).place in
      rw (opened-answers tape e (events_of tape))
      (omega (arith, (ends tape e).inside, most-asks g (events_of tape), most-size (events_of tape) first s (made_of g) (rises tape e) f, few-size (events_of tape) first s (made_of g) (rises tape e) f))

  low_by : (r : Got Given) → r ≡ given_of tape → (stop_of tape).number ≤ 6
  low_by (refused n) e = omega (arith, ap (λ (r : Run). r.status) (closed-played tape e), (refused-few tape e).1)
  low_by (got g first) e = omega (arith, (ends tape e).few)

  pub bounded : Bounded tape
  bounded =
      let size = size-by (given_of tape) refl in
      record {
        bytes = size;
        never = λ room h z. omega (arith, z, low_by (given_of tape) refl, ap (λ (r : Run). r.status) ((roomy tape).enough room (omega (arith, size, h))));
      }

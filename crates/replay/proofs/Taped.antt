-- The run of a whole tape, by its configuration.
use Prim.Native.Nat.{ℕ}
use mathlib.Core.Path.{◌≡◌}
use mathlib.Core.List.{List}
use Rattle.numbers.specs.Fields.{span_bytes}
use Rattle.numbers.specs.Got.{got, refused}
use Rattle.numbers.specs.declared.field.Span.{Span}
use Rattle.parts.specs.Reading.{read, fault}
use Rattle.configuration.specs.Configuration.{setup_at}
use Rattle.configuration.specs.declared.Setup.{Setup}
use Rattle.replay.specs.Frames.{body_at}
use Rattle.replay.specs.Replay.{ended, run_from, machine_of, replay_from, replay_of}

module _ (tape body : List ℕ) (next room : ℕ) where
  pub refused-setup : {n p : ℕ} → fault n p ≡ setup_at body → replay_from tape body next room ≡ ended n 0
  unfolding replay_from
  refused-setup e = rw (← e)

  pub sound-setup : {c : Setup} {end : ℕ} → read c end ≡ setup_at body → replay_from tape body next room ≡ run_from tape next room (machine_of body c)
  unfolding replay_from
  sound-setup e = rw (← e)

  pub sound-tape : {b : Span} → got b next ≡ body_at tape 0 → span_bytes tape b ≡ body → replay_of tape room ≡ replay_from tape body next room
  unfolding replay_of
  sound-tape e f = rw (← e, f)

pub refused-tape : (tape : List ℕ) (room : ℕ) {n : ℕ} → refused n ≡ body_at tape 0 → replay_of tape room ≡ ended n 0
unfolding replay_of
refused-tape tape room e = rw (← e)

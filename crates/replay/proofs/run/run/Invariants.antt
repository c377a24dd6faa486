-- `replay::run::run` meets its contract: each turn of the loop is one event of the run.
use Prim.Native.Nat.{◌-◌}
use mathlib.Core.Path.{◌≡◌}
use lib.ListN.{length}
use Rattle.state.specs.State.{made}
use Rattle.replay.proofs.Turning.{Tied}
use Rattle.replay.proofs.run.run.Given as goal

abbrev pub invariant-loop-done : goal.invariant-loop-done
invariant-loop-done l = record {
  tied : Tied l.tape l.initial.out l.first (made l.fn.rules l.fn.timing l.fn.alts l.fn.given) l.done.place l.done.written l.done.calls l.out l.race;
  sound : l.done.status ≡ 0;
}

abbrev pub decreases-loop-done : goal.decreases-loop-done
decreases-loop-done l = length l.tape - l.done.place

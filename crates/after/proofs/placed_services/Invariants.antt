-- One service a turn.
use Rattle.std.proofs.Common.{◌≡◌, take}
use Rattle.records.specs.Lists.{padded}
use Rattle.records.specs.Services.{no_service}
use Rattle.after.specs.After.{placed_from}
use Rattle.after.proofs.placed_services.Given as goal

abbrev pub invariant-loop-i : goal.invariant-loop-i
invariant-loop-i l = l.list ≡ padded 4 no_service (placed_from l.round 0 (take l.i l.offered.list))

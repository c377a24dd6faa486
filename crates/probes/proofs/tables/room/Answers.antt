use Rattle.probes.specs.Flat.{room_at}
use Rattle.probes.proofs.Tabled.{made_all}
use Rattle.probes.proofs.tables.room.Goals as goal

pub returns : goal.returns
unfolding room_at
returns g c = made_all _ _ _ _ _ c.loop-k.invariant c.loop-k-test.false

use Rattle.std.proofs.Common.{ap}
use Rattle.probes.specs.Flat.{echs_of}
use Rattle.probes.proofs.Tabled.{made_all}
use Rattle.probes.proofs.tables.echs.Goals as goal

pub returns : goal.returns
unfolding echs_of
returns c = ap (λ l. record { list = l }) (made_all _ _ _ _ _ c.loop-i.invariant c.loop-i-test.false)

use Rattle.known.proofs.Examples.{known}
use Rattle.known.proofs.examples_hold.Goals as goal

pub returns : goal.returns
returns c = known

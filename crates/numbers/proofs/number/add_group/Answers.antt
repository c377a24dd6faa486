use Rattle.numbers.proofs.BitLaws.{above}
use Rattle.numbers.proofs.number.add_group.Goals as goal

pub returns : goal.returns
returns c = above _ _ _ c.requires.1 c.requires.2

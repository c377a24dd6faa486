use Rattle.machine.specs.Steps.{judged}
use Rattle.replay.proofs.race.Race.judged.Goals as goal

pub returns : goal.returns
unfolding judged
returns c = rw (← c.self.view_is) c.verdict_in.ensures

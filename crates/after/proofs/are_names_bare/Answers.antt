use Rattle.records.specs.Names.{name_at}
use Rattle.after.specs.After.{bare_names}
use Rattle.after.proofs.are_names_bare.Goals as goal

pub returns-in-First : goal.returns-in-First
unfolding bare_names name_at
returns-in-First c = rw c.in-First.is c.are_zero.ensures

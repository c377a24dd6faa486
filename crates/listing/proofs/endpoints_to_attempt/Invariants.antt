-- `listing::endpoints_to_attempt` meets its contract: tier after tier, and the classes of names say what their bytes say.
use Rattle.records.specs.Classes.{same_class}
use Rattle.listing.proofs.Whole.{Filled}
use Rattle.listing.proofs.endpoints_to_attempt.Given as goal

abbrev pub invariant-loop-k : goal.invariant-loop-k
invariant-loop-k l = Filled l.from.0 l.alts l.from.1.0 l.services (same_class l.from.1.1.0) l.k l.at l.l.list

-- `starting::surveys::tries_of` meets its contract: what is noted, with the rest, is all.
use Rattle.starting.proofs.Noted.{Tried}
use Rattle.starting.proofs.surveys.tries_of.Given as goal

abbrev pub invariant-loop-i : goal.invariant-loop-i
invariant-loop-i l = Tried l.a-items l.i l.t

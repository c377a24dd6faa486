-- `starting::surveys::asks_of` meets its contract: what is noted, with the rest, is all.
use Rattle.starting.proofs.Noted.{Asked}
use Rattle.starting.proofs.surveys.asks_of.Given as goal

abbrev pub invariant-loop-i : goal.invariant-loop-i
invariant-loop-i l = Asked l.q-items l.i l.s

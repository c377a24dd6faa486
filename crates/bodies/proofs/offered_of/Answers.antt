-- `bodies::offered_of` meets its contract.
use mathlib.Core.Path.{sym}
use Rattle.bodies.proofs.Brought.{offered-rooms}
use Rattle.bodies.proofs.offered_of.Goals as goal

pub returns : goal.returns
returns c = rw (c.in_rooms.ensures, c.located_of.ensures) (sym (offered-rooms _ c.args.e))

use mathlib.Core.Path.{ap}
use Rattle.std.proofs.Common.{rules}
use Rattle.parts.specs.Rooms.{kept, ech_in}
use Rattle.offers.specs.Offers.{echs_in, no_span}
use Rattle.after.specs.After.{put_echs}
use Rattle.replay.proofs.Stored.{each-stored}
use Rattle.replay.proofs.race.put_echs.Goals as goal

pub returns : goal.returns
unfolding put_echs echs_in
returns c =
    rw (c.first_ech-base.ensures, c.ech_of.ensures, c.ech_of-2.ensures, c.ech_of-3.ensures, c.ech_of-4.ensures)
    (ap (λ l. record { list = l }) (each-stored (λ b. ech_in (kept 512 _ b)) no_span _ _ c.args.spans (search rules)))

use mathlib.Core.Path.{ap}
use Rattle.std.proofs.Common.{rules}
use Rattle.parts.specs.Rooms.{kept, name_in}
use Rattle.offers.specs.Offers.{names_in, no_span}
use Rattle.after.specs.After.{put_names}
use Rattle.replay.proofs.Stored.{each-stored}
use Rattle.replay.proofs.race.put_names.Goals as goal

pub returns : goal.returns
unfolding put_names names_in
returns c =
    rw (c.first_name-base.ensures, c.name_of.ensures, c.name_of-2.ensures, c.name_of-3.ensures, c.name_of-4.ensures)
    (ap (λ l. record { list = l }) (each-stored (λ b. name_in (kept 253 _ b)) no_span _ _ c.args.spans (search rules)))

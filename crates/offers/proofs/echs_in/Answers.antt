use Rattle.std.proofs.Common.{ap}
use Rattle.parts.specs.Rooms.{kept, ech_in}
use Rattle.offers.specs.Offers.{echs_in}
use Rattle.offers.proofs.Places.{each-of-four}
use Rattle.offers.proofs.echs_in.Goals as goal

pub returns : goal.returns
unfolding echs_in
returns c =
    rw (c.ech_of.ensures, c.ech_of-2.ensures, c.ech_of-3.ensures, c.ech_of-4.ensures) (ap (λ l. record { list = l }) (each-of-four (λ b. ech_in (kept 512 _ b)) _ c.args.l c.well_formed.1.0.1.0.1))

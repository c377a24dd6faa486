use Rattle.std.proofs.Common.{ap}
use Rattle.numbers.specs.Names.{longest_name}
use Rattle.parts.specs.Rooms.{kept, name_in}
use Rattle.offers.specs.Offers.{names_in}
use Rattle.offers.proofs.Places.{each-of-four}
use Rattle.offers.proofs.names_in.Goals as goal

pub returns : goal.returns
unfolding names_in
returns c =
    rw (c.name_of.ensures, c.name_of-2.ensures, c.name_of-3.ensures, c.name_of-4.ensures) (ap (λ l. record { list = l }) (each-of-four (λ b. name_in (kept longest_name _ b)) _ c.args.l c.well_formed.1.0.1.0.1))

-- `listing::versions::from_http_versions` meets its contract: H3 before what H2 and H1 combine to.
use Prim.Native.Nat.{◌+◌}
use mathlib.Core.Path.{◌≡◌}
use mathlib.Core.Bool.{Bool, true, false}
use mathlib.Core.List.{◌∷◌}
use Rattle.records.specs.declared.endpoints.Rank.TheVariants as rank
use Rattle.listing.specs.declared.versions.Ranks.{Ranks}
use Rattle.listing.specs.Listing.{combined, from_http_versions}
use Rattle.listing.specs.Room.{ranked}
use Rattle.listing.proofs.versions.from_http_versions.Goals as goal

with-h3 : (h2 h1 : Bool) (t : Ranks) → t ≡ ranked (combined h2 h1) → ◌≡◌ {A = Ranks} (record { count = t.count + 1; first = rank.H3; second = t.first }) (ranked (rank.H3 ∷ combined h2 h1))
with-h3 true true t e = rw e
with-h3 true false t e = rw e
with-h3 false true t e = rw e
with-h3 false false t e = rw e

pub returns-then-v : goal.returns-then-v
unfolding from_http_versions
returns-then-v c =
    rw c.if-v.true (with-h3 c.args.v.h2 c.args.v.h1 _ c.combine-t.ensures)

pub returns : goal.returns
unfolding from_http_versions
returns c = rw c.if-v.false c.combine-t.ensures

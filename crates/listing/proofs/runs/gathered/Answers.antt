use mathlib.Core.Path.{◌≡◌, sym, ap, ◌∙◌}
use mathlib.Core.List.{[], map}
use native.Mathlib.Omega.{arith}
use lib.ListN.{length, get_or, take, length-map}
use lib.Seq.{take_all, length-take-le}
use Rattle.records.specs.Lists.{padded}
use Rattle.records.specs.References.{no_item}
use Rattle.listing.specs.Room.{tiered}
use Rattle.listing.proofs.Appending.{fill_more}
use Rattle.listing.proofs.runs.gathered.Goals as goal

pub loop-k-init : goal.loop-k-init
unfolding tiered
loop-k-init c = ap (λ t. t.list) c.no_tier-out.ensures

pub loop-k-preserved : goal.loop-k-preserved
loop-k-preserved c =
    let n = length-take-le c.args.t.now.count c.args.o.now.list (omega (arith, c.requires.0, c.requires.1)) in
    fill_more 80 0 [] (λ i. get_or c.args.t.now.list i no_item) (take c.args.t.now.count c.args.o.now.list) c.loop-k.k c.loop-k.k c.loop-k.out.list c.loop-k.invariant (omega arith) (omega arith) (omega (arith, c.requires.0, c.requires.1))

pub returns : goal.returns
unfolding tiered
returns c =
    let ks = take c.args.t.now.count c.args.o.now.list in
    let n : length ks ≡ c.args.t.now.count = length-take-le c.args.t.now.count c.args.o.now.list (omega (arith, c.requires.0, c.requires.1)) in
    λ j. record { count = sym (length-map ks (λ i. get_or c.args.t.now.list i no_item) ∙ n) j; list = (c.loop-k.invariant ∙ ap (λ x. padded 80 no_item (map (λ i. get_or c.args.t.now.list i no_item) x)) (take_all c.loop-k.k ks (omega arith))) j }

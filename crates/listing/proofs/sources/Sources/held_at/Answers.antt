use mathlib.Core.Path.{◌≡◌, ◌∙◌}
use lib.ListN.{get_or, take}
use native.Mathlib.Omega.{arith}
use Rattle.records.specs.Queries.{no_query}
use Rattle.records.specs.Classes.{same_class}
use Rattle.listing.specs.Held.{is_held, first_held, held_at}
use Rattle.listing.proofs.Lookup.{held_more, held-here, held-end, not-for, for-named, held-all}
use Rattle.listing.proofs.sources.Sources.held_at.Goals as goal
use Rattle.listing.proofs.sources.Sources.held_at.Goals.{else-is_for, then-is_for+else-same_class}

-- there are 16 places for records, so the first ones are those that are held
all : (c : goal.After-loop-i) → first_held (is_held (same_class c.args.self.now.same) c.args.kind c.args.place) 0 (take c.min-n.result c.args.self.now.queries.list) ≡ held_at (same_class c.args.self.now.same) c.args.self.now.queries c.args.kind c.args.place
all c = held-all (same_class c.args.self.now.same) c.args.self.now.queries c.args.kind c.args.place c.min-n.result c.args.self.now.sixteen c.min-n.ensures

all-2 : (c : goal.After-held_count) → first_held (is_held (same_class c.args.self.now.same) c.args.kind c.args.place) 0 (take c.min-n.result c.args.self.now.queries.list) ≡ held_at (same_class c.args.self.now.same) c.args.self.now.queries c.args.kind c.args.place
all-2 c = held-all (same_class c.args.self.now.same) c.args.self.now.queries c.args.kind c.args.place c.min-n.result c.args.self.now.sixteen c.min-n.ensures

pub returns-then-same_class : goal.returns-then-same_class
returns-then-same_class c =
    let l = take c.min-n.result c.args.self.now.queries.list in
    let t = is_held (same_class c.args.self.now.same) c.args.kind c.args.place in
    held-here t l c.loop-i.i _ c.loop-i.invariant (omega arith)
    (for-named (same_class c.args.self.now.same) c.args.kind c.args.place (get_or l c.loop-i.i no_query) _ c.is_for.ensures _ _ c.if-is_for.true c.same_class.ensures c.if-same_class.true) _ c.held_count.ensures
    ∙ all-2 c

pub loop-i-preserved : goal.loop-i-preserved
loop-i-preserved c =
    let l = take c.min-n.result c.args.self.now.queries.list in
    let x = get_or l c.loop-i.i no_query in
    held_more _ l c.loop-i.i _ c.loop-i.invariant (omega arith) (elim c.if-is_for.branch [ then-is_for+else-same_class w ↦ for-named (same_class c.args.self.now.same) c.args.kind c.args.place x _ c.is_for.ensures _ _ w.if-is_for.true w.same_class.ensures w.if-same_class.false | else-is_for w ↦ not-for (same_class c.args.self.now.same) c.args.kind c.args.place x _ c.is_for.ensures w.if-is_for.false ])

pub returns : goal.returns
returns c = held-end _ (take c.min-n.result c.args.self.now.queries.list) c.loop-i.i _ c.loop-i.invariant (omega arith) ∙ all c

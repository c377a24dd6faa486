use mathlib.Core.Path.{◌∙◌}
use native.Mathlib.Omega.{arith}
use Rattle.replay.proofs.Steps.{turn-seen, turn-same}
use Rattle.replay.proofs.Wished.{seen-inside, granted-at}
use Rattle.replay.proofs.race.Race.turn.Goals as goal

-- the places of a wish lie inside their tables
pub bounds-m-qp : goal.bounds-m-qp
bounds-m-qp c = omega (arith, c.wish_query-qp.ensures, (seen-inside _ _ _ _ _ _ _ _ _ _ c.self.invariant.sized c.survey_of-seen.ensures c.wish_of-w.ensures).0)

pub offset_bounds-m-qp : goal.offset_bounds-m-qp
offset_bounds-m-qp c = omega (arith, c.wish_query-qp.ensures, (seen-inside _ _ _ _ _ _ _ _ _ _ c.self.invariant.sized c.survey_of-seen.ensures c.wish_of-w.ensures).0)

pub bounds-m-tp : goal.bounds-m-tp
bounds-m-tp c = omega (arith, c.wish_attempt-tp.ensures, (seen-inside _ _ _ _ _ _ _ _ _ _ c.self.invariant.sized c.survey_of-seen.ensures c.wish_of-w.ensures).1)

pub offset_bounds-m-tp : goal.offset_bounds-m-tp
offset_bounds-m-tp c = omega (arith, c.wish_attempt-tp.ensures, (seen-inside _ _ _ _ _ _ _ _ _ _ c.self.invariant.sized c.survey_of-seen.ensures c.wish_of-w.ensures).1)

pub returns : goal.returns
returns c =
    rw (← c.self.view_is)
    (turn-seen _ _ c.self.inside.machine c.args.now c.survey_of-seen.ensures c.found_on-found.ensures c.wish_of-w.ensures (granted-at _ _ _ _ _ c.wish_query-qp.ensures c.wish_attempt-tp.ensures c.grant_of.ensures)
    ∙ turn-same c.self.inside.machine c.args.now _ c.self.invariant.same)

use mathlib.Core.Path.{sym, ◌∙◌}
use native.Mathlib.Omega.{arith}
use Rattle.deal.proofs.Answers.{too_long, other-room, no-group, is-dealt}
use Rattle.deal.proofs.deal.Goals as goal

as_clauses : {A B : Type 0} → A × B → record { answer : A; room : B }
as_clauses p = record { answer = p.0; room = p.1 }

pub returns-then-groups-gt-LONGEST : goal.returns-then-groups-gt-LONGEST
returns-then-groups-gt-LONGEST c = as_clauses (too_long c.args.groups.now _ (omega arith))

pub returns-then-out-groups : goal.returns-then-out-groups
returns-then-out-groups c = as_clauses (other-room c.args.groups.now c.args.out.now (omega arith) (λ e. omega (arith, c.if-out-groups.true)))

pub returns-then-deal_rounds-clause-answer : goal.returns-then-deal_rounds-clause-answer
returns-then-deal_rounds-clause-answer c =
    let e = is-dealt _ _ c.if-groups-gt-LONGEST.false c.if-out-groups.false (sym c.deal_rounds.ensures.tested ∙ c.if-deal_rounds.true) in
    e.0

pub returns-then-deal_rounds-clause-room : goal.returns-then-deal_rounds-clause-room
returns-then-deal_rounds-clause-room c =
    let e = is-dealt _ _ c.if-groups-gt-LONGEST.false c.if-out-groups.false (sym c.deal_rounds.ensures.tested ∙ c.if-deal_rounds.true) in
    rw c.if-deal_rounds.true at c.deal_rounds.ensures.dealt ∙ e.1

pub returns-else-deal_rounds-clause-answer : goal.returns-else-deal_rounds-clause-answer
returns-else-deal_rounds-clause-answer c =
    let e = no-group _ _ c.if-groups-gt-LONGEST.false c.if-out-groups.false (sym c.deal_rounds.ensures.tested ∙ c.if-deal_rounds.false) in
    e.0

pub returns-else-deal_rounds-clause-room : goal.returns-else-deal_rounds-clause-room
returns-else-deal_rounds-clause-room c =
    let e = no-group _ _ c.if-groups-gt-LONGEST.false c.if-out-groups.false (sym c.deal_rounds.ensures.tested ∙ c.if-deal_rounds.false) in
    rw c.if-deal_rounds.false at c.deal_rounds.ensures.dealt ∙ e.1

use mathlib.Core.Path.{sym, ap, ◌∙◌}
use Rattle.records.specs.Services.{blank_service}
use Rattle.upcoming.specs.Wanted.{first_wanted, targets_wanted}
use Rattle.upcoming.proofs.Wanting.{want_here, want_more, want_past}
use Rattle.upcoming.proofs.wanted.targets_wanted.Goals as goal

pub returns-then-is_some : goal.returns-then-is_some
unfolding targets_wanted
returns-then-is_some c =
    rw (← c.any_ech-sealed.ensures) (sym (want_here _ blank_service _ _ _ c.loop-s-test.true c.target_wanted-w.ensures (sym c.is_some.ensures ∙ c.if-is_some.true)) ∙ (c.loop-s.invariant ∙ ap (first_wanted _ 0) c.in_use-s-items.ensures))

pub loop-s-preserved : goal.loop-s-preserved
loop-s-preserved c =
    sym (want_more _ blank_service _ _ _ c.loop-s-test.true c.target_wanted-w.ensures (sym c.is_some.ensures ∙ c.if-is_some.false)) ∙ c.loop-s.invariant

pub returns : goal.returns
unfolding targets_wanted
returns c = rw (← c.any_ech-sealed.ensures) (sym (want_past _ _ _ c.loop-s-test.false) ∙ (c.loop-s.invariant ∙ ap (first_wanted _ 0) c.in_use-s-items.ensures))

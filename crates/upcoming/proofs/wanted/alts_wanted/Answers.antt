use mathlib.Core.Path.{sym, ap, ◌∙◌}
use Rattle.records.specs.Rules.{no_alt}
use Rattle.upcoming.specs.Wanted.{first_wanted, alts_wanted}
use Rattle.upcoming.proofs.Wanting.{want_here, want_more, want_past}
use Rattle.upcoming.proofs.wanted.alts_wanted.Goals as goal

pub returns-then-is_some : goal.returns-then-is_some
unfolding alts_wanted
returns-then-is_some c =
    sym (want_here _ no_alt _ _ _ c.loop-i-test.true c.alt_wanted-w.ensures (sym c.is_some.ensures ∙ c.if-is_some.true)) ∙ (c.loop-i.invariant ∙ ap (first_wanted _ 0) c.in_use-a-items.ensures)

pub loop-i-preserved : goal.loop-i-preserved
loop-i-preserved c =
    sym (want_more _ no_alt _ _ _ c.loop-i-test.true c.alt_wanted-w.ensures (sym c.is_some.ensures ∙ c.if-is_some.false)) ∙ c.loop-i.invariant

pub returns : goal.returns
unfolding alts_wanted
returns c = sym (want_past _ _ _ c.loop-i-test.false) ∙ (c.loop-i.invariant ∙ ap (first_wanted _ 0) c.in_use-a-items.ensures)

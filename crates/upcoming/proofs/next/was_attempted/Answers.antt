use mathlib.Core.Path.{sym, ap, ◌∙◌}
use Rattle.records.specs.Lists.{some?}
use Rattle.state.specs.State.{no_attempt}
use Rattle.upcoming.specs.Next.{attempted}
use Rattle.upcoming.proofs.Nexts.{some_here, some_more, some_past}
use Rattle.upcoming.proofs.next.was_attempted.Goals as goal

pub returns-then-alike_endpoints : goal.returns-then-alike_endpoints
unfolding attempted
returns-then-alike_endpoints c =
    sym (some_here _ no_attempt _ _ c.loop-a-test.true (sym c.alike_endpoints.ensures ∙ c.if-alike_endpoints.true)) ∙ (c.loop-a.invariant ∙ ap (some? _) c.in_use-a-items.ensures)

pub loop-a-preserved : goal.loop-a-preserved
loop-a-preserved c =
    sym (some_more _ no_attempt _ _ c.loop-a-test.true (sym c.alike_endpoints.ensures ∙ c.if-alike_endpoints.false)) ∙ c.loop-a.invariant

pub returns : goal.returns
unfolding attempted
returns c = sym (some_past _ _ _ c.loop-a-test.false) ∙ (c.loop-a.invariant ∙ ap (some? _) c.in_use-a-items.ensures)

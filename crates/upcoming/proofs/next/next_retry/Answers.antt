use mathlib.Core.Path.{sym, ap, ◌∙◌}
use Rattle.upcoming.specs.Next.{first_next}
use Rattle.upcoming.proofs.Nexts.{next_here, next_more, next_past, retry-first}
use Rattle.upcoming.proofs.next.next_retry.Goals as goal

pub returns-then-is_some : goal.returns-then-is_some
returns-then-is_some c =
    sym (next_here _ 0 _ _ _ c.loop-p-test.true c.retry_new-w.ensures (sym c.is_some.ensures ∙ c.if-is_some.true)) ∙ (c.loop-p.invariant ∙ (ap (first_next _) c.in_use-p-items.ensures ∙ retry-first _ _ _))

pub loop-p-preserved : goal.loop-p-preserved
loop-p-preserved c =
    sym (next_more _ 0 _ _ _ c.loop-p-test.true c.retry_new-w.ensures (sym c.is_some.ensures ∙ c.if-is_some.false)) ∙ c.loop-p.invariant

pub returns : goal.returns
returns c =
    sym (next_past _ _ _ c.loop-p-test.false) ∙ (c.loop-p.invariant ∙ (ap (first_next _) c.in_use-p-items.ensures ∙ retry-first _ _ _))

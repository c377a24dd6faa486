use mathlib.Core.Path.{sym, ap, ◌∙◌}
use Rattle.records.specs.References.{no_item}
use Rattle.upcoming.specs.Alike.{alike_endpoints}
use Rattle.upcoming.specs.Next.{if_new, first_next}
use Rattle.upcoming.proofs.Nexts.{next_here, next_more, next_past}
use Rattle.upcoming.proofs.next.first_new.Goals as goal

pub returns-then-is_some : goal.returns-then-is_some
returns-then-is_some c =
    let e = c.if_new-w.ensures ∙ ap (if_new (alike_endpoints c.args.hosts c.args.echs) c.args.attempts.now) c.endpoint_at-e.ensures in
    sym (next_here _ no_item _ _ _ c.loop-x-test.true e (sym c.is_some.ensures ∙ c.if-is_some.true)) ∙ (c.loop-x.invariant ∙ ap (first_next _) c.in_use-x-items.ensures)

pub loop-x-preserved : goal.loop-x-preserved
loop-x-preserved c =
    let e = c.if_new-w.ensures ∙ ap (if_new (alike_endpoints c.args.hosts c.args.echs) c.args.attempts.now) c.endpoint_at-e.ensures in
    sym (next_more _ no_item _ _ _ c.loop-x-test.true e (sym c.is_some.ensures ∙ c.if-is_some.false)) ∙ c.loop-x.invariant

pub returns : goal.returns
returns c = sym (next_past _ _ _ c.loop-x-test.false) ∙ (c.loop-x.invariant ∙ ap (first_next _) c.in_use-x-items.ensures)

use native.Mathlib.Omega.{arith}
use mathlib.Core.Path.{◌≡◌, refl, sym, ap, ◌∙◌}
use lib.ListN.{length-set, length-replicate}
use lib.Seq.{take_all}
use Rattle.std.proofs.lemmas.List.{drop-replicate, drop-set-lt}
use Rattle.records.specs.Classes.{classes_from}
use Rattle.records.specs.Lists.{padded}
use Rattle.records.proofs.Classes.{classes_more, filled}
use Rattle.records.proofs.places.classes.Goals as goal

pub loop-p-init : goal.loop-p-init
unfolding classes_from
loop-p-init g c = (length-replicate _ _, refl, λ k h. drop-replicate k _ 0)

pub loop-p-preserved : goal.loop-p-preserved
loop-p-preserved g c = (
  length-set _ _ _ ∙ c.loop-p.invariant.0,
  classes_more _ _ _ _ _ (omega (arith, c.loop-p.invariant.0)) c.loop-p.invariant.1 c.class_of.ensures,
  λ k h. drop-set-lt k _ _ _ (omega (arith, h)) ∙ c.loop-p.invariant.2 k (omega (arith, h)),
)

pub returns-clause-told : goal.returns-clause-told
returns-clause-told g c =
    let p : c.loop-p.p ≡ c.min-n.result = omega arith in
    filled g.row.N c.loop-p.p c.loop-p.list _ (omega (arith, p, c.min-n.ensures)) c.loop-p.invariant.0 c.loop-p.invariant.1 (c.loop-p.invariant.2 c.loop-p.p (omega arith))
    ∙ (ap (λ k. padded g.row.N 0 (classes_from c.min-n.result (g.T.Places.alike c.args.table.now) 0 k)) p
    ∙ ap (λ k. padded g.row.N 0 (classes_from k (g.T.Places.alike c.args.table.now) 0 k)) c.min-n.ensures)

pub returns-clause-all : goal.returns-clause-all
returns-clause-all g c h =
    let e : c.min-n.result ≡ g.row.N = omega (arith, h, c.min-n.ensures) in
    sym (take_all c.loop-p.p c.loop-p.list (omega (arith, e, c.loop-p.invariant.0)))
    ∙ (c.loop-p.invariant.1
    ∙ (ap (λ k. classes_from k (g.T.Places.alike c.args.table.now) 0 c.loop-p.p) e ∙ ap (classes_from g.row.N (g.T.Places.alike c.args.table.now) 0) (omega (arith, e))))

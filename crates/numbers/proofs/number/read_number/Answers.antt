use mathlib.Core.Path.{◌≡◌, sym, ap, ◌∙◌}
use Prim.Native.Nat.{ℕ, ◌+◌, ◌≤◌, ◌<◌}
use native.Mathlib.Omega.{arith}
use lib.ListN.{get_or}
use Rattle.numbers.specs.Got.{got}
use Rattle.numbers.specs.Numbers.{read_number}
use Rattle.numbers.proofs.NumberLaws.{at-start, at-end, at-tenth, at_last, at_more, grown, group-fits, tenth-fits, earlier}
use Rattle.numbers.proofs.number.read_number.Goals as goal
use Rattle.numbers.proofs.number.read_number.Goals.{else-i-eq9, then-i-eq9+else-b-gt1}

-- where the test of the tenth byte is past
tenth : (c : goal.Else-b-eq0) → c.loop-p.i ≡ 9 → get_or c.args.s.now c.loop-p.p 0 ≤ 1
tenth c e = elim c.if-i-eq9.branch [ then-i-eq9+else-b-gt1 w ↦ w.if-b-gt1.false | else-i-eq9 w ↦ absurd (w.if-i-eq9.false e) ]

-- where the test of the tenth byte is past
tenth-2 : (c : goal.Else-b-lt128) → c.loop-p.i ≡ 9 → get_or c.args.s.now c.loop-p.p 0 ≤ 1
tenth-2 c e = elim c.if-i-eq9.branch [ then-i-eq9+else-b-gt1 w ↦ w.if-b-gt1.false | else-i-eq9 w ↦ absurd (w.if-i-eq9.false e) ]

-- a last group that is not 0, or is the only one
last : (c : goal.Else-b-eq0) → (get_or c.args.s.now c.loop-p.p 0 ≡ 0 → c.loop-p.i ≡ 0)
    → got c.add_group-v.result (c.loop-p.p + 1) ≡ read_number c.args.s.now c.args.at
last c h =
    ap (λ (x : ℕ). got x (c.loop-p.p + 1)) c.add_group-v.ensures
    ∙ sym (at_last _ _ _ _ c.if-s-p.false c.loop-p.invariant.1 c.loop-p.invariant.2 c.if-b-lt128.true (tenth c) h) ∙ c.loop-p.invariant.0

-- where another group follows
sooner : (c : goal.Else-b-lt128) → c.loop-p.i < 9
sooner c = earlier _ _ c.loop-p.invariant.2 (tenth-2 c) c.if-b-lt128.false

pub loop-p-init : goal.loop-p-init
loop-p-init c = (at-start _ _, omega arith, omega arith)

pub returns-then-s-p : goal.returns-then-s-p
returns-then-s-p c = sym (at-end _ _ _ _ c.if-s-p.true) ∙ c.loop-p.invariant.0

pub returns-then-b-gt1 : goal.returns-then-b-gt1
returns-then-b-gt1 c = sym (at-tenth _ _ _ _ c.if-s-p.false c.if-i-eq9.true (omega (arith, c.if-b-gt1.true))) ∙ c.loop-p.invariant.0

pub add_group-v-requires : goal.add_group-v-requires
add_group-v-requires c =
    (omega arith, c.loop-p.invariant.1, elim c.if-i-eq9.branch [ then-i-eq9+else-b-gt1 w ↦ tenth-fits _ _ w.if-i-eq9.true w.if-b-gt1.false | else-i-eq9 w ↦ group-fits _ _ (omega (arith, w.if-i-eq9.false)) ])

pub returns-else-b-eq0 : goal.returns-else-b-eq0
returns-else-b-eq0 c = last c (λ e. absurd (c.if-b-eq0.false e))

pub loop-p-preserved : goal.loop-p-preserved
loop-p-preserved c =
    let e = c.add_group-v.ensures in (
      rw e (sym (at_more _ _ _ _ c.if-s-p.false c.loop-p.invariant.1 (sooner c) c.if-b-lt128.false) ∙ c.loop-p.invariant.0),
      rw e (grown _ _ _ c.loop-p.invariant.1),
      omega (arith, sooner c),
    )

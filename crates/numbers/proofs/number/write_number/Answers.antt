use mathlib.Core.Path.{refl, ap, ◌∙◌}
use Prim.Native.Nat.{◌+◌, ◌-◌, ◌/◌, ◌≤◌, ◌<◌}
use native.Mathlib.Omega.{arith}
use native.Mathlib.Nat.{add-zero}
use lib.ListN.{length, length-set}
use Rattle.numbers.specs.Numbers.{shortest, number_bytes}
use Rattle.numbers.proofs.PutLaws.{no-space, space, no_room_lem, room, store}
use Rattle.numbers.proofs.WriteLaws.{shortest-last, shortest-more, one-at-least, not-tenth, shrunk}
use Rattle.numbers.proofs.number.write_number.Goals as goal

-- past the test there is room
fits : (c : goal.After-group_of) → c.args.at + length (number_bytes c.args.n) ≤ length c.args.out.now
fits c =
    let e = c.number_len-need.ensures in
    let l : c.args.at + c.number_len-need.result ≤ length c.args.out.now = space _ _ _ c.has_room.ensures c.if-not-has_room.false-raw in
    omega arith

-- past the test there is room
fits-2 : (c : goal.After-loop-v) → c.args.at + length (number_bytes c.args.n) ≤ length c.args.out.now
fits-2 c =
    let e = c.number_len-need.ensures in
    let l : c.args.at + c.number_len-need.result ≤ length c.args.out.now = space _ _ _ c.has_room.ensures c.if-not-has_room.false-raw in
    omega arith

sooner : (c : goal.After-group_of) → c.loop-v.i < 9
sooner c = not-tenth _ _ c.loop-v.invariant.3 c.loop-v.invariant.2 c.loop-v-test.true

as_clauses : {A B : Type 0} → A × B → record { answer : A; bytes : B }
as_clauses p = record { answer = p.0; bytes = p.1 }

pub returns-then-not-has_room : goal.returns-then-not-has_room
returns-then-not-has_room c = as_clauses (let e = c.number_len-need.ensures in
    let l : length c.args.out.now < c.args.at + c.number_len-need.result = no-space _ _ _ c.has_room.ensures c.if-not-has_room.true-raw in
    no_room_lem _ _ _ (omega arith))

pub loop-v-init : goal.loop-v-init
unfolding number_bytes
loop-v-init c = (rw add-zero refl, omega arith, c.ranges.n.fits, omega arith, refl)

pub bounds-out-at : goal.bounds-out-at
bounds-out-at c = omega (arith, fits c, one-at-least (9 - c.loop-v.i) c.loop-v.v)

pub loop-v-preserved : goal.loop-v-preserved
loop-v-preserved c =
    let m = shortest-more _ _ (sooner c) c.loop-v-test.true in
    let k = ap length m in (
      rw c.group_of.ensures (store c.loop-v.out c.args.at c.loop-v.i _ (shortest (9 - (c.loop-v.i + 1)) (c.loop-v.v / 128)) _ (rw m at c.loop-v.invariant.0)),
      omega arith,
      shrunk _ _ (sooner c) c.loop-v.invariant.2,
      omega (arith, sooner c),
      simp length-set c.loop-v.invariant.4,
    )

pub bounds-out-at-2 : goal.bounds-out-at-2
bounds-out-at-2 c = omega (arith, fits-2 c, one-at-least (9 - c.loop-v.i) c.loop-v.v)

pub returns-clause-answer : goal.returns-clause-answer
returns-clause-answer c =
    let r = room _ _ _ (fits-2 c) in
    let m = shortest-last (9 - c.loop-v.i) _ c.loop-v-test.false in
    rw c.number_len-need.ensures r.0

pub returns-clause-bytes : goal.returns-clause-bytes
returns-clause-bytes c =
    let r = room _ _ _ (fits-2 c) in
    let m = shortest-last (9 - c.loop-v.i) _ c.loop-v-test.false in
    (rw m at c.loop-v.invariant.0) ∙ r.1

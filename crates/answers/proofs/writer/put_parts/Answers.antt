-- `answers::writer::put_parts` meets its contract.
use mathlib.Core.Path.{sym, ◌∙◌}
use Prim.Native.Nat.{◌≤◌}
use native.Mathlib.Omega.{arith}
use borrow.Author.Tests.{leb-true, leb-false}
use Rattle.numbers.proofs.PutLaws.{no_room_lem}
use Rattle.answers.proofs.Joined.{numbers_few, parts_fit, parts_over, body_always, tail_fits, parts_end}
use Rattle.answers.proofs.writer.put_parts.Goals as goal

-- the two sums of numbers are small
few : (c : goal.After-numbers_len-second) → (c.numbers_len-first.result ≤ 80) × (c.numbers_len-second.result ≤ 80)
few c =
    let h = numbers_few c.args.head.now in
    let t = numbers_few c.args.tail.now in
    (omega (arith, c.numbers_len-first.ensures, c.requires.0), omega (arith, c.numbers_len-second.ensures, c.requires.2))

pub overflow_add-need : goal.overflow_add-need
overflow_add-need c = omega (arith, (few c).0, c.requires.1)

pub overflow_add-need-2 : goal.overflow_add-need-2
overflow_add-need-2 c = omega (arith, (few c).0, (few c).1, c.requires.1)

pub overflow_add-need-3 : goal.overflow_add-need-3
overflow_add-need-3 c = omega (arith, (few c).0, (few c).1, c.requires.1, c.requires.3)

pub returns-then-not-has_room-clause-answer : goal.returns-then-not-has_room-clause-answer
returns-then-not-has_room-clause-answer c =
    let f = parts_over _ _ _ c.args.body.now _ c.args.ech.now c.numbers_len-first.ensures c.numbers_len-second.ensures (leb-false _ _ (sym c.has_room.ensures ∙ c.if-not-has_room.true)) in
    (no_room_lem _ _ _ f).0

pub returns-then-not-has_room-clause-bytes : goal.returns-then-not-has_room-clause-bytes
returns-then-not-has_room-clause-bytes c =
    let f = parts_over _ _ _ c.args.body.now _ c.args.ech.now c.numbers_len-first.ensures c.numbers_len-second.ensures (leb-false _ _ (sym c.has_room.ensures ∙ c.if-not-has_room.true)) in
    (no_room_lem _ _ _ f).1

pub returns-in_err-b : goal.returns-in_err-b
returns-in_err-b c =
    let f = parts_fit _ _ _ c.args.body.now _ c.args.ech.now c.numbers_len-first.ensures c.numbers_len-second.ensures (leb-true _ _ (sym c.has_room.ensures ∙ c.if-not-has_room.false)) in
    absurd (body_always _ _ _ _ _ _ f c.in_ok-a.ensures.answer c.in_ok-a.ensures.bytes c.in_err-b.ensures.answer)

pub write_numbers-requires-2 : goal.write_numbers-requires-2
write_numbers-requires-2 c =
    let f = parts_fit _ _ _ c.args.body.now _ c.args.ech.now c.numbers_len-first.ensures c.numbers_len-second.ensures (leb-true _ _ (sym c.has_room.ensures ∙ c.if-not-has_room.false)) in
    tail_fits _ _ _ _ _ _ f c.in_ok-a.ensures.answer c.in_ok-a.ensures.bytes c.in_ok-b.ensures.answer c.in_ok-b.ensures.bytes

pub returns-clause-answer : goal.returns-clause-answer
returns-clause-answer c =
    let f = parts_fit _ _ _ c.args.body.now _ c.args.ech.now c.numbers_len-first.ensures c.numbers_len-second.ensures (leb-true _ _ (sym c.has_room.ensures ∙ c.if-not-has_room.false)) in
    (parts_end _ _ _ _ _ _ f c.in_ok-a.ensures.answer c.in_ok-a.ensures.bytes c.in_ok-b.ensures.answer c.in_ok-b.ensures.bytes c.in_ok-c.ensures.answer c.in_ok-c.ensures.bytes
    c.put_bytes-2.ensures.answer c.put_bytes-2.ensures.bytes).0

pub returns-clause-bytes : goal.returns-clause-bytes
returns-clause-bytes c =
    let f = parts_fit _ _ _ c.args.body.now _ c.args.ech.now c.numbers_len-first.ensures c.numbers_len-second.ensures (leb-true _ _ (sym c.has_room.ensures ∙ c.if-not-has_room.false)) in
    (parts_end _ _ _ _ _ _ f c.in_ok-a.ensures.answer c.in_ok-a.ensures.bytes c.in_ok-b.ensures.answer c.in_ok-b.ensures.bytes c.in_ok-c.ensures.answer c.in_ok-c.ensures.bytes
    c.put_bytes-2.ensures.answer c.put_bytes-2.ensures.bytes).1

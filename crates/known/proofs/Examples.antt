-- The examples hold of the definitions: both lists compute to the same.
use Prim.Native.Nat.{max}
use native.Mathlib.Nat.{pow-zero, add-sub_cancel_left}
use Rattle.numbers.specs.Numbers.{below, groups, read_number, shortest, number_bytes}
use Rattle.deal.specs.Interleaving.{group_of, queue, nth, round, interleave}
use Rattle.pacing.specs.Pacing.{power_of, factor_of, product_of}
use Rattle.numbers.specs.Fields.{at_most}
use Rattle.starting.specs.Starting.{elapsed}
use Rattle.replay.specs.Frames.{body_at}
use Rattle.replay.specs.Replay.{replay_of}
use Rattle.known.specs.Known.{Known, given, said}

pub known : Known
unfolding given said below groups read_number shortest number_bytes power_of factor_of product_of group_of queue nth round interleave elapsed at_most body_at replay_of
known m t room = rw (pow-zero (max 1 m), add-sub_cancel_left t 49_999_999, add-sub_cancel_left t 50_000_000)

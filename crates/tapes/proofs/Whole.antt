-- All claims, of every tape.
use mathlib.Core.List.{List}
use Prim.Native.Nat.{ℕ}
use Rattle.tapes.specs.Events.{events_of}
use Rattle.tapes.specs.Claims.{Tape}
use Rattle.tapes.proofs.Checked.{checked, stopped, opened-follow}
use Rattle.tapes.proofs.Histories.{historic, demanded}
use Rattle.tapes.proofs.Standing.{tape-stands}
use Rattle.tapes.proofs.Written.{written, roomy}
use Rattle.tapes.proofs.Bounded.{bounded}
use Rattle.tapes.proofs.Joined.{joined, taken_out}
use Rattle.tapes.proofs.Cut.{cut}

pub every-tape : (tape : List ℕ) → Tape tape
every-tape tape =
    record {
      checked = checked tape;
      stopped = stopped tape;
      written = written tape;
      roomy = roomy tape;
      bounded = bounded tape;
      joined = λ z more. joined tape more z;
      cut = cut tape;
      without = λ z frame more n. taken_out tape frame more n z;
      follow = λ g first e. opened-follow tape e;
      stands = λ b g first e. tape-stands tape b e;
      history = λ g first e. historic g (events_of tape);
      demand = λ g first e. demanded g;
    }

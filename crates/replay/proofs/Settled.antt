-- What the readers of frames and of a configuration show settles what they give, and so does what is said of a body's fault: any two
-- answers that meet one promise are equal.
use Prim.Native.Nat.{ℕ}
use mathlib.Core.Path.{◌≡◌, sym, ap}
use Rattle.std.specs.Prelude.{Result, Ok, Err}
use Rattle.numbers.specs.Shown as numbers
use Rattle.numbers.specs.declared.refusal.Refusal.{Refusal}
use Rattle.numbers.proofs.Settled.{refusal-settled, settled}
use Rattle.parts.specs.Shown.{shown}
use Rattle.parts.specs.declared.reading.Fault.{Fault}
use Rattle.bodies.specs.Events.{fault_shown, Fault as Told}
use Rattle.configuration.specs.declared.Setup.{Setup}
use Rattle.replay.specs.Frames.{Frame}
use Rattle.replay.proofs.Checking.{some-number}

pub frame-settled : (a b : Result (Frame × ℕ) Refusal) → numbers.shown a ≡ numbers.shown b → a ≡ b
frame-settled a b e = settled a b e

pub setup-settled : (a b : Result (Setup × ℕ) Fault) → shown a ≡ shown b → a ≡ b
setup-settled (Ok (x, p)) (Ok (y, q)) e = cc
setup-settled (Ok (x, p)) (Err b) e = cc
setup-settled (Err a) (Ok (y, q)) e = cc
setup-settled (Err a) (Err b) e =
    let r = refusal-settled a.refusal b.refusal cc in
    let p : a.place ≡ b.place = cc in
    λ j. Err (record { refusal = r j; place = p j })

abbrev number_of : Told → ℕ
number_of f = f.number

abbrev place_of : Told → ℕ
place_of f = f.place

pub fault-settled : (a b : Result ℕ Fault) → fault_shown a ≡ fault_shown b → a ≡ b
fault-settled (Ok p) (Ok q) e = ap Ok (ap place_of e)
fault-settled (Ok p) (Err b) e = absurd (some-number b.refusal (sym (ap number_of e)))
fault-settled (Err a) (Ok q) e = absurd (some-number a.refusal (ap number_of e))
fault-settled (Err a) (Err b) e =
    let r = refusal-settled a.refusal b.refusal (ap number_of e) in
    let p : a.place ≡ b.place = ap place_of e in
    λ j. Err (record { refusal = r j; place = p j })

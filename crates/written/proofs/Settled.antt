-- What a reader of bodies shows settles what it gives: any two answers that meet one promise are equal. One law for every reader: of
-- addresses, items in a row, ports, versions, events and configurations.
use mathlib.Core.Path.{◌≡◌}
use Prim.Native.Nat.{ℕ}
use Rattle.std.specs.Prelude.{Result, Ok, Err}
use Rattle.numbers.proofs.Settled.{refusal-settled}
use Rattle.parts.specs.Shown.{shown}
use Rattle.parts.specs.declared.reading.Fault.{Fault}

pub settled : {A : Type 0} (a b : Result (A × ℕ) Fault) → shown a ≡ shown b → a ≡ b
settled (Ok (x, p)) (Ok (y, q)) e = cc
settled (Ok (x, p)) (Err b) e = cc
settled (Err a) (Ok (y, q)) e = cc
settled (Err a) (Err b) e =
    let r = refusal-settled a.refusal b.refusal cc in
    let p : a.place ≡ b.place = cc in
    λ j. Err (record { refusal = r j; place = p j })

-- A call's answer, as the code comes to it: what is written is what is said, and whether it was written settles the machine.
use Prim.Native.Nat.{ℕ, ◌+◌, ◌≤◌, ◌<◌}
use mathlib.Core.Path.{◌≡◌, refl, sym, ap, ◌∙◌}
use mathlib.Core.Logic.{⊎_elim}
use mathlib.Core.List.{List}
use native.Mathlib.Omega.{arith}
use lib.ListN.{length, get_or}
use borrow.Author.Tests.{le-leb, lt-leb}
use Rattle.numbers.specs.Put.{put_answer}
use Rattle.numbers.specs.Shown.{wrote_shown}
use Rattle.std.specs.Prelude.{Result, Ok, Err}
use Rattle.numbers.specs.declared.refusal.Refusal.{Refusal}
use Rattle.numbers.specs.declared.refusal.Refusal.TheVariants.{NoRoom}
use Rattle.numbers.proofs.Cases.{less-or-not}
use Rattle.numbers.proofs.PutLaws.{no_room_lem, room}
use Rattle.numbers.proofs.Settled.{wrote-settled}
use Rattle.records.specs.Names.{name_bytes, blank_name, ech_bytes, blank_ech}
use Rattle.state.specs.declared.Machine.{Machine}
use Rattle.machine.specs.Steps.{output_step}
use Rattle.machine.specs.declared.calls.OutputStep.{OutputStep}
use Rattle.machine.specs.declared.grant.Output.{Output}
use Rattle.answers.specs.Answers.{answer_bytes}
use Rattle.answers.specs.Outputs.{said_by, said_of, output_name, output_ech}
use Rattle.replies.specs.declared.Answer.TheVariants as answer
use Rattle.replay.proofs.Steps.{name-inside, ech-inside, said_in_lem}
use Rattle.live.specs.Live.{called_bytes, called_of}

-- the places that an output has are places of the tables
pub name-place : (o : Output) → output_name o < 14
name-place o = name-inside (answer.Output o)

pub ech-place : (o : Output) → output_ech o < 40
ech-place o = ech-inside (answer.Output o)

-- the bytes that are written for an output, with what lies at its places
pub bytes-said : (m : Machine) (now : ℕ) (s : OutputStep) (np ep : ℕ) → s ≡ output_step m now → np ≡ output_name s.output → ep ≡ output_ech s.output
    → answer_bytes (said_by (name_bytes (get_or m.names.list 0 blank_name)) (name_bytes (get_or m.names.list np blank_name)) (ech_bytes (get_or m.echs.list ep blank_ech)) s.output) ≡ called_bytes m now
unfolding called_bytes said_of
bytes-said m now s np ep e f g =
    ap answer_bytes (said_in_lem m (answer.Output s.output) np ep f g) ∙ ap (λ (x : OutputStep). answer_bytes (said_of m.names m.echs x.output)) e

-- the machine after a write: the one of before where it was refused
abbrev pub after_write : (before after : Machine) → Result ℕ Refusal → Machine
after_write before after (Ok end) = after
after_write before after (Err e) = before

module _ (m : Machine) (now : ℕ) (out : List ℕ) where
  fits : length (called_bytes m now) ≤ length out → called_of m now (length out) ≡ record { wrote = Ok (length (called_bytes m now)); machine = (output_step m now).machine }
  unfolding called_of
  fits h = rw (le-leb _ _ h)

  full : length out < length (called_bytes m now) → called_of m now (length out) ≡ record { wrote = Err NoRoom; machine = m }
  unfolding called_of
  full h = rw (lt-leb _ _ h)

  whole : (w : Result ℕ Refusal) → wrote_shown w ≡ put_answer out 0 (called_bytes m now) → record { wrote = w; machine = after_write m (output_step m now).machine w } ≡ called_of m now (length out)
  whole w p =
      ⊎_elim (λ (h : length out < length (called_bytes m now)).
      let e : w ≡ Err NoRoom = wrote-settled w (Err NoRoom) (p ∙ sym (no_room_lem out 0 (called_bytes m now) (omega arith)).0) in rw (e, full h) refl)
      (λ (h : length (called_bytes m now) ≤ length out).
      let e : w ≡ Ok (0 + length (called_bytes m now)) = wrote-settled w (Ok (0 + length (called_bytes m now))) (p ∙ sym (room out 0 (called_bytes m now) (omega arith)).0) in
      let z : 0 + length (called_bytes m now) ≡ length (called_bytes m now) = omega arith in rw (e, z, fits h) refl)
      (less-or-not (length out) (length (called_bytes m now)))

  pub was-full : (w : Result ℕ Refusal) {e : Refusal} → w ≡ Err e → wrote_shown w ≡ put_answer out 0 (called_bytes m now) → record { wrote = w; machine = m } ≡ called_of m now (length out)
  was-full w k p = ap (λ x. record { wrote = w; machine = x }) (sym (ap (after_write m (output_step m now).machine) k)) ∙ whole w p

  pub was-written : (w : Result ℕ Refusal) {end : ℕ} → w ≡ Ok end → wrote_shown w ≡ put_answer out 0 (called_bytes m now) → record { wrote = w; machine = (output_step m now).machine } ≡ called_of m now (length out)
  was-written w k p = ap (λ x. record { wrote = w; machine = x }) (sym (ap (after_write m (output_step m now).machine) k)) ∙ whole w p

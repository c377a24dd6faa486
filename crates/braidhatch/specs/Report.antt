-- The C entry of replay (rules 8.8 and F.6): what it returns, and what it leaves in the two slices that it is lent.
use Rattle.std.specs.Prelude.{ℕ, zero, suc, ◌/◌, ◌%◌, cond, List, [], ◌∷◌, ◌++◌, nat_eq, length}
use Rattle.std.proofs.lemmas.List.Edits.{sets}
use Rattle.numbers.specs.Refusals.{no_room}
use Rattle.replay.specs.Replay.{Run, replay_of}

-- the k lowest bytes of a number, the lowest first
unfoldable pub low_first : (k n : ℕ) → List ℕ
low_first zero n = []
low_first (suc k) n = n % 256 ∷ low_first k (n / 256)

-- four numbers, 8 bytes each
unfoldable pub four_numbers : (status place written calls : ℕ) → List ℕ
four_numbers s p w c = low_first 8 s ++ (low_first 8 p ++ (low_first 8 w ++ low_first 8 c))

-- a run's: its status, its place, how many bytes of answers were written, and how many calls were answered
unfoldable pub report_bytes : Run → List ℕ
report_bytes r = four_numbers r.status r.place (length r.bytes) r.calls

-- by the length of the report: a run fills 32 bytes, and for any other length nothing is run
abbrev pub on_report : {A : Type 0} → (report : List ℕ) → A → A → A
on_report report ran other = cond (nat_eq (length report) 32) ran other

unfoldable pub replay_status : (tape answers report : List ℕ) → ℕ
replay_status tape answers report = on_report report (replay_of tape (length answers)).status no_room

-- the answers at the front, and no byte behind them is touched
unfoldable pub answers_after : (tape answers report : List ℕ) → List ℕ
answers_after tape answers report = on_report report (sets answers 0 (replay_of tape (length answers)).bytes) answers

unfoldable pub report_after : (tape answers report : List ℕ) → List ℕ
report_after tape answers report = on_report report (report_bytes (replay_of tape (length answers))) report

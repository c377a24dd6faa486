-- A tape: its configuration, a call, a body that is refused, and a frame that is cut.
use Rattle.std.specs.Prelude.{ℕ, List, [], ◌∷◌, ◌++◌}

-- the origin 127.0.0.1, port 443, all versions; resolution delay 50, attempt delay 100; mode Name
abbrev pub setup : List ℕ
setup = 15 ∷ 187 ∷ 3 ∷ 1 ∷ 127 ∷ 0 ∷ 0 ∷ 1 ∷ 7 ∷ 0 ∷ 0 ∷ 50 ∷ 100 ∷ 1 ∷ 0 ∷ 1 ∷ []

-- at the moments 5, 6 and 7: the call, a kind that there isn't, and one byte of three
abbrev pub call_frame : List ℕ
call_frame = 5 ∷ 1 ∷ 7 ∷ []

abbrev pub bad_frame : List ℕ
bad_frame = 6 ∷ 1 ∷ 0 ∷ []

abbrev pub cut_frame : List ℕ
cut_frame = 7 ∷ 3 ∷ 7 ∷ []

-- with the call and the cut frame, and with the refused body between them
abbrev pub called : List ℕ
called = setup ++ (call_frame ++ cut_frame)

abbrev pub refused : List ℕ
refused = setup ++ (call_frame ++ (bad_frame ++ cut_frame))

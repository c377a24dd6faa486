-- What a text in a room of 8,192 bytes holds.
use Rattle.std.specs.Prelude.{cond, ℕ, ◌+◌, List, ◌++◌, length, nat_le}

-- with a piece more at its end, or as it was where the piece doesn't fit
unfoldable pub with_piece : List ℕ → List ℕ → List ℕ
with_piece said piece = cond (nat_le (length said + length piece) 8192) (said ++ piece) said

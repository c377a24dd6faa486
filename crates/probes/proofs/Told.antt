-- What the words hold after the stores of a list.
use Rattle.std.proofs.Common.{◌≡◌, ℕ, ◌+◌, ◌<◌, ◌≤◌, List, length, get_or, drop, set, add-one, drop_of_length-le, drop-cons}
use lib.Seq.{sets}

-- a list stored from its front on: word p now, those after it to come; and none to come
module _ (words list : List ℕ) (p : ℕ) {target : List ℕ} (e : sets words p (drop p list) ≡ target) where
  pub store : p < length list → sets (set words p (get_or list p 0)) (p + 1) (drop (p + 1) list) ≡ target
  store h = rw add-one (rw (drop-cons list p 0 h) at e)

  pub stored : length list ≤ p → words ≡ target
  stored h = rw (drop_of_length-le list h) at e

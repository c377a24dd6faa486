-- Laws of writing into a lent buffer.
--     no-space, space          what `has_room` says
--     no_room_lem, room            answer and bytes, where the bytes do not fit and where they do
--     store                    one byte stored is one byte less to store
--     part_stored              a part that is written at once
--     put-put, put_two         two writes, one after the other, are one write of both
use mathlib.Core.Path.{◌≡◌, refl, sym, ◌∙◌}
use mathlib.Core.Bool.{Bool, true, false, not}
use mathlib.Core.List.{List, [], ◌∷◌, ◌++◌}
use Prim.Native.Nat.{ℕ, suc, ◌+◌, ◌≤◌, ◌<◌}
use native.Mathlib.Nat.{add-zero}
use native.Mathlib.Omega.{arith}
use lib.ListN.{length, set, length-append}
use lib.Seq.{sets, length-sets, sets-eq}
use borrow.Rule.Slice.PartMut.{put_mid}
use lib.Dec.{leb as nat_le}
use Rattle.std.proofs.lemmas.List.{drop-drop, append_assoc}
use borrow.Author.Tests.{le-leb, lt-leb, leb-true, leb-false, not-true, not-false}
use Rattle.numbers.specs.Put.{placed, refused, put_answer, put_bytes}
use Rattle.numbers.specs.Refusals.{no_room}

-- what `has_room` said, as a test of the caller's code gives it
module _ (len at need : ℕ) {r : Bool} (e : r ≡ nat_le (at + need) len) where
  pub no-space : not r ≡ true → len < at + need
  no-space t = leb-false (at + need) len (sym e ∙ not-true r t)

  pub space : not r ≡ false → at + need ≤ len
  space t = leb-true (at + need) len (sym e ∙ not-false r t)

module _ (out : List ℕ) (at : ℕ) (bs : List ℕ) where
  pub no_room_lem : length out < at + length bs → (refused no_room ≡ put_answer out at bs) × (out ≡ put_bytes out at bs)
  unfolding put_answer put_bytes
  no_room_lem h = (simp (lt-leb (at + length bs) (length out) h), simp (lt-leb (at + length bs) (length out) h))

  pub room : at + length bs ≤ length out → (placed (at + length bs) ≡ put_answer out at bs) × (sets out at bs ≡ put_bytes out at bs)
  unfolding put_answer put_bytes
  room h = (simp (le-leb (at + length bs) (length out) h), simp (le-leb (at + length bs) (length out) h))

-- a part written at once is its bytes stored one by one
pub part_stored : (out : List ℕ) (at k : ℕ) (bs ys : List ℕ) → ys ≡ bs → k ≡ length bs → at + length bs ≤ length out → put_mid at k out ys ≡ sets out at bs
part_stored out at k bs ys e l h = rw (e, l, sets-eq bs out at h) (simp (drop-drop, append_assoc))

pub store : (out : List ℕ) (at i b : ℕ) (rest target : List ℕ) → sets out (at + i) (b ∷ rest) ≡ target → sets (set out (at + i) b) (at + (i + 1)) rest ≡ target
store out at i b rest target h = let e : at + (i + 1) ≡ suc (at + i) = omega arith in rw e h

sets-append : (out : List ℕ) (at : ℕ) (xs ys : List ℕ) → sets (sets out at xs) (at + length xs) ys ≡ sets out at (xs ++ ys)
sets-append out at [] ys = rw add-zero refl
sets-append out at (x ∷ xs) ys = let e : at + suc (length xs) ≡ suc at + length xs = omega arith in rw e (sets-append (set out at x) (suc at) xs ys)

-- what a write leaves, where there is room: the same length
pub put-length : (out : List ℕ) (at : ℕ) (bs : List ℕ) → at + length bs ≤ length out → length (put_bytes out at bs) ≡ length out
put-length out at bs h = rw (← (room out at bs h).1) (length-sets out at bs)

pub put-put : (out : List ℕ) (at : ℕ) (xs ys : List ℕ) → at + length (xs ++ ys) ≤ length out → put_bytes (put_bytes out at xs) (at + length xs) ys ≡ put_bytes out at (xs ++ ys)
put-put out at xs ys h =
    let e = length-append xs ys in
    let a : at + length xs ≤ length out = omega arith in
    let b : at + length xs + length ys ≤ length (sets out at xs) = rw length-sets (omega arith) in
    rw (← (room out at xs a).1, ← (room (sets out at xs) (at + length xs) ys b).1, ← (room out at (xs ++ ys) h).1) (sets-append out at xs ys)

-- the same, as two calls leave it: what the first left, and what the second did from the middle on
pub put_two : (out : List ℕ) (at : ℕ) (xs ys : List ℕ) {out₁ out₂ : List ℕ} (mid : ℕ) → at + length (xs ++ ys) ≤ length out → mid ≡ at + length xs
    → out₁ ≡ put_bytes out at xs → out₂ ≡ put_bytes out₁ mid ys → out₂ ≡ put_bytes out at (xs ++ ys)
put_two out at xs ys mid h m e f = f ∙ rw (e, m) (put-put out at xs ys h)

-- Bytes of a body copied into a room of zeros.
--     fits-there            bytes that fit lie in the body
--     kept_there, kept-none what is kept of the bytes
--     put-kept, put_front   bytes that fit, put into the room by the writer, are what is kept
--     kept_length, none_kept, no_bytes_kept     how many bytes are kept; where they don't fit
--     kept_front            put-kept of a copy into the front of the room, which nothing cites now
--     kept-few              what is kept fits its room
--     name_back, ech-back   the bytes in a room are those that were copied
use mathlib.Core.Path.{◌≡◌, refl, sym, ap, ◌∙◌}
use mathlib.Core.Bool.{Bool, true, false, cond, ◌&&◌}
use mathlib.Core.List.{List, [], ◌++◌}
use Prim.Native.Nat.{ℕ, ◌+◌, ◌-◌, ◌≤◌}
use native.Mathlib.Omega.{arith}
use lib.Dec.{leb as nat_le}
use lib.ListN.{length, take, drop, replicate, length-take, length-drop, length-replicate}
use lib.Seq.{take_at}
use borrow.Author.Tests.{leb-true}
use Rattle.numbers.specs.Fields.{span_bytes}
use Rattle.numbers.specs.Put.{put_bytes}
use Rattle.numbers.proofs.PutLaws as put
use Rattle.numbers.specs.declared.field.Span.{Span}
use Rattle.records.specs.Lists.{padded}
use Rattle.records.specs.Names.{name_bytes, ech_bytes}
use Rattle.parts.specs.Rooms.{fits, kept, name_in, ech_in}
use Rattle.parts.proofs.Filling.{drop-zeros, sets-padded}

both : (a b : Bool) → a && b ≡ true → (a ≡ true) × (b ≡ true)
both true true e = (refl, refl)
both true false e = (refl, e)
both false b e = absurd (let z : ◌≡◌ {A = ℕ} 0 1 = ap (λ (t : Bool). cond t 1 0) e in omega arith)

pub fits-there : (room : ℕ) (s : List ℕ) (b : Span) → fits room s b ≡ true → (b.len ≤ room) × (b.start + b.len ≤ length s)
unfolding fits
fits-there room s b e =
    let x = both (nat_le b.len room) (nat_le (b.start + b.len) (length s)) e in
    (leb-true b.len room x.0, leb-true (b.start + b.len) (length s) x.1)

pub kept_there : (room : ℕ) (s : List ℕ) (b : Span) → fits room s b ≡ true → kept room s b ≡ span_bytes s b
unfolding kept
kept_there room s b e = rw e

pub kept-none : (room : ℕ) (s : List ℕ) (b : Span) → fits room s b ≡ false → kept room s b ≡ []
unfolding kept
kept-none room s b e = rw e

pub span-length : (s : List ℕ) (start len : ℕ) → start + len ≤ length s → length (take len (drop start s)) ≡ len
span-length s start len h = rw (length-take, length-drop) (omega arith)

pub put-kept : (room : ℕ) (s : List ℕ) (b : Span) → fits room s b ≡ true → {out : List ℕ} → out ≡ put_bytes (replicate room 0) 0 (take (b.start + b.len - b.start) (drop b.start s))
    → (b.len ≡ length (kept room s b)) × (out ≡ padded room 0 (kept room s b))
put-kept room s b e f =
    let x = fits-there room s b e in
    let l = span-length s b.start b.len x.1 in
    let n : b.start + b.len - b.start ≡ b.len = omega arith in
    let few : 0 + length (span_bytes s b) ≤ length {A = ℕ} (replicate room 0) = rw length-replicate (omega (arith, l, x.0)) in
    rw (kept_there room s b e) (sym l, (rw n at f) ∙ (sym (put.room (replicate room 0) 0 (span_bytes s b) few).1 ∙ sets-padded 0 room (span_bytes s b) (omega (arith, l, x.0))))

pub put_front : (room : ℕ) (s : List ℕ) (b : Span) (out : List ℕ) → fits room s b ≡ true → out ≡ put_bytes (replicate room 0) 0 (take (b.start + b.len - b.start) (drop b.start s)) → out ≡ padded room 0 (kept room s b)
put_front room s b out e f = (put-kept room s b e f).1

-- what a room holds once bytes that fit are in its front, and where they don't fit
pub kept_length : (room : ℕ) (s : List ℕ) (b : Span) → fits room s b ≡ true → b.len ≡ length (kept room s b)
kept_length room s b e = rw (kept_there room s b e) (sym (span-length s b.start b.len (fits-there room s b e).1))

pub kept_front : (room : ℕ) (s : List ℕ) (b : Span) (xs : List ℕ) → fits room s b ≡ true → xs ≡ take (b.start + b.len - b.start) (drop b.start s) → xs ++ drop b.len (replicate room 0) ≡ padded room 0 (kept room s b)
unfolding padded
kept_front room s b xs e f =
    let n : b.start + b.len - b.start ≡ b.len = omega arith in
    rw (f, n, kept_there room s b e, span-length s b.start b.len (fits-there room s b e).1, drop-zeros) refl

pub none_kept : (room : ℕ) (s : List ℕ) (b : Span) → fits room s b ≡ false → length (kept room s b) ≡ 0
none_kept room s b e = rw (kept-none room s b e) refl

pub no_bytes_kept : (room : ℕ) (s : List ℕ) (b : Span) → fits room s b ≡ false → replicate room 0 ≡ padded room 0 (kept room s b)
unfolding padded
no_bytes_kept room s b e = let z : room - 0 ≡ room = omega arith in rw (kept-none room s b e, z) refl

pub name_back : (bs : List ℕ) → name_bytes (name_in bs) ≡ bs
unfolding name_bytes name_in padded
name_back bs = take_at bs (replicate (253 - length bs) 0) (length bs) refl

pub ech-back : (bs : List ℕ) → ech_bytes (ech_in bs) ≡ bs
unfolding ech_bytes ech_in padded
ech-back bs = take_at bs (replicate (512 - length bs) 0) (length bs) refl

module _ (s : List ℕ) where
  -- bytes that are kept fit their room
  fit-cases : (room : ℕ) (b : Span) (t : Bool) → fits room s b ≡ t → length (kept room s b) ≤ room
  fit-cases room b true e = let x = fits-there room s b e in rw (kept_there room s b e) (omega (arith, span-length s b.start b.len x.1, x.0))
  fit-cases room b false e = rw (kept-none room s b e) (omega arith)

  pub kept-few : (room : ℕ) (b : Span) → length (kept room s b) ≤ room
  kept-few room b = fit-cases room b (fits room s b) refl

-- Fields one after the other, as the writer puts them.
--     numbers_few              how many bytes some numbers take at most
--     numbers-next, numbers_none      numbers in a loop: the first of those that are left, none left
--     store_next and the like  the same of a loop that stores them; put_next, of its bytes alone: nothing cites it now, and docs/PORT.md names it
--     parts, parts-put         numbers, bytes, numbers and bytes are the fields that they are; four writes are one
--     parts_end and the like   the same as four calls answer it
use mathlib.Core.Path.{◌≡◌, refl, sym, ap, ◌∙◌}
use mathlib.Core.List.{List, [], ◌∷◌, ◌++◌, map, append_assoc, append-nil}
use Prim.Native.Nat.{ℕ, ◌+◌, ◌*◌, ◌≤◌, ◌<◌}
use native.Mathlib.Numerals.{add-one}
use native.Mathlib.Omega.{arith}
use lib.ListN.{length, get_or, drop, length-append, drop_of_length-le}
use lib.Seq.{drop-cons}
use Rattle.numbers.specs.Numbers.{number_bytes}
use Rattle.numbers.specs.Put.{Placed, placed, refused, put_answer, put_bytes}
use Rattle.numbers.proofs.PutLaws.{room, put-put, put-length, put_two}
use Rattle.numbers.proofs.WriteLaws.{at-most-ten}
use Rattle.answers.specs.Answers.{Field, number, raw, joined}
use Rattle.answers.specs.Parts.{numbers_bytes, parts_bytes}

pub numbers_few : (l : List ℕ) → length (numbers_bytes l) ≤ 10 * length l
unfolding numbers_bytes
numbers_few [] = omega arith
numbers_few (n ∷ l) = let i = numbers_few l in let t = at-most-ten n in simp length-append (omega arith)

-- the first of the numbers that are left
pub numbers-next : (l : List ℕ) (i : ℕ) → i < length l → numbers_bytes (drop i l) ≡ number_bytes (get_or l i 0) ++ numbers_bytes (drop (i + 1) l)
unfolding numbers_bytes
numbers-next l i h = rw (add-one) (ap numbers_bytes (drop-cons l i 0 h))

pub numbers_none : (l : List ℕ) (i : ℕ) → length l ≤ i → numbers_bytes (drop i l) ≡ []
unfolding numbers_bytes
numbers_none l i h = ap numbers_bytes (drop_of_length-le l h)

numbers-joined : (l : List ℕ) (fs : List Field) → joined (map number l ++ fs) ≡ numbers_bytes l ++ joined fs
unfolding joined numbers_bytes
numbers-joined [] fs = refl
numbers-joined (n ∷ l) fs = ap (λ (x : List ℕ). number_bytes n ++ x) (numbers-joined l fs) ∙ sym (append_assoc (number_bytes n) (numbers_bytes l) (joined fs))

pub numbers-fields : (l : List ℕ) → joined (map number l) ≡ numbers_bytes l
unfolding joined numbers_bytes
numbers-fields [] = refl
numbers-fields (n ∷ l) = ap (λ (x : List ℕ). number_bytes n ++ x) (numbers-fields l)

pub parts : (head body tail ech : List ℕ) → joined (map number head ++ (raw body ∷ (map number tail ++ (raw ech ∷ [])))) ≡ parts_bytes head body tail ech
unfolding joined parts_bytes
parts head body tail ech =
    numbers-joined head (raw body ∷ (map number tail ++ (raw ech ∷ [])))
    ∙ ap (λ (x : List ℕ). numbers_bytes head ++ (body ++ x)) (numbers-joined tail (raw ech ∷ []) ∙ ap (λ (x : List ℕ). numbers_bytes tail ++ x) (append-nil ech))

-- a loop over numbers: what is left of their bytes after one more
module _ (l : List ℕ) (i : ℕ) (h : i < length l) where
  pub length_next : length (numbers_bytes (drop i l)) ≡ length (number_bytes (get_or l i 0)) + length (numbers_bytes (drop (i + 1) l))
  length_next = ap length (numbers-next l i h) ∙ length-append (number_bytes (get_or l i 0)) (numbers_bytes (drop (i + 1) l))

  pub put_next : (out : List ℕ) (p : ℕ) {out₁ target : List ℕ} → p + length (numbers_bytes (drop i l)) ≤ length out
      → put_bytes out p (numbers_bytes (drop i l)) ≡ target → out₁ ≡ put_bytes out p (number_bytes (get_or l i 0))
      → put_bytes out₁ (p + length (number_bytes (get_or l i 0))) (numbers_bytes (drop (i + 1) l)) ≡ target
  put_next out p r e f =
      let n = numbers-next l i h in
      rw f (put-put out p (number_bytes (get_or l i 0)) (numbers_bytes (drop (i + 1) l)) (rw n at r)) ∙ (rw n at e)

  -- one more number stored
  pub store_next : (out : List ℕ) {out₁ target : List ℕ} (p : ℕ) {q all n : ℕ} → p + length (numbers_bytes (drop i l)) ≡ all → all ≤ n → length out ≡ n
      → put_bytes out p (numbers_bytes (drop i l)) ≡ target → placed q ≡ put_answer out p (number_bytes (get_or l i 0)) → out₁ ≡ put_bytes out p (number_bytes (get_or l i 0))
      → (put_bytes out₁ q (numbers_bytes (drop (i + 1) l)) ≡ target) × (q + length (numbers_bytes (drop (i + 1) l)) ≡ all) × (length out₁ ≡ n)
  store_next out {out₁} {target} p {q} e f g t a w =
      let b = number_bytes (get_or l i 0) in
      let r = numbers_bytes (drop (i + 1) l) in
      let k = length_next in
      let m : p + length b ≤ length out = omega arith in
      let z : p + length b ≡ q = let y = (room out p b m).0 ∙ sym a in cc in
      let u : p + length (b ++ r) ≤ length out = let x = length-append b r in omega arith in
      (rw (w, ← z) (put-put out p b r u) ∙ (rw (numbers-next l i h) at t), omega arith, ap length w ∙ put-length out p b m ∙ g)

  -- one that fits is never refused
  pub store_always : (out : List ℕ) (p : ℕ) {m all n : ℕ} → p + length (numbers_bytes (drop i l)) ≡ all → all ≤ n → length out ≡ n
      → refused m ≡ put_answer out p (number_bytes (get_or l i 0)) → ⊥
  store_always out p e f g a =
      let k = length_next in
      let m : p + length (number_bytes (get_or l i 0)) ≤ length out = omega arith in
      let y = (room out p (number_bytes (get_or l i 0)) m).0 ∙ sym a in cc

pub store_end : (l : List ℕ) (i : ℕ) → length l ≤ i → (out : List ℕ) {target : List ℕ} (p : ℕ) {all : ℕ} → p + length (numbers_bytes (drop i l)) ≡ all → all ≤ length out
    → put_bytes out p (numbers_bytes (drop i l)) ≡ target → (p ≡ all) × (out ≡ target)
store_end l i h out p e f t =
    let n = ap length (numbers_none l i h) in
    (omega arith, (room out p [] (omega arith)).1 ∙ (rw (numbers_none l i h) at t))

pub parts-length : (head body tail ech : List ℕ)
    → length (parts_bytes head body tail ech) ≡ length (numbers_bytes head) + length body + length (numbers_bytes tail) + length ech
unfolding parts_bytes
parts-length head body tail ech = simp length-append (omega arith)

-- what the sum of their lengths says of them
pub parts_fit : (len at : ℕ) (head body tail ech : List ℕ) {x y : ℕ} → x ≡ length (numbers_bytes head) → y ≡ length (numbers_bytes tail)
    → at + (x + length body + y + length ech) ≤ len → at + length (parts_bytes head body tail ech) ≤ len
parts_fit len at head body tail ech e f h = let l = parts-length head body tail ech in omega arith

pub parts_over : (len at : ℕ) (head body tail ech : List ℕ) {x y : ℕ} → x ≡ length (numbers_bytes head) → y ≡ length (numbers_bytes tail)
    → len < at + (x + length body + y + length ech) → len < at + length (parts_bytes head body tail ech)
parts_over len at head body tail ech e f h = let l = parts-length head body tail ech in omega arith

-- four writes, one after the other, are one write of all
module _ (out : List ℕ) (at : ℕ) (head body tail ech : List ℕ) (fits : at + length (parts_bytes head body tail ech) ≤ length out) where
  module _ {a : ℕ} {out₁ : List ℕ} (place : a ≡ at + length (numbers_bytes head)) (first : out₁ ≡ put_bytes out at (numbers_bytes head)) where
    first-length : length out₁ ≡ length out
    first-length = ap length first ∙ put-length out at (numbers_bytes head) (omega (arith, parts-length head body tail ech))

    module _ {out₂ : List ℕ} (second : out₂ ≡ put_bytes out₁ a body) where
      second-length : length out₂ ≡ length out
      second-length = ap length second ∙ put-length out₁ a body (omega (arith, parts-length head body tail ech, first-length)) ∙ first-length

      pub third-fits : a + length body + length (numbers_bytes tail) ≤ length out₂
      third-fits = omega (arith, parts-length head body tail ech, second-length)

      pub parts-put : {c : ℕ} {out₃ out₄ : List ℕ} → c ≡ a + length body + length (numbers_bytes tail) → out₃ ≡ put_bytes out₂ (a + length body) (numbers_bytes tail)
          → out₄ ≡ put_bytes out₃ c ech → out₄ ≡ put_bytes out at (parts_bytes head body tail ech)
      unfolding parts_bytes
      parts-put {c} later third fourth =
          let l = parts-length head body tail ech in
          let m = first-length in
          let n = second-length in
          let t = numbers_bytes tail in
          put_two out at (numbers_bytes head) (body ++ (t ++ ech)) a fits place first
          (put_two out₁ a body (t ++ ech) (a + length body) (simp length-append (omega arith)) refl second
          (put_two out₂ (a + length body) t ech c (simp length-append (omega arith)) later third fourth))

-- the same as four calls answer it, where all fit: none is refused, and the last answers for all
module _ (out : List ℕ) (at : ℕ) (head body tail ech : List ℕ) (fits : at + length (parts_bytes head body tail ech) ≤ length out) where
  module _ {a : ℕ} {out₁ : List ℕ} (place : placed a ≡ placed (at + length (numbers_bytes head))) (first : out₁ ≡ put_bytes out at (numbers_bytes head)) where
    after-head : a ≡ at + length (numbers_bytes head)
    after-head = cc

    body-fits : a + length body ≤ length out₁
    body-fits =
        let l = parts-length head body tail ech in
        let n = after-head in
        let m = ap length first ∙ put-length out at (numbers_bytes head) (omega arith) in
        omega arith

    pub body_always : {m : ℕ} → refused m ≡ put_answer out₁ a body → ⊥
    body_always e = let y = (room out₁ a body body-fits).0 ∙ sym e in cc

    module _ {b : ℕ} {out₂ : List ℕ} (next : placed b ≡ put_answer out₁ a body) (second : out₂ ≡ put_bytes out₁ a body) where
      after-body : b ≡ a + length body
      after-body = let y = (room out₁ a body body-fits).0 ∙ sym next in cc

      pub tail_fits : b + length (numbers_bytes tail) ≤ length out₂
      tail_fits = let e = after-body in let t = third-fits out at head body tail ech fits after-head first second in omega arith

      pub parts_end : {c : ℕ} {out₃ out₄ : List ℕ} {r : Placed} → placed c ≡ placed (b + length (numbers_bytes tail)) → out₃ ≡ put_bytes out₂ b (numbers_bytes tail)
          → r ≡ put_answer out₃ c ech → out₄ ≡ put_bytes out₃ c ech → (r ≡ put_answer out at (parts_bytes head body tail ech)) × (out₄ ≡ put_bytes out at (parts_bytes head body tail ech))
      parts_end {c} {out₃} later third answer fourth =
          let e = after-body in
          let n = after-head in
          let l = parts-length head body tail ech in
          let m : c ≡ b + length (numbers_bytes tail) = cc in
          let k = ap length third ∙ put-length out₂ b (numbers_bytes tail) tail_fits in
          let i = ap length second ∙ put-length out₁ a body body-fits in
          let j = ap length first ∙ put-length out at (numbers_bytes head) (omega arith) in
          let f : c + length ech ≤ length out₃ = omega arith in
          let g : c + length ech ≡ at + length (parts_bytes head body tail ech) = omega arith in
          let o : c ≡ a + length body + length (numbers_bytes tail) = omega arith in (
            answer ∙ sym (room out₃ c ech f).0 ∙ ap placed g ∙ (room out at (parts_bytes head body tail ech) fits).0,
            parts-put out at head body tail ech fits n first second o (rw e at third) fourth,
          )

-- what was put, by another name of its bytes
pub put_as : (out : List ℕ) (at : ℕ) {xs ys : List ℕ} {w : Placed} {left : List ℕ} → xs ≡ ys
    → w ≡ put_answer out at xs → left ≡ put_bytes out at xs → record { answer : w ≡ put_answer out at ys; bytes : left ≡ put_bytes out at ys }
put_as out at e a b = record { answer = a ∙ ap (put_answer out at) e; bytes = b ∙ ap (put_bytes out at) e }

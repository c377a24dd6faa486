-- What is written is read back, field by field and over any item.
--     There, there-*        bytes that stand at a place of a body, and their parts
--     number-back, limited-back, bytes_back, span-back, byte-back   numbers and raw bytes
--     Back                  reading gives a value that is right, and ends after the bytes
--     items_back, counted_back   items in a row
use mathlib.Core.Path.{◌≡◌, refl, sym, ap, subst, ◌∙◌}
use mathlib.Core.List.{List, [], ◌∷◌, ◌++◌, map, append_assoc}
use Prim.Native.Nat.{ℕ, suc, ◌+◌, ◌-◌, ◌^◌, ◌≤◌, ◌<◌}
use native.Mathlib.Omega.{arith}
use lib.ListN.{length, get_or, take, drop, length-append, length-drop}
use lib.Seq.{drop-drop, drop-append_seam, take-append_seam, get_or-drop}
use borrow.Author.Tests.{le-leb}
use Rattle.numbers.specs.Got.{got}
use Rattle.numbers.specs.Fields.{at_most, bytes_at, span_bytes}
use Rattle.numbers.specs.Numbers.{read_number, number_bytes}
use Rattle.numbers.specs.Refusals.{too_many}
use Rattle.numbers.proofs.RoundTrip.{read-shortest}
use Rattle.numbers.proofs.Steps.{at-most, whole}
use Rattle.records.specs.Lists.{each}
use Rattle.parts.specs.Reading.{Reading, read, next, field}
use Rattle.parts.specs.Items.{items, past, counted, found, listed}
use Rattle.parts.specs.declared.address.Items.{Items}
use Rattle.parts.proofs.Steps.{went_on, on-field}
use Rattle.parts.proofs.Items.{items_more}
use Rattle.parts.specs.Written.{row_bytes, All}

pub append-none : {A : Type 0} (l : List A) → l ≡ l ++ []
append-none [] = refl
append-none (x ∷ l) = ap (λ t. x ∷ t) (append-none l)

pub record There (s : List ℕ) (p : ℕ) (bs : List ℕ) : Type 0 where
  pub rest : List ℕ
  pub inside : p ≤ length s
  pub here : drop p s ≡ bs ++ rest

pub there-all : (s : List ℕ) → There s 0 s
there-all s = record { rest = []; inside = omega arith; here = append-none s }

module _ (s : List ℕ) (p : ℕ) where
  pub there-length : (bs : List ℕ) → There s p bs → p + length bs ≤ length s
  there-length bs t =
      let e : length s - p ≡ length bs + length t.rest = sym (length-drop p s) ∙ ap length t.here ∙ length-append bs t.rest in
      omega (arith, e, t.inside)

  module _ (b c : List ℕ) (t : There s p (b ++ c)) where
    pub there-left : There s p b
    there-left = record { rest = c ++ t.rest; inside = t.inside; here = t.here ∙ append_assoc b c t.rest }

    pub there-right : There s (p + length b) c
    unfolding there-left
    there-right = record {
      rest = t.rest;
      inside = there-length b there-left;
      here = sym (drop-drop (length b) p s) ∙ ap (drop (length b)) there-left.here ∙ drop-append_seam b (c ++ t.rest);
    }

  pub number-back : (n : ℕ) → n < 2 ^ 64 → There s p (number_bytes n) → got n (p + length (number_bytes n)) ≡ read_number s p
  unfolding read_number number_bytes
  number-back n h t = rw t.here (sym (read-shortest 9 n p t.rest h))

  pub most-back : (limit m n : ℕ) → n ≤ limit → limit < 2 ^ 64 → There s p (number_bytes n) → got n (p + length (number_bytes n)) ≡ at_most limit m (read_number s p)
  most-back limit m n h l t = at-most limit m n (p + length (number_bytes n)) (number-back n (omega arith) t) h

  pub limited-back : (limit m n : ℕ) → n ≤ limit → limit < 2 ^ 64 → There s p (number_bytes n) → read n (p + length (number_bytes n)) ≡ field p (at_most limit m (read_number s p))
  limited-back limit m n h l t = on-field p (most-back limit m n h l t)

  module _ (bs : List ℕ) (t : There s p bs) where
    pub bytes_back : got (record { start = p; len = length bs }) (p + length bs) ≡ bytes_at s (length bs) p
    bytes_back = whole s (length bs) p (there-length bs t)

    pub span-back : span_bytes s (record { start = p; len = length bs }) ≡ bs
    span-back = ap (take (length bs)) t.here ∙ take-append_seam bs t.rest

    pub byte-back : (i : ℕ) → get_or s (p + i) 0 ≡ get_or (bs ++ t.rest) i 0
    byte-back i = sym (get_or-drop p s i 0) ∙ ap (λ l. get_or l i 0) t.here

-- what is read is right, and ends after the bytes
pub record Back {A : Type 0} (r : Reading A) (end : ℕ) (Right : A → Type 0) : Type 0 where
  pub value : A
  pub reads : read value end ≡ r
  pub right : Right value

-- two lists, member by member
unfoldable pub Each : {A B : Type 0} → (A → B → Type 0) → List A → List B → Type 0
Each R [] [] = Unit {0}
Each R [] (x ∷ xs) = ⊥
Each R (a ∷ vs) [] = ⊥
Each R (a ∷ vs) (x ∷ xs) = R a x × Each R vs xs

module _ {A B : Type 0} (R : A → B → Type 0) where
  pub each-length : (vs : List A) (xs : List B) → Each R vs xs → length vs ≡ length xs
  unfolding Each
  each-length [] [] e = refl
  each-length [] (x ∷ xs) e = absurd e
  each-length (a ∷ vs) [] e = absurd e
  each-length (a ∷ vs) (x ∷ xs) e = ap suc (each-length vs xs e.1)

  pub each_map : {C : Type 0} (g : A → C) (h : B → C) → ((a : A) (x : B) → R a x → g a ≡ h x) → (vs : List A) (xs : List B) → Each R vs xs → map g vs ≡ map h xs
  unfolding Each
  each_map g h k [] [] e = refl
  each_map g h k [] (x ∷ xs) e = absurd e
  each_map g h k (a ∷ vs) [] e = absurd e
  each_map g h k (a ∷ vs) (x ∷ xs) e = rw (k a x e.0) (ap (λ l. h x ∷ l) (each_map g h k vs xs e.1))

  module _ (f : ℕ → Reading A) (s : List ℕ) (w : B → List ℕ) (Ok : B → Type 0)
      (one : (p : ℕ) (x : B) → Ok x → There s p (w x) → Back (f p) (p + length (w x)) (λ a. R a x)) where
    pub items_back : (l : List B) (p : ℕ) → All Ok l → There s p (each w l) → Back (items f (length l) p) (p + length (each w l)) (λ vs. Each R vs l)
    unfolding items each All Each
    items_back [] p ok t = record { value = []; reads = let e : p + 0 ≡ p = omega arith in ap (read []) e; right = tt }
    items_back (x ∷ xs) p ok t =
        let a = one p x ok.0 (there-left s p (w x) (each w xs) t) in
        let b = items_back xs (p + length (w x)) ok.1 (there-right s p (w x) (each w xs) t) in
        let e : p + length (w x) + length (each w xs) ≡ p + length (w x ++ each w xs) = omega (arith, length-append (w x) (each w xs)) in
        record {
          value = a.value ∷ b.value;
          reads = ap (read (a.value ∷ b.value)) (sym e) ∙ went_on (λ l end. read (a.value ∷ l) end) b.value (p + length (w x) + length (each w xs)) b.reads ∙ sym (items_more f (length xs) p a.reads);
          right = (a.right, b.right);
        }

    module _ (most : ℕ) (l : List B) (p : ℕ) (few : length l ≤ most) (small : most < 2 ^ 64) (ok : All Ok l) (t : There s p (row_bytes w l)) where
      pub counted_back : Back (counted most f s p) (p + length (row_bytes w l)) (λ it. (it.count ≡ length l) × Each R (listed most f it) l)
      unfolding counted listed row_bytes
      counted_back =
          let n = number_bytes (length l) in
          let first = p + length n in
          let b = items_back l first ok (there-right s p n (each w l) t) in
          let end = first + length (each w l) in
          let e : end ≡ p + length (n ++ each w l) = omega (arith, length-append n (each w l)) in
          let it : Items = record { count = length l; first = first } in
          let c = limited-back s p most too_many (length l) few small (there-left s p n (each w l) t) in
          record {
            value = it;
            reads = ap (read it) (sym e) ∙ went_on (λ u end. read it end) tt end (ap past b.reads) ∙ went_on (λ n first. next (past (items f n first)) (λ u end. read (record { count = n; first = first }) end)) (length l) first c;
            right = (refl, rw (le-leb (length l) most few) (subst (λ r. Each R (found r) l) b.reads b.right));
          }

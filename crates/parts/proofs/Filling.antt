-- A second pass stores items in a row, one after the other, into a room of zeros; over any item, and what is stored of it.
--     fill_more, fill_fault, fill_done   a loop that stores: one item more, one refused, none left
--     fill_none, fill_all                what was refused, or stored, is what is listed
--     fill_start, fill_end               at the start of a loop that counts its items, and after the last; nothing cites these now, and docs/PORT.md names them
--     fill-over                          more items than there is room for
use mathlib.Core.Path.{◌≡◌, refl, sym, ap, ◌∙◌}
use mathlib.Core.List.{List, [], ◌∷◌, ◌++◌, map}
use Prim.Native.Nat.{ℕ, zero, suc, ◌+◌, ◌-◌, ◌≤◌, ◌<◌}
use native.Mathlib.Nat.{zero-add}
use native.Mathlib.Numerals.{add-one}
use native.Mathlib.Omega.{arith}
use lib.ListN.{length, drop, set, replicate, length-replicate, length-map}
use lib.Seq.{sets, sets-eq}
use borrow.Author.Tests.{le-leb, lt-leb}
use Rattle.records.specs.Lists.{padded}
use Rattle.parts.specs.Reading.{Reading, read, fault, next}
use Rattle.parts.specs.Items.{items, found, listed}
use Rattle.parts.specs.Filling.{stored}
use Rattle.parts.specs.declared.address.Items.{Items}
use Rattle.parts.proofs.Items.{items_more, items-none, items-length}

pub drop-zeros : {A : Type 0} (z : A) (k n : ℕ) → drop k (replicate n z) ≡ replicate (n - k) z
drop-zeros z zero n = let e : n - 0 ≡ n = omega arith in rw e
drop-zeros z (suc k) zero = let e : 0 - suc k ≡ 0 = omega arith in rw e
drop-zeros z (suc k) (suc n) = let e : suc n - suc k ≡ n - k = omega arith in rw e (drop-zeros z k n)

pub sets-padded : {A : Type 0} (z : A) (n : ℕ) (l : List A) → length l ≤ n → sets (replicate n z) 0 l ≡ padded n z l
unfolding padded
sets-padded z n l h =
    let e : 0 + length l ≡ length l = zero-add (length l) in
    sets-eq l (replicate n z) 0 (rw (e, length-replicate) h)
    ∙ ap (λ k. l ++ drop k (replicate n z)) e
    ∙ ap (λ r. l ++ r) (drop-zeros z (length l) n)

module _ {A B : Type 0} (g : A → B) where
  stored-tail : (out : List B) (i : ℕ) (a : A) (r : Reading (List A)) → stored g out i (next r (λ l end. read (a ∷ l) end)) ≡ stored g (set out i (g a)) (i + 1) r
  stored-tail out i a (read l end) = rw add-one
  stored-tail out i a (fault n p) = refl

  module _ (f : ℕ → Reading A) (n : ℕ) (out : List B) (i p : ℕ) (w : Reading (List B)) (h : stored g out i (items f (n - i) p) ≡ w) where
    pub fill_more : i < n → {a : A} {q : ℕ} → read a q ≡ f p → stored g (set out i (g a)) (i + 1) (items f (n - (i + 1)) q) ≡ w
    fill_more l {a} {q} e =
        let k : n - i ≡ suc (n - (i + 1)) = omega arith in
        sym (stored-tail out i a (items f (n - (i + 1)) q)) ∙ ap (stored g out i) (sym (items_more f (n - (i + 1)) p e)) ∙ (rw k at h)

    pub fill_fault : i < n → (x y : ℕ) → fault x y ≡ f p → fault x y ≡ w
    fill_fault l x y e =
        let k : n - i ≡ suc (n - (i + 1)) = omega arith in
        ap (stored g out i) (sym (items-none f (n - (i + 1)) p x y e)) ∙ (rw k at h)

    pub fill_done : n ≤ i → read out p ≡ w
    unfolding items
    fill_done l = let k : n - i ≡ 0 = omega arith in (rw k at h)

  module _ (f : ℕ → Reading A) (l : Items) (m : ℕ) (few : l.count ≤ m) (z : B) where
    none_found : {x y : ℕ} → fault x y ≡ stored g (replicate m z) 0 (items f l.count l.first) → (r : Reading (List A)) → items f l.count l.first ≡ r → found r ≡ []
    none_found u (read t end) w = let v = u ∙ ap (stored g (replicate m z) 0) w in absurd (let y : ◌≡◌ {A = ℕ} 0 1 = cc in omega arith)
    none_found u (fault n q) w = refl

    pub fill_none : {x y : ℕ} → fault x y ≡ stored g (replicate m z) 0 (items f l.count l.first) → listed m f l ≡ []
    unfolding listed
    fill_none u = rw (le-leb l.count m few) (none_found u (items f l.count l.first) refl)

    all_found : {out : List B} {p : ℕ} → read out p ≡ stored g (replicate m z) 0 (items f l.count l.first) → (r : Reading (List A)) → items f l.count l.first ≡ r
        → (l.count ≡ length (found r)) × (out ≡ padded m z (map g (found r)))
    all_found {out} u (read t end) e =
        let long : length t ≡ l.count = items-length f l.count l.first t end e in
        let v = u ∙ ap (stored g (replicate m z) 0) e in
        let y : out ≡ sets (replicate m z) 0 (map g t) = cc in
        (sym long, y ∙ sets-padded z m (map g t) (rw length-map (omega (arith, long))))
    all_found u (fault n q) e = let v = u ∙ ap (stored g (replicate m z) 0) e in absurd (let y : ◌≡◌ {A = ℕ} 0 1 = cc in omega arith)

    pub fill_all : {out : List B} {p : ℕ} → read out p ≡ stored g (replicate m z) 0 (items f l.count l.first) → (l.count ≡ length (listed m f l)) × (out ≡ padded m z (map g (listed m f l)))
    unfolding listed
    fill_all u = rw (le-leb l.count m few) (all_found u (items f l.count l.first) refl)

module _ {A B : Type 0} (g : A → B) (f : ℕ → Reading A) where
  pub fill_start : (n first : ℕ) (out : List B) → stored g out 0 (items f (n - 0) first) ≡ stored g out 0 (items f n first)
  fill_start n first out = let e : n - 0 ≡ n = omega arith in rw e

  module _ (l : Items) (m : ℕ) (few : l.count ≤ m) (z : B) (i p : ℕ) (out : List B)
      (h : stored g out i (items f (l.count - i) p) ≡ stored g (replicate m z) 0 (items f l.count l.first)) where
    pub fill_end : l.count ≤ i → (l.count ≡ length (listed m f l)) × (out ≡ padded m z (map g (listed m f l)))
    fill_end b = fill_all g f l m few z (fill_done g f l.count out i p (stored g (replicate m z) 0 (items f l.count l.first)) h b)

pub fill-over : {A : Type 0} (f : ℕ → Reading A) (m : ℕ) (l : Items) → m < l.count → listed m f l ≡ []
unfolding listed
fill-over f m l h = rw (lt-leb l.count m h)

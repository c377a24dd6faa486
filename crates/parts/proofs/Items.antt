-- Items read in a row, over any item.
--     items_more, items-none           the first of the items that are left
--     items-length                     as many as were asked for
--     items-all                        what is so of each item that is read
--     listed-few                       what is listed fits its room
--     pass-start, -more, -none, -end   a loop that keeps the place only: at its start, one item more, one refused, none left
--     Row, counted-row                 what a count and its items are known by: all read, and at most so many
use mathlib.Core.Path.{◌≡◌, refl, sym, ap, subst, ◌∙◌}
use mathlib.Core.Bool.{Bool, true, false, cond}
use mathlib.Core.List.{List, [], ◌∷◌}
use Prim.Native.Nat.{ℕ, zero, suc, ◌+◌, ◌-◌, ◌≤◌, ◌<◌}
use native.Mathlib.Omega.{arith}
use lib.Dec.{leb as nat_le}
use lib.ListN.{length}
use borrow.Author.Tests.{leb-true, le-leb}
use Rattle.numbers.specs.Fields.{at_most}
use Rattle.numbers.specs.Numbers.{read_number}
use Rattle.numbers.specs.Refusals.{too_many}
use Rattle.parts.specs.Reading.{Reading, read, fault, next, field}
use Rattle.parts.specs.Items.{items, past, counted, found, listed}
use Rattle.parts.specs.Written.{All}
use Rattle.parts.specs.declared.address.Items.{Items}
use Rattle.parts.proofs.Steps.{then-read, field-read, within}

past-tail : {A : Type 0} (a : A) (r : Reading (List A)) → past (next r (λ l end. read (a ∷ l) end)) ≡ past r
past-tail a (read l end) = refl
past-tail a (fault n p) = refl

module _ {A : Type 0} (f : ℕ → Reading A) where
  pub items_more : (k p : ℕ) {a : A} {q : ℕ} → read a q ≡ f p → items f (suc k) p ≡ next (items f k q) (λ l end. read (a ∷ l) end)
  unfolding items
  items_more k p {a} {q} e = sym (ap (λ r. next r (λ a q. next (items f k q) (λ l end. read (a ∷ l) end))) e)

  pub items-none : (k p n m : ℕ) → fault n m ≡ f p → items f (suc k) p ≡ fault n m
  unfolding items
  items-none k p n m e = sym (ap (λ r. next r (λ a q. next (items f k q) (λ l end. read (a ∷ l) end))) e)

  pub items-length : (n p : ℕ) (l : List A) (end : ℕ) → items f n p ≡ read l end → length l ≡ n
  unfolding items
  items-length zero p l end e = let x : [] ≡ l = cc in rw (← x) refl
  items-length (suc n) p l end e =
      let t = then-read (f p) (λ a q. next (items f n q) (λ l end. read (a ∷ l) end)) (sym e) in
      let u = then-read (items f n t.place) (λ l end. read (t.value ∷ l) end) t.rest in
      let x : t.value ∷ u.value ≡ l = let r = u.rest in cc in
      subst (λ l. length l ≡ suc n) x (ap suc (items-length n t.place u.value u.place (sym u.first)))

  pub pass-start : (n p : ℕ) → past (items f (n - 0) p) ≡ past (items f n p)
  pass-start n p = let e : n - 0 ≡ n = omega arith in rw e

  module _ (n i p : ℕ) (w : Reading (Unit {0})) (h : past (items f (n - i) p) ≡ w) where
    pub pass-more : i < n → {a : A} {q : ℕ} → read a q ≡ f p → past (items f (n - (i + 1)) q) ≡ w
    pass-more l {a} {q} e =
        let k : n - i ≡ suc (n - (i + 1)) = omega arith in
        sym (past-tail a (items f (n - (i + 1)) q)) ∙ ap past (sym (items_more (n - (i + 1)) p e)) ∙ (rw k at h)

    pub pass-none : i < n → (m q : ℕ) → fault m q ≡ f p → fault m q ≡ w
    pass-none l m q e =
        let k : n - i ≡ suc (n - (i + 1)) = omega arith in
        ap past (sym (items-none (n - (i + 1)) p m q e)) ∙ (rw k at h)

    pub pass-end : n ≤ i → read tt p ≡ w
    unfolding items
    pass-end l = let k : n - i ≡ 0 = omega arith in (rw k at h)

past-read : {A : Type 0} (r : Reading (List A)) {t : Unit {0}} {end : ℕ} → read t end ≡ past r → r ≡ read (found r) end
past-read (read l q) {t} {end} e = let x : end ≡ q = cc in rw x refl
past-read (fault n p) e = absurd (let z : ◌≡◌ {A = ℕ} 0 1 = cc in omega arith)

-- items that a first pass took: they can be read again, and end where they ended
pub record Row {A : Type 0} (most : ℕ) (f : ℕ → Reading A) (l : Items) (end : ℕ) : Type 0 where
  pub few : l.count ≤ most
  pub all : items f l.count l.first ≡ read (listed most f l) end

module _ {A : Type 0} (most : ℕ) (f : ℕ → Reading A) (s : List ℕ) where
  row : (n first : ℕ) → n ≤ most → {l : Items} {end : ℕ} → read l end ≡ next (past (items f n first)) (λ t end. read (record { count = n; first = first }) end) → Row most f l end
  unfolding listed
  row n first b {l} {end} e =
      let u = then-read (past (items f n first)) (λ t end. read (record { count = n; first = first }) end) e in
      let x : record { count = n; first = first } ≡ l = let r = u.rest in cc in
      let y : u.place ≡ end = let r = u.rest in cc in
      let z : items f n first ≡ read (found (items f n first)) end = past-read (items f n first) u.first ∙ ap (read (found (items f n first))) y in
      subst (λ l. Row most f l end) x (record { few = b; all = rw (le-leb n most b) z })

  pub counted-row : (p : ℕ) {l : Items} {end : ℕ} → read l end ≡ counted most f s p → Row most f l end
  unfolding counted
  counted-row p {l} {end} e =
      let t = then-read (field p (at_most most too_many (read_number s p))) (λ n first. next (past (items f n first)) (λ t end. read (record { count = n; first = first }) end)) e in
      row t.value t.place (within most too_many (read_number s p) (field-read p (at_most most too_many (read_number s p)) t.first)) t.rest

pub items-all : {A : Type 0} (f : ℕ → Reading A) (Q : A → Type 0) → ((p : ℕ) (a : A) (q : ℕ) → read a q ≡ f p → Q a)
    → (n p : ℕ) (l : List A) (end : ℕ) → items f n p ≡ read l end → All Q l
unfolding items All
items-all f Q one zero p l end e = let x : [] ≡ l = cc in subst (All Q) x tt
items-all f Q one (suc n) p l end e =
    let t = then-read (f p) (λ a q. next (items f n q) (λ l end. read (a ∷ l) end)) (sym e) in
    let u = then-read (items f n t.place) (λ l end. read (t.value ∷ l) end) t.rest in
    let x : t.value ∷ u.value ≡ l = let r = u.rest in cc in
    subst (All Q) x (one p t.value t.place t.first, items-all f Q one n t.place u.value u.place (sym u.first))

-- items that are listed are at most as many as there is room for
module _ {A : Type 0} (most : ℕ) (f : ℕ → Reading A) where
  found-few : (n p : ℕ) (r : Reading (List A)) → items f n p ≡ r → length (found r) ≤ n
  found-few n p (read l end) e = omega (arith, items-length f n p l end e)
  found-few n p (fault m q) e = omega arith

  few-cases : (n p : ℕ) (t : Bool) → nat_le n most ≡ t → length (cond t (found (items f n p)) []) ≤ most
  few-cases n p true e = omega (arith, leb-true n most e, found-few n p (items f n p) refl)
  few-cases n p false e = omega arith

  pub listed-few : (l : Items) → length (listed most f l) ≤ most
  unfolding listed
  listed-few l = few-cases l.count l.first (nat_le l.count most) refl

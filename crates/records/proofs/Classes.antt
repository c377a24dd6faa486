-- Two places are of one class exactly if they are the same, for any equivalence of the places of a table of any size; how the classes are found.
use Prim.Native.Nat.{ℕ, zero, suc, ◌+◌, ◌-◌, ◌≤◌, ◌<◌}
use mathlib.Core.Path.{◌≡◌, refl, sym, ap, ◌∙◌}
use mathlib.Core.Bool.{Bool, true, false, cond}
use mathlib.Core.List.{List, [], ◌∷◌, ◌++◌}
use native.Mathlib.Omega.{arith}
use native.Mathlib.Decide.{dec_lt}
use lib.Dec.{eqb as nat_eq}
use lib.ListN.{length, take, drop, replicate, get_or, set}
use Rattle.std.proofs.lemmas.List.{take_more_set, take-append-drop, length-take-le}
use borrow.Author.Tests.{eq-eqb, eqb-true, lt-ltb, le-ltb}
use Rattle.records.specs.Lists.{cell, padded}
use Rattle.records.specs.Names.{name_bytes, name_bytes_at, name_at, no_name, blank_name, same_name, same_at}
use Rattle.records.specs.Classes.{first_from, class_of, classes_from, same_names, class_at, same_class}
use Rattle.records.specs.declared.names.Names.{Names}
use Rattle.records.proofs.Bytes.{other_length}
use Rattle.records.proofs.SameName.{Equivalence, same-name, by_bytes}

-- looking for the first that passes, one place a turn
pub first_here : (test : ℕ → Bool) (i n : ℕ) → i < n → test i ≡ true → first_from test i (n - i) ≡ i
unfolding first_from
first_here test i n h t = let e : n - i ≡ suc (n - (i + 1)) = omega arith in rw (e, t)

pub first_next : (test : ℕ → Bool) (i n : ℕ) → i < n → test i ≡ false → first_from test (i + 1) (n - (i + 1)) ≡ first_from test i (n - i)
unfolding first_from
first_next test i n h t = let e : n - i ≡ suc (n - (i + 1)) = omega arith in rw (e, t)

pub first_end : (test : ℕ → Bool) (i n : ℕ) → n ≤ i → first_from test i (n - i) ≡ i
unfolding first_from
first_end test i n h = let e : n - i ≡ 0 = omega arith in rw e

-- what is found passes, if one does
first_passes : (test : ℕ → Bool) (i n j : ℕ) → j < n → test (i + j) ≡ true → test (first_from test i n) ≡ true
unfolding first_from
first_passes test i zero j l t = absurd (omega arith)
first_passes test i (suc n) zero l t =
    let z : i + 0 ≡ i = omega arith in
    let e : true ≡ test i = sym t ∙ ap test z in
    ap (λ b. test (cond b i (first_from test (i + 1) n))) (sym e) ∙ sym e
first_passes test i (suc n) (suc j) l t = let w : i + 1 + j ≡ i + suc j = omega arith in go (test i) refl (first_passes test (i + 1) n j (omega arith) (ap test w ∙ t))
  where
    go : (b : Bool) → test i ≡ b → test (first_from test (i + 1) n) ≡ true → test (cond b i (first_from test (i + 1) n)) ≡ true
    go true e later = e
    go false e later = later

-- tests that agree find the same
first-same : (f g : ℕ → Bool) (i n : ℕ) → ((k : ℕ) → f k ≡ g k) → first_from f i n ≡ first_from g i n
unfolding first_from
first-same f g i zero e = refl
first-same f g i (suc n) e = rw (e i, first-same f g (i + 1) n e)

-- what is found is the class
pub found_here : (n : ℕ) (same : ℕ → ℕ → Bool) (p q : ℕ) → same n p ≡ false → q < n → same q p ≡ true → first_from (λ k. same k p) q (n - q) ≡ first_from (λ k. same k p) 0 n → q ≡ class_of n same p
unfolding class_of
found_here n same p q e h t f = sym (first_here (λ k. same k p) q n h t) ∙ (f ∙ ap (λ b. cond b n (first_from (λ k. same k p) 0 n)) (sym e))

-- a place outside the table is the same as any other there
pub record Table (n : ℕ) (same : ℕ → ℕ → Bool) : Type 0 where
  pub alike : Equivalence same
  pub outside : (p : ℕ) → n ≤ p → same n p ≡ true

module _ (n : ℕ) (same : ℕ → ℕ → Bool) (t : Table n same) where
  -- a place is the same as its class
  class_same : (p : ℕ) → same (class_of n same p) p ≡ true
  unfolding class_of
  class_same p = go (same n p) refl
    where
      inside : same n p ≡ false → p < n
      inside e = elim (dec_lt p n) [ yes h ↦ h | no h ↦ absurd (let c : true ≡ false = sym (t.outside p (omega arith)) ∙ e in let z : ◌≡◌ {A = ℕ} 0 1 = cc in omega arith) ]

      go : (b : Bool) → same n p ≡ b → same (cond b n (first_from (λ k. same k p) 0 n)) p ≡ true
      go true e = e
      go false e = let z : 0 + p ≡ p = omega arith in first_passes (λ k. same k p) 0 n p (inside e) (ap (λ k. same k p) z ∙ t.alike.itself p)

  -- same places are seen as the same by all
  agree : (p q k : ℕ) → same p q ≡ true → same k p ≡ same k q
  agree p q k e = go (same k p) refl (same k q) refl
    where
      go : (b : Bool) → same k p ≡ b → (c : Bool) → same k q ≡ c → b ≡ c
      go true f true g = refl
      go true f false g = sym (t.alike.through k p q f e) ∙ g
      go false f true g = sym f ∙ t.alike.through k q p g (t.alike.back p q e)
      go false f false g = refl

  same_class_lem : (p q : ℕ) → same p q ≡ true → class_of n same p ≡ class_of n same q
  unfolding class_of
  same_class_lem p q e = rw (agree p q n e, first-same (λ k. same k p) (λ k. same k q) 0 n (λ k. agree p q k e))

  class-to-same : (p q : ℕ) → class_of n same p ≡ class_of n same q → same p q ≡ true
  class-to-same p q e = t.alike.through p (class_of n same p) q (t.alike.back (class_of n same p) p (class_same p)) (ap (λ k. same k q) e ∙ class_same q)

  pub by-class : (p q : ℕ) → nat_eq (class_of n same p) (class_of n same q) ≡ same p q
  by-class p q = go (same p q) refl (nat_eq (class_of n same p) (class_of n same q)) refl
    where
      go : (b : Bool) → same p q ≡ b → (c : Bool) → nat_eq (class_of n same p) (class_of n same q) ≡ c → c ≡ b
      go true e true f = refl
      go true e false f = sym f ∙ eq-eqb _ _ (same_class_lem p q e)
      go false e true f = sym (class-to-same p q (eqb-true _ _ f)) ∙ e
      go false e false f = refl

-- the classes of a table, place by place
pub classes-at : (n : ℕ) (same : ℕ → ℕ → Bool) (i m k : ℕ) → k < m → get_or (classes_from n same i m) k 0 ≡ class_of n same (i + k)
unfolding classes_from
classes-at n same i zero k l = absurd (omega arith)
classes-at n same i (suc m) zero l = let z : i ≡ i + 0 = omega arith in ap (class_of n same) z
classes-at n same i (suc m) (suc k) l = let w : i + 1 + k ≡ i + suc k = omega arith in classes-at n same (i + 1) m k (omega arith) ∙ ap (class_of n same) w

classes-suc : (n : ℕ) (same : ℕ → ℕ → Bool) (i m : ℕ) → classes_from n same i (suc m) ≡ classes_from n same i m ++ (class_of n same (i + m) ∷ [])
unfolding classes_from
classes-suc n same i zero = let z : i ≡ i + 0 = omega arith in ap (λ k. class_of n same k ∷ []) z
classes-suc n same i (suc m) =
    let w : i + 1 + m ≡ i + suc m = omega arith in
    ap (λ l. class_of n same i ∷ l) (classes-suc n same (i + 1) m ∙ ap (λ k. classes_from n same (i + 1) m ++ (class_of n same k ∷ [])) w)

-- one place more of a table that is filled in order
pub classes_more : (n : ℕ) (same : ℕ → ℕ → Bool) (list : List ℕ) (p v : ℕ) → p < length list → take p list ≡ classes_from n same 0 p → v ≡ class_of n same p → take (p + 1) (set list p v) ≡ classes_from n same 0 (p + 1)
classes_more n same list p v h t e =
    let y : p ≡ 0 + p = omega arith in
    let z : suc p ≡ p + 1 = omega arith in
    take_more_set list p v h
    ∙ (ap (λ l. l ++ (v ∷ [])) t ∙ (ap (λ x. classes_from n same 0 p ++ (x ∷ [])) (e ∙ ap (class_of n same) y) ∙ (sym (classes-suc n same 0 p) ∙ ap (classes_from n same 0) z)))

-- a room that is filled in order up to a place, and has zeros from there on
pub filled : (n m : ℕ) (list xs : List ℕ) → m ≤ n → length list ≡ n → take m list ≡ xs → drop m list ≡ replicate (n - m) 0 → list ≡ padded n 0 xs
unfolding padded
filled n m list xs h l t d =
    let e : m ≡ length xs = sym (length-take-le m list (omega (arith, l))) ∙ ap length t in
    sym (take-append-drop m list) ∙ (ap (λ k. k ++ drop m list) t ∙ (ap (λ k. xs ++ k) d ∙ ap (λ k. xs ++ replicate (n - k) 0) e))

-- what the classes of a table say of a place; outside it the last number
pub class-is : (n : ℕ) (same : ℕ → ℕ → Bool) → Table n same → (p : ℕ) → cell n 0 n (classes_from n same 0 n) p ≡ class_of n same p
unfolding class_of
class-is n same t p = elim (dec_lt p n) [ yes h ↦ rw (lt-ltb _ _ h) (let z : 0 + p ≡ p = omega arith in classes-at n same 0 n p h ∙ ap (class_of n same) z) | no h ↦ rw (le-ltb p n (omega arith)) (out (omega arith)) ]
  where
    out : n ≤ p → n ≡ class_of n same p
    out h = ap (λ b. cond b n (first_from (λ k. same k p) 0 n)) (sym (t.outside p h))

-- A table of bytes: `held` is what the code reads at a place. It compares lengths first, and outside the table there are no bytes.
pub record Held (n : ℕ) (like : List ℕ → List ℕ → Bool) (same : ℕ → ℕ → Bool) (held : ℕ → List ℕ) : Type 0 where
  pub table : Table n same
  pub empty : (p : ℕ) → p < n → length (held p) ≡ 0 → same n p ≡ true
  pub full : (p : ℕ) → p < n → (length (held p) ≡ 0 → ⊥) → same n p ≡ false
  pub inside : (p : ℕ) → p < n → (q : ℕ) → q < n → like (held q) (held p) ≡ same q p
  pub apart : (p : ℕ) → p < n → (q : ℕ) → q < n → (length (held p) ≡ length (held q) → ⊥) → same q p ≡ false

empty_of : (x : List ℕ) → length x ≡ 0 → x ≡ []
empty_of [] e = refl
empty_of (a ∷ x) e = absurd (omega arith)

-- whatever the bytes are compared by, as long as it is an equivalence that tells lengths apart
pub held_bytes : (n : ℕ) (like : List ℕ → List ℕ → Bool) (at held : ℕ → List ℕ) → Equivalence like → ((x y : List ℕ) → (length x ≡ length y → ⊥) → false ≡ like x y)
    → ((p : ℕ) → n ≤ p → at p ≡ []) → ((p : ℕ) → p < n → at p ≡ held p) → Held n like (λ p q. like (at p) (at q)) held
held_bytes n like at held alike other out here =
    record {
      table = record { alike = by_bytes like alike at; outside = λ p h. rw (out p h, none) (alike.itself []) };
      empty = λ p h e. rw (none, here p h, empty_of (held p) e) (alike.itself []);
      full = λ p h e. rw (none, here p h) (sym (other [] (held p) (λ f. e (sym f))));
      inside = λ p h q k. rw (here p h, here q k);
      apart = λ p h q k e. rw (here p h, here q k) (sym (other (held q) (held p) (λ f. e (sym f))));
    }
  where
    none : at n ≡ []
    none = out n (omega arith)

-- Names
pub name-outside : (names : Names) (p : ℕ) → 14 ≤ p → name_bytes_at names p ≡ []
unfolding name_bytes name_at no_name
name-outside names p h = rw (le-ltb _ _ h)

pub name-inside : (names : Names) (p : ℕ) → p < 14 → name_bytes_at names p ≡ name_bytes (get_or names.list p blank_name)
unfolding name_at
name-inside names p h = rw (lt-ltb _ _ h)

other_name : (x y : List ℕ) → (length x ≡ length y → ⊥) → false ≡ same_name x y
unfolding same_name
other_name = other_length

pub names-held : (names : Names) → Held 14 same_name (same_at names) (λ p. name_bytes (get_or names.list p blank_name))
unfolding same_at
names-held names = held_bytes 14 same_name (name_bytes_at names) (λ p. name_bytes (get_or names.list p blank_name)) same-name other_name (name-outside names) (name-inside names)

name-class : (names : Names) (p : ℕ) → class_at (same_names names) p ≡ class_of 14 (same_at names) p
unfolding class_at same_names
name-class names p = class-is 14 (same_at names) (names-held names).table p

-- the classes of a table of names say what its bytes say
pub classes-same : (names : Names) → same_class (same_names names) ≡ same_at names
unfolding same_class
classes-same names = λ j p q. ((ap (λ k. nat_eq k (class_at (same_names names) q)) (name-class names p) ∙ ap (λ k. nat_eq (class_of 14 (same_at names) p) k) (name-class names q)) ∙ by-class 14 (same_at names) (names-held names).table p q) j

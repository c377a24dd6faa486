-- The HTTPS name keeps the name rule, and fits: `_PORT._https.` before an origin's name of at most 239 bytes.
use Prim.Native.Nat.{ℕ, zero, suc, ◌+◌, ◌/◌, ◌%◌, ◌<◌, ◌≤◌}
use mathlib.Core.Path.{◌≡◌, refl, sym, ap, ◌∙◌}
use mathlib.Core.Bool.{Bool, true, false, not, cond, ◌&&◌, ◌||◌}
use mathlib.Core.List.{List, [], ◌∷◌, ◌++◌, append_assoc}
use native.Mathlib.Nat.{mod-lt}
use native.Mathlib.Omega.{arith}
use lib.Dec.{eqb as nat_eq, ltb as nat_lt, leb as nat_le}
use lib.ListN.{length, length-append}
use borrow.Author.Tests.{le-leb, ne_eqb}
use Rattle.numbers.specs.Names.{every, between, is_digit, name_byte, dot, undotted, in_front, labels, last, label_ok, labels_ok, name_ok}
use Rattle.state.specs.Https.{decimal, https_label, prefixed}
use Rattle.standing.proofs.Lists.{no}

both : (a b : Bool) → a ≡ true → b ≡ true → (a && b) ≡ true
both a b e f = rw (e, f)

first : (a b : Bool) → (a && b) ≡ true → a ≡ true
first true b h = refl
first false b h = h

second : (a b : Bool) → (a && b) ≡ true → b ≡ true
second true b h = h
second false b h = absurd (no h)

every-join : (p : ℕ → Bool) (a b : List ℕ) → every p a ≡ true → every p b ≡ true → every p (a ++ b) ≡ true
unfolding every
every-join p [] b g h = h
every-join p (x ∷ a) b g h = both (p x) (every p (a ++ b)) (first (p x) (every p a) g) (every-join p a b (second (p x) (every p a) g) h)

-- the digits of a port
digits-pass : (p : ℕ → Bool) → ((d : ℕ) → d < 10 → p (48 + d) ≡ true) → (n x : ℕ) → every p (decimal n x) ≡ true
unfolding decimal every
digits-pass p f zero x = refl
digits-pass p f (suc n) x = every-join p (cond (nat_lt x 10) [] (decimal n (x / 10))) ((48 + x % 10) ∷ []) (go (nat_lt x 10) (digits-pass p f n (x / 10))) (both (p (48 + x % 10)) true (f (x % 10) (mod-lt x (omega arith))) refl)
  where
    go : (b : Bool) → every p (decimal n (x / 10)) ≡ true → every p (cond b [] (decimal n (x / 10))) ≡ true
    go true g = refl
    go false g = g

pub digits-few : (n x : ℕ) → length (decimal n x) ≤ n
unfolding decimal
digits-few zero x = omega arith
digits-few (suc n) x = go (nat_lt x 10) (digits-few n (x / 10))
  where
    go : (b : Bool) → length (decimal n (x / 10)) ≤ n → length (cond b [] (decimal n (x / 10)) ++ ((48 + x % 10) ∷ [])) ≤ suc n
    go true g = omega arith
    go false g = omega (arith, length-append (decimal n (x / 10)) ((48 + x % 10) ∷ []))

or-third : (a b c d : Bool) → c ≡ true → (a || (b || (c || d))) ≡ true
or-third true b c d e = refl
or-third false true c d e = refl
or-third false false c d e = rw e

digit-byte : (d : ℕ) → d < 10 → name_byte (48 + d) ≡ true
unfolding name_byte is_digit between
digit-byte d b = or-third (nat_le 97 (48 + d) && nat_le (48 + d) 122) (nat_le 65 (48 + d) && nat_le (48 + d) 90) (nat_le 48 (48 + d) && nat_le (48 + d) 57) (nat_eq (48 + d) 45 || nat_eq (48 + d) 95) (both _ _ (le-leb 48 (48 + d) (omega arith)) (le-leb (48 + d) 57 (omega arith)))

digit-no-dot : (d : ℕ) → d < 10 → not (nat_eq (48 + d) dot) ≡ true
digit-no-dot d b = ap not (ne_eqb (48 + d) 46 (λ e. omega arith))

-- a first label, and the rest
label-first : (l s : List ℕ) → every (λ b. not (nat_eq b dot)) l ≡ true → labels (l ++ dot ∷ s) ≡ l ∷ labels s
unfolding labels every in_front
label-first [] s h = refl
label-first (b ∷ l) s h =
    go (nat_eq b dot) (first (not (nat_eq b dot)) (every (λ c. not (nat_eq c dot)) l) h) (label-first l s (second (not (nat_eq b dot)) (every (λ c. not (nat_eq c dot)) l) h))
  where
    go : (c : Bool) → not c ≡ true → labels (l ++ dot ∷ s) ≡ l ∷ labels s → cond c ([] ∷ labels (l ++ dot ∷ s)) (in_front b (labels (l ++ dot ∷ s))) ≡ (b ∷ l) ∷ labels s
    go true e f = absurd (no e)
    go false e f = ap (in_front b) f

some-label : (s : List ℕ) → 0 < length (labels s)
unfolding labels in_front
some-label [] = omega arith
some-label (b ∷ s) = go (nat_eq b dot) (labels s)
  where
    go : (c : Bool) (ls : List (List ℕ)) → 0 < length (cond c ([] ∷ ls) (in_front b ls))
    go true ls = omega arith
    go false [] = omega arith
    go false (l ∷ ls) = omega arith

-- one more label before the others
label-more : (l : List ℕ) (ls : List (List ℕ)) → label_ok l ≡ true → 0 < length ls → labels_ok ls ≡ true → labels_ok (l ∷ ls) ≡ true
unfolding labels_ok every last
label-more l ls e b h =
    let f = first (every label_ok ls) (not (every is_digit (last ls))) h in
    let g = second (every label_ok ls) (not (every is_digit (last ls))) h in
    rw (ne_eqb (length ls) 0 (λ n. omega arith)) (both (label_ok l && every label_ok ls) (not (every is_digit (last ls))) (both (label_ok l) (every label_ok ls) e f) g)

-- the dot at the end is dropped from what stands last
undotted-behind : (a s : List ℕ) → 0 < length s → undotted (a ++ s) ≡ a ++ undotted s
unfolding undotted
undotted-behind [] s b = refl
undotted-behind (x ∷ a) s b = rw (ne_eqb (length (a ++ s)) 0 (λ f. omega (arith, length-append a s)), undotted-behind a s b) (go (nat_eq x dot))
  where
    go : (c : Bool) → cond (c && false) [] (x ∷ (a ++ undotted s)) ≡ x ∷ (a ++ undotted s)
    go true = refl
    go false = refl

pub name-there : (s : List ℕ) → name_ok s ≡ true → 0 < length s
unfolding name_ok undotted labels labels_ok every label_ok
name-there [] h = absurd (no h)
name-there (b ∷ s) h = omega arith

-- the two labels of the prefix
module _ (port : ℕ) where
  abbrev port_label : List ℕ
  port_label = 95 ∷ decimal 5 port

  abbrev https : List ℕ
  https = 95 ∷ 104 ∷ 116 ∷ 116 ∷ 112 ∷ 115 ∷ []

  port-ok : label_ok port_label ≡ true
  unfolding label_ok every name_byte is_digit between
  port-ok = both _ _ (both _ _ (le-leb 1 (suc (length (decimal 5 port))) (omega arith)) (le-leb (suc (length (decimal 5 port))) 63 (omega (arith, digits-few 5 port)))) (digits-pass name_byte digit-byte 5 port)

  port-no-dot : every (λ b. not (nat_eq b dot)) port_label ≡ true
  unfolding every
  port-no-dot = digits-pass (λ b. not (nat_eq b dot)) digit-no-dot 5 port

  https-ok : label_ok https ≡ true
  unfolding label_ok every name_byte is_digit between
  https-ok = refl

  https-no-dot : every (λ b. not (nat_eq b dot)) https ≡ true
  unfolding every
  https-no-dot = refl

  spelled : (o : List ℕ) → prefixed port o ≡ port_label ++ dot ∷ (https ++ dot ∷ o)
  unfolding prefixed
  spelled o = ap (λ l. 95 ∷ l) (append_assoc (decimal 5 port) https_label o)

  pub prefix-ok : (o : List ℕ) → name_ok o ≡ true → name_ok (prefixed port o) ≡ true
  unfolding name_ok
  prefix-ok o h =
      let b = name-there o h in
      let e : undotted (prefixed port o) ≡ port_label ++ dot ∷ (https ++ dot ∷ undotted o) =
      ap undotted (spelled o ∙ sym (append_assoc port_label (dot ∷ (https ++ (dot ∷ []))) o)) ∙ undotted-behind (port_label ++ dot ∷ (https ++ (dot ∷ []))) o b ∙ append_assoc port_label (dot ∷ (https ++ (dot ∷ []))) (undotted o) in
      let l : labels (undotted (prefixed port o)) ≡ port_label ∷ https ∷ labels (undotted o) =
      ap labels e ∙ label-first port_label (https ++ dot ∷ undotted o) port-no-dot ∙ ap (λ x. port_label ∷ x) (label-first https (undotted o) https-no-dot) in
      rw l (label-more port_label (https ∷ labels (undotted o)) port-ok (omega arith) (label-more https (labels (undotted o)) https-ok (some-label (undotted o)) h))

  pub prefix-length : (o : List ℕ) → length (prefixed port o) ≤ 14 + length o
  prefix-length o = rw (spelled o) (omega (arith, digits-few 5 port, length-append (decimal 5 port) (dot ∷ (https ++ dot ∷ o))))

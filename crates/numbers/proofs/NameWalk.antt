-- The walk over a name says what the name rule says.
--     split            the labels of the rest of a name, where p stands of the label at hand; split-labels ties it to `labels`
--     bad-prefix       a label that is too long or has a byte that no name has spoils the whole
--     walked           the walk from a good prefix p is the rule over p and the rest; walk-rule: from the start
use mathlib.Core.Path.{◌≡◌, refl, sym, ap, ◌∙◌}
use mathlib.Core.Bool.{Bool, true, false, ◌&&◌, not, cond}
use mathlib.Core.List.{List, [], ◌∷◌, ◌++◌, append_assoc, append-nil}
use mathlib.Core.Logic.{⊎_elim}
use Prim.Native.Nat.{ℕ, suc, ◌+◌, ◌≤◌, ◌<◌}
use native.Mathlib.Omega.{arith}
use lib.Dec.{eqb as nat_eq, leb as nat_le, ltb as nat_lt}
use lib.ListN.{length, length-append}
use borrow.Author.Tests.{ne_eqb, le-leb, lt-leb, lt-ltb, le-ltb, ltb-true, ltb-false}
use Rattle.numbers.specs.Names.{every, dot, is_digit, name_byte, undotted, in_front, labels, last, label_ok, labels_ok, name_ok}
use Rattle.numbers.specs.Walk.{digit_of, walk}
use Rattle.numbers.proofs.Cases.{less-or-not}

-- the labels, with what stands of the first

split : List ℕ → List ℕ → List (List ℕ)
split p [] = p ∷ []
split p (b ∷ s) = cond (nat_eq b dot) (p ∷ split [] s) (split (p ++ (b ∷ [])) s)

-- p put in front of the first label
in_front_all : List ℕ → List (List ℕ) → List (List ℕ)
in_front_all p [] = p ∷ []
in_front_all p (l ∷ ls) = (p ++ l) ∷ ls

in-front-all : (p : List ℕ) (b : ℕ) (ls : List (List ℕ)) → in_front_all (p ++ (b ∷ [])) ls ≡ in_front_all p (in_front b ls)
unfolding in_front_all in_front
in-front-all p b [] = refl
in-front-all p b (l ∷ ls) = ap (λ (x : List ℕ). x ∷ ls) (append_assoc p (b ∷ []) l)

in-front-none : (ls : List (List ℕ)) → 0 < length ls → in_front_all [] ls ≡ ls
unfolding in_front_all
in-front-none [] h = absurd (omega arith)
in-front-none (l ∷ ls) h = refl

either-label : (t : Bool) (b : ℕ) (ls : List (List ℕ)) → 0 < length (cond t ([] ∷ ls) (in_front b ls))
unfolding in_front
either-label true b ls = omega arith
either-label false b [] = omega arith
either-label false b (l ∷ ls) = omega arith

some-label : (s : List ℕ) → 0 < length (labels s)
unfolding labels
some-label [] = omega arith
some-label (b ∷ s) = either-label (nat_eq b dot) b (labels s)

split_step : (t : Bool) (p : List ℕ) (b : ℕ) (s : List ℕ) → split [] s ≡ labels s → split (p ++ (b ∷ [])) s ≡ in_front_all (p ++ (b ∷ [])) (labels s)
    → cond t (p ∷ split [] s) (split (p ++ (b ∷ [])) s) ≡ in_front_all p (cond t ([] ∷ labels s) (in_front b (labels s)))
unfolding in_front_all
split_step true p b s here there = rw (append-nil, here) refl
split_step false p b s here there = there ∙ in-front-all p b (labels s)

split-front : (p s : List ℕ) → split p s ≡ in_front_all p (labels s)
unfolding split labels in_front_all
split-front p [] = ap (λ (x : List ℕ). x ∷ []) (sym (append-nil p))
split-front p (b ∷ s) = split_step (nat_eq b dot) p b s (split-front [] s ∙ in-front-none (labels s) (some-label s)) (split-front (p ++ (b ∷ [])) s)

split-labels : (s : List ℕ) → split [] s ≡ labels s
split-labels s = split-front [] s ∙ in-front-none (labels s) (some-label s)

-- tests over lists

and-false : (a : Bool) → a && false ≡ false
and-false true = refl
and-false false = refl

and_assoc : (a b c : Bool) → a && (b && c) ≡ (a && b) && c
and_assoc true b c = refl
and_assoc false b c = refl

every_append : (f : ℕ → Bool) (xs ys : List ℕ) → every f (xs ++ ys) ≡ every f xs && every f ys
unfolding every
every_append f [] ys = refl
every_append f (x ∷ xs) ys = rw (every_append f xs ys) (and_assoc (f x) (every f xs) (every f ys))

-- how many of the bytes are digits
digits_in : List ℕ → ℕ
digits_in [] = 0
digits_in (b ∷ s) = digit_of b + digits_in s

digits_append : (p : List ℕ) (b : ℕ) → digits_in (p ++ (b ∷ [])) ≡ digits_in p + digit_of b
unfolding digits_in
digits_append [] b = omega arith
digits_append (x ∷ p) b = let e = digits_append p b in omega arith

digits-at-most : (p : List ℕ) → digits_in p ≤ length p
unfolding digits_in digit_of
digits-at-most [] = omega arith
digits-at-most (b ∷ p) = one_more (is_digit b) (digits-at-most p)
  where
    one_more : (t : Bool) → digits_in p ≤ length p → cond t 1 0 + digits_in p ≤ length (b ∷ p)
    one_more true h = omega arith
    one_more false h = omega arith

digit-step : (t r : Bool) (d n : ℕ) → d ≤ n → nat_lt d n ≡ not r → nat_lt (cond t 1 0 + d) (suc n) ≡ not (t && r)
digit-step true r d n h e =
    ⊎_elim (λ (l : d < n). lt-ltb (1 + d) (suc n) (omega arith) ∙ sym (lt-ltb d n l) ∙ e)
    (λ (l : n ≤ d). le-ltb (1 + d) (suc n) (omega arith) ∙ sym (le-ltb d n l) ∙ e)
    (less-or-not d n)
digit-step false r d n h e = lt-ltb (0 + d) (suc n) (omega arith)

-- fewer digits than bytes: not all are digits
not-all-digits : (p : List ℕ) → nat_lt (digits_in p) (length p) ≡ not (every is_digit p)
unfolding digits_in every digit_of
not-all-digits [] = refl
not-all-digits (b ∷ p) = digit-step (is_digit b) (every is_digit p) (digits_in p) (length p) (digits-at-most p) (not-all-digits p)

-- what stands of a label: bytes of a name, no more than 63
record Good (p : List ℕ) : Type 0 where
  bytes : every name_byte p ≡ true
  size : length p ≤ 63

no_bytes : Good []
unfolding every
no_bytes = record { bytes = refl; size = omega arith }

good-label : (p : List ℕ) → Good p → label_ok p ≡ nat_lt 0 (length p)
unfolding label_ok
good-label [] g = refl
good-label (b ∷ p) g = simp (g.bytes, le-leb 1 (length (b ∷ p)) (omega arith), le-leb (length (b ∷ p)) 63 g.size)

good_more : (p : List ℕ) (b : ℕ) → Good p → name_byte b ≡ true → length p < 63 → Good (p ++ (b ∷ []))
unfolding every
good_more p b g t l = record { bytes = every_append name_byte p (b ∷ []) ∙ simp (g.bytes, t); size = simp length-append (omega arith) }

only-label : (p : List ℕ) → Good p → nat_lt (digits_in p) (length p) ≡ labels_ok (p ∷ [])
unfolding labels_ok every last label_ok digits_in
only-label [] g = refl
only-label (b ∷ p) g = not-all-digits (b ∷ p) ∙ rw (good-label (b ∷ p) g ∙ lt-ltb 0 (length (b ∷ p)) (omega arith)) refl

more-labels : (p : List ℕ) (ls : List (List ℕ)) → Good p → 0 < length ls → labels_ok (p ∷ ls) ≡ nat_lt 0 (length p) && labels_ok ls
unfolding labels_ok every last
more-labels p ls g h =
    rw (good-label p g, ne_eqb (length ls) 0 (λ e. omega arith)) (sym (and_assoc (nat_lt 0 (length p)) (every label_ok ls) (not (every is_digit (last ls)))))

-- a label that no further byte mends
Bad : List ℕ → Type 0
Bad p = (q : List ℕ) → label_ok (p ++ q) ≡ false

bad-now : (p : List ℕ) → Bad p → label_ok p ≡ false
unfolding Bad
bad-now p bad = sym (ap label_ok (append-nil p)) ∙ bad []

bad-step : (t : Bool) (p : List ℕ) (ls ms : List (List ℕ)) → label_ok p ≡ false → every label_ok ms ≡ false → every label_ok (cond t (p ∷ ls) ms) ≡ false
unfolding every
bad-step true p ls ms h i = simp h
bad-step false p ls ms h i = i

bad-prefix : (p u : List ℕ) → Bad p → every label_ok (split p u) ≡ false
unfolding split every Bad
bad-prefix p [] bad = simp (bad-now p bad)
bad-prefix p (b ∷ u) bad =
    bad-step (nat_eq b dot) p (split [] u) (split (p ++ (b ∷ [])) u) (bad-now p bad)
    (bad-prefix (p ++ (b ∷ [])) u (λ q. ap label_ok (append_assoc p (b ∷ []) q) ∙ bad (b ∷ q)))

bad-byte : (p : List ℕ) (b : ℕ) → name_byte b ≡ false → Bad (p ++ (b ∷ []))
unfolding Bad label_ok every
bad-byte p b h q = rw (every_append name_byte (p ++ (b ∷ [])) q, every_append name_byte p (b ∷ []), h, and-false (every name_byte p)) (and-false (nat_le 1 (length ((p ++ (b ∷ [])) ++ q)) && nat_le (length ((p ++ (b ∷ [])) ++ q)) 63))

bad-size : (p : List ℕ) (b : ℕ) → 63 ≤ length p → Bad (p ++ (b ∷ []))
unfolding Bad label_ok
bad-size p b h q = rw (lt-leb (length ((p ++ (b ∷ [])) ++ q)) 63 (simp length-append (omega arith)), and-false (nat_le 1 (length ((p ++ (b ∷ [])) ++ q)))) refl

spoiled : (p u : List ℕ) → Bad p → labels_ok (split p u) ≡ false
unfolding labels_ok
spoiled p u bad = simp (bad-prefix p u bad)

some-split : (p u : List ℕ) → 0 < length (split p u)
unfolding split
some-split p [] = omega arith
some-split p (b ∷ u) = either (nat_eq b dot) (some-split (p ++ (b ∷ [])) u)
  where
    either : (t : Bool) → 0 < length (split (p ++ (b ∷ [])) u) → 0 < length (cond t (p ∷ split [] u) (split (p ++ (b ∷ [])) u))
    either true h = omega arith
    either false h = h

-- the walk

-- the rest b ∷ s of a name after p, by what the tests of b and s say; the walk of s is known
step : (isdot end name room : Bool) (p s : List ℕ) (b : ℕ)
    → nat_eq b dot ≡ isdot → nat_eq (length s) 0 ≡ end → name_byte b ≡ name → nat_lt (length p) 63 ≡ room → Good p
    → walk 0 0 s ≡ labels_ok (split [] (undotted s))
    → (Good (p ++ (b ∷ [])) → walk (length p + 1) (digits_in p + digit_of b) s ≡ labels_ok (split (p ++ (b ∷ [])) (undotted s)))
    → walk (length p) (digits_in p) (b ∷ s) ≡ labels_ok (split p (undotted (b ∷ s)))
unfolding walk undotted split
step true true name room p s b d e n r g here there = rw (d, e) (only-label p g)
step true false name room p s b d e n r g here there = rw (d, e, here, d) (sym (more-labels p (split [] (undotted s)) g (some-split [] (undotted s))))
step false end true true p s b d e n r g here there = rw (d, n, r, d) (there (good_more p b g n (ltb-true (length p) 63 r)))
step false end true false p s b d e n r g here there = rw (d, n, r, d) (sym (spoiled (p ++ (b ∷ [])) (undotted s) (bad-size p b (ltb-false (length p) 63 r))))
step false end false room p s b d e n r g here there = rw (d, n, d) (sym (spoiled (p ++ (b ∷ [])) (undotted s) (bad-byte p b n)))

walked : (p s : List ℕ) → Good p → walk (length p) (digits_in p) s ≡ labels_ok (split p (undotted s))
unfolding walk undotted split digits_in
walked p [] g = only-label p g
walked p (b ∷ s) g =
    step (nat_eq b dot) (nat_eq (length s) 0) (name_byte b) (nat_lt (length p) 63) p s b refl refl refl refl g (walked [] s no_bytes)
    (λ h. rw (length-append p (b ∷ []), digits_append p b) at (walked (p ++ (b ∷ [])) s h))

pub walk-rule : (s : List ℕ) → walk 0 0 s ≡ name_ok s
unfolding name_ok digits_in every
walk-rule s = walked [] s no_bytes ∙ ap labels_ok (split-labels (undotted s))

-- Only the shortest form of a number is written, and only it is read.
--     written-form      what is written of a number is a form of it
--     others-longer     every other form of the number is longer
--     cut-exactly       Cut: the bytes do not start with the shortest form of a number of 64 bits, but some continuation of them does
--     bad-exactly       BadNumber: no continuation of the bytes does
use mathlib.Core.Path.{◌≡◌, refl, sym, ap, ◌∙◌}
use mathlib.Core.Logic.{⊎_elim, ◌⊎◌, inl, inr, ◌↔◌}
use mathlib.Core.List.{List, [], ◌∷◌, ◌++◌, append-nil}
use Prim.Native.Nat.{ℕ, zero, suc, ◌+◌, ◌*◌, ◌/◌, ◌%◌, ◌^◌, ◌<◌, ◌≤◌}
use native.Mathlib.Omega.{arith}
use lib.ListN.{length, get_or, drop}
use lib.Pow.{pow-add, pow_mono}
use lib.Seq.{get_or-drop}
use Rattle.numbers.specs.Forms.{value_of, bytes_of, FormOf, Starts}
use Rattle.numbers.specs.Got.{Got, got, refused}
use Rattle.numbers.specs.Numbers.{below, groups, read_number, shortest, number_bytes}
use Rattle.numbers.specs.Refusals.{cut, bad_number}
use Rattle.numbers.proofs.Cases.{less-or-not}
use Rattle.numbers.proofs.NumberLaws.{below-got, groups-end, groups-last, groups-tenth, groups-more}
use Rattle.numbers.proofs.RoundTrip.{wide, read-shortest, only-shortest}
use Rattle.numbers.proofs.WriteLaws.{shortest-last, shortest-suc}

-- what is written

seven-more : (g : ℕ) (gs : List ℕ) → g < 128 → ((i : ℕ) → get_or gs i 0 < 128) → (i : ℕ) → get_or (g ∷ gs) i 0 < 128
seven-more g gs h hs zero = h
seven-more g gs h hs (suc i) = hs i

bytes-more : (g : ℕ) (gs : List ℕ) → 0 < length gs → bytes_of (g ∷ gs) ≡ (128 + g) ∷ bytes_of gs
unfolding bytes_of
bytes-more g [] h = absurd (omega arith)
bytes-more g (x ∷ gs) h = refl

last-form : (k n : ℕ) → n < 128 → FormOf n (shortest k n)
unfolding value_of bytes_of
last-form k n h = record {
  parts = n ∷ [];
  some = omega arith;
  seven = seven-more n [] h (λ i. omega arith);
  value = omega arith;
  bytes = shortest-last k n h;
}

more-form : (k n : ℕ) → 128 ≤ n → FormOf (n / 128) (shortest k (n / 128)) → FormOf n (shortest (suc k) n)
unfolding value_of
more-form k n h f = record {
  parts = (n % 128) ∷ f.parts;
  some = omega arith;
  seven = seven-more (n % 128) f.parts (omega arith) f.seven;
  value = let v = f.value in omega arith;
  bytes = shortest-suc k n h ∙ ap (λ (x : List ℕ). (128 + n % 128) ∷ x) f.bytes ∙ sym (bytes-more (n % 128) f.parts f.some);
}

form_in : (k n : ℕ) → n < 2 ^ (7 * k + 1) → FormOf n (shortest k n)
form_in zero n h = last-form 0 n (omega arith)
form_in (suc k) n h = ⊎_elim (λ l. last-form (suc k) n l) (λ l. more-form k n l (form_in k (n / 128) (wide k n h))) (less-or-not n 128)

pub written-form : (n : ℕ) → n < 2 ^ 64 → FormOf n (number_bytes n)
unfolding number_bytes
written-form n h = form_in 9 n h

-- bytes of the value v are the shortest form, or longer
Longer : (k v : ℕ) → List ℕ → Type 0
Longer k v bs = (bs ≡ shortest k v) ⊎ (length (shortest k v) < length bs)

some_bytes : (g : ℕ) (gs : List ℕ) → 0 < length (bytes_of (g ∷ gs))
unfolding bytes_of
some_bytes g [] = omega arith
some_bytes g (h ∷ gs) = omega arith

group-more : (k g u : ℕ) (bs : List ℕ) → g < 128 → 128 ≤ g + 128 * u → Longer k u bs → Longer (suc k) (g + 128 * u) ((128 + g) ∷ bs)
unfolding Longer
group-more k g u bs hg h l =
    let q : (g + 128 * u) / 128 ≡ u = omega arith in
    let r : (g + 128 * u) % 128 ≡ g = omega arith in
    let e : shortest (suc k) (g + 128 * u) ≡ (128 + g) ∷ shortest k u = shortest-suc k (g + 128 * u) h ∙ rw (q, r) refl in
    ⊎_elim (λ (a : bs ≡ shortest k u). inl (rw (e, a) refl)) (λ (a : length (shortest k u) < length bs). inr (rw e (omega arith))) l

longer : (k : ℕ) (gs : List ℕ) → 0 < length gs → ((i : ℕ) → get_or gs i 0 < 128) → value_of gs < 2 ^ (7 * k + 1) → Longer k (value_of gs) (bytes_of gs)
unfolding Longer value_of bytes_of
longer k [] some seven h = absurd (omega arith)
longer k (g ∷ []) some seven h = let e : g + 128 * 0 ≡ g = omega arith in inl (rw e (sym (shortest-last k g (seven 0))))
longer zero (g ∷ x ∷ gs) some seven h =
    let b = some_bytes x gs in inr (rw (shortest-last 0 (g + 128 * value_of (x ∷ gs)) (omega arith)) (omega arith))
longer (suc k) (g ∷ x ∷ gs) some seven h =
    let u = value_of (x ∷ gs) in
    let b = some_bytes x gs in
    let hg : g < 128 = seven 0 in
    let q : (g + 128 * u) / 128 ≡ u = omega arith in
    ⊎_elim (λ (l : g + 128 * u < 128). inr (rw (shortest-last (suc k) (g + 128 * u) l) (omega arith)))
    (λ (l : 128 ≤ g + 128 * u). group-more k g u (bytes_of (x ∷ gs)) hg l (longer k (x ∷ gs) (omega arith) (λ i. seven (suc i)) (rw q at (wide k (g + 128 * u) h))))
    (less-or-not (g + 128 * u) 128)

pub others-longer : (n : ℕ) (bs : List ℕ) → n < 2 ^ 64 → FormOf n bs → (bs ≡ number_bytes n) ⊎ (length (number_bytes n) < length bs)
unfolding number_bytes Longer
others-longer n bs h f = rw (f.bytes, ← f.value) (longer 9 f.parts f.some f.seven (rw f.value h))

-- what is read

-- what some bytes say, by one more byte where they end too soon: the byte 1 makes a number of them
data Reading (k at : ℕ) (s : List ℕ) : Type 0 where
  read : (v next : ℕ) → groups k at s ≡ got v next → v < 2 ^ (7 * k + 1) → Reading k at s
  ends : (v next : ℕ) → groups k at s ≡ refused cut → groups k at (s ++ (1 ∷ [])) ≡ got v next → 0 < v → v < 2 ^ (7 * k + 1) → Reading k at s
  bad : groups k at s ≡ refused bad_number → Reading k at s

wider : (k g u : ℕ) → g < 128 → u < 2 ^ (7 * k + 1) → g + 128 * u < 2 ^ (7 * suc k + 1)
wider k g u hg hu = let e : 7 * suc k + 1 ≡ 7 * k + 1 + 7 = omega arith in rw (e, pow-add 2 (7 * k + 1) 7) (omega arith)

module _ (k at b : ℕ) (s : List ℕ) (h : 128 ≤ b) where
  on-more : Reading k (at + 1) s → Reading (suc k) at (b ∷ s)
  unfolding below
  on-more (read zero next e l) = bad (groups-more k at b s h ∙ ap (below (b % 128) 128) e)
  on-more (read (suc u) next e l) =
      read (b % 128 + 128 * suc u) next (groups-more k at b s h ∙ ap (below (b % 128) 128) e ∙ below-got (b % 128) 128 (suc u) next (λ z. omega arith))
      (wider k (b % 128) (suc u) (omega arith) l)
  on-more (ends u next e f p l) =
      ends (b % 128 + 128 * u) next (groups-more k at b s h ∙ ap (below (b % 128) 128) e)
      (groups-more k at b (s ++ (1 ∷ [])) h ∙ ap (below (b % 128) 128) f ∙ below-got (b % 128) 128 u next (λ z. omega arith))
      (omega arith) (wider k (b % 128) u (omega arith) l)
  on-more (bad e) = bad (groups-more k at b s h ∙ ap (below (b % 128) 128) e)

two-at-least : (k : ℕ) → 2 ≤ 2 ^ (7 * k + 1)
two-at-least k = pow_mono {i = 1} {j = 7 * k + 1} (omega arith)

reading : (k at : ℕ) (s : List ℕ) → Reading k at s
reading k at [] =
    ends 1 (at + 1) (groups-end k at) (groups-last k at 1 [] (omega arith) (λ z. omega arith)) (omega arith) (let l = two-at-least k in omega arith)
reading zero at (b ∷ s) =
    ⊎_elim (λ (l : 1 < b). bad (groups-tenth at b s l)) (λ (l : b ≤ 1). read b (at + 1) (groups-last 0 at b s (omega arith) (λ z. l)) (omega arith)) (less-or-not 1 b)
reading (suc k) at (b ∷ s) =
    ⊎_elim
    (λ (l : b < 128). read b (at + 1) (groups-last (suc k) at b s l (λ z. absurd (omega arith))) (let w = wider k b 0 l (let t = two-at-least k in omega arith) in omega arith))
    (λ (l : 128 ≤ b). on-more k at b s l (reading k (at + 1) s))
    (less-or-not b 128)

-- more bytes change nothing but Cut
stays : (k at : ℕ) (s more : List ℕ) → (groups k at s ≡ refused cut → ⊥) → groups k at (s ++ more) ≡ groups k at s
unfolding groups below
stays k at [] more h = absurd (h (groups-end k at))
stays zero at (b ∷ s) more h = refl
stays (suc k) at (b ∷ s) more h =
    ⊎_elim
    (λ (l : b < 128). groups-last (suc k) at b (s ++ more) l (λ z. absurd (omega arith)) ∙ sym (groups-last (suc k) at b s l (λ z. absurd (omega arith))))
    (λ (l : 128 ≤ b). groups-more k at b (s ++ more) l ∙ ap (below (b % 128) 128) (stays k (at + 1) s more (λ e. h (groups-more k at b s l ∙ onward e))) ∙ sym (groups-more k at b s l))
    (less-or-not b 128)
  where
    onward : groups k (at + 1) s ≡ refused cut → below (b % 128) 128 (groups k (at + 1) s) ≡ refused cut
    onward e = ap (below (b % 128) 128) e

starts-read : (at : ℕ) (s : List ℕ) (w : Starts s) → groups 9 at s ≡ got w.number (at + length (number_bytes w.number))
unfolding number_bytes
starts-read at s w = ap (groups 9 at) w.form ∙ read-shortest 9 w.number at w.after w.small

read-starts : (at v next : ℕ) (s : List ℕ) → ((i : ℕ) → get_or s i 0 < 256) → groups 9 at s ≡ got v next → v < 2 ^ 64 → Starts s
unfolding number_bytes
read-starts at v next s bs e h = record { number = v; after = drop (length (shortest 9 v)) s; small = h; form = (only-shortest 9 at v next s bs e).form }

and_one : (s : List ℕ) → ((i : ℕ) → get_or s i 0 < 256) → (i : ℕ) → get_or (s ++ (1 ∷ [])) i 0 < 256
and_one [] bs zero = omega arith
and_one [] bs (suc i) = omega arith
and_one (b ∷ s) bs zero = bs 0
and_one (b ∷ s) bs (suc i) = and_one s (λ j. bs (suc j)) i

got-refused : {n v next : ℕ} {r : Got ℕ} → r ≡ got v next → r ≡ refused n → ⊥
got-refused e f = let z : ◌≡◌ {A = ℕ} 0 1 = cc in omega arith

cut-bad : {r : Got ℕ} → r ≡ refused cut → r ≡ refused bad_number → ⊥
cut-bad e f = let z : ◌≡◌ {A = ℕ} 1 2 = cc in omega arith

module _ (at : ℕ) (s : List ℕ) (bs : (i : ℕ) → get_or s i 0 < 256) where
  mended : Reading 9 at s → groups 9 at s ≡ refused cut → (more : List ℕ) × Starts (s ++ more)
  mended (read v next e l) c = absurd (got-refused e c)
  mended (ends v next e f p l) c = (1 ∷ [], read-starts at v next (s ++ (1 ∷ [])) (and_one s bs) f l)
  mended (bad e) c = absurd (cut-bad c e)

  is_cut : Reading 9 at s → (Starts s → ⊥) → (more : List ℕ) → Starts (s ++ more) → groups 9 at s ≡ refused cut
  is_cut (read v next e l) none more w = absurd (none (read-starts at v next s bs e l))
  is_cut (ends v next e f p l) none more w = e
  is_cut (bad e) none more w =
      absurd (got-refused (sym (stays 9 at s more (λ c. cut-bad c e)) ∙ starts-read at (s ++ more) w) e)

  is-bad : Reading 9 at s → ((more : List ℕ) → Starts (s ++ more) → ⊥) → groups 9 at s ≡ refused bad_number
  is-bad (read v next e l) none = absurd (none [] (rw (append-nil s) (read-starts at v next s bs e l)))
  is-bad (ends v next e f p l) none = absurd (none (1 ∷ []) (read-starts at v next (s ++ (1 ∷ [])) (and_one s bs) f l))
  is-bad (bad e) none = e

-- on a tape, of bytes

module _ (s : List ℕ) (at : ℕ) (bs : (i : ℕ) → get_or s i 0 < 256) where
  rest : (i : ℕ) → get_or (drop at s) i 0 < 256
  rest i = rw get_or-drop (bs (at + i))

  pub cut-exactly : (read_number s at ≡ refused cut) ↔ ((Starts (drop at s) → ⊥) × ((more : List ℕ) × Starts (drop at s ++ more)))
  unfolding read_number
  cut-exactly = (
    λ e. (λ w. got-refused (starts-read at (drop at s) w) e, mended at (drop at s) rest (reading 9 at (drop at s)) e),
    λ w. is_cut at (drop at s) rest (reading 9 at (drop at s)) w.0 w.1.0 w.1.1,
  )

  pub bad-exactly : (read_number s at ≡ refused bad_number) ↔ ((more : List ℕ) → Starts (drop at s ++ more) → ⊥)
  unfolding read_number
  bad-exactly = (
    λ e more w. got-refused (starts-read at (drop at s ++ more) w) (stays 9 at (drop at s) more (λ c. cut-bad c e) ∙ e),
    is-bad at (drop at s) rest (reading 9 at (drop at s)),
  )

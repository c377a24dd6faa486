-- A number that is written is read back, and what is read is the shortest form of its value.
--     read-shortest     over the number of groups: the shortest form reads as the number, whatever follows it
--     only-shortest     over the number of groups: bytes that read as a number start with its shortest form
--     round_trip, read-written, one_form     the same of a whole tape
use mathlib.Core.Path.{◌≡◌, refl, sym, ap, ◌∙◌}
use mathlib.Core.Logic.{⊎_elim}
use mathlib.Core.List.{List, [], ◌∷◌, ◌++◌, append_assoc}
use Prim.Native.Nat.{ℕ, zero, suc, ◌+◌, ◌*◌, ◌/◌, ◌%◌, ◌^◌, ◌≤◌, ◌<◌}
use native.Mathlib.Omega.{arith}
use lib.ListN.{length, get_or, drop, take}
use lib.Seq.{sets-eq, drop-append_seam, length-take-le, get_or-drop}
use lib.Pow.{shr_lt}
use Rattle.numbers.specs.Got.{Got, got, refused}
use Rattle.numbers.specs.Numbers.{below, groups, read_number, shortest, number_bytes}
use Rattle.numbers.specs.Put.{put_bytes}
use Rattle.numbers.proofs.Cases.{less-or-not}
use Rattle.numbers.proofs.NumberLaws.{below-got, groups-end, groups-last, groups-tenth, groups-more}
use Rattle.numbers.proofs.PutLaws.{room}
use Rattle.numbers.proofs.WriteLaws.{shortest-last, shortest-suc}

-- k groups after the first hold seven bits each, and the tenth of all one bit
pub wide : (k n : ℕ) → n < 2 ^ (7 * suc k + 1) → n / 128 < 2 ^ (7 * k + 1)
wide k n h = let e : 7 * suc k + 1 ≡ 7 * k + 1 + 7 = omega arith in shr_lt (7 * k + 1) 7 (rw e at h)

-- what reading the shortest form says
Reads : ℕ → ℕ → ℕ → List ℕ → Type 0
Reads k n at rest = groups k at (shortest k n ++ rest) ≡ got n (at + length (shortest k n))

one-group : (k n at : ℕ) (rest : List ℕ) → n < 128 → (k ≡ 0 → n ≤ 1) → Reads k n at rest
unfolding Reads
one-group k n at rest l t = rw (shortest-last k n l) (groups-last k at n rest l t)

more-groups : (k n at : ℕ) (rest : List ℕ) → 128 ≤ n → Reads k (n / 128) (at + 1) rest → Reads (suc k) n at rest
unfolding Reads
more-groups k n at rest l ih =
    let b = 128 + n % 128 in
    let t = shortest k (n / 128) in
    let v : (b % 128) + 128 * (n / 128) ≡ n = omega arith in
    let p : at + 1 + length t ≡ at + suc (length t) = omega arith in
    rw (shortest-suc k n l)
    (groups-more k at b (t ++ rest) (omega arith)
    ∙ ap (below (b % 128) 128) ih
    ∙ below-got (b % 128) 128 (n / 128) (at + 1 + length t) (λ e. omega arith)
    ∙ ap (λ (x : ℕ). got x (at + 1 + length t)) v
    ∙ ap (got n) p)

read_all : (k n at : ℕ) (rest : List ℕ) → n < 2 ^ (7 * k + 1) → Reads k n at rest
read_all zero n at rest h = one-group 0 n at rest (omega arith) (λ e. omega arith)
read_all (suc k) n at rest h =
    ⊎_elim (λ l. one-group (suc k) n at rest l (λ e. absurd (omega arith)))
    (λ l. more-groups k n at rest l (read_all k (n / 128) (at + 1) rest (wide k n h)))
    (less-or-not n 128)

pub read-shortest : (k n at : ℕ) (rest : List ℕ) → n < 2 ^ (7 * k + 1) → groups k at (shortest k n ++ rest) ≡ got n (at + length (shortest k n))
unfolding Reads
read-shortest k n at rest h = read_all k n at rest h

-- a number that was read stands there in its shortest form
pub record Form (k at : ℕ) (s : List ℕ) (v next : ℕ) : Type 0 where
  pub form : s ≡ shortest k v ++ drop (length (shortest k v)) s
  pub place : next ≡ at + length (shortest k v)

one-form-last : (k at b v next : ℕ) (t : List ℕ) → b < 128 → got b (at + 1) ≡ got v next → Form k at (b ∷ t) v next
one-form-last k at b v next t l e =
    let ev : b ≡ v = cc in
    let en : at + 1 ≡ next = cc in
    let m : shortest k v ≡ v ∷ [] = shortest-last k v (omega arith) in
    record { form = rw (m, ev) refl; place = rw m (omega arith) }

-- the groups that follow, by what they say
one-form-more : (k at b v next : ℕ) (t : List ℕ) (r : Got ℕ) → 128 ≤ b → b < 256 → below (b % 128) 128 r ≡ got v next
    → ((u nx : ℕ) → r ≡ got u nx → Form k (at + 1) t u nx) → Form (suc k) at (b ∷ t) v next
unfolding below
one-form-more k at b v next t (refused n) l m e ih = absurd (let z : ◌≡◌ {A = ℕ} 0 1 = cc in omega arith)
one-form-more k at b v next t (got zero nx) l m e ih = absurd (let z : ◌≡◌ {A = ℕ} 0 1 = cc in omega arith)
one-form-more k at b v next t (got (suc u) nx) l m e ih =
    let f = sym (below-got (b % 128) 128 (suc u) nx (λ z. omega arith)) ∙ e in
    let ev : (b % 128) + 128 * suc u ≡ v = cc in
    let en : nx ≡ next = cc in
    let i = ih (suc u) nx refl in
    let q : v / 128 ≡ suc u = omega arith in
    let h : 128 + v % 128 ≡ b = omega arith in
    let w : shortest (suc k) v ≡ b ∷ shortest k (suc u) = shortest-suc k v (omega arith) ∙ rw (q, h) refl in
    record { form = rw w (ap (λ (x : List ℕ). b ∷ x) i.form); place = rw w (let p = i.place in omega arith) }

pub only-shortest : (k at v next : ℕ) (s : List ℕ) → ((i : ℕ) → get_or s i 0 < 256) → groups k at s ≡ got v next → Form k at s v next
only-shortest zero at v next [] bs e = absurd (let c = sym (groups-end 0 at) ∙ e in let z : ◌≡◌ {A = ℕ} 0 1 = cc in omega arith)
only-shortest (suc k) at v next [] bs e = absurd (let c = sym (groups-end (suc k) at) ∙ e in let z : ◌≡◌ {A = ℕ} 0 1 = cc in omega arith)
only-shortest zero at v next (b ∷ t) bs e =
    ⊎_elim (λ l. absurd (let c = sym (groups-tenth at b t l) ∙ e in let z : ◌≡◌ {A = ℕ} 0 1 = cc in omega arith))
    (λ l. one-form-last 0 at b v next t (omega arith) (sym (groups-last 0 at b t (omega arith) (λ z. l)) ∙ e))
    (less-or-not 1 b)
only-shortest (suc k) at v next (b ∷ t) bs e =
    ⊎_elim (λ l. one-form-last (suc k) at b v next t l (sym (groups-last (suc k) at b t l (λ z. absurd (omega arith))) ∙ e))
    (λ l. one-form-more k at b v next t (groups k (at + 1) t) l (bs 0) (sym (groups-more k at b t l) ∙ e) (λ u nx h. only-shortest k (at + 1) u nx t (λ i. bs (suc i)) h))
    (less-or-not b 128)

-- on a tape

pub round_trip : (before after : List ℕ) (n : ℕ) → n < 2 ^ 64 → read_number (before ++ (number_bytes n ++ after)) (length before) ≡ got n (length before + length (number_bytes n))
unfolding read_number number_bytes
round_trip before after n h = rw (drop-append_seam before (shortest 9 n ++ after)) (read-shortest 9 n (length before) after h)

-- what was written is read back
pub read-written : (out : List ℕ) (at n : ℕ) → n < 2 ^ 64 → at + length (number_bytes n) ≤ length out
    → read_number (put_bytes out at (number_bytes n)) at ≡ got n (at + length (number_bytes n))
read-written out at n h l =
    let e : put_bytes out at (number_bytes n) ≡ (take at out ++ number_bytes n) ++ drop (at + length (number_bytes n)) out = sym (room out at (number_bytes n) l).1 ∙ sets-eq (number_bytes n) out at l in
    let a : length (take at out) ≡ at = length-take-le at out (omega arith) in
    let g = round_trip (take at out) (drop (at + length (number_bytes n)) out) n h in
    rw (e, append_assoc) (rw a at g)

-- two readings of one number are the same bytes: the shortest form is the only one
pub one_form : (s : List ℕ) (at v next : ℕ) → ((i : ℕ) → get_or s i 0 < 256) → read_number s at ≡ got v next → Form 9 at (drop at s) v next
unfolding read_number
one_form s at v next bs e = only-shortest 9 at v next (drop at s) (λ i. rw get_or-drop (bs (at + i))) e

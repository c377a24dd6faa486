-- The rounds together: what holds between two rounds of `deal_rounds`, and that it ends in `order`.
use Prim.Native.Nat.{ℕ, zero, suc, ◌+◌, ◌*◌, ◌-◌, ◌<◌, ◌≤◌}
use mathlib.Core.Path.{◌≡◌, refl, sym, ap, ◌∙◌}
use mathlib.Core.Logic.{⊎_elim}
use mathlib.Core.List.{List, [], ◌∷◌, ◌++◌, map-append}
use mathlib.Core.Bool.{true}
use native.Mathlib.Numerals.{add-one}
use native.Mathlib.Omega.{arith}
use lib.ListN.{length, get_or, take, drop, length-append, length-map}
use lib.Seq.{take-length, drop-cons, get_or-take, get_or-drop, length-take-le}
use borrow.Author.Tests.{lt-ltb, le-ltb}
use Rattle.deal.specs.Interleaving.{cons_if, keep, joined, nth, round, interleave, upto, order, Grouped}
use Rattle.deal.specs.Answer.{grouped}
use Rattle.deal.specs.Queues.{line, Held, has, Active, member, members}
use Rattle.deal.proofs.Lists.{lt-or-ge, keep_append, joined-more, nth_past, joined-longer}
use Rattle.deal.proofs.Laws.{length-upto, length-order}
use Rattle.deal.proofs.Answers.{grouped-all}
use Rattle.deal.proofs.Rounds.{active-group, has-later}
use Rattle.deal.proofs.Queued.{held-count}

-- round r of the positions
abbrev pub rounds : List ℕ → ℕ → List ℕ
rounds gs r = round (λ i. get_or gs i 0) (upto (length gs)) r

module _ (gs qs counts : List ℕ) (n : ℕ) (h : Held gs n qs counts) (r : ℕ) where
  -- the r-th of a queue, out of the array
  one : (g : ℕ) → g < 8 → nth r (line gs n g) ≡ members qs r (cons_if (has counts r g) g [])
  one g l = ⊎_elim there past (lt-or-ge r (get_or counts g 0))
    where
      c-is : get_or counts g 0 ≡ length (line gs n g)
      c-is = h.counted g l

      same : r < length (line gs n g) → get_or (line gs n g) r 0 ≡ member qs r g
      same i = ap (λ y. get_or y r 0) (sym (h.stands g l)) ∙ (get_or-take (length (line gs n g)) (drop (g * 272) qs) r 0 i ∙ get_or-drop (g * 272) qs r 0)

      front : r < length (line gs n g) → nth r (line gs n g) ≡ get_or (line gs n g) r 0 ∷ []
      front i = unfold nth in ap (take 1) (drop-cons (line gs n g) r 0 i)

      there : r < get_or counts g 0 → nth r (line gs n g) ≡ members qs r (cons_if (has counts r g) g [])
      there i =
          let i' : r < length (line gs n g) = omega (arith, c-is) in
          rw (lt-ltb r (get_or counts g 0) i) (front i' ∙ ap (λ x. x ∷ []) (same i'))

      past : get_or counts g 0 ≤ r → nth r (line gs n g) ≡ members qs r (cons_if (has counts r g) g [])
      past i = rw (le-ltb r (get_or counts g 0) i) (nth_past r (line gs n g) (omega (arith, c-is)))

  -- and of the first k queues
  upto-round : (k : ℕ) → k ≤ 8 → joined k (λ g. nth r (line gs n g)) ≡ members qs r (keep (has counts r) (upto k))
  upto-round zero l = refl
  upto-round (suc k) l =
      ap (λ y. y ++ nth r (line gs n k)) (upto-round k (omega arith))
      ∙ (ap (λ y. members qs r (keep (has counts r) (upto k)) ++ y) (one k l)
      ∙ sym (ap (members qs r) (keep_append (has counts r) (upto k) (k ∷ [])) ∙ map-append (member qs r) (keep (has counts r) (upto k)) (cons_if (has counts r k) k [])))

-- a round, out of the array
round-members : (gs qs counts : List ℕ) → Held gs (length gs) qs counts → (r : ℕ) → rounds gs r ≡ members qs r (keep (has counts r) (upto 8))
unfolding round
round-members gs qs counts h r = upto-round gs qs counts (length gs) h r 8 (omega arith)

-- `order`, round after round
order_is : (gs : List ℕ) → order gs ≡ joined (length gs) (rounds gs)
unfolding order interleave
order_is gs = ap (λ n. joined n (rounds gs)) (length-upto (length gs))

-- between two rounds
pub record Between (gs qs counts active out : List ℕ) (m r at : ℕ) : Type 0 where
  pub small : length gs ≤ 272
  pub sound : Grouped gs
  pub held : Held gs (length gs) qs counts
  pub actives : Active counts r m active
  pub bound : r ≤ length gs
  pub long : length out ≡ length gs
  pub dealt : take at out ≡ joined r (rounds gs)
  pub count : at ≡ length (joined r (rounds gs))

-- before the first round
pub start : (gs qs counts active out : List ℕ) (m : ℕ) → length gs ≤ 272 → grouped gs ≡ true → Held gs (length gs) qs counts → Active counts 0 m active → length out ≡ length gs
    → Between gs qs counts active out m 0 0
start gs qs counts active out m small sound h a l = record { small = small; sound = grouped-all gs sound; held = h; actives = a; bound = omega arith; long = l; dealt = refl; count = refl }

module _ (gs qs counts active out : List ℕ) (m r at : ℕ) (b : Between gs qs counts active out m r at) where
  -- a round is to come, so there is a group with more than r members
  pub within : 0 < m → r < length gs
  within l =
      let a = active-group counts r m active b.actives 0 l in
      omega (arith, held-count gs (length gs) qs counts b.held (get_or active 0 0) a.0, a.1)

  -- what `deal_round` deals is round r
  this-round : members qs r (take m active) ≡ rounds gs r
  this-round = ap (members qs r) b.actives.are ∙ sym (round-members gs qs counts b.held r)

  further : length (joined (suc r) (rounds gs)) ≡ at + m
  further = omega (arith, length-append (joined r (rounds gs)) (rounds gs r), b.count, ap length this-round, length-map (take m active) (member qs r), length-take-le m active (omega (arith, b.actives.within, b.actives.eight)))

  -- and it fits
  pub fits : 0 < m → at + m ≤ length out
  fits l = omega (arith, further, joined-longer (suc r) (length gs) (rounds gs) (within l), ap length (order_is gs), length-order gs b.sound, b.long)

  -- after a round
  pub next : (k : ℕ) (active' out' : List ℕ) → 0 < m → Active counts (r + 1) k active' → take (at + m) out' ≡ take at out ++ members qs r (take m active) → length out' ≡ length out
      → Between gs qs counts active' out' k (r + 1) (at + m)
  next k active' out' l a p e = record {
    small = b.small;
    sound = b.sound;
    held = b.held;
    actives = a;
    bound = omega (arith, within l);
    long = e ∙ b.long;
    dealt = rw (add-one r) (p ∙ (ap (λ y. y ++ members qs r (take m active)) b.dealt ∙ ap (λ y. joined r (rounds gs) ++ y) this-round));
    count = rw (add-one r) (sym further);
  }

  -- no group is active, so all is dealt
  pub done : m ≤ 0 → out ≡ order gs
  done z = sym (take-length out) ∙ (ap (λ n. take n out) (sym all) ∙ (b.dealt ∙ (sym rest ∙ sym (order_is gs))))
    where
      m0 : m ≡ 0
      m0 = omega arith

      none : keep (has counts r) (upto 8) ≡ []
      none = sym (rw m0 at b.actives.are)

      later : (k : ℕ) → r ≤ k → rounds gs k ≡ []
      later k l =
          round-members gs qs counts b.held k
          ∙ ap (members qs k) (sym (has-later counts r k l (upto 8)) ∙ ap (keep (has counts k)) none)

      rest : joined (length gs) (rounds gs) ≡ joined r (rounds gs)
      rest = let e : length gs ≡ (length gs - r) + r = omega (arith, b.bound) in ap (λ n. joined n (rounds gs)) e ∙ joined-more r (length gs - r) (rounds gs) later

      all : at ≡ length out
      all = omega (arith, b.count, b.long, ap length rest, ap length (order_is gs), length-order gs b.sound)

-- What the turns of `fill` do to the queues: `Held` at the start, one position further, and at the end.
use Prim.Native.Nat.{ℕ, suc, ◌+◌, ◌*◌, ◌-◌, ◌<◌, ◌≤◌}
use mathlib.Core.Path.{◌≡◌, refl, sym, ap, ◌∙◌}
use mathlib.Core.Logic.{◌⊎◌, inl, inr, ⊎_elim}
use mathlib.Core.List.{List, [], ◌∷◌, ◌++◌, append-nil}
use mathlib.Core.Bool.{true}
use native.Mathlib.Numerals.{add-one}
use native.Mathlib.Omega.{arith}
use lib.ListN.{length, get_or, take, drop, set, replicate, get_or-replicate, length-append, length-drop, length-set}
use lib.Seq.{take-suc-set, take-set-le, drop-set-add, drop-set-lt, get_or-set_same, get_or-set_other}
use lib.Dec.{eqb as nat_eq}
use borrow.Author.Tests.{eq-eqb, ne_eqb}
use Rattle.deal.specs.Interleaving.{queue, upto}
use Rattle.deal.specs.Answer.{grouped}
use Rattle.deal.specs.Queues.{line, Held}
use Rattle.deal.proofs.Lists.{lt-or-ge, keep_append, length-keep}
use Rattle.deal.proofs.Laws.{length-upto}
use Rattle.deal.proofs.Answers.{grouped-yes}

-- the queues hold at most the positions passed
line-short : (gs : List ℕ) (n g : ℕ) → length (line gs n g) ≤ n
unfolding queue
line-short gs n g = omega (arith, length-keep (λ i. nat_eq (get_or gs i 0) g) (upto n), length-upto n)

-- position n goes to the end of its own queue
line_same : (gs : List ℕ) (n g : ℕ) → get_or gs n 0 ≡ g → line gs (suc n) g ≡ line gs n g ++ (n ∷ [])
unfolding queue
line_same gs n g e = keep_append (λ i. nat_eq (get_or gs i 0) g) (upto n) (n ∷ []) ∙ rw (eq-eqb (get_or gs n 0) g e) refl

-- and the others stay
line_other : (gs : List ℕ) (n g : ℕ) → (get_or gs n 0 ≡ g → ⊥) → line gs (suc n) g ≡ line gs n g
unfolding queue
line_other gs n g ne = keep_append (λ i. nat_eq (get_or gs i 0) g) (upto n) (n ∷ []) ∙ rw (ne_eqb (get_or gs n 0) g ne) (append-nil _)

-- before the first position
held_none : (gs qs : List ℕ) → length qs ≡ 2176 → Held gs 0 qs (replicate 8 0)
unfolding queue
held_none gs qs r = record { room = r; eight = refl; counted = λ g l. get_or-replicate 8 g 0 0 l; stands = λ g l. refl }

-- a store outside the part from a on with n elements
take-drop-set : (qs : List ℕ) (a n x v : ℕ) → (x < a) ⊎ (a + n ≤ x) → take n (drop a (set qs x v)) ≡ take n (drop a qs)
take-drop-set qs a n x v (inl l) = ap (take n) (drop-set-lt a qs x v l)
take-drop-set qs a n x v (inr l) = ap (λ y. take n (drop a (set qs y v))) e ∙ (ap (take n) (drop-set-add a qs (x - a) v) ∙ take-set-le n (drop a qs) (x - a) v (omega arith))
  where
    e : x ≡ a + (x - a)
    e = omega arith

-- equal, or apart
ne-or : (a b : ℕ) → (a ≡ b) ⊎ ((a < b) ⊎ (b < a))
ne-or a b = ⊎_elim (λ l. inr (inl l)) (λ l. ⊎_elim (λ m. inr (inr m)) (λ m. inl (omega arith)) (lt-or-ge b a)) (lt-or-ge a b)

-- no queue is longer than the positions passed
pub held-count : (gs : List ℕ) (n : ℕ) (qs cs : List ℕ) → Held gs n qs cs → (g : ℕ) → g < 8 → get_or cs g 0 ≤ n
held-count gs n qs cs h g l = omega (arith, h.counted g l, line-short gs n g)

apart : (a b : ℕ) → (a < b) ⊎ (b < a) → a ≡ b → ⊥
apart a b (inl l) e = omega arith
apart a b (inr l) e = omega arith

-- position n is pushed to the end of queue g
held-step : (gs : List ℕ) (n g : ℕ) (qs cs : List ℕ) → n < 272 → get_or gs n 0 ≡ g → g < 8 → Held gs n qs cs
    → Held gs (n + 1) (set qs (g * 272 + get_or cs g 0) n) (set cs g (get_or cs g 0 + 1))
held-step gs n g qs cs small is g8 h = rw add-one record { room = length-set qs _ n ∙ h.room; eight = length-set cs g _ ∙ h.eight; counted = counted; stands = stands }
  where
    c : ℕ
    c = get_or cs g 0

    c-is : c ≡ length (line gs n g)
    c-is = h.counted g g8

    c-small : c < 272
    c-small = omega (arith, c-is, line-short gs n g)

    longer : length (line gs (suc n) g) ≡ suc c
    longer = omega (arith, c-is, ap length (line_same gs n g is), length-append (line gs n g) (n ∷ []))

    stays : (k : ℕ) → (k ≡ g → ⊥) → line gs (suc n) k ≡ line gs n k
    stays k ne = line_other gs n k (λ q. ne (sym q ∙ is))

    counted : (k : ℕ) → k < 8 → get_or (set cs g (c + 1)) k 0 ≡ length (line gs (suc n) k)
    counted k l = ⊎_elim same other (ne-or k g)
      where
        same : k ≡ g → get_or (set cs g (c + 1)) k 0 ≡ length (line gs (suc n) k)
        same e = rw e (get_or-set_same cs g (c + 1) 0 (omega (arith, h.eight)) ∙ omega (arith, longer))

        other : (k < g) ⊎ (g < k) → get_or (set cs g (c + 1)) k 0 ≡ length (line gs (suc n) k)
        other o = get_or-set_other cs g k (c + 1) 0 (apart k g o) ∙ (h.counted k l ∙ ap length (sym (stays k (apart k g o))))

    stands : (k : ℕ) → k < 8 → take (length (line gs (suc n) k)) (drop (k * 272) (set qs (g * 272 + c) n)) ≡ line gs (suc n) k
    stands k l = ⊎_elim same other (ne-or k g)
      where
        here : take (length (line gs (suc n) g)) (drop (g * 272) (set qs (g * 272 + c) n)) ≡ line gs (suc n) g
        here =
            ap (λ m. take m (drop (g * 272) (set qs (g * 272 + c) n))) longer
            ∙ (ap (take (suc c)) (drop-set-add (g * 272) qs c n)
            ∙ (take-suc-set (drop (g * 272) qs) c n (omega (arith, c-small, length-drop (g * 272) qs, h.room))
            ∙ (ap (λ l. l ++ (n ∷ [])) (ap (λ m. take m (drop (g * 272) qs)) c-is ∙ h.stands g g8) ∙ sym (line_same gs n g is))))

        same : k ≡ g → take (length (line gs (suc n) k)) (drop (k * 272) (set qs (g * 272 + c) n)) ≡ line gs (suc n) k
        same e = rw e here

        outside : (k < g) ⊎ (g < k) → (g * 272 + c < k * 272) ⊎ (k * 272 + length (line gs n k) ≤ g * 272 + c)
        outside (inl a) = inr (omega (arith, line-short gs n k))
        outside (inr a) = inl (omega (arith, c-small))

        other : (k < g) ⊎ (g < k) → take (length (line gs (suc n) k)) (drop (k * 272) (set qs (g * 272 + c) n)) ≡ line gs (suc n) k
        other o =
            rw (stays k (apart k g o)) (take-drop-set qs (k * 272) (length (line gs n k)) (g * 272 + c) n (outside o) ∙ h.stands k l)

-- after i turns of `fill`
pub record Filled (gs : List ℕ) (i : ℕ) (qs counts : List ℕ) : Type 0 where
  pub passed : i ≤ length gs
  pub sound : (k : ℕ) → k < i → get_or gs k 0 < 8
  pub held : Held gs i qs counts

pub filled_none : (gs qs counts : List ℕ) → length qs ≡ 2176 → counts ≡ replicate 8 0 → Filled gs 0 qs counts
filled_none gs qs counts room e = record { passed = omega arith; sound = λ k l. absurd (omega arith); held = rw e (held_none gs qs room) }

pub filled-step : (gs : List ℕ) (i : ℕ) (qs counts : List ℕ) → length gs ≤ 272 → i < length gs → get_or gs i 0 < 8 → Filled gs i qs counts
    → Filled gs (i + 1) (set qs (get_or gs i 0 * 272 + get_or counts (get_or gs i 0) 0) i) (set counts (get_or gs i 0) (get_or counts (get_or gs i 0) 0 + 1))
filled-step gs i qs counts small l g8 f = record { passed = omega arith; sound = sound; held = held-step gs i (get_or gs i 0) qs counts (omega arith) refl g8 f.held }
  where
    sound : (k : ℕ) → k < i + 1 → get_or gs k 0 < 8
    sound k m = ⊎_elim (f.sound k) (λ (ge : i ≤ k). let e : k ≡ i = omega arith in rw e g8) (lt-or-ge k i)

pub filled-end : (gs : List ℕ) (i : ℕ) (qs counts : List ℕ) → length gs ≤ i → Filled gs i qs counts → (grouped gs ≡ true) × Held gs (length gs) qs counts
filled-end gs i qs counts l f = let e : i ≡ length gs = omega (arith, f.passed) in (grouped-yes gs (λ k m. f.sound k (omega arith)), rw e at f.held)

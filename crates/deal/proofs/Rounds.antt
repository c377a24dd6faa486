-- What one turn of the dealing loops does to `active` and `out`.
use Prim.Native.Nat.{ℕ, suc, ◌+◌, ◌<◌, ◌≤◌}
use mathlib.Core.Path.{◌≡◌, refl, sym, ap, ◌∙◌, subst}
use mathlib.Core.List.{List, [], ◌∷◌, ◌++◌, map-append, append-nil, append_assoc, Memᴰ}
use mathlib.Core.Bool.{Bool, true, false}
use native.Mathlib.Nat.{add-zero}
use native.Mathlib.Numerals.{add-one}
use native.Mathlib.Omega.{arith}
use lib.ListN.{length, get_or, take, drop, set, length-set}
use lib.Seq.{take-suc, take-suc-set, drop-drop, drop-set-lt, get_or-take, get_or-drop, length-take-le}
use borrow.Author.Tests.{lt-ltb, le-ltb, ltb-true}
use Rattle.deal.specs.Interleaving.{cons_if, keep, upto}
use Rattle.deal.specs.Queues.{has, Active, member, members}
use Rattle.deal.proofs.Lists.{keep_append, mem-keep, keep-keep, get_or-mem}
use Rattle.deal.proofs.Laws.{mem-upto}

-- an active group is one of the eight, and has an r-th member
pub active-group : (counts : List ℕ) (r m : ℕ) (active : List ℕ) → Active counts r m active → (t : ℕ) → t < m → (get_or active t 0 < 8) × (r < get_or counts (get_or active t 0) 0)
active-group counts r m active a t l = (mem-upto 8 (get_or active t 0) kept.0, ltb-true r (get_or counts (get_or active t 0) 0) kept.1)
  where
    inside : Memᴰ (get_or active t 0) (take m active)
    inside = rw (get_or-take m active t 0 l) at (get_or-mem (take m active) t 0 (omega (arith, length-take-le m active (omega (arith, a.within, a.eight)))))

    kept : Memᴰ (get_or active t 0) (upto 8) × (has counts r (get_or active t 0) ≡ true)
    kept = mem-keep (has counts r) (upto 8) (subst (λ (l : List ℕ). Memᴰ (get_or active t 0) l) a.are inside)

-- a group that has a k-th member has all before it
pub has-later : (counts : List ℕ) (r k : ℕ) → r ≤ k → (gs : List ℕ) → keep (has counts k) (keep (has counts r) gs) ≡ keep (has counts k) gs
has-later counts r k l = keep-keep (has counts k) (has counts r) (λ g e. lt-ltb r (get_or counts g 0) (omega (arith, ltb-true k (get_or counts g 0) e)))

-- what is ahead is as it was
ahead : (active active₀ : List ℕ) (t : ℕ) → drop t active ≡ drop t active₀ → get_or active t 0 ≡ get_or active₀ t 0
ahead active active₀ t e = ap (λ n. get_or active n 0) (sym (add-zero t)) ∙ (sym (get_or-drop t active 0 0) ∙ (ap (λ l. get_or l 0 0) e ∙ (get_or-drop t active₀ 0 0 ∙ ap (λ n. get_or active₀ n 0) (add-zero t))))

-- after t turns of a round
pub record Turn (qs counts active₀ out₀ : List ℕ) (r at t k : ℕ) (active out : List ℕ) : Type 0 where
  pub behind : k ≤ t
  pub eight : length active ≡ 8
  pub long : length out ≡ length out₀
  pub rest : drop t active ≡ drop t active₀
  pub kept : take k active ≡ keep (has counts (r + 1)) (take t active₀)
  pub put : take (at + t) out ≡ take at out₀ ++ members qs r (take t active₀)

pub turn-none : (qs counts active out : List ℕ) (r at : ℕ) → length active ≡ 8 → Turn qs counts active out r at 0 0 active out
turn-none qs counts active out r at e = record { behind = omega arith; eight = e; long = refl; rest = refl; kept = refl; put = rw add-zero (sym (append-nil (take at out))) }

module _ (qs counts active₀ out₀ : List ℕ) (r at t k : ℕ) (active out : List ℕ) (h : Turn qs counts active₀ out₀ r at t k active out) (t8 : t < 8) (eight₀ : length active₀ ≡ 8) (room : at + t < length out) where
  read : get_or active t 0 ≡ get_or active₀ t 0
  read = ahead active active₀ t h.rest

  further : take (t + 1) active₀ ≡ take t active₀ ++ (get_or active t 0 ∷ [])
  further = rw (add-one t, read) (take-suc active₀ t 0 (omega (arith, eight₀)))

  rest-next : drop (t + 1) active ≡ drop (t + 1) active₀
  rest-next = sym (drop-drop 1 t active) ∙ (ap (drop 1) h.rest ∙ drop-drop 1 t active₀)

  put_next : take (at + (t + 1)) (set out (at + t) (member qs r (get_or active t 0))) ≡ take at out₀ ++ members qs r (take (t + 1) active₀)
  put_next =
      ap (λ n. take n (set out (at + t) v)) e
      ∙ (take-suc-set out (at + t) v room
      ∙ (ap (λ l. l ++ (v ∷ [])) h.put
      ∙ (append_assoc (take at out₀) (members qs r (take t active₀)) (v ∷ [])
      ∙ ap (λ l. take at out₀ ++ l) (sym (ap (members qs r) further ∙ map-append (member qs r) (take t active₀) (get_or active t 0 ∷ []))))))
    where
      v : ℕ
      v = member qs r (get_or active t 0)

      e : at + (t + 1) ≡ suc (at + t)
      e = omega arith

  keep-next : (b : Bool) → has counts (r + 1) (get_or active t 0) ≡ b → keep (has counts (r + 1)) (take (t + 1) active₀) ≡ take k active ++ cons_if b (get_or active t 0) []
  keep-next b e =
      ap (keep (has counts (r + 1))) further
      ∙ (keep_append (has counts (r + 1)) (take t active₀) (get_or active t 0 ∷ [])
      ∙ (ap (λ l. l ++ cons_if (has counts (r + 1) (get_or active t 0)) (get_or active t 0) []) (sym h.kept) ∙ ap (λ c. take k active ++ cons_if c (get_or active t 0) []) e))

  pub turn-kept : r + 1 < get_or counts (get_or active t 0) 0 → Turn qs counts active₀ out₀ r at (t + 1) (k + 1) (set active k (get_or active t 0)) (set out (at + t) (member qs r (get_or active t 0)))
  turn-kept l = record {
    behind = omega (arith, h.behind);
    eight = length-set active k _ ∙ h.eight;
    long = length-set out _ _ ∙ h.long;
    rest = drop-set-lt (t + 1) active k (get_or active t 0) (omega (arith, h.behind)) ∙ rest-next;
    kept = rw (add-one k) (take-suc-set active k (get_or active t 0) (omega (arith, h.behind, h.eight)) ∙ sym (keep-next true (lt-ltb _ _ l)));
    put = put_next;
  }

  pub turn-left : get_or counts (get_or active t 0) 0 ≤ r + 1 → Turn qs counts active₀ out₀ r at (t + 1) k active (set out (at + t) (member qs r (get_or active t 0)))
  turn-left l = record {
    behind = omega (arith, h.behind);
    eight = h.eight;
    long = length-set out _ _ ∙ h.long;
    rest = rest-next;
    kept = sym (keep-next false (le-ltb _ _ l) ∙ append-nil (take k active));
    put = put_next;
  }

-- the group at hand is one of the eight
pub turn_small : (qs counts active₀ out₀ : List ℕ) (r at m t k : ℕ) (active out : List ℕ) → Active counts r m active₀ → Turn qs counts active₀ out₀ r at t k active out → t < m → get_or active t 0 < 8
turn_small qs counts active₀ out₀ r at m t k active out a h l = rw (ahead active active₀ t h.rest) (active-group counts r m active₀ a t l).0

-- a round's end
pub turn_end : (qs counts active₀ out₀ : List ℕ) (r at m t k : ℕ) (active out : List ℕ) → t ≡ m → Active counts r m active₀ → Turn qs counts active₀ out₀ r at t k active out
    → Active counts (r + 1) k active × ((take (at + m) out ≡ take at out₀ ++ members qs r (take m active₀)) × (length out ≡ length out₀))
turn_end qs counts active₀ out₀ r at m t k active out e a h = (next, (rw e at h.put, h.long))
  where
    next : Active counts (r + 1) k active
    next = record {
      within = omega (arith, a.within, h.behind);
      eight = h.eight;
      are = rw e at h.kept ∙ (ap (keep (has counts (r + 1))) a.are ∙ has-later counts r (r + 1) (omega arith) (upto 8));
    }

-- after g turns of `first_round`
pub record Chosen (counts : List ℕ) (active : List ℕ) (k g : ℕ) : Type 0 where
  pub passed : g ≤ 8
  pub behind : k ≤ g
  pub eight : length active ≡ 8
  pub kept : take k active ≡ keep (has counts 0) (upto g)

pub chosen-kept : (counts active : List ℕ) (k g : ℕ) → Chosen counts active k g → g < 8 → 0 < get_or counts g 0 → Chosen counts (set active k g) (k + 1) (g + 1)
chosen-kept counts active k g s l t = rw (add-one k, add-one g) record {
  passed = l;
  behind = omega (arith, s.behind);
  eight = length-set active k g ∙ s.eight;
  kept = take-suc-set active k g (omega (arith, s.behind, s.eight)) ∙ (ap (λ y. y ++ (g ∷ [])) s.kept ∙ sym (keep_append (has counts 0) (upto g) (g ∷ []) ∙ rw (lt-ltb 0 (get_or counts g 0) t) refl));
}

pub chosen-left : (counts active : List ℕ) (k g : ℕ) → Chosen counts active k g → g < 8 → get_or counts g 0 ≤ 0 → Chosen counts active k (g + 1)
chosen-left counts active k g s l t = rw (add-one g) record {
  passed = l;
  behind = omega (arith, s.behind);
  eight = s.eight;
  kept = s.kept ∙ sym (keep_append (has counts 0) (upto g) (g ∷ []) ∙ rw (le-ltb 0 (get_or counts g 0) t) (append-nil _));
}

-- Services placed one after the other, and four members stored at once.
--     sets_first, sets_more, sets_end      members stored one by one; nothing cites these now, and docs/PORT.md names them
use Prim.Native.Nat.{ℕ, suc, ◌+◌, ◌≤◌, ◌<◌, min}
use mathlib.Core.Path.{◌≡◌, refl, sym, ap, ◌∙◌}
use mathlib.Core.List.{List, [], ◌∷◌, ◌++◌, append_assoc}
use native.Mathlib.Numerals.{add-one}
use native.Mathlib.Omega.{arith}
use lib.ListN.{length, take, drop, get_or, set, length-take, drop_of_length-le}
use borrow.Rule.Slice.PartMut.{put_mid}
use lib.Seq.{sets, sets-eq, take-suc, drop-cons, length-take-le}
use Rattle.std.proofs.lemmas.List.{drop-drop}
use Rattle.records.specs.Lists.{padded}
use Rattle.records.specs.Services.{no_service, no_services}
use Rattle.records.specs.declared.services.Service.{Service}
use Rattle.records.specs.declared.services.Services.{Services}
use Rattle.records.proofs.Bytes.{cut_take}
use Rattle.records.proofs.Rooms.{padded-set}
use Rattle.state.specs.Changes.{first_name, first_ech}
use Rattle.state.specs.declared.changes.Round.{Round}
use Rattle.state.specs.declared.changes.Round.TheVariants.{First, Second}
use Rattle.after.specs.After.{placed_at, placed_from, placed_services}

-- where a round begins, there is room for four
pub first_name_room : (r : Round) → first_name r ≤ 9
first_name_room First = omega arith
first_name_room Second = omega arith

pub first_ech_room : (r : Round) → first_ech r ≤ 4
first_ech_room First = omega arith
first_ech_room Second = omega arith

module _ (round : Round) where
  length-placed : (i : ℕ) (l : List Service) → length (placed_from round i l) ≡ length l
  unfolding placed_from
  length-placed i [] = refl
  length-placed i (s ∷ l) = ap suc (length-placed (i + 1) l)

  placed-append : (i : ℕ) (l : List Service) (s : Service) → placed_from round i (l ++ (s ∷ [])) ≡ placed_from round i l ++ (placed_at round (i + length l) s ∷ [])
  unfolding placed_from
  placed-append i [] s = let e : i ≡ i + 0 = omega arith in ap (λ k. placed_at round k s ∷ []) e
  placed-append i (x ∷ l) s =
      let e : (i + 1) + length l ≡ i + suc (length l) = omega arith in
      ap (λ y. placed_at round i x ∷ y) (placed-append (i + 1) l s ∙ ap (λ k. placed_from round (i + 1) l ++ (placed_at round k s ∷ [])) e)

-- what stands in the room after i of the services
module _ (round : Round) (l out : List Service) (i : ℕ) (long : length l ≡ 4) (v : out ≡ padded 4 no_service (placed_from round 0 (take i l))) where
  q : i ≤ 4 → length (placed_from round 0 (take i l)) ≡ i
  q h = length-placed round 0 (take i l) ∙ length-take-le i l (omega (arith, long))

  pub placed-more : (d t : Service) → i < 4 → t ≡ placed_at round i (get_or l i d) → set out i t ≡ padded 4 no_service (placed_from round 0 (take (i + 1) l))
  placed-more d t r p =
      let m = q (omega arith) in
      ap (λ x. set x i t) v
      ∙ ap (λ k. set (padded 4 no_service (placed_from round 0 (take i l))) k t) (sym m)
      ∙ padded-set no_service 4 (placed_from round 0 (take i l)) t (omega (arith, m))
      ∙ ap (padded 4 no_service)
      (ap (λ x. placed_from round 0 (take i l) ++ (x ∷ [])) (p ∙ ap (λ k. placed_at round k (get_or l i d)) at)
      ∙ sym (placed-append round 0 (take i l) (get_or l i d))
      ∙ ap (placed_from round 0) (sym (take-suc l i d (omega (arith, long))) ∙ ap (λ k. take k l) (sym (add-one i))))
    where
      at : i ≡ 0 + length (take i l)
      at = omega (arith, length-take-le i l (omega (arith, long)))

pub placed_none : (round : Round) (l : List Service) (out : Services) → out ≡ no_services → out.list ≡ padded 4 no_service (placed_from round 0 (take 0 l))
unfolding no_services padded placed_from
placed_none round l out e = ap (λ x. x.list) e

-- a count past the room is cut at it
pub placed_end : (round : Round) (s : Services) (out : List Service) (i n : ℕ) → length s.list ≡ 4 → n ≡ min s.count 4 → i ≡ n → out ≡ padded 4 no_service (placed_from round 0 (take i s.list)) → record { count = n; list = out } ≡ placed_services s round
unfolding placed_services
placed_end round s out i n long m e v = λ j. record { count = number j; list = (v ∙ ap (λ x. padded 4 no_service (placed_from round 0 x)) same) j }
  where
    same : take i s.list ≡ take s.count s.list
    same = ap (λ k. take k s.list) (e ∙ m) ∙ cut_take s.count 4 s.list long

    number : n ≡ length (take s.count s.list)
    number = m ∙ (let f : min s.count 4 ≡ min s.count (length s.list) = omega (arith, long) in f) ∙ sym (length-take s.count s.list)

-- a part written at once is its members stored one by one
pub part_stored : {A : Type 0} (out : List A) (at k : ℕ) (bs ys : List A) → ys ≡ bs → k ≡ length bs → at + length bs ≤ length out → put_mid at k out ys ≡ sets out at bs
part_stored out at k bs ys e l h = rw (e, l, sets-eq bs out at h) (simp (drop-drop, append_assoc))

-- members stored one by one from `first` on: the first, one more, none left
pub sets_first : {A : Type 0} (l ts : List A) (first : ℕ) → sets l (first + 0) ts ≡ sets l first ts
sets_first l ts first = let e : first + 0 ≡ first = omega arith in ap (λ k. sets l k ts) e

module _ {A : Type 0} (ts l : List A) (first i : ℕ) (t : List A) (p : sets l (first + i) (drop i ts) ≡ t) where
  pub sets_more : (d : A) → i < length ts → sets (set l (first + i) (get_or ts i d)) (first + (i + 1)) (drop (i + 1) ts) ≡ t
  sets_more d h =
      let e : first + (i + 1) ≡ suc (first + i) = omega arith in
      ap (λ k. sets (set l (first + i) (get_or ts i d)) k (drop (i + 1) ts)) e
      ∙ ap (λ k. sets (set l (first + i) (get_or ts i d)) (suc (first + i)) (drop k ts)) (add-one i)
      ∙ sym (ap (λ x. sets l (first + i) x) (drop-cons ts i d h))
      ∙ p

  pub sets_end : length ts ≤ i → l ≡ t
  sets_end h = sym (ap (λ x. sets l (first + i) x) (drop_of_length-le ts {i = i} h)) ∙ p

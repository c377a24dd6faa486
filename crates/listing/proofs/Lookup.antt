-- Looking for the first answered record of a name and type, one record a turn.
--     held_none      past the first n of a list; nothing cites it now, and docs/PORT.md names it
use Prim.Native.Nat.{ℕ, ◌+◌, ◌≤◌, ◌<◌, min}
use Rattle.std.proofs.lemmas.List.{take_min}
use mathlib.Core.Path.{◌≡◌, sym, ap, ◌∙◌}
use mathlib.Core.Bool.{Bool, true, false, ◌&&◌}
use mathlib.Core.List.{List, ◌∷◌}
use native.Mathlib.Numerals.{add-one}
use lib.ListN.{length, take, drop, get_or, drop_of_length-le}
use lib.Seq.{drop-cons}
use Rattle.listing.specs.Held.{Same, is_for, is_held, held_count, first_held, held_at}
use Rattle.records.specs.Queries.{no_query}
use Rattle.records.specs.declared.queries.Kind.{Kind}
use Rattle.records.specs.declared.queries.Query.{Query}
use Rattle.records.proofs.Walk.{rest-none}
use Rattle.records.specs.declared.queries.Queries.{Queries}
use Rattle.listing.specs.declared.held.Holding.{Holding}

module _ (test : Query → Bool) (l : List Query) (i : ℕ) (t : Holding) (p : first_held test i (drop i l) ≡ t) where
  more : i < length l → drop i l ≡ get_or l i no_query ∷ drop (i + 1) l
  more h = rw add-one (drop-cons l i no_query h)

  pub held_more : i < length l → test (get_or l i no_query) ≡ false → first_held test (i + 1) (drop (i + 1) l) ≡ t
  unfolding first_held
  held_more h e = rw (more h, e) at p

  pub held-here : i < length l → test (get_or l i no_query) ≡ true → (m : ℕ) → m ≡ held_count (get_or l i no_query).answer → record { query = i; count = m } ≡ t
  unfolding first_held
  held-here h e m q = rw q (rw (more h, e) at p)

  pub held-end : length l ≤ i → record { query = 0; count = 0 } ≡ t
  unfolding first_held
  held-end h = rw (drop_of_length-le l {i = i} h) at p

-- what the two tests of a record come to
module _ (same : Same) (kind : Kind) (place : ℕ) (q : Query) (b : Bool) (e : b ≡ is_for kind q.kind q.answer) where
  pub not-for : b ≡ false → is_held same kind place q ≡ false
  unfolding is_held
  not-for h = ap (λ x. x && same q.name place) (sym e ∙ h)

  pub for-named : (c d : Bool) → b ≡ true → c ≡ same q.name place → c ≡ d → is_held same kind place q ≡ d
  unfolding is_held
  for-named c d h f g = ap (λ x. x && same q.name place) (sym e ∙ h) ∙ (sym f ∙ g)

-- the first records are those that are held
pub held-all : (same : Same) (q : Queries) (kind : Kind) (place n : ℕ) → length q.list ≡ 16 → n ≡ min q.count 16 → first_held (is_held same kind place) 0 (take n q.list) ≡ held_at same q kind place
unfolding held_at
held-all same q kind place n e f = ap (first_held (is_held same kind place) 0) (ap (λ m. take m q.list) (f ∙ ap (min q.count) (sym e)) ∙ take_min q.count q.list)

-- past the first n of a list
module _ (test : Query → Bool) (n : ℕ) (l : List Query) (i : ℕ) (t : Holding) (p : first_held test i (drop i (take n l)) ≡ t) where
  pub held_none : n ≤ i → record { query = 0; count = 0 } ≡ t
  unfolding first_held
  held_none h = rw (rest-none n l i h) at p

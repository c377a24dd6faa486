-- What a search for an id finds: a record, or an attempt, in use that has it; and nothing only if none has it.
use Prim.Native.Nat.{ℕ, zero, suc, ◌+◌, ◌<◌, min}
use mathlib.Core.Path.{◌≡◌, refl, sym, ap, ◌∙◌}
use mathlib.Core.Bool.{Bool, true, false, cond}
use mathlib.Core.List.{List, [], ◌∷◌}
use native.Mathlib.Omega.{arith}
use lib.Dec.{eqb as nat_eq}
use lib.ListN.{length, take, get_or, length-take}
use lib.Seq.{get_or-take}
use borrow.Author.Tests.{eqb-true, eqb-false}
use Rattle.std.specs.Prelude.{Option, Some, None}
use Rattle.records.specs.Queries.{no_query}
use Rattle.records.specs.declared.queries.Query.{Query}
use Rattle.records.specs.declared.queries.Queries.{Queries}
use Rattle.records.specs.declared.queries.Refresh.{Refresh}
use Rattle.records.specs.declared.queries.Refresh.TheVariants.{Idle, InFlight, Done}
use Rattle.state.specs.State.{asked, tried, no_attempt}
use Rattle.state.specs.declared.attempts.Attempt.{Attempt}
use Rattle.state.specs.declared.attempts.Attempts.{Attempts}
use Rattle.input.specs.declared.Asked.{Asked}
use Rattle.input.specs.declared.Asked.TheVariants as who
use Rattle.input.specs.Input.{in_flight, asked_from, asked_of, tried_from, tried_of, record_at, attempt_at}
use Rattle.input.specs.Verdicts.{records_in, attempts_in, Owns, Refreshes, Lacks}

-- a member of a list that is counted from i; no member
module _ {A : Type 0} (d : A) (P : A → Type 0) where
  abbrev Member : ℕ → List A → ℕ → Type 0
  Member i l p = (j : ℕ) × (p ≡ i + j) × (j < length l) × P (get_or l j d)

  abbrev NoMember : List A → Type 0
  NoMember l = (j : ℕ) → j < length l → P (get_or l j d)

  here : (i : ℕ) (x : A) (l : List A) → P x → Member i (x ∷ l) i
  here i x l h = (0, omega arith, omega arith, h)

  later : (i : ℕ) (x : A) (l : List A) (p : ℕ) → Member (i + 1) l p → Member i (x ∷ l) p
  later i x l p m = (suc m.0, omega (arith, m.1), omega (arith, m.2), m.3)

  none_more : (x : A) (l : List A) → P x → NoMember l → NoMember (x ∷ l)
  none_more x l h k zero q = h
  none_more x l h k (suc j) q = k j (omega arith)

  -- the same of the first n of a list
  member-at : (n : ℕ) (l : List A) (p : ℕ) → Member 0 (take n l) p → (p < min n (length l)) × P (get_or l p d)
  member-at n l p m =
      let e : p ≡ m.0 = omega (arith, m.1) in
      let h : m.0 < min n (length l) = rw (← length-take n l) m.2 in
      let q : m.0 < n = omega (arith, h) in
      (omega (arith, e, h), rw (e, ← get_or-take n l m.0 d q) m.3)

  none-at : (n : ℕ) (l : List A) → NoMember (take n l) → (j : ℕ) → j < min n (length l) → P (get_or l j d)
  none-at n l k j h =
      let q : j < n = omega (arith, h) in
      let z : j < length (take n l) = rw (length-take n l) h in
      rw (← get_or-take n l j d q) (k j z)

pub apart : false ≡ true → ⊥
apart e = let z : ◌≡◌ {A = ℕ} 0 1 = cc in omega arith

in-flight : (r : Refresh) (id : ℕ) → in_flight r id ≡ true → r ≡ InFlight id
in-flight Idle id e = absurd (apart e)
in-flight Done id e = absurd (apart e)
in-flight (InFlight i) id e = ap InFlight (eqb-true i id e)

not-flying : (r : Refresh) (id : ℕ) → in_flight r id ≡ false → r ≡ InFlight id → ⊥
not-flying r id h e = eqb-false id id (rw e at h) refl

abbrev From : ℕ → List Query → ℕ → Asked → Type 0
From i l id who.Nobody = NoMember no_query (Lacks id) l
From i l id (who.Own p) = Member no_query (Owns id) i l p
From i l id (who.Refresh p) = Member no_query (Refreshes id) i l p

from : (i : ℕ) (l : List Query) (id : ℕ) → From i l id (asked_from i l id)
unfolding asked_from
from i [] id = λ j h. absurd (omega arith)
from i (x ∷ l) id = by (in_flight x.refresh id) (nat_eq x.id id) refl refl (from (i + 1) l id)
  where
    past : (w : Asked) → in_flight x.refresh id ≡ false → nat_eq x.id id ≡ false → From (i + 1) l id w → From i (x ∷ l) id w
    past who.Nobody e f h = none_more no_query (Lacks id) x l (eqb-false x.id id f, not-flying x.refresh id e) h
    past (who.Own p) e f h = later no_query (Owns id) i x l p h
    past (who.Refresh p) e f h = later no_query (Refreshes id) i x l p h

    by : (b c : Bool) → in_flight x.refresh id ≡ b → nat_eq x.id id ≡ c → From (i + 1) l id (asked_from (i + 1) l id) → From i (x ∷ l) id (cond b (who.Refresh i) (cond c (who.Own i) (asked_from (i + 1) l id)))
    by true c e f h = here no_query (Refreshes id) i x l (in-flight x.refresh id e)
    by false true e f h = here no_query (Owns id) i x l (eqb-true x.id id f)
    by false false e f h = past (asked_from (i + 1) l id) e f h

abbrev pub Found : Queries → ℕ → Asked → Type 0
Found q id who.Nobody = (j : ℕ) → j < records_in q → Lacks id (record_at q j)
Found q id (who.Own p) = (p < records_in q) × Owns id (record_at q p)
Found q id (who.Refresh p) = (p < records_in q) × Refreshes id (record_at q p)

pub asked-found : (q : Queries) (id : ℕ) → Found q id (asked_of q id)
unfolding asked_of
asked-found q id = whole (asked_from 0 (asked q) id) (from 0 (asked q) id)
  where
    whole : (w : Asked) → From 0 (asked q) id w → Found q id w
    whole who.Nobody h = none-at no_query (Lacks id) q.count q.list h
    whole (who.Own p) h = member-at no_query (Owns id) q.count q.list p h
    whole (who.Refresh p) h = member-at no_query (Refreshes id) q.count q.list p h

-- Attempts

abbrev pub Is : ℕ → Attempt → Type 0
Is id x = x.id ≡ id

abbrev pub IsNot : ℕ → Attempt → Type 0
IsNot id x = x.id ≡ id → ⊥

abbrev TriedFrom : ℕ → List Attempt → ℕ → Option ℕ → Type 0
TriedFrom i l id None = NoMember no_attempt (IsNot id) l
TriedFrom i l id (Some p) = Member no_attempt (Is id) i l p

tried-from : (i : ℕ) (l : List Attempt) (id : ℕ) → TriedFrom i l id (tried_from i l id)
unfolding tried_from
tried-from i [] id = λ j h. absurd (omega arith)
tried-from i (x ∷ l) id = by (nat_eq x.id id) refl (tried-from (i + 1) l id)
  where
    past : (w : Option ℕ) → nat_eq x.id id ≡ false → TriedFrom (i + 1) l id w → TriedFrom i (x ∷ l) id w
    past None e h = none_more no_attempt (IsNot id) x l (eqb-false x.id id e) h
    past (Some p) e h = later no_attempt (Is id) i x l p h

    by : (b : Bool) → nat_eq x.id id ≡ b → TriedFrom (i + 1) l id (tried_from (i + 1) l id) → TriedFrom i (x ∷ l) id (cond b (Some i) (tried_from (i + 1) l id))
    by true e h = here no_attempt (Is id) i x l (eqb-true x.id id e)
    by false e h = past (tried_from (i + 1) l id) e h

abbrev pub Had : Attempts → ℕ → Option ℕ → Type 0
Had a id None = (j : ℕ) → j < attempts_in a → IsNot id (attempt_at a j)
Had a id (Some p) = (p < attempts_in a) × Is id (attempt_at a p)

pub tried-had : (a : Attempts) (id : ℕ) → Had a id (tried_of a id)
unfolding tried_of
tried-had a id = whole (tried_from 0 (tried a) id) (tried-from 0 (tried a) id)
  where
    whole : (w : Option ℕ) → TriedFrom 0 (tried a) id w → Had a id w
    whole None h = none-at no_attempt (IsNot id) a.count a.list h
    whole (Some p) h = member-at no_attempt (Is id) a.count a.list p h

-- so the place is inside the room
module _ (q : Queries) (id : ℕ) (t : Asked) (e : t ≡ asked_of q id) (p : ℕ) where
  pub own-inside : t ≡ who.Own p → p < length q.list
  own-inside h =
      let f : Found q id (who.Own p) = rw (sym e ∙ h) at (asked-found q id) in
      omega (arith, f.0)

  pub refresh-inside : t ≡ who.Refresh p → p < length q.list
  refresh-inside h =
      let f : Found q id (who.Refresh p) = rw (sym e ∙ h) at (asked-found q id) in
      omega (arith, f.0)

pub tried-inside : (a : Attempts) (id : ℕ) (t : Option ℕ) → t ≡ tried_of a id → (p : ℕ) → t ≡ Some p → p < length a.list
tried-inside a id t e p h =
    let f : Had a id (Some p) = rw (sym e ∙ h) at (tried-had a id) in
    omega (arith, f.0)

-- Looking for the record, or the attempt, that has an id: one a turn.
--     tried_here      the attempt at place i, among the first n; nothing cites it now, and docs/PORT.md names it
use Prim.Native.Nat.{ℕ, ◌+◌, ◌≤◌, ◌<◌}
use mathlib.Core.Path.{◌≡◌}
use mathlib.Core.Bool.{true, cond}
use mathlib.Core.List.{List}
use lib.Dec.{eqb as nat_eq}
use lib.ListN.{length, take, drop, get_or, drop_of_length-le}
use lib.Seq.{drop-cons}
use native.Mathlib.Numerals.{add-one}
use Rattle.std.specs.Prelude.{Option, Some, None}
use Rattle.records.specs.Queries.{no_query}
use Rattle.records.specs.declared.queries.Query.{Query}
use Rattle.records.proofs.Walk.{rest_more}
use Rattle.state.specs.State.{no_attempt}
use Rattle.state.specs.declared.attempts.Attempt.{Attempt}
use Rattle.input.specs.declared.Asked.TheVariants as who
use Rattle.input.specs.Input.{in_flight, asked_from, tried_from}

pub asked_step : (l : List Query) (i id : ℕ) → i < length l
    → asked_from i (drop i l) id ≡ cond (in_flight (get_or l i no_query).refresh id) (who.Refresh i) (cond (nat_eq (get_or l i no_query).id id) (who.Own i) (asked_from (i + 1) (drop (i + 1) l) id))
unfolding asked_from
asked_step l i id h = rw (drop-cons l i no_query, asked_from, add-one)

pub asked_end : (l : List Query) (i id : ℕ) → length l ≤ i → asked_from i (drop i l) id ≡ who.Nobody
unfolding asked_from
asked_end l i id h = rw (drop_of_length-le l {i = i} h)

pub tried_step : (l : List Attempt) (i id : ℕ) → i < length l
    → tried_from i (drop i l) id ≡ cond (nat_eq (get_or l i no_attempt).id id) (Some i) (tried_from (i + 1) (drop (i + 1) l) id)
unfolding tried_from
tried_step l i id h = rw (drop-cons l i no_attempt, tried_from, add-one)

pub tried_end : (l : List Attempt) (i id : ℕ) → length l ≤ i → tried_from i (drop i l) id ≡ None
unfolding tried_from
tried_end l i id h = rw (drop_of_length-le l {i = i} h)

-- the one at place i, among the first n of a list
module _ (id n : ℕ) (l : List Attempt) (i : ℕ) (t : Option ℕ) (p : tried_from i (drop i (take n l)) id ≡ t) where
  pub tried_here : i < n → i < length l → nat_eq (get_or l i no_attempt).id id ≡ true → Some i ≡ t
  unfolding tried_from
  tried_here h k e = rw (rest_more n l i no_attempt h k, e) at p

-- Looking at the records one after the other: what is noted of the first ones, with what there is in the rest, is what there is in all.
use Rattle.std.specs.Prelude.{Option, Some, None}
use Prim.Native.Nat.{ℕ, ◌+◌, ◌≤◌, ◌<◌}
use native.Mathlib.Numerals.{add-one}
use mathlib.Core.Path.{◌≡◌, refl, sym, ap, ◌∙◌}
use mathlib.Core.Bool.{Bool, true, false, not, cond, ◌&&◌, ◌||◌}
use mathlib.Core.List.{List, [], ◌∷◌}
use native.Mathlib.Omega.{arith}
use lib.Dec.{eqb as nat_eq}
use lib.ListN.{length, drop, get_or, drop_of_length-le}
use lib.Seq.{drop-cons}
use Rattle.records.specs.Lists.{some?}
use Rattle.records.specs.Numbers.{kind_number}
use Rattle.records.specs.Queries.{no_query, answered}
use Rattle.records.specs.declared.queries.Kind.{Kind}
use Rattle.records.specs.declared.queries.Kind.TheVariants.{Https, Aaaa, A}
use Rattle.records.specs.declared.queries.Answer.{Answer}
use Rattle.records.specs.declared.queries.Answer.TheVariants as answer
use Rattle.records.specs.declared.queries.Query.{Query}
use Rattle.records.specs.declared.queries.Queries.{Queries}
use Rattle.state.specs.State.{asked, tried, no_attempt, is_open}
use Rattle.state.specs.declared.attempts.Attempt.{Attempt}
use Rattle.state.specs.declared.attempts.Attempts.{Attempts}
use Rattle.starting.specs.declared.surveys.Kinds.{Kinds}
use Rattle.starting.specs.declared.surveys.Tries.{Tries}
use Rattle.starting.specs.declared.surveys.Asks.{Asks}
use Rattle.starting.specs.Surveys.{first_place, later_of, sooner_of, latest_of, oldest_of, starts, is_open_attempt, has_won_attempt, tries_of, is_kind, is_answered, is_answered_kind, kinds_of, came, answer_times, has_address, is_flying, is_due_query, asks_of}
use Rattle.starting.specs.Noting.{or_place, place_if, one_if, later_if, sooner_by, noted_attempt, no_kinds, with_kind, noted_query}

-- the rest from i on is the member at i and the rest behind it
rest : {A : Type 0} (l : List A) (i : ℕ) (d : A) → i < length l → drop i l ≡ get_or l i d ∷ drop (i + 1) l
rest l i d h = rw add-one (drop-cons l i d h)

-- one more of each kind: a test, a place, a number, a moment
or-more : (a b : Bool) (c : Bool) → (a || b) || c ≡ a || cond b true c
or-more true b c = refl
or-more false true c = refl
or-more false false c = refl

or-end : (a : Bool) → a || false ≡ a
or-end true = refl
or-end false = refl

place-more : (p : Option ℕ) (b : Bool) (i : ℕ) (q : Option ℕ) → or_place (or_place p (place_if b i)) q ≡ or_place p (cond b (Some i) q)
place-more None true i q = refl
place-more None false i q = refl
place-more (Some j) b i q = refl

place_end : (p : Option ℕ) → or_place p None ≡ p
place_end None = refl
place_end (Some j) = refl

abbrev later_both : Option ℕ → Option ℕ → Option ℕ
later_both None n = n
later_both (Some t) n = later_of t n

abbrev sooner_both : Option ℕ → Option ℕ → Option ℕ
sooner_both None n = n
sooner_both (Some t) n = sooner_of t n

later-one : (m : Option ℕ) (t : ℕ) (n : Option ℕ) → later_both (later_of t m) n ≡ later_both m (later_of t n)
later-one None t n = refl
later-one (Some u) t None = ap Some (omega arith)
later-one (Some u) t (Some v) = ap Some (omega arith)

sooner-one : (m : Option ℕ) (t : ℕ) (n : Option ℕ) → sooner_both (sooner_of t m) n ≡ sooner_both m (sooner_of t n)
sooner-one None t n = refl
sooner-one (Some u) t None = ap Some (omega arith)
sooner-one (Some u) t (Some v) = ap Some (omega arith)

later-end : (m : Option ℕ) → later_both m None ≡ m
later-end None = refl
later-end (Some t) = refl

sooner-end : (m : Option ℕ) → sooner_both m None ≡ m
sooner-end None = refl
sooner-end (Some t) = refl

-- Attempts

start-more : (m : Option ℕ) (b : Bool) (t : ℕ) (l : List ℕ) → later_both (later_if m b t) (latest_of l) ≡ later_both m (latest_of (cond b (t ∷ l) l))
unfolding latest_of
start-more m true t l = later-one m t (latest_of l)
start-more m false t l = refl

count-more : (n : ℕ) (b : Bool) (t : ℕ) (l : List ℕ) → n + one_if b + length l ≡ n + length (cond b (t ∷ l) l)
count-more n true t l = omega arith
count-more n false t l = omega arith

-- what is noted, and the rest, whose first place is i
unfoldable pub with_tried : Tries → ℕ → List Attempt → Tries
with_tried t i l =
    record {
      won = t.won || some? has_won_attempt l;
      active = t.active + length (starts l);
      latest = later_both t.latest (latest_of (starts l));
      first = or_place t.first (first_place is_open_attempt i l);
    }

tried-more : (t : Tries) (i : ℕ) (a : Attempt) (l : List Attempt) → with_tried (noted_attempt t a i) (i + 1) l ≡ with_tried t i (a ∷ l)
unfolding with_tried noted_attempt some? starts first_place
tried-more t i a l =
    rw (or-more t.won (has_won_attempt a) (some? has_won_attempt l), count-more t.active (is_open_attempt a) a.started (starts l), start-more t.latest (is_open_attempt a) a.started (starts l), place-more t.first (is_open_attempt a) i (first_place is_open_attempt (i + 1) l))

tried-end : (t : Tries) (i : ℕ) → with_tried t i [] ≡ t
unfolding with_tried some? starts first_place latest_of
tried-end t i = rw (or-end t.won, later-end t.latest, place_end t.first) (let z : t.active + 0 ≡ t.active = omega arith in ap (λ n. record { won = t.won; active = n; latest = t.latest; first = t.first }) z)

abbrev no_tries : Tries
no_tries = record { won = false; active = 0; latest = None; first = None }

all_tried : (a : Attempts) → with_tried no_tries 0 (tried a) ≡ tries_of a
unfolding with_tried tries_of
all_tried a = ap (λ n. record { won = some? has_won_attempt (tried a); active = n; latest = latest_of (starts (tried a)); first = first_place is_open_attempt 0 (tried a) }) (omega arith)

-- how far the code has come: what is noted, with the rest, is all
pub record Tried (l : List Attempt) (i : ℕ) (t : Tries) : Type 0 where
  pub few : t.active ≤ i
  pub rest : with_tried t i (drop i l) ≡ with_tried no_tries 0 l

one_at_most : (b : Bool) → one_if b ≤ 1
one_at_most true = omega arith
one_at_most false = omega arith

module _ (l : List Attempt) (i : ℕ) (t : Tries) (v : Tried l i t) where
  pub tried-all : length l ≤ i → (a : Attempts) → l ≡ tried a → t ≡ tries_of a
  tried-all h a f =
      sym (tried-end t i) ∙ (ap (with_tried t i) (sym (drop_of_length-le l {i = i} h)) ∙ (v.rest ∙ (ap (with_tried no_tries 0) f ∙ all_tried a)))

  pub tried-next : i < length l → (u : Tries) → u ≡ noted_attempt t (get_or l i no_attempt) i → Tried l (i + 1) u
  unfolding noted_attempt
  tried-next h u e =
      let x = get_or l i no_attempt in
      record {
        few = omega (arith, v.few, ap (λ w. w.active) e, one_at_most (is_open x.state));
        rest = ap (λ w. with_tried w (i + 1) (drop (i + 1) l)) e ∙ (tried-more t i x (drop (i + 1) l) ∙ (ap (with_tried t i) (sym (rest l i no_attempt h)) ∙ v.rest));
      }

-- Query records

answer-more : (m : Option ℕ) (a : Answer) (l : List ℕ) → sooner_both (sooner_by m a) (oldest_of l) ≡ sooner_both m (oldest_of (came a l))
unfolding oldest_of
answer-more m answer.Pending l = refl
answer-more m (answer.Failed t) l = sooner-one m t (oldest_of l)
answer-more m (answer.Held t n) l = sooner-one m t (oldest_of l)

-- the types, with one record more that has its type
abbrev with_kinds : Kinds → Kinds → Kinds
with_kinds k n = record { https = k.https || n.https; aaaa = k.aaaa || n.aaaa; a = k.a || n.a }

kinds-end : (k : Kinds) → with_kinds k (record { https = false; aaaa = false; a = false }) ≡ k
kinds-end k = rw (or-end k.https, or-end k.aaaa, or-end k.a)

abbrev test_kind : Kind → Kind → Bool → Bool
test_kind of kind on = nat_eq (kind_number kind) (kind_number of) && on

kinds-more : (k : Kinds) (kind : Kind) (on : Bool) (n : Kinds) → with_kinds (with_kind k kind on) n ≡ with_kinds k (record { https = cond (test_kind Https kind on) true n.https; aaaa = cond (test_kind Aaaa kind on) true n.aaaa; a = cond (test_kind A kind on) true n.a })
kinds-more k Https on n = rw (or-more k.https on n.https)
kinds-more k Aaaa on n = rw (or-more k.aaaa on n.aaaa)
kinds-more k A on n = rw (or-more k.a on n.a)

-- what is noted, and the rest, whose first place is i
unfoldable pub with_asked : Asks → ℕ → List Query → Asks
with_asked s i l =
    record {
      asked = with_kinds s.asked (kinds_of is_kind l);
      answered = with_kinds s.answered (kinds_of is_answered_kind l);
      pending = s.pending || some? (λ x. not (is_answered x)) l;
      flying = s.flying || some? (λ x. is_flying x.refresh) l;
      address = s.address || some? (λ x. has_address x.answer) l;
      oldest = sooner_both s.oldest (oldest_of (answer_times l));
      due = or_place s.due (first_place is_due_query i l);
    }

and-true : (b : Bool) → b && true ≡ b
and-true true = refl
and-true false = refl

asked-kinds : (k : Kinds) (q : Query) (l : List Query) → with_kinds (with_kind k q.kind true) (kinds_of is_kind l) ≡ with_kinds k (kinds_of is_kind (q ∷ l))
unfolding some?
asked-kinds k q l = rw (← and-true (is_kind Https q), ← and-true (is_kind Aaaa q), ← and-true (is_kind A q)) (kinds-more k q.kind true (kinds_of is_kind l))

answered-kinds : (k : Kinds) (q : Query) (l : List Query) → with_kinds (with_kind k q.kind (answered q.answer)) (kinds_of is_answered_kind l) ≡ with_kinds k (kinds_of is_answered_kind (q ∷ l))
unfolding some?
answered-kinds k q l = kinds-more k q.kind (answered q.answer) (kinds_of is_answered_kind l)

asked-more : (s : Asks) (i : ℕ) (q : Query) (l : List Query) → with_asked (noted_query s q i) (i + 1) l ≡ with_asked s i (q ∷ l)
unfolding with_asked noted_query some? answer_times first_place
asked-more s i q l =
    rw (
      asked-kinds s.asked q l,
      answered-kinds s.answered q l,
      or-more s.pending (not (is_answered q)) (some? (λ x. not (is_answered x)) l),
      or-more s.flying (is_flying q.refresh) (some? (λ x. is_flying x.refresh) l),
      or-more s.address (has_address q.answer) (some? (λ x. has_address x.answer) l),
      answer-more s.oldest q.answer (answer_times l),
      place-more s.due (is_due_query q) i (first_place is_due_query (i + 1) l),
    )

asked-end : (s : Asks) (i : ℕ) → with_asked s i [] ≡ s
unfolding with_asked some? answer_times oldest_of first_place
asked-end s i = rw (kinds-end s.asked, kinds-end s.answered, or-end s.pending, or-end s.flying, or-end s.address, sooner-end s.oldest, place_end s.due)

abbrev no_asks : Asks
no_asks = record { asked = no_kinds; answered = no_kinds; pending = false; flying = false; address = false; oldest = None; due = None }

all_asked : (q : Queries) → with_asked no_asks 0 (asked q) ≡ asks_of q
unfolding with_asked asks_of
all_asked q = refl

abbrev pub Asked : List Query → ℕ → Asks → Type 0
Asked l i s = with_asked s i (drop i l) ≡ with_asked no_asks 0 l

module _ (l : List Query) (i : ℕ) (s : Asks) (v : Asked l i s) where
  pub asked-all : length l ≤ i → (q : Queries) → l ≡ asked q → s ≡ asks_of q
  asked-all h q f =
      sym (asked-end s i) ∙ (ap (with_asked s i) (sym (drop_of_length-le l {i = i} h)) ∙ (v ∙ (ap (with_asked no_asks 0) f ∙ all_asked q)))

  pub asked-next : i < length l → (u : Asks) → u ≡ noted_query s (get_or l i no_query) i → Asked l (i + 1) u
  asked-next h u e =
      let x = get_or l i no_query in
      ap (λ w. with_asked w (i + 1) (drop (i + 1) l)) e ∙ (asked-more s i x (drop (i + 1) l) ∙ (ap (with_asked s i) (sym (rest l i no_query h)) ∙ v))

-- A test of the members of a list, one after the other
module _ {A : Type 0} (d : A) (test : A → Bool) (l : List A) (i : ℕ) (b t : Bool) (p : b || some? test (drop i l) ≡ t) where
  pub some-next : i < length l → (u : Bool) → u ≡ b || test (get_or l i d) → u || some? test (drop (i + 1) l) ≡ t
  unfolding some?
  some-next h u e = ap (λ w. w || some? test (drop (i + 1) l)) e ∙ (or-more b (test (get_or l i d)) (some? test (drop (i + 1) l)) ∙ (ap (λ w. b || some? test w) (sym (rest l i d h)) ∙ p))

  pub some-all : length l ≤ i → b ≡ t
  unfolding some?
  some-all h = sym (or-end b) ∙ (ap (λ w. b || some? test w) (sym (drop_of_length-le l {i = i} h)) ∙ p)

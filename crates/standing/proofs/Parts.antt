-- The rules one by one: each group as a record of facts, and back. Steps are proved on the facts.
use Prim.Native.Nat.{ℕ, suc, ◌+◌, ◌<◌, ◌≤◌}
use mathlib.Core.Path.{◌≡◌, refl, ap, ◌∙◌}
use mathlib.Core.Bool.{Bool, true, false}
use mathlib.Core.List.{List, [], ◌∷◌, ◌++◌, map}
use native.Mathlib.Numerals.{add-one}
use native.Mathlib.Omega.{arith}
use lib.Dec.{eqb as nat_eq, ltb as nat_lt}
use lib.ListN.{length, get_or, drop, set, replicate, length-set, length-drop, length-replicate}
use lib.Seq.{drop-set-lt, get_or-drop}
use borrow.Author.Tests.{leb-true, eqb-true, eq-eqb, le-leb}
use Rattle.records.specs.declared.rules.Alts.{Alts}
use Rattle.records.specs.declared.queries.Queries.{Queries}
use Rattle.records.specs.declared.queries.Answers.{Answers}
use Rattle.records.specs.declared.services.Services.{Services}
use Rattle.records.specs.declared.names.Names.{Names}
use Rattle.records.specs.declared.names.Echs.{Echs}
use Rattle.state.specs.State.{asked, tried, retries_of}
use Rattle.state.specs.declared.Machine.{Machine}
use Rattle.state.specs.declared.attempts.Attempt.{Attempt}
use Rattle.state.specs.declared.attempts.Attempts.{Attempts}
use Rattle.state.specs.declared.attempts.Retries.{Retries}
use Rattle.standing.specs.Lists.{every, every_at, apart, total}
use Rattle.standing.specs.Standing.{fits, zero?, empty_alt, empty_query, empty_service, empty_attempt, roomy, ids_of, begun, numbered, Key, keys, one_each, https_first, origin_first, tidy_query, addressed, recorded, won, refused, opened, retried, phase, holding, named_key, attempt_in, name_stands, ech_stands, placed, served, tabled, configured, standing}
use Rattle.standing.proofs.Lists.{rule, all2, all3, all4, all5, all10, every-at, every_drop, every-replicate, Grows, grown-apart, grown-below, shrunk-apart, shrunk-every}

-- Numbers as they are, tests of lists as tests
pub record Fits {A : Type 0} (n : ℕ) (empty : A → Bool) (count : ℕ) (l : List A) : Type 0 where
  pub size : length l ≡ n
  pub few : count ≤ n
  pub rest : every empty (drop count l) ≡ true

module _ {A : Type 0} {n : ℕ} {empty : A → Bool} {count : ℕ} {l : List A} where
  pub fits-of : Fits n empty count l → fits n empty count l ≡ true
  unfolding fits
  fits-of f = all3 (eq-eqb _ _ f.size) (le-leb _ _ f.few) f.rest

pub to-fits : {A : Type 0} (n : ℕ) (empty : A → Bool) (count : ℕ) (l : List A) → fits n empty count l ≡ true → Fits n empty count l
unfolding fits
to-fits n empty count l h = record { size = eqb-true _ _ (rule 0 _ h); few = leb-true _ _ (rule 1 _ h); rest = rule 2 _ h }

pub record Roomy (l : Alts) (q : Queries) (s : Services) (a : Attempts) (r : Retries) : Type 0 where
  pub alts : Fits 4 empty_alt l.count l.list
  pub queries : Fits 16 empty_query q.count q.list
  pub services : Fits 4 empty_service s.count s.list
  pub attempts : Fits 32 empty_attempt a.count a.list
  pub retries : Fits 32 zero? r.count r.list

roomy_of : {l : Alts} {q : Queries} {s : Services} {a : Attempts} {r : Retries} → Roomy l q s a r → roomy l q s a r ≡ true
unfolding roomy
roomy_of f = all5 (fits-of f.alts) (fits-of f.queries) (fits-of f.services) (fits-of f.attempts) (fits-of f.retries)

to-roomy : (l : Alts) (q : Queries) (s : Services) (a : Attempts) (r : Retries) → roomy l q s a r ≡ true → Roomy l q s a r
unfolding roomy
to-roomy l q s a r h =
    record {
      alts = to-fits _ _ _ _ (rule 0 _ h);
      queries = to-fits _ _ _ _ (rule 1 _ h);
      services = to-fits _ _ _ _ (rule 2 _ h);
      attempts = to-fits _ _ _ _ (rule 3 _ h);
      retries = to-fits _ _ _ _ (rule 4 _ h);
    }

pub record Numbered (next : ℕ) (q : Queries) (a : Attempts) : Type 0 where
  pub distinct : apart nat_eq (ids_of q a) ≡ true
  pub below : every (λ i. nat_lt i next) (ids_of q a) ≡ true
  pub sum : next ≡ q.count + total begun (asked q) + a.count

numbered_of : {next : ℕ} {q : Queries} {a : Attempts} → Numbered next q a → numbered next q a ≡ true
unfolding numbered
numbered_of f = all3 f.distinct f.below (eq-eqb _ _ f.sum)

to-numbered : (next : ℕ) (q : Queries) (a : Attempts) → numbered next q a ≡ true → Numbered next q a
unfolding numbered
to-numbered next q a h = record { distinct = rule 0 _ h; below = rule 1 _ h; sum = eqb-true _ _ (rule 2 _ h) }

pub record Recorded (names : Names) (q : Queries) (d : Answers) : Type 0 where
  pub one : one_each names (keys q) ≡ true
  pub https : https_first (keys q) ≡ true
  pub tidied : every tidy_query (asked q) ≡ true
  pub size : length d.list ≡ 16
  pub zeros : addressed q d ≡ true

recorded-of : {names : Names} {q : Queries} {d : Answers} → Recorded names q d → recorded names q d ≡ true
unfolding recorded
recorded-of f = all5 f.one f.https f.tidied (eq-eqb _ _ f.size) f.zeros

to-recorded : (names : Names) (q : Queries) (d : Answers) → recorded names q d ≡ true → Recorded names q d
unfolding recorded
to-recorded names q d h = record { one = rule 0 _ h; https = rule 1 _ h; tidied = rule 2 _ h; size = eqb-true _ _ (rule 3 _ h); zeros = rule 4 _ h }

pub record Retried (a : Attempts) (r : Retries) : Type 0 where
  pub failures : every (λ i. get_or (map refused (tried a)) i false) (retries_of r) ≡ true
  pub once : apart nat_eq (retries_of r) ≡ true
  pub fewer : r.count + total opened (tried a) ≤ a.count

retried-of : {a : Attempts} {r : Retries} → Retried a r → retried a r ≡ true
unfolding retried
retried-of f = all3 f.failures f.once (le-leb _ _ f.fewer)

to-retried : (a : Attempts) (r : Retries) → retried a r ≡ true → Retried a r
unfolding retried
to-retried a r h = record { failures = rule 0 _ h; once = rule 1 _ h; fewer = leb-true _ _ (rule 2 _ h) }

pub record Placed (k : ℕ) (ks : List Key) (tries : List Attempt) (retries : List ℕ) : Type 0 where
  pub names : every (named_key k) ks ≡ true
  pub ends : every (attempt_in k retries) tries ≡ true

placed_of : {k : ℕ} {ks : List Key} {tries : List Attempt} {retries : List ℕ} → Placed k ks tries retries → placed k ks tries retries ≡ true
unfolding placed
placed_of f = all2 f.names f.ends

to-placed : (k : ℕ) (ks : List Key) (tries : List Attempt) (retries : List ℕ) → placed k ks tries retries ≡ true → Placed k ks tries retries
unfolding placed
to-placed k ks tries retries h = record { names = rule 0 _ h; ends = rule 1 _ h }

pub record Tabled (k : ℕ) (retries : List ℕ) (n : Names) (e : Echs) : Type 0 where
  pub name_room : length n.list ≡ 14
  pub names : every_at (name_stands k) 0 n.list ≡ true
  pub ech_room : length e.list ≡ 40
  pub echs : every_at (ech_stands k retries) 0 e.list ≡ true

tabled-of : {k : ℕ} {retries : List ℕ} {n : Names} {e : Echs} → Tabled k retries n e → tabled k retries n e ≡ true
unfolding tabled
tabled-of f = all4 (eq-eqb _ _ f.name_room) f.names (eq-eqb _ _ f.ech_room) f.echs

to-tabled : (k : ℕ) (retries : List ℕ) (n : Names) (e : Echs) → tabled k retries n e ≡ true → Tabled k retries n e
unfolding tabled
to-tabled k retries n e h = record { name_room = eqb-true _ _ (rule 0 _ h); names = rule 1 _ h; ech_room = eqb-true _ _ (rule 2 _ h); echs = rule 3 _ h }

-- The whole
pub record Standing (m : Machine) : Type 0 where
  pub room : Roomy m.alts m.queries m.services m.attempts m.retries
  pub numbers : Numbered m.ids.next m.queries m.attempts
  pub records : Recorded m.names m.queries m.answers
  pub order : origin_first m.rules (keys m.queries) ≡ true
  pub winner : won m.attempts ≡ true
  pub again : Retried m.attempts m.retries
  pub places : Placed (phase m.queries) (keys m.queries) (tried m.attempts) (retries_of m.retries)
  pub services : served (phase m.queries) (holding m.queries) m.services ≡ true
  pub tables : Tabled (phase m.queries) (retries_of m.retries) m.names m.echs
  pub settings : configured m.rules m.alts m.names ≡ true

pub stands : {m : Machine} → Standing m → standing m ≡ true
unfolding standing
stands s =
    all10 (roomy_of s.room) (numbered_of s.numbers) (recorded-of s.records) s.order s.winner (retried-of s.again) (placed_of s.places) s.services
    (tabled-of s.tables) s.settings

pub parts : (m : Machine) → standing m ≡ true → Standing m
unfolding standing
parts m h =
    record {
      room = to-roomy _ _ _ _ _ (rule 0 _ h);
      numbers = to-numbered _ _ _ (rule 1 _ h);
      records = to-recorded _ _ _ (rule 2 _ h);
      order = rule 3 _ h;
      winner = rule 4 _ h;
      again = to-retried _ _ (rule 5 _ h);
      places = to-placed _ _ _ _ (rule 6 _ h);
      services = rule 7 _ h;
      tables = to-tabled _ _ _ _ (rule 8 _ h);
      settings = rule 9 _ h;
    }

-- Room: none yet, one more, one changed, and the next place

pub zeros-fit : {A : Type 0} (n : ℕ) (empty : A → Bool) (x : A) → empty x ≡ true → Fits n empty 0 (replicate n x)
zeros-fit n empty x e = record { size = length-replicate n x; few = omega arith; rest = every-replicate empty n x e }

module _ {A : Type 0} {n : ℕ} {empty : A → Bool} {count : ℕ} {l : List A} (f : Fits n empty count l) where
  pub fits_more : (x : A) → count < n → Fits n empty (count + 1) (set l count x)
  fits_more x b =
      record {
        size = rw length-set f.size;
        few = omega arith;
        rest = rw (add-one, drop-set-lt (suc count) l count x (omega arith)) (every_drop empty count l f.rest);
      }

  pub fits-put : (i : ℕ) (x : A) → i < count → Fits n empty count (set l i x)
  fits-put i x b = record { size = rw length-set f.size; few = f.few; rest = rw (drop-set-lt count l i x b) f.rest }

  pub fits_next : (d : A) → count < n → empty (get_or l count d) ≡ true
  fits_next d b =
      let z : count + 0 ≡ count = omega arith in
      let e : get_or (drop count l) 0 d ≡ get_or l count d = get_or-drop count l 0 d ∙ ap (λ k. get_or l k d) z in
      let k : 0 < length (drop count l) = rw length-drop (omega (arith, f.size)) in
      rw e at (every-at empty (drop count l) 0 d k f.rest)

-- the first of a list is the first of a longer one, and of none the default
pub first_more : {B : Type 0} (l : List B) (d : B) → get_or (l ++ (d ∷ [])) 0 d ≡ get_or l 0 d
first_more [] d = refl
first_more (x ∷ l) d = refl

-- Ids

abbrev pub taken : Queries → Attempts → ℕ
taken q a = q.count + total begun (asked q) + a.count

module _ {next : ℕ} {q : Queries} {a : Attempts} (h : Numbered next q a) (p : Queries) (b : Attempts) where
  -- one more: the next
  pub numbers_more : Grows (ids_of q a) next (ids_of p b) → taken p b ≡ taken q a + 1 → Numbered (next + 1) p b
  numbers_more g e = record { distinct = grown-apart g h.below h.distinct; below = grown-below g h.below; sum = omega (arith, h.sum) }

  -- one less: that of a refresh that is done
  pub numbers-less : {i : ℕ} → Grows (ids_of p b) i (ids_of q a) → taken p b ≡ taken q a → Numbered next p b
  numbers-less g e = record { distinct = shrunk-apart g h.distinct; below = shrunk-every g (λ i. nat_lt i next) h.below; sum = omega (arith, h.sum) }

  -- the same
  pub numbers-same : ids_of p b ≡ ids_of q a → taken p b ≡ taken q a → Numbered next p b
  numbers-same i e = record { distinct = rw i h.distinct; below = rw i h.below; sum = omega (arith, h.sum) }

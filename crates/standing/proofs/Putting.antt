-- A record that changes and keeps its name, its type and what it brought keeps the rules, if its own do: a refresh begins, an answer comes.
use Prim.Native.Nat.{ℕ, suc, ◌+◌, ◌<◌, ◌≤◌}
use mathlib.Core.Path.{◌≡◌, ap, ◌∙◌}
use mathlib.Core.Bool.{true, false}
use mathlib.Core.List.{List, ◌++◌, map, append_assoc}
use native.Mathlib.Omega.{arith}
use lib.ListN.{length, get_or, take, drop}
use lib.Seq.{take-set-lt, get_or-take}
use Rattle.pacing.specs.declared.id.IdGenerator.{IdGenerator}
use Rattle.records.specs.Lists.{each}
use Rattle.records.specs.Queries.{no_query}
use Rattle.records.specs.declared.queries.Query.{Query}
use Rattle.records.specs.declared.queries.Queries.{Queries}
use Rattle.records.specs.declared.queries.Answers.{Answers}
use Rattle.state.specs.State.{asked, tried}
use Rattle.state.specs.declared.Machine.{Machine}
use Rattle.state.specs.declared.attempts.Attempts.{Attempts}
use Rattle.input.specs.Input.{record_at}
use Rattle.standing.specs.Lists.{every, total}
use Rattle.standing.specs.Standing.{record_ids, attempt_id, ids_of, begun, key_of, keys, tidy_query, addressed, query_phase, phase, query_holds, holding}
use Rattle.standing.proofs.Lists.{every-at, every_set, used-same, used-length, total-set, each_at, each_set}
use Rattle.standing.proofs.Parts.{Standing, Numbered, fits-put}
use Rattle.standing.proofs.Tables.{put}

regroup : (a b c d : List ℕ) → (a ++ (b ++ c)) ++ d ≡ a ++ (b ++ (c ++ d))
regroup a b c d = simp append_assoc

-- what a record adds to the ids and to the refreshes begun
module _ (q : Queries) (i : ℕ) (b : i < q.count) (fit : q.count ≤ length q.list) where
  inside : i < length (asked q)
  inside = rw (used-length q.list q.count fit) b

  same_at : get_or (asked q) i no_query ≡ record_at q i
  same_at = get_or-take q.count q.list i no_query b

  pub front : List ℕ
  front = each record_ids (take i (asked q))

  pub back : Attempts → List ℕ
  back a = each record_ids (drop (suc i) (asked q)) ++ map attempt_id (tried a)

  pub ids_at : (a : Attempts) → ids_of q a ≡ front ++ (record_ids (record_at q i) ++ back a)
  unfolding ids_of front back
  ids_at a =
      ap (λ l. l ++ map attempt_id (tried a)) (each_at record_ids (asked q) i no_query inside ∙ ap (λ y. front ++ (record_ids y ++ each record_ids (drop (suc i) (asked q)))) same_at)
      ∙ regroup front (record_ids (record_at q i)) (each record_ids (drop (suc i) (asked q))) (map attempt_id (tried a))

  pub ids-put : (a : Attempts) (x : Query) → ids_of (put q i x) a ≡ front ++ (record_ids x ++ back a)
  unfolding ids_of front back
  ids-put a x =
      ap (λ l. each record_ids l ++ map attempt_id (tried a)) (take-set-lt q.count q.list i x b)
      ∙ ap (λ l. l ++ map attempt_id (tried a)) (each_set record_ids (asked q) i x inside)
      ∙ regroup front (record_ids x) (each record_ids (drop (suc i) (asked q))) (map attempt_id (tried a))

  pub begun-put : (x : Query) → total begun (asked (put q i x)) + begun (record_at q i) ≡ total begun (asked q) + begun x
  begun-put x = rw (take-set-lt q.count q.list i x b, ← same_at) (total-set begun (asked q) i x no_query inside)

  pub tidy-at : every tidy_query (asked q) ≡ true → tidy_query (record_at q i) ≡ true
  tidy-at h = rw same_at at (every-at tidy_query (asked q) i no_query inside h)

  pub tidy-put : (x : Query) → tidy_query x ≡ true → every tidy_query (asked q) ≡ true → every tidy_query (asked (put q i x)) ≡ true
  tidy-put x e h = rw (take-set-lt q.count q.list i x b) (every_set tidy_query (asked q) i x e h)

-- the machine with other records, addresses and next id
abbrev pub with_records : Machine → IdGenerator → Queries → Answers → Machine
with_records m ids q d =
    record {
      rules = m.rules;
      timing = m.timing;
      alts = m.alts;
      ids = ids;
      queries = q;
      answers = d;
      services = m.services;
      attempts = m.attempts;
      retries = m.retries;
      names = m.names;
      echs = m.echs;
    }

module _ (m : Machine) (h : Standing m) (i : ℕ) (b : i < m.queries.count) (x : Query)
    (key : key_of x ≡ key_of (record_at m.queries i)) (come : query_phase x ≡ query_phase (record_at m.queries i)) (holds : query_holds x ≡ query_holds (record_at m.queries i))
    (tidied : tidy_query x ≡ true) (next : IdGenerator) (d : Answers) (numbers : Numbered next.next (put m.queries i x) m.attempts) (size : length d.list ≡ 16)
    (zeros : addressed (put m.queries i x) d ≡ true) where
  abbrev q : Queries
  q = m.queries

  fit : q.count ≤ length q.list
  fit = omega (arith, h.room.queries.size, h.room.queries.few)

  same_keys : keys (put q i x) ≡ keys q
  unfolding keys
  same_keys = used-same key_of q.list q.count i x no_query b key

  same-phase : phase (put q i x) ≡ phase q
  unfolding phase
  same-phase = ap (λ l. get_or l 0 0) (used-same query_phase q.list q.count i x no_query b come)

  same-holding : holding (put q i x) ≡ holding q
  unfolding holding
  same-holding = ap (λ l. get_or l 0 false) (used-same query_holds q.list q.count i x no_query b holds)

  pub put-stands : Standing (with_records m next (put q i x) d)
  put-stands =
      record {
        room = record { alts = h.room.alts; queries = fits-put h.room.queries i x b; services = h.room.services; attempts = h.room.attempts; retries = h.room.retries };
        numbers = numbers;
        records = record { one = rw same_keys h.records.one; https = rw same_keys h.records.https; tidied = tidy-put q i b fit x tidied h.records.tidied; size = size; zeros = zeros };
        order = rw same_keys h.order;
        winner = h.winner;
        again = h.again;
        places = rw (same-phase, same_keys) h.places;
        services = rw (same-phase, same-holding) h.services;
        tables = rw same-phase h.tables;
        settings = h.settings;
      }

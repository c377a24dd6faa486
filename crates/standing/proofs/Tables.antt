-- A table after a change: one more, or one changed. The next id doesn't wrap.
use Prim.Native.Nat.{ℕ, ◌+◌, ◌%◌, ◌^◌, ◌<◌, ◌≤◌}
use mathlib.Core.Path.{◌≡◌}
use mathlib.Core.Bool.{Bool, true, false, cond}
use native.Mathlib.Nat.{mod-eq_of_lt}
use native.Mathlib.Omega.{arith}
use lib.ListN.{set}
use borrow.Author.Tests.{lt-ltb, le-ltb}
use Rattle.records.specs.declared.queries.Query.{Query}
use Rattle.records.specs.declared.queries.Queries.{Queries}
use Rattle.state.specs.State.{asked}
use Rattle.state.specs.declared.Machine.{Machine}
use Rattle.state.specs.declared.attempts.Attempt.{Attempt}
use Rattle.state.specs.declared.attempts.Attempts.{Attempts}
use Rattle.state.specs.declared.attempts.Retries.{Retries}
use Rattle.after.specs.After.{put_query, put_attempt, put_retry}
use Rattle.standing.specs.Standing.{idle, begun}
use Rattle.standing.proofs.Lists.{total-few, used-length}
use Rattle.standing.proofs.Parts.{Standing}

-- one more at the end, and another at a place that is in use
abbrev pub push : Queries → Query → Queries
push q x = record { count = q.count + 1; list = set q.list q.count x }

abbrev pub put : Queries → ℕ → Query → Queries
put q i x = record { count = q.count; list = set q.list i x }

abbrev pub push_attempt : Attempts → Attempt → Attempts
push_attempt a x = record { count = a.count + 1; list = set a.list a.count x }

abbrev pub change_attempt : Attempts → ℕ → Attempt → Attempts
change_attempt a i x = record { count = a.count; list = set a.list i x }

abbrev pub push_retry : Retries → ℕ → Retries
push_retry r i = record { count = r.count + 1; list = set r.list r.count i }

pub query-more : (q : Queries) (x : Query) → q.count < 16 → put_query q q.count x ≡ push q x
unfolding put_query
query-more q x h = rw (lt-ltb q.count 16 h, le-ltb q.count q.count (omega arith))

pub query-put : (q : Queries) (i : ℕ) (x : Query) → i < q.count → q.count ≤ 16 → put_query q i x ≡ put q i x
unfolding put_query
query-put q i x h k = rw (lt-ltb i 16 (omega arith), lt-ltb i q.count h)

pub attempt-more : (a : Attempts) (x : Attempt) → a.count < 32 → put_attempt a a.count x ≡ push_attempt a x
unfolding put_attempt
attempt-more a x h = rw (lt-ltb a.count 32 h, le-ltb a.count a.count (omega arith))

pub attempt-put : (a : Attempts) (i : ℕ) (x : Attempt) → i < a.count → a.count ≤ 32 → put_attempt a i x ≡ change_attempt a i x
unfolding put_attempt
attempt-put a i x h k = rw (lt-ltb i 32 (omega arith), lt-ltb i a.count h)

pub retry-more : (r : Retries) (i : ℕ) → r.count < 32 → i < 32 → put_retry r r.count i ≡ push_retry r i
unfolding put_retry
retry-more r i h k = rw (lt-ltb r.count 32 h, lt-ltb i 32 k)

begun-one : (x : Query) → begun x ≤ 1
begun-one x = go (idle x.refresh)
  where
    go : (b : Bool) → cond b 0 1 ≤ 1
    go true = omega arith
    go false = omega arith

-- 16 + 16 + 32 ids at most
pub next-id : (m : Machine) → Standing m → (m.ids.next + 1) % 2 ^ 64 ≡ m.ids.next + 1
next-id m h =
    let l = used-length m.queries.list m.queries.count (omega (arith, h.room.queries.size, h.room.queries.few)) in
    let few : m.ids.next + 1 < 2 ^ 64 = omega (arith, h.numbers.sum, total-few begun begun-one (asked m.queries), l, h.room.queries.few, h.room.attempts.few) in
    mod-eq_of_lt few

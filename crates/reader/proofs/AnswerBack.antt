-- A whole answer that is written is read back.
--     answer_back     what is read says what was written, and ends after its bytes
--     one_answer      answers with the same bytes are the same
--     put_back        what the writer puts into a buffer is read back from it
use mathlib.Core.Path.{◌≡◌, refl, sym, ap, ◌∙◌}
use mathlib.Core.Bool.{Bool}
use mathlib.Core.List.{List, [], ◌∷◌, ◌++◌, append_assoc}
use Prim.Native.Nat.{ℕ, ◌+◌, ◌^◌, ◌≤◌, ◌<◌}
use native.Mathlib.Omega.{arith}
use lib.Dec.{eqb as nat_eq}
use borrow.Author.Tests.{ne_eqb}
use lib.ListN.{length, take, drop}
use lib.Seq.{sets-eq, length-sets, length-take-le, drop-append_seam}
use Rattle.numbers.specs.Got.{got, and_then}
use Rattle.numbers.specs.Numbers.{number_bytes}
use Rattle.numbers.specs.Put.{put_bytes}
use Rattle.numbers.specs.Refusals.{out_of_range}
use Rattle.numbers.proofs.PutLaws.{room}
use Rattle.numbers.proofs.Steps.{went_on}
use Rattle.records.specs.Endpoints.{Shown}
use Rattle.records.specs.Numbers.{kind_number}
use Rattle.machine.specs.declared.wish.Reason.{Reason}
use Rattle.machine.specs.declared.wish.Reason.TheVariants.{Dns, Connection}
use Rattle.machine.specs.declared.grant.Table.{Table}
use Rattle.machine.specs.declared.grant.Table.TheVariants as table
use Rattle.parts.proofs.Back.{There, there-all}
use Rattle.answers.specs.Answers.{Said, waiting, query, timer, attempt, cancel, succeeded, failed, full, input, Field, number, raw, bit, reason_number, table_number, fields, joined, answer_bytes}
use Rattle.reader.specs.Reading.{reason_of, table_of, chosen_at, attempt_at, most_of, rest_at, kind_at, answer_at}
use Rattle.reader.specs.Saying.{said_in, Fits}
use Rattle.reader.specs.declared.Answer.{Answer}
use Rattle.reader.specs.declared.Answer.TheVariants.{Waiting, Timer, Attempt, Cancel, Succeeded, Failed, Full, Taken}
use Rattle.reader.proofs.Back.{Back, number-after, number-ends, number-reads, query-back, endpoint_fields, endpoint-back, bit-back, bit-few, reason-back, table-back}

pub attempt-back : (s : List ℕ) (p id : ℕ) (retry : Bool) (e : Shown) → Fits (attempt id retry e) → There s p (joined (number (bit retry) ∷ endpoint_fields e))
    → Back s p (number (bit retry) ∷ endpoint_fields e) (attempt_at s id p) (λ a. said_in s a ≡ attempt id retry e)
unfolding attempt_at
attempt-back s p id retry e ok h =
    let q = p + length (number_bytes (bit retry)) in
    let x = endpoint-back s q e ok.1 ok.2 ok.3 (number-after s p (bit retry) (endpoint_fields e) h) in
    let v = Attempt id (nat_eq (bit retry) 1) x.value in
    record {
      value = v;
      reads = ap (got v) (sym (number-ends s p (bit retry) (endpoint_fields e) h)) ∙ went_on _ _ _ x.reads
          ∙ went_on _ _ _ (number-reads s p (bit retry) (endpoint_fields e) h 1 out_of_range (bit-few retry) (omega arith));
      right = rw (bit-back retry, x.right) refl;
    }

reason-few : (r : Reason) → reason_number r ≤ 1
reason-few Dns = omega arith
reason-few Connection = omega arith

table-few : (t : Table) → table_number t ≤ 1
table-few table.Queries = omega arith
table-few table.Attempts = omega arith

-- a kind that is neither 0 nor 5 has a number after it
more : (s : List ℕ) (kind at : ℕ) → (kind ≡ 0 → ⊥) → (kind ≡ 5 → ⊥) → and_then (chosen_at s (most_of kind) at) (rest_at s kind) ≡ kind_at s kind at
unfolding kind_at
more s kind at n m = simp (ne_eqb kind 0 n, ne_eqb kind 5 m)

module _ (s : List ℕ) (p : ℕ) where
  -- an answer that is its kind alone
  alone : {a : Said} (k : ℕ) (v : Answer) → There s p (joined (number k ∷ [])) → k ≤ 8 → got v (p + length (number_bytes k)) ≡ kind_at s k (p + length (number_bytes k)) → said_in s v ≡ a
      → Back s p (number k ∷ []) (answer_at s p) (λ v. said_in s v ≡ a)
  unfolding answer_at joined
  alone k v h few r e =
      let q = p + length (number_bytes k) in
      let end : q ≡ p + length (joined (number k ∷ [])) = omega (arith, number-ends s p k [] h) in
      record { value = v; reads = ap (got v) (sym end) ∙ r ∙ went_on (kind_at s) k q (number-reads s p k [] h 8 out_of_range few (omega arith)); right = e }

  -- an answer after its kind and the number that follows it
  after : {a : Said} (k n : ℕ) (fs : List Field) → There s p (joined (number k ∷ number n ∷ fs)) → k ≤ 8 → (k ≡ 0 → ⊥) → (k ≡ 5 → ⊥) → n ≤ most_of k → most_of k < 2 ^ 64
      → Back s (p + length (number_bytes k) + length (number_bytes n)) fs (rest_at s k n (p + length (number_bytes k) + length (number_bytes n))) (λ v. said_in s v ≡ a)
      → Back s p (number k ∷ number n ∷ fs) (answer_at s p) (λ v. said_in s v ≡ a)
  unfolding answer_at
  after k n fs h few not0 not5 l m b =
      let p1 = p + length (number_bytes k) in
      let h1 = number-after s p k (number n ∷ fs) h in
      let p2 = p1 + length (number_bytes n) in
      let end : p2 + length (joined fs) ≡ p + length (joined (number k ∷ number n ∷ fs)) = omega (arith, number-ends s p k (number n ∷ fs) h, number-ends s p1 n fs h1) in
      record {
        value = b.value;
        reads = ap (got b.value) (sym end) ∙ b.reads ∙ went_on (rest_at s k) n p2 (number-reads s p1 n fs h1 (most_of k) out_of_range l m)
            ∙ more s k p1 not0 not5
            ∙ went_on (kind_at s) k p1 (number-reads s p k (number n ∷ fs) h 8 out_of_range few (omega arith));
        right = b.right;
      }

  -- nothing follows the number
  last : {a : Said} (k n : ℕ) (v : Answer) (q : ℕ) → got v q ≡ rest_at s k n q → said_in s v ≡ a → Back s q [] (rest_at s k n q) (λ v. said_in s v ≡ a)
  unfolding joined
  last k n v q r e = let z : q + 0 ≡ q = omega arith in record { value = v; reads = ap (got v) z ∙ r; right = e }

  fields_back : (a : Said) → Fits a → There s p (joined (fields a)) → Back s p (fields a) (answer_at s p) (λ v. said_in s v ≡ a)
  unfolding most_of rest_at kind_at
  fields_back waiting ok h = alone 0 Waiting h (omega arith) refl refl
  fields_back (query id kind stale name) ok h =
      let fs = number (kind_number kind) ∷ number (bit stale) ∷ number (length name) ∷ raw name ∷ [] in
      let q = p + length (number_bytes 1) + length (number_bytes id) in
      let h1 = number-after s p 1 (number id ∷ fs) h in
      let b = query-back s q id kind stale name ok.1 (number-after s (p + length (number_bytes 1)) id fs h1) in
      after 1 id fs h (omega arith) (λ z. omega arith) (λ z. omega arith) (let l = ok.0 in omega arith) (omega arith)
      (record { value = b.value; reads = b.reads; right = ap (said_in s) b.right.1 ∙ ap (query id kind stale) b.right.2 })
  fields_back (timer ns) ok h =
      after 2 ns [] h (omega arith) (λ z. omega arith) (λ z. omega arith) (omega arith) (omega arith)
      (last 2 ns (Timer ns) _ refl refl)
  fields_back (attempt id retry e) ok h =
      let fs = number (bit retry) ∷ endpoint_fields e in
      let q = p + length (number_bytes 3) + length (number_bytes id) in
      let h1 = number-after s p 3 (number id ∷ fs) h in
      let b = attempt-back s q id retry e ok (number-after s (p + length (number_bytes 3)) id fs h1) in
      after 3 id fs h (omega arith) (λ z. omega arith) (λ z. omega arith) (let l = ok.0 in omega arith) (omega arith)
      b
  fields_back (cancel id) ok h =
      after 4 id [] h (omega arith) (λ z. omega arith) (λ z. omega arith) (omega arith) (omega arith)
      (last 4 id (Cancel id) _ refl refl)
  fields_back succeeded ok h = alone 5 Succeeded h (omega arith) refl refl
  fields_back (failed r) ok h =
      let n = reason_number r in
      after 6 n [] h (omega arith) (λ z. omega arith) (λ z. omega arith) (reason-few r) (omega arith)
      (last 6 n (Failed (reason_of n)) _ refl (ap failed (reason-back r)))
  fields_back (full t) ok h =
      let n = table_number t in
      after 7 n [] h (omega arith) (λ z. omega arith) (λ z. omega arith) (table-few t) (omega arith)
      (last 7 n (Full (table_of n)) _ refl (ap full (table-back t)))
  fields_back (input n) ok h =
      after 8 n [] h (omega arith) (λ z. omega arith) (λ z. omega arith) (omega arith) (omega arith)
      (last 8 n (Taken n) _ refl refl)

-- an answer as it was read, with what it says
pub record Read (s : List ℕ) (p end : ℕ) (a : Said) : Type 0 where
  pub answer : Answer
  pub reads : got answer end ≡ answer_at s p
  pub says : said_in s answer ≡ a

pub answer_back : (s : List ℕ) (p : ℕ) (a : Said) → Fits a → There s p (answer_bytes a) → Read s p (p + length (answer_bytes a)) a
unfolding answer_bytes
answer_back s p a ok h = let b = fields_back s p a ok h in record { answer = b.value; reads = b.reads; says = b.right }

-- two readings of one place are the same
got_same : {A : Type 0} {v w : A} {p q : ℕ} → got v p ≡ got w q → v ≡ w
got_same e = cc

pub one_answer : (a b : Said) → Fits a → Fits b → answer_bytes a ≡ answer_bytes b → a ≡ b
one_answer a b oka okb e =
    let s = answer_bytes a in
    let x = answer_back s 0 a oka (there-all s) in
    let y = answer_back s 0 b okb (rw (← e) (there-all s)) in
    let v : x.answer ≡ y.answer = got_same (x.reads ∙ sym y.reads) in
    sym x.says ∙ ap (said_in s) v ∙ y.says

pub there-put : (out : List ℕ) (at : ℕ) (bs : List ℕ) → at + length bs ≤ length out → There (put_bytes out at bs) at bs
there-put out at bs h =
    let e : put_bytes out at bs ≡ (take at out ++ bs) ++ drop (at + length bs) out = sym (room out at bs h).1 ∙ sets-eq bs out at h in
    let n : length (take at out) ≡ at = length-take-le at out (omega arith) in
    let l : length (put_bytes out at bs) ≡ length out = rw (← (room out at bs h).1) (length-sets out at bs) in
    record {
      rest = drop (at + length bs) out;
      inside = omega arith;
      here = ap (drop at) (e ∙ append_assoc (take at out) bs (drop (at + length bs) out)) ∙ ap (λ k. drop k (take at out ++ (bs ++ drop (at + length bs) out))) (sym n) ∙ drop-append_seam (take at out) (bs ++ drop (at + length bs) out);
    }

pub put_back : (out : List ℕ) (at : ℕ) (a : Said) → Fits a → at + length (answer_bytes a) ≤ length out → Read (put_bytes out at (answer_bytes a)) at (at + length (answer_bytes a)) a
put_back out at a ok h = answer_back (put_bytes out at (answer_bytes a)) at a ok (there-put out at (answer_bytes a) h)

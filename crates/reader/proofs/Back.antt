-- Parts of an answer that are written are read back.
--     kind-back and the like          each case from its number
--     number-*, raw-*                 the first field that stands at a place: that it is there, what follows it, where it ends, how it reads
--     Back                            what is read is right, and ends after the fields
--     query-back, endpoint-back       a query after its id; an endpoint
use mathlib.Core.Path.{◌≡◌, refl, sym, ap, subst, ◌∙◌}
use mathlib.Core.Bool.{Bool, true, false}
use mathlib.Core.List.{List, [], ◌∷◌, ◌++◌, append_assoc}
use mathlib.Core.Option.{Option, none, some}
use Prim.Native.Nat.{ℕ, ◌+◌, ◌-◌, ◌/◌, ◌%◌, ◌^◌, ◌≤◌, ◌<◌}
use native.Mathlib.Omega.{arith}
use lib.Dec.{eqb as nat_eq}
use lib.ListN.{length, length-append}
use borrow.Author.Tests.{ne_eqb}
use Rattle.numbers.specs.Got.{Got, got, and_then}
use Rattle.numbers.specs.Fields.{at_most, bytes_at, span_bytes}
use Rattle.numbers.specs.Numbers.{read_number, number_bytes}
use Rattle.numbers.specs.Refusals.{out_of_range, too_many}
use Rattle.numbers.specs.declared.field.Span.{Span}
use Rattle.numbers.proofs.Steps.{went_on}
use Rattle.records.specs.Numbers.{kind_number, rank_number}
use Rattle.records.specs.Endpoints.{ShownTarget, four, six, host, Shown}
use Rattle.records.specs.declared.queries.Kind.{Kind}
use Rattle.records.specs.declared.queries.Kind.TheVariants.{Https, Aaaa, A}
use Rattle.records.specs.declared.endpoints.Rank.{Rank}
use Rattle.records.specs.declared.endpoints.Rank.TheVariants as rank
use Rattle.machine.specs.declared.wish.Reason.{Reason}
use Rattle.machine.specs.declared.wish.Reason.TheVariants.{Dns, Connection}
use Rattle.machine.specs.declared.grant.Table.{Table}
use Rattle.machine.specs.declared.grant.Table.TheVariants as table
use Rattle.parts.specs.Written.{word_bytes, long_bytes}
use Rattle.parts.proofs.Back.{There, there-left, there-right, most-back, bytes_back, span-back}
use Rattle.parts.proofs.AddressBack.{word_back, long-back}
use Rattle.answers.specs.Answers.{Field, number, raw, bit, reason_number, table_number, high_first, target_fields, ech_fields, joined}
use Rattle.reader.specs.Reading.{kind_of, rank_of, reason_of, table_of, sized_at, query_at, four_at, six_at, host_at, target_by, target_at, sealed_by, ech_at, port_at, endpoint_at}
use Rattle.reader.specs.Saying.{target_in, ech_in, endpoint_in, FitsTarget, FitsEch}
use Rattle.reader.specs.declared.TargetSpan.TheVariants.{V4, V6, Named}
use Rattle.std.specs.Prelude.{Some, None}
use Rattle.reader.specs.declared.EndpointSpan.{EndpointSpan}
use Rattle.reader.specs.declared.Answer.TheVariants.{Query}

-- each case from its number

pub kind-back : (k : Kind) → kind_of (kind_number k) ≡ k
unfolding kind_of
kind-back Https = refl
kind-back Aaaa = refl
kind-back A = refl

pub rank-back : (r : Rank) → rank_of (rank_number r) ≡ r
unfolding rank_of
rank-back rank.H3 = refl
rank-back rank.H2OrH1 = refl
rank-back rank.H2 = refl
rank-back rank.H1 = refl

pub reason-back : (r : Reason) → reason_of (reason_number r) ≡ r
unfolding reason_of
reason-back Dns = refl
reason-back Connection = refl

pub table-back : (t : Table) → table_of (table_number t) ≡ t
unfolding table_of
table-back table.Queries = refl
table-back table.Attempts = refl

pub bit-back : (b : Bool) → nat_eq (bit b) 1 ≡ b
bit-back true = refl
bit-back false = refl

kind-few : (k : Kind) → kind_number k ≤ 2
kind-few Https = omega arith
kind-few Aaaa = omega arith
kind-few A = omega arith

rank-few : (r : Rank) → rank_number r ≤ 3
rank-few rank.H3 = omega arith
rank-few rank.H2OrH1 = omega arith
rank-few rank.H2 = omega arith
rank-few rank.H1 = omega arith

pub bit-few : (b : Bool) → bit b ≤ 1
bit-few true = omega arith
bit-few false = omega arith

-- the bytes of an address, as the writer takes them and as the reader does

high_word : (x : ℕ) → x < 2 ^ 32 → high_first 4 x ≡ word_bytes x
unfolding high_first word_bytes
high_word x h =
    let a : x / 256 / 256 / 256 % 256 ≡ x / 16777216 = omega arith in
    let b : x / 256 / 256 % 256 ≡ x / 65536 % 256 = omega arith in
    rw (a, b) refl

high-long : (x : ℕ) → x < 2 ^ 64 → high_first 8 x ≡ long_bytes x
unfolding high_first long_bytes word_bytes
high-long x h =
    let y = x / 4294967296 in
    let z = x % 4294967296 in
    let d : x / 256 / 256 / 256 / 256 ≡ y = omega arith in
    let a : y / 256 / 256 / 256 % 256 ≡ y / 16777216 = omega arith in
    let b : y / 256 / 256 % 256 ≡ y / 65536 % 256 = omega arith in
    let e : x / 256 / 256 / 256 % 256 ≡ z / 16777216 = omega arith in
    let f : x / 256 / 256 % 256 ≡ z / 65536 % 256 = omega arith in
    let g : x / 256 % 256 ≡ z / 256 % 256 = omega arith in
    let i : x % 256 ≡ z % 256 = omega arith in
    rw (d, a, b, e, f, g, i) refl

-- the first field that stands at a place, and those after it

module _ (s : List ℕ) (p n : ℕ) (fs : List Field) (t : There s p (joined (number n ∷ fs))) where
  number-there : There s p (number_bytes n)
  unfolding joined
  number-there = there-left s p (number_bytes n) (joined fs) t

  pub number-after : There s (p + length (number_bytes n)) (joined fs)
  unfolding joined
  number-after = there-right s p (number_bytes n) (joined fs) t

  pub number-ends : p + length (number_bytes n) + length (joined fs) ≡ p + length (joined (number n ∷ fs))
  unfolding joined
  number-ends = omega (arith, length-append (number_bytes n) (joined fs))

  pub number-reads : (limit m : ℕ) → n ≤ limit → limit < 2 ^ 64 → got n (p + length (number_bytes n)) ≡ at_most limit m (read_number s p)
  number-reads limit m h l = most-back s p limit m n h l number-there

module _ (s : List ℕ) (p : ℕ) (bs : List ℕ) (fs : List Field) (t : There s p (joined (raw bs ∷ fs))) where
  pub raw-there : There s p bs
  unfolding joined
  raw-there = there-left s p bs (joined fs) t

  pub raw-after : There s (p + length bs) (joined fs)
  unfolding joined
  raw-after = there-right s p bs (joined fs) t

  pub raw-ends : p + length bs + length (joined fs) ≡ p + length (joined (raw bs ∷ fs))
  unfolding joined
  raw-ends = omega (arith, length-append bs (joined fs))

-- what is read is right, and ends after the fields
pub record Back {A : Type 0} (s : List ℕ) (p : ℕ) (fs : List Field) (r : Got A) (Right : A → Type 0) : Type 0 where
  pub value : A
  pub reads : got value (p + length (joined fs)) ≡ r
  pub right : Right value

module _ (s : List ℕ) (p : ℕ) where
  -- length and bytes
  sized-back : (name : List ℕ) → length name ≤ 253 → There s p (joined (number (length name) ∷ raw name ∷ []))
      → Back s p (number (length name) ∷ raw name ∷ []) (sized_at s p) (λ b. span_bytes s b ≡ name)
  unfolding sized_at joined
  sized-back name h t =
      let q = p + length (number_bytes (length name)) in
      let u = number-after s p (length name) (raw name ∷ []) t in
      let w = raw-there s q name [] u in
      let e : q + length name ≡ p + length (joined (number (length name) ∷ raw name ∷ [])) = omega (arith, number-ends s p (length name) (raw name ∷ []) t, raw-ends s q name [] u) in
      record {
        value = record { start = q; len = length name };
        reads = ap (got (record { start = q; len = length name })) (sym e) ∙ bytes_back s q name w ∙ went_on (bytes_at s) (length name) q (number-reads s p (length name) (raw name ∷ []) t 253 too_many h (omega arith));
        right = span-back s q name w;
      }

module _ (s : List ℕ) (p : ℕ) where
  pub query-back : (id : ℕ) (kind : Kind) (stale : Bool) (name : List ℕ) → length name ≤ 253
      → There s p (joined (number (kind_number kind) ∷ number (bit stale) ∷ number (length name) ∷ raw name ∷ []))
      → Back s p (number (kind_number kind) ∷ number (bit stale) ∷ number (length name) ∷ raw name ∷ []) (query_at s id p) (λ a. (b : Span) × (a ≡ Query id kind stale b) × (span_bytes s b ≡ name))
  unfolding query_at
  query-back id kind stale name h t =
      let f2 = number (length name) ∷ raw name ∷ [] in
      let f1 = number (bit stale) ∷ f2 in
      let p1 = p + length (number_bytes (kind_number kind)) in
      let t1 = number-after s p (kind_number kind) f1 t in
      let p2 = p1 + length (number_bytes (bit stale)) in
      let t2 = number-after s p1 (bit stale) f2 t1 in
      let b = sized-back s p2 name h t2 in
      let e : p2 + length (joined f2) ≡ p + length (joined (number (kind_number kind) ∷ f1)) = omega (arith, number-ends s p (kind_number kind) f1 t, number-ends s p1 (bit stale) f2 t1) in
      let same : Query id (kind_of (kind_number kind)) (nat_eq (bit stale) 1) b.value ≡ Query id kind stale b.value = rw (kind-back kind, bit-back stale) refl in
      record {
        value = Query id kind stale b.value;
        reads = ap (got (Query id kind stale b.value)) (sym e) ∙ ap (λ a. got a (p2 + length (joined f2))) (sym same)
            ∙ went_on _ _ _ b.reads
            ∙ went_on _ _ _ (number-reads s p1 (bit stale) f2 t1 1 out_of_range (bit-few stale) (omega arith))
            ∙ went_on _ _ _ (number-reads s p (kind_number kind) f1 t 2 out_of_range (kind-few kind) (omega arith));
        right = (b.value, refl, b.right);
      }

  -- what stands after a target's case
  host-back : (x : List ℕ) → length x ≤ 253 → There s p (joined (number (length x) ∷ raw x ∷ []))
      → Back s p (number (length x) ∷ raw x ∷ []) (host_at s p) (λ t. target_in s t ≡ host x)
  unfolding host_at
  host-back x h t =
      let b = sized-back s p x h t in
      record { value = Named b.value; reads = went_on _ _ _ b.reads; right = ap host b.right }

  four-back : (x : ℕ) → x < 2 ^ 32 → There s p (joined (raw (high_first 4 x) ∷ [])) → Back s p (raw (high_first 4 x) ∷ []) (four_at s p) (λ t. target_in s t ≡ four x)
  unfolding four_at joined high_first
  four-back x h t =
      let w = raw-there s p (high_first 4 x) [] t in
      let e : p + length (high_first 4 x) ≡ p + length (joined (raw (high_first 4 x) ∷ [])) = omega (arith, raw-ends s p (high_first 4 x) [] t) in
      record {
        value = V4 (record { start = p; len = 4 });
        reads = ap (got (V4 (record { start = p; len = 4 }))) (sym e) ∙ went_on _ _ _ (bytes_back s p (high_first 4 x) w);
        right = ap four (word_back s p x h (subst (There s p) (high_word x h) w));
      }

  six-back : (h l scope : ℕ) → FitsTarget (six h l scope) → There s p (joined (raw (high_first 8 h ++ high_first 8 l) ∷ number scope ∷ []))
      → Back s p (raw (high_first 8 h ++ high_first 8 l) ∷ number scope ∷ []) (six_at s p) (λ t. target_in s t ≡ six h l scope)
  unfolding six_at joined high_first
  six-back h l scope ok t =
      let bs = high_first 8 h ++ high_first 8 l in
      let w = raw-there s p bs (number scope ∷ []) t in
      let u = raw-after s p bs (number scope ∷ []) t in
      let q = p + length bs in
      let e : q + length (number_bytes scope) ≡ p + length (joined (raw bs ∷ number scope ∷ [])) = omega (arith, raw-ends s p bs (number scope ∷ []) t, number-ends s q scope [] u) in
      let b : Span = record { start = p; len = 16 } in
      let hi = long-back s p h ok.0 (subst (There s p) (high-long h ok.0) (there-left s p (high_first 8 h) (high_first 8 l) w)) in
      let lo = long-back s (p + 8) l ok.1 (subst (There s (p + 8)) (high-long l ok.1) (there-right s p (high_first 8 h) (high_first 8 l) w)) in
      record {
        value = V6 b scope;
        reads = ap (got (V6 b scope)) (sym e)
            ∙ went_on _ _ _ (number-reads s q scope [] u 4294967295 out_of_range (let x = ok.2 in omega arith) (omega arith))
            ∙ went_on _ _ _ (bytes_back s p bs w);
        right = rw (hi, lo) refl;
      }

fields-joined : (fs gs : List Field) → joined (fs ++ gs) ≡ joined fs ++ joined gs
unfolding joined
fields-joined [] gs = refl
fields-joined (number n ∷ fs) gs = ap (λ (x : List ℕ). number_bytes n ++ x) (fields-joined fs gs) ∙ sym (append_assoc (number_bytes n) (joined fs) (joined gs))
fields-joined (raw b ∷ fs) gs = ap (λ (x : List ℕ). b ++ x) (fields-joined fs gs) ∙ sym (append_assoc b (joined fs) (joined gs))

module _ (s : List ℕ) (p : ℕ) (fs gs : List Field) (t : There s p (joined (fs ++ gs))) where
  fields-there : There s p (joined fs)
  fields-there = there-left s p (joined fs) (joined gs) (subst (There s p) (fields-joined fs gs) t)

  fields-after : There s (p + length (joined fs)) (joined gs)
  fields-after = there-right s p (joined fs) (joined gs) (subst (There s p) (fields-joined fs gs) t)

  fields-end : p + length (joined fs) + length (joined gs) ≡ p + length (joined (fs ++ gs))
  fields-end = omega (arith, ap length (fields-joined fs gs), length-append (joined fs) (joined gs))

-- a number that is not 0 says that bytes follow
sealed-some : (s : List ℕ) (n at : ℕ) → (n ≡ 0 → ⊥) → and_then (bytes_at s (n - 1) at) (λ b end. got (Some b) end) ≡ sealed_by s n at
unfolding sealed_by
sealed-some s n at h = simp (ne_eqb n 0 h)

module _ (s : List ℕ) (p : ℕ) where
  -- a target after its case
  cased : {t : ShownTarget} (k : ℕ) (fs : List Field) (h : There s p (joined (number k ∷ fs))) → k ≤ 2
      → (b : Back s (p + length (number_bytes k)) fs (target_by s k (p + length (number_bytes k))) (λ v. target_in s v ≡ t))
      → Back s p (number k ∷ fs) (target_at s p) (λ v. target_in s v ≡ t)
  unfolding target_at
  cased k fs h few b =
      record {
        value = b.value;
        reads = ap (got b.value) (sym (number-ends s p k fs h)) ∙ b.reads ∙ went_on (target_by s) k (p + length (number_bytes k)) (number-reads s p k fs h 2 out_of_range few (omega arith));
        right = b.right;
      }

  target-back : (t : ShownTarget) → FitsTarget t → There s p (joined (target_fields t)) → Back s p (target_fields t) (target_at s p) (λ v. target_in s v ≡ t)
  unfolding target_by
  target-back (four x) ok h =
      let q = p + length (number_bytes 0) in
      let b = four-back s q x ok (number-after s p 0 (raw (high_first 4 x) ∷ []) h) in
      cased 0 (raw (high_first 4 x) ∷ []) h (omega arith) b
  target-back (six x y scope) ok h =
      let q = p + length (number_bytes 1) in
      let fs = raw (high_first 8 x ++ high_first 8 y) ∷ number scope ∷ [] in
      let b = six-back s q x y scope ok (number-after s p 1 fs h) in
      cased 1 fs h (omega arith) b
  target-back (host x) ok h =
      let q = p + length (number_bytes 2) in
      let fs = number (length x) ∷ raw x ∷ [] in
      let b = host-back s q x ok (number-after s p 2 fs h) in
      cased 2 fs h (omega arith) b

  ech-back : (o : Option (List ℕ)) → FitsEch o → There s p (joined (ech_fields o)) → Back s p (ech_fields o) (ech_at s p) (λ v. ech_in s v ≡ o)
  unfolding ech_at sealed_by joined
  ech-back none ok h =
      let q = p + length (number_bytes 0) in
      let e : q ≡ p + length (joined (number 0 ∷ [])) = omega (arith, number-ends s p 0 [] h) in
      record {
        value = None;
        reads = ap (got None) (sym e) ∙ went_on (sealed_by s) 0 q (number-reads s p 0 [] h 513 too_many (omega arith) (omega arith));
        right = refl;
      }
  ech-back (some x) ok h =
      let n = length x + 1 in
      let q = p + length (number_bytes n) in
      let u = number-after s p n (raw x ∷ []) h in
      let w = raw-there s q x [] u in
      let b : Span = record { start = q; len = length x } in
      let e : q + length x ≡ p + length (joined (number n ∷ raw x ∷ [])) = omega (arith, number-ends s p n (raw x ∷ []) h, raw-ends s q x [] u) in
      let m : length x ≡ n - 1 = omega arith in
      record {
        value = Some b;
        reads = ap (got (Some b)) (sym e) ∙ went_on (λ b end. got (Some b) end) b (q + length x) (bytes_back s q x w ∙ ap (λ k. bytes_at s k q) m)
            ∙ sealed-some s n q (λ z. omega arith)
            ∙ went_on (sealed_by s) n q (number-reads s p n (raw x ∷ []) h 513 too_many (omega arith) (omega arith));
        right = ap some (span-back s q x w);
      }

-- an endpoint's fields: rank, target, port, ECH
abbrev pub endpoint_fields : Shown → List Field
endpoint_fields e = number (rank_number e.rank) ∷ (target_fields e.target ++ (number e.port ∷ ech_fields e.ech))

pub endpoint-back : (s : List ℕ) (p : ℕ) (e : Shown) → FitsTarget e.target → e.port < 2 ^ 16 → FitsEch e.ech → There s p (joined (endpoint_fields e))
    → Back s p (endpoint_fields e) (endpoint_at s p) (λ v. endpoint_in s v ≡ e)
unfolding endpoint_at port_at
endpoint-back s p e okt okp oke h =
    let k = rank_number e.rank in
    let fs = target_fields e.target in
    let gs = number e.port ∷ ech_fields e.ech in
    let p1 = p + length (number_bytes k) in
    let h1 = number-after s p k (fs ++ gs) h in
    let t = target-back s p1 e.target okt (fields-there s p1 fs gs h1) in
    let p2 = p1 + length (joined fs) in
    let h2 = fields-after s p1 fs gs h1 in
    let p3 = p2 + length (number_bytes e.port) in
    let h3 = number-after s p2 e.port (ech_fields e.ech) h2 in
    let x = ech-back s p3 e.ech oke h3 in
    let end : p3 + length (joined (ech_fields e.ech)) ≡ p + length (joined (number k ∷ (fs ++ gs))) = omega (arith, number-ends s p k (fs ++ gs) h, fields-end s p1 fs gs h1, number-ends s p2 e.port (ech_fields e.ech) h2) in
    let v : EndpointSpan = record { target = t.value; port = e.port; rank = rank_of k; ech = x.value } in
    record {
      value = v;
      reads = ap (got v) (sym end) ∙ went_on _ _ _ x.reads
          ∙ went_on _ _ _ (number-reads s p2 e.port (ech_fields e.ech) h2 65535 out_of_range (omega arith) (omega arith))
          ∙ went_on _ _ _ t.reads
          ∙ went_on _ _ _ (number-reads s p k (fs ++ gs) h 3 out_of_range (rank-few e.rank) (omega arith));
      right = rw (t.right, x.right, rank-back e.rank) refl;
    }

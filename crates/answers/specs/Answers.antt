-- Answers in bytes (rules B.9 to B.11): what each says, its fields in order, their bytes.
use Rattle.std.specs.Prelude.{ℕ, zero, suc, ◌+◌, ◌/◌, ◌%◌, Bool, true, false, List, [], ◌∷◌, ◌++◌, length}
use Rattle.std.proofs.Math.Option.{Option, none, some}
use Rattle.numbers.specs.Numbers.{number_bytes}
use Rattle.records.specs.Endpoints.{ShownTarget, four, six, host, Shown}
use Rattle.records.specs.Numbers.{kind_number, rank_number}
use Rattle.records.specs.declared.queries.Kind.{Kind}
use Rattle.machine.specs.declared.wish.Reason.{Reason}
use Rattle.machine.specs.declared.wish.Reason.TheVariants.{Dns, Connection}
use Rattle.machine.specs.declared.grant.Table.{Table}
use Rattle.machine.specs.declared.grant.Table.TheVariants.{Queries, Attempts}

-- what an answer says, with its bytes; `input` is the answer to an input: 0 for an accepted one, else the refusal's number
pub data Said : Type 0 where
  waiting : Said
  query : (id : ℕ) → Kind → (stale : Bool) → (name : List ℕ) → Said
  timer : (ns : ℕ) → Said
  attempt : (id : ℕ) → (retry : Bool) → Shown → Said
  cancel : (id : ℕ) → Said
  succeeded : Said
  failed : Reason → Said
  full : Table → Said
  input : (number : ℕ) → Said

-- a field is a number, or bytes as they are
pub data Field : Type 0 where
  number : ℕ → Field
  raw : List ℕ → Field

-- a flag: 0 or 1
abbrev pub bit : Bool → ℕ
bit false = 0
bit true = 1

-- "0 DNS, 1 connection"
abbrev pub reason_number : Reason → ℕ
reason_number Dns = 0
reason_number Connection = 1

-- "0 queries, 1 attempts"
abbrev pub table_number : Table → ℕ
table_number Queries = 0
table_number Attempts = 1

-- the k bytes of an address, the highest first
unfoldable pub high_first : (k n : ℕ) → List ℕ
high_first zero n = []
high_first (suc k) n = high_first k (n / 256) ++ (n % 256 ∷ [])

-- "0, 4 bytes"; "1, 16 bytes, scope"; "2, length, name": the port follows
abbrev pub target_fields : ShownTarget → List Field
target_fields (four a) = number 0 ∷ raw (high_first 4 a) ∷ []
target_fields (six h l scope) = number 1 ∷ raw (high_first 8 h ++ high_first 8 l) ∷ number scope ∷ []
target_fields (host x) = number 2 ∷ number (length x) ∷ raw x ∷ []

-- "0 none, else length+1, bytes"
abbrev pub ech_fields : Option (List ℕ) → List Field
ech_fields none = number 0 ∷ []
ech_fields (some x) = number (length x + 1) ∷ raw x ∷ []

-- each answer's fields, its kind first
abbrev pub fields : Said → List Field
fields waiting = number 0 ∷ []
fields (query id kind stale name) = number 1 ∷ number id ∷ number (kind_number kind) ∷ number (bit stale) ∷ number (length name) ∷ raw name ∷ []
fields (timer ns) = number 2 ∷ number ns ∷ []
fields (attempt id retry e) =
    number 3 ∷ number id ∷ number (bit retry) ∷ number (rank_number e.rank) ∷ (target_fields e.target ++ (number e.port ∷ ech_fields e.ech))
fields (cancel id) = number 4 ∷ number id ∷ []
fields succeeded = number 5 ∷ []
fields (failed reason) = number 6 ∷ number (reason_number reason) ∷ []
fields (full table) = number 7 ∷ number (table_number table) ∷ []
fields (input n) = number 8 ∷ number n ∷ []

-- fields one after the other
unfoldable pub joined : List Field → List ℕ
joined [] = []
joined (number n ∷ l) = number_bytes n ++ joined l
joined (raw bytes ∷ l) = bytes ++ joined l

unfoldable pub answer_bytes : Said → List ℕ
answer_bytes a = joined (fields a)

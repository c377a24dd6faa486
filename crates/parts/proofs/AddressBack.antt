-- Addresses that are written are read back.
use mathlib.Core.Path.{◌≡◌, refl, sym, ap, ◌∙◌}
use mathlib.Core.List.{List, ◌++◌}
use Prim.Native.Nat.{ℕ, ◌+◌, ◌/◌, ◌%◌, ◌^◌, ◌<◌}
use native.Mathlib.Omega.{arith}
use lib.ListN.{length, get_or, length-append}
use Rattle.numbers.specs.Fields.{bytes_at}
use Rattle.numbers.specs.Numbers.{number_bytes}
use Rattle.numbers.specs.Refusals.{out_of_range}
use Rattle.records.specs.declared.queries.Addr.{Addr}
use Rattle.records.specs.declared.services.Hint.{Hint}
use Rattle.parts.specs.Reading.{read, field}
use Rattle.parts.specs.Addresses.{word, long, four, six, scoped}
use Rattle.parts.proofs.Steps.{went_on, on-field}
use Rattle.parts.specs.Written.{word_bytes, long_bytes, six_bytes, scoped_bytes, unscoped, four_addr, FitsHint, FitsAddr}
use Rattle.parts.proofs.Back.{There, there-left, there-right, limited-back, bytes_back, byte-back}

pub word-length : (x : ℕ) → length (word_bytes x) ≡ 4
unfolding word_bytes
word-length x = refl

pub long-length : (x : ℕ) → length (long_bytes x) ≡ 8
unfolding long_bytes word_bytes
long-length x = refl

pub six-length : (h : Hint) → length (six_bytes h) ≡ 16
unfolding six_bytes long_bytes word_bytes
six-length h = refl

module _ (s : List ℕ) where
  pub word_back : (p x : ℕ) → x < 2 ^ 32 → There s p (word_bytes x) → word s p ≡ x
  unfolding word word_bytes
  word_back p x h t =
      let z : p + 0 ≡ p = omega arith in
      let a : get_or s p 0 ≡ x / 16777216 = ap (λ q. get_or s q 0) (sym z) ∙ byte-back s p (word_bytes x) t 0 in
      let b : get_or s (p + 1) 0 ≡ x / 65536 % 256 = byte-back s p (word_bytes x) t 1 in
      let c : get_or s (p + 2) 0 ≡ x / 256 % 256 = byte-back s p (word_bytes x) t 2 in
      let d : get_or s (p + 3) 0 ≡ x % 256 = byte-back s p (word_bytes x) t 3 in
      rw (a, b, c, d) (omega arith)

  pub long-back : (p x : ℕ) → x < 2 ^ 64 → There s p (long_bytes x) → long s p ≡ x
  unfolding long long_bytes
  long-back p x h t =
      let a = word_back p (x / 4294967296) (omega arith) (there-left s p (word_bytes (x / 4294967296)) (word_bytes (x % 4294967296)) t) in
      let b = word_back (p + length (word_bytes (x / 4294967296))) (x % 4294967296) (omega arith) (there-right s p (word_bytes (x / 4294967296)) (word_bytes (x % 4294967296)) t) in
      let c : word s (p + 4) ≡ x % 4294967296 = ap (λ k. word s (p + k)) (sym (word-length (x / 4294967296))) ∙ b in
      rw (a, c) (omega arith)

  pub four-back : (p x : ℕ) → x < 2 ^ 32 → There s p (word_bytes x) → read (four_addr x) (p + length (word_bytes x)) ≡ four s p
  unfolding four
  four-back p x h t =
      let e = on-field p (bytes_back s p (word_bytes x) t) in
      ap (λ v. read (four_addr v) (p + length (word_bytes x))) (sym (word_back p x h t))
      ∙ went_on (λ b end. read (record { hi = 0; lo = word s p; scope = 0 }) end) _ (p + length (word_bytes x)) (e ∙ ap (λ k. field p (bytes_at s k p)) (word-length x))

  left : (p : ℕ) (h : Hint) → There s p (six_bytes h) → There s p (long_bytes h.hi)
  unfolding six_bytes
  left p h t = there-left s p (long_bytes h.hi) (long_bytes h.lo) t

  right : (p : ℕ) (h : Hint) → There s p (six_bytes h) → There s (p + length (long_bytes h.hi)) (long_bytes h.lo)
  unfolding six_bytes
  right p h t = there-right s p (long_bytes h.hi) (long_bytes h.lo) t

  pub six-back : (p : ℕ) (h : Hint) → FitsHint h → There s p (six_bytes h) → read (record { hi = h.hi; lo = h.lo; scope = 0 }) (p + length (six_bytes h)) ≡ six s p
  unfolding six
  six-back p h ok t =
      let e = on-field p (bytes_back s p (six_bytes h) t) in
      let a = long-back p h.hi ok.hi (left p h t) in
      let b = long-back (p + length (long_bytes h.hi)) h.lo ok.lo (right p h t) in
      let c : long s (p + 8) ≡ h.lo = ap (λ k. long s (p + k)) (sym (long-length h.hi)) ∙ b in
      ap (λ v. read (record { hi = v; lo = h.lo; scope = 0 }) (p + length (six_bytes h))) (sym a)
      ∙ ap (λ v. read (record { hi = long s p; lo = v; scope = 0 }) (p + length (six_bytes h))) (sym c)
      ∙ went_on (λ b end. read (record { hi = long s p; lo = long s (p + 8); scope = 0 }) end) _ (p + length (six_bytes h)) (e ∙ ap (λ k. field p (bytes_at s k p)) (six-length h))

  pub scoped-back : (p : ℕ) (a : Addr) → FitsAddr a → There s p (scoped_bytes a) → read a (p + length (scoped_bytes a)) ≡ scoped s p
  unfolding scoped scoped_bytes
  scoped-back p a ok t =
      let n = number_bytes a.scope in
      let b = six-back p (unscoped a) ok.halves (there-left s p (six_bytes (unscoped a)) n t) in
      let q = p + length (six_bytes (unscoped a)) in
      let c = limited-back s q 4294967295 out_of_range a.scope (let h = ok.scope in omega arith) (omega arith) (there-right s p (six_bytes (unscoped a)) n t) in
      let e : q + length n ≡ p + length (six_bytes (unscoped a) ++ n) = omega (arith, length-append (six_bytes (unscoped a)) n) in
      ap (read a) (sym e)
      ∙ went_on (λ scope end. read (record { hi = a.hi; lo = a.lo; scope = scope }) end) a.scope (q + length n) c
      ∙ went_on _ (record { hi = a.hi; lo = a.lo; scope = 0 }) q b

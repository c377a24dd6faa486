-- Classes depend on bytes alone, and a write that leaves the bytes of its place leaves those of every place: so four blanks over empty places
-- leave the classes.
use Prim.Native.Nat.{ℕ, zero, suc, ◌+◌, ◌<◌}
use mathlib.Core.Path.{◌≡◌, refl, sym, ap, ◌∙◌}
use mathlib.Core.Bool.{Bool, true, false, cond}
use mathlib.Core.List.{List, [], ◌∷◌}
use native.Mathlib.Omega.{arith}
use lib.Dec.{eqb as nat_eq, ltb as nat_lt}
use lib.ListN.{get_or, set}
use lib.Seq.{get_or-set_other}
use borrow.Author.Tests.{eqb-true, eqb-false, lt-ltb}
use Rattle.records.specs.Names.{same_bytes, same_name, same_at, name_bytes, name_at, name_bytes_at, no_name, blank_name, connect_name, host_at, with_name, ech_bytes, ech_at, ech_bytes_at, no_ech, blank_ech, with_ech}
use Rattle.records.specs.Classes.{classes_from, same_names}
use Rattle.records.specs.declared.names.Names.{Names}
use Rattle.records.specs.declared.names.Echs.{Echs}
use Rattle.upcoming.specs.Alike.{same_host_at, same_ech_at, same_hosts_of, same_echs_of, alike_of}

-- tables with the same bytes at each place
module _ (n n' : Names) (h : (p : ℕ) → name_bytes_at n p ≡ name_bytes_at n' p) where
  names_same : same_at n ≡ same_at n'
  unfolding same_at
  names_same = λ j p q. same_name (h p j) (h q j)

  hosts-same : same_host_at n ≡ same_host_at n'
  unfolding same_host_at host_at
  hosts-same = λ j p q. same_bytes (connect_name (h 0 j) (h p j)) (connect_name (h 0 j) (h q j))

echs-same : (e e' : Echs) → ((p : ℕ) → ech_bytes_at e p ≡ ech_bytes_at e' p) → same_ech_at e ≡ same_ech_at e'
unfolding same_ech_at
echs-same e e' h = λ j p q. same_bytes (h p j) (h q j)

pub classes-kept : (n n' : Names) (e e' : Echs) → ((p : ℕ) → name_bytes_at n p ≡ name_bytes_at n' p) → ((p : ℕ) → ech_bytes_at e p ≡ ech_bytes_at e' p) → alike_of n e ≡ alike_of n' e'
unfolding alike_of same_names same_hosts_of same_echs_of
classes-kept n n' e e' h k =
    λ j. record {
      names = record { list = classes_from 14 (names_same n n' h j) 0 14 };
      hosts = record { list = classes_from 14 (hosts-same n n' h j) 0 14 };
      echs = record { list = classes_from 40 (echs-same e e' k j) 0 40 };
    }

-- what is read of a member, after a member that reads the same is stored over it
set-read : {A B : Type 0} (f : A → B) (l : List A) (i : ℕ) (x d : A) → f (get_or l i d) ≡ f x → f (get_or (set l i x) i d) ≡ f (get_or l i d)
set-read f [] i x d e = refl
set-read f (a ∷ l) zero x d e = sym e
set-read f (a ∷ l) (suc i) x d e = set-read f l i x d e

-- a table of n members, each with its bytes; outside it lies z, which has none
module _ {A : Type 0} (n : ℕ) (bytes : A → List ℕ) (blank z : A) where
  unfoldable held : List A → ℕ → List ℕ
  held l p = bytes (cond (nat_lt p n) (get_or l p blank) z)

  written : (l : List A) (i : ℕ) (x : A) → i < n → held l i ≡ bytes x → (p : ℕ) → held (set l i x) p ≡ held l p
  unfolding held
  written l i x h e p = go (nat_eq p i) refl
    where
      go : (b : Bool) → nat_eq p i ≡ b → held (set l i x) p ≡ held l p
      go true f = rw (eqb-true p i f, lt-ltb i n h) (set-read bytes l i x blank (rw (lt-ltb i n h) at e))
      go false f = ap (λ y. bytes (cond (nat_lt p n) y z)) (get_or-set_other l i p x blank (eqb-false p i f))

  module _ (none : bytes z ≡ []) (t : List A) where
    -- one blank more, over a place that had no bytes at first
    blanked : (l : List A) (i : ℕ) → i < n → held t i ≡ [] → ((p : ℕ) → held l p ≡ held t p) → (p : ℕ) → held (set l i z) p ≡ held t p
    blanked l i h e k p = written l i z h (k i ∙ (e ∙ sym none)) p ∙ k p

    four-blanked : (f : ℕ) → f + 3 < n → ((k : ℕ) → k < 4 → held t (f + k) ≡ []) → (p : ℕ) → held (set (set (set (set t f z) (f + 1) z) (f + 2) z) (f + 3) z) p ≡ held t p
    four-blanked f h e =
        let first : f + 0 ≡ f = omega arith in
        blanked (set (set (set t f z) (f + 1) z) (f + 2) z) (f + 3) h (e 3 (omega arith))
        (blanked (set (set t f z) (f + 1) z) (f + 2) (omega arith) (e 2 (omega arith))
        (blanked (set t f z) (f + 1) (omega arith) (e 1 (omega arith))
        (blanked t f (omega arith) (ap (held t) (sym first) ∙ e 0 (omega arith)) (λ p. refl))))

no_bytes : name_bytes no_name ≡ []
unfolding name_bytes no_name
no_bytes = refl

no-ech-bytes : ech_bytes no_ech ≡ []
unfolding ech_bytes no_ech
no-ech-bytes = refl

-- four blanks, stored where no bytes lie
pub names-blank : (t : Names) (f : ℕ) → f + 3 < 14 → ((k : ℕ) → k < 4 → name_bytes_at t (f + k) ≡ []) → (p : ℕ)
    → name_bytes_at (with_name (with_name (with_name (with_name t f no_name) (f + 1) no_name) (f + 2) no_name) (f + 3) no_name) p ≡ name_bytes_at t p
unfolding held name_at
names-blank t = four-blanked 14 name_bytes blank_name no_name no_bytes t.list

pub echs-blank : (t : Echs) (f : ℕ) → f + 3 < 40 → ((k : ℕ) → k < 4 → ech_bytes_at t (f + k) ≡ []) → (p : ℕ)
    → ech_bytes_at (with_ech (with_ech (with_ech (with_ech t f no_ech) (f + 1) no_ech) (f + 2) no_ech) (f + 3) no_ech) p ≡ ech_bytes_at t p
unfolding held ech_at
echs-blank t = four-blanked 40 ech_bytes blank_ech no_ech no-ech-bytes t.list

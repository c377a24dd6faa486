-- Editions of the body: whatever one adds, the fields that all have are read alike, and its own from where these end to the body's end.
--     shared-fault             a fault in the fields that all have
--     trails, ends             the end of the body
--     Added, edition-read      what any edition has read
use mathlib.Core.Path.{◌≡◌, refl, ◌∙◌}
use mathlib.Core.Bool.{Bool, true, false, cond}
use mathlib.Core.List.{List}
use Prim.Native.Nat.{ℕ, ◌≤◌, ◌<◌}
use native.Mathlib.Omega.{arith}
use lib.Dec.{ltb as nat_lt}
use lib.ListN.{length}
use borrow.Author.Tests.{lt-ltb, le-ltb, ltb-false}
use Rattle.numbers.specs.Refusals.{trailing}
use Rattle.parts.specs.Reading.{Reading, read, fault, next}
use Rattle.parts.proofs.Steps.{went_on, stopped, then-read, not-this}
use Rattle.configuration.specs.Configuration.{fields_at, edition_at}
use Rattle.configuration.specs.declared.Setup.{Setup}

module _ {A : Type 0} (added : List ℕ → Setup → ℕ → Reading A) (s : List ℕ) where
  pub shared-fault : {n p : ℕ} → fault n p ≡ fields_at s → fault n p ≡ edition_at added s
  unfolding edition_at
  shared-fault e = stopped _ _ _ e

  module _ {c : Setup} {p : ℕ} (e : read c p ≡ fields_at s) where
    on-added : next (added s c p) (λ v end. cond (nat_lt end (length s)) (fault trailing end) (read v end)) ≡ edition_at added s
    unfolding edition_at
    on-added = went_on (λ c q. next (added s c q) (λ v end. cond (nat_lt end (length s)) (fault trailing end) (read v end))) c p e

    module _ {v : A} {end : ℕ} (f : read v end ≡ added s c p) where
      pub trails : end < length s → fault trailing end ≡ edition_at added s
      trails h = (simp (lt-ltb end (length s) h) at (went_on (λ v end. cond (nat_lt end (length s)) (fault trailing end) (read v end)) v end f)) ∙ on-added

      pub ends : length s ≤ end → read v end ≡ edition_at added s
      ends h = (simp (le-ltb end (length s) h) at (went_on (λ v end. cond (nat_lt end (length s)) (fault trailing end) (read v end)) v end f)) ∙ on-added

  -- the fields that all have, then the edition's own, to the end of the body
  pub record Added (v : A) (end : ℕ) : Type 0 where
    pub setup : Setup
    pub place : ℕ
    pub shared : read setup place ≡ fields_at s
    pub own : read v end ≡ added s setup place
    pub whole : length s ≤ end

  at-end : (t : Bool) (v w : A) (end q : ℕ) → nat_lt q (length s) ≡ t → read v end ≡ cond t (fault trailing q) (read w q) → length s ≤ end
  at-end true v w end q h e = absurd (let z : ◌≡◌ {A = ℕ} 0 1 = cc in omega arith)
  at-end false v w end q h e = let x : end ≡ q = cc in omega (arith, x, ltb-false q (length s) h)

  pub edition-read : {v : A} {end : ℕ} → read v end ≡ edition_at added s → Added v end
  unfolding edition_at
  edition-read {v} {end} e =
      let last : A → ℕ → Reading A = λ v end. cond (nat_lt end (length s)) (fault trailing end) (read v end) in
      let t = then-read (fields_at s) (λ c q. next (added s c q) last) e in
      let u = then-read (added s t.value t.place) last t.rest in
      record {
        setup = t.value;
        place = t.place;
        shared = t.first;
        own = not-this trailing u.place (nat_lt u.place (length s)) u.value u.place u.rest ∙ u.first;
        whole = at-end (nat_lt u.place (length s)) v u.value end u.place refl u.rest;
      }

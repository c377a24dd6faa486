-- Looking for a service with ECH, one service a turn.
use Prim.Native.Nat.{ℕ, ◌+◌, ◌≤◌, ◌<◌}
use mathlib.Core.Path.{◌≡◌, refl, sym, ap, ◌∙◌}
use mathlib.Core.Bool.{Bool, true, false, cond}
use mathlib.Core.List.{List}
use native.Mathlib.Numerals.{add-one}
use lib.ListN.{length, take, drop, get_or, drop_of_length-le}
use lib.Seq.{drop-cons}
use Rattle.records.specs.Lists.{some?}
use Rattle.records.specs.Services.{has_ech, blank_service}
use Rattle.records.specs.declared.services.Service.{Service}
use Rattle.records.proofs.Walk.{rest_more, rest-none, rest_end}

pub ech_step : (xs : List Service) (i : ℕ) → i < length xs → some? (λ x. has_ech x.ech) (drop i xs) ≡ cond (has_ech (get_or xs i blank_service).ech) true (some? (λ x. has_ech x.ech) (drop (i + 1) xs))
unfolding some?
ech_step xs i h = rw (add-one, drop-cons xs i blank_service h) refl

-- past a service without it
pub ech_past : (xs : List Service) (i : ℕ) (t : Bool) → some? (λ x. has_ech x.ech) (drop i xs) ≡ t → i < length xs → has_ech (get_or xs i blank_service).ech ≡ false → some? (λ x. has_ech x.ech) (drop (i + 1) xs) ≡ t
ech_past xs i t p h e = sym (ap (λ b. cond b true (some? (λ x. has_ech x.ech) (drop (i + 1) xs))) e) ∙ (sym (ech_step xs i h) ∙ p)

pub ech_over : (xs : List Service) (i : ℕ) → length xs ≤ i → some? (λ x. has_ech x.ech) (drop i xs) ≡ false
unfolding some?
ech_over xs i h = rw (drop_of_length-le xs {i = i} h) refl

-- the same of the first n of a list, by the test on the service at i
pub ech_more : (n : ℕ) (l : List Service) (i : ℕ) → i < n → i < length l → some? (λ x. has_ech x.ech) (drop i (take n l)) ≡ cond (has_ech (get_or l i blank_service).ech) true (some? (λ x. has_ech x.ech) (drop (i + 1) (take n l)))
unfolding some?
ech_more n l i h k = rw (rest_more n l i blank_service h k) refl

-- none past the count, and past the end
pub ech_none : (n : ℕ) (l : List Service) (i : ℕ) → n ≤ i → some? (λ x. has_ech x.ech) (drop i (take n l)) ≡ false
unfolding some?
ech_none n l i h = rw (rest-none n l i h) refl

pub ech_end : (n : ℕ) (l : List Service) (i : ℕ) → length l ≤ i → some? (λ x. has_ech x.ech) (drop i (take n l)) ≡ false
unfolding some?
ech_end n l i h = rw (rest_end n l i h) refl

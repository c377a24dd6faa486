-- Alternative services and names in their rooms.
--     alternatives-none, alternatives-all     those that can't be read, and those that are filled
--     configured                              the table of names from the origin's and theirs
use mathlib.Core.Path.{◌≡◌, refl, ap, ◌∙◌}
use mathlib.Core.List.{List, [], ◌∷◌, ◌++◌, map, append_assoc}
use Prim.Native.Nat.{ℕ, ◌+◌, ◌-◌, ◌≤◌}
use native.Mathlib.Omega.{arith}
use lib.ListN.{length, get_or, replicate, length-append, length-map, length-replicate, replicate-append-replicate}
use Rattle.records.specs.Lists.{padded}
use Rattle.records.specs.Names.{no_name, blank_name}
use Rattle.records.specs.Rules.{no_alt, no_alts}
use Rattle.records.specs.declared.names.Name.{Name}
use Rattle.records.specs.declared.names.Names.{Names}
use Rattle.records.specs.declared.rules.Alt.{Alt}
use Rattle.parts.specs.Items.{listed}
use Rattle.parts.specs.declared.address.Items.{Items}
use Rattle.parts.proofs.Items.{listed-few}
use Rattle.configuration.specs.Configuration.{alt}
use Rattle.configuration.specs.Filling.{alt_of, alt_name, host_name, alts_by, no_alternatives, alts_in, names_with, configured_by, configured_in}
use Rattle.configuration.specs.declared.Alternatives.{Alternatives}
use Rattle.configuration.specs.declared.Setup.{Setup}

module _ (s : List ℕ) (l : Items) where
  pub alternatives-none : listed 4 (alt s) l ≡ [] → no_alternatives ≡ alts_in s l
  unfolding no_alternatives alts_in alts_by no_alts padded
  alternatives-none e = rw e

  pub alternatives-all : {n : ℕ} {alts : List Alt} {names : List Name}
      → (n ≡ length (listed 4 (alt s) l)) × (alts ≡ padded 4 no_alt (map alt_of (listed 4 (alt s) l)))
      → names ≡ padded 4 no_name (map (alt_name s) (listed 4 (alt s) l))
      → record { alts = record { count = n; list = alts }; names = record { list = names } } ≡ alts_in s l
  unfolding alts_in alts_by
  alternatives-all a b = λ j. record { alts = record { count = a.0 j; list = a.1 j }; names = record { list = b j } }

four-members : {A : Type 0} (z : A) (l : List A) → length l ≡ 4 → get_or l 0 z ∷ get_or l 1 z ∷ get_or l 2 z ∷ get_or l 3 z ∷ [] ≡ l
four-members z [] h = absurd (omega arith)
four-members z (a ∷ []) h = absurd (omega arith)
four-members z (a ∷ b ∷ []) h = absurd (omega arith)
four-members z (a ∷ b ∷ c ∷ []) h = absurd (omega arith)
four-members z (a ∷ b ∷ c ∷ d ∷ []) h = refl
four-members z (a ∷ b ∷ c ∷ d ∷ e ∷ l) h = absurd (omega arith)

-- a room of 4 and nine places more are a room of 13
wider : {A : Type 0} (z : A) (l : List A) → length l ≤ 4 → padded 4 z l ++ replicate 9 z ≡ padded 13 z l
unfolding padded
wider z l h =
    append_assoc l (replicate (4 - length l) z) (replicate 9 z) ∙ ap (λ r. l ++ r) (replicate-append-replicate (4 - length l) 9 z)
    ∙ (let e : 4 - length l + 9 ≡ 13 - length l = omega arith in ap (λ k. l ++ replicate k z) e)

room-length : {A : Type 0} (n : ℕ) (z : A) (l : List A) → length l ≤ n → length (padded n z l) ≡ n
unfolding padded
room-length n z l h = rw (length-append, length-replicate) (omega arith)

pub configured : (s : List ℕ) (c : Setup) {origin : Name} {l : Alternatives} {names : Names}
    → origin ≡ host_name s c.origin → l ≡ alts_in s c.alts → names ≡ names_with origin l.names → record { alts = l.alts; names = names } ≡ configured_in s c
unfolding alts_in alts_by names_with configured_in configured_by
configured s c o a n =
    let t = listed 4 (alt s) c.alts in
    let x = map (alt_name s) t in
    let few : length x ≤ 4 = rw length-map (listed-few 4 (alt s) c.alts) in
    let e = ap (λ r. r ++ replicate 9 no_name) (four-members blank_name (padded 4 no_name x) (room-length 4 no_name x few)) ∙ wider no_name x few in
    rw (n, a, o) (ap (λ r. record { alts = record { count = length t; list = padded 4 no_alt (map alt_of t) }; names = record { list = host_name s c.origin ∷ r } }) e)

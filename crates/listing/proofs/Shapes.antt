-- The runs that the code makes, empty ones among them, have the endpoints of those that the listing asks for.
--     none_runs      runs that are off are empty; nothing cites it now, and docs/PORT.md names it
use Prim.Native.Nat.{ℕ, suc, ◌+◌, ◌-◌}
use mathlib.Core.Path.{◌≡◌, refl, ap, ◌∙◌}
use mathlib.Core.Bool.{Bool, true, false, cond}
use mathlib.Core.List.{List, [], ◌∷◌, ◌++◌, append_assoc, append-nil}
use native.Mathlib.Decide.{dec_lt}
use native.Mathlib.Omega.{arith}
use lib.Dec.{ltb as nat_lt}
use lib.ListN.{length, take, get_or}
use lib.Seq.{take-nil}
use borrow.Author.Tests.{lt-ltb, le-ltb}
use Rattle.records.specs.declared.rules.Rules.{Rules}
use Rattle.records.specs.declared.rules.Alt.{Alt}
use Rattle.records.specs.declared.rules.Alts.{Alts}
use Rattle.records.specs.declared.queries.Queries.{Queries}
use Rattle.listing.specs.Held.{Same}
use Rattle.records.specs.Lists.{each}
use Rattle.records.specs.Rules.{no_alt}
use Rattle.listing.specs.Items.{run_items}
use Rattle.listing.specs.Listing.{combined, quic, nothing, host_runs, tier_items, alt_runs, alts_from, origin_runs, last_runs}
use Rattle.listing.specs.Room.{ranked, host_runs_if, both_runs, at_ranks, alt_runs_at}
use Rattle.records.specs.declared.endpoints.Rank.{Rank}
use Rattle.records.specs.declared.names.EchPlace.{EchPlace}
use Rattle.records.specs.declared.names.EchPlace.TheVariants.{Without}
use Rattle.records.specs.declared.endpoints.Rank.TheVariants as rank
use Rattle.listing.specs.declared.runs.HostRuns.{HostRuns}
use Rattle.listing.specs.declared.hosts.HostTargets.{HostTargets}
use Rattle.listing.specs.declared.versions.Ranks.{Ranks}
use Rattle.listing.specs.declared.runs.Run.{Run}
use Rattle.listing.proofs.Tiers.{items-append}

-- a lot that is off is empty
pub runs-if : (on : Bool) (x : HostTargets) (port : ℕ) (ech : EchPlace) (k : Rank) → tier_items (both_runs (host_runs_if on x port ech k)) ≡ tier_items (cond on (host_runs x port ech k) [])
unfolding tier_items each run_items
runs-if true x port ech k = refl
runs-if false x port ech k = refl

-- two pairs at each rank of a set of versions
pub at-ranks : (h3 h2 h1 : Bool) (held hints : HostTargets) (port : ℕ) (ech : EchPlace)
    → tier_items (at_ranks held hints (ranked (quic h3 ++ combined h2 h1)) port ech) ≡ tier_items (each (λ k. host_runs held port ech k ++ host_runs hints port ech k) (quic h3 ++ combined h2 h1))
unfolding tier_items each run_items
at-ranks true true true held hints port ech = refl
at-ranks true true false held hints port ech = refl
at-ranks true false true held hints port ech = refl
at-ranks true false false held hints port ech = refl
at-ranks false true true held hints port ech = refl
at-ranks false true false held hints port ech = refl
at-ranks false false true held hints port ech = refl
at-ranks false false false held hints port ech = refl

-- one pair at the rank of H2 and H1
pub at-rank : (h2 h1 : Bool) (x : HostTargets) (port : ℕ) (ech : EchPlace) (k : Ranks) → k ≡ ranked (combined h2 h1)
    → tier_items (both_runs (host_runs_if (nat_lt 0 k.count) x port ech k.first)) ≡ tier_items (each (host_runs x port ech) (combined h2 h1))
unfolding tier_items each run_items
at-rank true true x port ech k e = rw e
at-rank true false x port ech k e = rw e
at-rank false true x port ech k e = rw e
at-rank false false x port ech k e = rw e

module _ (r : Rules) (q : Queries) (n : Same) (count : ℕ) where
  -- the runs of one alternative service, and of those after it
  alts-step : (i : ℕ) (x : Alt) (l : List Alt) → alts_from r q n i (take (count - i) (x ∷ l)) ≡ cond (nat_lt i count) (alt_runs r q n i x) [] ++ alts_from r q n (i + 1) (take (count - (i + 1)) l)
  unfolding alts_from
  alts-step i x l =
      elim (dec_lt i count) [
        | yes h ↦ let e : count - i ≡ suc (count - (i + 1)) = omega arith in rw (lt-ltb i count h, e)
        | no h ↦ let e : count - i ≡ 0 = omega arith in let f : count - (i + 1) ≡ 0 = omega arith in rw (le-ltb i count (omega arith), e, f)
      ]

  alts-none : (i : ℕ) (x : Alt) → alts_from r q n i (take (count - i) (x ∷ [])) ≡ cond (nat_lt i count) (alt_runs r q n i x) []
  unfolding alts_from
  alts-none i x = alts-step i x [] ∙ ap (λ l. cond (nat_lt i count) (alt_runs r q n i x) [] ++ alts_from r q n (i + 1) l) (take-nil (count - (i + 1))) ∙ append-nil (cond (nat_lt i count) (alt_runs r q n i x) [])

  four : (l : List Alt) → length l ≡ 4 → alts_from r q n 0 (take count l)
      ≡ cond (nat_lt 0 count) (alt_runs r q n 0 (get_or l 0 no_alt)) []
      ++ (cond (nat_lt 1 count) (alt_runs r q n 1 (get_or l 1 no_alt)) [] ++ (cond (nat_lt 2 count) (alt_runs r q n 2 (get_or l 2 no_alt)) [] ++ cond (nat_lt 3 count) (alt_runs r q n 3 (get_or l 3 no_alt)) []))
  four (x ∷ y ∷ z ∷ w ∷ []) h =
      ap (λ k. alts_from r q n 0 (take k (x ∷ y ∷ z ∷ w ∷ []))) (let e : count ≡ count - 0 = omega arith in e) ∙ alts-step 0 x (y ∷ z ∷ w ∷ []) ∙ ap (λ l. cond (nat_lt 0 count) (alt_runs r q n 0 x) [] ++ l)
      (alts-step 1 y (z ∷ w ∷ []) ∙ ap (λ l. cond (nat_lt 1 count) (alt_runs r q n 1 y) [] ++ l)
      (alts-step 2 z (w ∷ []) ∙ ap (λ l. cond (nat_lt 2 count) (alt_runs r q n 2 z) [] ++ l) (alts-none 3 w)))
  four [] h = absurd (omega arith)
  four (x ∷ []) h = absurd (omega arith)
  four (x ∷ y ∷ []) h = absurd (omega arith)
  four (x ∷ y ∷ z ∷ []) h = absurd (omega arith)
  four (x ∷ y ∷ z ∷ w ∷ v ∷ l) h = absurd (omega arith)

-- those of all four
pub alts-four : (r : Rules) (q : Queries) (n : Same) (a : Alts) → length a.list ≡ 4
    → alts_from r q n 0 (take a.count a.list) ≡ alt_runs_at r q n a 0 ++ (alt_runs_at r q n a 1 ++ (alt_runs_at r q n a 2 ++ alt_runs_at r q n a 3))
unfolding alt_runs_at
alts-four r q n a e = four r q n a.count a.list e

-- five lots are their endpoints one after the other
pub five : (a b c d e : List Run) → tier_items (a ++ (b ++ (c ++ (d ++ e)))) ≡ tier_items a ++ (tier_items b ++ (tier_items c ++ (tier_items d ++ tier_items e)))
five a b c d e = rw (items-append a (b ++ (c ++ (d ++ e))), items-append b (c ++ (d ++ e)), items-append c (d ++ e), items-append d e)

pub last-five : (r : Rules) (a : Alts) (q : Queries) (n : Same) → length a.list ≡ 4
    → tier_items (last_runs r a q n) ≡ tier_items (alt_runs_at r q n a 0) ++ (tier_items (alt_runs_at r q n a 1) ++ (tier_items (alt_runs_at r q n a 2) ++ (tier_items (alt_runs_at r q n a 3) ++ tier_items (origin_runs r q n))))
unfolding last_runs
last-five r a q n e =
    ap (λ l. tier_items (l ++ origin_runs r q n)) (alts-four r q n a e)
    ∙ ap tier_items (simp append_assoc)
    ∙ five (alt_runs_at r q n a 0) (alt_runs_at r q n a 1) (alt_runs_at r q n a 2) (alt_runs_at r q n a 3) (origin_runs r q n)

-- where there is no alternative service its runs are empty
pub none_runs : (x : HostRuns) → x ≡ host_runs_if false nothing 0 Without rank.H3 → tier_items (both_runs x) ≡ tier_items []
none_runs x e = ap (λ y. tier_items (both_runs y)) e ∙ runs-if false nothing 0 Without rank.H3

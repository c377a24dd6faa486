-- The numbers that answers show are one to one.
use Prim.Native.Nat.{ℕ}
use mathlib.Core.Path.{◌≡◌, refl, sym, ap, ◌∙◌}
use mathlib.Core.Bool.{cond}
use mathlib.Core.List.{List, [], ◌∷◌}
use lib.Dec.{eqb as nat_eq}
use lib.ListN.{get_or, drop}
use Rattle.records.specs.declared.names.Names.{Names}
use Rattle.records.specs.declared.endpoints.Target.{Target}
use Rattle.records.specs.declared.endpoints.Target.TheVariants.{V4, V6, Named}
use Rattle.records.specs.declared.endpoints.Rank.{Rank}
use Rattle.records.specs.declared.endpoints.Rank.TheVariants as rank
use Rattle.records.specs.declared.queries.Kind.{Kind}
use Rattle.records.specs.declared.queries.Kind.TheVariants.{Https, Aaaa, A}
use Rattle.records.specs.Numbers.{rank_number, kind_number, input_kind, target_number}
use Rattle.records.specs.Endpoints.{ShownTarget, four, six, host, target_values, shown_target}

-- each number gives its case back
rank_of : ℕ → Rank
rank_of n = get_or (rank.H3 ∷ rank.H2OrH1 ∷ rank.H2 ∷ rank.H1 ∷ []) n rank.H3

rank-back : (r : Rank) → rank_of (rank_number r) ≡ r
unfolding rank_of
rank-back rank.H3 = refl
rank-back rank.H2OrH1 = refl
rank-back rank.H2 = refl
rank-back rank.H1 = refl

pub one_rank : (a b : Rank) → rank_number a ≡ rank_number b → a ≡ b
one_rank a b e = sym (rank-back a) ∙ ap rank_of e ∙ rank-back b

kind_of : ℕ → Kind
kind_of n = get_or (Https ∷ Aaaa ∷ A ∷ []) n Https

kind-back : (k : Kind) → kind_of (kind_number k) ≡ k
unfolding kind_of
kind-back Https = refl
kind-back Aaaa = refl
kind-back A = refl

pub one-kind : (a b : Kind) → kind_number a ≡ kind_number b → a ≡ b
one-kind a b e = sym (kind-back a) ∙ ap kind_of e ∙ kind-back b

input_of : ℕ → Kind
input_of n = get_or (Https ∷ Aaaa ∷ A ∷ Https ∷ []) n Https

input_back : (k : Kind) → input_of (input_kind k) ≡ k
unfolding input_of
input_back Https = refl
input_back Aaaa = refl
input_back A = refl

pub one_input : (a b : Kind) → input_kind a ≡ input_kind b → a ≡ b
one_input a b e = sym (input_back a) ∙ ap input_of e ∙ input_back b

-- a target's number and values give it back
target_of : List ℕ → ShownTarget
target_of xs = cond (nat_eq (get_or xs 0 0) 0) (four (get_or xs 1 0)) (cond (nat_eq (get_or xs 0 0) 1) (six (get_or xs 1 0) (get_or xs 2 0) (get_or xs 3 0)) (host (drop 1 xs)))

target-back : (t : ShownTarget) → target_of (target_values t) ≡ t
unfolding target_of
target-back (four a) = refl
target-back (six h l s) = refl
target-back (host x) = refl

pub one-target : (a b : ShownTarget) → target_values a ≡ target_values b → a ≡ b
one-target a b e = sym (target-back a) ∙ ap target_of e ∙ target-back b

-- the number comes first
pub number-first : (names : Names) (t : Target) → get_or (target_values (shown_target names t)) 0 0 ≡ target_number t
number-first names (V4 a) = refl
number-first names (V6 h l s) = refl
number-first names (Named p) = refl

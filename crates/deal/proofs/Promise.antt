-- What `deal` promises is document 01's sentence: where it answers that it dealt, the room holds a permutation that strictly rises by
-- (place in group, rank, family).
use Prim.Native.Nat.{ℕ}
use mathlib.Core.Path.{◌≡◌, refl}
use mathlib.Core.Bool.{Bool, true, false, cond}
use mathlib.Core.List.{List}
use native.Mathlib.Omega.{arith}
use lib.Dec.{eqb as nat_eq, leb as nat_le}
use lib.ListN.{length}
use Rattle.deal.specs.Answer.{grouped, deal_answer, deal_out}
use Rattle.deal.specs.Interleaving.{Interleaved}
use Rattle.deal.proofs.Answers.{grouped-all}
use Rattle.deal.proofs.Rising.{interleaved}

all-passed : (a b g : Bool) → ◌≡◌ {A = ℕ} (cond a (cond b (cond g 0 3) 2) 1) 0 → g ≡ true
all-passed true true true e = refl
all-passed true true false e = absurd (omega arith)
all-passed true false g e = absurd (omega arith)
all-passed false b g e = absurd (omega arith)

passed : (gs out : List ℕ) → deal_answer gs (length out) ≡ 0 → grouped gs ≡ true
unfolding deal_answer
passed gs out e = all-passed (nat_le (length gs) 272) (nat_eq (length out) (length gs)) (grouped gs) e

pub dealt-interleaved : (gs out : List ℕ) → deal_answer gs (length out) ≡ 0 → Interleaved gs (deal_out gs out)
unfolding deal_out
dealt-interleaved gs out e = rw e (interleaved gs (grouped-all gs (passed gs out e)))

-- A machine in a local is what is lent, and what comes back: for walks by hand of those who lend one to the live calls. Its type is any
-- that is seen as the row's, its value any that the row has. Rattle finds the proofs of the thin calls and of lent.rt alone now, so
-- nothing here cites these laws; they are kept as they were.
use Prim.Native.Nat.{ℕ}
use mathlib.Core.Path.{◌≡◌, refl, sym}
use mathlib.Core.List.{[], ◌∷◌, List}
use seplogic.Ra.Ura.{Ura}
use base.Fraction.{full_share}
use mir.Syntax.{Ty}
use mir.Raw.{raw}
use mir.Val.{Val}
use base.Logic.{ent, guard}
use base.Fml.{fsep, fat}
use types.Logic.{Logic, sem}
use types.Kit.{‵, ◌$◌, ◌∵◌, !, qed, move, drop, use1, check, rewrite, fsplit, fjoin, fpick, fpack, done}
use denote.RattleType.{RattleType}
use denote.Laws.{Is, Tells, shows}
use denote.Memory.{cell_raw, cell_at, part_at, part_of, raw_all}
use denote.Steps.{owned, peeks}
use denote.Struct.Steps.{spelt}
use denote.Struct.Laws as LL
use Rattle.state.specs.declared.Machine.{Machine}
use Rattle.state.specs.contracts.Machine as T
use Rattle.state.proofs.Machine.TheLaws as T'

-- the row of a machine
abbrev pub RM : RattleType
RM = T.the_row

module _ {M : Type 1} {𝓤 : Ura M} (𝓛 : Logic 𝓤) (mv : Machine → Val) (tells : Tells RM (Is RM) (λ (r : Machine). mv r ∷ [])) (τ : Ty) (seen : raw_all RM.mir ≡ raw τ ∷ []) where
  open 𝓛 use {H}

  pub laid : (h : Machine) (l : ℕ) → Is RM h (mv h ∷ []) → ent 𝓤 (H.at full_share τ l 0 (mv h)) (sem 𝓛 (part_at RM full_share h l 0))
  unfolding part_of
  laid h l is =
      qed 𝓛 (‵ (fat full_share τ l 0 (mv h)) ∷ []) ∵ use1 𝓛 (‵ (cell_raw full_share (raw τ ∷ []) (mv h ∷ []) l 0)) (𝓛.laws.at_raw full_share τ l 0 (mv h)) $ rewrite ! 0 (λ (ts : List Ty). ‵ (cell_raw full_share ts (mv h ∷ []) l 0)) (sym seen) refl $
      owned ! RM (Is RM) (LL.makes T.the_type T'.the_plain 𝓛) h (mv h ∷ []) is $ move ! (1 ∷ 0 ∷ []) $ fjoin ! $ fpack ! (List Val) (λ us. fsep (cell_at full_share RM.mir us l 0) (RM.own_val h us)) (mv h ∷ []) $ done !

  pub back : (h : Machine) (l : ℕ) → ent 𝓤 (sem 𝓛 (part_at RM full_share h l 0)) (guard 𝓤 (Is RM h (mv h ∷ [])) (H.at full_share τ l 0 (mv h)))
  unfolding part_of
  back h l =
      qed 𝓛 (‵ (part_at RM full_share h l 0) ∷ []) ∵ fpick ! (λ vs. fsplit ! $ spelt ! RM (Is RM) (shows 𝓛 RM) (λ (r : Machine). mv r ∷ []) tells full_share h vs l 0 $
      rewrite ! 0 (λ (ts : List Ty). ‵ (cell_raw full_share ts (mv h ∷ []) l 0)) seen refl $ move ! (1 ∷ []) $ peeks ! RM (Is RM) (shows 𝓛 RM) h (mv h ∷ []) (λ is. drop ! $ use1 𝓛 (‵ (fat full_share τ l 0 (mv h))) (𝓛.laws.raw_at full_share τ l 0 (mv h)) $ check ! is $ done !))

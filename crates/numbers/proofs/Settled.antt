-- What an answer shows settles it: any two answers that meet one promise are equal.
use mathlib.Core.Path.{◌≡◌, refl, sym, ap, ◌∙◌}
use Prim.Native.Nat.{ℕ, ◌-◌}
use lib.ListN.{get_or}
use Rattle.std.specs.Prelude.{Result, Ok, Err}
use Rattle.numbers.specs.Refusals.{refusal_number, all_refusals}
use Rattle.numbers.specs.Shown.{shown, wrote_shown}
use Rattle.numbers.specs.declared.refusal.Refusal.{Refusal}
use Rattle.numbers.specs.declared.refusal.Refusal.TheVariants.{Cut, BadNumber, OutOfRange, BadName, TooMany, Trailing, UnknownId, AlreadyAnswered, WrongType, StaleRefresh, EchNotSent, AlreadyEnded, NoRoom}

-- the refusal of a number: every one is found again by its number
by_number : ℕ → Refusal
by_number n = get_or all_refusals (n - 1) Cut

found : (e : Refusal) → by_number (refusal_number e) ≡ e
unfolding by_number
found Cut = refl
found BadNumber = refl
found OutOfRange = refl
found BadName = refl
found TooMany = refl
found Trailing = refl
found UnknownId = refl
found AlreadyAnswered = refl
found WrongType = refl
found StaleRefresh = refl
found EchNotSent = refl
found AlreadyEnded = refl
found NoRoom = refl

pub refusal-settled : (a b : Refusal) → refusal_number a ≡ refusal_number b → a ≡ b
refusal-settled a b e = sym (found a) ∙ ap by_number e ∙ found b

pub settled : {A : Type 0} (a b : Result (A × ℕ) Refusal) → shown a ≡ shown b → a ≡ b
settled (Ok (v, n)) (Ok (u, m)) e = cc
settled (Ok (v, n)) (Err b) e = cc
settled (Err a) (Ok (u, m)) e = cc
settled (Err a) (Err b) e = ap Err (refusal-settled a b (cc))

pub wrote-settled : (a b : Result ℕ Refusal) → wrote_shown a ≡ wrote_shown b → a ≡ b
wrote-settled (Ok a) (Ok b) e = cc
wrote-settled (Ok a) (Err b) e = cc
wrote-settled (Err a) (Ok b) e = cc
wrote-settled (Err a) (Err b) e = ap Err (refusal-settled a b (cc))

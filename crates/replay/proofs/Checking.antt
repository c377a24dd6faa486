-- Tape check over its loop: what is left to check says what the whole check says.
use Prim.Native.Nat.{ℕ, zero, suc, ◌+◌, ◌≤◌, ◌<◌}
use mathlib.Core.Path.{◌≡◌, refl, sym, ◌∙◌}
use mathlib.Core.List.{List}
use native.Mathlib.Omega.{arith}
use lib.ListN.{length}
use borrow.Author.Tests.{le-leb, lt-leb, eq-eqb, ne_eqb}
use Rattle.numbers.specs.Fields.{span_bytes}
use Rattle.numbers.specs.Got.{got, refused}
use Rattle.numbers.specs.Refusals.{refusal_number}
use Rattle.numbers.specs.declared.refusal.Refusal.{Refusal}
use Rattle.numbers.specs.declared.refusal.Refusal.TheVariants.{Cut, BadNumber, OutOfRange, BadName, TooMany, Trailing, UnknownId, AlreadyAnswered, WrongType, StaleRefresh, EchNotSent, AlreadyEnded, NoRoom}
use Rattle.bodies.specs.Events.{event_at, fault_of}
use Rattle.numbers.specs.declared.field.Span.{Span}
use Rattle.configuration.specs.Configuration.{setup_at}
use Rattle.replay.specs.Check.{check_events, check_of}
use Rattle.replay.specs.Frames.{Frame, body_at, frame_at}
use Rattle.replay.proofs.Framed.{frame-lies}

-- no refusal has the number 0
pub some-number : (e : Refusal) → refusal_number e ≡ 0 → ⊥
some-number Cut h = omega (arith, h)
some-number BadNumber h = omega (arith, h)
some-number OutOfRange h = omega (arith, h)
some-number BadName h = omega (arith, h)
some-number TooMany h = omega (arith, h)
some-number Trailing h = omega (arith, h)
some-number UnknownId h = omega (arith, h)
some-number AlreadyAnswered h = omega (arith, h)
some-number WrongType h = omega (arith, h)
some-number StaleRefresh h = omega (arith, h)
some-number EchNotSent h = omega (arith, h)
some-number AlreadyEnded h = omega (arith, h)
some-number NoRoom h = omega (arith, h)

-- `left` events at most are left, and they say what all of them say
pub record Left (tape : List ℕ) (at all : ℕ) : Type 0 where
  pub left : ℕ
  pub enough : length tape ≤ at + left
  pub rest : check_events left tape at ≡ all

pub left-all : (tape : List ℕ) (first : ℕ) → Left tape first (check_events (length tape) tape first)
left-all tape first = record { left = length tape; enough = omega arith; rest = refl }

module _ (tape : List ℕ) (at all : ℕ) where
  ended : (k : ℕ) → length tape ≤ at → check_events k tape at ≡ 0
  unfolding check_events
  ended zero h = refl
  ended (suc k) h = rw (le-leb (length tape) at h)

  pub left_end : Left tape at all → length tape ≤ at → 0 ≡ all
  left_end l h = sym (ended l.left h) ∙ l.rest

  stopped : (k : ℕ) → length tape ≤ at + k → at < length tape → {n : ℕ} → refused n ≡ frame_at tape at → check_events k tape at ≡ n
  unfolding check_events
  stopped zero h l e = absurd (omega arith)
  stopped (suc k) h l e = rw (lt-leb (length tape) at l, ← e)

  pub left-refused : Left tape at all → at < length tape → {n : ℕ} → refused n ≡ frame_at tape at → n ≡ all
  left-refused l h e = sym (stopped l.left l.enough h e) ∙ l.rest

  module _ {f : Frame} {next : ℕ} (fr : got f next ≡ frame_at tape at) {body : List ℕ} (bs : span_bytes tape f.body ≡ body) {n : ℕ} (fa : n ≡ (fault_of (event_at body)).number) where
    faulty : (k : ℕ) → length tape ≤ at + k → at < length tape → (n ≡ 0 → ⊥) → check_events k tape at ≡ n
    unfolding check_events
    faulty zero h l e = absurd (omega arith)
    faulty (suc k) h l e = rw (lt-leb (length tape) at l, ← fr, bs, ← fa, ne_eqb n 0 e)

    pub left-fault : Left tape at all → at < length tape → (n ≡ 0 → ⊥) → n ≡ all
    left-fault l h e = sym (faulty l.left l.enough h e) ∙ l.rest

    sound : (k : ℕ) → at < length tape → n ≡ 0 → check_events (suc k) tape at ≡ check_events k tape next
    unfolding check_events
    sound k l e = rw (lt-leb (length tape) at l, ← fr, bs, ← fa, eq-eqb n 0 e)

    go : (k : ℕ) → length tape ≤ at + k → check_events k tape at ≡ all → at < length tape → at < next → n ≡ 0 → Left tape next all
    go zero h r l b e = absurd (omega arith)
    go (suc k) h r l b e = record { left = k; enough = omega arith; rest = sym (sound k l e) ∙ r }

    pub left-go : Left tape at all → at < length tape → n ≡ 0 → Left tape next all
    left-go l h e = go l.left l.enough l.rest h (frame-lies tape at f next fr).before e

-- the whole tape, by its configuration
pub check-refused : (tape : List ℕ) {n : ℕ} → refused n ≡ body_at tape 0 → n ≡ check_of tape
unfolding check_of
check-refused tape e = rw (← e)

module _ (tape body : List ℕ) {b : Span} {next : ℕ} (e : got b next ≡ body_at tape 0) (f : span_bytes tape b ≡ body) {n : ℕ} (g : n ≡ (fault_of (setup_at body)).number) where
  pub check-fault : (n ≡ 0 → ⊥) → n ≡ check_of tape
  unfolding check_of
  check-fault h = rw (← e, f, ← g, ne_eqb n 0 h)

  pub check_sound : n ≡ 0 → check_events (length tape) tape next ≡ check_of tape
  unfolding check_of
  check_sound h = rw (← e, f, ← g, eq-eqb n 0 h)

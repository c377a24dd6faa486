-- Bodies, field by field, by what the field before says.
--     no_kind, some-kind           the kind of a body
--     a_call, an-input             what follows the kind
--     answer-fails, answer-holds   what follows the flags of an answer
--     more-follows, all_read       the end of a body
--     body-told, body_refused      what a body tells, by what was read of it
use mathlib.Core.Path.{◌≡◌}
use mathlib.Core.Bool.{cond}
use mathlib.Core.List.{List}
use Prim.Native.Nat.{ℕ, ◌%◌, ◌≤◌, ◌<◌}
use lib.Dec.{ltb as nat_lt, leb as nat_le, eqb as nat_eq}
use lib.ListN.{length}
use borrow.Author.Tests.{eq-eqb, ne_eqb, le-leb, lt-leb, lt-ltb, le-ltb}
use Rattle.numbers.specs.Got.{Got, got, refused}
use Rattle.numbers.specs.Fields.{at_most}
use Rattle.numbers.specs.Numbers.{read_number}
use Rattle.numbers.specs.Refusals.{out_of_range, trailing}
use Rattle.numbers.proofs.Steps as numbers
use Rattle.records.specs.declared.queries.Kind.{Kind}
use Rattle.parts.specs.Reading.{Reading, read, fault, next}
use Rattle.parts.proofs.Steps.{went_on, stopped, on-field}
use Rattle.bodies.specs.Events.{items_at, answer_at, input_at, kind_at, body_at, event_at}
use Rattle.bodies.specs.Told.{told_by, read_body}
use Rattle.bodies.specs.declared.Event.{Event}
use Rattle.bodies.specs.declared.Event.TheVariants as event

module _ (s : List ℕ) (k q : ℕ) (e : got k q ≡ at_most 7 out_of_range (read_number s 0)) where
  some_number : ℕ → ℕ → Got ℕ
  some_number k q = cond (nat_eq k 0) (refused out_of_range) (got k q)

  pub no_kind : k ≡ 0 → refused out_of_range ≡ kind_at s
  unfolding kind_at some_number
  no_kind h = simp (eq-eqb k 0 h) at (numbers.went_on some_number k q e)

  pub some-kind : (k ≡ 0 → ⊥) → got k q ≡ kind_at s
  unfolding kind_at some_number
  some-kind h = simp (ne_eqb k 0 h) at (numbers.went_on some_number k q e)

module _ (s : List ℕ) (k q : ℕ) (e : got k q ≡ kind_at s) where
  after-kind : ℕ → ℕ → Reading Event
  after-kind k q = cond (nat_eq k 7) (read event.Call q) (input_at s k q)

  pub a_call : k ≡ 7 → read event.Call q ≡ body_at s
  unfolding body_at after-kind
  a_call h = simp (eq-eqb k 7 h) at (went_on after-kind k q (on-field 0 e))

  pub an-input : (k ≡ 7 → ⊥) → input_at s k q ≡ body_at s
  unfolding body_at after-kind
  an-input h = simp (ne_eqb k 7 h) at (went_on after-kind k q (on-field 0 e))

module _ (k : Kind) (s : List ℕ) (id p flags q : ℕ) (e : got flags q ≡ at_most 3 out_of_range (read_number s p)) where
  after-flags : ℕ → ℕ → Reading Event
  after-flags flags q =
      cond (nat_le 2 flags) (read (event.Fails k id (nat_eq (flags % 2) 1)) q) (next (items_at k s q) (λ l end. read (event.Holds k id (nat_eq (flags % 2) 1) l) end))

  pub answer-fails : 2 ≤ flags → read (event.Fails k id (nat_eq (flags % 2) 1)) q ≡ answer_at k s id p
  unfolding answer_at after-flags
  answer-fails h = simp (le-leb 2 flags h) at (went_on after-flags flags q (on-field p e))

  pub answer-holds : flags < 2 → next (items_at k s q) (λ l end. read (event.Holds k id (nat_eq (flags % 2) 1) l) end) ≡ answer_at k s id p
  unfolding answer_at after-flags
  answer-holds h = simp (lt-leb 2 flags h) at (went_on after-flags flags q (on-field p e))

module _ (s : List ℕ) (v : Event) (end : ℕ) (e : read v end ≡ body_at s) where
  at-end : Event → ℕ → Reading Event
  at-end v end = cond (nat_lt end (length s)) (fault trailing end) (read v end)

  pub more-follows : end < length s → fault trailing end ≡ event_at s
  unfolding event_at at-end
  more-follows h = simp (lt-ltb end (length s) h) at (went_on at-end v end e)

  pub all_read : length s ≤ end → read v end ≡ event_at s
  unfolding event_at at-end
  all_read h = simp (le-ltb end (length s) h) at (went_on at-end v end e)

module _ (s : List ℕ) where
  pub body-told : (v : Event) (end : ℕ) → read v end ≡ event_at s → read (told_by s v) end ≡ read_body s
  unfolding read_body
  body-told v end e = went_on (λ v end. read (told_by s v) end) v end e

  pub body_refused : (n p : ℕ) → fault n p ≡ event_at s → fault n p ≡ read_body s
  unfolding read_body
  body_refused n p e = stopped (λ v end. read (told_by s v) end) n p e

-- Tape check against replay, and where replay stops: the claims of specs/Claims.antt.
use Prim.Native.Nat.{ℕ, ◌≤◌, ◌<◌}
use mathlib.Core.Path.{◌≡◌, refl, sym, ap, subst, ◌∙◌}
use mathlib.Core.Bool.{Bool, true, false, cond}
use mathlib.Core.Logic.{◌⊎◌, inl, inr}
use mathlib.Core.List.Memᴰ
use mathlib.Core.List.{List, [], ◌∷◌, map, Memᴰ}
use native.Mathlib.Omega.{arith}
use lib.Dec.{eqb as nat_eq}
use lib.ListN.{length}
use borrow.Author.Tests.{eqb-false, ne_eqb}
use Rattle.numbers.specs.Got.{Got, got, refused, and_then}
use Rattle.numbers.specs.Fields.{span_bytes}
use Rattle.numbers.specs.Refusals.{no_room}
use Rattle.numbers.specs.declared.field.Span.{Span}
use Rattle.parts.specs.Reading.{Reading, read, fault}
use Rattle.configuration.specs.Configuration.{setup_at}
use Rattle.configuration.specs.declared.Setup.{Setup}
use Rattle.replay.specs.Frames.{body_at}
use Rattle.replay.specs.Check.{check_of}
use Rattle.replay.specs.Replay.{Run, replay_of}
use Rattle.tapes.specs.Events.{Given, on_setup, given_of, Event, place_of, events_of, stop_of, Follow, before, broken, beginnings, body_fault, faults_in}
use Rattle.tapes.specs.Answered.{made_of}
use Rattle.tapes.specs.Claims.{first_or, Checked, Stopped}
use Rattle.tapes.proofs.Numbers.{Few, Lean, body-few, setup-lean}
use Rattle.tapes.proofs.Plays.{checks, closed_run, closed-check, closed-events, closed-stop, opened-events, opened-stop, opened-run, opened-check}
use Rattle.tapes.proofs.Places.{Rises, rises-from, before-all, Ends, ends-from, first-lies, among, follow-from, Way, at-end, no_room_lem, way}

-- the first fault
first_by : (n x : ℕ) (l : List ℕ) (t : Bool) (rest : ℕ) → rest ≡ first_or n l → cond t rest x ≡ first_or n (cond t l (x ∷ l))
first_by n x l true rest e = e
first_by n x l false rest e = refl

checks-first : (l : List Event) (n : ℕ) → checks l n ≡ first_or n (faults_in l)
unfolding checks faults_in
checks-first [] n = refl
checks-first (e ∷ l) n = first_by n (body_fault e) (faults_in l) (nat_eq (body_fault e) 0) (checks l n) (checks-first l n)

zero-by : (n x rest : ℕ) → (rest ≡ 0 → n ≡ 0) → (t : Bool) → nat_eq x 0 ≡ t → cond t rest x ≡ 0 → n ≡ 0
zero-by n x rest h true b e = h e
zero-by n x rest h false b e = absurd (eqb-false x 0 b e)

checks-zero : (l : List Event) (n : ℕ) → checks l n ≡ 0 → n ≡ 0
unfolding checks
checks-zero [] n e = e
checks-zero (x ∷ l) n e = zero-by n (body_fault x) (checks l n) (checks-zero l n) (nat_eq (body_fault x) 0) refl e

-- a configuration is refused by 1 to 6
setup-few : (body : List ℕ) (next : ℕ) (r : Reading Setup) → Lean r → Few 6 (on_setup body next r)
setup-few body next (read c end) h = tt
setup-few body next (fault n p) h = h

given_by_lem : (tape : List ℕ) (r : Got Span) → Few 3 r → Few 6 (and_then r (λ b next. on_setup (span_bytes tape b) next (setup_at (span_bytes tape b))))
given_by_lem tape (got b next) h = setup-few (span_bytes tape b) next (setup_at (span_bytes tape b)) (setup-lean (span_bytes tape b))
given_by_lem tape (refused n) h = (h.0, omega (arith, h.1))

given-few : (tape : List ℕ) → Few 6 (given_of tape)
unfolding given_of
given-few tape = given_by_lem tape (body_at tape 0) (body-few tape 0)

pub refused-few : (tape : List ℕ) {n : ℕ} → refused n ≡ given_of tape → (0 < n) × (n ≤ 6)
refused-few tape e = subst (Few 6) (sym e) (given-few tape)

-- a tape whose configuration is refused
module _ (tape : List ℕ) {n : ℕ} (e : refused n ≡ given_of tape) where
  closed-checked : Checked tape
  unfolding faults_in
  closed-checked =
      let h = refused-few tape e in
      record {
        sound = λ z room. absurd (omega (arith, z, closed-check tape e, h.0));
        agrees = λ room a b c. closed-check tape e ∙ sym (ap (λ (r : Run). r.status) (closed_run tape e room));
        first = closed-check tape e ∙ rw (closed-events tape e, closed-stop tape e);
      }

  closed-stopped : (room : ℕ) → Stopped tape (replay_of tape room)
  unfolding beginnings
  closed-stopped room =
      let h = refused-few tape e in
      subst (Stopped tape) (sym (closed_run tape e room))
      (record {
        status = inl h.1;
        whole = λ z. absurd (omega (arith, z, h.0));
        begins = λ z. Memᴰ.head refl;
        event = λ z. absurd (omega (arith, z, h.1));
        otherwise = λ z. rw (closed-stop tape e) (refl, refl);
        framing = λ z. absurd (omega (arith, z));
        inside = omega arith;
      })

-- any other
module _ (tape : List ℕ) {g : Given} {first : ℕ} (e : got g first ≡ given_of tape) where
  pub ends : Ends tape (stop_of tape)
  ends = let f = first-lies tape e in rw (opened-stop tape e) (ends-from tape (length tape) first f.1 (omega arith))

  pub rises : Rises first (events_of tape) (stop_of tape).place
  rises = rw (opened-events tape e, opened-stop tape e) (rises-from tape (length tape) first)

  pub opened-follow : Follow tape first (events_of tape) (stop_of tape)
  opened-follow = let f = first-lies tape e in rw (opened-events tape e, opened-stop tape e) (follow-from tape (length tape) first f.1 (omega arith))

  pub opened-way : (room : ℕ) → Way (events_of tape) (stop_of tape) (replay_of tape room)
  opened-way room = rw (opened-run tape e room) (way (stop_of tape) room (events_of tape) 0 (made_of g))

  sound-by : check_of tape ≡ 0 → (r : Run) → Way (events_of tape) (stop_of tape) r → (r.status ≡ 0) ⊎ (r.status ≡ no_room)
  sound-by z r (at-end a b) = inl (a ∙ checks-zero (events_of tape) (stop_of tape).number (sym (opened-check tape e) ∙ z))
  sound-by z r (no_room_lem a b) = inr a

  opened-first : check_of tape ≡ first_or (stop_of tape).number (faults_in (events_of tape))
  opened-first = opened-check tape e ∙ checks-first (events_of tape) (stop_of tape).number

  agrees-by : (r : Run) → Way (events_of tape) (stop_of tape) r → r.status ≤ 6 → faults_in (before r.place (events_of tape)) ≡ [] → check_of tape ≡ r.status
  agrees-by r (at-end a b) h z =
      let all : faults_in (events_of tape) ≡ [] = rw (b, before-all first (events_of tape) (stop_of tape).place rises) at z in
      opened-first ∙ (ap (first_or (stop_of tape).number) all ∙ sym a)
  agrees-by r (no_room_lem a b) h z = absurd (omega (arith, a, h))

  opened-checked : Checked tape
  opened-checked =
      record {
        sound = λ z room. sound-by z (replay_of tape room) (opened-way room);
        agrees = λ room a b c. agrees-by (replay_of tape room) (opened-way room) b c;
        first = opened-first;
      }

  status-by : (r : Run) → Way (events_of tape) (stop_of tape) r → (r.status ≤ 3) ⊎ (r.status ≡ no_room)
  status-by r (at-end a b) = inl (omega (arith, a, ends.few))
  status-by r (no_room_lem a b) = inr a

  whole_by : (r : Run) → Way (events_of tape) (stop_of tape) r → r.status ≡ 0 → r.place ≡ length tape
  whole_by r (at-end a b) z = b ∙ ends.whole (sym a ∙ z)
  whole_by r (no_room_lem a b) z = absurd (omega (arith, a, z))

  begins-by : (r : Run) → Way (events_of tape) (stop_of tape) r → (r.status ≡ 0 → ⊥) → Memᴰ r.place (beginnings tape)
  unfolding beginnings
  begins-by r (at-end a b) z =
      Memᴰ.tail (Memᴰ.append_right (map place_of (events_of tape)) {t = broken (stop_of tape)} (rw (ne_eqb (stop_of tape).number 0 (λ h. z (a ∙ h))) (Memᴰ.head b)))
  begins-by r (no_room_lem a b) z = Memᴰ.tail (Memᴰ.append_left (broken (stop_of tape)) b)

  event-by : (r : Run) → Way (events_of tape) (stop_of tape) r → r.status ≡ no_room → Memᴰ r.place (map place_of (events_of tape))
  event-by r (at-end a b) z = absurd (omega (arith, a, z, ends.few))
  event-by r (no_room_lem a b) z = b

  otherwise-by : (r : Run) → Way (events_of tape) (stop_of tape) r → (r.status ≡ no_room → ⊥) → (r.status ≡ (stop_of tape).number) × (r.place ≡ (stop_of tape).place)
  otherwise-by r (at-end a b) z = (a, b)
  otherwise-by r (no_room_lem a b) z = absurd (z a)

  inside-by : (r : Run) → Way (events_of tape) (stop_of tape) r → r.place ≤ length tape
  inside-by r (at-end a b) = omega (arith, b, ends.inside)
  inside-by r (no_room_lem a b) = omega (arith, ends.inside, (among (events_of tape) first (stop_of tape).place rises b).1)

  wide : (n : ℕ) → (n ≤ 3) ⊎ (n ≡ no_room) → (n ≤ 6) ⊎ (n ≡ no_room)
  wide n (inl a) = inl (omega arith)
  wide n (inr a) = inr a

  opened-stopped : (room : ℕ) → Stopped tape (replay_of tape room)
  opened-stopped room =
      let w = opened-way room in
      let r = replay_of tape room in
      record {
        status = wide r.status (status-by r w);
        whole = whole_by r w;
        begins = begins-by r w;
        event = event-by r w;
        otherwise = otherwise-by r w;
        framing = λ z. status-by r w;
        inside = inside-by r w;
      }

-- of every tape
checked-by : (tape : List ℕ) (r : Got Given) → r ≡ given_of tape → Checked tape
checked-by tape (got g first) e = opened-checked tape e
checked-by tape (refused n) e = closed-checked tape e

pub checked : (tape : List ℕ) → Checked tape
checked tape = checked-by tape (given_of tape) refl

stopped_by : (tape : List ℕ) (room : ℕ) (r : Got Given) → r ≡ given_of tape → Stopped tape (replay_of tape room)
stopped_by tape room (got g first) e = opened-stopped tape e room
stopped_by tape room (refused n) e = closed-stopped tape e room

pub stopped : (tape : List ℕ) (room : ℕ) → Stopped tape (replay_of tape room)
stopped tape room = stopped_by tape room (given_of tape) refl

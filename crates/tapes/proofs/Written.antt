-- What a run counts and writes: the claims Written and Roomy of specs/Claims.antt.
use Prim.Native.Nat.{ℕ, suc, ◌+◌, ◌≤◌, ◌<◌}
use mathlib.Core.Path.{◌≡◌, refl, sym, ap, subst, ◌∙◌}
use mathlib.Core.Bool.{Bool, true, false, cond}
use mathlib.Core.List.{List, [], ◌∷◌, ◌++◌, append-nil, append_assoc}
use native.Mathlib.Omega.{arith}
use lib.Dec.{leb as nat_le}
use lib.ListN.{length, length-append}
use borrow.Author.Tests.{leb-true, leb-false, le-leb, lt-ltb, le-ltb}
use Rattle.numbers.specs.Got.{Got, got, refused}
use Rattle.numbers.specs.Refusals.{no_room}
use Rattle.state.specs.declared.Machine.{Machine}
use Rattle.parts.specs.Reading.{Reading, read, fault}
use Rattle.bodies.specs.Told.{Told, call, fed, read_body}
use Rattle.answers.specs.Answers.{answer_bytes}
use Rattle.replay.specs.Replay as replay
use Rattle.replay.specs.Replay.{Step, step_by, step_of, Run, ahead, replay_of}
use Rattle.tapes.specs.Events.{either, Given, given_of, Event, Stop, events_of, stop_of, before, one_call, calls_in}
use Rattle.tapes.specs.Answered.{said_to, in_bytes, made_of, answers_to, asks_among}
use Rattle.tapes.specs.Claims.{Written, played, Roomy}
use Rattle.tapes.proofs.Plays.{plays, closed_run, closed-events, closed-stop, opened-run}
use Rattle.tapes.proofs.Places.{size, Rises, before-none}
use Rattle.tapes.proofs.Checked.{ends, rises, refused-few}
use Rattle.tapes.proofs.Histories.{most-asks}

-- a step counts its call
one-by : (m : Machine) (now : ℕ) (r : Reading Told) → (step_by m now r).calls ≡ one_call r
one-by m now (read call end) = refl
one-by m now (read (fed i b) end) = refl
one-by m now (fault n p) = refl

one-call : (m : Machine) (now : ℕ) (body : List ℕ) → (step_of m now body).calls ≡ one_call (read_body body)
unfolding step_of
one-call m now body = one-by m now (read_body body)

-- a run over events that begin at p or later and end where s says
pub record Gone (l : List Event) (w room : ℕ) (m : Machine) (r : Run) : Type 0 where
  pub calls : r.calls ≡ calls_in (before r.place l)
  pub bytes : r.bytes ≡ in_bytes (said_to m (before r.place l))
  pub fits : w + length r.bytes ≤ room
  pub short : r.status ≡ no_room → room < w + length (in_bytes (said_to m (before (suc r.place) l)))

module _ (s : Stop) (room : ℕ) (low : s.number ≤ 3) where
  -- the place of the run isn't before the first event
  place-by : (p : ℕ) (e : Event) (x : Step) (rest : Run) (t : Bool) → p ≤ e.place → p ≤ rest.place → p ≤ (cond t (ahead x rest) (replay.ended no_room e.place)).place
  place-by p e x rest true h k = k
  place-by p e x rest false h k = h

  place-from : (l : List Event) (p w : ℕ) (m : Machine) → Rises p l s.place → p ≤ (plays l s w room m).place
  unfolding Rises plays
  place-from [] p w m r = r
  place-from (e ∷ l) p w m r =
      let x = step_of m e.moment e.body in
      let v = w + length (answer_bytes x.said) in
      place-by p e x (plays l s v room x.machine) (nat_le v room) r.0 (omega (arith, r.0, place-from l (e.place + size e) v x.machine r.1))

  module _ (e : Event) (l : List Event) (w : ℕ) (m : Machine) (r : Rises (e.place + size e) l s.place) where
    abbrev step : Step
    step = step_of m e.moment e.body

    -- it goes on: the event is before every later place
    on : (rest : Run) → e.place < rest.place → Gone l (w + length (answer_bytes step.said)) room step.machine rest → Gone (e ∷ l) w room m (ahead step rest)
    unfolding before calls_in said_to in_bytes
    on rest h g =
        let a = length-append (answer_bytes step.said) rest.bytes in
        record {
          calls = rw (lt-ltb e.place rest.place h, ← (one-call m e.moment e.body), ← g.calls);
          bytes = rw (lt-ltb e.place rest.place h, ← g.bytes);
          fits = omega (arith, a, g.fits);
          short = λ z. rw (lt-ltb e.place (suc rest.place) (omega arith)) (omega (arith, g.short z, length-append (answer_bytes step.said) (in_bytes (said_to step.machine (before (suc rest.place) l)))));
        }

    -- it stops at the event
    off : w ≤ room → room < w + length (answer_bytes step.said) → Gone (e ∷ l) w room m (replay.ended no_room e.place)
    unfolding before calls_in said_to in_bytes
    off h k =
        record {
          calls = rw (le-ltb e.place e.place (omega arith), before-none (e.place + size e) l e.place s.place (omega arith) r);
          bytes = rw (le-ltb e.place e.place (omega arith), before-none (e.place + size e) l e.place s.place (omega arith) r);
          fits = omega arith;
          short = λ z. rw (lt-ltb e.place (suc e.place) (omega arith), before-none (e.place + size e) l (suc e.place) s.place (omega arith) r)
              (omega (arith, k, length-append (answer_bytes step.said) []));
        }

    gone-by : w ≤ room → (rest : Run) → e.place < rest.place
        → (w + length (answer_bytes step.said) ≤ room → Gone l (w + length (answer_bytes step.said)) room step.machine rest)
        → (t : Bool) → nat_le (w + length (answer_bytes step.said)) room ≡ t → Gone (e ∷ l) w room m (cond t (ahead step rest) (replay.ended no_room e.place))
    gone-by h rest k g true b = on rest k (g (leb-true (w + length (answer_bytes step.said)) room b))
    gone-by h rest k g false b = off h (leb-false (w + length (answer_bytes step.said)) room b)

  gone : (l : List Event) (p w : ℕ) (m : Machine) → Rises p l s.place → w ≤ room → Gone l w room m (plays l s w room m)
  unfolding plays Rises before calls_in said_to in_bytes
  gone [] p w m r h = record { calls = refl; bytes = refl; fits = omega arith; short = λ z. absurd (omega arith) }
  gone (e ∷ l) p w m r h =
      let x = step_of m e.moment e.body in
      let v = w + length (answer_bytes x.said) in
      gone-by e l w m r.1 h (plays l s v room x.machine) (omega (arith, place-from l (e.place + size e) v x.machine r.1))
      (λ k. gone l (e.place + size e) v x.machine r.1 k) (nat_le v room) refl

-- with room for all
module _ (s : Stop) (room : ℕ) where
  abbrev all : List Event → Machine → Run
  all l m = record { status = s.number; place = s.place; bytes = in_bytes (said_to m l); calls = calls_in l }

  play-enough : (l : List Event) (w : ℕ) (m : Machine) → w + length (in_bytes (said_to m l)) ≤ room → plays l s w room m ≡ all l m
  unfolding plays said_to in_bytes calls_in
  play-enough [] w m h = refl
  play-enough (e ∷ l) w m h =
      let x = step_of m e.moment e.body in
      let v = w + length (answer_bytes x.said) in
      let a = length-append (answer_bytes x.said) (in_bytes (said_to x.machine l)) in
      rw (le-leb v room (omega (arith, a, h)), play-enough l v x.machine (omega (arith, a, h)), one-call m e.moment e.body)

  less_by : (e : Event) (x : Step) (rest : Run) (t : Bool) → (t ≡ true → rest.status ≡ no_room) → (cond t (ahead x rest) (replay.ended no_room e.place)).status ≡ no_room
  less_by e x rest true h = h refl
  less_by e x rest false h = refl

  play-less : (l : List Event) (w : ℕ) (m : Machine) → w ≤ room → room < w + length (in_bytes (said_to m l)) → (plays l s w room m).status ≡ no_room
  unfolding plays said_to in_bytes
  play-less [] w m k h = absurd (omega arith)
  play-less (e ∷ l) w m k h =
      let x = step_of m e.moment e.body in
      let v = w + length (answer_bytes x.said) in
      let a = length-append (answer_bytes x.said) (in_bytes (said_to x.machine l)) in
      less_by e x (plays l s v room x.machine) (nat_le v room) (λ t. play-less l v x.machine (leb-true v room t) (omega (arith, a, h)))

-- with more room
module _ (s : Stop) (room larger : ℕ) (h : room ≤ larger) where
  abbrev Begins : List ℕ → List ℕ → Type 0
  Begins short long = (rest : List ℕ) × (long ≡ short ++ rest)

  more_by : (e : Event) (x : Step) (a b : Run) → Begins a.bytes b.bytes → (t u : Bool) → (t ≡ true → u ≡ true)
      → Begins (cond t (ahead x a) (replay.ended no_room e.place)).bytes (cond u (ahead x b) (replay.ended no_room e.place)).bytes
  more_by e x a b (rest, i) true true k = (rest, ap (λ (l : List ℕ). answer_bytes x.said ++ l) i ∙ sym (append_assoc (answer_bytes x.said) a.bytes rest))
  more_by e x a b i true false k = absurd (let z = k refl in let y : ◌≡◌ {A = ℕ} 0 1 = cc in omega arith)
  more_by e x a b i false u k = ((cond u (ahead x b) (replay.ended no_room e.place)).bytes, refl)

  play-more : (l : List Event) (w : ℕ) (m : Machine) → Begins (plays l s w room m).bytes (plays l s w larger m).bytes
  unfolding plays
  play-more [] w m = ([], refl)
  play-more (e ∷ l) w m =
      let x = step_of m e.moment e.body in
      let v = w + length (answer_bytes x.said) in
      more_by e x (plays l s v room x.machine) (plays l s v larger x.machine) (play-more l v x.machine) (nat_le v room) (nat_le v larger) (λ t. le-leb v larger (omega (arith, leb-true v room t, h)))

-- a tape whose configuration is refused
module _ (tape : List ℕ) {n : ℕ} (e : refused n ≡ given_of tape) where
  pub closed-answers : (l : List Event) → answers_to tape l ≡ []
  unfolding answers_to
  closed-answers l = ap (λ g. either g (λ n. []) (λ g first. said_to (made_of g) l)) (sym e)

  closed-written : (room : ℕ) → Written tape room (replay_of tape room)
  unfolding before calls_in in_bytes asks_among
  closed-written room =
      subst (Written tape room) (sym (closed_run tape e room))
      (record {
        calls = rw (closed-events tape e);
        bytes = rw (closed-answers (before 0 (events_of tape)));
        fits = omega arith;
        asks = rw (closed-answers (before 0 (events_of tape))) (omega arith);
        short = λ z. absurd (omega (arith, z, (refused-few tape e).1));
      })

  pub closed-played : played tape ≡ replay.ended n 0
  unfolding calls_in in_bytes
  closed-played = rw (closed-answers (events_of tape), closed-events tape e, closed-stop tape e)

  closed-roomy : Roomy tape
  closed-roomy =
      record {
        enough = λ room h. closed_run tape e room ∙ sym closed-played;
        less = λ room h. absurd (omega (arith, h, ap (λ (r : Run). length r.bytes) closed-played));
        more = λ room larger h. ([], ap (λ (r : Run). r.bytes) (closed_run tape e larger ∙ sym (closed_run tape e room)) ∙ sym (append-nil (replay_of tape room).bytes));
      }

-- any other
module _ (tape : List ℕ) {g : Given} {first : ℕ} (e : got g first ≡ given_of tape) where
  pub opened-answers : (l : List Event) → answers_to tape l ≡ said_to (made_of g) l
  unfolding answers_to
  opened-answers l = ap (λ g. either g (λ n. []) (λ g first. said_to (made_of g) l)) (sym e)

  opened-gone : (room : ℕ) → Gone (events_of tape) 0 room (made_of g) (replay_of tape room)
  opened-gone room =
      subst (Gone (events_of tape) 0 room (made_of g)) (sym (opened-run tape e room))
      (gone (stop_of tape) room (ends tape e).few (events_of tape) first 0 (made_of g) (rises tape e) (omega arith))

  opened-written : (room : ℕ) → Written tape room (replay_of tape room)
  opened-written room =
      let k = opened-gone room in
      let r = replay_of tape room in
      record {
        calls = k.calls;
        bytes = k.bytes ∙ ap in_bytes (sym (opened-answers (before r.place (events_of tape))));
        fits = omega (arith, k.fits);
        asks = rw (opened-answers (before r.place (events_of tape))) (most-asks g (before r.place (events_of tape)));
        short = λ z. rw (opened-answers (before (suc r.place) (events_of tape))) (omega (arith, k.short z));
      }

  played-all : all (stop_of tape) 0 (events_of tape) (made_of g) ≡ played tape
  played-all = rw (opened-answers (events_of tape))

  opened-roomy : Roomy tape
  opened-roomy =
      record {
        enough = λ room h. opened-run tape e room ∙ (play-enough (stop_of tape) room (events_of tape) 0 (made_of g) (omega (arith, rw (opened-answers (events_of tape)) at h)) ∙ played-all);
        less = λ room h. ap (λ (r : Run). r.status) (opened-run tape e room) ∙ play-less (stop_of tape) room (events_of tape) 0 (made_of g) (omega arith) (omega (arith, rw (opened-answers (events_of tape)) at h));
        more = λ room larger h. rw (opened-run tape e room, opened-run tape e larger) (play-more (stop_of tape) room larger h (events_of tape) 0 (made_of g));
      }

-- of every tape
written-by : (tape : List ℕ) (room : ℕ) (r : Got Given) → r ≡ given_of tape → Written tape room (replay_of tape room)
written-by tape room (got g first) e = opened-written tape e room
written-by tape room (refused n) e = closed-written tape e room

pub written : (tape : List ℕ) (room : ℕ) → Written tape room (replay_of tape room)
written tape room = written-by tape room (given_of tape) refl

roomy-by : (tape : List ℕ) (r : Got Given) → r ≡ given_of tape → Roomy tape
roomy-by tape (got g first) e = opened-roomy tape e
roomy-by tape (refused n) e = closed-roomy tape e

pub roomy : (tape : List ℕ) → Roomy tape
roomy tape = roomy-by tape (given_of tape) refl

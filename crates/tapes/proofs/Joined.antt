-- A tape and more bytes behind it: the claims Joined and TakenOut of specs/Claims.antt.
use Prim.Native.Nat.{ℕ, zero, suc, ◌+◌, ◌≤◌, ◌<◌}
use mathlib.Core.Path.{◌≡◌, refl, sym, ap, ◌∙◌}
use mathlib.Core.Bool.{Bool, true, false, cond}
use mathlib.Core.Logic.{⊎_elim}
use mathlib.Core.List.{List, [], ◌∷◌, ◌++◌, map, append_assoc}
use native.Mathlib.Nat.{add-zero}
use native.Mathlib.Omega.{arith}
use lib.Dec.{leb as nat_le}
use lib.ListN.{length, length-append}
use borrow.Author.Tests.{le-leb, lt-leb}
use Rattle.numbers.specs.Fields.{span_bytes}
use Rattle.numbers.specs.Got.{Got, got, refused, and_then}
use Rattle.numbers.specs.declared.field.Span.{Span}
use Rattle.numbers.proofs.Cases.{less-or-not}
use Rattle.state.specs.declared.Machine.{Machine}
use Rattle.parts.specs.Reading.{Reading, read, fault, next}
use Rattle.parts.proofs.Steps.{got-then}
use Rattle.bodies.specs.Events.{event_at, fault_of}
use Rattle.bodies.specs.Told.{told_by, read_body}
use Rattle.bodies.specs.declared.Event as body
use Rattle.configuration.specs.Configuration.{setup_at}
use Rattle.answers.specs.Answers.{Said, input, answer_bytes}
use Rattle.replay.specs.Frames.{body_at, frame_at}
use Rattle.replay.specs.declared.frames.Frame.{Frame}
use Rattle.replay.specs.Replay.{Step, step_by, step_of}
use Rattle.replay.proofs.Framed.{frame-lies}
use Rattle.tapes.specs.Events.{either, Given, on_setup, given_of, Event, event_of, events_from, Stop, stop_at, stop_from, frames_of, frames_end, events_of, stop_of, moved, moved_end, body_fault, one_call, calls_in}
use Rattle.tapes.specs.Answered.{after, said_to, in_bytes, made_of}
use Rattle.tapes.specs.Claims.{played, Joined, Refuses, TakenOut}
use Rattle.tapes.proofs.Numbers.{Few, frame-few}
use Rattle.tapes.proofs.Reading.{body_same, frame_same, moved_frame, span-moved, frame-moved}
use Rattle.tapes.proofs.Plays.{closed-stop, opened-events, opened-stop}
use Rattle.tapes.proofs.Places.{first-lies}
use Rattle.tapes.proofs.Checked.{refused-few}
use Rattle.tapes.proofs.Written.{opened-answers}

-- how many events may follow doesn't matter, if they are enough
module _ (tape : List ℕ) where
  abbrev Alike : (k j at : ℕ) → Type 0
  Alike k j at = (events_from k tape at ≡ events_from j tape at) × (stop_from k tape at ≡ stop_from j tape at)

  none_left : (j at : ℕ) → length tape ≤ at → (events_from j tape at ≡ []) × (stop_from j tape at ≡ stop_at 0 at)
  unfolding events_from stop_from
  none_left zero at h = (refl, refl)
  none_left (suc j) at h = (rw (le-leb (length tape) at h), rw (le-leb (length tape) at h))

  alike-by : (k j at : ℕ) (r : Got Frame) → ((f : Frame) (next : ℕ) → got f next ≡ r → Alike k j next)
      → (either r (λ n. []) (λ f next. event_of tape at f ∷ events_from k tape next) ≡ either r (λ n. []) (λ f next. event_of tape at f ∷ events_from j tape next))
      × (either r (λ n. stop_at n at) (λ f next. stop_from k tape next) ≡ either r (λ n. stop_at n at) (λ f next. stop_from j tape next))
  alike-by k j at (refused n) h = (refl, refl)
  alike-by k j at (got f next) h = let x = h f next refl in (ap (λ (l : List Event). event_of tape at f ∷ l) x.0, x.1)

  alike : (k j at : ℕ) → length tape ≤ at + k → length tape ≤ at + j → Alike k j at
  unfolding events_from stop_from
  alike zero j at h i = let x = none_left j at (omega arith) in (sym x.0, sym x.1)
  alike (suc k) zero at h i = none_left (suc k) at (omega arith)
  alike (suc k) (suc j) at h i =
      let x = alike-by k j at (frame_at tape at) (λ f next e. let l = frame-lies tape at f next e in alike k j next (omega (arith, l.before, h)) (omega (arith, l.before, i))) in
      (ap (cond (nat_le (length tape) at) []) x.0, ap (cond (nat_le (length tape) at) (stop_at 0 at)) x.1)

module _ (a s : List ℕ) where
  abbrev both : List ℕ
  both = a ++ s

  -- the bytes behind
  end_moved : (i : ℕ) → nat_le (length both) (length a + i) ≡ nat_le (length s) i
  end_moved i =
      let l = length-append a s in
      ⊎_elim (λ (h : i < length s). lt-leb (length both) (length a + i) (omega (arith, l, h)) ∙ sym (lt-leb (length s) i h))
      (λ (h : length s ≤ i). le-leb (length both) (length a + i) (omega (arith, l, h)) ∙ sym (le-leb (length s) i h))
      (less-or-not i (length s))

  abbrev Moved : (k i : ℕ) → Type 0
  Moved k i = (events_from k both (length a + i) ≡ map (moved (length a)) (events_from k s i)) × (stop_from k both (length a + i) ≡ moved_end (length a) (stop_from k s i))

  moved_by : (k i : ℕ) (t : Bool) (r : Got Frame) → ((next : ℕ) → Moved k next)
      → (cond t [] (either (moved_frame (length a) r) (λ n. []) (λ f next. event_of both (length a + i) f ∷ events_from k both next))
      ≡ map (moved (length a)) (cond t [] (either r (λ n. []) (λ f next. event_of s i f ∷ events_from k s next))))
      × (cond t (stop_at 0 (length a + i)) (either (moved_frame (length a) r) (λ n. stop_at n (length a + i)) (λ f next. stop_from k both next))
      ≡ moved_end (length a) (cond t (stop_at 0 i) (either r (λ n. stop_at n i) (λ f next. stop_from k s next))))
  moved_by k i true r h = (refl, refl)
  moved_by k i false (refused n) h = (refl, refl)
  moved_by k i false (got f next) h = (rw (span-moved a s f.body, (h next).0), (h next).1)

  events-moved : (k i : ℕ) → Moved k i
  unfolding events_from stop_from
  events-moved zero i = (refl, refl)
  events-moved (suc k) i = rw (end_moved i, frame-moved a s i) (moved_by k i (nat_le (length s) i) (frame_at s i) (λ next. events-moved k next))

  -- the events of the front, then those behind
  abbrev Split : (j k at : ℕ) → Type 0
  Split j k at = (events_from k both at ≡ events_from j a at ++ events_from (length s) both (length a)) × (stop_from k both at ≡ stop_from (length s) both (length a))

  split-end : (j k at : ℕ) → at ≤ length a → length a ≤ at → length both ≤ at + k → Split j k at
  split-end j k at h i e =
      let z : at ≡ length a = omega arith in
      let x = alike both k (length s) at e (omega (arith, length-append a s, i)) in
      rw ((none_left a j at i).0, z) (rw z at x)

  split-frame : (j k at : ℕ) → at < length a → (f : Frame) (next : ℕ) → got f next ≡ frame_at a at → Split j k next
      → (events_from (suc k) both at ≡ event_of a at f ∷ events_from j a next ++ events_from (length s) both (length a)) × (stop_from (suc k) both at ≡ stop_from (length s) both (length a))
  unfolding events_from stop_from
  split-frame j k at h f next e x =
      let y = frame_same a s at (omega arith) e in
      rw (lt-leb (length both) at (omega (arith, length-append a s, h)), y.0, ← e, y.1) (ap (λ (l : List Event). event_of a at f ∷ l) x.0, x.1)

  split_by : (j k at : ℕ) → at < length a → ((f : Frame) (next : ℕ) → got f next ≡ frame_at a at → (stop_from j a next).number ≡ 0 → Split j k next)
      → (r : Got Frame) → r ≡ frame_at a at → Few 3 r → (either r (λ n. stop_at n at) (λ f next. stop_from j a next)).number ≡ 0
      → (events_from (suc k) both at ≡ either r (λ n. []) (λ f next. event_of a at f ∷ events_from j a next) ++ events_from (length s) both (length a))
      × (stop_from (suc k) both at ≡ stop_from (length s) both (length a))
  split_by j k at h ih (refused n) e w z = absurd (omega (arith, z, w.0))
  split_by j k at h ih (got f next) e w z = split-frame j k at h f next e (ih f next e z)

  split : (j k at : ℕ) → at ≤ length a → length a ≤ at + j → length both ≤ at + k → (stop_from j a at).number ≡ 0 → Split j k at
  unfolding events_from stop_from
  split zero k at h i e z = split-end zero k at h (omega arith) e
  split (suc j) zero at h i e z = split-end (suc j) zero at h (omega (arith, e, length-append a s)) e
  split (suc j) (suc k) at h i e z =
      ⊎_elim
      (λ (l : at < length a). let f = lt-leb (length a) at l in
      rw f (split_by j k at l (λ f next x y. let w = frame-lies a at f next x in split j k next w.inside (omega (arith, w.before, i)) (omega (arith, w.before, e)) y)
      (frame_at a at) refl (frame-few a at) (rw f at z)))
      (λ (l : length a ≤ at). split-end (suc j) (suc k) at h l e) (less-or-not at (length a))

  -- without a configuration in front
  abbrev Frames : Type 0
  Frames = (frames_of both ≡ frames_of a ++ map (moved (length a)) (frames_of s)) × (frames_end both ≡ moved_end (length a) (frames_end s))

  behind : Moved (length s) 0 → (events_from (length s) both (length a) ≡ map (moved (length a)) (frames_of s)) × (stop_from (length s) both (length a) ≡ moved_end (length a) (frames_end s))
  unfolding frames_of frames_end
  behind x = rw add-zero at x

  frames-joined : (frames_end a).number ≡ 0 → Frames
  unfolding frames_of frames_end
  frames-joined z =
      let x = split (length a) (length both) 0 (omega arith) (omega arith) (omega arith) z in
      let y = behind (events-moved (length s) 0) in
      (x.0 ∙ ap (λ (l : List Event). events_from (length a) a 0 ++ l) y.0, x.1 ∙ y.1)

  -- behind a configuration
  given_by_lem : (r q : Got Span) → q ≡ r → ((b : Span) (next : ℕ) → got b next ≡ r → span_bytes both b ≡ span_bytes a b)
      → and_then q (λ b next. on_setup (span_bytes both b) next (setup_at (span_bytes both b))) ≡ and_then r (λ b next. on_setup (span_bytes a b) next (setup_at (span_bytes a b)))
  given_by_lem (got b next) q e h = rw (e, h b next refl)
  given_by_lem (refused n) q e h = rw e

  module _ {g : Given} {first : ℕ} (e : got g first ≡ given_of a) where
    given-joined : given_of both ≡ given_of a
    unfolding given_of
    given-joined =
        let t = got-then (body_at a 0) (λ b next. on_setup (span_bytes a b) next (setup_at (span_bytes a b))) e in
        given_by_lem (body_at a 0) (body_at both 0) (body_same a s 0 (omega arith) t.first).0 (λ b next x. (body_same a s 0 (omega arith) x).1)

    given_both : got g first ≡ given_of both
    given_both = e ∙ sym given-joined

    module _ (z : (stop_of a).number ≡ 0) where
      tape-split : Split (length a) (length both) first
      tape-split = split (length a) (length both) first (first-lies a e).1 (omega arith) (omega arith) (ap (λ (x : Stop). x.number) (sym (opened-stop a e)) ∙ z)

      events-joined : events_of both ≡ events_of a ++ map (moved (length a)) (frames_of s)
      events-joined = rw (opened-events both given_both, opened-events a e) (tape-split.0 ∙ ap (λ (l : List Event). events_from (length a) a first ++ l) (behind (events-moved (length s) 0)).0)

      stop-joined : stop_of both ≡ moved_end (length a) (frames_end s)
      stop-joined = opened-stop both given_both ∙ (tape-split.1 ∙ (behind (events-moved (length s) 0)).1)

-- answers to events one after the other
said-join : (l k : List Event) (m : Machine) → said_to m (l ++ k) ≡ said_to m l ++ said_to (after m l) k
unfolding said_to after
said-join [] k m = refl
said-join (e ∷ l) k m = let x = step_of m e.moment e.body in ap (λ (r : List Said). x.said ∷ r) (said-join l k x.machine)

bytes-join : (x y : List Said) → in_bytes (x ++ y) ≡ in_bytes x ++ in_bytes y
unfolding in_bytes
bytes-join [] y = refl
bytes-join (a ∷ x) y = ap (λ (r : List ℕ). answer_bytes a ++ r) (bytes-join x y) ∙ sym (append_assoc (answer_bytes a) (in_bytes x) (in_bytes y))

calls-join : (l k : List Event) → calls_in (l ++ k) ≡ calls_in l + calls_in k
unfolding calls_in
calls-join [] k = omega arith
calls-join (e ∷ l) k = omega (arith, calls-join l k)

-- their places don't matter
said-moved : (d : ℕ) (l : List Event) (m : Machine) → said_to m (map (moved d) l) ≡ said_to m l
unfolding said_to
said-moved d [] m = refl
said-moved d (e ∷ l) m = let x = step_of m e.moment e.body in ap (λ (r : List Said). x.said ∷ r) (said-moved d l x.machine)

calls_moved : (d : ℕ) (l : List Event) → calls_in (map (moved d) l) ≡ calls_in l
unfolding calls_in
calls_moved d [] = refl
calls_moved d (e ∷ l) = ap (λ (n : ℕ). one_call (read_body e.body) + n) (calls_moved d l)

-- what a tape is answered with more behind it
module _ (tape more : List ℕ) {g : Given} {first : ℕ} (e : got g first ≡ given_of tape) (z : (stop_of tape).number ≡ 0) where
  abbrev there : Machine
  there = after (made_of g) (events_of tape)

  bytes-joined : (played (tape ++ more)).bytes ≡ (played tape).bytes ++ in_bytes (said_to there (frames_of more))
  bytes-joined =
      rw (opened-answers (tape ++ more) (given_both tape more e) (events_of (tape ++ more)), opened-answers tape e (events_of tape), events-joined tape more e z)
      (ap in_bytes (said-join (events_of tape) (map (moved (length tape)) (frames_of more)) (made_of g))
      ∙ (bytes-join (said_to (made_of g) (events_of tape)) (said_to there (map (moved (length tape)) (frames_of more)))
      ∙ ap (λ (l : List Said). in_bytes (said_to (made_of g) (events_of tape)) ++ in_bytes l) (said-moved (length tape) (frames_of more) there)))

  calls-joined : (played (tape ++ more)).calls ≡ (played tape).calls + calls_in (frames_of more)
  calls-joined = rw (events-joined tape more e z) (calls-join (events_of tape) (map (moved (length tape)) (frames_of more)) ∙ ap (λ (n : ℕ). calls_in (events_of tape) + n) (calls_moved (length tape) (frames_of more)))

  opened-joined : Joined tape more
  opened-joined =
      record {
        given = given-joined tape more e;
        events = events-joined tape more e z;
        stop = stop-joined tape more e z;
        bytes = (in_bytes (said_to there (frames_of more)), bytes-joined);
      }

-- a refused body changes nothing
abbrev idle : Machine → ℕ → Step
idle m n = record { machine = m; said = input n; calls = 0 }

idle-by : (m : Machine) (now n : ℕ) (s : List ℕ) (r : Reading body.Event) → (fault_of r).number ≡ n → (n ≡ 0 → ⊥) → step_by m now (next r (λ x end. read (told_by s x) end)) ≡ idle m n
idle-by m now n s (read x end) e k = absurd (k (sym e))
idle-by m now n s (fault x p) e k = ap (idle m) e

idle-step : (m : Machine) (e : Event) (n : ℕ) → body_fault e ≡ n → (n ≡ 0 → ⊥) → step_of m e.moment e.body ≡ idle m n
unfolding step_of read_body
idle-step m e n h k = idle-by m e.moment n e.body (event_at e.body) h k

-- it is no call
no-call-by : (n : ℕ) (s : List ℕ) (r : Reading body.Event) → (fault_of r).number ≡ n → (n ≡ 0 → ⊥) → one_call (next r (λ x end. read (told_by s x) end)) ≡ 0
no-call-by n s (read x end) e k = absurd (k (sym e))
no-call-by n s (fault x p) e k = refl

no_call : (e : Event) (n : ℕ) → body_fault e ≡ n → (n ≡ 0 → ⊥) → one_call (read_body e.body) ≡ 0
unfolding read_body
no_call e n h k = no-call-by n e.body (event_at e.body) h k

module _ (frame more : List ℕ) (n : ℕ) (r : Refuses frame n) where
  frames-with : frames_of (frame ++ more) ≡ r.event ∷ map (moved (length frame)) (frames_of more)
  frames-with = (frames-joined frame more r.whole).0 ∙ ap (λ (l : List Event). l ++ map (moved (length frame)) (frames_of more)) r.only

  said-with : (m : Machine) → in_bytes (said_to m (frames_of (frame ++ more))) ≡ answer_bytes (input n) ++ in_bytes (said_to m (frames_of more))
  unfolding said_to in_bytes
  said-with m = rw (frames-with, idle-step m r.event n r.fault r.some, said-moved (length frame) (frames_of more) m)

  calls-with : calls_in (frames_of (frame ++ more)) ≡ calls_in (frames_of more)
  unfolding calls_in
  calls-with = rw (frames-with, calls_moved (length frame) (frames_of more)) (omega (arith, no_call r.event n r.fault r.some))

  module _ (tape : List ℕ) {g : Given} {first : ℕ} (e : got g first ≡ given_of tape) (z : (stop_of tape).number ≡ 0) where
    opened_out : TakenOut tape frame more n
    opened_out =
        record {
          rest = in_bytes (said_to (there tape more e z) (frames_of more));
          within = bytes-joined tape (frame ++ more) e z ∙ ap (λ (l : List ℕ). (played tape).bytes ++ l) (said-with (there tape more e z));
          without = bytes-joined tape more e z;
          status = ap (λ (s : Stop). s.number) (stop-joined tape (frame ++ more) e z ∙ ap (moved_end (length tape)) (frames-joined frame more r.whole).1) ∙ sym (ap (λ (s : Stop). s.number) (stop-joined tape more e z));
          calls = calls-joined tape (frame ++ more) e z ∙ (ap (λ (k : ℕ). (played tape).calls + k) calls-with ∙ sym (calls-joined tape more e z));
        }

-- of every tape without fault in its frames, which has a configuration that is read
opened : (tape : List ℕ) → (stop_of tape).number ≡ 0 → (r : Got Given) → r ≡ given_of tape → (g : Given) × (first : ℕ) × (got g first ≡ given_of tape)
opened tape z (got g first) e = (g, first, e)
opened tape z (refused n) e = absurd (omega (arith, z, ap (λ (s : Stop). s.number) (closed-stop tape e), (refused-few tape e).0))

pub joined : (tape more : List ℕ) → (stop_of tape).number ≡ 0 → Joined tape more
joined tape more z = let x = opened tape z (given_of tape) refl in opened-joined tape more x.2 z

pub taken_out : (tape frame more : List ℕ) (n : ℕ) → (stop_of tape).number ≡ 0 → Refuses frame n → TakenOut tape frame more n
taken_out tape frame more n z r = let x = opened tape z (given_of tape) refl in opened_out frame more n r tape x.2 z

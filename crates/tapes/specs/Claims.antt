-- What holds of every tape, whatever its bytes, and of its replay with any room; `Tape`, at the end, has all of it.
use Rattle.std.specs.Prelude.{ℕ, suc, ◌+◌, ◌*◌, ◌≤◌, ◌<◌, min, ◌≡◌, true, ◌⊎◌, length, get_or, take}
use mathlib.Core.List.{List, [], ◌∷◌, ◌++◌, map, Memᴰ}
use Rattle.numbers.specs.Got.{got}
use Rattle.numbers.specs.Refusals.{no_room}
use Rattle.answers.specs.Answers.{input, answer_bytes}
use Rattle.standing.specs.Standing.{standing}
use Rattle.replay.specs.Check.{check_of}
use Rattle.replay.specs.Replay.{Run, replay_of}
use Rattle.tapes.specs.Events.{Given, given_of, Event, body_fault, stop_at, frames_of, frames_end, events_of, stop_of, Follow, before, place_of, beginnings, ends, moved, moved_end, faults_in, calls_in}
use Rattle.tapes.specs.Answered.{after, in_bytes, made_of, answers_to, asks_among}
use Rattle.tapes.specs.Histories.{Historic, Demanded}

-- Tape check against replay

-- the first of some numbers; n where there is none
abbrev pub first_or : ℕ → List ℕ → ℕ
first_or n [] = n
first_or n (x ∷ l) = x

pub record Checked (tape : List ℕ) : Type 0 where
  -- after 0, replay ends with 0 or 13
  pub sound : check_of tape ≡ 0 → (room : ℕ) → ((replay_of tape room).status ≡ 0) ⊎ ((replay_of tape room).status ≡ no_room)
  -- where replay stops with 1 to 6 and refused no body before, tape check gives that number
  pub agrees : (room : ℕ) → 0 < (replay_of tape room).status → (replay_of tape room).status ≤ 6 → faults_in (before (replay_of tape room).place (events_of tape)) ≡ []
      → check_of tape ≡ (replay_of tape room).status
  -- and in any case the number of the first body that is refused, or else that of the frame at which the events end
  pub first : check_of tape ≡ first_or (stop_of tape).number (faults_in (events_of tape))

-- Where replay stops

pub record Stopped (tape : List ℕ) (r : Run) : Type 0 where
  pub status : (r.status ≤ 6) ⊎ (r.status ≡ no_room)
  -- at the tape's end, or where a record begins
  pub whole : r.status ≡ 0 → r.place ≡ length tape
  pub begins : (r.status ≡ 0 → ⊥) → Memᴰ r.place (beginnings tape)
  -- for want of room at an event, and else where the events end, by the number of that end
  pub event : r.status ≡ no_room → Memᴰ r.place (map place_of (events_of tape))
  pub otherwise : (r.status ≡ no_room → ⊥) → (r.status ≡ (stop_of tape).number) × (r.place ≡ (stop_of tape).place)
  -- behind the configuration only for a frame that is cut, has a bad number or is too long, or for want of room
  pub framing : 0 < r.place → (r.status ≤ 3) ⊎ (r.status ≡ no_room)
  pub inside : r.place ≤ length tape

-- What is counted and written

pub record Written (tape : List ℕ) (room : ℕ) (r : Run) : Type 0 where
  -- the accepted call bodies before the place, and whole answers to the events before it
  pub calls : r.calls ≡ calls_in (before r.place (events_of tape))
  pub bytes : r.bytes ≡ in_bytes (answers_to tape (before r.place (events_of tape)))
  pub fits : length r.bytes ≤ room
  -- and whatever the bytes are, at most 95 of these answers ask for something
  pub asks : asks_among (answers_to tape (before r.place (events_of tape))) ≤ 95
  -- it stops for want of room only where the next answer, that of the event at the place, would pass it
  pub short : r.status ≡ no_room → room < length (in_bytes (answers_to tape (before (suc r.place) (events_of tape))))

-- the run that comes to the end of a tape's events
abbrev pub played : List ℕ → Run
played tape =
    record {
      status = (stop_of tape).number;
      place = (stop_of tape).place;
      bytes = in_bytes (answers_to tape (events_of tape));
      calls = calls_in (events_of tape);
    }

pub record Roomy (tape : List ℕ) : Type 0 where
  -- with room for all answers it comes to the end, with less it stops with 13
  pub enough : (room : ℕ) → length (played tape).bytes ≤ room → replay_of tape room ≡ played tape
  pub less : (room : ℕ) → room < length (played tape).bytes → (replay_of tape room).status ≡ no_room
  -- with more room the answers begin with those of less
  pub more : (room larger : ℕ) → room ≤ larger → (rest : List ℕ) × ((replay_of tape larger).bytes ≡ (replay_of tape room).bytes ++ rest)

-- Room that is never too short, by the tape's length n: 265 n bytes, and 4 n + 74,290 bytes, which is less from 285 on
abbrev pub room_for : ℕ → ℕ
room_for n = min (265 * n) (4 * n + 74290)

pub record Bounded (tape : List ℕ) : Type 0 where
  pub bytes : length (played tape).bytes ≤ room_for (length tape)
  pub never : (room : ℕ) → room_for (length tape) ≤ room → (replay_of tape room).status ≡ no_room → ⊥

-- Tapes that are joined, cut, or without one of their frames

-- a tape that ends without a frame's fault, and more bytes behind it
pub record Joined (tape more : List ℕ) : Type 0 where
  -- the events of both, one after the other
  pub given : given_of (tape ++ more) ≡ given_of tape
  pub events : events_of (tape ++ more) ≡ events_of tape ++ map (moved (length tape)) (frames_of more)
  pub stop : stop_of (tape ++ more) ≡ moved_end (length tape) (frames_end more)
  -- and their answers
  pub bytes : (rest : List ℕ) × ((played (tape ++ more)).bytes ≡ (played tape).bytes ++ rest)

-- a tape that is cut where its configuration or an event ends: it ends without fault, and its answers are the first of the whole tape's
pub record Cut (tape : List ℕ) (p : ℕ) : Type 0 where
  pub stop : stop_of (take p tape) ≡ stop_at 0 p
  pub events : events_of (take p tape) ≡ before p (events_of tape)
  pub bytes : (rest : List ℕ) × ((played tape).bytes ≡ (played (take p tape)).bytes ++ rest)

-- one whole frame, whose body is refused by n
pub record Refuses (frame : List ℕ) (n : ℕ) : Type 0 where
  pub event : Event
  pub only : frames_of frame ≡ event ∷ []
  pub whole : (frames_end frame).number ≡ 0
  pub fault : body_fault event ≡ n
  pub some : n ≡ 0 → ⊥

-- such a frame in the middle of a tape: without it all other answers are the same
pub record TakenOut (tape frame more : List ℕ) (n : ℕ) : Type 0 where
  pub rest : List ℕ
  pub within : (played (tape ++ (frame ++ more))).bytes ≡ (played tape).bytes ++ (answer_bytes (input n) ++ rest)
  pub without : (played (tape ++ more)).bytes ≡ (played tape).bytes ++ rest
  pub status : (played (tape ++ (frame ++ more))).status ≡ (played (tape ++ more)).status
  pub calls : (played (tape ++ (frame ++ more))).calls ≡ (played (tape ++ more)).calls

pub record Tape (tape : List ℕ) : Type 0 where
  pub checked : Checked tape
  pub stopped : (room : ℕ) → Stopped tape (replay_of tape room)
  pub written : (room : ℕ) → Written tape room (replay_of tape room)
  pub roomy : Roomy tape
  pub bounded : Bounded tape
  pub joined : (stop_of tape).number ≡ 0 → (more : List ℕ) → Joined tape more
  pub cut : (p : ℕ) → Memᴰ p (ends tape) → Cut tape p
  pub without : (stop_of tape).number ≡ 0 → (frame more : List ℕ) (n : ℕ) → Refuses frame n → TakenOut tape frame more n
  -- the events are all that can be read, each where the one before ends
  pub follow : (g : Given) (first : ℕ) → got g first ≡ given_of tape → Follow tape first (events_of tape) (stop_of tape)
  -- if it is of bytes, the standing rules (standing/Standing) hold of its machine after the events before any place
  pub stands : ((i : ℕ) → get_or tape i 0 < 256) → (g : Given) (first : ℕ) → got g first ≡ given_of tape → (p : ℕ) → standing (after (made_of g) (before p (events_of tape))) ≡ true
  -- its events are a history of the machine that its configuration makes, so demand 3 holds of their answers
  pub history : (g : Given) (first : ℕ) → got g first ≡ given_of tape → Historic g (events_of tape)
  pub demand : (g : Given) (first : ℕ) → got g first ≡ given_of tape → Demanded g

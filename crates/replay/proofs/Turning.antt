-- The loop's state tied to the run: what the run says from here on, behind what is written and counted, is what it says of the whole tape.
--     tied-start      before the first event
--     tied-go         one event more: the one law of every arm that goes on
--     tied-next       the same, where the code counts the call and keeps the machine
--     tied_by         the same of the parts that a change is stored in; the code needs it no more, and docs/PORT.md names it
--     tied-end, tied-refused, tied-full      the three ways to stop
--     stopped         what a stopped run gives back
use Prim.Native.Nat.{ℕ, zero, suc, ◌+◌, ◌≤◌, ◌<◌}
use mathlib.Core.Path.{◌≡◌, refl, sym, ap, ◌∙◌}
use mathlib.Core.Logic.{⊎_elim}
use mathlib.Core.List.{List, [], ◌∷◌, ◌++◌}
use native.Mathlib.Nat.{add-zero}
use native.Mathlib.Omega.{arith}
use lib.ListN.{length, set, length-append}
use lib.Seq.{sets, length-sets}
use borrow.Author.Tests.{le-leb, lt-leb}
use Rattle.numbers.specs.Got.{got, refused}
use Rattle.numbers.specs.Fields.{span_bytes}
use Rattle.numbers.specs.Put as put
use Rattle.numbers.specs.Put.{put_answer, put_bytes}
use Rattle.numbers.proofs.PutLaws.{no_room_lem, room}
use Rattle.numbers.proofs.Cases.{less-or-not}
use Rattle.state.specs.declared.Machine.{Machine}
use Rattle.machine.specs.declared.calls.Beside.{Beside}
use Rattle.answers.specs.Answers.{answer_bytes}
use Rattle.replay.specs.Frames.{Frame, frame_at}
use Rattle.replay.specs.Replay.{Step, step_of, Run, ended, ahead, run, run_from}
use Rattle.replies.specs.declared.Change.{Change}
use Rattle.replies.specs.declared.Touched.{Touched}
use Rattle.replies.specs.Replies.{after}
use Rattle.replay.specs.Race.{Proper}
use Rattle.replay.proofs.Framed.{frame-lies}
use Rattle.replay.proofs.Steps.{few-calls, parts_by, touched_in, stored-by}

-- `rest`, behind what is written and counted, is `all`
pub record Onto (out₀ out : List ℕ) (written calls : ℕ) (rest all : Run) : Type 0 where
  pub status : rest.status ≡ all.status
  pub place : rest.place ≡ all.place
  pub size : written + length rest.bytes ≡ length all.bytes
  pub count : calls + rest.calls ≡ all.calls
  pub bytes : sets out written rest.bytes ≡ sets out₀ 0 all.bytes

-- `left` events at most are left
pub record Tied (tape out₀ : List ℕ) (first : ℕ) (m₀ : Machine) (at written calls : ℕ) (out : List ℕ) (m : Machine) : Type 0 where
  pub left : ℕ
  pub enough : length tape ≤ at + left
  pub few : calls ≤ at
  pub long : length out ≡ length out₀
  pub onto : Onto out₀ out written calls (run left tape at written (length out₀) m) (run_from tape first (length out₀) m₀)

pub tied-start : (tape out : List ℕ) (first : ℕ) (m : Machine) → Tied tape out first m first 0 0 out m
unfolding run_from
tied-start tape out first m =
    record { left = length tape; enough = omega arith; few = omega arith; long = refl; onto = record { status = refl; place = refl; size = omega arith; count = omega arith; bytes = refl } }

-- what is given back where the run stops
pub stopped : (out₀ out : List ℕ) (written calls n at : ℕ) (all : Run) → Onto out₀ out written calls (ended n at) all
    → ((n ≡ all.status) × (at ≡ all.place) × (written ≡ length all.bytes) × (calls ≡ all.calls)) × (out ≡ sets out₀ 0 all.bytes)
stopped out₀ out written calls n at all o = ((o.status, o.place, omega (arith, o.size), omega (arith, o.count)), o.bytes)

sets_behind : (out : List ℕ) (at : ℕ) (xs ys : List ℕ) → sets (sets out at xs) (at + length xs) ys ≡ sets out at (xs ++ ys)
sets_behind out at [] ys = rw add-zero refl
sets_behind out at (x ∷ xs) ys = let e : at + suc (length xs) ≡ suc at + length xs = omega arith in rw e (sets_behind (set out at x) (suc at) xs ys)

-- an answer more
onto-ahead : (out₀ out : List ℕ) (written calls : ℕ) (s : Step) (rest all : Run) → Onto out₀ out written calls (ahead s rest) all → Onto out₀ (sets out written (answer_bytes s.said)) (written + length (answer_bytes s.said)) (calls + s.calls) rest all
onto-ahead out₀ out written calls s rest all o =
    record {
      status = o.status;
      place = o.place;
      size = omega (arith, o.size, length-append (answer_bytes s.said) rest.bytes);
      count = omega (arith, o.count);
      bytes = sets_behind out written (answer_bytes s.said) rest.bytes ∙ o.bytes;
    }

-- what a write answered
tag : put.Placed → ℕ
tag (put.placed n) = 0
tag (put.refused n) = 1

end_of : put.Placed → ℕ
end_of (put.placed n) = n
end_of (put.refused n) = 0

refusal_of : put.Placed → ℕ
refusal_of (put.placed n) = 0
refusal_of (put.refused n) = n

module _ (out : List ℕ) (at : ℕ) (bs : List ℕ) where
  did-fit : {end : ℕ} → put.placed end ≡ put_answer out at bs → (at + length bs ≤ length out) × (end ≡ at + length bs)
  unfolding tag end_of
  did-fit {end} e =
      ⊎_elim (λ (h : length out < at + length bs). absurd (let z : ◌≡◌ {A = ℕ} 0 1 = ap tag (e ∙ sym (no_room_lem out at bs h).0) in omega arith))
      (λ (h : at + length bs ≤ length out). (h, ap end_of (e ∙ sym (room out at bs h).0)))
      (less-or-not (length out) (at + length bs))

  pub did-not : {n : ℕ} → put.refused n ≡ put_answer out at bs → (length out < at + length bs) × (put_bytes out at bs ≡ out)
  unfolding tag
  did-not {n} e =
      ⊎_elim (λ (h : length out < at + length bs). (h, sym (no_room_lem out at bs h).1))
      (λ (h : at + length bs ≤ length out). absurd (let z : ◌≡◌ {A = ℕ} 1 0 = ap tag (e ∙ sym (room out at bs h).0) in omega arith))
      (less-or-not (length out) (at + length bs))

  -- the only refusal of a write
  pub no-fit : {n : ℕ} → put.refused n ≡ put_answer out at bs → n ≡ 13
  unfolding tag refusal_of
  no-fit {n} e =
      ⊎_elim (λ (h : length out < at + length bs). ap refusal_of (e ∙ sym (no_room_lem out at bs h).0))
      (λ (h : at + length bs ≤ length out). absurd (let z : ◌≡◌ {A = ℕ} 1 0 = ap tag (e ∙ sym (room out at bs h).0) in omega arith))
      (less-or-not (length out) (at + length bs))

module _ (tape out₀ : List ℕ) (first : ℕ) (m₀ : Machine) (at written calls : ℕ) (out : List ℕ) (m : Machine) where
  run_end : (k : ℕ) → length tape ≤ at → run k tape at written (length out₀) m ≡ ended 0 at
  unfolding run
  run_end zero h = refl
  run_end (suc k) h = rw (le-leb (length tape) at h)

  pub tied-end : Tied tape out₀ first m₀ at written calls out m → length tape ≤ at → Onto out₀ out written calls (ended 0 at) (run_from tape first (length out₀) m₀)
  tied-end t h = rw (run_end t.left h) at t.onto

  run-refused : (k : ℕ) → length tape ≤ at + k → at < length tape → {n : ℕ} → refused n ≡ frame_at tape at → run k tape at written (length out₀) m ≡ ended n at
  unfolding run
  run-refused zero h l e = absurd (omega arith)
  run-refused (suc k) h l e = rw (lt-leb (length tape) at l, ← e)

  pub tied-refused : Tied tape out₀ first m₀ at written calls out m → at < length tape → {n : ℕ} → refused n ≡ frame_at tape at → Onto out₀ out written calls (ended n at) (run_from tape first (length out₀) m₀)
  tied-refused t l {n} e = rw (run-refused t.left t.enough l e) at t.onto

  module _ {f : Frame} {next : ℕ} (fr : got f next ≡ frame_at tape at) {s : Step} (st : s ≡ step_of m f.moment (span_bytes tape f.body)) where
    run-full : (k : ℕ) → length tape ≤ at + k → at < length tape → length out₀ < written + length (answer_bytes s.said) → run k tape at written (length out₀) m ≡ ended 13 at
    unfolding run
    run-full zero h l g = absurd (omega arith)
    run-full (suc k) h l g = rw (lt-leb (length tape) at l, ← fr, ← st, lt-leb (written + length (answer_bytes s.said)) (length out₀) g)

    pub tied-full : Tied tape out₀ first m₀ at written calls out m → at < length tape → {n : ℕ} → put.refused n ≡ put_answer out written (answer_bytes s.said) → Onto out₀ out written calls (ended 13 at) (run_from tape first (length out₀) m₀)
    tied-full i l p =
        let g : length out₀ < written + length (answer_bytes s.said) = omega (arith, (did-not out written (answer_bytes s.said) p).0, i.long) in
        rw (run-full i.left i.enough l g) at i.onto

    run_step : (k : ℕ) → length tape ≤ at + suc k → at < length tape → written + length (answer_bytes s.said) ≤ length out₀
        → run (suc k) tape at written (length out₀) m ≡ ahead s (run k tape next (written + length (answer_bytes s.said)) (length out₀) s.machine)
    unfolding run
    run_step k h l g = rw (lt-leb (length tape) at l, ← fr, ← st, le-leb (written + length (answer_bytes s.said)) (length out₀) g)

    pub tied-go : Tied tape out₀ first m₀ at written calls out m → at < length tape → {end : ℕ} {out' : List ℕ} → put.placed end ≡ put_answer out written (answer_bytes s.said)
        → out' ≡ put_bytes out written (answer_bytes s.said) → Tied tape out₀ first m₀ next end (calls + s.calls) out' s.machine
    tied-go i l {end} {out'} p q =
        let bs = answer_bytes s.said in
        let g = did-fit out written bs p in
        let w : written + length bs ≤ length out₀ = omega (arith, g.0, i.long) in
        let o : out' ≡ sets out written bs = q ∙ sym (room out written bs g.0).1 in
        let n : at < next = (frame-lies tape at f next fr).before in
        rw (g.1, o) (go i.left i.enough w n i.onto)
      where
        go : (k : ℕ) → length tape ≤ at + k → written + length (answer_bytes s.said) ≤ length out₀ → at < next
            → Onto out₀ out written calls (run k tape at written (length out₀) m) (run_from tape first (length out₀) m₀)
            → Tied tape out₀ first m₀ next (written + length (answer_bytes s.said)) (calls + s.calls) (sets out written (answer_bytes s.said)) s.machine
        go zero h w n o = absurd (omega arith)
        go (suc k) h w n o =
            record {
              left = k;
              enough = omega arith;
              few = omega (arith, i.few, few-calls m f.moment (span_bytes tape f.body), ap (λ x. x.calls) st);
              long = length-sets out written (answer_bytes s.said) ∙ i.long;
              onto = onto-ahead out₀ out written calls s _ _ (rw (run_step k h l w) at o);
            }

    pub tied-next : Tied tape out₀ first m₀ at written calls out m → at < length tape → {end n : ℕ} {out' : List ℕ} {m' : Machine} → n ≡ s.calls → m' ≡ s.machine → put.placed end ≡ put_answer out written (answer_bytes s.said)
        → out' ≡ put_bytes out written (answer_bytes s.said) → Tied tape out₀ first m₀ next end (calls + n) out' m'
    tied-next i l e f p q = rw (e, f) (tied-go i l p q)

-- the parts as they are stored
pub tied_by : (tape out₀ : List ℕ) (first : ℕ) (m₀ : Machine) (at written calls : ℕ) (out : List ℕ) (m : Machine) (c : Change) (b : Beside) {x t : Touched} → Proper c → x ≡ touched_in m c → x ≡ t
    → Tied tape out₀ first m₀ at written calls out (after m c b) → Tied tape out₀ first m₀ at written calls out (parts_by t m c b)
tied_by tape out₀ first m₀ at written calls out m c b {x} {t} s e f i = let z : after m c b ≡ parts_by t m c b = sym (stored-by m c b s e f) in rw z at i

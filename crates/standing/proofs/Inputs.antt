-- Every accepted input that is sound keeps the standing rules, and a refused one changes nothing.
use Prim.Native.Nat.{ℕ, zero, suc, ◌+◌, ◌<◌, ◌≤◌}
use mathlib.Core.Path.{◌≡◌, refl, ap, ◌∙◌}
use mathlib.Core.Bool.{Bool, true, false, not, cond, ◌&&◌}
use mathlib.Core.List.{map}
use native.Mathlib.Omega.{arith}
use lib.ListN.{length, get_or, drop, length-drop, length-map, get_or-map}
use lib.Seq.{get_or-take, get_or-drop}
use borrow.Author.Tests.{eqb-true}
use Rattle.records.specs.Queries.{no_query, answered}
use Rattle.records.specs.declared.queries.Kind.{Kind}
use Rattle.records.specs.declared.queries.Kind.TheVariants.{Https, Aaaa, A}
use Rattle.records.specs.declared.queries.Answer.{Answer}
use Rattle.records.specs.declared.queries.Answer.TheVariants.{Pending, Failed, Held}
use Rattle.records.specs.declared.queries.Query.{Query}
use Rattle.records.specs.declared.queries.Queries.{Queries}
use Rattle.state.specs.State.{asked, is_open, with_state}
use Rattle.state.specs.declared.Machine.{Machine}
use Rattle.state.specs.declared.attempts.State.{State}
use Rattle.state.specs.declared.attempts.State.TheVariants as state
use Rattle.state.specs.declared.changes.InputChange.{InputChange}
use Rattle.state.specs.declared.changes.InputChange.TheVariants as change
use Rattle.state.specs.declared.changes.Round.{Round}
use Rattle.input.specs.Input.{record_at, attempt_at, with_answer, is_failed, stored_at}
use Rattle.input.specs.Verdicts.{Waits, MayBe, Answered, Ended, Ends, Fits, again, end_of, refresh_after}
use Rattle.input.specs.declared.Input.{Input}
use Rattle.input.specs.declared.Outcome.{Outcome}
use Rattle.input.specs.declared.Outcome.TheVariants as outcome
use Rattle.machine.specs.Steps.{fed, input_step}
use Rattle.machine.specs.declared.calls.Beside.{Beside}
use Rattle.standing.specs.Standing.{key_of, keys, is_https, https_first, held_of, standing}
use Rattle.standing.specs.Sound.{answer_sound, sound}
use Rattle.standing.proofs.Lists.{no, left, right, every-at, used-length}
use Rattle.standing.proofs.Parts.{Standing, stands, parts}
use Rattle.standing.proofs.Trying.{result-stands, retry-stands}
use Rattle.standing.proofs.Answering.{addresses-stand}
use Rattle.standing.proofs.Taken.{result_sound, every-input}
use Rattle.standing.proofs.Offering.{empties-stand, offers-stand}

-- an HTTPS record is record 0
pub only-first : (q : Queries) (p : ℕ) → p < q.count → q.count ≤ length q.list → (record_at q p).kind ≡ Https → https_first (keys q) ≡ true → p ≡ 0
unfolding https_first keys
only-first q zero b fit e h = refl
only-first q (suc j) b fit e h =
    let ks = map key_of (asked q) in
    let n : j < length (drop 1 ks) = rw (length-drop, length-map, used-length q.list q.count fit) (omega arith) in
    let z : 1 + j ≡ suc j = omega arith in
    let k : get_or (drop 1 ks) j (key_of no_query) ≡ key_of (record_at q (suc j)) =
    get_or-drop 1 ks j (key_of no_query) ∙ ap (λ i. get_or ks i (key_of no_query)) z ∙ get_or-map key_of (asked q) (suc j) no_query ∙ ap key_of (get_or-take q.count q.list (suc j) no_query b) in
    absurd (no (rw (k, e) at (every-at (λ x. not (is_https x.kind)) (drop 1 ks) j (key_of no_query) n h)))

-- a result leaves the state of a cancelled attempt alone, and ends one in progress
retry-mark : (retry room : Bool) → (not retry && room) ≡ true → retry ≡ false
retry-mark true room e = absurd (no e)
retry-mark false room e = refl

sent-ech : (on ech : Bool) → (on && ech) ≡ true → ech ≡ true
sent-ech true ech e = e
sent-ech false ech e = absurd (no e)

module _ (m : Machine) (h : Standing m) (beside : Beside) where
  -- Answers

  https-kept : (p : ℕ) → p < m.queries.count → p ≡ 0 → (record_at m.queries p).kind ≡ Https → (a : Answer) (stale : Bool) (id : ℕ) (round : Round) → Waits round id (record_at m.queries p) → MayBe round stale
      → answered a ≡ true → answer_sound Https (held_of a) beside ≡ true → Standing (fed m (stored_at p (with_answer (record_at m.queries p) a stale (refresh_after round)) (is_failed a) round Https) beside)
  https-kept (suc p) b z e a stale id round w f come s = absurd (omega arith)
  https-kept zero b z e Pending stale id round w f come s = absurd (no come)
  https-kept zero b z e (Failed t) stale id round w f come s = empties-stand m h b e (Failed t) stale id round w f come refl beside
  https-kept zero b z e (Held t n) stale id round w f come s = offers-stand m h b e (Held t n) stale id round w f come (eqb-true n 0 (left _ _ s)) beside refl (right _ _ s)

  module _ (k : Kind) (id : ℕ) (stale : Bool) (a : Answer) (come : answered a ≡ true) (sounds : answer_sound k (held_of a) beside ≡ true)
      (c : InputChange) (f : Answered m.queries k id stale a c) where
    abbrev old : Query
    old = record_at m.queries f.place

    inside : f.place < m.queries.count
    inside = omega (arith, f.within)

    fit : m.queries.count ≤ length m.queries.list
    fit = omega (arith, h.room.queries.size, h.room.queries.few)

    kept_by : (j : Kind) → old.kind ≡ j → answer_sound j (held_of a) beside ≡ true → Standing (fed m (stored_at f.place (with_answer old a stale (refresh_after f.round)) (is_failed a) f.round j) beside)
    kept_by Https e s = https-kept f.place inside (only-first m.queries f.place inside fit e h.records.https) e a stale id f.round f.waits f.fresh come s
    kept_by Aaaa e s = addresses-stand m h f.place inside a stale id f.round f.waits f.fresh (rw e) come beside (rw e s)
    kept_by A e s = addresses-stand m h f.place inside a stale id f.round f.waits f.fresh (rw e) come beside (rw e s)

    answer-stands : Standing (fed m c beside)
    answer-stands = rw f.kept (kept_by old.kind refl (rw f.kind sounds))

  -- Results

  module _ (on : Bool) (id : ℕ) where
    abbrev told : Outcome → ℕ → InputChange
    told o p =
        cond (again (attempt_at m.attempts p) m.retries.count o) (change.Retries p (with_state (attempt_at m.attempts p) (end_of o)) m.retries.count)
        (change.Ends p (with_state (attempt_at m.attempts p) (end_of o)))

    open-stands : (o : Outcome) (p : ℕ) → p < m.attempts.count → is_open (attempt_at m.attempts p).state ≡ true → Fits on (attempt_at m.attempts p) o → result_sound o beside ≡ true → Standing (fed m (told o p) beside)
    open-stands outcome.Success p b e f s = result-stands m h p b e state.Succeeded refl refl beside
    open-stands outcome.Failure p b e f s = result-stands m h p b e state.Failed refl refl beside
    open-stands outcome.EchRetry p b e f s = go (again (attempt_at m.attempts p) m.retries.count outcome.EchRetry) refl
      where
        go : (t : Bool) → again (attempt_at m.attempts p) m.retries.count outcome.EchRetry ≡ t
            → Standing (fed m (cond t (change.Retries p (with_state (attempt_at m.attempts p) state.Failed) m.retries.count) (change.Ends p (with_state (attempt_at m.attempts p) state.Failed))) beside)
        go true g = retry-stands m h p b e (sent-ech on _ f) (retry-mark (attempt_at m.attempts p).retry _ g) beside s
        go false g = result-stands m h p b e state.Failed refl refl beside

    result-kept : (o : Outcome) (c : InputChange) → result_sound o beside ≡ true → Ended on m.attempts m.retries.count id o c → Standing (fed m c beside)
    result-kept o c s f = by (attempt_at m.attempts f.place).state refl f.ends
      where
        by : (t : State) → (attempt_at m.attempts f.place).state ≡ t → Ends on m.retries.count f.place (attempt_at m.attempts f.place) o c t → Standing (fed m c beside)
        by state.InProgress e g = rw g.1 (open-stands o f.place (omega (arith, f.within)) (rw e) g.0 s)
        by state.Succeeded e g = absurd g
        by state.Failed e g = absurd g
        by state.Cancelled e g = rw g h

pub input-stands : (m : Machine) (now : ℕ) (i : Input) (b : Beside) → Standing m → sound i b ≡ true → Standing (input_step m now i b).machine
unfolding input_step
input-stands m now i b h s =
    every-input m now b (λ t. t ≡ true) (λ c. Standing (fed m c b)) h (answer-stands m h b) (λ id o f c. result-kept m h b m.rules.ech id o c f) i s

-- Every input that is in form keeps the standing rules, accepted or not, at whatever moment it comes.
pub input-keeps : (m : Machine) (now : ℕ) (i : Input) (b : Beside) → standing m ≡ true → sound i b ≡ true → standing (input_step m now i b).machine ≡ true
input-keeps m now i b h s = stands (input-stands m now i b (parts m h) s)

-- An event that is answered, as a loop over the machine's parts comes to it, whichever way it goes on. Nothing cites these laws now; docs/PORT.md names them.
--     Replied, Finds      what the code found one after the other settles the reply: of a body that is refused, of a call, and of an input
--     goes                where the answer was written: the run goes on, over the parts as the change leaves them
--     full                where it was not: the run stops with 13, and the buffer is as it was
use Prim.Native.Nat.{ℕ, ◌+◌, ◌-◌, ◌<◌}
use Rattle.std.specs.Prelude.{Result, Ok, Err}
use mathlib.Core.Path.{◌≡◌, sym, ap, ◌∙◌}
use mathlib.Core.Bool.{Bool, true, false}
use mathlib.Core.List.{List}
use lib.ListN.{length, get_or, take, drop}
use lib.Seq.{sets}
use Rattle.numbers.specs.Got.{got}
use Rattle.numbers.specs.Fields.{span_bytes}
use Rattle.numbers.specs.Put.{put_answer, put_bytes}
use Rattle.numbers.specs.Shown.{shown, wrote_shown}
use Rattle.numbers.specs.declared.field.Span.{Span}
use Rattle.numbers.specs.declared.refusal.Refusal.{Refusal}
use Rattle.records.specs.Classes.{same_class}
use Rattle.records.specs.Names.{name_bytes, blank_name, ech_bytes, blank_ech}
use Rattle.state.specs.State.{no_attempt}
use Rattle.records.specs.Queries.{no_query}
use Rattle.upcoming.specs.Alike.{alike_endpoints, alike_of}
use Rattle.upcoming.specs.declared.alike.Alike.{Alike}
use Rattle.state.specs.declared.Machine.{Machine}
use Rattle.input.specs.declared.Input.{Input}
use Rattle.input.specs.Input.{Verdict}
use Rattle.machine.specs.Output.{found_by, wish_from, wish_query, wish_attempt, grant_of}
use Rattle.machine.specs.Steps.{survey_of}
use Rattle.machine.specs.declared.calls.Beside.{Beside}
use Rattle.machine.specs.declared.calls.Survey.{Survey}
use Rattle.machine.specs.declared.grant.Turn.{Turn}
use Rattle.machine.specs.declared.wish.Found.{Found}
use Rattle.machine.specs.declared.wish.Wish.{Wish}
use Rattle.bodies.specs.Events.{event_at}
use Rattle.parts.specs.Shown as parts
use Rattle.parts.specs.declared.reading.Fault.{Fault}
use Rattle.bodies.specs.Told.{beside_of, input_of}
use Rattle.bodies.specs.declared.Event.{Event}
use Rattle.answers.specs.Answers.{Said, answer_bytes}
use Rattle.replies.specs.Replies.{fault_reply, call_reply, input_reply, is_call, event_in}
use Rattle.replies.specs.declared.Answer.{Answer}
use Rattle.replies.specs.declared.Reply.{Reply}
use Rattle.replies.specs.declared.Touched.{Touched}
use Rattle.replies.proofs.Replying.{refused-by, called-by, fed_by}
use Rattle.replay.specs.Frames.{Frame, frame_at}
use Rattle.replay.specs.Race.{Sized}
use Rattle.replay.specs.Replay.{run_from, Gives}
use Rattle.replay.specs.Saying.{answer_name, answer_ech, said_to}
use Rattle.replay.proofs.Framed.{frame-lies}
use Rattle.replay.proofs.Wished.{granted-at}
use Rattle.replay.proofs.Steps.{turn_for, verdict_for, turn-seen, Decides, parts_by, touched_in, reply-proper, step-made, said_in_lem}
use Rattle.replay.proofs.Turning.{Tied, tied-go, tied_by, tied-full, stopped, did-not}

-- the reply to a body that was read; a record, so that its machine is found
pub record Replied (m : Machine) (alike : Alike) (now : ℕ) (r : Result (Event × ℕ) Fault) (x : Reply) : Type 0 where
  pub by : Decides m alike now r x

-- what a call finds
abbrev pub Finds : Machine → Alike → Survey → Found → Type 0
Finds m alike seen f =
    f ≡ found_by (same_class alike.names) (alike_endpoints alike.hosts alike.echs) seen.look seen.asks.asked m.rules m.alts m.queries m.answers m.services m.attempts m.retries

module _ {m : Machine} {alike : Alike} {now : ℕ} {r : Result (Event × ℕ) Fault} {x : Reply} where
  pub refused : {e : Refusal} {p : ℕ} → r ≡ Err (record { refusal = e; place = p }) → x ≡ fault_reply e → Replied m alike now r x
  refused h f = record { by = refused-by (turn_for m alike now) (verdict_for m now) h f }

  module _ {e v : Event} {end : ℕ} (read : r ≡ Ok (v, end)) (told : e ≡ event_in r) {asks : Bool} (test : asks ≡ is_call e) where
    pub called : asks ≡ true → {seen : Survey} {f : Found} {w : Wish} {p k : ℕ} {turn : Turn} → seen ≡ survey_of m.rules m.timing m.alts.count m.queries m.services m.attempts m.retries.count now → Finds m alike seen f
        → w ≡ wish_from m.rules m.timing seen.tries seen.asks f m.attempts.count now → p ≡ wish_query w → k ≡ wish_attempt w → turn ≡ grant_of m.queries.count m.attempts.count (get_or m.queries.list p no_query) (get_or m.attempts.list k no_attempt) m.ids w now
        → x ≡ call_reply turn → Replied m alike now r x
    called is s f w p k g c =
        record { by = called-by (turn_for m alike now) (verdict_for m now) read told (sym test ∙ is) (c ∙ ap call_reply (turn-seen _ _ m now s f w (granted-at m.queries m.attempts m.ids _ now p k g))) }

    pub fed : asks ≡ false → {i : Input} {y : Verdict} → i ≡ input_of e → y ≡ verdict_for m now i → x ≡ input_reply y → Replied m alike now r x
    fed is i y c = record { by = fed_by (turn_for m alike now) (verdict_for m now) read told (sym test ∙ is) i y c }

-- what is said with what lies at these places
abbrev pub said_at : Machine → (np ep : ℕ) → Answer → Said
said_at m np ep a =
    said_to (name_bytes (get_or m.names.list 0 blank_name)) (name_bytes (get_or m.names.list np blank_name)) (ech_bytes (get_or m.echs.list ep blank_ech)) a

abbrev frame : ℕ → Span → Frame
frame now b = record { moment = now; body = b }

-- what came beside an event whose body ends before `next`
abbrev pub brought : (tape : List ℕ) → Span → (next : ℕ) → Event → Beside
brought tape b next e = beside_of (take (next - b.start) (drop b.start tape)) e

module _
    {tape out₀ out out' : List ℕ} {first at written calls now next np ep : ℕ} {m₀ m : Machine} {alike : Alike} {f : Result (Frame × ℕ) Refusal} {b : Span} {r : Result (Event × ℕ) Fault} {e : Event} {x : Reply} {w : Result ℕ Refusal}
    (tied : Tied tape out₀ first m₀ at written calls out m) (same : alike ≡ alike_of m.names m.echs) (more : at < length tape)
    (read : f ≡ Ok (frame now b, next)) (framed : shown f ≡ frame_at tape at) (heard : parts.shown r ≡ event_at (take (next - b.start) (drop b.start tape))) (told : e ≡ event_in r)
    (replied : Replied m alike now r x) (np_is : np ≡ answer_name x.answer) (ep_is : ep ≡ answer_ech x.answer)
    (wrote : wrote_shown w ≡ put_answer out written (answer_bytes (said_at m np ep x.answer))) (stored : out' ≡ put_bytes out written (answer_bytes (said_at m np ep x.answer))) where
  pub goes : Sized m.queries m.attempts → {end : ℕ} → w ≡ Ok end → {u t : Touched} → u ≡ touched_in m x.change → u ≡ t
      → Tied tape out₀ first m₀ next end (calls + x.calls) out' (parts_by t m x.change (brought tape b next e))
  goes sized fits u t =
      let came : got (frame now b) next ≡ frame_at tape at = sym (ap shown read) ∙ framed in
      let step = step-made m alike now (span_bytes tape b) _ r e x same (frame-lies tape at (frame now b) next came).bytes heard told replied.by in
      let said = said_in_lem m x.answer np ep np_is ep_is in
      tied_by _ _ _ _ _ _ _ _ m x.change _ (reply-proper m alike now r sized replied.by) u t
      (tied-go tape out₀ first m₀ at written calls out m came step tied more (sym (ap wrote_shown fits) ∙ (wrote ∙ ap (λ s. put_answer out written (answer_bytes s)) said)) (stored ∙ ap (λ s. put_bytes out written (answer_bytes s)) said))

  pub full : {n : Refusal} → w ≡ Err n
      → (Gives (record { status = 13; place = at; written = written; calls = calls }) (run_from tape first (length out₀) m₀)) × (out' ≡ sets out₀ 0 (run_from tape first (length out₀) m₀).bytes)
  full short =
      let came : got (frame now b) next ≡ frame_at tape at = sym (ap shown read) ∙ framed in
      let step = step-made m alike now (span_bytes tape b) _ r e x same (frame-lies tape at (frame now b) next came).bytes heard told replied.by in
      let said = said_in_lem m x.answer np ep np_is ep_is in
      let p = sym (ap wrote_shown short) ∙ (wrote ∙ ap (λ s. put_answer out written (answer_bytes s)) said) in
      let s = stopped _ _ _ _ _ _ _ (tied-full tape out₀ first m₀ at written calls out m came step tied more p) in
      (s.0, stored ∙ (ap (λ s. put_bytes out written (answer_bytes s)) said ∙ ((did-not out written _ p).1 ∙ s.1)))

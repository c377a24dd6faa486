-- When attempts may start once nothing else is to be done: no query is wanted and nothing is left of the resolution delay.
use Rattle.std.specs.Prelude.{Option, Some, None}
use Prim.Native.Nat.{ℕ}
use mathlib.Core.Path.{◌≡◌, refl, sym, ap, ◌∙◌}
use mathlib.Core.Bool.{Bool, true, false, false≢true, not, cond, ◌&&◌, ◌||◌}
use mathlib.Core.List.{List, [], ◌∷◌}
use native.Mathlib.Omega.{arith}
use lib.Dec.{ltb as nat_lt}
use Rattle.records.specs.Lists.{some?}
use Rattle.records.specs.Queries.{answered}
use Rattle.records.specs.Rules.{prefers_six, with_https, is_named}
use Rattle.records.specs.declared.rules.Rules.{Rules}
use Rattle.records.specs.declared.rules.Timing.{Timing}
use Rattle.records.specs.declared.rules.Mode.{Mode}
use Rattle.records.specs.declared.rules.Mode.TheVariants as mode
use Rattle.records.specs.declared.rules.Preference.{Preference}
use Rattle.records.specs.declared.rules.Preference.TheVariants.{DualStackPreferV6, DualStackPreferV4, Ipv6Only, Ipv4Only}
use Rattle.records.specs.declared.queries.Kind.{Kind}
use Rattle.records.specs.declared.queries.Kind.TheVariants.{Https, Aaaa, A}
use Rattle.records.specs.declared.queries.Answer.{Answer}
use Rattle.records.specs.declared.queries.Answer.TheVariants as answer
use Rattle.records.specs.declared.queries.Query.{Query}
use Rattle.state.specs.State.{https_place}
use Rattle.starting.specs.Surveys.{is_kind, is_answered, is_answered_kind, came, answer_times, sooner_of, oldest_of}
use Rattle.starting.specs.Starting.{resolution_left, resolution_met, some_address, preferred_settled, move_on_without_timeout, move_on_with_timeout, unresolved, may_start}
use Rattle.upcoming.specs.Wanted.{Wanted, missing, origin_addresses, origin_wanted}
use Rattle.starting.specs.declared.surveys.Kinds.{Kinds}
use Rattle.starting.specs.declared.surveys.Asks.{Asks}
use Rattle.starting.specs.declared.surveys.Hinted.{Hinted}
use Rattle.starting.proofs.Laws.{met-or-left}
use Rattle.machine.specs.Output.{origin_in}

-- a wish for a query is none
never-wanted : {X : Type 0} (k : Kind) (p : ℕ) → ◌≡◌ {A = Wanted} (Some (k, p)) None → X
never-wanted k p e = absurd (let z : ◌≡◌ {A = ℕ} 0 1 = cc in omega arith)

or-first : (a b : Bool) → a ≡ true → a || b ≡ true
or-first a b e = rw e

or-last : (a b : Bool) → b ≡ true → a || b ≡ true
or-last true b e = refl
or-last false b e = e

and_both : (a b : Bool) → a ≡ true → b ≡ true → a && b ≡ true
and_both a b e f = rw (e, f)

-- every type that was asked for is answered
pub record Settled (asked answered : Kinds) : Type 0 where
  pub https : asked.https ≡ true → answered.https ≡ true
  pub aaaa : asked.aaaa ≡ true → answered.aaaa ≡ true
  pub a : asked.a ≡ true → answered.a ≡ true

-- no address type is missing, so the preferred one was asked for
six-asked : (p : Preference) (six four : Bool) → missing p (record { six = six; four = four }) 0 ≡ None → prefers_six p ≡ true → six ≡ true
unfolding missing
six-asked DualStackPreferV6 true four e f = refl
six-asked DualStackPreferV6 false four e f = never-wanted Aaaa 0 e
six-asked DualStackPreferV4 six four e f = absurd (false≢true f)
six-asked Ipv6Only true four e f = refl
six-asked Ipv6Only false four e f = never-wanted Aaaa 0 e
six-asked Ipv4Only six four e f = absurd (false≢true f)

four-asked : (p : Preference) (six four : Bool) → missing p (record { six = six; four = four }) 0 ≡ None → prefers_six p ≡ false → four ≡ true
unfolding missing
four-asked DualStackPreferV6 six four e f = absurd (false≢true (sym f))
four-asked DualStackPreferV4 true true e f = refl
four-asked DualStackPreferV4 true false e f = never-wanted A 0 e
four-asked DualStackPreferV4 false four e f = never-wanted Aaaa 0 e
four-asked Ipv6Only six four e f = absurd (false≢true (sym f))
four-asked Ipv4Only six true e f = refl
four-asked Ipv4Only six false e f = never-wanted A 0 e

module _ (t : Timing) (asks : Asks) (hinted : Hinted) (now : ℕ) where
  settled-preferred : (p : Preference) → missing p (record { six = asks.asked.aaaa; four = asks.asked.a }) 0 ≡ None → Settled asks.asked asks.answered
      → preferred_settled t.wait (prefers_six p) asks hinted ≡ true
  unfolding preferred_settled
  settled-preferred p e s = by t.wait (prefers_six p) refl
    where
      by : (wait six : Bool) → prefers_six p ≡ six
          → cond wait (cond six (asks.answered.aaaa || hinted.six) (asks.answered.a || hinted.four)) true ≡ true
      by true true f = or-first asks.answered.aaaa hinted.six (s.aaaa (six-asked p asks.asked.aaaa asks.asked.a e f))
      by true false f = or-first asks.answered.a hinted.four (s.a (four-asked p asks.asked.aaaa asks.asked.a e f))
      by false six f = refl

  -- the HTTPS record was asked for, or it would be wanted
  https-asked : (https : Bool) (w : Wanted) (p : ℕ) → cond https w (Some (Https, p)) ≡ None → (https ≡ true) × (w ≡ None)
  https-asked true w p e = (refl, e)
  https-asked false w p e = never-wanted Https p e

  -- all is answered: no timeout is needed
  answered-all : (m : Mode) (p : Preference) (place : ℕ) → unresolved m ≡ false → some_address asks hinted ≡ true
      → Settled asks.asked asks.answered
      → origin_in m (cond asks.asked.https (origin_addresses m p asks.asked) (Some (Https, place))) ≡ None
      → asks.answered.https && cond (with_https m) true (some_address asks hinted && preferred_settled t.wait (prefers_six p) asks hinted) ≡ true
  answered-all mode.Ip p place u some s e =
      let h = https-asked asks.asked.https (origin_addresses mode.Ip p asks.asked) place e in
      and_both _ _ (s.https h.0) (and_both _ _ some (settled-preferred p h.1 s))
  answered-all mode.Name p place u some s e = absurd (false≢true (sym u))
  answered-all mode.NameWithHttpsRr p place u some s e = and_both _ _ (s.https (https-asked asks.asked.https None place e).0) refl

  module _ (r : Rules) where
    -- an address, and nothing left to wait for or to ask: attempts may start
    pub opens : some_address asks hinted ≡ true → (w : ℕ) → asks.oldest ≡ Some w
        → (asks.pending ≡ false → Settled asks.asked asks.answered)
        → origin_in r.mode (origin_wanted r asks.asked) ≡ None → nat_lt 0 (resolution_left t asks now) ≡ false → may_start r t asks hinted now ≡ true
    unfolding may_start origin_wanted move_on_without_timeout move_on_with_timeout resolution_left
    opens some w o s e l = by (is_named r.host) (unresolved r.mode) asks.pending refl refl refl
      where
        by : (named un pending : Bool) → is_named r.host ≡ named → unresolved r.mode ≡ un → asks.pending ≡ pending
            → cond named (cond un true (move_on_without_timeout r t asks hinted || move_on_with_timeout t asks hinted now)) true ≡ true
        by false un pending n u p = refl
        by true true pending n u p = refl
        by true false true n u p =
            or-last (move_on_without_timeout r t asks hinted) (move_on_with_timeout t asks hinted now)
            (and_both (some_address asks hinted) (resolution_met t.resolution asks.oldest now) some (ap (λ x. resolution_met t.resolution x now) o ∙ met-or-left t.resolution now w ∙ ap not (rw (p, o) at l)))
        by true false false n u p =
            or-first (move_on_without_timeout r t asks hinted) (move_on_with_timeout t asks hinted now) (answered-all r.mode r.preference (https_place r) u some (s p) (rw n at e))

    -- the other ways to start
    pub opens-address : is_named r.host ≡ false → may_start r t asks hinted now ≡ true
    unfolding may_start
    opens-address e = rw e

    pub opens-name : r.mode ≡ mode.Name → may_start r t asks hinted now ≡ true
    unfolding may_start
    opens-name e = rw e (by (is_named r.host))
      where
        by : (b : Bool) → cond b true true ≡ true
        by true = refl
        by false = refl

    pub opens-https : r.mode ≡ mode.NameWithHttpsRr → asks.answered.https ≡ true → may_start r t asks hinted now ≡ true
    unfolding may_start move_on_without_timeout
    opens-https e f = rw (e, f) (by (is_named r.host))
      where
        by : (b : Bool) → cond b true true ≡ true
        by true = refl
        by false = refl

-- Of the records themselves

module _ {B : Type 0} (p q : B → Bool) where
  -- a test that gives another
  pub some-imp : (l : List B) → ((x : B) → p x ≡ true → q x ≡ true) → some? p l ≡ true → some? q l ≡ true
  unfolding some?
  some-imp [] h e = absurd (false≢true e)
  some-imp (x ∷ l) h e = by (p x) (q x) (h x) e (some-imp l h)
    where
      by : (b c : Bool) → (b ≡ true → c ≡ true) → cond b true (some? p l) ≡ true → (some? p l ≡ true → some? q l ≡ true)
          → cond c true (some? q l) ≡ true
      by true c g e k = rw (g refl)
      by false true g e k = refl
      by false false g e k = k e

pub kind-answered : (k : Kind) (l : List Query) → some? (λ x. not (is_answered x)) l ≡ false → some? (is_kind k) l ≡ true
    → some? (is_answered_kind k) l ≡ true
unfolding some?
kind-answered k [] n e = absurd (false≢true e)
kind-answered k (x ∷ l) n e = by (is_kind k x) (is_answered x) n e (kind-answered k l)
  where
    by : (b c : Bool) → cond (not c) true (some? (λ y. not (is_answered y)) l) ≡ false → cond b true (some? (is_kind k) l) ≡ true
        → (some? (λ y. not (is_answered y)) l ≡ false → some? (is_kind k) l ≡ true → some? (is_answered_kind k) l ≡ true) → cond (b && c) true (some? (is_answered_kind k) l) ≡ true
    by b false n e h = absurd (false≢true (sym n))
    by true true n e h = refl
    by false true n e h = h n e

-- an answer has come
pub answer-came : (l : List Query) → some? is_answered l ≡ true → (w : ℕ) × (oldest_of (answer_times l) ≡ Some w)
unfolding some? answer_times oldest_of
answer-came [] e = absurd (false≢true e)
answer-came (x ∷ l) e = by x.answer e (answer-came l)
  where
    sooner : (u : ℕ) (m : Option ℕ) → (w : ℕ) × (sooner_of u m ≡ Some w)
    sooner u None = (u, refl)
    sooner u (Some v) = (_, refl)

    by : (y : Answer) → cond (answered y) true (some? is_answered l) ≡ true
        → (some? is_answered l ≡ true → (w : ℕ) × (oldest_of (answer_times l) ≡ Some w))
        → (w : ℕ) × (oldest_of (came y (answer_times l)) ≡ Some w)
    by answer.Pending e h = h e
    by (answer.Failed u) e h = sooner u (oldest_of (answer_times l))
    by (answer.Held u n) e h = sooner u (oldest_of (answer_times l))

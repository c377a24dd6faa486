-- How the code looks at the records, one after the other: what is noted so far, with one record more. What comes out is in Surveys.
use Rattle.std.specs.Prelude.{Option, Some, None, ℕ, ◌+◌, Bool, true, false, not, cond, ◌||◌}
use Rattle.records.specs.Queries.{answered}
use Rattle.records.specs.declared.queries.Kind.{Kind}
use Rattle.records.specs.declared.queries.Kind.TheVariants.{Https, Aaaa, A}
use Rattle.records.specs.declared.queries.Answer.{Answer}
use Rattle.records.specs.declared.queries.Answer.TheVariants as answer
use Rattle.records.specs.declared.queries.Query.{Query}
use Rattle.state.specs.State.{is_open, has_won}
use Rattle.state.specs.declared.attempts.Attempt.{Attempt}
use Rattle.starting.specs.declared.surveys.Kinds.{Kinds}
use Rattle.starting.specs.declared.surveys.Tries.{Tries}
use Rattle.starting.specs.declared.surveys.Asks.{Asks}
use Rattle.starting.specs.Surveys.{later_of, sooner_of, has_address, is_flying, is_due}

-- the first of two places that is one
abbrev pub or_place : Option ℕ → Option ℕ → Option ℕ
or_place None q = q
or_place (Some j) q = Some j

abbrev pub place_if : Bool → ℕ → Option ℕ
place_if on i = cond on (Some i) None

abbrev pub one_if : Bool → ℕ
one_if on = cond on 1 0

abbrev pub later_if : Option ℕ → Bool → ℕ → Option ℕ
later_if m on t = cond on (later_of t m) m

abbrev pub sooner_by : Option ℕ → Answer → Option ℕ
sooner_by m answer.Pending = m
sooner_by m (answer.Failed t) = sooner_of t m
sooner_by m (answer.Held t n) = sooner_of t m

unfoldable pub noted_attempt : Tries → Attempt → ℕ → Tries
noted_attempt t a i =
    record {
      won = t.won || has_won a.state;
      active = t.active + one_if (is_open a.state);
      latest = later_if t.latest (is_open a.state) a.started;
      first = or_place t.first (place_if (is_open a.state) i);
    }

abbrev pub no_kinds : Kinds
no_kinds = record { https = false; aaaa = false; a = false }

-- the types with one more, if it is on
abbrev pub with_kind : Kinds → Kind → Bool → Kinds
with_kind k Https on = record { https = k.https || on; aaaa = k.aaaa; a = k.a }
with_kind k Aaaa on = record { https = k.https; aaaa = k.aaaa || on; a = k.a }
with_kind k A on = record { https = k.https; aaaa = k.aaaa; a = k.a || on }

unfoldable pub noted_query : Asks → Query → ℕ → Asks
noted_query s q i =
    record {
      asked = with_kind s.asked q.kind true;
      answered = with_kind s.answered q.kind (answered q.answer);
      pending = s.pending || not (answered q.answer);
      flying = s.flying || is_flying q.refresh;
      address = s.address || has_address q.answer;
      oldest = sooner_by s.oldest q.answer;
      due = or_place s.due (place_if (is_due q.stale q.refresh) i);
    }

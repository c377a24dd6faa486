-- The calls over any edition have the facts: so demand 3 holds of each edition that shows what its wishes rest on.
use Prim.Native.Nat.{ℕ, suc, ◌+◌, ◌≤◌, ◌<◌}
use mathlib.Core.Path.{◌≡◌, refl, sym, ap, subst}
use mathlib.Core.Bool.{Bool, true, false, false≢true}
use mathlib.Core.Logic.{◌⊎◌, inl, inr}
use mathlib.Core.List.{List, [], ◌∷◌}
use native.Mathlib.Omega.{arith}
use Rattle.records.specs.Queries.{no_queries}
use Rattle.records.specs.Services.{no_services}
use Rattle.records.specs.declared.names.Names.{Names}
use Rattle.records.specs.declared.rules.Rules.{Rules}
use Rattle.records.specs.declared.rules.Timing.{Timing}
use Rattle.records.specs.declared.rules.Alts.{Alts}
use Rattle.records.specs.declared.queries.Query.{Query}
use Rattle.state.specs.State.{made, asked, tried, no_attempts}
use Rattle.state.specs.declared.Machine.{Machine}
use Rattle.state.specs.declared.changes.InputChange.{InputChange}
use Rattle.state.specs.declared.changes.InputChange.TheVariants as change
use Rattle.starting.specs.Surveys.{is_answered}
use Rattle.machine.specs.declared.wish.Wish.{Wish}
use Rattle.machine.specs.declared.grant.Output.{Output}
use Rattle.machine.specs.declared.grant.Output.TheVariants as output
use Rattle.machine.specs.Steps.{called, change_of, judged, fed, input_step}
use Rattle.history.specs.History.{is_ask, Event, input, call, one, runs, heeded_in}
use Rattle.history.specs.Claims.{Heeds64}
use Rattle.history.specs.Facts.{Facts}
use Rattle.history.specs.Race.{Fed, changes, heeds, race_by, view}
use Rattle.history.specs.Edition.{Edition, Left, All}
use Rattle.history.proofs.Tables.{count, all-imp}
use Rattle.history.proofs.Changing.{Fits, Held, asked_of, asked-most, asks-one, asks-fit, asks-held, asks-answered, takes_none, takes-fit, takes-held, heard_of, heard-most, asks-unheard}
use Rattle.history.proofs.Rooms.{Room, made-room, called-room, fed-room}
use Rattle.history.proofs.Granting.{given, asks-by, still-by, Stands, stands_by, rest-stands}
use Rattle.history.proofs.Feeding.{Served, taken}

-- what stands in a machine over any history
pub record Own (m : Machine) : Type 0 where
  pub room : Room m.queries m.attempts
  pub fits : Fits (asked m.queries) (tried m.attempts)
  pub served : Served m.services (asked m.queries)

abbrev Past : Machine → ℕ → Type 0
Past m t = Held t (asked m.queries) (tried m.attempts)

abbrev asks : Machine → ℕ
asks m = asked_of (asked m.queries) (tried m.attempts)

abbrev heard : Machine → ℕ
heard m = heard_of (asked m.queries) (tried m.attempts)

module _ (r : Rules) (t : Timing) (l : Alts) (n : Names) where
  made-own : Own (made r t l n)
  unfolding made no_queries no_attempts no_services count All
  made-own =
      record {
        room = made-room r t l n;
        fits = record { records = omega arith; tries = omega arith; after_one = omega arith; tidy = tt };
        served = inl refl;
      }

  made-past : Past (made r t l n) 0
  unfolding made no_queries no_attempts All
  made-past = record { came = tt; started = tt }

-- a step of input
module _ (m : Machine) (now : ℕ) (i : Fed) (o : Own m) where
  abbrev next : Machine
  next = (input_step m now i.input i.beside).machine

  fed-own : Own next
  unfolding input_step
  fed-own =
      let k = taken m now o.room o.fits i.input i.beside in
      record {
        room = fed-room m (change_of (judged m now i.input)) i.beside o.room;
        fits = takes-fit now _ _ _ _ k.takes o.fits;
        served = k.served o.served;
      }

  fed-asks : asks next ≡ asks m
  unfolding input_step
  fed-asks = takes_none now _ _ _ _ (taken m now o.room o.fits i.input i.beside).takes

  fed-heard : heard next ≡ one (heeds m now i) + heard m
  unfolding input_step heeds
  fed-heard = (taken m now o.room o.fits i.input i.beside).hears

  fed-past : Past m now → Past next now
  unfolding input_step
  fed-past p = takes-held now _ _ _ _ (taken m now o.room o.fits i.input i.beside).takes p

-- with nothing held later than now, what is left of a delay ends where the delay does
left-ends : (delay since now d : ℕ) → since ≤ now → Left delay since now d → (0 < d) × (now + d ≡ since + delay)
left-ends delay since now d l (a, b) = (omega arith, omega arith)

later-past : (m : Machine) (t u : ℕ) → t ≤ u → Past m t → Past m u
later-past m t u l p = record { came = all-imp _ _ _ (λ q h. omega arith) p.came; started = all-imp _ _ _ (λ a h. omega arith) p.started }

-- a step of output
module _ (wish : Machine → ℕ → Wish) (E : Edition wish) (m : Machine) (now : ℕ) (o : Own m) where
  abbrev said : Output
  said = (given m now (wish m now)).output

  abbrev goes : Machine
  goes = called m (given m now (wish m now)).change

  asks-next : is_ask said ≡ true → asks goes ≡ suc (asks m)
  asks-next e = asks-one now _ _ _ _ (asks-by m now o.room o.fits E.delays (wish m now) (E.rests m now) e)

  still : is_ask said ≡ false → goes ≡ m
  still e = still-by m now (wish m now) e

  keeps-served : (qs : List Query) → Served m.services (asked m.queries)
      → (1 ≤ count is_answered (asked m.queries) → 1 ≤ count is_answered qs) → Served m.services qs
  keeps-served qs (inl z) h = inl z
  keeps-served qs (inr z) h = inr (h z)

  own-by : (b : Bool) → is_ask said ≡ b → Own goes
  own-by true e =
      let k = asks-by m now o.room o.fits E.delays (wish m now) (E.rests m now) e in
      record {
        room = called-room m (given m now (wish m now)).change o.room;
        fits = asks-fit now _ _ _ _ k o.fits;
        served = keeps-served _ o.served (asks-answered now _ _ _ _ k);
      }
  own-by false e = subst Own (sym (still e)) o

  past_by : (b : Bool) → is_ask said ≡ b → Past m now → Past goes now
  past_by true e p = asks-held now _ _ _ _ (asks-by m now o.room o.fits E.delays (wish m now) (E.rests m now) e) p
  past_by false e p = subst (λ x. Past x now) (sym (still e)) p

  heard-by : (b : Bool) → is_ask said ≡ b → heard goes ≡ heard m
  heard-by true e = asks-unheard now _ _ _ _ (asks-by m now o.room o.fits E.delays (wish m now) (E.rests m now) e)
  heard-by false e = ap heard (still e)

  stands : Stands m now E.delays said
  stands = stands_by m now E.delays (wish m now) (E.rests m now)

  timed : (d : ℕ) → Past m now → said ≡ output.Timer d
      → (0 < d) × ((now + d ≡ E.delays.start m + E.delays.attempt m) ⊎ (now + d ≡ E.delays.oldest m + E.delays.resolution m))
  timed d p e = by (rw e at stands)
    where
      by : Stands m now E.delays (output.Timer d)
          → (0 < d) × ((now + d ≡ E.delays.start m + E.delays.attempt m) ⊎ (now + d ≡ E.delays.oldest m + E.delays.resolution m))
      by (inl k) = let z = left-ends _ _ now d (E.started m now p.started) k in (z.0, inl z.1)
      by (inr k) = let z = left-ends _ _ now d (E.answered m now p.came) k in (z.0, inr z.1)

pub facts : (wish : Machine → ℕ → Wish) → Edition wish → (r : Rules) (t : Timing) (l : Alts) (n : Names)
    → Facts (race_by wish r t l n) (view wish r t l n)
facts wish E r t l n =
    record {
      Good = Own;
      Past = Past;
      asks = asks;
      attempt_end = λ m. E.delays.start m + E.delays.attempt m;
      resolution_end = λ m. E.delays.oldest m + E.delays.resolution m;
      good_made = made-own r t l n;
      good_next = λ m now o. own-by wish E m now o (is_ask (said wish E m now o)) refl;
      good_feed = λ m now i o. fed-own m now i o;
      most = λ m o. asked-most _ _ o.fits;
      asked = λ m now o e. asks-next wish E m now o e;
      still = λ m now o e. still wish E m now o e;
      fed = λ m now i o. fed-asks m now i o;
      past_made = made-past r t l n;
      past_later = later-past;
      past_next = λ m now o p. past_by wish E m now o (is_ask (said wish E m now o)) refl p;
      past_feed = λ m now i o p. fed-past m now i o p;
      timed = λ m now d o p e. timed wish E m now o d p e;
      waits = λ m now o e. (rw e at (stands wish E m now o)).0;
      tries = λ m now o e. rest-stands m now E.delays (said wish E m now o) e (stands wish E m now o);
      fresh = λ m now i x e o k. rw k at (stands wish E m now o);
    }

-- what stands over any history stands where the facts are used
pub good-own : (wish : Machine → ℕ → Wish) (E : Edition wish) (r : Rules) (t : Timing) (l : Alts) (n : Names) (m : Machine)
    → (facts wish E r t l n).Good m → Own m
unfolding facts
good-own wish E r t l n m o = o

-- Inputs that are heeded

module _ (wish : Machine → ℕ → Wish) (E : Edition wish) (r : Rules) (t : Timing) (l : Alts) (n : Names) where
  heard-runs : (m : Machine) (h : List (Event Fed)) → Own m → heard (runs (race_by wish r t l n) m h) ≡ heeded_in (race_by wish r t l n) heeds m h + heard m
  unfolding runs heeded_in
  heard-runs m [] o = omega arith
  heard-runs m (input now i ∷ h) o = omega (arith, heard-runs (next m now i o) h (fed-own m now i o), fed-heard m now i o)
  heard-runs m (call now ∷ h) o =
      let b = is_ask (said wish E m now o) in
      omega (arith, heard-runs (goes wish E m now o) h (own-by wish E m now o b refl), heard-by wish E m now o b refl)

  own_runs : (m : Machine) (h : List (Event Fed)) → Own m → Own (runs (race_by wish r t l n) m h)
  unfolding runs
  own_runs m [] o = o
  own_runs m (input now i ∷ h) o = own_runs (next m now i o) h (fed-own m now i o)
  own_runs m (call now ∷ h) o = own_runs (goes wish E m now o) h (own-by wish E m now o (is_ask (said wish E m now o)) refl)

  pub heeds-64 : Heeds64 (race_by wish r t l n) heeds
  unfolding Heeds64
  heeds-64 h =
      let o = made-own r t l n in
      omega (arith, heard-runs (made r t l n) h o, heard-most _ _ (own_runs (made r t l n) h o).fits)

-- one that changes nothing leaves the machine
pub leaves : (m : Machine) (now : ℕ) (i : Fed) → heeds m now i ≡ false → (input_step m now i.input i.beside).machine ≡ m
unfolding input_step heeds
leaves m now i e = by (change_of (judged m now i.input)) e
  where
    by : (c : InputChange) → changes c ≡ false → fed m c i.beside ≡ m
    by change.Nothing e = refl
    by (change.Ends p a) e = absurd (false≢true (sym e))
    by (change.Retries p a r) e = absurd (false≢true (sym e))
    by (change.Holds p q) e = absurd (false≢true (sym e))
    by (change.Empties p q) e = absurd (false≢true (sym e))
    by (change.Offers p q round) e = absurd (false≢true (sym e))

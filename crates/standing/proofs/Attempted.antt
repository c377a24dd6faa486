-- What was attempted stays attempted, under refreshes and retries too.
use Prim.Native.Nat.{ℕ, ◌<◌, ◌≤◌}
use mathlib.Core.Path.{◌≡◌, refl, ap, ◌∙◌}
use mathlib.Core.Bool.{true}
use mathlib.Core.List.{List, [], ◌∷◌}
use mathlib.Core.Option.{some}
use native.Mathlib.Omega.{arith}
use lib.ListN.{length}
use lib.Seq.{get_or-take}
use Rattle.records.specs.Endpoints.{host, shown_target, shown_ech, shown}
use Rattle.records.specs.Names.{name_at, ech_at, ech_bytes, host_at}
use Rattle.records.specs.declared.names.Names.{Names}
use Rattle.records.specs.declared.names.Echs.{Echs}
use Rattle.records.specs.declared.names.EchPlace.{EchPlace}
use Rattle.records.specs.declared.names.EchPlace.TheVariants.{Without, At}
use Rattle.records.specs.declared.endpoints.Endpoint.{Endpoint}
use Rattle.records.specs.declared.endpoints.Target.{Target}
use Rattle.records.specs.declared.endpoints.Target.TheVariants.{V4, V6, Named}
use Rattle.state.specs.State.{no_attempt, tried, retries_of}
use Rattle.state.specs.declared.Machine.{Machine}
use Rattle.input.specs.Input.{attempt_at}
use Rattle.standing.specs.Lists.{every}
use Rattle.standing.specs.Standing.{named, kept, target_in, ech_in, attempt_in, phase, standing}
use Rattle.standing.specs.Kept.{Event, in_form, after, after_all, Attempted}
use Rattle.standing.proofs.Lists.{left, right, every-at, used-length}
use Rattle.standing.proofs.Parts.{Standing, parts}
use Rattle.standing.proofs.Https.{setting-named}
use Rattle.standing.proofs.Listed.{endpoint_in}
use Rattle.standing.proofs.Events.{event-stands}
use Rattle.standing.proofs.Onward.{Onward, event-onward}

-- What is shown of an endpoint whose places are known, when other places are written

module _ (k : ℕ) (rs : List ℕ) (n n' : Names) (e e' : Echs) (names : (p : ℕ) → named k p ≡ true → name_at n' p ≡ name_at n p) (echs : (p : ℕ) → kept k rs p ≡ true → ech_at e' p ≡ ech_at e p) where
  host-same : (p : ℕ) → named k p ≡ true → host_at n' p ≡ host_at n p
  unfolding host_at
  host-same p h = rw (names 0 (setting-named k 0 (omega arith)), names p h)

  target-same : (t : Target) → target_in k t ≡ true → shown_target n' t ≡ shown_target n t
  target-same (V4 a) h = refl
  target-same (V6 a b c) h = refl
  target-same (Named p) h = ap host (host-same p h)

  ech-same : (x : EchPlace) → ech_in k rs x ≡ true → shown_ech e' x ≡ shown_ech e x
  ech-same Without h = refl
  ech-same (At p) h = ap (λ y. some (ech_bytes y)) (echs p h)

  shown-same : (x : Endpoint) → endpoint_in k rs x ≡ true → shown n' e' x ≡ shown n e x
  shown-same x h = λ j. record { target = target-same x.target (left _ _ h) j; port = x.port; rank = x.rank; ech = ech-same x.ech (right _ _ h) j }

-- the places of each attempt are known
known : (m : Machine) → Standing m → (p : ℕ) → p < m.attempts.count
    → endpoint_in (phase m.queries) (retries_of m.retries) (attempt_at m.attempts p).endpoint ≡ true
known m h p b =
    let fit : m.attempts.count ≤ length m.attempts.list = omega (arith, h.room.attempts.size, h.room.attempts.few) in
    rw (get_or-take m.attempts.count m.attempts.list p no_attempt b) at
    (every-at (attempt_in (phase m.queries) (retries_of m.retries)) (tried m.attempts) p no_attempt (rw (used-length m.attempts.list m.attempts.count fit) b) h.places.ends)

pub onward-attempted : (m later : Machine) → Standing m → Onward m later → Attempted m later
onward-attempted m later h o =
    record {
      count = o.trials.count;
      same = λ p b. ap (shown later.names later.echs) (o.trials.ends p b)
          ∙ shown-same (phase m.queries) (retries_of m.retries) m.names later.names m.echs later.echs o.names o.echs (attempt_at m.attempts p).endpoint (known m h p b);
      ids = o.trials.ids;
      ended = o.trials.ended;
    }

all_stay : (m : Machine) (es : List Event) → Standing m → every in_form es ≡ true → Attempted m (after_all m es)
unfolding after_all every
all_stay m [] h s = record { count = omega arith; same = λ p b. refl; ids = λ p b. refl; ended = λ p b e. e }
all_stay m (e ∷ es) h s =
    let one = onward-attempted m (after m e) h (event-onward m h e (left _ _ s)) in
    let rest = all_stay (after m e) es (event-stands m e h (left _ _ s)) (right _ _ s) in
    record {
      count = omega (arith, one.count, rest.count);
      same = λ p b. rest.same p (omega (arith, one.count)) ∙ one.same p b;
      ids = λ p b. rest.ids p (omega (arith, one.count)) ∙ one.ids p b;
      ended = λ p b g. rest.ended p (omega (arith, one.count)) (one.ended p b g);
    }

-- Whatever happens, each attempt shows what it showed, has its id, and goes on no more once it has ended.
pub attempted-stays : (m : Machine) (es : List Event) → standing m ≡ true → every in_form es ≡ true → Attempted m (after_all m es)
attempted-stays m es h s = all_stay m es (parts m h) s

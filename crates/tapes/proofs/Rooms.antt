-- The names of a tape's machine have 253 bytes at most, and its ECH bytes 512, whatever the tape says.
--     told-cases              what an event tells
--     Fits                    of a machine
--     made-fits, step_fits    of the one that a configuration makes, and after an event
--     name-few, ech-few       what lies at a place of its tables
use Prim.Native.Nat.{ℕ, zero, suc, ◌+◌, ◌-◌, ◌≤◌}
use mathlib.Core.Bool.{Bool, true, false, cond}
use mathlib.Core.List.{List, [], ◌∷◌, ◌++◌, map}
use native.Mathlib.Omega.{arith}
use lib.Dec.{ltb as nat_lt}
use lib.ListN.{length, get_or, take, set, replicate, length-take, length-replicate}
use lib.Seq.{sets}
use Rattle.numbers.specs.Names.{longest_name}
use Rattle.records.specs.Lists.{padded}
use Rattle.records.specs.Names.{no_name, blank_name, no_ech, blank_ech, no_echs, name_bytes, ech_bytes, name_at, ech_at, name_bytes_at, ech_bytes_at}
use Rattle.records.specs.declared.names.Name.{Name}
use Rattle.records.specs.declared.names.Names.{Names}
use Rattle.records.specs.declared.names.Ech.{Ech}
use Rattle.records.specs.declared.names.Echs.{Echs}
use Rattle.records.specs.declared.queries.Kind.{Kind}
use Rattle.records.specs.declared.queries.Kind.TheVariants.{Https, Aaaa, A}
use Rattle.state.specs.Https as https
use Rattle.state.specs.Https.{prefixed}
use Rattle.state.specs.State.{made, is_prefixed, first_names}
use Rattle.state.specs.declared.Machine.{Machine}
use Rattle.state.specs.declared.changes.InputChange.{InputChange}
use Rattle.state.specs.declared.changes.InputChange.TheVariants as change
use Rattle.state.specs.Changes.{first_name, first_ech}
use Rattle.input.specs.declared.Input.{Input}
use Rattle.after.specs.After.{put_names, put_echs, put_ech}
use Rattle.machine.specs.Steps.{fed, output_step, change_of, judged, input_step}
use Rattle.machine.specs.declared.calls.Beside.{Beside}
use Rattle.parts.specs.Reading.{Reading, read, fault, next}
use Rattle.parts.specs.Items.{listed}
use Rattle.parts.specs.Rooms.{kept, name_in, ech_in}
use Rattle.parts.specs.declared.address.Items.{Items}
use Rattle.parts.proofs.Copying.{kept-few}
use Rattle.offers.specs.Offers.{offer, target_name, ech_from, target_ech, brought, no_offered, offered_in}
use Rattle.std.specs.Prelude.{Option, Some, None}
use Rattle.numbers.specs.declared.field.Span.{Span}
use Rattle.offers.specs.declared.Offer.{Offer}
use Rattle.bodies.specs.Events.{event_at}
use Rattle.bodies.specs.Told as told
use Rattle.bodies.specs.Told.{Told, call, input_of, offered_for, beside_of, told_by, read_body}
use Rattle.bodies.specs.declared.Event.{Event}
use Rattle.bodies.specs.declared.Event.TheVariants as event
use Rattle.written.proofs.Tests.{padded-length}
use Rattle.history.specs.Edition.{All}
use Rattle.history.proofs.Tables.{all_set}
use Rattle.configuration.specs.Configuration.{alt}
use Rattle.configuration.specs.Filling.{host_name, alt_name, configured_by, configured_in}
use Rattle.configuration.specs.declared.AltSpan.{AltSpan}
use Rattle.configuration.specs.declared.HostSpan.{HostSpan}
use Rattle.configuration.specs.declared.HostSpan.TheVariants.{Absent, Named, V4, V6}
use Rattle.configuration.specs.declared.Setup.{Setup}
use Rattle.replay.specs.Replay.{step_by, step_of}
use Rattle.tapes.specs.Events.{given_by}
use Rattle.tapes.specs.Answered.{made_of}

-- lists
module _ {A : Type 0} (P : A → Type 0) where
  all-at : (l : List A) (i : ℕ) (d : A) → All P l → P d → P (get_or l i d)
  unfolding All
  all-at [] i d h k = k
  all-at (x ∷ l) zero d h k = h.0
  all-at (x ∷ l) (suc i) d h k = all-at l i d h.1 k

  all-copies : (n : ℕ) (z : A) → P z → All P (replicate n z)
  unfolding All
  all-copies zero z k = tt
  all-copies (suc n) z k = (k, all-copies n z k)

  all_join : (l more : List A) → All P l → All P more → All P (l ++ more)
  unfolding All
  all_join [] more h k = k
  all_join (x ∷ l) more h k = (h.0, all_join l more h.1 k)

  all-padded : (n : ℕ) (z : A) (l : List A) → All P l → P z → All P (padded n z l)
  unfolding padded
  all-padded n z l h k = all_join l (replicate (n - length l) z) h (all-copies (n - length l) z k)

  all_map : {B : Type 0} (f : B → A) → ((b : B) → P (f b)) → (l : List B) → All P (map f l)
  unfolding All
  all_map f h [] = tt
  all_map f h (b ∷ l) = (h b, all_map f h l)

  all-sets : (l : List A) (i : ℕ) (xs : List A) → All P l → All P xs → All P (sets l i xs)
  unfolding All
  all-sets l i [] h k = h
  all-sets l i (x ∷ xs) h k = all-sets (set l i x) (suc i) xs (all_set P l i x h k.0) k.1

-- one name, one ECH configuration
abbrev NameFits : Name → Type 0
NameFits n = length n.bytes ≤ 253

abbrev EchFits : Ech → Type 0
EchFits e = length e.bytes ≤ 512

no-name-fits : NameFits no_name
unfolding no_name
no-name-fits = omega (arith, length-replicate {A = ℕ} 253 0)

no-ech-fits : EchFits no_ech
unfolding no_ech
no-ech-fits = omega (arith, length-replicate {A = ℕ} 512 0)

name-fits : (bs : List ℕ) → length bs ≤ 253 → NameFits (name_in bs)
unfolding name_in
name-fits bs h = omega (arith, padded-length 253 0 bs h)

ech-fits : (bs : List ℕ) → length bs ≤ 512 → EchFits (ech_in bs)
unfolding ech_in
ech-fits bs h = omega (arith, padded-length 512 0 bs h)

prefix-fits : (bs : List ℕ) → NameFits (https.name_in bs)
unfolding https.name_in
prefix-fits bs = omega (arith, padded-length 253 0 (take 253 bs) (omega (arith, length-take 253 bs)))

-- what a body brings
target_fits : (s : List ℕ) (o : Offer) → NameFits (target_name s o)
unfolding target_name
target_fits s o = name-fits (kept longest_name s o.head.name) (kept-few s longest_name o.head.name)

from-fits : (s : List ℕ) (x : Option Span) → EchFits (ech_from s x)
from-fits s None = no-ech-fits
from-fits s (Some b) = ech-fits (kept 512 s b) (kept-few s 512 b)

sealed-fits : (s : List ℕ) (o : Offer) → EchFits (target_ech s o)
unfolding target_ech
sealed-fits s o = from-fits s o.way.ech

pub record BesideFits (b : Beside) : Type 0 where
  pub names : All NameFits b.names.list
  pub echs : All EchFits b.echs.list
  pub retry : EchFits b.retry

module _ (s : List ℕ) where
  in-names : (l : Items) → All NameFits (offered_in s l).names.list
  unfolding offered_in brought
  in-names l = all-padded NameFits 4 no_name (map (target_name s) (listed 4 (offer s) l)) (all_map NameFits (target_name s) (target_fits s) (listed 4 (offer s) l)) no-name-fits

  in-echs : (l : Items) → All EchFits (offered_in s l).echs.list
  unfolding offered_in brought
  in-echs l = all-padded EchFits 4 no_ech (map (target_ech s) (listed 4 (offer s) l)) (all_map EchFits (target_ech s) (sealed-fits s) (listed 4 (offer s) l)) no-ech-fits

  none-names : All NameFits no_offered.names.list
  unfolding no_offered
  none-names = all-copies NameFits 4 no_name no-name-fits

  none-echs : All EchFits no_offered.echs.list
  unfolding no_offered
  none-echs = all-copies EchFits 4 no_ech no-ech-fits

  held-names : (k : Kind) (l : Items) → All NameFits (offered_for s k l).names.list
  held-names Https l = in-names l
  held-names Aaaa l = none-names
  held-names A l = none-names

  held-echs : (k : Kind) (l : Items) → All EchFits (offered_for s k l).echs.list
  held-echs Https l = in-echs l
  held-echs Aaaa l = none-echs
  held-echs A l = none-echs

  beside-fits : (e : Event) → BesideFits (beside_of s e)
  unfolding beside_of
  beside-fits event.Call = record { names = none-names; echs = none-echs; retry = no-ech-fits }
  beside-fits (event.Fails k id stale) = record { names = none-names; echs = none-echs; retry = no-ech-fits }
  beside-fits (event.Holds k id stale l) = record { names = held-names k l; echs = held-echs k l; retry = no-ech-fits }
  beside-fits (event.Success id) = record { names = none-names; echs = none-echs; retry = no-ech-fits }
  beside-fits (event.Failure id) = record { names = none-names; echs = none-echs; retry = no-ech-fits }
  beside-fits (event.EchRetry id b) = record { names = none-names; echs = none-echs; retry = ech-fits (kept 512 s b) (kept-few s 512 b) }

-- an event tells a call, or an input with what comes beside it
pub told-cases : (s : List ℕ) (P : Told → Type 0) → P call → ((x : Event) → P (told.fed (input_of x) (beside_of s x))) → (x : Event) → P (told_by s x)
told-cases s P c f event.Call = c
told-cases s P c f (event.Fails k id stale) = f (event.Fails k id stale)
told-cases s P c f (event.Holds k id stale l) = f (event.Holds k id stale l)
told-cases s P c f (event.Success id) = f (event.Success id)
told-cases s P c f (event.Failure id) = f (event.Failure id)
told-cases s P c f (event.EchRetry id b) = f (event.EchRetry id b)

-- a machine
pub record Fits (m : Machine) : Type 0 where
  pub names : All NameFits m.names.list
  pub echs : All EchFits m.echs.list

retry-by : (t : Bool) (e : Echs) (p : ℕ) (x : Ech) → All EchFits e.list → EchFits x → All EchFits (cond t (record { list = set e.list (8 + p) x }) e).list
retry-by true e p x h k = all_set EchFits e.list (8 + p) x h k
retry-by false e p x h k = h

fed-fits : (m : Machine) (c : InputChange) (b : Beside) → Fits m → BesideFits b → Fits (fed m c b)
unfolding put_names put_echs put_ech
fed-fits m change.Nothing b h k = record { names = h.names; echs = h.echs }
fed-fits m (change.Ends p a) b h k = record { names = h.names; echs = h.echs }
fed-fits m (change.Retries p a r) b h k = record { names = h.names; echs = retry-by (nat_lt p 32) m.echs p b.retry h.echs k.retry }
fed-fits m (change.Holds p q) b h k = record { names = h.names; echs = h.echs }
fed-fits m (change.Empties p q) b h k = record { names = h.names; echs = h.echs }
fed-fits m (change.Offers p q round) b h k =
    record {
      names = all-sets NameFits m.names.list (first_name round) b.names.list h.names k.names;
      echs = all-sets EchFits m.echs.list (first_ech round) b.echs.list h.echs k.echs;
    }

module _ (m : Machine) (now : ℕ) (h : Fits m) where
  input-fits : (i : Input) (b : Beside) → BesideFits b → Fits (input_step m now i b).machine
  unfolding input_step
  input-fits i b k = fed-fits m (change_of (judged m now i)) b h k

  call_fits : Fits (output_step m now).machine
  unfolding output_step
  call_fits = record { names = h.names; echs = h.echs }

  told-fits : (body : List ℕ) (e : Event) (end : ℕ) → Fits (step_by m now (read (told_by body e) end)).machine
  told-fits body e end = told-cases body (λ t. Fits (step_by m now (read t end)).machine) call_fits (λ x. input-fits (input_of x) (beside_of body x) (beside-fits body x)) e

  read_fits : (body : List ℕ) (r : Reading Event) → Fits (step_by m now (next r (λ e end. read (told_by body e) end))).machine
  read_fits body (read e end) = told-fits body e end
  read_fits body (fault n p) = h

  pub step_fits : (body : List ℕ) → Fits (step_of m now body).machine
  unfolding step_of read_body
  step_fits body = read_fits body (event_at body)

-- the configuration's names
host-fits : (s : List ℕ) (x : HostSpan) → NameFits (host_name s x)
host-fits s Absent = no-name-fits
host-fits s (Named b) = name-fits (kept longest_name s b) (kept-few s longest_name b)
host-fits s (V4 x) = no-name-fits
host-fits s (V6 x y) = no-name-fits

alt-fits : (s : List ℕ) (a : AltSpan) → NameFits (alt_name s a)
unfolding alt_name
alt-fits s a = host-fits s a.host

configured-fits : (s : List ℕ) (c : Setup) → All NameFits (configured_in s c).names.list
unfolding configured_in configured_by All
configured-fits s c =
    (host-fits s c.origin, all-padded NameFits 13 no_name (map (alt_name s) (listed 4 (alt s) c.alts)) (all_map NameFits (alt_name s) (alt-fits s) (listed 4 (alt s) c.alts)) no-name-fits)

first_by : (t : Bool) (n : Names) (x : Name) → All NameFits n.list → NameFits x → All NameFits (cond t (record { list = set n.list 13 x }) n).list
first_by true n x h k = all_set NameFits n.list 13 x h k
first_by false n x h k = h

pub given-fits : (s : List ℕ) (c : Setup) → Fits (made_of (given_by s c))
unfolding made first_names no_echs
given-fits s c =
    record {
      names = first_by (is_prefixed c.rules) (configured_in s c).names (https.name_in (prefixed c.rules.port (name_bytes_at (configured_in s c).names 0))) (configured-fits s c)
          (prefix-fits (prefixed c.rules.port (name_bytes_at (configured_in s c).names 0)));
      echs = all-copies EchFits 40 no_ech no-ech-fits;
    }

-- what lies at a place
cell-by : {A : Type 0} (P : A → Type 0) (t : Bool) (x z : A) → P x → P z → P (cond t x z)
cell-by P true x z h k = h
cell-by P false x z h k = k

module _ (m : Machine) (h : Fits m) where
  pub name-few : (p : ℕ) → length (name_bytes_at m.names p) ≤ 253
  unfolding name_bytes name_at
  name-few p =
      let x = cell-by NameFits (nat_lt p 14) (get_or m.names.list p blank_name) no_name (all-at NameFits m.names.list p blank_name h.names (omega arith)) no-name-fits in
      omega (arith, x, length-take (name_at m.names p).len (name_at m.names p).bytes)

  pub ech-few : (p : ℕ) → length (ech_bytes_at m.echs p) ≤ 512
  unfolding ech_bytes ech_at
  ech-few p =
      let x = cell-by EchFits (nat_lt p 40) (get_or m.echs.list p blank_ech) no_ech (all-at EchFits m.echs.list p blank_ech h.echs (omega arith)) no-ech-fits in
      omega (arith, x, length-take (ech_at m.echs p).len (ech_at m.echs p).bytes)

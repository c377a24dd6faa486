-- What an accepted HTTPS answer brings is kept as the rules want it: no service of a failed one, and services, names and ECH bytes of one that
-- is held, at the places of its round.
use Prim.Native.Nat.{ℕ, suc, ◌+◌, ◌-◌, ◌*◌, ◌<◌, ◌≤◌}
use mathlib.Core.Path.{◌≡◌, refl, sym, ap, ◌∙◌}
use mathlib.Core.Bool.{Bool, true, false, not}
use mathlib.Core.List.{List, [], ◌∷◌}
use native.Mathlib.Nat.{zero-add}
use native.Mathlib.Omega.{arith}
use lib.Dec.{leb as nat_le}
use lib.ListN.{length, take, replicate, length-take, length-append, length-replicate}
use lib.Seq.{length-sets, drop_at}
use borrow.Author.Tests.{eqb-true, eq-eqb, le-ltb, lt-ltb}
use Rattle.numbers.specs.Names.{name_ok}
use Rattle.records.specs.Lists.{padded}
use Rattle.records.specs.Names.{name_bytes}
use Rattle.records.specs.Queries.{answered}
use Rattle.records.specs.Services.{no_service, no_services, offered}
use Rattle.records.specs.declared.names.Name.{Name}
use Rattle.records.specs.declared.names.Names.{Names}
use Rattle.records.specs.declared.names.Ech.{Ech}
use Rattle.records.specs.declared.names.Echs.{Echs}
use Rattle.records.specs.declared.names.EchPlace.{EchPlace}
use Rattle.records.specs.declared.names.EchPlace.TheVariants.{Without, At}
use Rattle.records.specs.declared.queries.Kind.TheVariants.{Https}
use Rattle.records.specs.declared.queries.Answer.{Answer}
use Rattle.records.specs.declared.services.Service.{Service}
use Rattle.records.specs.declared.services.Services.{Services}
use Rattle.records.proofs.Rooms.{padded-take}
use Rattle.state.specs.Changes.{first_name, first_ech}
use Rattle.state.specs.State.{retries_of}
use Rattle.state.specs.declared.Machine.{Machine}
use Rattle.state.specs.declared.changes.InputChange.TheVariants.{Empties, Offers}
use Rattle.state.specs.declared.changes.Round.{Round}
use Rattle.state.specs.declared.changes.Round.TheVariants.{First, Second}
use Rattle.input.specs.Input.{record_at, with_answer}
use Rattle.input.specs.Verdicts.{Waits, MayBe, refresh_after}
use Rattle.after.specs.After.{ech_place, placed_at, placed_from, placed_services, put_names, put_echs}
use Rattle.machine.specs.Steps.{fed}
use Rattle.after.specs.declared.TargetNames.{TargetNames}
use Rattle.after.specs.declared.TargetEchs.{TargetEchs}
use Rattle.machine.specs.declared.calls.Beside.{Beside}
use Rattle.standing.specs.Lists.{◌and◌, ◌or◌, all, every, every_at}
use Rattle.standing.specs.Standing.{zero?, empty_service, fits, held_of, holds_https, name_needs, named, kept, ech_of, service_stands, served, name_stands, ech_stands}
use Rattle.standing.specs.Sound.{hints_sound, name_sound, ech_sound, services_sound}
use Rattle.standing.proofs.Lists.{both, left, right, rule, all2, all3, all4, or_left, or_right, or-true, or-second, every-replicate, at_moved, at-sets}
use Rattle.standing.proofs.Parts.{Standing, Fits, Tabled, zeros-fit}
use Rattle.standing.proofs.Tables.{query-put}
use Rattle.standing.proofs.Https.{before, tables-up, name-stays, phase-was, https-stands}

-- the places of a round are known once its answer has come
named_new : (round : Round) (i : ℕ) → i < 4 → named (before round + 1) (first_name round + i) ≡ true
unfolding named name_needs
named_new First i b = rw (le-ltb (5 + i) 5 (omega arith), lt-ltb (5 + i) 9 (omega arith))
named_new Second i b = rw (le-ltb (9 + i) 5 (omega arith), le-ltb (9 + i) 9 (omega arith), lt-ltb (9 + i) 13 (omega arith))

kept_new : (round : Round) (rs : List ℕ) (i : ℕ) → i < 4 → kept (before round + 1) rs (first_ech round + i) ≡ true
unfolding kept
kept_new First rs i b = rw (lt-ltb (0 + i) 4 (omega arith))
kept_new Second rs i b = rw (le-ltb (4 + i) 4 (omega arith), lt-ltb (4 + i) 8 (omega arith))

-- Services

pub none-empty : empty_service no_service ≡ true
unfolding empty_service no_service all ◌and◌ fits every
none-empty = refl

none-fit : Fits 4 empty_service no_services.count no_services.list
unfolding no_services
none-fit = zeros-fit 4 empty_service no_service none-empty

none-served : (k : ℕ) (holds : Bool) → served k holds no_services ≡ true
unfolding served no_services every_at
none-served k holds = all2 (or-true holds) refl

placed-length : (round : Round) (i : ℕ) (l : List Service) → length (placed_from round i l) ≡ length l
unfolding placed_from
placed-length round i [] = refl
placed-length round i (s ∷ l) = ap suc (placed-length round (i + 1) l)

name-number : (round : Round) (i : ℕ) → first_name round + i ≡ (before round + 1) * 4 + 1 + i
name-number First i = refl
name-number Second i = refl

ech-number : (round : Round) (i : ℕ) → first_ech round + i ≡ (before round + 1) * 4 - 4 + i
ech-number First i = refl
ech-number Second i = refl

ech-placed : (e : EchPlace) (p q : ℕ) → p ≡ q → ech_of q (ech_place e p) ≡ true
ech-placed Without p q g = refl
ech-placed (At r) p q g = eq-eqb p q g

placed-stands : (round : Round) (i : ℕ) (s : Service) → hints_sound s ≡ true → service_stands (before round + 1) i (placed_at round i s) ≡ true
unfolding service_stands hints_sound
placed-stands round i s h = all4 (eq-eqb _ _ (name-number round i)) (ech-placed s.ech _ _ (ech-number round i)) (left _ _ h) (right _ _ h)

all-stand : (round : Round) (i : ℕ) (l : List Service) → every hints_sound l ≡ true → every_at (service_stands (before round + 1)) i (placed_from round i l) ≡ true
unfolding every every_at placed_from
all-stand round i [] h = refl
all-stand round i (s ∷ l) h = both (placed-stands round i s (left _ _ h)) (let z : suc i ≡ i + 1 = omega arith in rw z (all-stand round (i + 1) l (right _ _ h)))

module _ (o : Services) (round : Round) (room : length o.list ≡ 4) where
  abbrev list : List Service
  list = placed_from round 0 (offered o)

  few : length (offered o) ≤ 4
  few = omega (arith, length-take o.count o.list)

  services-fit : Fits 4 empty_service (placed_services o round).count (placed_services o round).list
  unfolding placed_services padded
  services-fit =
      let n = placed-length round 0 (offered o) in
      record {
        size = length-append list (replicate (4 - length list) no_service) ∙ (rw (length-replicate, n) (omega (arith, few)));
        few = few;
        rest = rw (drop_at list (replicate (4 - length list) no_service) (length (offered o)) n) (every-replicate empty_service (4 - length list) no_service none-empty);
      }

  offered-are : offered (placed_services o round) ≡ list
  unfolding placed_services
  offered-are = ap (λ k. take k (padded 4 no_service list)) (sym (placed-length round 0 (offered o))) ∙ padded-take no_service 4 list

  services-served : every hints_sound (offered o) ≡ true → served (before round + 1) true (placed_services o round) ≡ true
  unfolding served
  services-served h = all2 (or_left true _ refl) (rw offered-are (all-stand round 0 (offered o) h))

-- Names and ECH bytes

name-fits : (k n i p : ℕ) (x : Name) → named k p ≡ true → name_sound n i x ≡ true → name_stands k p x ≡ true
unfolding name_sound name_stands
name-fits k n i p x e h = all3 (rule 0 _ h) (or_left _ _ e) (go (nat_le n i) (rule 1 _ h) (rule 2 _ h))
  where
    go : (b : Bool) → (b or name_ok (name_bytes x)) ≡ true → (not b or zero? x.len) ≡ true → (zero? x.len or name_ok (name_bytes x)) ≡ true
    go true f g = or_left _ _ (or-second _ _ refl g)
    go false f g = or_right _ true _ (λ t. or-second _ _ refl f) (or-true _)

ech-fits : (k : ℕ) (rs : List ℕ) (p : ℕ) (there : Bool) (x : Ech) → kept k rs p ≡ true → ech_sound there x ≡ true → ech_stands k rs p x ≡ true
unfolding ech_sound ech_stands
ech-fits k rs p there x e h = both (left _ _ h) (or_left _ _ e)

module _ (round : Round) (rs : List ℕ) (n : Names) (e : Echs) (t : TargetNames) (u : TargetEchs) (o : Services) (sound : services_sound o t u ≡ true) where
  four-names : length t.list ≡ 4
  unfolding services_sound
  four-names = eqb-true _ _ (rule 3 _ sound)

  four-echs : length u.list ≡ 4
  unfolding services_sound
  four-echs = eqb-true _ _ (rule 5 _ sound)

  names_stand : every_at (name_stands (before round + 1)) (first_name round) t.list ≡ true
  unfolding services_sound
  names_stand =
      at_moved _ _ 0 (first_name round) t.list
      (λ i x b e. name-fits (before round + 1) o.count i (first_name round + i) x (named_new round i (omega (arith, four-names))) (rw zero-add at e))
      (rule 4 _ sound)

  echs-stand : every_at (ech_stands (before round + 1) rs) (first_ech round) u.list ≡ true
  unfolding services_sound
  echs-stand =
      at_moved _ _ 0 (first_ech round) u.list
      (λ i x b. ech-fits (before round + 1) rs (first_ech round + i) _ x (kept_new round rs i (omega (arith, four-echs))))
      (rule 6 _ sound)

  tables-new : Tabled (before round + 1) rs n e → Tabled (before round + 1) rs (put_names n round t) (put_echs e round u)
  unfolding put_names put_echs
  tables-new h =
      record {
        name_room = length-sets n.list (first_name round) t.list ∙ h.name_room;
        names = at-sets _ n.list (first_name round) t.list names_stand h.names;
        ech_room = length-sets e.list (first_ech round) u.list ∙ h.ech_room;
        echs = at-sets _ e.list (first_ech round) u.list echs-stand h.echs;
      }

-- The two steps

module _ (m : Machine) (h : Standing m) (b : 0 < m.queries.count) (https : (record_at m.queries 0).kind ≡ Https) (a : Answer) (stale : Bool) (id : ℕ)
    (round : Round) (waits : Waits round id (record_at m.queries 0)) (fresh : MayBe round stale) (answers : answered a ≡ true) (none : held_of a ≡ 0) (beside : Beside) where
  tables-now : Tabled (before round + 1) (retries_of m.retries) m.names m.echs
  tables-now = tables-up (rw (phase-was m h b https a stale id round waits fresh answers none) at h.tables)

  pub empties-stand : Standing (fed m (Empties 0 (with_answer (record_at m.queries 0) a stale (refresh_after round))) beside)
  empties-stand =
      rw (query-put m.queries 0 (with_answer (record_at m.queries 0) a stale (refresh_after round)) b h.room.queries.few)
      (https-stands m h b https a stale id round waits fresh answers none no_services m.names m.echs none-fit (none-served (before round + 1) (holds_https Https a)) (λ p e. refl) tables-now)

  pub offers-stand : holds_https Https a ≡ true → services_sound beside.services beside.names beside.echs ≡ true
      → Standing (fed m (Offers 0 (with_answer (record_at m.queries 0) a stale (refresh_after round)) round) beside)
  unfolding services_sound
  offers-stand holds sound =
      let room : length beside.services.list ≡ 4 = eqb-true _ _ (rule 1 _ sound) in
      rw (query-put m.queries 0 (with_answer (record_at m.queries 0) a stale (refresh_after round)) b h.room.queries.few)
      (https-stands m h b https a stale id round waits fresh answers none (placed_services beside.services round) (put_names m.names round beside.names) (put_echs m.echs round beside.echs)
      (services-fit beside.services round room) (rw holds (services-served beside.services round room (rule 2 _ sound)))
      (λ p e. ap name_bytes (name-stays m.names round beside.names p (four-names round (retries_of m.retries) m.names m.echs beside.names beside.echs beside.services sound) e))
      (tables-new round (retries_of m.retries) m.names m.echs beside.names beside.echs beside.services sound tables-now))

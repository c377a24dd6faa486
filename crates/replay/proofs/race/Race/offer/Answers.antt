use mathlib.Core.Path.{◌≡◌, sym, ◌∙◌}
use mathlib.Core.Bool.{true, false≢true, ◌&&◌}
use lib.Dec.{eqb as nat_eq}
use Rattle.after.specs.After.{bare}
use Rattle.replay.proofs.Stored.{still_kept, services-came, names-came, echs-came}
use Rattle.replay.proofs.race.Race.offer.Goals as goal
use Rattle.replay.proofs.race.Race.offer.Goals.{then-is_bare, else-is_bare}

pub invariant_of-self-else-not-still : goal.invariant_of-self-else-not-still
invariant_of-self-else-not-still c =
    let test : bare c.self.inside.machine.names c.self.inside.machine.echs c.args.round && nat_eq c.located_of-o.result.services.count 0 ≡ true =
    rw (← c.is_bare.ensures)
    (elim c.if-is_bare.branch [
      | then-is_bare w ↦ rw w.if-is_bare.true (sym w.still-is ∙ c.if-not-still.false)
      | else-is_bare w ↦ absurd (false≢true (sym w.if-is_bare.false ∙ (sym w.still-is ∙ c.if-not-still.false)))
    ]) in
    record {
      same = rw (c.put_names.ensures, c.put_echs.ensures) (c.self.invariant.same ∙ sym (still_kept _ c.args.e c.located_of-o.ensures _ _ c.args.round test));
      sized = c.self.invariant.sized;
    }

pub returns-then-not-still : goal.returns-then-not-still
returns-then-not-still c =
    rw (
      ← c.self.view_is,
      c.placed_services-self-inside.ensures,
      c.put_names.ensures,
      c.put_echs.ensures,
      ← services-came _ c.args.e c.located_of-o.ensures,
      ← names-came _ c.args.e c.located_of-o.ensures,
      ← echs-came _ c.args.e c.located_of-o.ensures,
    )

pub returns-else-not-still : goal.returns-else-not-still
returns-else-not-still c =
    rw (
      ← c.self.view_is,
      c.placed_services-self-inside.ensures,
      c.put_names.ensures,
      c.put_echs.ensures,
      ← services-came _ c.args.e c.located_of-o.ensures,
      ← names-came _ c.args.e c.located_of-o.ensures,
      ← echs-came _ c.args.e c.located_of-o.ensures,
    )

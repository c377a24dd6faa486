-- `listing::sources::Sources::tier` meets its contract: the services that are used, then the last tier, then nothing.
use mathlib.Core.Path.{sym, ap, ◌∙◌}
use native.Mathlib.Omega.{arith}
use Rattle.records.specs.Classes.{same_class}
use Rattle.listing.specs.Room.{tiered}
use Rattle.listing.proofs.Priorities.{placed_at}
use Rattle.listing.proofs.Whole.{tier-service, tier-last, tier-sealed, tier-beyond}
use Rattle.listing.proofs.sources.Sources.tier.Goals as goal

pub returns-then-j-n : goal.returns-then-j-n
returns-then-j-n c =
    rw (tier-service c.args.self.now.rules c.args.alts c.args.self.now.queries c.args.services.now (same_class c.args.self.now.same) c.args.k (omega (arith, c.requires.count)), ← placed_at _ _ c.requires.order c.args.k) c.service_tier.ensures

pub returns-then-n-j : goal.returns-then-n-j
returns-then-n-j c =
    c.no_tier.ensures ∙ ap tiered (sym (tier-beyond c.args.self.now.rules c.args.alts c.args.self.now.queries c.args.services.now (same_class c.args.self.now.same) c.args.k (omega (arith, c.requires.count))))

pub returns-then-sealed : goal.returns-then-sealed
returns-then-sealed c =
    c.no_tier-then-sealed.ensures
    ∙ ap tiered (sym (tier-sealed c.args.self.now.rules c.args.alts c.args.self.now.queries c.args.services.now (same_class c.args.self.now.same) c.args.k (omega (arith, c.requires.count)) (sym c.requires.shut ∙ c.if-sealed.true)))

pub returns : goal.returns
returns c =
    c.last_tier.ensures
    ∙ ap tiered (sym (tier-last c.args.self.now.rules c.args.alts c.args.self.now.queries c.args.services.now (same_class c.args.self.now.same) c.args.k (omega (arith, c.requires.count)) (sym c.requires.shut ∙ c.if-sealed.false)))

-- What is left has one exactly if all do.
use mathlib.Core.Path.{◌≡◌}
use lib.ListN.{drop}
use Rattle.records.specs.Lists.{some?}
use Rattle.records.specs.Services.{has_ech, offered}
use Rattle.records.proofs.services.some_ech.Given as goal

abbrev pub invariant-loop-x : goal.invariant-loop-x
invariant-loop-x l = some? (λ x. has_ech x.ech) (drop l.x-index l.x-items) ≡ some? (λ x. has_ech x.ech) (offered l.fn.s)

use mathlib.Core.Path.{◌∙◌}
use Rattle.std.proofs.Common.{rules}
use Rattle.parts.proofs.Addresses.{addresses-none, addresses-all}
use Rattle.parts.proofs.Filling.{fill_none, fill_all, fill-over}
use Rattle.records.specs.Queries.{no_addr, no_addresses}
use Rattle.records.specs.declared.queries.Addr.{Addr}
use Rattle.parts.proofs.address.fill_addresses.Goals as goal

pub returns-then-l-gt8 : goal.returns-then-l-gt8
returns-then-l-gt8 c = c.no_addresses-out.ensures ∙ addresses-none _ _ _ (fill-over _ 8 _ c.if-l-gt8.true)

pub returns-in-Ok : goal.returns-in-Ok
unfolding no_addresses
returns-in-Ok c =
    let u = c.in-Ok.ensures.stored (λ (a : Addr). a) (λ a x k. search rules) in
    addresses-all _ _ _ (fill_all (λ (a : Addr). a) _ _ 8 c.if-l-gt8.false no_addr (rw c.no_addresses-out.ensures at u)).1

pub returns-in-Err : goal.returns-in-Err
unfolding no_addresses
returns-in-Err c =
    let u = c.in-Err.ensures.stored (λ (a : Addr). a) (λ a x k. search rules) in
    c.no_addresses.ensures ∙ addresses-none _ _ _ (fill_none (λ (a : Addr). a) _ _ 8 c.if-l-gt8.false no_addr (rw c.no_addresses-out.ensures at u))

-- An input in form: what reading a body gives (document 01, part 7). Counts fit, names are names, and all that is unused is zero.
use Rattle.std.specs.Prelude.{ℕ, Bool, true, false, not, [], ◌∷◌, map, nat_eq, nat_le, length, get_or}
use Rattle.numbers.specs.Names.{name_ok}
use Rattle.records.specs.Names.{name_bytes}
use Rattle.records.specs.Services.{offered, has_ech}
use Rattle.records.specs.declared.names.Name.{Name}
use Rattle.records.specs.declared.names.Ech.{Ech}
use Rattle.records.specs.declared.queries.Kind.{Kind}
use Rattle.records.specs.declared.queries.Kind.TheVariants.{Https, Aaaa, A}
use Rattle.records.specs.declared.services.Service.{Service}
use Rattle.records.specs.declared.services.Services.{Services}
use Rattle.standing.specs.Lists.{◌and◌, ◌or◌, all, every, every_at}
use Rattle.standing.specs.Standing.{fits, zero?, empty_hint, addresses_stand}
use Rattle.input.specs.declared.Input.{Input}
use Rattle.input.specs.declared.Input.TheVariants as input
use Rattle.after.specs.declared.TargetNames.{TargetNames}
use Rattle.after.specs.declared.TargetEchs.{TargetEchs}
use Rattle.machine.specs.declared.calls.Beside.{Beside}

-- a service's hints
unfoldable pub hints_sound : Service → Bool
hints_sound s = fits 4 zero? s.n4 s.v4 and fits 4 empty_hint s.n6 s.v6

-- the name of service i, of n: there exactly if the service is
unfoldable pub name_sound : ℕ → ℕ → Name → Bool
name_sound n i x = all (fits 253 zero? x.len x.bytes ∷ (nat_le n i or name_ok (name_bytes x)) ∷ (not (nat_le n i) or zero? x.len) ∷ [])

-- ECH bytes; none where there are none
unfoldable pub ech_sound : Bool → Ech → Bool
ech_sound there e = fits 512 zero? e.len e.bytes and (there or zero? e.len)

abbrev pub sealed : Service → Bool
sealed s = has_ech s.ech

-- at most four services, each with its name, and its ECH bytes where it has them
unfoldable pub services_sound : Services → TargetNames → TargetEchs → Bool
services_sound s n e =
    all (
    nat_le s.count 4 ∷ nat_eq (length s.list) 4 ∷ every hints_sound (offered s)
    ∷ nat_eq (length n.list) 4 ∷ every_at (name_sound s.count) 0 n.list
    ∷ nat_eq (length e.list) 4 ∷ every_at (λ i x. ech_sound (get_or (map sealed (offered s)) i false) x) 0 e.list ∷ []
    )

-- an answer of a type with n addresses
abbrev pub answer_sound : Kind → ℕ → Beside → Bool
answer_sound Https n b = zero? n and services_sound b.services b.names b.echs
answer_sound Aaaa n b = addresses_stand n Aaaa b.addresses
answer_sound A n b = addresses_stand n A b.addresses

abbrev pub sound : Input → Beside → Bool
sound (input.Fails k id stale) b = answer_sound k 0 b
sound (input.Holds k id stale n) b = answer_sound k n b
sound (input.Success id) b = true
sound (input.Failure id) b = true
sound (input.EchRetry id) b = ech_sound true b.retry

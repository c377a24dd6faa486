-- The services of the HTTPS answer that is held, and which of them are used. Rules 4.6 and 4.13; zeros: rule S.8.
use Rattle.std.specs.Prelude.{ℕ, Bool, true, false, cond, ◌&&◌, List, [], nat_lt, get_or, take, replicate}
use Rattle.records.specs.Lists.{some?, cell}
use Rattle.records.specs.declared.names.EchPlace.{EchPlace}
use Rattle.records.specs.declared.names.EchPlace.TheVariants.{Without, At}
use Rattle.records.specs.declared.rules.Port.TheVariants as port
use Rattle.records.specs.declared.rules.Versions.{Versions}
use Rattle.records.specs.declared.services.Hint.{Hint}
use Rattle.records.specs.declared.services.Service.{Service}
use Rattle.records.specs.declared.services.Services.{Services}

-- the zeros, and what a list of services reads past its end
abbrev pub no_hint : Hint
no_hint = record { hi = 0; lo = 0 }

abbrev pub no_versions : Versions
no_versions = record { h3 = false; h2 = false; h1 = false }

unfoldable pub no_service : Service
no_service = record { priority = 0; name = 0; ech = Without; versions = no_versions; port = port.Origin; n4 = 0; v4 = replicate 4 0; n6 = 0; v6 = replicate 4 no_hint }

abbrev pub blank_service : Service
blank_service = record { priority = 0; name = 0; ech = Without; versions = no_versions; port = port.Origin; n4 = 0; v4 = []; n6 = 0; v6 = [] }

unfoldable pub no_services : Services
no_services = record { count = 0; list = replicate 4 no_service }

-- the services that are held, a count above 4 cut at 4
abbrev pub offered : Services → List Service
offered s = take s.count s.list

abbrev pub has_ech : EchPlace → Bool
has_ech Without = false
has_ech (At p) = true

-- "if ECH is on and any has it"
unfoldable pub any_ech : Bool → Services → Bool
any_ech on s = on && some? (λ x. has_ech x.ech) (offered s)

-- then "skip those without"
abbrev pub is_usable : Bool → EchPlace → Bool
is_usable sealed e = cond sealed (has_ech e) true

-- a service's hints; the zero outside the tables
unfoldable pub hint_six : Services → ℕ → ℕ → Hint
hint_six s i p = cond (nat_lt i 4) (cell 4 no_hint no_hint (get_or s.list i blank_service).v6 p) no_hint

unfoldable pub hint_four : Services → ℕ → ℕ → ℕ
hint_four s i p = cond (nat_lt i 4) (cell 4 0 0 (get_or s.list i blank_service).v4 p) 0

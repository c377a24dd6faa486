-- Which places hold the same host, and which the same ECH bytes, by number: what decisions ask in place of the bytes.
use Rattle.std.specs.Prelude.{ℕ, Bool, true, ◌&&◌, nat_eq}
use Rattle.records.specs.Lists.{cell}
use Rattle.records.specs.Classes.{classes_from, same_names}
use Rattle.records.specs.Names.{same_bytes, host_at, ech_bytes_at}
use Rattle.records.specs.Endpoints.{same_head}
use Rattle.records.specs.declared.names.Names.{Names}
use Rattle.records.specs.declared.names.Echs.{Echs}
use Rattle.records.specs.declared.names.EchPlace.{EchPlace}
use Rattle.records.specs.declared.names.EchPlace.TheVariants.{Without, At}
use Rattle.records.specs.declared.endpoints.Target.{Target}
use Rattle.records.specs.declared.endpoints.Target.TheVariants.{V4, V6, Named}
use Rattle.records.specs.declared.endpoints.Endpoint.{Endpoint}
use Rattle.upcoming.specs.declared.alike.SameHosts.{SameHosts}
use Rattle.upcoming.specs.declared.alike.SameEchs.{SameEchs}
use Rattle.upcoming.specs.declared.alike.Alike.{Alike}

-- whether two places have the same host, and the same ECH bytes
unfoldable pub same_host_at : Names → ℕ → ℕ → Bool
same_host_at t p q = same_bytes (host_at t p) (host_at t q)

unfoldable pub same_ech_at : Echs → ℕ → ℕ → Bool
same_ech_at t p q = same_bytes (ech_bytes_at t p) (ech_bytes_at t q)

unfoldable pub same_hosts_of : Names → SameHosts
same_hosts_of t = record { list = classes_from 14 (same_host_at t) 0 14 }

unfoldable pub same_echs_of : Echs → SameEchs
same_echs_of t = record { list = classes_from 40 (same_ech_at t) 0 40 }

unfoldable pub alike_of : Names → Echs → Alike
alike_of n e = record { names = same_names n; hosts = same_hosts_of n; echs = same_echs_of e }

-- the class of a place, as a table says; outside it the last number
unfoldable pub host_class : SameHosts → ℕ → ℕ
host_class t p = cell 14 0 14 t.list p

unfoldable pub ech_class : SameEchs → ℕ → ℕ
ech_class t p = cell 40 0 40 t.list p

abbrev pub alike_hosts : SameHosts → Target → Target → Bool
alike_hosts t (Named p) (Named q) = nat_eq (host_class t p) (host_class t q)
alike_hosts t (Named p) (V4 b) = true
alike_hosts t (Named p) (V6 i m s) = true
alike_hosts t (V4 a) u = true
alike_hosts t (V6 h l s) u = true

abbrev pub alike_echs : SameEchs → EchPlace → EchPlace → Bool
alike_echs t (At p) (At q) = nat_eq (ech_class t p) (ech_class t q)
alike_echs t (At p) Without = true
alike_echs t Without e = true

-- two endpoints are one: by their numbers, then by what is alike. With `alike_of names echs` it is `same_endpoint names echs`.
unfoldable pub alike_endpoints : SameHosts → SameEchs → Endpoint → Endpoint → Bool
alike_endpoints hosts echs a b = same_head a b && (alike_hosts hosts a.target b.target && alike_echs echs a.ech b.ech)

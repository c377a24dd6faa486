-- A configuration in form: what reading its body gives (document 01, "Bodies"). Counts fit, names are names at their places, and all that is
-- unused is zero.
use Rattle.std.specs.Prelude.{ℕ, ◌-◌, Bool, cond, [], ◌∷◌, nat_eq, nat_le, length}
use Rattle.numbers.specs.Names.{name_ok}
use Rattle.records.specs.Lists.{cell}
use Rattle.records.specs.Names.{name_bytes, name_bytes_at}
use Rattle.records.specs.Rules.{is_named, no_alt}
use Rattle.records.specs.declared.names.Name.{Name}
use Rattle.records.specs.declared.names.Names.{Names}
use Rattle.records.specs.declared.rules.Alts.{Alts}
use Rattle.records.specs.declared.rules.Rules.{Rules}
use Rattle.standing.specs.Lists.{◌and◌, all, every_at}
use Rattle.standing.specs.Standing.{fits, zero?, empty_alt, own_name}

-- whether the configuration has a name for a place: the origin's is at 0, that of alternative service i at 1 + i
unfoldable pub has_name : Rules → Alts → ℕ → Bool
has_name r l p = cond (nat_eq p 0) (is_named r.host) (own_name (cell 4 no_alt no_alt l.list (p - 1)).host)

-- a name where there is one, and none elsewhere
unfoldable pub setting_sound : Rules → Alts → ℕ → Name → Bool
setting_sound r l p n = fits 253 zero? n.len n.bytes and cond (has_name r l p) (name_ok (name_bytes n)) (zero? n.len)

unfoldable pub configuration_sound : Rules → Alts → Names → Bool
configuration_sound r l n =
    all (
    fits 4 empty_alt l.count l.list ∷ nat_eq (length n.list) 14 ∷ every_at (setting_sound r l) 0 n.list
    ∷ nat_le (length (name_bytes_at n 0)) 239 ∷ []
    )

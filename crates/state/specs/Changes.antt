-- What an event changes.
use Rattle.std.specs.Prelude.{ℕ}
use Rattle.state.specs.declared.changes.Round.{Round}
use Rattle.state.specs.declared.changes.Round.TheVariants.{First, Second}

-- where the four names, and the four ECH configurations, of an HTTPS answer begin
abbrev pub first_name : Round → ℕ
first_name First = 5
first_name Second = 9

abbrev pub first_ech : Round → ℕ
first_ech First = 0
first_ech Second = 4

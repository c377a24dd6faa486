-- Fields that inputs and configuration share, rules B.6 and B.8 (document 01, "Numbers and bodies"): versions, and a port that may be left out.
use Rattle.std.specs.Prelude.{cond, ℕ, ◌-◌, ◌/◌, ◌%◌, List, nat_eq}
use Rattle.numbers.specs.Fields.{at_most}
use Rattle.numbers.specs.Numbers.{read_number}
use Rattle.numbers.specs.Refusals.{out_of_range}
use Rattle.records.specs.declared.rules.Port.{Port}
use Rattle.records.specs.declared.rules.Port.TheVariants as port
use Rattle.records.specs.declared.rules.Versions.{Versions}
use Rattle.parts.specs.Reading.{Reading, read, next, field}

-- bit 0 H3, bit 1 H2, bit 2 H1
unfoldable pub versions_of : ℕ → Versions
versions_of v = record { h3 = nat_eq (v % 2) 1; h2 = nat_eq (v / 2 % 2) 1; h1 = nat_eq (v / 4 % 2) 1 }

-- 0 to 7
unfoldable pub versions_at : List ℕ → (p : ℕ) → Reading Versions
versions_at s p = next (field p (at_most 7 out_of_range (read_number s p))) (λ v end. read (versions_of v) end)

-- 0 for none, else the port plus one
unfoldable pub port_of : ℕ → Port
port_of v = cond (nat_eq v 0) port.Origin (port.Own (v - 1))

unfoldable pub port_at : List ℕ → (p : ℕ) → Reading Port
port_at s p = next (field p (at_most 65536 out_of_range (read_number s p))) (λ v end. read (port_of v) end)

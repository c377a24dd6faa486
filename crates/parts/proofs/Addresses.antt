-- Addresses and hints in their rooms.
--     four-small                       an IPv4 address has 32 bits
--     addresses-none, addresses-all    the room of a row that can't be read, and of one that is filled
--     fours-none, fours-all, sixes-none, sixes-all   the same of hints
use mathlib.Core.Path.{◌≡◌, ap, ◌∙◌}
use mathlib.Core.List.{List, [], map, map-id}
use Prim.Native.Nat.{ℕ, ◌+◌, ◌<◌}
use native.Mathlib.Omega.{arith}
use lib.ListN.{length, get_or}
use Rattle.numbers.specs.Fields.{bytes_at}
use Rattle.records.specs.Lists.{padded}
use Rattle.records.specs.Queries.{no_addr, no_addresses}
use Rattle.records.specs.Services.{no_hint}
use Rattle.records.specs.declared.queries.Addr.{Addr}
use Rattle.records.specs.declared.services.Hint.{Hint}
use Rattle.parts.specs.Reading.{read, field}
use Rattle.parts.specs.Items.{listed}
use Rattle.parts.specs.Addresses.{word, four, address, addresses_in, low, halves, no_fours, no_sixes, fours_in, sixes_in}
use Rattle.parts.specs.declared.address.Form.{Form}
use Rattle.parts.specs.declared.address.Form.TheVariants.{Four, Six}
use Rattle.parts.specs.declared.address.Items.{Items}
use Rattle.parts.proofs.Steps.{then-read}

module _ (s : List ℕ) (bytes : (i : ℕ) → get_or s i 0 < 256) where
  pub word_small : (p : ℕ) → word s p < 4294967296
  unfolding word
  word_small p = omega (arith, bytes p, bytes (p + 1), bytes (p + 2), bytes (p + 3))

  pub four-small : (p : ℕ) {a : Addr} {end : ℕ} → read a end ≡ four s p → a.lo < 4294967296
  unfolding four
  four-small p {a} {end} e =
      let t = then-read (field p (bytes_at s 4 p)) (λ b end. read (record { hi = 0; lo = word s p; scope = 0 }) end) e in
      let x : a ≡ record { hi = 0; lo = word s p; scope = 0 } = let r = t.rest in cc in
      omega (arith, ap (λ a. a.lo) x, word_small p)

module _ (form : Form) (s : List ℕ) (l : Items) where
  pub addresses-none : listed 8 (address form s) l ≡ [] → no_addresses ≡ addresses_in form s l
  unfolding addresses_in no_addresses padded
  addresses-none e = rw e

  pub addresses-all : {out : List Addr} → out ≡ padded 8 no_addr (map (λ a. a) (listed 8 (address form s) l)) → record { list = out } ≡ addresses_in form s l
  unfolding addresses_in
  addresses-all {out} e = ap (λ x. record { list = x }) (e ∙ ap (padded 8 no_addr) (map-id (listed 8 (address form s) l)))

module _ (s : List ℕ) (l : Items) where
  pub fours-none : listed 4 (address Four s) l ≡ [] → no_fours ≡ fours_in s l
  unfolding fours_in padded
  fours-none e = rw e

  pub fours-all : {n : ℕ} {out : List ℕ} → (n ≡ length (listed 4 (address Four s) l)) × (out ≡ padded 4 0 (map low (listed 4 (address Four s) l))) → record { count = n; list = out } ≡ fours_in s l
  unfolding fours_in
  fours-all e = λ j. record { count = e.0 j; list = e.1 j }

  pub sixes-none : listed 4 (address Six s) l ≡ [] → no_sixes ≡ sixes_in s l
  unfolding sixes_in padded
  sixes-none e = rw e

  pub sixes-all : {n : ℕ} {out : List Hint} → (n ≡ length (listed 4 (address Six s) l)) × (out ≡ padded 4 no_hint (map halves (listed 4 (address Six s) l))) → record { count = n; list = out } ≡ sixes_in s l
  unfolding sixes_in
  sixes-all e = λ j. record { count = e.0 j; list = e.1 j }

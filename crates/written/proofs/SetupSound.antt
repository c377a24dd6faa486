-- A configuration that is read is in form, whatever the bytes, and the machine that is made of it stands.
--     fields-sound     in any edition
--     setup-sound      in this one
--     setup-stands     the machine that a tape makes
use mathlib.Core.Path.{◌≡◌, refl, sym, ap, subst, ◌∙◌}
use mathlib.Core.Bool.{Bool, true, false, cond}
use mathlib.Core.List.{List, [], map}
use Prim.Native.Nat.{ℕ, suc, ◌-◌, ◌≤◌}
use native.Mathlib.Omega.{arith}
use lib.Dec.{ltb as nat_lt}
use lib.ListN.{length, get_or, length-map, get_or-map, get_or-eq_default}
use borrow.Author.Tests.{le-leb, eq-eqb, ne_eqb, ltb-false}
use Rattle.numbers.specs.Names.{name_ok, longest_name, longest_origin}
use Rattle.records.specs.Lists.{padded, cell}
use Rattle.records.specs.Names.{no_name, name_bytes, name_at}
use Rattle.records.specs.Rules.{no_alt, is_named}
use Rattle.records.specs.declared.names.Name.{Name}
use Rattle.records.specs.declared.rules.Alt.{Alt}
use Rattle.records.proofs.Rooms.{padded-at}
use Rattle.state.specs.State.{made}
use Rattle.standing.specs.Lists.{◌and◌, all, every_at}
use Rattle.standing.specs.Making.{has_name, setting_sound, configuration_sound}
use Rattle.standing.specs.Standing.{fits, zero?, empty_alt, own_name, standing}
use Rattle.standing.proofs.Making.{made-stands}
use Rattle.parts.specs.Reading.{read}
use Rattle.parts.specs.Items.{listed}
use Rattle.parts.specs.Rooms.{kept, name_in}
use Rattle.parts.proofs.Items.{listed-few}
use Rattle.parts.proofs.Copying.{kept-few, name_back}
use Rattle.configuration.specs.Configuration.{alt, host_in, fields_at, none_added, setup_at}
use Rattle.configuration.specs.Filling.{alt_host, alt_of, host_name, alt_name, configured_by, configured_in}
use Rattle.configuration.specs.declared.HostSpan.{HostSpan}
use Rattle.configuration.specs.declared.HostSpan.TheVariants.{Absent, Named, V4, V6}
use Rattle.configuration.specs.declared.AltSpan.{AltSpan}
use Rattle.configuration.specs.declared.Setup.{Setup}
use Rattle.configuration.proofs.Editions.{edition-read}
use Rattle.written.proofs.Tests.{both_hold, all_none, all_more, padded-length, padded-fits, at-shift, at-pairs, map-twice}
use Rattle.written.proofs.SetupHeard.{OriginHeard, AltHeard, SetupHeard, fields-heard}

-- a name where there is one, and none elsewhere
abbrev name_if : Bool → Name → Bool
name_if t x = fits 253 zero? x.len x.bytes and cond t (name_ok (name_bytes x)) (zero? x.len)

name-there : (bs : List ℕ) → length bs ≤ longest_name → name_ok bs ≡ true → name_if true (name_in bs) ≡ true
unfolding name_in
name-there bs h ok = both_hold _ _ (padded-fits 253 0 zero? bs (length bs) refl h refl) (ap name_ok (name_back bs) ∙ ok)

name-none : name_if false no_name ≡ true
unfolding no_name padded
name-none = both_hold _ _ (padded-fits 253 0 zero? [] 0 refl (omega arith) refl) refl

abbrev own? : Alt → Bool
own? a = own_name a.host

-- an alternative service of the table, by the list that it is made of
cell_at : (l : List Alt) (i : ℕ) → length l ≤ 4 → cell 4 no_alt no_alt (padded 4 no_alt l) i ≡ get_or l i no_alt
cell_at l i h = go (nat_lt i 4) refl
  where
    go : (t : Bool) → nat_lt i 4 ≡ t → cond t (get_or (padded 4 no_alt l) i no_alt) no_alt ≡ get_or l i no_alt
    go true e = padded-at no_alt 4 l i
    go false e = sym (get_or-eq_default l no_alt (omega (arith, h, ltb-false i 4 e)))

module _ (s : List ℕ) where
  abbrev mark : AltSpan → Bool
  mark a = own_name (alt_host a.host)

  alt-there : (h : HostSpan) → AltHeard s h → name_if (own_name (alt_host h)) (host_name s h) ≡ true
  alt-there Absent k = name-none
  alt-there (Named b) k = name-there (kept longest_name s b) (kept-few s longest_name b) k
  alt-there (V4 x) k = name-none
  alt-there (V6 x y) k = name-none

  alt-name-there : (a : AltSpan) → AltHeard s a.host → name_if (mark a) (alt_name s a) ≡ true
  unfolding alt_name
  alt-name-there a k = alt-there a.host k

  origin-there : (h : HostSpan) → OriginHeard s h → name_if (is_named (host_in h)) (host_name s h) ≡ true
  origin-there Absent k = absurd k
  origin-there (Named b) k = name-there (kept longest_name s b) (kept-few s longest_name b) k.0
  origin-there (V4 x) k = name-none
  origin-there (V6 x y) k = name-none

  no_bytes : length (name_bytes no_name) ≤ longest_origin
  unfolding name_bytes no_name
  no_bytes = omega arith

  origin-short : (h : HostSpan) → OriginHeard s h → length (name_bytes (host_name s h)) ≤ longest_origin
  origin-short Absent k = absurd k
  origin-short (Named b) k = subst (λ bs. length bs ≤ longest_origin) (sym (name_back (kept longest_name s b))) k.1
  origin-short (V4 x) k = no_bytes
  origin-short (V6 x y) k = no_bytes

  marks : (l : List AltSpan) (i : ℕ) → length l ≤ 4 → own? (cell 4 no_alt no_alt (padded 4 no_alt (map alt_of l)) i) ≡ get_or (map mark l) i false
  unfolding alt_of
  marks l i h =
      ap own? (cell_at (map alt_of l) i (omega (arith, h, length-map l alt_of))) ∙ sym (get_or-map own? (map alt_of l) i no_alt) ∙ ap (λ (bs : List Bool). get_or bs i false) (map-twice own? alt_of l)

  module _ (c : Setup) (k : SetupHeard s c) where
    abbrev alts : List AltSpan
    alts = listed 4 (alt s) c.alts

    few : length alts ≤ 4
    few = listed-few 4 (alt s) c.alts

    abbrev names : List Name
    names = padded 13 no_name (map (alt_name s) alts)

    has : (i : ℕ) → has_name c.rules (configured_in s c).alts (suc i) ≡ get_or (map mark alts) i false
    unfolding has_name configured_in configured_by
    has i = let e : suc i - 1 ≡ i = omega arith in rw (ne_eqb (suc i) 0 (λ z. omega arith), e) (marks alts i few)

    names-sound : every_at (setting_sound c.rules (configured_in s c).alts) 1 names ≡ true
    unfolding setting_sound padded
    names-sound =
        sym (at-shift (setting_sound c.rules (configured_in s c).alts) 0 names)
        ∙ (λ j. every_at (λ i x. name_if (has i j) x) 0 names)
        ∙ at-pairs (alt_name s) (λ a. AltHeard s a.host) name_if mark alt-name-there no_name name-none (13 - length (map (alt_name s) alts)) alts k.alts

    origin-sound : setting_sound c.rules (configured_in s c).alts 0 (host_name s c.origin) ≡ true
    unfolding setting_sound has_name
    origin-sound = subst (λ h. name_if (is_named h) (host_name s c.origin) ≡ true) (sym k.host) (origin-there c.origin k.origin)

    alt-empty : empty_alt no_alt ≡ true
    unfolding all ◌and◌
    alt-empty = refl

    heard-sound : configuration_sound c.rules (configured_in s c).alts (configured_in s c).names ≡ true
    unfolding configuration_sound configured_in configured_by every_at name_at
    heard-sound =
        all_more _ _ (padded-fits 4 no_alt empty_alt (map alt_of alts) (length alts) (length-map alts alt_of) few alt-empty)
        (all_more _ _ (eq-eqb _ 14 (ap suc (padded-length 13 no_name (map (alt_name s) alts) (omega (arith, few, length-map alts (alt_name s))))))
        (all_more _ _ (both_hold _ _ origin-sound names-sound)
        (all_more _ _ (le-leb _ longest_origin (origin-short c.origin k.origin)) all_none)))

  pub fields-sound : (c : Setup) (end : ℕ) → read c end ≡ fields_at s → configuration_sound c.rules (configured_in s c).alts (configured_in s c).names ≡ true
  fields-sound c end e = heard-sound c (fields-heard s c end e)

  pub setup-sound : (c : Setup) (end : ℕ) → read c end ≡ setup_at s → configuration_sound c.rules (configured_in s c).alts (configured_in s c).names ≡ true
  unfolding setup_at
  setup-sound c end e = let a = edition-read none_added s e in fields-sound c end (a.own ∙ a.shared)

  pub setup-stands : (c : Setup) (end : ℕ) → read c end ≡ setup_at s → standing (made c.rules c.timing (configured_in s c).alts (configured_in s c).names) ≡ true
  setup-stands c end e = made-stands c.rules c.timing (configured_in s c).alts (configured_in s c).names (setup-sound c end e)

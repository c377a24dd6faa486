-- A configuration that is written is read back.
--     host-back, alt-back, front-back, back-back     a host, an alternative service, what comes before these and after them
--     fields_back             the fields that every edition has: rules, timing, alternative services and names are those that were given
--     edition-back            a body of any edition
--     given_back              this edition's
use mathlib.Core.Path.{◌≡◌, refl, sym, ap, subst, ◌∙◌}
use mathlib.Core.Bool.{Bool, true, false, cond}
use mathlib.Core.List.{List, [], ◌∷◌, ◌++◌}
use Prim.Native.Nat.{ℕ, ◌+◌, ◌%◌, ◌^◌, ◌≤◌, ◌<◌}
use native.Mathlib.Omega.{arith}
use native.Mathlib.Nat.{mod-eq_of_lt}
use lib.Dec.{eqb as nat_eq}
use lib.ListN.{length, length-append}
use Rattle.numbers.specs.Got.{got, refused}
use Rattle.numbers.specs.Fields.{at_most, span_bytes, named as name_here, name_at}
use Rattle.numbers.specs.Names.{name_ok, longest_name, longest_origin, every, undotted, labels, label_ok, labels_ok}
use Rattle.numbers.specs.Numbers.{read_number, number_bytes}
use Rattle.numbers.specs.Refusals.{out_of_range, too_many, bad_name}
use Rattle.numbers.specs.declared.field.Span.{Span}
use Rattle.numbers.proofs.Steps as numbers
use Rattle.parts.specs.Reading.{Reading, read, next, field}
use Rattle.parts.specs.Fields.{versions_of, versions_at, port_of, port_at}
use Rattle.parts.specs.Items.{listed}
use Rattle.parts.specs.Rooms.{kept, name_in}
use Rattle.parts.specs.declared.address.Items.{Items}
use Rattle.parts.proofs.Steps.{went_on, on-field}
use Rattle.parts.specs.Written.{word_bytes, named_bytes, four_addr, row_bytes}
use Rattle.parts.proofs.Back.{There, there-left, there-right, number-back, most-back, limited-back, bytes_back, span-back, Back, there-all, Each, each-length, each_map, counted_back}
use Rattle.parts.proofs.AddressBack.{four-back, six-back}
use Rattle.parts.proofs.FieldBack.{kept_back}
use Rattle.configuration.specs.Configuration.{host_by, origin_at, alt_host_at, version_of, alt, preference_of, choices, front, pace, mode_of, flagged, back, host_in, set_up, rest_at, fields_at, edition_at, none_added, setup_at}
use Rattle.configuration.specs.Filling.{alt_host, alt_of, host_name, alt_name, configured_by, configured_in}
use Rattle.configuration.specs.Given.{GivenHost, named, four, six, absent, GivenAlt, Given, host_number, host_rest, host_bytes, alt_bytes, front_bytes, back_bytes, given_bytes, FitsHost, FitsAlt, Fits, given_host, given_alt_host, given_name, given_alt, alt_given_name, given_rules, given_timing, given_configured}
use Rattle.configuration.specs.declared.HostSpan.{HostSpan}
use Rattle.configuration.specs.declared.HostSpan.TheVariants as span
use Rattle.configuration.specs.declared.AltSpan.{AltSpan}
use Rattle.configuration.specs.declared.Front.{Front}
use Rattle.configuration.specs.declared.Back as cback
use Rattle.configuration.specs.declared.Setup.{Setup}
use Rattle.configuration.proofs.Branches.{is-four, is-six, is_none, by_name, by-literal, some-multiplier}
use Rattle.configuration.proofs.Editions.{ends}

-- what is read of a host
abbrev pub HostRight : List ℕ → GivenHost → HostSpan → Type 0
HostRight s (named bs) h = (b : Span) × (h ≡ span.Named b) × (kept longest_name s b ≡ bs)
HostRight s (four x) h = h ≡ span.V4 x
HostRight s (six x y) h = h ≡ span.V6 x y
HostRight s absent h = h ≡ span.Absent

empty-bad : name_ok [] ≡ false
unfolding name_ok undotted labels labels_ok label_ok every
empty-bad = refl

not-empty : (bs : List ℕ) → name_ok bs ≡ true → length bs ≡ 0 → ⊥
not-empty [] e z = let c = sym e ∙ empty-bad in let y : ◌≡◌ {A = ℕ} 0 1 = ap (λ (t : Bool). cond t 0 1) c in omega arith
not-empty (b ∷ bs) e z = omega arith

-- a name, within any limit up to a name's room
module _ (s : List ℕ) (limit p : ℕ) (low : limit ≤ longest_name) (bs : List ℕ) (ok : name_ok bs ≡ true) (short : length bs ≤ limit) (t : There s p (named_bytes bs)) where
  pub name_back : Back (field p (name_at s limit p)) (p + length (named_bytes bs)) (λ b. kept longest_name s b ≡ bs)
  unfolding name_at named_bytes name_here
  name_back =
      let n = number_bytes (length bs) in
      let q = p + length n in
      let w = there-right s p n bs t in
      let e : q + length bs ≡ p + length (n ++ bs) = omega (arith, length-append n bs) in
      let b : Span = record { start = q; len = length bs } in
      let x = numbers.some-length (read_number s p) limit (length bs) q (most-back s p limit too_many (length bs) short (omega arith) (there-left s p n bs t)) (not-empty bs ok) in
      let y : got b (q + length bs) ≡ name_here s (length bs) q = simp (ap name_ok (span-back s q bs w) ∙ ok) at (numbers.went_on (λ b q. cond (name_ok (span_bytes s b)) (got b q) (refused bad_name)) b (q + length bs) (bytes_back s q bs w)) in
      record {
        value = b;
        reads = ap (read b) (sym e) ∙ on-field p (y ∙ numbers.went_on (name_here s) (length bs) q x);
        right = kept_back s longest_name q bs (omega arith) w;
      }

module _ (s : List ℕ) (limit p : ℕ) (low : limit ≤ longest_name) where
  rest_back : (g : GivenHost) → FitsHost limit g → There s p (host_rest g) → Back (host_by s limit (host_number g) p) (p + length (host_rest g)) (HostRight s g)
  rest_back (named bs) ok t =
      let b = name_back s limit p low bs ok.0 ok.1 t in
      record { value = span.Named b.value; reads = went_on (λ b end. read (span.Named b) end) b.value _ b.reads ∙ by_name s 0 p limit refl refl; right = (b.value, refl, b.right) }
  rest_back (four x) ok t =
      let e : x % 4294967296 ≡ x = mod-eq_of_lt ok in
      record {
        value = span.V4 x;
        reads = ap (λ y. read (span.V4 y) (p + length (word_bytes x))) (sym e) ∙ went_on (λ a end. read (span.V4 (a.lo % 4294967296)) end) (four_addr x) _ (four-back s p x ok t)
            ∙ is-four s 1 p refl ∙ by-literal s 1 p limit (λ z. omega arith);
        right = refl;
      }
  rest_back (six x y) ok t =
      record {
        value = span.V6 x y;
        reads = went_on (λ a end. read (span.V6 a.hi a.lo) end) (record { hi = x; lo = y; scope = 0 }) _ (six-back s p (record { hi = x; lo = y }) (record { hi = ok.0; lo = ok.1 }) t)
            ∙ is-six s 2 p (λ z. omega arith) refl ∙ by-literal s 2 p limit (λ z. omega arith);
        right = refl;
      }
  rest_back absent ok t =
      let e : p + 0 ≡ p = omega arith in
      record { value = span.Absent; reads = ap (read span.Absent) e ∙ is_none s 3 p (λ z. omega arith) (λ z. omega arith) ∙ by-literal s 3 p limit (λ z. omega arith); right = refl }

pub host-back : (s : List ℕ) (limit most p : ℕ) (g : GivenHost) → limit ≤ longest_name → FitsHost limit g → host_number g ≤ most → most < 2 ^ 64 → There s p (host_bytes g)
    → Back (next (field p (at_most most out_of_range (read_number s p))) (host_by s limit)) (p + length (host_bytes g)) (HostRight s g)
unfolding host_bytes
host-back s limit most p g low ok h m t =
    let n = number_bytes (host_number g) in
    let q = p + length n in
    let b = rest_back s limit q low g ok (there-right s p n (host_rest g) t) in
    let e : q + length (host_rest g) ≡ p + length (n ++ host_rest g) = omega (arith, length-append n (host_rest g)) in
    record {
      value = b.value;
      reads = ap (read b.value) (sym e) ∙ b.reads ∙ went_on (host_by s limit) (host_number g) q (limited-back s p most out_of_range (host_number g) h m (there-left s p n (host_rest g) t));
      right = b.right;
    }

-- an alternative service

pub record AltRight (s : List ℕ) (v : AltSpan) (a : GivenAlt) : Type 0 where
  pub host : HostRight s a.host v.host
  pub port : v.port ≡ port_of a.port
  pub version : v.version ≡ version_of a.version

host-few : (g : GivenHost) → host_number g ≤ 3
host-few (named bs) = omega arith
host-few (four x) = omega arith
host-few (six x y) = omega arith
host-few absent = omega arith

alt-back : (s : List ℕ) (p : ℕ) (a : GivenAlt) → FitsAlt a → There s p (alt_bytes a) → Back (alt s p) (p + length (alt_bytes a)) (λ v. AltRight s v a)
unfolding alt alt_host_at alt_bytes port_at
alt-back s p a ok t =
    let hb = host_bytes a.host in
    let n = number_bytes a.port in
    let m = number_bytes a.version in
    let h = host-back s longest_name 3 p a.host (omega arith) ok.host (host-few a.host) (omega arith) (there-left s p hb (n ++ m) t) in
    let p1 = p + length hb in
    let t1 = there-right s p hb (n ++ m) t in
    let p2 = p1 + length n in
    let t2 = there-right s p1 n m t1 in
    let e : p2 + length m ≡ p + length (hb ++ (n ++ m)) = omega (arith, length-append hb (n ++ m), length-append n m) in
    let v : AltSpan = record { host = h.value; port = port_of a.port; version = version_of a.version } in
    record {
      value = v;
      reads = ap (read v) (sym e) ∙ went_on _ _ _ (limited-back s p2 2 out_of_range a.version ok.version (omega arith) t2)
          ∙ went_on _ _ _ (went_on (λ v end. read (port_of v) end) _ _ (limited-back s p1 65536 out_of_range a.port ok.port (omega arith) (there-left s p1 n m t1)))
          ∙ went_on _ _ _ h.reads;
      right = record { host = h.right; port = refl; version = refl };
    }

-- what comes before the alternative services

pub record FrontRight (s : List ℕ) (c : Given) (f : Front) : Type 0 where
  pub port : f.port ≡ c.port
  pub host : HostRight s c.host f.host
  pub versions : f.versions ≡ versions_of c.versions
  pub preference : f.preference ≡ preference_of c.preference

front-back : (s : List ℕ) (c : Given) → Fits c → There s 0 (front_bytes c) → Back (front s) (0 + length (front_bytes c)) (FrontRight s c)
unfolding front choices origin_at front_bytes versions_at
front-back s c ok t =
    let n = number_bytes c.port in
    let hb = host_bytes c.host in
    let v = number_bytes c.versions in
    let w = number_bytes c.preference in
    let p1 = 0 + length n in
    let t1 = there-right s 0 n (hb ++ (v ++ w)) t in
    let h = host-back s longest_origin 2 p1 c.host (omega arith) ok.host ok.there (omega arith) (there-left s p1 hb (v ++ w) t1) in
    let p2 = p1 + length hb in
    let t2 = there-right s p1 hb (v ++ w) t1 in
    let p3 = p2 + length v in
    let t3 = there-right s p2 v w t2 in
    let e : p3 + length w ≡ 0 + length (n ++ (hb ++ (v ++ w))) = omega (arith, length-append n (hb ++ (v ++ w)), length-append hb (v ++ w), length-append v w) in
    let x : Front = record { port = c.port; host = h.value; versions = versions_of c.versions; preference = preference_of c.preference } in
    record {
      value = x;
      reads = ap (read x) (sym e) ∙ went_on _ _ _ (limited-back s p3 3 out_of_range c.preference ok.preference (omega arith) t3)
          ∙ went_on _ _ _ (went_on (λ v end. read (versions_of v) end) _ _ (limited-back s p2 7 out_of_range c.versions ok.versions (omega arith) (there-left s p2 v w t2)))
          ∙ went_on _ _ _ h.reads
          ∙ went_on _ _ _ (limited-back s 0 65535 out_of_range c.port (let l = ok.port in omega arith) (omega arith) (there-left s 0 n (hb ++ (v ++ w)) t));
      right = record { port = refl; host = h.right; versions = refl; preference = refl };
    }

-- and after them

pub given_back_of : Given → cback.Back
given_back_of c = record { timing = given_timing c; ech = nat_eq (c.flags % 2) 1; mode = mode_of c.mode }

back-back : (s : List ℕ) (p : ℕ) (c : Given) → Fits c → There s p (back_bytes c) → read (given_back_of c) (p + length (back_bytes c)) ≡ back s p
unfolding back pace flagged back_bytes given_back_of given_timing
back-back s p c ok t =
    let a = number_bytes c.resolution in
    let b = number_bytes c.delay in
    let m = number_bytes c.multiplier in
    let f = number_bytes c.flags in
    let o = number_bytes c.mode in
    let p1 = p + length a in
    let t1 = there-right s p a (b ++ (m ++ (f ++ o))) t in
    let p2 = p1 + length b in
    let t2 = there-right s p1 b (m ++ (f ++ o)) t1 in
    let p3 = p2 + length m in
    let t3 = there-right s p2 m (f ++ o) t2 in
    let p4 = p3 + length f in
    let t4 = there-right s p3 f o t3 in
    let e : p4 + length o ≡ p + length (a ++ (b ++ (m ++ (f ++ o)))) = omega (arith, length-append a (b ++ (m ++ (f ++ o))), length-append b (m ++ (f ++ o)), length-append m (f ++ o), length-append f o) in
    let few : c.multiplier ≤ 4294967295 = let l = ok.multiplier in omega arith in
    let some : c.multiplier ≡ 0 → ⊥ = λ z. let l = ok.some in omega arith in
    ap (read (given_back_of c)) (sym e)
    ∙ went_on _ _ _ (limited-back s p4 2 out_of_range c.mode ok.mode (omega arith) t4)
    ∙ went_on _ _ _ (limited-back s p3 3 out_of_range c.flags ok.flags (omega arith) (there-left s p3 f o t3))
    ∙ went_on _ _ _ (went_on _ _ _ (some-multiplier s p2 c.multiplier p3 (most-back s p2 4294967295 out_of_range c.multiplier few (omega arith) (there-left s p2 m (f ++ o) t2)) some)
    ∙ went_on _ _ _ (on-field p1 (number-back s p1 c.delay ok.delay (there-left s p1 b (m ++ (f ++ o)) t1)))
    ∙ went_on _ _ _ (on-field p (number-back s p c.resolution ok.resolution (there-left s p a (b ++ (m ++ (f ++ o))) t))))

-- the whole

host-in : (s : List ℕ) (g : GivenHost) (h : HostSpan) → HostRight s g h → host_in h ≡ given_host g
host-in s (named bs) h r = ap host_in r.1
host-in s (four x) h r = ap host_in r
host-in s (six x y) h r = ap host_in r
host-in s absent h r = ap host_in r

alt-host : (s : List ℕ) (g : GivenHost) (h : HostSpan) → HostRight s g h → alt_host h ≡ given_alt_host g
alt-host s (named bs) h r = ap alt_host r.1
alt-host s (four x) h r = ap alt_host r
alt-host s (six x y) h r = ap alt_host r
alt-host s absent h r = ap alt_host r

host-name : (s : List ℕ) (g : GivenHost) (h : HostSpan) → HostRight s g h → host_name s h ≡ given_name g
host-name s (named bs) h r = ap (host_name s) r.1 ∙ ap name_in r.2
host-name s (four x) h r = ap (host_name s) r
host-name s (six x y) h r = ap (host_name s) r
host-name s absent h r = ap (host_name s) r

alt-same : (s : List ℕ) (v : AltSpan) (a : GivenAlt) → AltRight s v a → alt_of v ≡ given_alt a
unfolding alt_of
alt-same s v a r = rw (alt-host s a.host v.host r.host, r.port, r.version) refl

name-same : (s : List ℕ) (v : AltSpan) (a : GivenAlt) → AltRight s v a → alt_name s v ≡ alt_given_name a
unfolding alt_name
name-same s v a r = host-name s a.host v.host r.host

-- what is read of the fields that every edition has
pub record SetupRight (s : List ℕ) (c : Given) (x : Setup) : Type 0 where
  pub rules : x.rules ≡ given_rules c
  pub timing : x.timing ≡ given_timing c
  pub rooms : configured_in s x ≡ given_configured c

set-up-right : (s : List ℕ) (c : Given) (f : Front) (l : Items) → FrontRight s c f → Each (AltRight s) (listed 4 (alt s) l) c.alts → SetupRight s c (set_up f l (given_back_of c))
unfolding set_up given_back_of given_rules configured_in configured_by given_configured
set-up-right s c f l r e =
    let t = listed 4 (alt s) l in
    record {
      rules = rw (host-in s c.host f.host r.host, r.port, r.versions, r.preference) refl;
      timing = refl;
      rooms = rw (
        host-name s c.host f.host r.host,
        each-length (AltRight s) t c.alts e,
        each_map (AltRight s) alt_of given_alt (alt-same s) t c.alts e,
        each_map (AltRight s) (alt_name s) alt_given_name (name-same s) t c.alts e,
      ) refl;
    }

-- whatever follows them
pub fields_back : (s : List ℕ) (c : Given) → Fits c → There s 0 (given_bytes c) → Back (fields_at s) (length (given_bytes c)) (SetupRight s c)
unfolding fields_at rest_at given_bytes
fields_back s c ok t =
    let a = front_bytes c in
    let b = row_bytes alt_bytes c.alts in
    let d = back_bytes c in
    let f = front-back s c ok (there-left s 0 a (b ++ d) t) in
    let p1 = 0 + length a in
    let t1 = there-right s 0 a (b ++ d) t in
    let l = counted_back (AltRight s) (alt s) s alt_bytes FitsAlt (alt-back s) 4 c.alts p1 ok.few (omega arith) ok.alts (there-left s p1 b d t1) in
    let p2 = p1 + length b in
    let t2 = there-right s p1 b d t1 in
    let e : p2 + length d ≡ length (a ++ (b ++ d)) = omega (arith, length-append a (b ++ d), length-append b d) in
    let x = set_up f.value l.value (given_back_of c) in
    record {
      value = x;
      reads = ap (read x) (sym e) ∙ went_on (λ b end. read (set_up f.value l.value b) end) _ _ (back-back s p2 c ok t2) ∙ went_on _ _ _ l.reads ∙ went_on _ _ _ f.reads;
      right = set-up-right s c f.value l.value f.right l.right.1;
    }

-- Any edition: if the fields that it adds are read back where they stand, the body is, and what it has beside them is as given
pub edition-back : {A : Type 0} (added : List ℕ → Setup → ℕ → Reading A) (Right : Setup → A → Type 0) (s : List ℕ) (c : Given) → Fits c → There s 0 (given_bytes c)
    → ((x : Setup) → SetupRight s c x → Back (added s x (length (given_bytes c))) (length s) (Right x)) → Back (edition_at added s) (length s) (λ v. (x : Setup) × SetupRight s c x × Right x v)
edition-back added Right s c ok t own =
    let b = fields_back s c ok t in
    let o = own b.value b.right in
    record { value = o.value; reads = ends added s b.reads o.reads (omega arith); right = (b.value, b.right, o.right) }

-- what a configuration that is written is read as
pub record Held (c : Given) (s : List ℕ) : Type 0 where
  pub setup : Setup
  pub reads : read setup (length s) ≡ setup_at s
  pub right : SetupRight s c setup

-- this edition
pub given_back : (c : Given) → Fits c → Held c (given_bytes c)
unfolding setup_at
given_back c ok =
    let s = given_bytes c in
    let b = edition-back none_added (λ x v. x ≡ v) s c ok (there-all s) (λ x r. record { value = x; reads = refl; right = refl }) in
    let r = b.right in
    record { setup = b.value; reads = b.reads; right = subst (SetupRight s c) r.2 r.1 }

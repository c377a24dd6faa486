-- Bytes behind those of a name, as far as there is room.
--     put_on      the same of a room and the place after what stands in it; nothing cites it now, and docs/PORT.md names it
use Prim.Native.Nat.{ℕ, zero, suc, ◌+◌, ◌-◌, ◌≤◌, ◌<◌, min}
use mathlib.Core.Path.{◌≡◌, refl, sym, ap, ◌∙◌}
use mathlib.Core.List.{List, [], ◌∷◌, ◌++◌, append_assoc, append-nil}
use native.Mathlib.Omega.{arith}
use lib.ListN.{length, take, drop, length-append, length-take, replicate}
use borrow.Rule.Slice.PartMut.{put_mid}
use Rattle.std.proofs.Math.Seq.{take-append-add}
use Rattle.std.proofs.lemmas.List.{drop_at, drop-replicate}
use Rattle.records.specs.Lists.{padded}
use Rattle.records.specs.Names.{no_name, name_bytes}
use Rattle.records.specs.declared.names.Name.{Name}
use Rattle.state.specs.Https.{decimal, digits_in, name_in}
use Rattle.state.specs.declared.https.Digits.{Digits}
use Rattle.records.proofs.Rooms.{padded-take}
use Rattle.records.proofs.Bytes.{cut_take}

-- a name holds what was put, cut at the room
held : (zs : List ℕ) → name_bytes (name_in zs) ≡ take 253 zs
unfolding name_bytes name_in
held zs = padded-take 0 253 (take 253 zs)

-- cutting twice is cutting once
take-front : (n : ℕ) (a b : List ℕ) → take n (take n a ++ b) ≡ take n (a ++ b)
take-front zero a b = refl
take-front (suc n) [] b = refl
take-front (suc n) (x ∷ a) b = ap (λ l. x ∷ l) (take-front n a b)

-- p bytes stand in the room of a name: bs, cut at the room
abbrev pub Stands : List ℕ → ℕ → List ℕ → Type 0
Stands bs p out = (p ≡ length (take 253 bs)) × (out ≡ padded 253 0 (take 253 bs))

-- one more put behind what stands
pub put_on : (zs bs out out' : List ℕ) (p q : ℕ) → Stands zs p out → Stands (take p out ++ bs) q out' → Stands (zs ++ bs) q out'
put_on zs bs out out' p q h k =
    let e : take p out ≡ take 253 zs = ap (λ n. take n out) h.0 ∙ (ap (take (length (take 253 zs))) h.1 ∙ padded-take 0 253 (take 253 zs)) in
    let f : take 253 (take p out ++ bs) ≡ take 253 (zs ++ bs) = ap (λ l. take 253 (l ++ bs)) e ∙ take-front 253 zs bs in
    (k.0 ∙ ap length f, k.1 ∙ ap (padded 253 0) f)

in_on : (zs bs : List ℕ) → name_in (name_bytes (name_in zs) ++ bs) ≡ name_in (zs ++ bs)
unfolding name_in
in_on zs bs =
    let e : take 253 (name_bytes (name_in zs) ++ bs) ≡ take 253 (zs ++ bs) = ap (λ l. take 253 (l ++ bs)) (held zs) ∙ take-front 253 zs bs in
    λ j. record { len = length (e j); bytes = padded 253 0 (e j) }

none_in : no_name ≡ name_in []
unfolding no_name name_in padded
none_in = refl

-- what a name holds after one more put
pub begun : (x y : Name) (bs : List ℕ) → x ≡ no_name → y ≡ name_in (name_bytes x ++ bs) → y ≡ name_in bs
begun x y bs e h = h ∙ (ap (λ n. name_in (name_bytes n ++ bs)) (e ∙ none_in) ∙ in_on [] bs)

pub put_next : (x y : Name) (zs bs : List ℕ) → x ≡ name_in zs → y ≡ name_in (name_bytes x ++ bs) → y ≡ name_in (zs ++ bs)
put_next x y zs bs e h = h ∙ (ap (λ n. name_in (name_bytes n ++ bs)) e ∙ in_on zs bs)

-- what was put may be put on
pub again : (x : Name) (zs : List ℕ) → x ≡ name_in zs → x ≡ name_in (name_bytes x)
again x zs e =
    let w : name_in (name_bytes (name_in zs)) ≡ name_in zs = ap name_in (sym (append-nil (name_bytes (name_in zs)))) ∙ (in_on zs [] ∙ ap name_in (append-nil zs)) in
    e ∙ (sym w ∙ ap (λ n. name_in (name_bytes n)) (sym e))

pub again_none : (x : Name) → x ≡ no_name → x ≡ name_in (name_bytes x)
again_none x e = again x [] (e ∙ none_in)

pub fits : (x : Name) → x ≡ name_in (name_bytes x) → x.len ≤ 253
unfolding name_in
fits x e = omega (arith, ap (λ y. y.len) e, length-take 253 (name_bytes x))

-- the digits of a port, read back from their room
pub digits_front : (d : Digits) (port : ℕ) → d ≡ digits_in (decimal 5 port) → take d.count d.list ≡ decimal 5 port
unfolding digits_in
digits_front d port e = ap (λ x. take x.count x.list) e ∙ padded-take 0 5 (decimal 5 port)

-- of what is put, as much as there is room for
pub put_in : (x : Name) (bs : List ℕ) (n end k : ℕ) (ys : List ℕ) → x ≡ name_in (name_bytes x) → n ≡ min (length bs) (253 - x.len) → end ≡ x.len + n → k ≡ n → ys ≡ take n bs → record { len = end; bytes = put_mid x.len k x.bytes ys } ≡ name_in (name_bytes x ++ bs)
unfolding name_in name_bytes padded
put_in x bs n end k ys h m e l y = λ j. record { len = long j; bytes = whole j }
  where
    zs : List ℕ
    zs = name_bytes x

    short : zs ≡ take 253 zs
    short = ap name_bytes h ∙ held zs

    size : x.len ≡ length zs
    size = ap (λ y. y.len) h ∙ ap length (sym short)

    room : length zs ≤ 253
    room = omega (arith, ap length short, length-take 253 zs)

    bytes : x.bytes ≡ zs ++ replicate (253 - length zs) 0
    bytes = ap (λ y. y.bytes) h ∙ ap (λ l. l ++ replicate (253 - length l) 0) (sym short)

    cut : take 253 (zs ++ bs) ≡ zs ++ take n bs
    cut =
        let e : 253 ≡ length zs + (253 - length zs) = omega (arith, room) in
        let q : n ≡ min (253 - length zs) (length bs) = omega (arith, m, size) in
        ap (λ i. take i (zs ++ bs)) e ∙ (take-append-add zs bs (253 - length zs) ∙ ap (λ l. zs ++ l) (sym (cut_take (253 - length zs) (length bs) bs refl) ∙ ap (λ i. take i bs) (sym q)))

    part : length (take n bs) ≡ n
    part = length-take n bs ∙ omega (arith, m)

    both : length (zs ++ take n bs) ≡ length zs + n
    both = length-append zs (take n bs) ∙ ap (λ i. length zs + i) part

    long : end ≡ length (take 253 (zs ++ bs))
    long = e ∙ (ap (λ i. i + n) size ∙ (sym both ∙ ap length (sym cut)))

    rest : drop k (drop x.len x.bytes) ≡ replicate (253 - length (zs ++ take n bs)) 0
    rest =
        let f : 253 - length zs - k ≡ 253 - length (zs ++ take n bs) = omega (arith, both, l) in
        ap (λ b. drop k (drop x.len b)) bytes
        ∙ (ap (drop k) (drop_at zs (replicate (253 - length zs) 0) x.len (sym size)) ∙ (drop-replicate k (253 - length zs) 0 ∙ ap (λ i. replicate i 0) f))

    whole : put_mid x.len k x.bytes ys ≡ padded 253 0 (take 253 (zs ++ bs))
    whole =
        ap (λ r. zs ++ (ys ++ r)) rest
        ∙ (ap (λ y. zs ++ (y ++ replicate (253 - length (zs ++ take n bs)) 0)) y
        ∙ (sym (append_assoc zs (take n bs) (replicate (253 - length (zs ++ take n bs)) 0)) ∙ ap (λ w. w ++ replicate (253 - length w) 0) (sym cut)))

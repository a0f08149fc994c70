-- What fields leave in a range.
use Rattle.std.proofs.Common.{◌≡◌, ℕ, ◌+◌, ◌^◌, ◌<◌, ◌≤◌, ◌==◌, inl, inr, Bool, true, false, cond, ◌&&◌, ◌||◌, leb, List, [], ◌∷◌, length, refl, ◌∙◌, ap}
use Rattle.std.proofs.lemmas.List.{length-replicate}
use Rattle.std.specs.Prelude.{◌⊎◌}
use Rattle.std.proofs.lemmas.Bool.{cases_eq, eq-eqb, ne_eqb, leb-true, and_parts}
use Rattle.byteorder.specs.Endian.{little_number}
use Rattle.zst_bytes.specs.Bytes.{bytes_at, number_at, number_bytes, written}
use Rattle.zst_bytes.proofs.BytesLaws.{written-same, written-above, written-below, length-written, length-number_bytes, number-again}
use Rattle.zst_bytes.specs.Fields.{Field, number, text, lay, laid, zeros, found, is_apart, is_clear, is_inside, Fills}

or_parts : (a b : Bool) → (a || b) ≡ true → (a ≡ true) ⊎ (b ≡ true)
or_parts true b e = inl refl
or_parts false b e = inr e

-- a write that doesn't touch a range leaves it
apart : (q v p w : ℕ) (bytes old other : List ℕ) → length bytes ≡ v → q + v ≤ length old → bytes_at old p w ≡ other
    → (leb (q + v) p || leb (p + w) q) ≡ true → bytes_at (written q v bytes old) p w ≡ other
apart q v p w bytes old other size inside is clear =
    elim (or_parts (leb (q + v) p) (leb (p + w) q) clear) [
      | inl below ↦ written-below q v p w bytes old size inside (leb-true _ _ below) ∙ is
      | inr above ↦ written-above q v p w bytes old size inside (leb-true _ _ above) ∙ is
    ]

-- one more field
one_more : (q v p w : ℕ) (bytes old other : List ℕ) → length bytes ≡ v → q + v ≤ length old → bytes_at old p w ≡ other → is_apart q v p w ≡ true
    → bytes_at (written q v bytes old) p w ≡ cond ((q == p) && (v == w)) bytes other
one_more q v p w bytes old other size inside is clear =
    elim (cases_eq q p) [
      | inl here ↦ elim (cases_eq v w) [
        | inl wide ↦ rw (eq-eqb q p here, eq-eqb v w wide, ← here, ← wide) (written-same q v bytes old size inside)
        | inr other_width ↦ rw (eq-eqb q p here, ne_eqb v w other_width) (apart q v p w bytes old other size inside is (rw (eq-eqb q p here, ne_eqb v w other_width) at clear))
      ]
      | inr elsewhere ↦ rw (ne_eqb q p elsewhere) (apart q v p w bytes old other size inside is (rw (ne_eqb q p elsewhere) at clear))
    ]

-- a range that no field cuts holds what the fields say
pub lay-back : (size p w : ℕ) (fields : List Field) (old other : List ℕ) → length old ≡ size → is_inside size fields ≡ true → Fills fields → is_clear p w fields ≡ true
    → bytes_at old p w ≡ other → bytes_at (lay fields old) p w ≡ found p w fields other
lay-back size p w [] old other long inside fills clear is = is
lay-back size p w (number q v x ∷ fields) old other long inside fills clear is =
    let c = and_parts (is_apart q v p w) (is_clear p w fields) clear in
    let i = and_parts (leb (q + v) size) (is_inside size fields) inside in
    let room : q + v ≤ length old = rw long (leb-true _ _ i.0) in
    let wide = length-number_bytes v x in
    lay-back size p w fields (written q v (number_bytes v x) old) (cond ((q == p) && (v == w)) (number_bytes v x) other)
    (length-written q v (number_bytes v x) old wide room ∙ long) i.1 fills c.1
    (one_more q v p w (number_bytes v x) old other wide room is c.0)
lay-back size p w (text q v bytes ∷ fields) old other long inside fills clear is =
    let c = and_parts (is_apart q v p w) (is_clear p w fields) clear in
    let i = and_parts (leb (q + v) size) (is_inside size fields) inside in
    let room : q + v ≤ length old = rw long (leb-true _ _ i.0) in
    lay-back size p w fields (written q v bytes old) (cond ((q == p) && (v == w)) bytes other)
    (length-written q v bytes old fills.0 room ∙ long) i.1 fills.1 c.1
    (one_more q v p w bytes old other fills.0 room is c.0)

-- fields keep the length
pub length-lay : (size : ℕ) (fields : List Field) (old : List ℕ) → length old ≡ size → is_inside size fields ≡ true → Fills fields → length (lay fields old) ≡ size
length-lay size [] old long inside fills = long
length-lay size (number q v x ∷ fields) old long inside fills =
    let i = and_parts (leb (q + v) size) (is_inside size fields) inside in
    length-lay size fields (written q v (number_bytes v x) old) (length-written q v (number_bytes v x) old (length-number_bytes v x) (rw long (leb-true _ _ i.0)) ∙ long) i.1 fills
length-lay size (text q v bytes ∷ fields) old long inside fills =
    let i = and_parts (leb (q + v) size) (is_inside size fields) inside in
    length-lay size fields (written q v bytes old) (length-written q v bytes old fills.0 (rw long (leb-true _ _ i.0)) ∙ long) i.1 fills.1

-- so many zeros are so many
pub length-zeros : (size : ℕ) → length (zeros size) ≡ size
unfolding zeros
length-zeros size = length-replicate {A = ℕ} size 0

pub length-laid : (size : ℕ) (fields : List Field) → is_inside size fields ≡ true → Fills fields → length (laid size fields) ≡ size
length-laid size fields inside fills = length-lay size fields (zeros size) (length-zeros size) inside fills

-- a text that the fields name is read back
pub text-back : (size : ℕ) (fields : List Field) (p w : ℕ) (bytes : List ℕ) → is_inside size fields ≡ true → Fills fields → is_clear p w fields ≡ true
    → found p w fields (bytes_at (zeros size) p w) ≡ bytes → bytes_at (laid size fields) p w ≡ bytes
text-back size fields p w bytes inside fills clear is = lay-back size p w fields (zeros size) (bytes_at (zeros size) p w) (length-zeros size) inside fills clear refl ∙ is

-- a number that the fields name is read back
pub number-back : (size : ℕ) (fields : List Field) (p w value : ℕ) → is_inside size fields ≡ true → Fills fields → is_clear p w fields ≡ true
    → found p w fields (bytes_at (zeros size) p w) ≡ number_bytes w value → value < 256 ^ w → number_at (laid size fields) p w ≡ value
unfolding number_at
number-back size fields p w value inside fills clear is fits =
    ap (little_number w) (text-back size fields p w (number_bytes w value) inside fills clear is) ∙ number-again w value fits

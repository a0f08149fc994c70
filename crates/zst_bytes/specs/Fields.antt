-- A text as fields that are written into zeros.
use Rattle.std.specs.Prelude.{ℕ, ◌+◌, ◌≡◌, ◌==◌, ◌&&◌, ◌||◌, Bool, true, nat_le, if◌then◌else◌, List, [], ◌∷◌, length, replicate}
use Rattle.zst_bytes.specs.Bytes.{number_bytes, written}

-- a number or a text, with its place and its width
pub data Field : Type 0 where
  number : ℕ → ℕ → ℕ → Field
  text : ℕ → ℕ → List ℕ → Field

-- the fields, written one after the other
abbrev pub lay : List Field → List ℕ → List ℕ
lay [] old = old
lay (number place width value ∷ fields) old = lay fields (written place width (number_bytes width value) old)
lay (text place width bytes ∷ fields) old = lay fields (written place width bytes old)

-- so many zeros
unfoldable pub zeros : ℕ → List ℕ
zeros size = replicate size 0

-- a text of so many bytes, of these fields
abbrev pub laid : ℕ → List Field → List ℕ
laid size fields = lay fields (zeros size)

-- what the fields say that a range holds
abbrev pub found : ℕ → ℕ → List Field → List ℕ → List ℕ
found place width [] other = other
found place width (number p w value ∷ fields) other = found place width fields (if (p == place) && (w == width) then number_bytes w value else other)
found place width (text p w bytes ∷ fields) other = found place width fields (if (p == place) && (w == width) then bytes else other)

-- a field is this range or doesn't touch it
abbrev pub is_apart : ℕ → ℕ → ℕ → ℕ → Bool
is_apart p w place width = ((p == place) && (w == width)) || (nat_le (p + w) place || nat_le (place + width) p)

-- each field is this range or doesn't touch it
abbrev pub is_clear : ℕ → ℕ → List Field → Bool
is_clear place width [] = true
is_clear place width (number p w value ∷ fields) = is_apart p w place width && is_clear place width fields
is_clear place width (text p w bytes ∷ fields) = is_apart p w place width && is_clear place width fields

-- each field lies in a text of so many bytes
abbrev pub is_inside : ℕ → List Field → Bool
is_inside size [] = true
is_inside size (number p w value ∷ fields) = nat_le (p + w) size && is_inside size fields
is_inside size (text p w bytes ∷ fields) = nat_le (p + w) size && is_inside size fields

-- each text has its width
abbrev pub Fills : List Field → Type 0
Fills [] = Unit {0}
Fills (number p w value ∷ fields) = Fills fields
Fills (text p w bytes ∷ fields) = (length bytes ≡ w) × Fills fields

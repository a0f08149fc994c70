-- The table of a pointer: 64 bytes.
use Rattle.std.specs.Prelude.{ℕ, ◌+◌, ◌^◌, ◌<◌, ◌==◌, ◌&&◌, ◌||◌, Bool, nat_le, if◌then◌else◌, List, [], ◌∷◌, ◌++◌}
use Rattle.zst_bytes.specs.Bytes.{number_at}
use Rattle.zst_bytes.specs.Fields.{Field, number, laid}
use Rattle.zst_fletcher.specs.declared.sum.Sum.{Sum}
use Rattle.zst_block.specs.declared.ptr.Ptr.{Ptr}

-- four sums, from a place on
abbrev pub sum_fields : ℕ → Sum → List Field
sum_fields place sum =
    number place 8 sum.a
    ∷ number (place + 8) 8 sum.b
    ∷ number (place + 16) 8 sum.c
    ∷ number (place + 24) 8 sum.d
    ∷ []

-- the sums that stand from a place on
abbrev pub sum_at : List ℕ → ℕ → Sum
sum_at bytes place = record {
  a = number_at bytes place 8;
  b = number_at bytes (place + 8) 8;
  c = number_at bytes (place + 16) 8;
  d = number_at bytes (place + 24) 8;
}

-- the fields of a pointer before its sum, one a line: place, width, value
abbrev pub number_fields : Ptr → List Field
number_fields ptr =
    number 0 1 ptr.kind
    ∷ number 1 1 ptr.level
    ∷ number 4 4 ptr.length
    ∷ number 8 8 ptr.sector
    ∷ number 16 8 ptr.number
    ∷ []

abbrev pub ptr_fields : Ptr → List Field
ptr_fields ptr = number_fields ptr ++ sum_fields 24 ptr.sum

-- its 64 bytes; one that no field names is 0
unfoldable pub ptr_bytes : Ptr → List ℕ
ptr_bytes ptr = laid 64 (ptr_fields ptr)

-- the pointer that stands from a place on
abbrev pub ptr_at : List ℕ → ℕ → Ptr
ptr_at bytes place = record {
  kind = number_at bytes place 1;
  level = number_at bytes (place + 1) 1;
  length = number_at bytes (place + 4) 4;
  sector = number_at bytes (place + 8) 8;
  number = number_at bytes (place + 16) 8;
  sum = sum_at bytes (place + 24);
}

-- each sum is a number of 64 bits
pub record SumFits (sum : Sum) : Type 0 where
  pub a : sum.a < 2 ^ 64
  pub b : sum.b < 2 ^ 64
  pub c : sum.c < 2 ^ 64
  pub d : sum.d < 2 ^ 64

-- each value has room in its field
pub record PtrFits (ptr : Ptr) : Type 0 where
  pub kind : ptr.kind < 2 ^ 8
  pub level : ptr.level < 2 ^ 8
  pub length : ptr.length < 2 ^ 32
  pub sector : ptr.sector < 2 ^ 64
  pub number : ptr.number < 2 ^ 64
  pub sum : SumFits ptr.sum

-- a hole or a redacted pointer, which has no block
abbrev pub is_flat : Ptr → Bool
is_flat ptr = (ptr.kind == 0) || (ptr.kind == 2)

abbrev pub is_zero : Sum → Bool
is_zero sum = ((sum.a == 0) && (sum.b == 0)) && ((sum.c == 0) && (sum.d == 0))

-- the kind is one of the table's, and a pointer with no block names no place, length or sum
abbrev pub is_lawful : Ptr → Bool
is_lawful ptr = if is_flat ptr then ((ptr.length == 0) && (ptr.sector == 0)) && is_zero ptr.sum else nat_le ptr.kind 4

-- a hole, with its date
abbrev pub hole_of : ℕ → Ptr
hole_of date = record { kind = 0; level = 0; length = 0; sector = 0; number = date; sum = record { a = 0; b = 0; c = 0; d = 0 } }

-- a redacted pointer, with its date
abbrev pub redacted_of : ℕ → Ptr
redacted_of date = record { kind = 2; level = 0; length = 0; sector = 0; number = date; sum = record { a = 0; b = 0; c = 0; d = 0 } }

-- anything but holes is below it
abbrev pub is_present : Ptr → Bool
is_present ptr = ((ptr.kind == 1) || (ptr.kind == 2)) || (ptr.kind == 3)

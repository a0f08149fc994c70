-- A pointer is read back from its bytes.
use Rattle.std.proofs.Common.{◌≡◌, ℕ, ◌+◌, ◌^◌, ◌<◌, ◌≤◌, true, List, length, refl, sym, ◌∙◌, ap, arith}
use Rattle.zst_bytes.specs.Bytes.{bytes_at, number_at, number_bytes}
use Rattle.zst_bytes.proofs.BytesLaws.{number_at-bytes_at}
use Rattle.zst_bytes.specs.Fields.{found, is_clear, zeros}
use Rattle.zst_bytes.proofs.FieldsLaws.{number-back, length-laid}
use Rattle.zst_block.specs.Ptr.{ptr_fields, ptr_bytes, ptr_at, PtrFits}
use Rattle.zst_block.specs.declared.ptr.Ptr.{Ptr}

pub length-ptr_bytes : (ptr : Ptr) → length (ptr_bytes ptr) ≡ 64
unfolding ptr_bytes
length-ptr_bytes ptr = length-laid 64 (ptr_fields ptr) refl tt

-- one field
field : (ptr : Ptr) (p w value : ℕ) → is_clear p w (ptr_fields ptr) ≡ true → found p w (ptr_fields ptr) (bytes_at (zeros 64) p w) ≡ number_bytes w value → value < 256 ^ w → number_at (ptr_bytes ptr) p w ≡ value
unfolding ptr_bytes
field ptr p w value clear is fits = number-back 64 (ptr_fields ptr) p w value refl tt clear is fits

-- a pointer is its fields
same : (ptr : Ptr) (xs : List ℕ) (place : ℕ) → number_at xs place 1 ≡ ptr.kind → number_at xs (place + 1) 1 ≡ ptr.level → number_at xs (place + 4) 4 ≡ ptr.length → number_at xs (place + 8) 8 ≡ ptr.sector
    → number_at xs (place + 16) 8 ≡ ptr.number → number_at xs (place + 24) 8 ≡ ptr.sum.a → number_at xs (place + 24 + 8) 8 ≡ ptr.sum.b → number_at xs (place + 24 + 16) 8 ≡ ptr.sum.c → number_at xs (place + 24 + 24) 8 ≡ ptr.sum.d
    → ptr_at xs place ≡ ptr
same ptr xs place kind level long sector date a b c d = rw (kind, level, long, sector, date, a, b, c, d) refl

-- the pointer in a range that has these bytes is this one
pub ptr_at-range : (xs : List ℕ) (place : ℕ) (ptr : Ptr) → place + 64 ≤ length xs → PtrFits ptr → bytes_at xs place 64 ≡ ptr_bytes ptr → ptr_at xs place ≡ ptr
ptr_at-range xs place ptr inside fits is = same ptr xs place
    (at place 0 1 ptr.kind refl refl (omega arith) (omega arith) (omega (arith, fits.kind)))
    (at (place + 1) 1 1 ptr.level refl refl (omega arith) (omega arith) (omega (arith, fits.level)))
    (at (place + 4) 4 4 ptr.length refl refl (omega arith) (omega arith) (omega (arith, fits.length)))
    (at (place + 8) 8 8 ptr.sector refl refl (omega arith) (omega arith) (omega (arith, fits.sector)))
    (at (place + 16) 16 8 ptr.number refl refl (omega arith) (omega arith) (omega (arith, fits.number)))
    (at (place + 24) 24 8 ptr.sum.a refl refl (omega arith) (omega arith) (omega (arith, fits.sum.a)))
    (at (place + 24 + 8) 32 8 ptr.sum.b refl refl (omega arith) (omega arith) (omega (arith, fits.sum.b)))
    (at (place + 24 + 16) 40 8 ptr.sum.c refl refl (omega arith) (omega arith) (omega (arith, fits.sum.c)))
    (at (place + 24 + 24) 48 8 ptr.sum.d refl refl (omega arith) (omega arith) (omega (arith, fits.sum.d)))
  where
    at : (k q w value : ℕ) → is_clear q w (ptr_fields ptr) ≡ true → found q w (ptr_fields ptr) (bytes_at (zeros 64) q w) ≡ number_bytes w value → k ≡ place + q → q + w ≤ 64 → value < 256 ^ w → number_at xs k w ≡ value
    at k q w value clear found_is here le small =
        ap (λ (n : ℕ). number_at xs n w) here ∙ sym (number_at-bytes_at xs place 64 q w inside le) ∙ ap (λ (l : List ℕ). number_at l q w) is ∙ field ptr q w value clear found_is small

-- equal ranges have equal pointers
pub ptr_at-same : (xs ys : List ℕ) (place : ℕ) → place + 64 ≤ length xs → place + 64 ≤ length ys → bytes_at xs place 64 ≡ bytes_at ys place 64 → ptr_at xs place ≡ ptr_at ys place
ptr_at-same xs ys place in_xs in_ys is = same (ptr_at ys place) xs place
    (at place 0 1 (omega arith) (omega arith)) (at (place + 1) 1 1 (omega arith) (omega arith)) (at (place + 4) 4 4 (omega arith) (omega arith)) (at (place + 8) 8 8 (omega arith) (omega arith))
    (at (place + 16) 16 8 (omega arith) (omega arith)) (at (place + 24) 24 8 (omega arith) (omega arith)) (at (place + 24 + 8) 32 8 (omega arith) (omega arith))
    (at (place + 24 + 16) 40 8 (omega arith) (omega arith)) (at (place + 24 + 24) 48 8 (omega arith) (omega arith))
  where
    at : (k q w : ℕ) → k ≡ place + q → q + w ≤ 64 → number_at xs k w ≡ number_at ys k w
    at k q w here le =
        ap (λ (n : ℕ). number_at xs n w) here ∙ sym (number_at-bytes_at xs place 64 q w in_xs le) ∙ ap (λ (l : List ℕ). number_at l q w) is ∙ number_at-bytes_at ys place 64 q w in_ys le ∙ ap (λ (n : ℕ). number_at ys n w) (sym here)

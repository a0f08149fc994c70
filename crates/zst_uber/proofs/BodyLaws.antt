-- A body is read back from its bytes.
use Rattle.std.proofs.Common.{◌≡◌, ℕ, ◌+◌, ◌^◌, ◌<◌, ◌≤◌, true, List, ◌∷◌, length, refl, sym, ◌∙◌, ap, arith, zero-add}
use Rattle.zst_bytes.specs.Bytes.{bytes_at, number_at, number_bytes}
use Rattle.zst_bytes.proofs.BytesLaws.{number_at-bytes_at, bytes_at-bytes_at}
use Rattle.zst_bytes.specs.Fields.{Field, text, found, is_clear, zeros, Fills}
use Rattle.zst_bytes.proofs.FieldsLaws.{number-back, text-back, length-laid}
use Rattle.zst_fletcher.specs.WeightSum.{weight_sum}
use Rattle.zst_block.specs.Ptr.{sum_fields, sum_at, ptr_bytes, SumFits}
use Rattle.zst_block.proofs.PtrLaws.{length-ptr_bytes, ptr_at-range}
use Rattle.zst_uber.specs.declared.TheConstants.{MAGIC}
use Rattle.zst_uber.specs.declared.uber.Uber.{Uber}
use Rattle.zst_uber.specs.Body.{body_fields, front_bytes, body_bytes, uber_at, UberFits}

front_fills : (uber : Uber) → Fills (body_fields uber)
front_fills uber = (length-ptr_bytes uber.dir_root, (length-ptr_bytes uber.free_root, tt))

pub length-front : (uber : Uber) → length (front_bytes uber) ≡ 480
unfolding front_bytes
length-front uber = length-laid 480 (body_fields uber) refl (front_fills uber)

abbrev whole : Uber → List Field
whole uber = text 0 480 (front_bytes uber) ∷ sum_fields 480 (weight_sum (front_bytes uber))

pub length-body : (uber : Uber) → length (body_bytes uber) ≡ 512
unfolding body_bytes
length-body uber = length-laid 512 (whole uber) refl (length-front uber, tt)

-- what stands before the sum
pub front-back : (uber : Uber) → bytes_at (body_bytes uber) 0 480 ≡ front_bytes uber
unfolding body_bytes
front-back uber = text-back 512 (whole uber) 0 480 (front_bytes uber) refl (length-front uber, tt) refl refl

one_sum : (uber : Uber) (p value : ℕ) → is_clear p 8 (whole uber) ≡ true → found p 8 (whole uber) (bytes_at (zeros 512) p 8) ≡ number_bytes 8 value → value < 256 ^ 8 → number_at (body_bytes uber) p 8 ≡ value
unfolding body_bytes
one_sum uber p value clear is fits = number-back 512 (whole uber) p 8 value refl (length-front uber, tt) clear is fits

-- the sum
pub sum-back : (uber : Uber) → SumFits (weight_sum (front_bytes uber)) → sum_at (body_bytes uber) 480 ≡ weight_sum (front_bytes uber)
sum-back uber fits =
    let sum = weight_sum (front_bytes uber) in
    rw (one_sum uber 480 sum.a refl refl (omega (arith, fits.a)), one_sum uber 488 sum.b refl refl (omega (arith, fits.b)), one_sum uber 496 sum.c refl refl (omega (arith, fits.c)), one_sum uber 504 sum.d refl refl (omega (arith, fits.d))) refl

-- a number before the sum
field : (uber : Uber) (p w value : ℕ) → is_clear p w (body_fields uber) ≡ true → found p w (body_fields uber) (bytes_at (zeros 480) p w) ≡ number_bytes w value → p + w ≤ 480 → value < 256 ^ w → number_at (body_bytes uber) p w ≡ value
unfolding front_bytes
field uber p w value clear is le fits =
    ap (λ (k : ℕ). number_at (body_bytes uber) k w) (sym (zero-add p)) ∙ sym (number_at-bytes_at (body_bytes uber) 0 480 p w (omega (arith, length-body uber)) le) ∙ ap (λ (l : List ℕ). number_at l p w) (front-back uber)
    ∙ number-back 480 (body_fields uber) p w value refl (front_fills uber) clear is fits

-- a pointer before the sum
pointer : (uber : Uber) (p : ℕ) (bytes : List ℕ) → is_clear p 64 (body_fields uber) ≡ true → found p 64 (body_fields uber) (bytes_at (zeros 480) p 64) ≡ bytes → p + 64 ≤ 480 → bytes_at (body_bytes uber) p 64 ≡ bytes
unfolding front_bytes
pointer uber p bytes clear is le =
    ap (λ (k : ℕ). bytes_at (body_bytes uber) k 64) (sym (zero-add p)) ∙ sym (bytes_at-bytes_at (body_bytes uber) 0 480 p 64 (omega (arith, length-body uber)) le) ∙ ap (λ (l : List ℕ). bytes_at l p 64) (front-back uber)
    ∙ text-back 480 (body_fields uber) p 64 bytes refl (front_fills uber) clear is

pub magic-back : (uber : Uber) → number_at (body_bytes uber) 0 8 ≡ MAGIC
magic-back uber = field uber 0 8 MAGIC refl refl (omega arith) (omega arith)

pub version-back : (uber : Uber) → uber.version < 2 ^ 32 → number_at (body_bytes uber) 8 4 ≡ uber.version
version-back uber fits = field uber 8 4 uber.version refl refl (omega arith) (omega (arith, fits))

pub number_back : (uber : Uber) → uber.number < 2 ^ 64 → number_at (body_bytes uber) 16 8 ≡ uber.number
number_back uber fits = field uber 16 8 uber.number refl refl (omega arith) (omega (arith, fits))

-- the uber of these bytes is this one
pub uber_at-body_bytes : (uber : Uber) → UberFits uber → uber_at (body_bytes uber) ≡ uber
uber_at-body_bytes uber fits =
    rw (
      version-back uber fits.version,
      field uber 12 4 uber.id refl refl (omega arith) (omega (arith, fits.id)),
      number_back uber fits.number,
      field uber 24 8 uber.guids refl refl (omega arith) (omega (arith, fits.guids)),
      field uber 32 8 uber.sectors refl refl (omega arith) (omega (arith, fits.sectors)),
      field uber 40 8 uber.end refl refl (omega arith) (omega (arith, fits.end)),
      field uber 48 8 uber.dir_levels refl refl (omega arith) (omega (arith, fits.trees.dir_levels)),
      field uber 56 8 uber.dir_bytes refl refl (omega arith) (omega (arith, fits.trees.dir_bytes)),
      field uber 128 8 uber.free_count refl refl (omega arith) (omega (arith, fits.trees.free_count)),
      field uber 136 8 uber.free_levels refl refl (omega arith) (omega (arith, fits.trees.free_levels)),
      ptr_at-range (body_bytes uber) 64 uber.dir_root (omega (arith, length-body uber)) fits.trees.dir_root (pointer uber 64 (ptr_bytes uber.dir_root) refl refl (omega arith)),
      ptr_at-range (body_bytes uber) 144 uber.free_root (omega (arith, length-body uber)) fits.trees.free_root (pointer uber 144 (ptr_bytes uber.free_root) refl refl (omega arith)),
    ) refl

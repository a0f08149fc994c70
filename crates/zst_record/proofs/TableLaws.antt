-- The length of a record, and its checksum, whatever its kind.
use Rattle.std.proofs.Common.{◌≡◌, ℕ, ◌+◌, ◌-◌, ◌*◌, ◌^◌, ◌<◌, ◌≤◌, true, List, ◌++◌, length, take, replicate, slice_index, refl, sym, ◌∙◌, ap, arith}
use Rattle.std.proofs.lemmas.List.{length-append, length-replicate}
use Rattle.byteorder.specs.Endian.{little_number}
use Rattle.zst_bytes.specs.Bytes.{bytes_at, number_at, number_bytes}
use Rattle.zst_bytes.proofs.BytesLaws.{number-again}
use Rattle.zst_bytes.specs.Fields.{Fills, found, is_clear}
use Rattle.zst_bytes.proofs.FieldsLaws.{number-back, length-laid, lay-back, length-lay}
use Rattle.zst_model.specs.declared.sends.header.Header.{Header}
use Rattle.zst_record.specs.declared.head.Head.{Head}
use Rattle.zst_record.specs.declared.head.Head.TheVariants as heads
use Rattle.zst_record.specs.Table.{sum_fields, fields_of, head_bytes, sealed_bytes, padded}
use Rattle.zst_record.specs.Decoding.{sums_at, features_in}
use Rattle.zst_record.specs.RecordValues.{Fits, SumsFit, BeginFits}

-- a padded name fills its field
pub length-padded : (width : ℕ) (bytes : List ℕ) → length bytes ≤ width → length (padded width bytes) ≡ width
unfolding padded
length-padded width bytes short = omega (arith, length-append bytes (replicate (width - length bytes) 0), length-replicate {A = ℕ} (width - length bytes) 0)

-- a record has 312 bytes
pub length-head : (features : ℕ) (head : Head) → Fits features head → length (head_bytes head) ≡ 312
unfolding head_bytes
length-head features (heads.Begin header len) f = let short = f.1.name in length-laid 312 (fields_of (heads.Begin header len)) refl (length-padded 256 header.name (omega arith), tt)
length-head features (heads.Object object kind bonus_kind block_size bonus_len max_block to) f = length-laid 312 (fields_of (heads.Object object kind bonus_kind block_size bonus_len max_block to)) refl tt
length-head features (heads.FreeObjects first count to) f = length-laid 312 (fields_of (heads.FreeObjects first count to)) refl tt
length-head features (heads.Write object kind offset size to) f = length-laid 312 (fields_of (heads.Write object kind offset size to)) refl tt
length-head features (heads.Free object offset size to) f = length-laid 312 (fields_of (heads.Free object offset size to)) refl tt
length-head features (heads.End sums to) f = length-laid 312 (fields_of (heads.End sums to)) refl tt
length-head features (heads.Spill object size to) f = length-laid 312 (fields_of (heads.Spill object size to)) refl tt
length-head features (heads.Redact object offset size to) f = length-laid 312 (fields_of (heads.Redact object offset size to)) refl tt

-- so has END, whatever it states
pub length-end : (sums : List ℕ) (to : ℕ) → length (head_bytes (heads.End sums to)) ≡ 312
unfolding head_bytes
length-end sums to = length-laid 312 (fields_of (heads.End sums to)) refl tt

-- a checksum keeps the length
pub length-sealed : (head : Head) (sums : List ℕ) → length (head_bytes head) ≡ 312 → length (sealed_bytes head sums) ≡ 312
unfolding sealed_bytes
length-sealed head sums size = length-lay 312 (sum_fields 280 sums) (head_bytes head) size refl tt

-- and the bytes before it
pub sealed-front : (head : Head) (sums : List ℕ) → length (head_bytes head) ≡ 312 → take 280 (sealed_bytes head sums) ≡ take 280 (head_bytes head)
unfolding sealed_bytes bytes_at
sealed-front head sums size = lay-back 312 0 280 (sum_fields 280 sums) (head_bytes head) (take 280 (head_bytes head)) size refl tt refl refl

-- one of its sums is read back
one-sum : (head : Head) (sums : List ℕ) (p value : ℕ) → length (head_bytes head) ≡ 312 → is_clear p 8 (sum_fields 280 sums) ≡ true
    → found p 8 (sum_fields 280 sums) (bytes_at (head_bytes head) p 8) ≡ number_bytes 8 value → value < 256 ^ 8 → number_at (sealed_bytes head sums) p 8 ≡ value
unfolding number_at sealed_bytes
one-sum head sums p value size clear is fits =
    ap (little_number 8) (lay-back 312 p 8 (sum_fields 280 sums) (head_bytes head) (bytes_at (head_bytes head) p 8) size refl tt clear refl ∙ is) ∙ number-again 8 value fits

-- and so are all four
pub sealed-sums : (head : Head) (sums : List ℕ) → length (head_bytes head) ≡ 312 → SumsFit sums → sums_at (sealed_bytes head sums) 280 ≡ sums
sealed-sums head sums size f =
    rw (
      one-sum head sums 280 (slice_index sums 0) size refl refl f.a,
      one-sum head sums 288 (slice_index sums 1) size refl refl f.b,
      one-sum head sums 296 (slice_index sums 2) size refl refl f.c,
      one-sum head sums 304 (slice_index sums 3) size refl refl f.d,
    ) (sym f.four)

-- the sums that END states are read back
pub end-states : (stated : List ℕ) (to : ℕ) (sums : List ℕ) → SumsFit stated → sums_at (sealed_bytes (heads.End stated to) sums) 8 ≡ stated
unfolding sealed_bytes head_bytes
end-states stated to sums f =
    let fields = fields_of (heads.End stated to) ++ sum_fields 280 sums in
    rw (
      number-back 312 fields 8 8 (slice_index stated 0) refl tt refl refl f.a,
      number-back 312 fields 16 8 (slice_index stated 1) refl tt refl refl f.b,
      number-back 312 fields 24 8 (slice_index stated 2) refl tt refl refl f.c,
      number-back 312 fields 32 8 (slice_index stated 3) refl tt refl refl f.d,
    ) (sym f.four)

-- what a later record is judged by stands in BEGIN: the features
pub begin-features : (header : Header) (len : ℕ) → BeginFits header len → features_in (head_bytes (heads.Begin header len)) ≡ header.features
unfolding head_bytes
begin-features header len f =
    let small = f.features in
    let short = f.name in
    let fields = fields_of (heads.Begin header len) in
    let fills : Fills fields = (length-padded 256 header.name (omega arith), tt) in
    let version : 4 * header.features + 1 < 256 ^ 8 = omega arith in
    rw (number-back 312 fields 16 8 (4 * header.features + 1) refl fills refl refl version) (omega arith)

-- and the guid
pub begin-to : (header : Header) (len : ℕ) → BeginFits header len → number_at (head_bytes (heads.Begin header len)) 40 8 ≡ header.to
unfolding head_bytes
begin-to header len f =
    let short = f.name in
    let fields = fields_of (heads.Begin header len) in
    let fills : Fills fields = (length-padded 256 header.name (omega arith), tt) in
    number-back 312 fields 40 8 header.to refl fills refl refl f.to

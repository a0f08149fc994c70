-- What the record of a head but BEGIN says is that head.
use Rattle.std.proofs.Common.{◌≡◌, ℕ, ◌+◌, ◌%◌, ◌^◌, ◌<◌, ◌==◌, ◌&&◌, true, ltb, leb, List, ◌++◌, slice_index, Ok, refl, sym, ap, arith}
use Rattle.std.proofs.lemmas.Bool.{ne_eqb, leb-true, ltb-true, and_parts, le-leb}
use Rattle.zst_bytes.specs.Bytes.{bytes_at, number_bytes}
use Rattle.zst_bytes.specs.Fields.{zeros}
use Rattle.zst_bytes.proofs.FieldsLaws.{number-back}
use Rattle.zst_model.specs.states.State.{number_bound, is_spill_size}
use Rattle.zst_model.proofs.Sizes.{block_size_small}
use Rattle.zst_record.specs.declared.head.Head.{Head}
use Rattle.zst_record.specs.declared.head.Head.TheVariants as heads
use Rattle.zst_record.specs.Table.{sum_fields, fields_of, head_bytes, sealed_bytes}
use Rattle.zst_record.specs.Decoding.{Decoded, is_object, is_range, decoded, typed, object_with, write_with, free_with, spill_with, redact_with}
use Rattle.zst_record.specs.RecordValues.{Fits, IsLater, SumsFit, ObjectFits, WriteFits, FreeFits, SpillFits, RedactFits}

abbrev answer : Head → Decoded
answer head = Ok head

object-small : (object : ℕ) → is_object object ≡ true → object < 256 ^ 8
unfolding is_object number_bound
object-small object is =
    let below = ltb-true _ _ (and_parts (ltb 0 object) (ltb object (2 ^ 48)) is).1 in omega arith

spill-size-small : (size : ℕ) → is_spill_size size ≡ true → size < 256 ^ 4
unfolding is_spill_size
spill-size-small size is =
    let both = (and_parts (leb 512 size && leb size 131072) ((size % 512) == 0) is).0 in
    let below = leb-true _ _ (and_parts (leb 512 size) (leb size 131072) both).1 in omega arith

pub in-range : (offset size : ℕ) → is_range offset size ≡ true → offset + size < 2 ^ 64
unfolding is_range
in-range offset size is = ltb-true _ _ is

-- where no field stands there is 0
gap-50 : bytes_at (zeros 312) 50 1 ≡ number_bytes 1 0
unfolding bytes_at number_bytes zeros
gap-50 = refl

gap-33 : bytes_at (zeros 312) 33 1 ≡ number_bytes 1 0
unfolding bytes_at number_bytes zeros
gap-33 = refl

gap-36 : bytes_at (zeros 312) 36 4 ≡ number_bytes 4 0
unfolding bytes_at number_bytes zeros
gap-36 = refl

object-back : (at features object kind bonus_kind block_size bonus_len max_block to : ℕ) (sums : List ℕ) → 0 < at → ObjectFits object kind bonus_kind block_size bonus_len max_block to
    → decoded at features (sealed_bytes (heads.Object object kind bonus_kind block_size bonus_len max_block to) sums) ≡ Ok (heads.Object object kind bonus_kind block_size bonus_len max_block to)
unfolding decoded typed object_with sealed_bytes head_bytes
object-back at features object kind bonus_kind block_size bonus_len max_block to sums later f =
    let fields = fields_of (heads.Object object kind bonus_kind block_size bonus_len max_block to) ++ sum_fields 280 sums in
    let bonus = f.bonus_len_fits in
    rw (
      ne_eqb at 0 (λ e. omega arith),
      number-back 312 fields 0 4 1 refl tt refl refl (omega arith),
      number-back 312 fields 8 8 object refl tt refl refl (object-small object f.object_fits),
      number-back 312 fields 16 4 kind refl tt refl refl f.kind_fits,
      number-back 312 fields 20 4 bonus_kind refl tt refl refl f.bonus_kind_fits,
      number-back 312 fields 24 4 block_size refl tt refl refl (block_size_small block_size f.size),
      number-back 312 fields 28 4 bonus_len refl tt refl refl (omega arith),
      number-back 312 fields 34 1 1 refl tt refl refl (omega arith),
      number-back 312 fields 36 4 0 refl tt refl gap-36 (omega arith),
      number-back 312 fields 56 8 max_block refl tt refl refl f.max_block_fits,
      number-back 312 fields 40 8 to refl tt refl refl f.to_fits,
      f.object_fits,
      f.kind_there,
      f.size,
      le-leb bonus_len 320 bonus,
    ) refl

free_objects-back : (at features first count to : ℕ) (sums : List ℕ) → 0 < at → first < 2 ^ 64 → count < 2 ^ 64 → to < 2 ^ 64
    → decoded at features (sealed_bytes (heads.FreeObjects first count to) sums) ≡ Ok (heads.FreeObjects first count to)
unfolding decoded typed sealed_bytes head_bytes
free_objects-back at features first count to sums later first_fits count_fits to_fits =
    let fields = fields_of (heads.FreeObjects first count to) ++ sum_fields 280 sums in
    rw (
      ne_eqb at 0 (λ e. omega arith),
      number-back 312 fields 0 4 2 refl tt refl refl (omega arith),
      number-back 312 fields 8 8 first refl tt refl refl first_fits,
      number-back 312 fields 16 8 count refl tt refl refl count_fits,
      number-back 312 fields 24 8 to refl tt refl refl to_fits,
    ) refl

write-back : (at features object kind offset size to : ℕ) (sums : List ℕ) → 0 < at → WriteFits object kind offset size to
    → decoded at features (sealed_bytes (heads.Write object kind offset size to) sums) ≡ Ok (heads.Write object kind offset size to)
unfolding decoded typed write_with sealed_bytes head_bytes
write-back at features object kind offset size to sums later f =
    let fields = fields_of (heads.Write object kind offset size to) ++ sum_fields 280 sums in
    let wide = block_size_small size f.size_fits in
    rw (
      ne_eqb at 0 (λ e. omega arith),
      number-back 312 fields 0 4 3 refl tt refl refl (omega arith),
      number-back 312 fields 8 8 object refl tt refl refl (object-small object f.object_fits),
      number-back 312 fields 16 4 kind refl tt refl refl f.kind_fits,
      number-back 312 fields 24 8 offset refl tt refl refl f.offset_fits,
      number-back 312 fields 32 8 size refl tt refl refl (omega arith),
      number-back 312 fields 40 8 to refl tt refl refl f.to_fits,
      number-back 312 fields 50 1 0 refl tt refl gap-50 (omega arith),
      f.object_fits,
      f.size_fits,
    ) refl

free-back : (at features object offset size to : ℕ) (sums : List ℕ) → 0 < at → FreeFits object offset size to
    → decoded at features (sealed_bytes (heads.Free object offset size to) sums) ≡ Ok (heads.Free object offset size to)
unfolding decoded typed free_with sealed_bytes head_bytes
free-back at features object offset size to sums later f =
    let fields = fields_of (heads.Free object offset size to) ++ sum_fields 280 sums in
    rw (
      ne_eqb at 0 (λ e. omega arith),
      number-back 312 fields 0 4 4 refl tt refl refl (omega arith),
      number-back 312 fields 8 8 object refl tt refl refl (object-small object f.object_fits),
      number-back 312 fields 16 8 offset refl tt refl refl f.offset_fits,
      number-back 312 fields 24 8 size refl tt refl refl f.size_fits,
      number-back 312 fields 32 8 to refl tt refl refl f.to_fits,
      f.object_fits,
      f.range,
    ) refl

end-back : (at features : ℕ) (stated : List ℕ) (to : ℕ) (sums : List ℕ) → 0 < at → SumsFit stated → to < 2 ^ 64
    → decoded at features (sealed_bytes (heads.End stated to) sums) ≡ Ok (heads.End stated to)
unfolding decoded typed sealed_bytes head_bytes
end-back at features stated to sums later f to_fits =
    let fields = fields_of (heads.End stated to) ++ sum_fields 280 sums in
    rw (
      ne_eqb at 0 (λ e. omega arith),
      number-back 312 fields 0 4 5 refl tt refl refl (omega arith),
      number-back 312 fields 8 8 (slice_index stated 0) refl tt refl refl f.a,
      number-back 312 fields 16 8 (slice_index stated 1) refl tt refl refl f.b,
      number-back 312 fields 24 8 (slice_index stated 2) refl tt refl refl f.c,
      number-back 312 fields 32 8 (slice_index stated 3) refl tt refl refl f.d,
      number-back 312 fields 40 8 to refl tt refl refl to_fits,
    ) (ap (λ (l : List ℕ). answer (heads.End l to)) (sym f.four))

spill-back : (at features object size to : ℕ) (sums : List ℕ) → 0 < at → SpillFits object size to
    → decoded at features (sealed_bytes (heads.Spill object size to) sums) ≡ Ok (heads.Spill object size to)
unfolding decoded typed spill_with sealed_bytes head_bytes
spill-back at features object size to sums later f =
    let fields = fields_of (heads.Spill object size to) ++ sum_fields 280 sums in
    let wide = spill-size-small size f.size_fits in
    rw (
      ne_eqb at 0 (λ e. omega arith),
      number-back 312 fields 0 4 7 refl tt refl refl (omega arith),
      number-back 312 fields 8 8 object refl tt refl refl (object-small object f.object_fits),
      number-back 312 fields 16 8 size refl tt refl refl (omega arith),
      number-back 312 fields 24 8 to refl tt refl refl f.to_fits,
      number-back 312 fields 33 1 0 refl tt refl gap-33 (omega arith),
      f.object_fits,
      f.size_fits,
    ) refl

redact-back : (at features object offset size to : ℕ) (sums : List ℕ) → 0 < at → RedactFits features object offset size to
    → decoded at features (sealed_bytes (heads.Redact object offset size to) sums) ≡ Ok (heads.Redact object offset size to)
unfolding decoded typed redact_with sealed_bytes head_bytes
redact-back at features object offset size to sums later f =
    let fields = fields_of (heads.Redact object offset size to) ++ sum_fields 280 sums in
    let sum = in-range offset size f.range in
    rw (
      ne_eqb at 0 (λ e. omega arith),
      number-back 312 fields 0 4 10 refl tt refl refl (omega arith),
      number-back 312 fields 8 8 object refl tt refl refl (object-small object f.object_fits),
      number-back 312 fields 16 8 offset refl tt refl refl (omega arith),
      number-back 312 fields 24 8 size refl tt refl refl (omega arith),
      number-back 312 fields 32 8 to refl tt refl refl f.to_fits,
      f.redacted,
      f.object_fits,
      f.range,
    ) refl

-- a record but BEGIN says its head, with whatever checksum
pub later-back : (at features : ℕ) (head : Head) (sums : List ℕ) → 0 < at → IsLater head → Fits features head → decoded at features (sealed_bytes head sums) ≡ Ok head
later-back at features (heads.Begin header len) sums later is f = absurd is
later-back at features (heads.Object object kind bonus_kind block_size bonus_len max_block to) sums later is f = object-back at features object kind bonus_kind block_size bonus_len max_block to sums later f
later-back at features (heads.FreeObjects first count to) sums later is f = free_objects-back at features first count to sums later f.0 f.1 f.2
later-back at features (heads.Write object kind offset size to) sums later is f = write-back at features object kind offset size to sums later f
later-back at features (heads.Free object offset size to) sums later is f = free-back at features object offset size to sums later f
later-back at features (heads.End stated to) sums later is f = end-back at features stated to sums later f.0 f.1
later-back at features (heads.Spill object size to) sums later is f = spill-back at features object size to sums later f
later-back at features (heads.Redact object offset size to) sums later is f = redact-back at features object offset size to sums later f

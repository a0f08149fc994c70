-- What the 312 bytes of a record say, or the first check that they fail.
-- The places, widths and checks are those of zfs_ioctl.h's `dmu_replay_record` and of receive.
use Rattle.std.specs.Prelude.{ℕ, ◌+◌, ◌/◌, ◌%◌, ◌^◌, ◌==◌, ◌&&◌, ◌||◌, Bool, true, false, not, if◌then◌else◌, List, [], ◌∷◌, take, nat_le, nat_lt, Option, Some, None, Result, Ok, Err, position, bit_and}
use Rattle.std.specs.Option.{option_map}
use Rattle.std.specs.Int.{w32, trailing_zeros}
use Rattle.zst_bytes.specs.Bytes.{bytes_at, number_at}
use Rattle.zst_model.specs.declared.sends.header.Header.{Header}
use Rattle.zst_model.specs.declared.refusals.faults.Flaw.TheVariants as flaws
use Rattle.zst_model.specs.declared.refusals.faults.Lack.{Lack}
use Rattle.zst_model.specs.declared.refusals.faults.Lack.TheVariants as lacks
use Rattle.zst_model.specs.states.State.{is_number, is_block_size, is_spill_size, largest_bonus}
use Rattle.zst_model.specs.sends.Features.{redacts, resuming}
use Rattle.zst_record.specs.Formats.{to_end, stream_magic, reversed_magic, substream, compound_stream, begin_type, object_type, free_objects_type, write_type, free_type, end_type, write_by_reference_type, spill_type, write_embedded_type, object_range_type, redact_type, dedup_bit, dedup_props_bit, embed_data_bit, lz4_bit, compressed_bit, raw_bit, other_features, large_blocks}
use Rattle.zst_record.specs.declared.head.Head.{Head}
use Rattle.zst_record.specs.declared.head.Head.TheVariants as heads
use Rattle.zst_model.specs.declared.refusals.stream_fault.StreamFault.{StreamFault}
use Rattle.zst_model.specs.declared.refusals.stream_fault.StreamFault.TheVariants.{Grammar, Unsupported}

abbrev pub Decoded : Type 0
Decoded = Result Head StreamFault

-- where the test fails this fault is the answer, and else what comes next
abbrev pub check : Bool → StreamFault → Decoded → Decoded
check true fault next = next
check false fault next = Err fault

-- the four sums that stand from a place on
abbrev pub sums_at : List ℕ → ℕ → List ℕ
sums_at bytes place =
    number_at bytes place 8 ∷ number_at bytes (place + 8) 8 ∷ number_at bytes (place + 16) 8 ∷ number_at bytes (place + 24) 8 ∷ []

-- an object's number is one that an object may have
unfoldable pub is_object : ℕ → Bool
is_object object = is_number object

-- a range of bytes ends below 2^64
unfoldable pub is_range : ℕ → ℕ → Bool
is_range offset size = nat_lt (offset + size) (2 ^ 64)

unfoldable pub object_with : (at object kind bonus_kind block_size bonus_len slots raw max_block to : ℕ) → Decoded
object_with at object kind bonus_kind block_size bonus_len slots raw max_block to =
    check (is_object object) (Grammar (at + 8) flaws.Object)
    (check (not (kind == 0)) (Grammar (at + 16) flaws.ObjectType)
    (check (is_block_size block_size) (Grammar (at + 24) flaws.BlockSize)
    (check (nat_le bonus_len largest_bonus) (Grammar (at + 28) flaws.Bonus)
    (check (nat_le slots 1) (Unsupported (at + 34) lacks.LargeDnode)
    (check (raw == 0) (Unsupported (at + 36) lacks.Raw)
    (Ok (heads.Object object kind bonus_kind block_size bonus_len max_block to)))))))

unfoldable pub write_with : (at object kind offset size compression to : ℕ) → Decoded
write_with at object kind offset size compression to =
    check (is_object object) (Grammar (at + 8) flaws.Object)
    (check (is_block_size size) (Grammar (at + 32) flaws.Size)
    (check (compression == 0) (Unsupported (at + 50) lacks.Compressed)
    (Ok (heads.Write object kind offset size to))))

unfoldable pub free_with : (at object offset size to : ℕ) → Decoded
free_with at object offset size to =
    check (is_object object) (Grammar (at + 8) flaws.Object)
    (check (is_range offset size || (size == to_end)) (Grammar (at + 24) flaws.Range)
    (Ok (heads.Free object offset size to)))

unfoldable pub spill_with : (at object size compression to : ℕ) → Decoded
spill_with at object size compression to =
    check (is_object object) (Grammar (at + 8) flaws.Object)
    (check (is_spill_size size) (Grammar (at + 16) flaws.Size)
    (check (compression == 0) (Unsupported (at + 33) lacks.Compressed)
    (Ok (heads.Spill object size to))))

unfoldable pub redact_with : (at features object offset size to : ℕ) → Decoded
redact_with at features object offset size to =
    check (not (bit_and features redacts == 0)) (Grammar at flaws.Redact)
    (check (is_object object) (Grammar (at + 8) flaws.Object)
    (check (is_range offset size) (Grammar (at + 24) flaws.Range)
    (Ok (heads.Redact object offset size to))))

-- the records, from their fields' places
abbrev pub object_of : ℕ → List ℕ → Decoded
object_of at bytes =
    object_with at (number_at bytes 8 8) (number_at bytes 16 4) (number_at bytes 20 4) (number_at bytes 24 4) (number_at bytes 28 4)
    (number_at bytes 34 1) (number_at bytes 36 4) (number_at bytes 56 8) (number_at bytes 40 8)

abbrev pub free_objects_of : List ℕ → Decoded
free_objects_of bytes = Ok (heads.FreeObjects (number_at bytes 8 8) (number_at bytes 16 8) (number_at bytes 24 8))

abbrev pub write_of : ℕ → List ℕ → Decoded
write_of at bytes =
    write_with at (number_at bytes 8 8) (number_at bytes 16 4) (number_at bytes 24 8) (number_at bytes 32 8) (number_at bytes 50 1) (number_at bytes 40 8)

abbrev pub free_of : ℕ → List ℕ → Decoded
free_of at bytes = free_with at (number_at bytes 8 8) (number_at bytes 16 8) (number_at bytes 24 8) (number_at bytes 32 8)

abbrev pub end_of : List ℕ → Decoded
end_of bytes = Ok (heads.End (sums_at bytes 8) (number_at bytes 40 8))

abbrev pub spill_of : ℕ → List ℕ → Decoded
spill_of at bytes = spill_with at (number_at bytes 8 8) (number_at bytes 16 8) (number_at bytes 33 1) (number_at bytes 24 8)

abbrev pub redact_of : ℕ → ℕ → List ℕ → Decoded
redact_of at features bytes = redact_with at features (number_at bytes 8 8) (number_at bytes 16 8) (number_at bytes 24 8) (number_at bytes 32 8)

-- a record but BEGIN, by the number of its type
unfoldable pub typed : (kind at features : ℕ) → List ℕ → Decoded
typed kind at features bytes =
    if kind == begin_type then Err (Grammar at flaws.SecondBegin)
    else if kind == object_type then object_of at bytes
    else if kind == free_objects_type then free_objects_of bytes
    else if kind == write_type then write_of at bytes
    else if kind == free_type then free_of at bytes
    else if kind == end_type then end_of bytes
    else if kind == write_by_reference_type then Err (Unsupported at lacks.ByReference)
    else if kind == spill_type then spill_of at bytes
    else if kind == write_embedded_type then Err (Unsupported at lacks.Embedded)
    else if kind == object_range_type then Err (Unsupported at lacks.ObjectRange)
    else if kind == redact_type then redact_of at features bytes
    else Err (Grammar at flaws.RecordType)

-- what a feature flag that is never accepted stands for
abbrev pub lack_of_feature : ℕ → Lack
lack_of_feature bit =
    if bit == dedup_bit then lacks.Dedup
    else if bit == dedup_props_bit then lacks.DedupProps
    else if bit == embed_data_bit then lacks.EmbedData
    else if bit == lz4_bit then lacks.Lz4
    else if bit == compressed_bit then lacks.Compressed
    else if bit == raw_bit then lacks.Raw
    else lacks.Feature bit

-- the features among these that are never accepted
abbrev pub others_of : ℕ → ℕ
others_of features = bit_and features other_features

-- the length of a payload of BEGIN that this project knows: none, or whole numbers of 64 bits from five to 37
unfoldable pub is_payload_len : ℕ → Bool
is_payload_len len = (len == 0) || (nat_le 40 len && nat_le len 296 && (len % 8 == 0))

-- a resumed or redacted stream has a payload
unfoldable pub needs_payload : ℕ → Bool
needs_payload features = not (bit_and features (resuming + redacts) == 0)

-- the name, up to the first zero byte
unfoldable pub name_in : List ℕ → Option (List ℕ)
name_in field = option_map (λ n. take n field) (position (λ b. b == 0) field)

-- BEGIN's header, as far as its 312 bytes say it
unfoldable pub header_with : (features kind flags time to from : ℕ) → List ℕ → Header
header_with features kind flags time to from name = record {
  kind = kind;
  flags = flags;
  features = features;
  time = time;
  to = to;
  from = from;
  name = name;
  resume = None;
  redact = [];
  from_redact = [];
}

unfoldable pub named : (Header → Decoded) → (List ℕ → Header) → Option (List ℕ) → Decoded
named next make None = Err (Grammar 56 flaws.Name)
named next make (Some name) = next (make name)

-- what BEGIN says of its snapshot and its payload
unfoldable pub snapshot_with : (payload_len features time kind flags to from : ℕ) → List ℕ → Decoded
snapshot_with payload_len features time kind flags to from field =
    check ((kind == 2) || (kind == 3)) (Grammar 32 flaws.Kind)
    (check (not (to == 0)) (Grammar 40 flaws.Guid)
    (named (λ header. check (is_payload_len payload_len) (Unsupported 4 lacks.ForeignPayload)
    (check (not ((payload_len == 0) && needs_payload features)) (Grammar 4 flaws.Payload)
    (Ok (heads.Begin header payload_len))))
    (header_with features kind flags time to from) (name_in field)))

abbrev pub snapshot_of : ℕ → List ℕ → Decoded
snapshot_of features bytes =
    snapshot_with (number_at bytes 4 4) features (number_at bytes 24 8) (number_at bytes 32 4) (number_at bytes 36 4)
    (number_at bytes 40 8) (number_at bytes 48 8) (bytes_at bytes 56 256)

-- before that, what kind of a stream it begins
unfoldable pub begin_with : (record_kind magic header_type features : ℕ) → Decoded → Decoded
begin_with record_kind magic header_type features next =
    check (record_kind == begin_type) (Grammar 0 flaws.RecordType)
    (check (not (magic == reversed_magic)) (Unsupported 8 lacks.BigEndian)
    (check (magic == stream_magic) (Grammar 8 flaws.Magic)
    (check (not (header_type == compound_stream)) (Unsupported 16 lacks.Compound)
    (check (header_type == substream) (Grammar 16 flaws.HeaderType)
    (check (others_of features == 0) (Unsupported 16 (lack_of_feature (trailing_zeros w32 (others_of features))))
    (check (bit_and features large_blocks == 0) (Unsupported 16 lacks.LargeBlocks) next))))))

-- the feature flags: bits 2 to 31 of drr_versioninfo
abbrev pub features_in : List ℕ → ℕ
features_in bytes = number_at bytes 16 8 / 4 % 2 ^ 30

unfoldable pub begin_of : List ℕ → Decoded
begin_of bytes =
    begin_with (number_at bytes 0 4) (number_at bytes 8 8) (number_at bytes 16 8 % 4) (features_in bytes) (snapshot_of (features_in bytes) bytes)

-- what the record at this place says, in a stream with these features
unfoldable pub decoded : (at features : ℕ) → List ℕ → Decoded
decoded at features bytes = if at == 0 then begin_of bytes else typed (number_at bytes 0 4) at features bytes

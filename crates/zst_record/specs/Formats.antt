-- The numbers of zfs_ioctl.h that a stream's records are written in, by value.
use Rattle.std.specs.Prelude.{ℕ, ◌+◌, ◌-◌, ◌^◌}
use Rattle.zst_model.specs.sends.Features.{sa_spill, resuming, redacts}

-- ---- lengths, in bytes

-- a record without its payload (`dmu_replay_record`)
abbrev pub record_len : ℕ
record_len = 312

-- what of it stands before its own checksum, which is that of all bytes of the stream up to there
abbrev pub summed_len : ℕ
summed_len = 280

-- the longest payload: a block's, or a spill block's
abbrev pub longest_payload : ℕ
longest_payload = 131072

-- ---- BEGIN

-- the magic number (DMU_BACKUP_MAGIC)
abbrev pub stream_magic : ℕ
stream_magic = 0x2f5bacbac

-- the same with its bytes reversed: of a stream whose numbers have their highest byte first
abbrev pub reversed_magic : ℕ
reversed_magic = 0xaccbbaf502000000

-- the header types, the lowest two bits of `drr_versioninfo`: one snapshot's stream, and one of many (DMU_SUBSTREAM and DMU_COMPOUNDSTREAM)
abbrev pub substream : ℕ
substream = 1

abbrev pub compound_stream : ℕ
compound_stream = 2

-- ---- records

-- the number of each record's type: `drr_type`, DRR_BEGIN to DRR_REDACT
abbrev pub begin_type : ℕ
begin_type = 0

abbrev pub object_type : ℕ
object_type = 1

abbrev pub free_objects_type : ℕ
free_objects_type = 2

abbrev pub write_type : ℕ
write_type = 3

abbrev pub free_type : ℕ
free_type = 4

abbrev pub end_type : ℕ
end_type = 5

abbrev pub write_by_reference_type : ℕ
write_by_reference_type = 6

abbrev pub spill_type : ℕ
spill_type = 7

abbrev pub write_embedded_type : ℕ
write_embedded_type = 8

abbrev pub object_range_type : ℕ
object_range_type = 9

abbrev pub redact_type : ℕ
redact_type = 10

-- the length of a FREE that goes to its object's end (DMU_OBJECT_END)
abbrev pub to_end : ℕ
to_end = 2 ^ 64 - 1

-- ---- features

-- the bits of the features that have a name (DMU_BACKUP_FEATURE_DEDUP, _DEDUPPROPS, _EMBED_DATA, _LZ4, _LARGE_BLOCKS, _COMPRESSED, _LARGE_DNODE and
-- _RAW), counted from above the header type's; the model names the others
abbrev pub dedup_bit : ℕ
dedup_bit = 0

abbrev pub dedup_props_bit : ℕ
dedup_props_bit = 1

abbrev pub embed_data_bit : ℕ
embed_data_bit = 16

abbrev pub lz4_bit : ℕ
lz4_bit = 17

abbrev pub large_blocks_bit : ℕ
large_blocks_bit = 19

abbrev pub compressed_bit : ℕ
compressed_bit = 22

abbrev pub large_dnode_bit : ℕ
large_dnode_bit = 23

abbrev pub raw_bit : ℕ
raw_bit = 24

-- a stream that may have blocks over 131,072 bytes
abbrev pub large_blocks : ℕ
large_blocks = 2 ^ large_blocks_bit

-- a stream that may have objects of more than one slot
abbrev pub large_dnode : ℕ
large_dnode = 2 ^ large_dnode_bit

-- the features that are accepted
abbrev pub accepted_features : ℕ
accepted_features = sa_spill + resuming + redacts + large_dnode

-- the features that are never accepted: every other of the thirty bits, but that of larger blocks, which has a refusal of its own
abbrev pub other_features : ℕ
other_features = 2 ^ 30 - 1 - (accepted_features + large_blocks)

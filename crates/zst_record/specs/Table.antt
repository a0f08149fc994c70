-- The fields of each record of zfs_ioctl.h's `dmu_replay_record`, one a line: place, width, value.
-- A byte that no line names is 0.
use Rattle.std.specs.Prelude.{ℕ, ◌+◌, ◌*◌, ◌-◌, List, [], ◌∷◌, ◌++◌, length, replicate, slice_index}
use Rattle.zst_bytes.specs.Fields.{Field, number, text, lay, laid}
use Rattle.zst_record.specs.declared.head.Head.{Head}
use Rattle.zst_record.specs.declared.head.Head.TheVariants as heads
use Rattle.zst_record.specs.Formats.{record_len, summed_len, stream_magic, substream, begin_type, object_type, free_objects_type, write_type, free_type, end_type, spill_type, redact_type}

-- a name, then zeros
unfoldable pub padded : ℕ → List ℕ → List ℕ
padded width bytes = bytes ++ replicate (width - length bytes) 0

-- four sums, from a place on
abbrev pub sum_fields : ℕ → List ℕ → List Field
sum_fields place sums =
    number place 8 (slice_index sums 0)
    ∷ number (place + 8) 8 (slice_index sums 1)
    ∷ number (place + 16) 8 (slice_index sums 2)
    ∷ number (place + 24) 8 (slice_index sums 3)
    ∷ []

-- the fields of a record
abbrev pub fields_of : Head → List Field
fields_of (heads.Begin header payload_len) =
    number 0 4 begin_type
    ∷ number 4 4 payload_len
    ∷ number 8 8 stream_magic
    ∷ number 16 8 (4 * header.features + substream)
    ∷ number 24 8 header.time
    ∷ number 32 4 header.kind
    ∷ number 36 4 header.flags
    ∷ number 40 8 header.to
    ∷ number 48 8 header.from
    ∷ text 56 256 (padded 256 header.name)
    ∷ []
fields_of (heads.Object object kind bonus_kind block_size bonus_len max_block to) =
    number 0 4 object_type
    ∷ number 8 8 object
    ∷ number 16 4 kind
    ∷ number 20 4 bonus_kind
    ∷ number 24 4 block_size
    ∷ number 28 4 bonus_len
    ∷ number 34 1 1
    ∷ number 40 8 to
    ∷ number 56 8 max_block
    ∷ []
fields_of (heads.FreeObjects first count to) =
    number 0 4 free_objects_type
    ∷ number 8 8 first
    ∷ number 16 8 count
    ∷ number 24 8 to
    ∷ []
fields_of (heads.Write object kind offset size to) =
    number 0 4 write_type
    ∷ number 8 8 object
    ∷ number 16 4 kind
    ∷ number 24 8 offset
    ∷ number 32 8 size
    ∷ number 40 8 to
    ∷ []
fields_of (heads.Free object offset size to) =
    number 0 4 free_type
    ∷ number 8 8 object
    ∷ number 16 8 offset
    ∷ number 24 8 size
    ∷ number 32 8 to
    ∷ []
fields_of (heads.End sums to) =
    number 0 4 end_type
    ∷ number 8 8 (slice_index sums 0)
    ∷ number 16 8 (slice_index sums 1)
    ∷ number 24 8 (slice_index sums 2)
    ∷ number 32 8 (slice_index sums 3)
    ∷ number 40 8 to
    ∷ []
fields_of (heads.Spill object size to) =
    number 0 4 spill_type
    ∷ number 8 8 object
    ∷ number 16 8 size
    ∷ number 24 8 to
    ∷ []
fields_of (heads.Redact object offset size to) =
    number 0 4 redact_type
    ∷ number 8 8 object
    ∷ number 16 8 offset
    ∷ number 24 8 size
    ∷ number 32 8 to
    ∷ []

-- the 312 bytes of a record, without its checksum
unfoldable pub head_bytes : Head → List ℕ
head_bytes head = laid record_len (fields_of head)

-- the 312 bytes of a record but BEGIN, with its checksum
unfoldable pub sealed_bytes : Head → List ℕ → List ℕ
sealed_bytes head sums = lay (sum_fields summed_len sums) (head_bytes head)

-- What is written is read again, and what passes its checks is in its table's ranges.
use Rattle.std.specs.Prelude.{ℕ, ◌≡◌, ◌⊎◌, ◌==◌, ◌<◌, ◌≤◌, ◌%◌, true, false, not, List, length, Ok}
use Rattle.zst_model.specs.declared.sends.header.Header.{Header}
use Rattle.zst_model.specs.pools.Pool.{IsStated}
use Rattle.zst_model.specs.states.State.{AreBytes}
use Rattle.zst_record.specs.declared.head.Head.{Head}
use Rattle.zst_record.specs.declared.head.Head.TheVariants as heads
use Rattle.zst_record.specs.Formats.{begin_type, compound_stream, compressed_bit, dedup_bit, dedup_props_bit, embed_data_bit, end_type, free_objects_type, free_type, large_blocks, longest_payload, lz4_bit, object_range_type, object_type, other_features, raw_bit, record_len, redact_type, reversed_magic, spill_type, stream_magic, substream, summed_len, write_by_reference_type, write_embedded_type, write_type}
use Rattle.zst_record.specs.declared.TheConstants.{COMPOUND_STREAM, LONGEST_PAYLOAD, MAGIC, RECORD_LEN, REVERSED_MAGIC, SUBSTREAM, SUMMED_LEN}
use Rattle.zst_record.specs.declared.features.TheConstants.{COMPRESSED_BIT, DEDUP_BIT, DEDUP_PROPS_BIT, EMBED_DATA_BIT, LARGE_BLOCKS, LZ4_BIT, OTHER_FEATURES, RAW_BIT}
use Rattle.zst_record.specs.declared.types.TheConstants.{BEGIN, END, FREE, FREE_OBJECTS, OBJECT, OBJECT_RANGE, REDACT, SPILL, WRITE, WRITE_BY_REFERENCE, WRITE_EMBEDDED}
use Rattle.zst_record.specs.Heads.{payload_len}
use Rattle.zst_record.specs.Table.{head_bytes, sealed_bytes}
use Rattle.zst_record.specs.Decoding.{decoded, features_in, is_payload_len}
use Rattle.zst_record.specs.RecordValues.{Fits, IsLater, BeginFits}
use Rattle.zst_record.specs.Payload.{StatesPayload, bare, begin_payload, has_payload, opened, payload_bytes}

-- the record of a BEGIN says that BEGIN
abbrev pub BeginIsDecoded : Type 0
BeginIsDecoded =
    (features : ℕ) (header : Header) (len : ℕ) → BeginFits header len
    → decoded 0 features (head_bytes (heads.Begin header len)) ≡ Ok (heads.Begin header len)

-- the record of another head, with whatever checksum, says that head
abbrev pub RecordIsDecoded : Type 0
RecordIsDecoded =
    (at features : ℕ) (head : Head) (sums : List ℕ) → 0 < at → IsLater head → Fits features head
    → decoded at features (sealed_bytes head sums) ≡ Ok head

-- a payload of whole words, no longer than the longest
abbrev pub IsBounded : Head → Type 0
IsBounded head = (payload_len head % 4 ≡ 0) × (payload_len head ≤ longest_payload)

-- so is that of each record that passes its checks
abbrev pub PayloadIsBounded : Type 0
PayloadIsBounded =
    (at features : ℕ) (bytes : List ℕ) (head : Head) → decoded at features bytes ≡ Ok head → IsBounded head

-- a BEGIN of a stream with these features that fits, and whose name is bytes
abbrev pub Begins : ℕ → Head → Type 0
Begins features (heads.Begin header len) = Fits features (heads.Begin header len) × AreBytes header.name
Begins features head = ⊥

-- a record behind BEGIN that fits a stream with these features
abbrev pub Follows : ℕ → Head → Type 0
Follows features head = IsLater head × Fits features head

-- In a stream's first place what passes its checks is a BEGIN, and fits the features that stand there.
abbrev pub DecodedBegins : Type 0
DecodedBegins =
    (features : ℕ) (bytes : List ℕ) (head : Head) → AreBytes bytes → decoded 0 features bytes ≡ Ok head → Begins (features_in bytes) head

-- In any other place it is another record, and fits the stream's features.
abbrev pub DecodedFits : Type 0
DecodedFits =
    (at features : ℕ) (bytes : List ℕ) (head : Head) → AreBytes bytes → 0 < at → decoded at features bytes ≡ Ok head → Follows features head

-- A header that fits a BEGIN without a payload can be stated, where its name is bytes.
abbrev pub BeginIsStated : Type 0
BeginIsStated = (header : Header) → BeginFits header 0 → AreBytes header.name → IsStated header

-- The payload that is written for a header is read as that header, over what the 312 bytes say.
abbrev pub PayloadIsRead : Type 0
PayloadIsRead = (header : Header) → StatesPayload header → opened (bare header) (begin_payload header) ≡ Ok header

-- a header that was read of these bytes behind a BEGIN that says another one
pub record HasPayload (begun : Header) (bytes : List ℕ) (header : Header) : Type 0 where
  pub stated : StatesPayload header
  pub over : bare header ≡ bare begun
  pub written : (bytes ≡ begin_payload header) ⊎ ((has_payload header ≡ false) × (bytes ≡ payload_bytes header))

-- A payload that is accepted is the one that its header writes, or one that its stream doesn't need and that says nothing.
abbrev pub PayloadIsWritten : Type 0
PayloadIsWritten = (begun header : Header) (bytes : List ℕ) → AreBytes bytes → opened (bare begun) bytes ≡ Ok header → HasPayload begun bytes header

-- A payload has a length that BEGIN can state, and is empty exactly where the stream has none.
pub record PayloadFits (header : Header) : Type 0 where
  pub len : is_payload_len (length (begin_payload header)) ≡ true
  pub none : (length (begin_payload header) == 0) ≡ not (has_payload header)

abbrev pub PayloadHasLength : Type 0
PayloadHasLength = (header : Header) → StatesPayload header → PayloadFits header

-- the lengths and the words of BEGIN in code are those of the definitions
pub record FormatsAreDefined : Type 0 where
  pub record_length : RECORD_LEN ≡ record_len
  pub summed : SUMMED_LEN ≡ summed_len
  pub payload : LONGEST_PAYLOAD ≡ longest_payload
  pub magic : MAGIC ≡ stream_magic
  pub reversed : REVERSED_MAGIC ≡ reversed_magic
  pub one : SUBSTREAM ≡ substream
  pub many : COMPOUND_STREAM ≡ compound_stream

-- so are the numbers of the records' types
pub record TypesAreDefined : Type 0 where
  pub begin : BEGIN ≡ begin_type
  pub object : OBJECT ≡ object_type
  pub free_objects : FREE_OBJECTS ≡ free_objects_type
  -- a block's write: by its bytes, by a reference to another, or embedded
  pub writes : (WRITE ≡ write_type) × (WRITE_BY_REFERENCE ≡ write_by_reference_type) × (WRITE_EMBEDDED ≡ write_embedded_type)
  pub free : FREE ≡ free_type
  pub end : END ≡ end_type
  pub spill : SPILL ≡ spill_type
  pub object_range : OBJECT_RANGE ≡ object_range_type
  pub redact : REDACT ≡ redact_type

-- so are the features of a stream
pub record FeaturesAreDefined : Type 0 where
  pub dedup : DEDUP_BIT ≡ dedup_bit
  pub dedup_props : DEDUP_PROPS_BIT ≡ dedup_props_bit
  pub embed_data : EMBED_DATA_BIT ≡ embed_data_bit
  pub lz4 : LZ4_BIT ≡ lz4_bit
  pub compressed : COMPRESSED_BIT ≡ compressed_bit
  pub raw : RAW_BIT ≡ raw_bit
  pub large_blocks : LARGE_BLOCKS ≡ large_blocks
  pub others : OTHER_FEATURES ≡ other_features

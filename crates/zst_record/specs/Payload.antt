-- BEGIN's payload, which is this project's own: where a resumed stream begins, and the guids of redactions.
use Rattle.std.specs.Prelude.{ℕ, zero, suc, ◌/◌, ◌%◌, ◌^◌, ◌==◌, ◌&&◌, ◌||◌, ◌≡◌, ◌<◌, ◌≤◌, Bool, true, false, not, nat_lt, nat_le, bytes_eq, if◌then◌else◌, Option, Some, None, Result, Ok, Err, List, [], ◌∷◌, ◌++◌, length, take, drop, flat_map, codes, bit_and}
use Rattle.zst_bytes.specs.Bytes.{number_at}
use Rattle.zst_bytes.specs.Words.{word}
use Rattle.zst_model.specs.declared.sends.header.Header.{Header}
use Rattle.zst_model.specs.declared.sends.header.Point.{Point}
use Rattle.zst_model.specs.declared.refusals.faults.Flaw.TheVariants as flaws
use Rattle.zst_model.specs.declared.refusals.faults.Lack.TheVariants as lacks
use Rattle.zst_model.specs.declared.refusals.stream_fault.StreamFault.{StreamFault}
use Rattle.zst_model.specs.declared.refusals.stream_fault.StreamFault.TheVariants.{Grammar, Unsupported}
use Rattle.zst_model.specs.fields.Guids.{is_rising, IsGuidSet}
use Rattle.zst_model.specs.sends.Features.{redacts, resuming}
pub use Rattle.zst_model.specs.sends.Points.{stated_point}
use Rattle.zst_model.specs.states.State.{number_bound}
use Rattle.zst_record.specs.Formats.{record_len}
use Rattle.zst_record.specs.Decoding.{needs_payload}

-- ---- what is written

-- the ASCII bytes that it begins with
abbrev pub payload_magic : List ℕ
payload_magic = codes "ZSTBEG01"

-- the numbers behind the magic: the point at which the stream begins, the counts of both sets of guids, and the guids
abbrev pub payload_fields : Header → List ℕ
payload_fields header =
    (stated_point header.resume).object ∷ (stated_point header.resume).offset
    ∷ length header.redact ∷ length header.from_redact ∷ (header.redact ++ header.from_redact)

-- the magic, and each number in 8 bytes, the lowest byte first
unfoldable pub payload_bytes : Header → List ℕ
payload_bytes header = payload_magic ++ flat_map word (payload_fields header)

-- a stream has a payload where it is resumed or redacted, or where its source is redacted
unfoldable pub has_payload : Header → Bool
has_payload header = needs_payload header.features || nat_lt 0 (length header.from_redact)

-- the payload of BEGIN, which is empty in a stream that has none
unfoldable pub begin_payload : Header → List ℕ
begin_payload header = if has_payload header then payload_bytes header else []

-- ---- which headers can be stated

-- a point that a stream with these features states: that of a resumed stream, in an object of at most 2 ^ 48
pub record StatesPoint (features : ℕ) (point : Point) : Type 0 where
  pub resumed : (bit_and features resuming == 0) ≡ false
  pub object : point.object ≤ number_bound
  pub offset : point.offset < 2 ^ 64

-- a resumed stream has a resume point, and no other has one
abbrev pub StatesResume : ℕ → Option Point → Type 0
StatesResume features None = (bit_and features resuming == 0) ≡ true
StatesResume features (Some point) = StatesPoint features point

-- a header whose resume point and guids a payload can state: it has guids of redaction exactly where it has REDACTED, and those of a source
-- only where it has a source
pub record StatesPayload (header : Header) : Type 0 where
  pub resume : StatesResume header.features header.resume
  pub redact : IsGuidSet header.redact
  pub from_redact : IsGuidSet header.from_redact
  pub redacted : (bit_and header.features redacts == 0) ≡ (length header.redact == 0)
  pub source : 0 < length header.from_redact → 0 < header.from

-- ---- what is read

abbrev pub Opened : Type 0
Opened = Result Header StreamFault

-- where the test fails this fault is the answer, and else what comes next
abbrev pub require : Bool → StreamFault → Opened → Opened
require true fault next = next
require false fault next = Err fault

-- E19 at the payload: another project's
abbrev pub foreign : StreamFault
foreign = Unsupported record_len lacks.ForeignPayload

-- E17 at the payload: its content is wrong
abbrev pub wrong : StreamFault
wrong = Grammar record_len flaws.Payload

-- whether bytes begin with the magic
unfoldable pub has_magic : List ℕ → Bool
has_magic bytes = bytes_eq payload_magic (take 8 bytes)

-- so many numbers, of 8 bytes each
abbrev pub numbers_in : ℕ → List ℕ → List ℕ
numbers_in zero bytes = []
numbers_in (suc count) bytes = number_at bytes 0 8 ∷ numbers_in count (drop 8 bytes)

-- at most sixteen guids that rise
unfoldable pub is_set : List ℕ → Bool
is_set guids = nat_le (length guids) 16 && is_rising guids

-- guids of redaction stand exactly in a redacted stream
unfoldable pub goes_with_redacted : ℕ → List ℕ → Bool
goes_with_redacted features guids = if bit_and features redacts == 0 then length guids == 0 else nat_lt 0 (length guids)

-- a resume point stands in a resumed stream, in an object of at most 2 ^ 48, and zeros in every other
unfoldable pub goes_with_resuming : ℕ → Point → Bool
goes_with_resuming features point =
    if bit_and features resuming == 0 then (point.object == 0) && (point.offset == 0) else nat_le point.object number_bound

-- guids of a source's redaction stand only where there is a source
unfoldable pub goes_with_source : ℕ → List ℕ → Bool
goes_with_source from guids = (length guids == 0) || nat_lt 0 from

-- the header, with what the payload says beside
unfoldable pub said_beside : Header → Point → List ℕ → List ℕ → Header
said_beside header point redact from_redact = record header {
  resume = if bit_and header.features resuming == 0 then None else Some point;
  redact = redact;
  from_redact = from_redact;
}

-- the content of a payload with these counts
unfoldable pub content_with : (header : Header) (point : Point) (count from_count : ℕ) (redact from_redact : List ℕ) → Opened
content_with header point count from_count redact from_redact =
    require ((length redact == count) && (length from_redact == from_count)) wrong
    (require (is_set redact && is_set from_redact) wrong
    (require (goes_with_redacted header.features redact) wrong
    (require (goes_with_resuming header.features point) wrong
    (require (goes_with_source header.from from_redact) wrong
    (Ok (said_beside header point redact from_redact))))))

-- the numbers behind the magic
unfoldable pub content_of : Header → List ℕ → Opened
content_of header (object ∷ offset ∷ count ∷ from_count ∷ guids) =
    content_with header (record { object = object; offset = offset }) count from_count (take count guids) (drop count guids)
content_of header numbers = Err wrong

-- the bytes behind the magic, which are whole numbers
unfoldable pub behind_magic : Header → List ℕ → Opened
behind_magic header rest = require (length rest % 8 == 0) wrong (content_of header (numbers_in (length rest / 8) rest))

-- The header of a stream whose BEGIN says this one in its 312 bytes, and has this payload: with its resume point and its guids, or what is
-- wrong with the payload. Without a payload it is what the 312 bytes say.
unfoldable pub opened : Header → List ℕ → Opened
opened header bytes =
    if length bytes == 0 then require (not (needs_payload header.features)) (Grammar 4 flaws.Payload) (Ok header)
    else require (has_magic bytes) foreign (behind_magic header (drop 8 bytes))

-- the header as the 312 bytes alone say it
unfoldable pub bare : Header → Header
bare header = record header { resume = None; redact = []; from_redact = [] }

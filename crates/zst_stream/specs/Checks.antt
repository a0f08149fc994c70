-- What is checked of each record of a stream: one line a check, in the order in which the checks are made.
use Rattle.std.specs.Prelude.{ℕ, ◌+◌, ◌*◌, ◌/◌, ◌%◌, ◌==◌, ◌&&◌, ◌||◌, Bool, true, false, not, if◌then◌else◌, List, [], ◌∷◌, ◌++◌, length, take, drop, nat_le, nat_lt, Option, Some, None, is_some, bit_and}
use Rattle.std.specs.Int.{w32, trailing_zeros}
use Rattle.zst_fletcher.specs.WeightSum.{weight_sum, parts_of}
use Rattle.zst_bytes.specs.Bytes.{bytes_at, number_at}
use Rattle.zst_model.specs.declared.refusals.faults.Flaw.{Flaw}
use Rattle.zst_model.specs.declared.refusals.faults.Flaw.TheVariants as flaws
use Rattle.zst_model.specs.declared.refusals.faults.Lack.{Lack}
use Rattle.zst_model.specs.declared.refusals.faults.Lack.TheVariants as lacks
use Rattle.zst_model.specs.declared.refusals.stream_fault.StreamFault.{StreamFault}
use Rattle.zst_model.specs.declared.refusals.stream_fault.StreamFault.TheVariants.{Checksum, Grammar, Unsupported}
use Rattle.zst_model.specs.sends.Features.{redacts}
use Rattle.zst_model.specs.states.State.{is_block_size, is_spill_size}
use Rattle.zst_record.specs.Decoding.{features_in, is_object, is_payload_len, is_range, lack_of_feature, name_in, needs_payload, others_of, sums_at}
use Rattle.zst_record.specs.Formats.{large_blocks}
use Rattle.zst_record.specs.Payload.{goes_with_redacted, goes_with_resuming, goes_with_source, has_magic, is_set, numbers_in}
use Rattle.zst_stream.specs.Reading.{same_sums}

-- ---- checks and forms

-- whether a check passes, and what is told where it doesn't
pub record Check : Type 0 where
  pub passes : Bool
  pub told : StreamFault

-- E17 at this byte of the stream
abbrev pub wrong : ℕ → Flaw → Bool → Check
wrong byte flaw passes = record { passes = passes; told = Grammar byte flaw }

-- E19 at this byte
abbrev pub lacking : ℕ → Lack → Bool → Check
lacking byte lack passes = record { passes = passes; told = Unsupported byte lack }

-- E18 at this place of the rest: the sums that stand there have to be those of the text before and of the first n bytes of the rest
abbrev pub summed : List ℕ → List ℕ → ℕ → ℕ → Check
summed before rest n place = record {
  passes = same_sums (parts_of (weight_sum (before ++ take n rest))) (sums_at rest place);
  told = Checksum (length before + place) (sums_at rest place) (parts_of (weight_sum (before ++ take n rest)));
}

-- what is told of the first check of a table that fails
unfoldable pub first_fault : List Check → Option StreamFault
first_fault [] = None
first_fault (check ∷ rest) = if check.passes then first_fault rest else Some check.told

-- a form of records: its checks, the count of bytes that follow the record, and whether it is the last one
pub record Form : Type 0 where
  pub checks : List Check
  pub payload : ℕ
  pub last : Bool

abbrev pub form : List Check → ℕ → Form
form checks payload = record { checks = checks; payload = payload; last = false }

-- a type of records that isn't accepted
abbrev pub refused : Check → Form
refused check = form (check ∷ []) 0

-- ---- BEGIN

abbrev pub begin_checks : List ℕ → List Check
begin_checks bytes =
    wrong 0 flaws.RecordType (number_at bytes 0 4 == 0)
    ∷ lacking 8 lacks.BigEndian (not (number_at bytes 8 8 == 0xaccbbaf502000000))
    ∷ wrong 8 flaws.Magic (number_at bytes 8 8 == 0x2f5bacbac)
    ∷ lacking 16 lacks.Compound (not (number_at bytes 16 8 % 4 == 2))
    ∷ wrong 16 flaws.HeaderType (number_at bytes 16 8 % 4 == 1)
    ∷ lacking 16 (lack_of_feature (trailing_zeros w32 (others_of (features_in bytes)))) (others_of (features_in bytes) == 0)
    ∷ lacking 16 lacks.LargeBlocks (bit_and (features_in bytes) large_blocks == 0)
    ∷ wrong 32 flaws.Kind ((number_at bytes 32 4 == 2) || (number_at bytes 32 4 == 3))
    ∷ wrong 40 flaws.Guid (not (number_at bytes 40 8 == 0))
    ∷ wrong 56 flaws.Name (is_some (name_in (bytes_at bytes 56 256)))
    ∷ lacking 4 lacks.ForeignPayload (is_payload_len (number_at bytes 4 4))
    ∷ wrong 4 flaws.Payload (not ((number_at bytes 4 4 == 0) && needs_payload (features_in bytes)))
    ∷ []

-- of its payload, the numbers behind the magic: the point, the counts of both sets of guids, and the guids
abbrev pub content_checks : (features from : ℕ) → List ℕ → List Check
content_checks features from (object ∷ offset ∷ count ∷ from_count ∷ guids) =
    wrong 312 flaws.Payload ((length (take count guids) == count) && (length (drop count guids) == from_count))
    ∷ wrong 312 flaws.Payload (is_set (take count guids) && is_set (drop count guids))
    ∷ wrong 312 flaws.Payload (goes_with_redacted features (take count guids))
    ∷ wrong 312 flaws.Payload (goes_with_resuming features (record { object = object; offset = offset }))
    ∷ wrong 312 flaws.Payload (goes_with_source from (drop count guids))
    ∷ []
content_checks features from numbers = wrong 312 flaws.Payload false ∷ []

-- the payload of a BEGIN with these features and this source
abbrev pub payload_checks : (features from : ℕ) → List ℕ → List Check
payload_checks features from bytes =
    if length bytes == 0 then wrong 4 flaws.Payload (not (needs_payload features)) ∷ []
    else lacking 312 lacks.ForeignPayload (has_magic bytes)
    ∷ wrong 312 flaws.Payload (length (drop 8 bytes) % 8 == 0)
    ∷ content_checks features from (numbers_in (length (drop 8 bytes) / 8) (drop 8 bytes))

abbrev pub begin_form : List ℕ → Form
begin_form bytes = form (begin_checks bytes) (number_at bytes 4 4)

-- ---- the records behind it, by their 312 bytes and their place in the stream

abbrev pub object_checks : ℕ → List ℕ → List Check
object_checks at bytes =
    wrong (at + 8) flaws.Object (is_object (number_at bytes 8 8))
    ∷ wrong (at + 16) flaws.ObjectType (not (number_at bytes 16 4 == 0))
    ∷ wrong (at + 24) flaws.BlockSize (is_block_size (number_at bytes 24 4))
    ∷ wrong (at + 28) flaws.Bonus (nat_le (number_at bytes 28 4) 320)
    ∷ lacking (at + 34) lacks.LargeDnode (nat_le (number_at bytes 34 1) 1)
    ∷ lacking (at + 36) lacks.Raw (number_at bytes 36 4 == 0)
    ∷ []

abbrev pub write_checks : ℕ → List ℕ → List Check
write_checks at bytes =
    wrong (at + 8) flaws.Object (is_object (number_at bytes 8 8))
    ∷ wrong (at + 32) flaws.Size (is_block_size (number_at bytes 32 8))
    ∷ lacking (at + 50) lacks.Compressed (number_at bytes 50 1 == 0)
    ∷ []

abbrev pub free_checks : ℕ → List ℕ → List Check
free_checks at bytes =
    wrong (at + 8) flaws.Object (is_object (number_at bytes 8 8))
    ∷ wrong (at + 24) flaws.Range (is_range (number_at bytes 16 8) (number_at bytes 24 8) || (number_at bytes 24 8 == 0xffffffffffffffff))
    ∷ []

abbrev pub spill_checks : ℕ → List ℕ → List Check
spill_checks at bytes =
    wrong (at + 8) flaws.Object (is_object (number_at bytes 8 8))
    ∷ wrong (at + 16) flaws.Size (is_spill_size (number_at bytes 16 8))
    ∷ lacking (at + 33) lacks.Compressed (number_at bytes 33 1 == 0)
    ∷ []

abbrev pub redact_checks : (features at : ℕ) → List ℕ → List Check
redact_checks features at bytes =
    wrong at flaws.Redact (not (bit_and features redacts == 0))
    ∷ wrong (at + 8) flaws.Object (is_object (number_at bytes 8 8))
    ∷ wrong (at + 24) flaws.Range (is_range (number_at bytes 16 8) (number_at bytes 24 8))
    ∷ []

-- END states the sums of all that stands before it, and BEGIN's guid
abbrev pub end_checks : List ℕ → List ℕ → List Check
end_checks before rest =
    summed before rest 0 8
    ∷ wrong (length before + 40) flaws.Guid (number_at (take 312 rest) 40 8 == number_at before 40 8)
    ∷ []

-- each type of records, where END has these checks
abbrev pub later_form : (kind features at : ℕ) → List ℕ → List Check → Form
later_form kind features at bytes ends =
    if kind == 0 then refused (wrong at flaws.SecondBegin false)
    else if kind == 1 then form (object_checks at bytes) ((number_at bytes 28 4 + 7) / 8 * 8)
    else if kind == 2 then form [] 0
    else if kind == 3 then form (write_checks at bytes) (number_at bytes 32 8)
    else if kind == 4 then form (free_checks at bytes) 0
    else if kind == 5 then record { checks = ends; payload = 0; last = true }
    else if kind == 6 then refused (lacking at lacks.ByReference false)
    else if kind == 7 then form (spill_checks at bytes) (number_at bytes 16 8)
    else if kind == 8 then refused (lacking at lacks.Embedded false)
    else if kind == 9 then refused (lacking at lacks.ObjectRange false)
    else if kind == 10 then form (redact_checks features at bytes) 0
    else refused (wrong at flaws.RecordType false)

-- a form whose checksum is judged before all else
abbrev pub sealed : Check → Form → Form
sealed sum f = record f { checks = sum ∷ f.checks }

-- ---- the record at the front of the rest, which stands behind these bytes

-- its form: BEGIN's at a stream's front, and elsewhere by its type, its own checksum first
unfoldable pub form_at : List ℕ → List ℕ → Form
form_at before rest =
    if length before == 0 then begin_form (take 312 rest)
    else sealed (summed before rest 280 280)
    (later_form (number_at (take 312 rest) 0 4) (features_in before) (length before) (take 312 rest) (end_checks before rest))

-- the count of its bytes, its payload among them
abbrev pub size_at : List ℕ → List ℕ → ℕ
size_at before rest = 312 + (form_at before rest).payload

-- the checks of its payload: only BEGIN's has any
unfoldable pub checks_behind : List ℕ → List ℕ → List ℕ → List Check
checks_behind before rest payload =
    if length before == 0 then payload_checks (features_in (take 312 rest)) (number_at (take 312 rest) 48 8) payload else []

-- all that can be checked of it: its 312 bytes, and its payload once that is whole
unfoldable pub checks_at : List ℕ → List ℕ → List Check
checks_at before rest =
    (form_at before rest).checks
    ++ (if nat_lt (length rest) (size_at before rest) then [] else checks_behind before rest (take (form_at before rest).payload (drop 312 rest)))

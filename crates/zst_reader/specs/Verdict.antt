-- What the code's verdict says.
use Rattle.std.specs.Prelude.{ℕ, ◌+◌, ◌*◌, ◌%◌, ◌<◌, ◌≤◌, ◌≡◌, Bool, true, false, Option, Some, None, List, ◌++◌, length, take, drop, Result, Ok, Err}
use Rattle.zst_record.specs.Decoding.{Decoded, decoded}
use Rattle.zst_record.specs.Formats.{record_len, longest_payload}
use Rattle.zst_record.specs.Heads.{payload_len, size_of}
use Rattle.zst_record.specs.declared.head.Head.{Head}
use Rattle.zst_model.specs.declared.refusals.stream_fault.StreamFault.{StreamFault}
use Rattle.zst_stream.specs.Reading.{Ruling, wait, refuse, last, more, ruling, closing}
use Rattle.zst_reader.specs.Place.{IsPlaceAfter, IsWithin}
use Rattle.zst_reader.specs.Mark.{mark_after}
use Rattle.zst_reader.specs.declared.mark.Mark.{Mark}
use Rattle.zst_reader.specs.declared.mark.Mark.TheVariants.{Open, Ended}
use Rattle.zst_reader.specs.declared.place.Place.{Place}
use Rattle.zst_reader.specs.declared.verdict.Verdict.{Verdict}
use Rattle.zst_reader.specs.declared.verdict.Verdict.TheVariants as verdicts

-- the head is that of the record at the front of these bytes, which passes the checks of its 312 bytes
pub record IsHeadOf (place : Place) (held : List ℕ) (head : Head) : Type 0 where
  pub there : record_len ≤ length held
  pub decoded : decoded place.at place.features (take record_len held) ≡ Ok head

-- The head was read, or its 312 bytes aren't all there, or the record is refused.
abbrev pub ReadsHead : Place → List ℕ → Head → Result Bool StreamFault → Type 0
ReadsHead place held head (Ok true) = IsHeadOf place held head
ReadsHead place held head (Ok false) = length held < record_len
ReadsHead place held head (Err fault) = (before : List ℕ) → IsPlaceAfter before held place → ruling before held ≡ refuse fault

-- with its payload a record says this, of the same length, and isn't END
pub record Opens (head : Head) (d : Decoded) (whole : Head) : Type 0 where
  pub says : d ≡ Ok whole
  pub len : payload_len whole ≡ payload_len head
  pub later : closing whole ≡ None

-- The record says no more with its payload, or says this, or its payload is wrong.
abbrev pub SaysWith : Head → Decoded → Result (Option Head) StreamFault → Type 0
SaysWith head d (Ok None) = d ≡ Ok head
SaysWith head d (Ok (Some whole)) = Opens head d whole
SaysWith head d (Err fault) = d ≡ Err fault

-- the ruling on a record of this head that the verdict is
abbrev pub ruled : Head → Verdict → Ruling
ruled head verdicts.Wait = wait
ruled head (verdicts.Refuse fault) = refuse fault
ruled head (verdicts.Last next) = last head
ruled head (verdicts.More next) = more head

-- where a record is handed out, the place is the one behind it
abbrev pub LeadsOn : List ℕ → List ℕ → Head → Verdict → Type 0
LeadsOn before held head verdicts.Wait = Unit {0}
LeadsOn before held head (verdicts.Refuse fault) = Unit {0}
LeadsOn before held head (verdicts.Last next) = IsPlaceAfter (before ++ take (size_of head) held) (drop (size_of head) held) next
LeadsOn before held head (verdicts.More next) = IsPlaceAfter (before ++ take (size_of head) held) (drop (size_of head) held) next

-- a record but END, with a payload of whole words that fits the buffer
pub record IsOpenable (head : Head) : Type 0 where
  pub words : payload_len head % 4 ≡ 0
  pub short : payload_len head ≤ longest_payload
  pub later : closing head ≡ None

-- the record is there, and its mark and the place behind it fit
pub record Covers (place : Place) (count : ℕ) (head : Head) (next : Place) (stand : Mark) : Type 0 where
  pub within : IsWithin count (size_of head)
  pub at : next.at ≡ place.at + size_of head
  pub mark : mark_after head ≡ stand

-- Where more is wanted, the longest record and the next 312 bytes aren't there.
abbrev pub FitsIn : Place → ℕ → Head → Verdict → Type 0
FitsIn place count head verdicts.Wait = count < longest_payload + 2 * record_len
FitsIn place count head (verdicts.Refuse fault) = Unit {0}
FitsIn place count head (verdicts.Last next) = Covers place count head next Ended × (payload_len head ≡ 0)
FitsIn place count head (verdicts.More next) = Covers place count head next Open

-- The verdict on the record of this head at the front of the held bytes: it is the ruling on them behind whatever bytes lead to this place,
-- and where the record is handed out, it leads to the place behind it.
pub record Judges (place : Place) (held : List ℕ) (head : Head) (rule : List ℕ → Ruling) (verdict : Verdict) : Type 0 where
  pub rules : (before : List ℕ) → IsPlaceAfter before held place → ruled head verdict ≡ rule before
  pub leads : (before : List ℕ) → IsPlaceAfter before held place → LeadsOn before held head verdict
  pub fits : FitsIn place (length held) head verdict

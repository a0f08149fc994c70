-- A stream, read from its front: which records are covered, and how the reading ends.
use Rattle.std.specs.Prelude.{ℕ, ◌+◌, ◌==◌, ◌&&◌, ◌≡◌, ◌⊎◌, Bool, if◌then◌else◌, List, [], ◌∷◌, ◌++◌, length, take, drop, Option, Some, None, Ok, Err, nat_lt, slice_index, zero, suc}
use Rattle.zst_fletcher.specs.WeightSum.{weight_sum, parts_of}
use Rattle.zst_bytes.specs.Bytes.{number_at}
use Rattle.zst_model.specs.declared.refusals.faults.Flaw.TheVariants as flaws
use Rattle.zst_record.specs.Formats.{record_len, summed_len}
use Rattle.zst_record.specs.Heads.{Covered, payload_len, size_of}
use Rattle.zst_record.specs.Decoding.{Decoded, sums_at, decoded, features_in}
use Rattle.zst_record.specs.Payload as payloads
use Rattle.zst_record.specs.Payload.{Opened}
use Rattle.zst_record.specs.declared.head.Head.{Head}
use Rattle.zst_record.specs.declared.head.Head.TheVariants as heads
use Rattle.zst_model.specs.declared.refusals.stream_fault.StreamFault.{StreamFault}
use Rattle.zst_model.specs.declared.refusals.stream_fault.StreamFault.TheVariants.{Checksum, Grammar}

-- ---- outcomes

-- how a reading ends: more bytes are wanted, a check failed, or END was covered
pub data Outcome : Type 0 where
  waiting : Outcome
  faulty : StreamFault → Outcome
  complete : Outcome

-- the covered records of a text, in their order, and how it ends
pub record Reading : Type 0 where
  pub covered : List Covered
  pub outcome : Outcome

abbrev pub ends : Outcome → Reading
ends o = record { covered = []; outcome = o }

abbrev pub prepend : List Covered → Reading → Reading
prepend cs r = record { covered = cs ++ r.covered; outcome = r.outcome }

-- ---- what is found at a record

-- its bytes aren't all there; it is refused; it is END and covered; or it is another record and covered
pub data Ruling : Type 0 where
  wait : Ruling
  refuse : StreamFault → Ruling
  last : Head → Ruling
  more : Head → Ruling

-- what comes next, unless there is a fault
abbrev pub unless : Option StreamFault → Ruling → Ruling
unless None next = next
unless (Some fault) next = refuse fault

abbrev pub same_sums : List ℕ → List ℕ → Bool
same_sums s t =
    (slice_index s 0 == slice_index t 0) && (slice_index s 1 == slice_index t 1)
    && (slice_index s 2 == slice_index t 2) && (slice_index s 3 == slice_index t 3)

-- what is wrong with sums that are stated at a place, where others were found
abbrev pub compared : ℕ → List ℕ → List ℕ → Option StreamFault
compared at stated found = if same_sums found stated then None else Some (Checksum at stated found)

-- What is wrong with the sums that stand at a place of the rest: they have to be those of the text before and of the
-- first n bytes of the rest.
unfoldable pub sum_fault : List ℕ → List ℕ → ℕ → ℕ → Option StreamFault
sum_fault before rest n place = compared (length before + place) (sums_at rest place) (parts_of (weight_sum (before ++ take n rest)))

-- E17: END states another guid than BEGIN
abbrev pub other_guid : List ℕ → StreamFault
other_guid before = Grammar (length before + 40) flaws.Guid

-- what END states
pub record Closing : Type 0 where
  pub sums : List ℕ
  pub to : ℕ

-- what END states, where the record is END
abbrev pub closing : Head → Option Closing
closing (heads.Begin header len) = None
closing (heads.Object object kind bonus_kind block_size bonus_len max_block to) = None
closing (heads.FreeObjects first count to) = None
closing (heads.Write object kind offset size to) = None
closing (heads.Free object offset size to) = None
closing (heads.End sums to) = Some (record { sums = sums; to = to })
closing (heads.Spill object size to) = None
closing (heads.Redact object offset size to) = None

-- BEGIN with the header that it says with its payload
abbrev pub begun : ℕ → Opened → Decoded
begun len (Ok header) = Ok (heads.Begin header len)
begun len (Err fault) = Err fault

-- the record with what its payload says beside: only BEGIN's payload says more
unfoldable pub opened : Head → List ℕ → Decoded
opened (heads.Begin header len) payload = begun len (payloads.opened header payload)
opened head payload = Ok head

-- A record but END is covered once the next record is there with the right checksum.
unfoldable pub sealed_next : List ℕ → List ℕ → Head → Ruling
sealed_next before rest head =
    if nat_lt (length rest) (size_of head + record_len) then wait
    else unless (sum_fault before rest (size_of head + summed_len) (size_of head + summed_len)) (more head)

abbrev pub next_by : List ℕ → List ℕ → Decoded → Ruling
next_by before rest (Ok head) = sealed_next before rest head
next_by before rest (Err fault) = refuse fault

-- Before that its payload is whole, and passes its own checks.
unfoldable pub cover : List ℕ → List ℕ → Head → Ruling
cover before rest head =
    if nat_lt (length rest) (size_of head) then wait
    else next_by before rest (opened head (take (payload_len head) (drop record_len rest)))

-- END states the sums of all that stands before it, and BEGIN's guid.
unfoldable pub finish : List ℕ → List ℕ → Head → Closing → Ruling
finish before rest head c =
    unless (sum_fault before rest 0 8) (if c.to == number_at before 40 8 then last head else refuse (other_guid before))

abbrev pub rule_by : List ℕ → List ℕ → Head → Option Closing → Ruling
rule_by before rest head None = cover before rest head
rule_by before rest head (Some c) = finish before rest head c

abbrev pub judged : List ℕ → List ℕ → Decoded → Ruling
judged before rest (Ok head) = rule_by before rest head (closing head)
judged before rest (Err fault) = refuse fault

-- What is found at the front of the rest: a record is judged once its bytes but the payload's are there.
unfoldable pub ruling : List ℕ → List ℕ → Ruling
ruling before rest =
    if nat_lt (length rest) record_len then wait
    else judged before rest (decoded (length before) (features_in before) (take record_len rest))

-- ---- readings

abbrev pub covered_at : ℕ → List ℕ → List ℕ → Head → Covered
covered_at index before rest head =
    record { head = head; at = length before; index = index; payload = take (payload_len head) (drop record_len rest) }

abbrev pub covered_last : ℕ → List ℕ → Head → Covered
covered_last index before head = record { head = head; at = length before; index = index; payload = [] }

-- what a ruling makes of the reading of what follows
unfoldable pub after : ℕ → List ℕ → List ℕ → Ruling → (Head → Reading) → Reading
after index before rest wait next = ends waiting
after index before rest (refuse fault) next = ends (faulty fault)
after index before rest (last head) next = prepend (covered_last index before head ∷ []) (ends complete)
after index before rest (more head) next = prepend (covered_at index before rest head ∷ []) (next head)

-- the reading of at most so many records
unfoldable pub reading_from : ℕ → ℕ → List ℕ → List ℕ → Reading
reading_from zero index before rest = ends waiting
reading_from (suc fuel) index before rest =
    after index before rest (ruling before rest)
    (λ head. reading_from fuel (index + 1) (before ++ take (size_of head) rest) (drop (size_of head) rest))

-- the reading of a text, which has no more records than bytes
unfoldable pub reading : List ℕ → Reading
reading text = reading_from (length text + 1) 0 [] text

-- One reading is a front of another: it has the same outcome and the same records, or it waits and has a front of them.
pub record FrontOf (short long : Reading) : Type 0 where
  pub others : List Covered
  pub covered : long.covered ≡ short.covered ++ others
  pub outcome : (short.outcome ≡ waiting) ⊎ ((short.outcome ≡ long.outcome) × (others ≡ []))

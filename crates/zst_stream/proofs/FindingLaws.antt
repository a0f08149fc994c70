-- A reading refuses what is in the stream itself.
use Rattle.std.specs.Prelude.{ℕ, zero, suc, ◌+◌, ◌/◌, ◌%◌, ◌==◌, ◌&&◌, ◌||◌, Bool, true, false, not, cond, List, [], ◌∷◌, ◌++◌, length, take, drop, Option, Some, None, Ok, Err, bit_and, nat_le, nat_lt}
use Rattle.zst_bytes.specs.Bytes.{bytes_at, number_at}
use Rattle.zst_fletcher.specs.WeightSum.{weight_sum, parts_of}
use Rattle.zst_record.specs.Heads.{payload_len, size_of}
use Rattle.zst_model.specs.declared.refusals.faults.Flaw.TheVariants as flaws
use Rattle.zst_model.specs.declared.refusals.stream_fault.StreamFault.{StreamFault}
use Rattle.zst_model.specs.declared.refusals.stream_fault.StreamFault.TheVariants as faults
use Rattle.zst_model.specs.declared.sends.header.Header.{Header}
use Rattle.zst_model.specs.sends.Features.{redacts}
use Rattle.zst_model.specs.states.State.{is_block_size, is_spill_size, largest_bonus}
use Rattle.zst_record.specs.Decoding.{Decoded, begin_of, begin_with, check, decoded, features_in, free_with, header_with, is_object, is_range, is_payload_len, name_in, named, needs_payload, object_with, others_of, redact_with, snapshot_with, spill_with, sums_at, typed, write_with}
use Rattle.zst_record.specs.Formats.{begin_type, compound_stream, end_type, free_objects_type, free_type, large_blocks, object_range_type, object_type, redact_type, reversed_magic, spill_type, stream_magic, substream, to_end, write_by_reference_type, write_embedded_type, write_type}
use Rattle.zst_record.specs.Payload as payloads
use Rattle.zst_record.specs.Payload.{Opened, behind_magic, content_of, content_with, foreign, goes_with_redacted, goes_with_resuming, goes_with_source, has_magic, is_set, numbers_in, require, wrong}
use Rattle.zst_record.specs.declared.head.Head.{Head}
use Rattle.zst_record.specs.declared.head.Head.TheVariants as heads
use Rattle.zst_stream.specs.Reading.{Reading, Ruling, Closing, wait, refuse, last, more, unless, same_sums, sum_fault, begun, other_guid, opened, sealed_next, next_by, cover, finish, rule_by, closing, judged, ruling, after, reading_from, reading}
use Rattle.zst_stream.specs.Findings.{IsFound, FindsAtEnd}

-- what is refused is such a fault
abbrev Finds : Ruling → Type 0
Finds wait = Unit {0}
Finds (refuse fault) = IsFound fault
Finds (last head) = Unit {0}
Finds (more head) = Unit {0}

Finds-cond : (b : Bool) (x y : Ruling) → Finds x → Finds y → Finds (cond b x y)
Finds-cond true x y h k = h
Finds-cond false x y h k = k

Finds-compared : (b : Bool) (at : ℕ) (stated found : List ℕ) (next : Ruling) → Finds next
    → Finds (unless (cond b None (Some (faults.Checksum at stated found))) next)
Finds-compared true at stated found next h = h
Finds-compared false at stated found next h = tt

Finds-sum_fault : (before rest : List ℕ) (n place : ℕ) (next : Ruling) → Finds next → Finds (unless (sum_fault before rest n place) next)
unfolding sum_fault
Finds-sum_fault before rest n place next h =
    let found = parts_of (weight_sum (before ++ take n rest)) in
    Finds-compared (same_sums found (sums_at rest place)) (length before + place) (sums_at rest place) found next h

-- what fails a check is such a fault
abbrev Fails : Decoded → Type 0
Fails (Ok head) = Unit {0}
Fails (Err fault) = IsFound fault

Fails-check : (b : Bool) (fault : StreamFault) (next : Decoded) → IsFound fault → Fails next → Fails (check b fault next)
Fails-check true fault next h k = k
Fails-check false fault next h k = h

Fails-cond : (b : Bool) (x y : Decoded) → Fails x → Fails y → Fails (cond b x y)
Fails-cond true x y h k = h
Fails-cond false x y h k = k

Fails-named : (next : Header → Decoded) (make : List ℕ → Header) (name : Option (List ℕ)) → ((header : Header) → Fails (next header)) → Fails (named next make name)
unfolding named
Fails-named next make None k = tt
Fails-named next make (Some name) k = k (make name)

Fails-object : (at object kind bonus_kind block_size bonus_len slots raw max_block to : ℕ) → Fails (object_with at object kind bonus_kind block_size bonus_len slots raw max_block to)
unfolding object_with
Fails-object at object kind bonus_kind block_size bonus_len slots raw max_block to =
    Fails-check (is_object object) _ _ tt (Fails-check (not (kind == 0)) _ _ tt (Fails-check (is_block_size block_size) _ _ tt
    (Fails-check (nat_le bonus_len largest_bonus) _ _ tt (Fails-check (nat_le slots 1) _ _ tt (Fails-check (raw == 0) _ _ tt tt)))))

Fails-write : (at object kind offset size compression to : ℕ) → Fails (write_with at object kind offset size compression to)
unfolding write_with
Fails-write at object kind offset size compression to =
    Fails-check (is_object object) _ _ tt (Fails-check (is_block_size size) _ _ tt (Fails-check (compression == 0) _ _ tt tt))

Fails-free : (at object offset size to : ℕ) → Fails (free_with at object offset size to)
unfolding free_with
Fails-free at object offset size to = Fails-check (is_object object) _ _ tt (Fails-check (is_range offset size || (size == to_end)) _ _ tt tt)

Fails-spill : (at object size compression to : ℕ) → Fails (spill_with at object size compression to)
unfolding spill_with
Fails-spill at object size compression to =
    Fails-check (is_object object) _ _ tt (Fails-check (is_spill_size size) _ _ tt (Fails-check (compression == 0) _ _ tt tt))

Fails-redact : (at features object offset size to : ℕ) → Fails (redact_with at features object offset size to)
unfolding redact_with
Fails-redact at features object offset size to =
    Fails-check (not (bit_and features redacts == 0)) _ _ tt (Fails-check (is_object object) _ _ tt (Fails-check (is_range offset size) _ _ tt tt))

Fails-typed : (kind at features : ℕ) (bytes : List ℕ) → Fails (typed kind at features bytes)
unfolding typed
Fails-typed kind at features bytes =
    Fails-cond (kind == begin_type) _ _ tt
    (Fails-cond (kind == object_type) _ _ (Fails-object at _ _ _ _ _ _ _ _ _)
    (Fails-cond (kind == free_objects_type) _ _ tt
    (Fails-cond (kind == write_type) _ _ (Fails-write at _ _ _ _ _ _)
    (Fails-cond (kind == free_type) _ _ (Fails-free at _ _ _ _)
    (Fails-cond (kind == end_type) _ _ tt
    (Fails-cond (kind == write_by_reference_type) _ _ tt
    (Fails-cond (kind == spill_type) _ _ (Fails-spill at _ _ _ _)
    (Fails-cond (kind == write_embedded_type) _ _ tt
    (Fails-cond (kind == object_range_type) _ _ tt
    (Fails-cond (kind == redact_type) _ _ (Fails-redact at features _ _ _ _) tt))))))))))

Fails-snapshot : (payload_len features time kind flags to from : ℕ) (field : List ℕ) → Fails (snapshot_with payload_len features time kind flags to from field)
unfolding snapshot_with
Fails-snapshot payload_len features time kind flags to from field =
    Fails-check ((kind == 2) || (kind == 3)) _ _ tt
    (Fails-check (not (to == 0)) _ _ tt
    (Fails-named _ (header_with features kind flags time to from) (name_in field)
    (λ header. Fails-check (is_payload_len payload_len) _ _ tt (Fails-check (not ((payload_len == 0) && needs_payload features)) _ _ tt tt))))

Fails-begin : (record_kind magic header_type features : ℕ) (next : Decoded) → Fails next → Fails (begin_with record_kind magic header_type features next)
unfolding begin_with
Fails-begin record_kind magic header_type features next k =
    Fails-check (record_kind == begin_type) _ _ tt
    (Fails-check (not (magic == reversed_magic)) _ _ tt
    (Fails-check (magic == stream_magic) _ _ tt
    (Fails-check (not (header_type == compound_stream)) _ _ tt
    (Fails-check (header_type == substream) _ _ tt
    (Fails-check (others_of features == 0) _ _ tt
    (Fails-check (bit_and features large_blocks == 0) _ next tt k))))))

Fails-decoded : (at features : ℕ) (bytes : List ℕ) → Fails (decoded at features bytes)
unfolding decoded begin_of
Fails-decoded at features bytes =
    Fails-cond (at == 0) _ _
    (Fails-begin (number_at bytes 0 4) (number_at bytes 8 8) (number_at bytes 16 8 % 4) (features_in bytes) _
    (Fails-snapshot (number_at bytes 4 4) (features_in bytes) (number_at bytes 24 8) (number_at bytes 32 4) (number_at bytes 36 4) (number_at bytes 40 8) (number_at bytes 48 8) (bytes_at bytes 56 256)))
    (Fails-typed (number_at bytes 0 4) at features bytes)

-- so it is of BEGIN's payload
abbrev FailsIn : Opened → Type 0
FailsIn (Ok header) = Unit {0}
FailsIn (Err fault) = IsFound fault

FailsIn-require : (b : Bool) (fault : StreamFault) (next : Opened) → IsFound fault → FailsIn next → FailsIn (require b fault next)
FailsIn-require true fault next h k = k
FailsIn-require false fault next h k = h

FailsIn-content : (header : Header) (numbers : List ℕ) → FailsIn (content_of header numbers)
unfolding content_of content_with
FailsIn-content header [] = tt
FailsIn-content header (object ∷ []) = tt
FailsIn-content header (object ∷ offset ∷ []) = tt
FailsIn-content header (object ∷ offset ∷ count ∷ []) = tt
FailsIn-content header (object ∷ offset ∷ count ∷ from_count ∷ guids) =
    FailsIn-require ((length (take count guids) == count) && (length (drop count guids) == from_count)) wrong _ tt
    (FailsIn-require (is_set (take count guids) && is_set (drop count guids)) wrong _ tt
    (FailsIn-require (goes_with_redacted header.features (take count guids)) wrong _ tt
    (FailsIn-require (goes_with_resuming header.features (record { object = object; offset = offset })) wrong _ tt
    (FailsIn-require (goes_with_source header.from (drop count guids)) wrong _ tt tt))))

FailsIn-opened : (header : Header) (bytes : List ℕ) → FailsIn (payloads.opened header bytes)
unfolding payloads.opened payloads.behind_magic
FailsIn-opened header bytes = go (length bytes == 0)
  where
    go : (b : Bool) → FailsIn (cond b (require (not (needs_payload header.features)) (faults.Grammar 4 flaws.Payload) (Ok header)) (require (has_magic bytes) foreign (behind_magic header (drop 8 bytes))))
    go true = FailsIn-require (not (needs_payload header.features)) (faults.Grammar 4 flaws.Payload) (Ok header) tt tt
    go false =
        let rest = drop 8 bytes in
        FailsIn-require (has_magic bytes) foreign (behind_magic header rest) tt
        (FailsIn-require (length rest % 8 == 0) wrong (content_of header (numbers_in (length rest / 8) rest)) tt (FailsIn-content header (numbers_in (length rest / 8) rest)))

Fails-begun : (len : ℕ) (o : Opened) → FailsIn o → Fails (begun len o)
Fails-begun len (Ok header) h = tt
Fails-begun len (Err fault) h = h

Fails-opened : (head : Head) (payload : List ℕ) → Fails (opened head payload)
unfolding opened
Fails-opened (heads.Begin header len) payload = Fails-begun len (payloads.opened header payload) (FailsIn-opened header payload)
Fails-opened (heads.Object object kind bonus_kind block_size bonus_len max_block to) payload = tt
Fails-opened (heads.FreeObjects first count to) payload = tt
Fails-opened (heads.Write object kind offset size to) payload = tt
Fails-opened (heads.Free object offset size to) payload = tt
Fails-opened (heads.End sums to) payload = tt
Fails-opened (heads.Spill object size to) payload = tt
Fails-opened (heads.Redact object offset size to) payload = tt

Finds-next_by : (before rest : List ℕ) (d : Decoded) → Fails d → Finds (next_by before rest d)
unfolding sealed_next
Finds-next_by before rest (Ok head) h =
    let end = size_of head + 280 in
    Finds-cond (nat_lt (length rest) (size_of head + 312)) wait (unless (sum_fault before rest end end) (more head)) tt
    (Finds-sum_fault before rest end end (more head) tt)
Finds-next_by before rest (Err fault) h = h

Finds-rule_by : (before rest : List ℕ) (head : Head) (o : Option Closing) → Finds (rule_by before rest head o)
unfolding cover finish
Finds-rule_by before rest head None =
    let whole = opened head (take (payload_len head) (drop 312 rest)) in
    Finds-cond (nat_lt (length rest) (size_of head)) wait (next_by before rest whole) tt (Finds-next_by before rest whole (Fails-opened head (take (payload_len head) (drop 312 rest))))
Finds-rule_by before rest head (Some c) =
    let same = c.to == number_at before 40 8 in
    let told = cond same (last head) (refuse (other_guid before)) in
    Finds-sum_fault before rest 0 8 told (Finds-cond same (last head) (refuse (other_guid before)) tt tt)

Finds-judged : (before rest : List ℕ) (d : Decoded) → Fails d → Finds (judged before rest d)
Finds-judged before rest (Ok head) h = Finds-rule_by before rest head (closing head)
Finds-judged before rest (Err fault) h = h

Finds-ruling : (before rest : List ℕ) → Finds (ruling before rest)
unfolding ruling
Finds-ruling before rest =
    let says = decoded (length before) (features_in before) (take 312 rest) in
    Finds-cond (nat_lt (length rest) 312) wait (judged before rest says) tt (Finds-judged before rest says (Fails-decoded (length before) (features_in before) (take 312 rest)))

Finds-after : (index : ℕ) (before rest : List ℕ) (r : Ruling) (next : Head → Reading)
    → Finds r → ((head : Head) → FindsAtEnd (next head).outcome) → FindsAtEnd (after index before rest r next).outcome
unfolding after
Finds-after index before rest wait next h k = tt
Finds-after index before rest (refuse fault) next h k = h
Finds-after index before rest (last head) next h k = tt
Finds-after index before rest (more head) next h k = k head

Finds-reading_from : (fuel index : ℕ) (before rest : List ℕ) → FindsAtEnd (reading_from fuel index before rest).outcome
unfolding reading_from
Finds-reading_from zero index before rest = tt
Finds-reading_from (suc fuel) index before rest =
    Finds-after index before rest (ruling before rest)
    (λ head. reading_from fuel (index + 1) (before ++ take (size_of head) rest) (drop (size_of head) rest))
    (Finds-ruling before rest)
    (λ head. Finds-reading_from fuel (index + 1) (before ++ take (size_of head) rest) (drop (size_of head) rest))

-- a reading that ends by a fault ends by one of the stream itself
pub Finds-reading : (text : List ℕ) → FindsAtEnd (reading text).outcome
unfolding reading
Finds-reading text = Finds-reading_from (length text + 1) 0 [] text

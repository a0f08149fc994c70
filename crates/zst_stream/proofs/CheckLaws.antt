-- What a record's checks tell is what its table tells.
use Rattle.std.proofs.Common.{◌≡◌, ℕ, ◌+◌, ◌*◌, ◌/◌, ◌%◌, ◌==◌, ◌&&◌, ◌||◌, Bool, true, false, not, cond, List, [], ◌∷◌, length, take, drop, Option, Some, None, Ok, Err, refl}
use Rattle.std.specs.Prelude.{nat_le, is_some, bit_and}
use Rattle.zst_bytes.specs.Bytes.{bytes_at, number_at}
use Rattle.zst_model.specs.declared.refusals.faults.Flaw.TheVariants as flaws
use Rattle.zst_model.specs.declared.refusals.faults.Lack.TheVariants as lacks
use Rattle.zst_model.specs.declared.refusals.stream_fault.StreamFault.{StreamFault}
use Rattle.zst_model.specs.declared.refusals.stream_fault.StreamFault.TheVariants as faults
use Rattle.zst_model.specs.declared.sends.header.Header.{Header}
use Rattle.zst_model.specs.sends.Features.{redacts}
use Rattle.zst_model.specs.states.State.{is_block_size, is_spill_size}
use Rattle.zst_record.specs.Decoding.{Decoded, begin_of, begin_with, check, end_of, features_in, free_objects_of, free_of, free_with, header_with, is_object, is_range, is_payload_len, name_in, named, needs_payload, object_of, object_with, others_of, redact_of, redact_with, snapshot_with, spill_of, spill_with, typed, write_of, write_with}
use Rattle.zst_record.specs.Formats.{begin_type, end_type, free_objects_type, free_type, large_blocks, object_range_type, object_type, redact_type, reversed_magic, spill_type, stream_magic, to_end, write_by_reference_type, write_embedded_type, write_type}
use Rattle.zst_record.specs.Heads.{payload_len}
use Rattle.zst_record.specs.Payload as payloads
use Rattle.zst_record.specs.Payload.{Opened, behind_magic, content_of, content_with, foreign, goes_with_redacted, goes_with_resuming, goes_with_source, has_magic, is_set, numbers_in, require, wrong}
use Rattle.zst_record.specs.declared.head.Head.{Head}
use Rattle.zst_record.specs.declared.head.Head.TheVariants as heads
use Rattle.zst_stream.specs.Checks.{Check, Form, begin_checks, content_checks, first_fault, free_checks, later_form, object_checks, payload_checks, redact_checks, spill_checks, write_checks}
use Rattle.zst_stream.specs.Reading.{Closing, begun, closing, opened}

-- ---- what a table tells, beside what a record says

-- END states this guid, and nothing follows it
abbrev pub ClosesWith : ℕ → (List ℕ → Option StreamFault) → ℕ → Option Closing → Type 0
ClosesWith to behind size None = Unit {0}
ClosesWith to behind size (Some c) = (c.to ≡ to) × (size ≡ 0) × ((payload : List ℕ) → behind payload ≡ None)

-- what is told of END's own checks is told of END alone
abbrev pub told_of : Option StreamFault → Option Closing → Option StreamFault
told_of ends None = None
told_of ends (Some c) = ends

-- a payload that is opened passes, and leaves the record as long as it was
abbrev pub OpensBy : Option StreamFault → ℕ → Decoded → Type 0
OpensBy told size (Ok whole) = (told ≡ None) × (payload_len whole ≡ size)
OpensBy told size (Err fault) = told ≡ Some fault

-- a record that was decoded passes its table, but for END's own checks
pub record IsSaid (to : ℕ) (ends : Option StreamFault) (behind : List ℕ → Option StreamFault) (told : Option StreamFault) (size : ℕ) (last : Bool) (head : Head) : Type 0 where
  pub passes : told ≡ told_of ends (closing head)
  pub len : payload_len head ≡ size
  pub final : last ≡ is_some (closing head)
  pub closes : ClosesWith to behind size (closing head)
  pub opens : (payload : List ℕ) → OpensBy (behind payload) size (opened head payload)

-- a record that isn't decoded fails it, by the same fault
abbrev pub Says : ℕ → Option StreamFault → (List ℕ → Option StreamFault) → Option StreamFault → ℕ → Bool → Decoded → Type 0
Says to ends behind told size last (Ok head) = IsSaid to ends behind told size last head
Says to ends behind told size last (Err fault) = told ≡ Some fault

says-check : (to : ℕ) (ends : Option StreamFault) (behind : List ℕ → Option StreamFault) (told : Option StreamFault) (size : ℕ) (last b : Bool) (fault : StreamFault) (next : Decoded)
    → Says to ends behind told size last next → Says to ends behind (cond b told (Some fault)) size last (check b fault next)
says-check to ends behind told size last true fault next h = h
says-check to ends behind told size last false fault next h = refl

says-cond : (to : ℕ) (ends : Option StreamFault) (behind : List ℕ → Option StreamFault) (b : Bool) (f g : Form) (x y : Decoded)
    → Says to ends behind (first_fault f.checks) f.payload f.last x → Says to ends behind (first_fault g.checks) g.payload g.last y
    → Says to ends behind (first_fault (cond b f g).checks) (cond b f g).payload (cond b f g).last (cond b x y)
says-cond to ends behind true f g x y h k = h
says-cond to ends behind false f g x y h k = k

-- ---- the records behind BEGIN

-- nothing of them is told behind their 312 bytes
abbrev pub none_behind : List ℕ → Option StreamFault
none_behind payload = None

abbrev SaysLater : ℕ → Option StreamFault → Option StreamFault → ℕ → Bool → Decoded → Type 0
SaysLater to ends told size last d = Says to ends none_behind told size last d

said-middle : (to : ℕ) (ends : Option StreamFault) (size : ℕ) (head : Head) → closing head ≡ None → payload_len head ≡ size → ((payload : List ℕ) → opened head payload ≡ Ok head)
    → IsSaid to ends none_behind None size false head
said-middle to ends size head middle len opens = record {
  passes = rw middle refl;
  len = len;
  final = rw middle refl;
  closes = rw middle tt;
  opens = λ payload. rw (opens payload) (refl, len);
}

module _ (to : ℕ) (ends : Option StreamFault) where
  says-object : (at : ℕ) (bytes : List ℕ) → SaysLater to ends (first_fault (object_checks at bytes)) ((number_at bytes 28 4 + 7) / 8 * 8) false (object_of at bytes)
  unfolding first_fault object_with opened
  says-object at bytes =
      says-check to ends none_behind _ _ _ (is_object (number_at bytes 8 8)) _ _
      (says-check to ends none_behind _ _ _ (not (number_at bytes 16 4 == 0)) _ _
      (says-check to ends none_behind _ _ _ (is_block_size (number_at bytes 24 4)) _ _
      (says-check to ends none_behind _ _ _ (nat_le (number_at bytes 28 4) 320) _ _
      (says-check to ends none_behind _ _ _ (nat_le (number_at bytes 34 1) 1) _ _
      (says-check to ends none_behind _ _ _ (number_at bytes 36 4 == 0) _ _
      (said-middle to ends _ (heads.Object (number_at bytes 8 8) (number_at bytes 16 4) (number_at bytes 20 4) (number_at bytes 24 4) (number_at bytes 28 4) (number_at bytes 56 8) (number_at bytes 40 8))
      refl refl (λ payload. refl)))))))

  says-write : (at : ℕ) (bytes : List ℕ) → SaysLater to ends (first_fault (write_checks at bytes)) (number_at bytes 32 8) false (write_of at bytes)
  unfolding first_fault write_with opened
  says-write at bytes =
      says-check to ends none_behind _ _ _ (is_object (number_at bytes 8 8)) _ _
      (says-check to ends none_behind _ _ _ (is_block_size (number_at bytes 32 8)) _ _
      (says-check to ends none_behind _ _ _ (number_at bytes 50 1 == 0) _ _
      (said-middle to ends _ (heads.Write (number_at bytes 8 8) (number_at bytes 16 4) (number_at bytes 24 8) (number_at bytes 32 8) (number_at bytes 40 8)) refl refl (λ payload. refl))))

  says-free : (at : ℕ) (bytes : List ℕ) → SaysLater to ends (first_fault (free_checks at bytes)) 0 false (free_of at bytes)
  unfolding first_fault free_with opened
  says-free at bytes =
      says-check to ends none_behind _ _ _ (is_object (number_at bytes 8 8)) _ _
      (says-check to ends none_behind _ _ _ (is_range (number_at bytes 16 8) (number_at bytes 24 8) || (number_at bytes 24 8 == to_end)) _ _
      (said-middle to ends _ (heads.Free (number_at bytes 8 8) (number_at bytes 16 8) (number_at bytes 24 8) (number_at bytes 32 8)) refl refl (λ payload. refl)))

  says-spill : (at : ℕ) (bytes : List ℕ) → SaysLater to ends (first_fault (spill_checks at bytes)) (number_at bytes 16 8) false (spill_of at bytes)
  unfolding first_fault spill_with opened
  says-spill at bytes =
      says-check to ends none_behind _ _ _ (is_object (number_at bytes 8 8)) _ _
      (says-check to ends none_behind _ _ _ (is_spill_size (number_at bytes 16 8)) _ _
      (says-check to ends none_behind _ _ _ (number_at bytes 33 1 == 0) _ _
      (said-middle to ends _ (heads.Spill (number_at bytes 8 8) (number_at bytes 16 8) (number_at bytes 24 8)) refl refl (λ payload. refl))))

  says-redact : (at features : ℕ) (bytes : List ℕ) → SaysLater to ends (first_fault (redact_checks features at bytes)) 0 false (redact_of at features bytes)
  unfolding first_fault redact_with opened
  says-redact at features bytes =
      says-check to ends none_behind _ _ _ (not (bit_and features redacts == 0)) _ _
      (says-check to ends none_behind _ _ _ (is_object (number_at bytes 8 8)) _ _
      (says-check to ends none_behind _ _ _ (is_range (number_at bytes 16 8) (number_at bytes 24 8)) _ _
      (said-middle to ends _ (heads.Redact (number_at bytes 8 8) (number_at bytes 16 8) (number_at bytes 24 8) (number_at bytes 32 8)) refl refl (λ payload. refl))))

  says-free_objects : (bytes : List ℕ) → SaysLater to ends (first_fault []) 0 false (free_objects_of bytes)
  unfolding first_fault opened
  says-free_objects bytes = said-middle to ends 0 (heads.FreeObjects (number_at bytes 8 8) (number_at bytes 16 8) (number_at bytes 24 8)) refl refl (λ payload. refl)

-- END, whose own checks come after
says-end : (bytes : List ℕ) (ends : List Check) → SaysLater (number_at bytes 40 8) (first_fault ends) (first_fault ends) 0 true (end_of bytes)
unfolding opened
says-end bytes ends = record {
  passes = refl;
  len = refl;
  final = refl;
  closes = (refl, refl, λ payload. refl);
  opens = λ payload. (refl, refl);
}

-- a type that isn't accepted
says-refused : (to : ℕ) (ends : Option StreamFault) (fault : StreamFault) → SaysLater to ends (first_fault (record { passes = false; told = fault } ∷ [])) 0 false (Err fault)
unfolding first_fault
says-refused to ends fault = refl

-- a record behind BEGIN, by its type
pub says-typed : (kind features at : ℕ) (bytes : List ℕ) (ends : List Check)
    → SaysLater (number_at bytes 40 8) (first_fault ends) (first_fault (later_form kind features at bytes ends).checks) (later_form kind features at bytes ends).payload
    (later_form kind features at bytes ends).last (typed kind at features bytes)
unfolding typed
says-typed kind features at bytes ends =
    let to = number_at bytes 40 8 in
    let own = first_fault ends in
    let refuses = says-refused to own in
    says-cond to own none_behind (kind == begin_type) _ _ _ _ (refuses (faults.Grammar at flaws.SecondBegin))
    (says-cond to own none_behind (kind == object_type) _ _ _ _ (says-object to own at bytes)
    (says-cond to own none_behind (kind == free_objects_type) _ _ _ _ (says-free_objects to own bytes)
    (says-cond to own none_behind (kind == write_type) _ _ _ _ (says-write to own at bytes)
    (says-cond to own none_behind (kind == free_type) _ _ _ _ (says-free to own at bytes)
    (says-cond to own none_behind (kind == end_type) _ _ _ _ (says-end bytes ends)
    (says-cond to own none_behind (kind == write_by_reference_type) _ _ _ _ (refuses (faults.Unsupported at lacks.ByReference))
    (says-cond to own none_behind (kind == spill_type) _ _ _ _ (says-spill to own at bytes)
    (says-cond to own none_behind (kind == write_embedded_type) _ _ _ _ (refuses (faults.Unsupported at lacks.Embedded))
    (says-cond to own none_behind (kind == object_range_type) _ _ _ _ (refuses (faults.Unsupported at lacks.ObjectRange))
    (says-cond to own none_behind (kind == redact_type) _ _ _ _ (says-redact to own at features bytes)
    (refuses (faults.Grammar at flaws.RecordType))))))))))))

-- ---- BEGIN

-- what a payload says, beside what its table tells
abbrev SaysIn : Option StreamFault → Opened → Type 0
SaysIn told (Ok header) = told ≡ None
SaysIn told (Err fault) = told ≡ Some fault

in-require : (told : Option StreamFault) (b : Bool) (fault : StreamFault) (next : Opened) → SaysIn told next → SaysIn (cond b told (Some fault)) (require b fault next)
in-require told true fault next h = h
in-require told false fault next h = refl

in-cond : (b : Bool) (xs ys : List Check) (x y : Opened) → SaysIn (first_fault xs) x → SaysIn (first_fault ys) y → SaysIn (first_fault (cond b xs ys)) (cond b x y)
in-cond true xs ys x y h k = h
in-cond false xs ys x y h k = k

in-content : (header : Header) (numbers : List ℕ) → SaysIn (first_fault (content_checks header.features header.from numbers)) (content_of header numbers)
unfolding first_fault content_of content_with
in-content header [] = refl
in-content header (object ∷ []) = refl
in-content header (object ∷ offset ∷ []) = refl
in-content header (object ∷ offset ∷ count ∷ []) = refl
in-content header (object ∷ offset ∷ count ∷ from_count ∷ guids) =
    in-require _ ((length (take count guids) == count) && (length (drop count guids) == from_count)) wrong _
    (in-require _ (is_set (take count guids) && is_set (drop count guids)) wrong _
    (in-require _ (goes_with_redacted header.features (take count guids)) wrong _
    (in-require _ (goes_with_resuming header.features (record { object = object; offset = offset })) wrong _
    (in-require _ (goes_with_source header.from (drop count guids)) wrong _ refl))))

in-behind : (header : Header) (bytes : List ℕ)
    → SaysIn
    (cond (has_magic bytes)
    (cond (length (drop 8 bytes) % 8 == 0) (first_fault (content_checks header.features header.from (numbers_in (length (drop 8 bytes) / 8) (drop 8 bytes)))) (Some wrong))
    (Some foreign))
    (require (has_magic bytes) foreign (behind_magic header (drop 8 bytes)))
unfolding behind_magic
in-behind header bytes =
    let rest = drop 8 bytes in
    in-require _ (has_magic bytes) foreign _ (in-require _ (length rest % 8 == 0) wrong _ (in-content header (numbers_in (length rest / 8) rest)))

in-opened : (header : Header) (bytes : List ℕ) → SaysIn (first_fault (payload_checks header.features header.from bytes)) (payloads.opened header bytes)
unfolding first_fault payloads.opened
in-opened header bytes =
    in-cond (length bytes == 0) _ _ _ _
    (in-require None (not (needs_payload header.features)) (faults.Grammar 4 flaws.Payload) (Ok header) refl)
    (in-behind header bytes)

opens-begun : (told : Option StreamFault) (len : ℕ) (o : Opened) → SaysIn told o → OpensBy told len (begun len o)
opens-begun told len (Ok header) h = (h, refl)
opens-begun told len (Err fault) h = h

-- what is told of the payload of a BEGIN with these features and this source
abbrev pub told_behind : (features from : ℕ) → List ℕ → Option StreamFault
told_behind features from payload = first_fault (payload_checks features from payload)

said-begin : (to : ℕ) (ends : Option StreamFault) (header : Header) (len : ℕ) → IsSaid to ends (told_behind header.features header.from) None len false (heads.Begin header len)
unfolding opened
said-begin to ends header len = record {
  passes = refl;
  len = refl;
  final = refl;
  closes = tt;
  opens = λ payload. opens-begun (first_fault (payload_checks header.features header.from payload)) len (payloads.opened header payload) (in-opened header payload);
}

says-named : (to : ℕ) (ends : Option StreamFault) (behind : List ℕ → Option StreamFault) (told : Option StreamFault) (size : ℕ) (last : Bool) (next : Header → Decoded) (make : List ℕ → Header)
    (name : Option (List ℕ)) → ((found : List ℕ) → Says to ends behind told size last (next (make found)))
    → Says to ends behind (cond (is_some name) told (Some (faults.Grammar 56 flaws.Name))) size last (named next make name)
unfolding named
says-named to ends behind told size last next make None k = refl
says-named to ends behind told size last next make (Some name) k = k name

pub says-begin : (to : ℕ) (ends : Option StreamFault) (bytes : List ℕ)
    → Says to ends (told_behind (features_in bytes) (number_at bytes 48 8)) (first_fault (begin_checks bytes)) (number_at bytes 4 4) false (begin_of bytes)
unfolding first_fault begin_of begin_with snapshot_with header_with
says-begin to ends bytes =
    let features = features_in bytes in
    let behind = told_behind features (number_at bytes 48 8) in
    let len = number_at bytes 4 4 in
    says-check to ends behind _ _ _ (number_at bytes 0 4 == 0) _ _
    (says-check to ends behind _ _ _ (not (number_at bytes 8 8 == reversed_magic)) _ _
    (says-check to ends behind _ _ _ (number_at bytes 8 8 == stream_magic) _ _
    (says-check to ends behind _ _ _ (not (number_at bytes 16 8 % 4 == 2)) _ _
    (says-check to ends behind _ _ _ (number_at bytes 16 8 % 4 == 1) _ _
    (says-check to ends behind _ _ _ (others_of features == 0) _ _
    (says-check to ends behind _ _ _ (bit_and features large_blocks == 0) _ _
    (says-check to ends behind _ _ _ ((number_at bytes 32 4 == 2) || (number_at bytes 32 4 == 3)) _ _
    (says-check to ends behind _ _ _ (not (number_at bytes 40 8 == 0)) _ _
    (says-named to ends behind _ _ _ _ _ (name_in (bytes_at bytes 56 256))
    (λ name.
    says-check to ends behind _ _ _ (is_payload_len len) _ _
    (says-check to ends behind _ _ _ (not ((len == 0) && needs_payload features)) _ _
    (said-begin to ends (header_with features (number_at bytes 32 4) (number_at bytes 36 4) (number_at bytes 24 8) (number_at bytes 40 8) (number_at bytes 48 8) name) len))))))))))))

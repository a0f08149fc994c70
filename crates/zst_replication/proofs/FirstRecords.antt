-- The first record that is covered is BEGIN.
use Rattle.std.proofs.Common.{◌≡◌, ◌⊎◌, inl, inr, ℕ, zero, suc, ◌+◌, ◌==◌, ◌&&◌, ◌||◌, not, Bool, true, false, List, [], ◌∷◌, drop, length, nat_lt, take, Option, Some, None, Ok, Err, refl, subst, cond}
use Rattle.std.specs.Int.{trailing_zeros, w32}
use Rattle.std.specs.Prelude.{bit_and}
use Rattle.zst_model.specs.declared.refusals.faults.Flaw.TheVariants as flaws
use Rattle.zst_model.specs.declared.refusals.faults.Lack.TheVariants as lacks
use Rattle.zst_model.specs.declared.refusals.stream_fault.StreamFault.{StreamFault}
use Rattle.zst_model.specs.declared.refusals.stream_fault.StreamFault.TheVariants.{Grammar, Unsupported}
use Rattle.zst_model.specs.declared.sends.header.Header.{Header}
use Rattle.zst_model.proofs.Results.{ok_parts}
use Rattle.zst_record.specs.declared.head.Head.{Head}
use Rattle.zst_record.specs.declared.head.Head.TheVariants as heads
use Rattle.zst_record.specs.Decoding.{Decoded, begin_of, begin_with, check, decoded, features_in, header_with, is_payload_len, lack_of_feature, name_in, named, needs_payload, others_of, snapshot_of, snapshot_with}
use Rattle.zst_record.specs.Formats.{begin_type, compound_stream, large_blocks, record_len, reversed_magic, stream_magic, substream}
use Rattle.zst_record.specs.Heads.{Covered}
use Rattle.zst_record.specs.Payload as payloads
use Rattle.zst_stream.specs.PassedRecords.{IsBegin}
use Rattle.zst_stream.specs.Reading.{Reading, Ruling, wait, refuse, last, more, after, begun, cover, judged, next_by, opened, reading, reading_from, ruling, sealed_next, unless}

abbrev pub FirstIsBegin : List Covered → Type 0
FirstIsBegin [] = Unit {0}
FirstIsBegin (c ∷ rest) = IsBegin c.head

-- ---- what stands in the first place is decoded as BEGIN

abbrev IsBeginOf : Decoded → Type 0
IsBeginOf d = (head : Head) → d ≡ Ok head → IsBegin head

checked : (t : Bool) (fault : StreamFault) (next : Decoded) → IsBeginOf next → IsBeginOf (check t fault next)
checked true fault next is = is
checked false fault next is = λ head e. absurd cc

named_begin : (next : Header → Decoded) (make : List ℕ → Header) (o : Option (List ℕ)) → ((header : Header) → IsBeginOf (next header)) → IsBeginOf (named next make o)
unfolding named
named_begin next make None is = λ head e. absurd cc
named_begin next make (Some name) is = is (make name)

snapshot_begin : (len features time kind flags to from : ℕ) (field : List ℕ) → IsBeginOf (snapshot_with len features time kind flags to from field)
unfolding snapshot_with
snapshot_begin len features time kind flags to from field =
    checked ((kind == 2) || (kind == 3)) (Grammar 32 flaws.Kind) _
    (checked (not (to == 0)) (Grammar 40 flaws.Guid) _
    (named_begin _ (header_with features kind flags time to from) (name_in field)
    (λ header. checked (is_payload_len len) (Unsupported 4 lacks.ForeignPayload) _
    (checked (not ((len == 0) && needs_payload features)) (Grammar 4 flaws.Payload) _
    (λ head e. subst IsBegin (ok_parts (heads.Begin header len) head e) tt)))))

begins_so : (kind magic header_type features : ℕ) (next : Decoded) → IsBeginOf next → IsBeginOf (begin_with kind magic header_type features next)
unfolding begin_with
begins_so kind magic header_type features next is =
    checked (kind == begin_type) (Grammar 0 flaws.RecordType) _
    (checked (not (magic == reversed_magic)) (Unsupported 8 lacks.BigEndian) _
    (checked (magic == stream_magic) (Grammar 8 flaws.Magic) _
    (checked (not (header_type == compound_stream)) (Unsupported 16 lacks.Compound) _
    (checked (header_type == substream) (Grammar 16 flaws.HeaderType) _
    (checked (others_of features == 0) (Unsupported 16 (lack_of_feature (trailing_zeros w32 (others_of features)))) _
    (checked (bit_and features large_blocks == 0) (Unsupported 16 lacks.LargeBlocks) _ is))))))

decoded_begin : (features : ℕ) (bytes : List ℕ) → IsBeginOf (decoded 0 features bytes)
unfolding decoded begin_of
decoded_begin features bytes = begins_so _ _ _ _ (snapshot_of (features_in bytes) bytes) (snapshot_begin _ _ _ _ _ _ _ _)

-- ---- and is covered as BEGIN

abbrev IsBeginBy : Ruling → Type 0
IsBeginBy r = (head : Head) → (r ≡ last head) ⊎ (r ≡ more head) → IsBegin head

waits : IsBeginBy wait
waits head (inl e) = absurd cc
waits head (inr e) = absurd cc

refuses : (fault : StreamFault) → IsBeginBy (refuse fault)
refuses fault head (inl e) = absurd cc
refuses fault head (inr e) = absurd cc

covers : (header : Header) (len : ℕ) → IsBeginBy (more (heads.Begin header len))
covers header len head (inl e) = absurd cc
covers header len head (inr e) = let same : heads.Begin header len ≡ head = cc in subst IsBegin same tt

one_of : (t : Bool) (a b : Ruling) → IsBeginBy a → IsBeginBy b → IsBeginBy (cond t a b)
one_of true a b is other = is
one_of false a b is other = other

unless_fault : (fault : Option StreamFault) (next : Ruling) → IsBeginBy next → IsBeginBy (unless fault next)
unless_fault None next is = is
unless_fault (Some fault) next is = refuses fault

next_begin : (rest : List ℕ) (len : ℕ) (o : payloads.Opened) → IsBeginBy (next_by [] rest (begun len o))
unfolding sealed_next
next_begin rest len (Ok header) = one_of _ wait _ waits (unless_fault _ (more (heads.Begin header len)) (covers header len))
next_begin rest len (Err fault) = refuses fault

cover_begin : (rest : List ℕ) (header : Header) (len : ℕ) → IsBeginBy (cover [] rest (heads.Begin header len))
unfolding cover opened
cover_begin rest header len = one_of _ wait _ waits (next_begin rest len (payloads.opened header (take len (drop record_len rest))))

judged_begin : (rest : List ℕ) (d : Decoded) → IsBeginOf d → IsBeginBy (judged [] rest d)
judged_begin rest (Err fault) is = refuses fault
judged_begin rest (Ok head) is = go head (is head refl)
  where
    go : (head : Head) → IsBegin head → IsBeginBy (judged [] rest (Ok head))
    go (heads.Begin header len) begins = cover_begin rest header len
    go (heads.Object object kind bonus_kind block_size bonus_len max_block to) begins = absurd begins
    go (heads.FreeObjects first count to) begins = absurd begins
    go (heads.Write object kind offset size to) begins = absurd begins
    go (heads.Free object offset size to) begins = absurd begins
    go (heads.End sums to) begins = absurd begins
    go (heads.Spill object size to) begins = absurd begins
    go (heads.Redact object offset size to) begins = absurd begins

ruling_begin : (text : List ℕ) → IsBeginBy (ruling [] text)
unfolding ruling
ruling_begin text = one_of (nat_lt (length text) record_len) wait _ waits (judged_begin text _ (decoded_begin (features_in []) (take record_len text)))

-- ---- the reading of a text

after_begin : (rest : List ℕ) (r : Ruling) (next : Head → Reading) → IsBeginBy r → FirstIsBegin (after 0 [] rest r next).covered
unfolding after
after_begin rest wait next is = tt
after_begin rest (refuse fault) next is = tt
after_begin rest (last head) next is = is head (inl refl)
after_begin rest (more head) next is = is head (inr refl)

from_begin : (fuel : ℕ) (text : List ℕ) → FirstIsBegin (reading_from fuel 0 [] text).covered
unfolding reading_from
from_begin zero text = tt
from_begin (suc fuel) text = after_begin text (ruling [] text) _ (ruling_begin text)

pub first_is_begin : (text : List ℕ) → FirstIsBegin (reading text).covered
unfolding reading
first_is_begin text = from_begin (length text + 1) text

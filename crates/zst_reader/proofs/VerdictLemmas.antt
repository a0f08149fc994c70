-- How the code's sums and tests meet the rulings.
use Rattle.std.proofs.Common.{◌≡◌, ℕ, ◌+◌, ◌-◌, ◌%◌, ◌≤◌, Some, None, Ok, Err, append_assoc, length-append, List, ◌++◌, length, take, drop, sym, ap, subst, ◌∙◌, arith, refl}
use Rattle.std.proofs.lemmas.List.{length-take-le, take-append-le}
use Rattle.std.proofs.lemmas.Bool.{le-ltb}
use Rattle.std.proofs.Math.Seq.{take-add}
use Rattle.zst_fletcher.specs.WeightSum.{IsWhole}
use Rattle.zst_record.specs.Decoding.{Decoded, decoded, features_in}
use Rattle.zst_record.specs.Heads.{size_of}
use Rattle.zst_record.specs.declared.head.Head.{Head}
use Rattle.zst_model.specs.declared.refusals.stream_fault.StreamFault.{StreamFault}
use Rattle.zst_model.specs.declared.sends.header.Header.{Header}
use Rattle.zst_record.specs.declared.head.Head.TheVariants as heads
use Rattle.zst_record.specs.Heads.{payload_len}
use Rattle.zst_record.specs.Payload as payloads
use Rattle.zst_record.specs.Payload.{Opened}
use Rattle.zst_stream.specs.Reading.{begun, refuse, more, sum_fault, sealed_next, opened, ruling, rule_by, closing}
use Rattle.zst_reader.specs.declared.place.Place.{Place}
use Rattle.zst_reader.specs.Place.{IsPlaceAfter}
use Rattle.zst_reader.specs.Verdict.{IsHeadOf, ruled}
use Rattle.zst_reader.specs.declared.verdict.Verdict.{Verdict}

-- the first bytes, and then those up to a size
pub two-parts : (before held : List ℕ) (count size : ℕ) → count ≤ size → (before ++ take count held) ++ take (size - count) (drop count held) ≡ before ++ take size held
two-parts before held count size le =
    let n : count + (size - count) ≡ size = omega arith in
    append_assoc before (take count held) (take (size - count) (drop count held))
    ∙ ap (λ (t : List ℕ). before ++ t) (sym (take-add count (size - count) held) ∙ ap (λ k. take k held) n)

pub whole-part : (before held : List ℕ) (size : ℕ) → IsWhole before → size % 4 ≡ 0 → size ≤ length held → IsWhole (before ++ take size held)
whole-part before held size whole words inside = omega (arith, length-append before (take size held), length-take-le size held inside)

-- the next record's checksum is wrong
pub sealed-refused : (before held : List ℕ) (head : Head) (fault : StreamFault) → size_of head + 312 ≤ length held
    → Some fault ≡ sum_fault before held (size_of head + 280) (size_of head + 280) → refuse fault ≡ sealed_next before held head
unfolding sealed_next
sealed-refused before held head fault room found = rw (le-ltb (length held) (size_of head + 312) room, sym found) refl

-- the next record's checksum is right
pub sealed-right : (before held : List ℕ) (head : Head) → size_of head + 312 ≤ length held
    → None ≡ sum_fault before held (size_of head + 280) (size_of head + 280) → more head ≡ sealed_next before held head
unfolding sealed_next
sealed-right before held head room fine = rw (le-ltb (length held) (size_of head + 312) room, sym fine) refl

-- ---- the payload

-- BEGIN says with its payload what that says of its header
pub says-begin : (head : Head) (header same : Header) (len : ℕ) (held payload : List ℕ) (o : Opened) → head ≡ heads.Begin header len → payload ≡ take len (drop 312 held)
    → same ≡ header → o ≡ payloads.opened same payload → opened head (take (payload_len head) (drop 312 held)) ≡ begun len o
unfolding opened
says-begin head header same len held payload o is payload_is same_is o_is =
    rw is (ap (begun len) (sym (o_is ∙ ap (λ (h : Header). payloads.opened h payload) same_is ∙ ap (payloads.opened header) payload_is)))

-- no other record does
pub says-other : (head : Head) (payload : List ℕ) → ((header : Header) (len : ℕ) → head ≡ heads.Begin header len → ⊥) → opened head payload ≡ Ok head
unfolding opened
says-other (heads.Begin header len) payload other = absurd (other header len refl)
says-other (heads.Object object kind bonus_kind block_size bonus_len max_block to) payload other = refl
says-other (heads.FreeObjects first count to) payload other = refl
says-other (heads.Write object kind offset size to) payload other = refl
says-other (heads.Free object offset size to) payload other = refl
says-other (heads.End sums to) payload other = refl
says-other (heads.Spill object size to) payload other = refl
says-other (heads.Redact object offset size to) payload other = refl

-- ---- the head

-- the checks of the record's 312 bytes, where the place is known
at-place : (before held : List ℕ) (place : Place) (d : Decoded) → IsPlaceAfter before held place → decoded place.at place.features (take 312 held) ≡ d
    → decoded (length before) (features_in before) (take 312 held) ≡ d
at-place before held place d is e = rw (sym is.at, sym is.features) e

-- a record whose head is known is judged by it
pub ruled-by : (before held : List ℕ) (place : Place) (head : Head) → IsPlaceAfter before held place → IsHeadOf place held head
    → ruling before held ≡ rule_by before held head (closing head)
unfolding ruling
ruled-by before held place head is known =
    rw (le-ltb (length held) 312 known.there, at-place before held place (Ok head) is known.decoded) refl

-- a record that fails the checks of its 312 bytes
pub undecoded : (before held : List ℕ) (place : Place) (fault : StreamFault) → IsPlaceAfter before held place → 312 ≤ length held
    → decoded place.at place.features (take 312 held) ≡ Err fault → ruling before held ≡ refuse fault
unfolding ruling
undecoded before held place fault is there e =
    rw (le-ltb (length held) 312 there, at-place before held place (Err fault) is e) refl

-- the head stays known where more follows
pub head-grown : (held further : List ℕ) (place : Place) (head : Head) → IsHeadOf place held head → IsHeadOf place (held ++ further) head
head-grown held further place head known = record {
  there = let there = known.there in omega (arith, length-append held further);
  decoded = ap (decoded place.at place.features) (take-append-le 312 held further known.there) ∙ known.decoded;
}

-- the same where a reader gave up what it had lent, and took in more
pub still-known : (place : Place) (head : Head) (old new further : List ℕ) (taken : ℕ) → taken ≡ 0 → new ≡ old ++ further
    → IsHeadOf place (drop taken old) head → IsHeadOf place (drop taken new) head
still-known place head old new further taken none same known =
    rw (none, same) (head-grown old further place head (rw none at known))

-- ---- the code's verdict

pub ruled-as : (before held : List ℕ) (place : Place) (head head' : Head) (verdict : Verdict) → head ≡ head' → IsPlaceAfter before held place → IsHeadOf place held head
    → ruled head' verdict ≡ rule_by before held head' (closing head') → ruled head verdict ≡ ruling before held
ruled-as before held place head head' verdict same is known e =
    let P : Head → Type 0 = λ h. IsHeadOf place held h in
    ap (λ h. ruled h verdict) same ∙ e ∙ sym (ruled-by before held place head' is (subst P same known))

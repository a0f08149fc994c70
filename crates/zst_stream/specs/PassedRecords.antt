-- What the covered records of a text have passed, and in which places they stand.
use Rattle.std.specs.Prelude.{ℕ, ◌+◌, ◌≡◌, ◌⊎◌, ◌<◌, List, length, Some, None, slice_get, bit_and, All}
use Rattle.zst_model.specs.declared.sends.header.Header.{Header}
use Rattle.zst_model.specs.pools.Pool.{IsStated}
use Rattle.zst_model.specs.sends.Features.{resuming}
use Rattle.zst_model.specs.states.State.{AreBytes}
use Rattle.zst_record.specs.declared.head.Head.{Head}
use Rattle.zst_record.specs.declared.head.Head.TheVariants as heads
use Rattle.zst_record.specs.Decoding.{features_in}
use Rattle.zst_record.specs.RecordValues.{Fits, IsLater}
use Rattle.zst_record.specs.Heads.{Covered, payload_len}
use Rattle.zst_record.specs.Payload.{StatesPayload, bare}
use Rattle.zst_stream.specs.Reading.{reading, closing}

-- a header that BEGIN states with its payload: one that a pool can keep where the stream isn't resumed
pub record StatesBegin (header : Header) : Type 0 where
  pub payload : StatesPayload header
  pub kept : bit_and header.features resuming ≡ 0 → IsStated header

-- such a header, where the record is BEGIN
abbrev pub StatesHeader : Head → Type 0
StatesHeader (heads.Begin header len) = StatesBegin header
StatesHeader head = Unit {0}

-- the record as its 312 bytes alone say it
abbrev pub bare_head : Head → Head
bare_head (heads.Begin header len) = heads.Begin (bare header) len
bare_head head = head

-- a record that fits a stream with these features (a BEGIN has these) by its 312 bytes, with a payload of bytes that is as long as it says
pub record HasPassed (features : ℕ) (c : Covered) : Type 0 where
  pub fits : Fits features (bare_head c.head)
  pub len : length c.payload ≡ payload_len c.head
  pub bytes : AreBytes c.payload
  pub stated : StatesHeader c.head

-- BEGIN, and no other record
abbrev pub IsBegin : Head → Type 0
IsBegin (heads.Begin header len) = Unit {0}
IsBegin head = ⊥

-- a record in this place of so many: BEGIN stands in the first and in no other, and END at most in the last
pub record IsInPlace (place count : ℕ) (c : Covered) : Type 0 where
  pub index : c.index ≡ place
  pub first : place ≡ 0 → IsBegin c.head
  pub later : 0 < place → IsLater c.head
  pub last : (closing c.head ≡ None) ⊎ (place + 1 ≡ count)

-- What is covered of bytes has passed its checks, by the features in BEGIN's place.
abbrev pub CoveredFit : Type 0
CoveredFit = (text : List ℕ) → AreBytes text → All (HasPassed (features_in text)) (reading text).covered

-- The covered records of bytes stand in their places.
abbrev pub CoveredInOrder : Type 0
CoveredInOrder =
    (text : List ℕ) (place : ℕ) (c : Covered) → AreBytes text → slice_get (reading text).covered place ≡ Some c
    → IsInPlace place (length (reading text).covered) c

-- The records of a send's items: how long they are, which have a byte in a part of its text, and which were put.
use Rattle.std.specs.Prelude.{◌≡◌, ℕ, ◌+◌, Bool, true, false, max, min, nat_lt, if◌then◌else◌, List, [], ◌∷◌, ◌++◌, length}
use Rattle.zst_model.specs.declared.states.item.Change.TheVariants as changes
use Rattle.zst_model.specs.declared.states.item.Item.{Item}
use Rattle.zst_model.specs.declared.states.item.Item.TheVariants.{At, FreeObjects}
use Rattle.zst_model.specs.declared.sends.header.Point.{Point}
use Rattle.zst_model.specs.sends.Items.{items}
use Rattle.zst_model.specs.sends.View.{View}
use Rattle.zst_model.specs.states.DatedState.{DatedState}
use Rattle.zst_record.specs.Formats.{record_len}
use Rattle.zst_stream.specs.Records.{item_payload}
use Rattle.zst_tree.specs.Indices.{Blocks}
use Rattle.zst_send.specs.WalkPositions.{IsWalk, items_left}
use Rattle.zst_send.specs.PendingRecords.{payload_size}
use Rattle.zst_send.specs.declared.send_state.SendState.{SendState}
use Rattle.zst_send.specs.declared.walk.Walk.{Walk}
use Rattle.zst_send.specs.declared.pending_record.Payload.{Payload}
use Rattle.zst_send.specs.declared.pending_record.Payload.TheVariants.{Nothing, Bonus, Block}

-- ---- where they stand

-- the bytes of an item's record and of what follows it
abbrev pub size_of : Item → ℕ
size_of item = record_len + length (item_payload item)

-- those of all of these items
abbrev pub sizes_of : List Item → ℕ
sizes_of [] = 0
sizes_of (item ∷ items) = size_of item + sizes_of items

-- of `size` bytes from `start` on, some are among the `count` bytes from `place` on
abbrev pub overlap : (start size place count : ℕ) → Bool
overlap start size place count = nat_lt (max start place) (min (start + size) (place + count))

-- the items that have a byte among those, where the first one's record begins at `start`
abbrev pub touched : (place count start : ℕ) → List Item → List Item
touched place count start [] = []
touched place count start (item ∷ items) =
    if overlap start (size_of item) place count
    then item ∷ touched place count (start + size_of item) items
    else touched place count (start + size_of item) items

-- ---- what was put

-- 1 where its record has a block: WRITE and SPILL
abbrev pub reads_of : Item → ℕ
reads_of (FreeObjects first count) = 0
reads_of (At k (changes.Put head bonus keep most)) = 0
reads_of (At k (changes.Spill bytes)) = 1
reads_of (At k (changes.FreeFrom offset)) = 0
reads_of (At k (changes.Free offset length)) = 0
reads_of (At k (changes.Redact offset length)) = 0
reads_of (At k (changes.Write offset type bytes)) = 1

-- these items are to be put yet: behind END none
abbrev pub AreLeft : Blocks → DatedState → View → Walk → Bool → List Item → Type 0
AreLeft has snap view walk true items = items ≡ []
AreLeft has snap view walk false items = (held : List Item) × IsWalk has snap walk held × (items ≡ items_left view walk held)

-- the bytes of END, where it was put
abbrev pub end_size : Bool → ℕ
end_size true = record_len
end_size false = 0

-- 1 where a block follows a record
abbrev pub blocks_behind : Payload → ℕ
blocks_behind Nothing = 0
blocks_behind (Bonus field count) = 0
blocks_behind (Block ptr) = 1

-- what follows a record is the item's: as many bytes, in a block where the item has one
pub record IsOfItem (item : Item) (payload : Payload) : Type 0 where
  pub size : payload_size payload ≡ length (item_payload item)
  pub blocks : blocks_behind payload ≡ reads_of item

-- where a block follows the pending record, that is the record of the last item that was put
abbrev pub IsOfLast : List Item → Bool → Payload → Type 0
IsOfLast put ended Nothing = Unit {0}
IsOfLast put ended (Bonus field count) = Unit {0}
IsOfLast put ended (Block ptr) = (first : List Item) × (last : Item) × (put ≡ first ++ last ∷ []) × IsOfItem last (Block ptr) × (ended ≡ false)

-- a send from a point on, whose BEGIN has `front` bytes with its payload, and that has given `place` bytes, has put the records of these first items of its view, and END where it says so; the others are left
pub record HasPut (has : Blocks) (snap : DatedState) (view : View) (point : Point) (front : ℕ) (put : List Item) (place : ℕ) (stand : SendState) : Type 0 where
  pub later : List Item
  pub are : items view point ≡ put ++ later
  pub are_left : AreLeft has snap view stand.walk stand.ended later
  pub of_last : IsOfLast put stand.ended stand.pending.payload
  pub place_is : place + record_len + payload_size stand.pending.payload ≡ front + sizes_of put + end_size stand.ended + stand.pending.given

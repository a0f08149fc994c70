-- The pending record, and the block that is read for it.
use Rattle.std.specs.Prelude.{◌≡◌, ℕ, ◌+◌, ◌%◌, ◌<◌, ◌≤◌, List, [], ◌++◌, length, take, drop, Option, Some, None, IfSome}
use Rattle.zst_block.specs.declared.ptr.Ptr.{Ptr}
use Rattle.zst_model.specs.declared.states.item.Item.{Item}
use Rattle.zst_record.specs.Formats.{record_len}
use Rattle.zst_stream.specs.Image.{piece_after}
use Rattle.zst_stream.specs.Records.{piece_for}
use Rattle.zst_tree.specs.Indices.{Blocks}
use Rattle.zst_writer.specs.Writes.{HasWritten}
use Rattle.zst_writer.specs.declared.writer.Writer.{Writer}
use Rattle.zst_send.specs.DueItems.{block_of}
use Rattle.zst_send.specs.declared.due_items.DueItems.{DueItems}
use Rattle.zst_send.specs.declared.block_buffer.BlockBuffer.{BlockBuffer}
use Rattle.zst_send.specs.declared.pending_record.Payload.{Payload}
use Rattle.zst_send.specs.declared.pending_record.Payload.TheVariants.{Nothing, Bonus, Block}
use Rattle.zst_send.specs.declared.pending_record.PendingRecord.{PendingRecord}

-- the buffer has the bytes of the block that it says, where it says one
abbrev pub HasBlock : Blocks → List ℕ → Option Ptr → Type 0
HasBlock has bytes None = Unit {0}
HasBlock has bytes (Some ptr) = has ptr (take ptr.length bytes)

-- so it is of a buffer
abbrev pub IsLoaded : Blocks → BlockBuffer → Type 0
IsLoaded has buffer = HasBlock has buffer.bytes.items buffer.holds

-- what follows the record: nothing, a padded bonus, or the block that a pointer names
abbrev pub IsPayload : Blocks → Payload → List ℕ → Type 0
IsPayload has Nothing bytes = bytes ≡ []
IsPayload has (Bonus field count) bytes = bytes ≡ take count field
IsPayload has (Block ptr) bytes = has ptr bytes × (length bytes ≡ ptr.length)

-- these bytes are left of the pending record and of what follows it
pub record IsPending (has : Blocks) (pending : PendingRecord) (left : List ℕ) : Type 0 where
  pub payload : List ℕ
  pub payload_is : IsPayload has pending.payload payload
  pub left_are : left ≡ drop pending.given (pending.head ++ payload)

-- a record was put for an item: its bytes come next, and the writer has them
pub record IsPut (has : Blocks) (to : ℕ) (text : List ℕ) (item : Item) (writer : Writer) (pending : PendingRecord) : Type 0 where
  pub written : HasWritten writer (text ++ piece_after text (piece_for to item))
  pub pending_is : IsPending has pending (piece_after text (piece_for to item))

-- a block that follows the record of what is due is the one that is due
abbrev pub HasBlockOf : DueItems → Payload → Type 0
HasBlockOf due Nothing = Unit {0}
HasBlockOf due (Bonus field count) = Unit {0}
HasBlockOf due (Block ptr) = block_of due ≡ Some ptr

-- a record was put, of which none was given, and this follows it
pub record IsFresh (payload : Payload) (pending : PendingRecord) : Type 0 where
  pub payload_is : pending.payload ≡ payload
  pub long : length pending.head ≡ record_len
  pub given : pending.given ≡ 0

-- ---- ranges, whatever the image

-- the count of the bytes that follow the record
abbrev pub payload_size : Payload → ℕ
payload_size Nothing = 0
payload_size (Bonus field count) = count
payload_size (Block ptr) = ptr.length

-- what follows is no longer than there is room for
abbrev pub PayloadFits : Payload → Type 0
PayloadFits Nothing = Unit {0}
PayloadFits (Bonus field count) = count ≤ 320
PayloadFits (Block ptr) = ptr.length ≤ 131072

-- the record is as long as each is, and no more is given than there is
pub record PendingFits (pending : PendingRecord) : Type 0 where
  pub head : length pending.head ≡ record_len
  pub payload : PayloadFits pending.payload
  pub given : pending.given ≤ record_len + payload_size pending.payload

-- the buffer is as long as the longest block, and what it holds is whole sectors, no longer than that
pub record BufferFits (buffer : BlockBuffer) : Type 0 where
  pub long : length buffer.bytes.items ≡ 131072
  pub held : IfSome buffer.holds (λ ptr. (ptr.length ≤ 131072) × (ptr.length % 512 ≡ 0))

-- the buffer has the block that a pointer names: whole sectors, no longer than the longest block
pub record HoldsBlock (ptr : Ptr) (buffer : BlockBuffer) : Type 0 where
  pub holds : buffer.holds ≡ Some ptr
  pub long : ptr.length ≤ 131072
  pub whole : ptr.length % 512 ≡ 0

-- of a pending record something is left, and there is room for a byte of it
pub record CanGive (pending : PendingRecord) (buffer : BlockBuffer) (into : List ℕ) : Type 0 where
  pub fits : PendingFits pending
  pub buffer_fits : BufferFits buffer
  pub some : 0 < length into
  pub left : pending.given < record_len + payload_size pending.payload

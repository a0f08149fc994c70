-- What a call does that reads a block at most through the buffer.
use Rattle.std.specs.Prelude.{◌≡◌, ◌⊎◌, ℕ, ◌+◌, ◌<◌, ◌≤◌, List, Result, IfOk, OnErr, OnOk}
use Rattle.zst_block.specs.Blocks.{Has}
use Rattle.zst_block.specs.IoCalls.{Looks, stop_of}
use Rattle.zst_block.specs.IoStates.{IoState}
use Rattle.zst_block.specs.declared.fault.BlockFault.{BlockFault}
use Rattle.zst_objset.specs.Damage.{DamageFact, IfDamaged}
use Rattle.zst_tree.specs.Damage.{IsSeen}
use Rattle.zst_send.specs.Costs.{IsHeld}
use Rattle.zst_send.specs.Damage.{IsDamagedPayload}
use Rattle.zst_send.specs.PendingRecords.{BufferFits, HasBlockOf, IsLoaded, IsPending, PendingFits}
use Rattle.zst_send.specs.Records.{blocks_behind}
use Rattle.zst_send.specs.Takes.{FillsAtMost}
use Rattle.zst_send.specs.declared.block_buffer.BlockBuffer.{BlockBuffer}
use Rattle.zst_send.specs.declared.due_items.DueItems.{DueItems}
use Rattle.zst_send.specs.declared.pending_record.PendingRecord.{PendingRecord}

-- whatever the image, so many blocks are read at most, the buffer stays in its range, and damage is told so, of what the disk had so far
pub record ReadsAtMost {T : Type 0} (most : ℕ) (told : (List ℕ → Type 0) → ℕ → DamageFact) (old new : IoState) (buffer : BlockBuffer) (result : Result T BlockFault) : Type 0 where
  pub looks : Looks old new (stop_of result)
  pub calls : new.disk.calls ≤ old.disk.calls + most
  pub damaged : new.disk.honest → IfDamaged result (told (IsSeen old.disk.seen) old.disk.size)
  pub buffer_fits : BufferFits buffer

-- bytes of a pending record are copied, or of what follows it
pub record CopiesOf (pending : PendingRecord) (old new : IoState) (was buffer : BlockBuffer) (before after : List ℕ) (result : Result ℕ BlockFault) : Type 0 where
  -- what was loaded stays so
  pub loaded : (left : List ℕ) → new.disk.honest → IsLoaded (Has old.disk.seen old.space) was → IsPending (Has old.disk.seen old.space) pending left → IsLoaded (Has new.disk.seen new.space) buffer
  -- damage is told of the block that follows the record: it is read at most once, and not where the buffer has it already
  pub reads : ReadsAtMost (blocks_behind pending.payload) (λ images size. IsDamagedPayload images size pending.payload) old new buffer result
  pub once : OnOk result ((new.disk.calls ≤ old.disk.calls) ⊎ IsHeld buffer.holds pending.payload)
  pub kept : IsHeld was.holds pending.payload → (new.disk.calls ≤ old.disk.calls) × OnOk result (IsHeld buffer.holds pending.payload)
  pub into : FillsAtMost before after result

-- a pending record has given so many bytes more, one at least, and stays else; after a refusal it is as it was
pub record GivesMore (old new : PendingRecord) (result : Result ℕ BlockFault) : Type 0 where
  pub some : IfOk result (λ count. 0 < count)
  pub moved : IfOk result (λ count. new.given ≡ old.given + count)
  pub payload : new.payload ≡ old.payload
  pub stays : OnErr result (new ≡ old)
  pub fits : PendingFits new

-- a record of what is due was put, of which none was given: the block that follows it is the one that is due, and the buffer has that
pub record IsPutOf (due : DueItems) (buffer : BlockBuffer) (pending : PendingRecord) : Type 0 where
  pub fits : PendingFits pending
  pub given : pending.given ≡ 0
  pub follows : HasBlockOf due pending.payload
  pub held : IsHeld buffer.holds pending.payload

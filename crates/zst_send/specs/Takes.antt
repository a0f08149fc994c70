-- What a call that gives bytes of a send needs, and what it leaves of where it puts them, and of the pool.
use Rattle.std.specs.Prelude.{◌≡◌, ℕ, ◌+◌, ◌<◌, ◌≤◌, true, false, List, length, Option, Result, Err, IfErr, IfOk}
use Rattle.zst_outside.specs.declared.disk.Disk.{Ghosts}
use Rattle.zst_block.specs.IoCalls.{Looks}
use Rattle.zst_block.specs.IoStates.{io_of}
use Rattle.zst_block.specs.declared.ptr.Ptr.{Ptr}
use Rattle.zst_pool.specs.Queries.{stop_of}
use Rattle.zst_pool.specs.declared.fault.PoolFault.{PoolFault}
use Rattle.zst_pool.specs.declared.fault.PoolFault.TheVariants.{Plan, CannotApply, Redacted, Full, Damaged, DiskFault, Failed, OutOfMemory}
use Rattle.zst_pool.specs.declared.pool.Pool.{Pool}
use Rattle.zst_record.specs.Formats.{record_len}
use Rattle.zst_send.specs.Costs.{IsHeld}
use Rattle.zst_send.specs.PendingRecords.{payload_size}
use Rattle.zst_send.specs.declared.pending_record.PendingRecord.{PendingRecord}

-- whatever the image, the bytes are as many as they were, and no more of them are given than were asked
pub record FillsAtMost {E : Type 0} (old new : List ℕ) (result : Result ℕ E) : Type 0 where
  pub long : length new ≡ length old
  pub count : IfOk result (λ count. count ≤ length old)

-- why a call that only reads gives nothing: a block is damaged, the disk fails, or the pool had failed; it plans nothing, applies nothing, and needs no room and no memory
abbrev pub IsReadFault : PoolFault → Type 0
IsReadFault (Plan fault) = ⊥
IsReadFault (CannotApply fault) = ⊥
IsReadFault (Redacted object block) = ⊥
IsReadFault (Full need largest) = ⊥
IsReadFault (Damaged sector stated found) = Unit {0}
IsReadFault DiskFault = Unit {0}
IsReadFault Failed = Unit {0}
IsReadFault OutOfMemory = ⊥

-- so many of the next bytes need no read: they are of the pending record and of what follows it, and where one is of the block that follows it, the buffer has that
pub record AreThere (pending : PendingRecord) (holds : Option Ptr) (count : ℕ) : Type 0 where
  pub put : pending.given + count ≤ record_len + payload_size pending.payload
  pub held : record_len < pending.given + count → IsHeld holds pending.payload

-- the call isn't refused, and doesn't call the disk
pub record CallsNone {T E : Type 0} (before after : ℕ) (result : Result T E) : Type 0 where
  pub never : IfErr result (λ fault. ⊥)
  pub calls : after ≤ before

module _ {D : Type 0} {g : Ghosts D} where
  -- the pool is only read, and no refusal comes but those of reads
  pub record ReadsPool (old new : Pool D g) (result : Result ℕ PoolFault) : Type 0 where
    -- a pool that has failed answers nothing else, and no other pool does
    pub failed_pool : old.io.failed ≡ true → result ≡ Err Failed
    pub open_still : old.io.failed ≡ false → ¬ (result ≡ Err Failed)
    pub known : IfErr result IsReadFault
    -- E28 comes only where its disk failed in this call
    pub looks : Looks (io_of old.io) (io_of new.io) (stop_of result)
    pub kept : new.kept ≡ old.kept

-- What a crash may leave in a commit.
use Rattle.std.specs.Prelude.{◌≡◌, ◌⊎◌, ℕ, ◌+◌, ◌≤◌, List, Result, Err, OnOk}
use Rattle.zst_outside.specs.Images.{DiskState, IsSynced, Keeps, Leaves, WritesIn}
use Rattle.zst_outside.specs.Ranges.{bytes_at, Torn}
use Rattle.zst_space.specs.FreeSectors.{FreeSectors}
use Rattle.zst_block.specs.Blocks.{KeepsBlocks}
use Rattle.zst_uber.specs.Body.{UberFits}
use Rattle.zst_uber.specs.DiskCalls.{HasDiskCause}
use Rattle.zst_uber.specs.Slots.{latest, Stands, IsNext, IsOpen, gate_place}
use Rattle.zst_uber.specs.declared.body_slot.BodySlot.{BodySlot}
use Rattle.zst_uber.specs.declared.fault.UberFault.{UberFault}
use Rattle.zst_uber.specs.declared.fault.UberFault.TheVariants.{DiskFault}
use Rattle.zst_uber.specs.declared.uber.Uber.{Uber}

-- nothing is pending in sectors 0 to 7: there each image is what a read gives
abbrev pub LabelSettled : DiskState → Type 0
LabelSettled disk = (d : List ℕ) → disk.images d → (p n : ℕ) → p + n ≤ 4096 → bytes_at d p n ≡ bytes_at disk.seen p n

-- The latest body of an image from before the commit, over that image, or the new one, over what a read gave. Sectors 0 to 7 alone differ.
abbrev pub HasOldOrNew : Uber → DiskState → List ℕ → Type 0
HasOldOrNew uber old c =
    ((d : List ℕ) × old.images d × (latest c ≡ latest d) × Torn 0 4096 d c)
    ⊎ (Stands uber c × Torn 0 4096 old.seen c)

-- the old latest body with all blocks of an image from before, or the new one with all blocks that a read gave, whatever sectors are free
abbrev pub KeepsOldOrNew : Uber → DiskState → List ℕ → Type 0
KeepsOldOrNew uber old c =
    ((d : List ℕ) × old.images d × (latest c ≡ latest d) × ((space : FreeSectors) → KeepsBlocks d space c space))
    ⊎ (Stands uber c × ((space : FreeSectors) → KeepsBlocks old.seen space c space))

-- the same image, or one with another gate where the gate was open
abbrev pub Closing : BodySlot → List ℕ → List ℕ → List ℕ → Type 0
Closing slot seen d c = (c ≡ d) ⊎ (IsOpen seen slot × Torn (gate_place slot) 1 d c)

-- an image from before, the same or, where the gate was open, with another gate
abbrev pub ClosedImage : BodySlot → DiskState → List ℕ → Type 0
ClosedImage slot old c = (d : List ℕ) × old.images d × Closing slot old.seen d c

-- A gate was closed: one that was closed before was not written.
pub record Closes (slot : BodySlot) (old new : DiskState) : Type 0 where
  pub size : new.size ≡ old.size
  pub seen : Torn (gate_place slot) 1 old.seen new.seen
  pub crash : (c : List ℕ) → new.images c → ClosedImage slot old c
  pub time : Leaves old new (ClosedImage slot old)
  pub kept : Keeps old new

-- a disk on which this body can be committed: it has the next number, and nothing is pending in sectors 0 to 7
pub record CanCommitBody (uber : Uber) (disk : DiskState) : Type 0 where
  pub next : disk.honest → IsNext uber.number (latest disk.seen)
  pub settled : disk.honest → LabelSettled disk

-- a call that writes this body and makes it the latest
pub record WritesBody {F : Type 0} (uber : Uber) (old new : DiskState) (result : Result (Unit {0}) F) : Type 0 where
  -- whatever it answers, and at every moment of it
  pub moments : new.honest → Leaves old new (HasOldOrNew uber old)
  pub writes : WritesIn 0 4096 old new
  -- the new body stands once it is done, and nothing is pending
  pub stands : new.honest → OnOk result (Stands uber new.seen)
  pub durable : OnOk result (IsSynced new)
  pub fits : UberFits uber

-- a commit of this body: what the next commit finds besides, and that the disk's failure is the only fault
pub record CommitsBody (uber : Uber) (old new : DiskState) (result : Result (Unit {0}) UberFault) : Type 0 where
  pub written : WritesBody uber old new result
  -- whatever it answers, each image that a crash may leave then
  pub images : (c : List ℕ) → new.honest → new.images c → HasOldOrNew uber old c
  pub following : new.honest → OnOk result (IsNext (uber.number + 1) (latest new.seen))
  pub label : OnOk result (LabelSettled new)
  pub cause : HasDiskCause DiskFault old.faults new.faults result
  pub only : (fault : UberFault) → result ≡ Err fault → fault ≡ DiskFault

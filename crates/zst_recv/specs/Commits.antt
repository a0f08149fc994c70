-- What a feed commits.
use Rattle.std.specs.Prelude.{◌≡◌, ◌≢◌, ◌⊎◌, ℕ, Bool, true, false, List, Result, Ok, Err, IfErr, OnErr, OnOk, find}
use Rattle.zst_outside.specs.Images.{DiskState, Leaves}
use Rattle.zst_outside.specs.declared.disk.Disk.{Ghosts}
use Rattle.zst_block.specs.Blocks.{KeepsBlocks}
use Rattle.zst_block.specs.IoCalls.{is_damage}
use Rattle.zst_block.specs.IoStates.{IsHonest, disk_of}
use Rattle.zst_dir.specs.Rows.{Rows, is_for}
use Rattle.zst_image.specs.Commits.{HasItsExtents, Ready}
use Rattle.zst_image.specs.Reads.{Reads}
use Rattle.zst_image.specs.declared.pool_state.PoolState.{PoolState}
use Rattle.zst_model.specs.declared.refusals.refusal.Refusal.{Refusal}
use Rattle.zst_model.specs.pools.KeptPool.{kept_of}
use Rattle.zst_model.specs.pools.Pool.{Pool}
use Rattle.zst_pool.specs.Calls.{CallFault, CallGrows, IsAtRest, IsCallFault, IsCallFull}
use Rattle.zst_pool.specs.Faults.{HasDiskCause, is_disk_fault}
use Rattle.zst_pool.specs.Queries.{stop_of}
use Rattle.zst_pool.specs.declared.fault.PoolFault.{PoolFault}
use Rattle.zst_pool.specs.declared.fault.PoolFault.TheVariants.{DiskFault, Full}
use Rattle.zst_pool.specs.declared.pool.Pool as coded
use Rattle.zst_recv.specs.GoingOn.{IsRow}
use Rattle.zst_recv.specs.declared.batch.Batch as batches

-- What stands after a commit of what was taken, or of nothing: what the definition makes of the pool, or the pool as it was.
abbrev pub PutAnswer : (tight : Bool) → DiskState → PoolState → Pool → Result Pool Refusal → Result (Unit {0}) PoolFault → Type 0
PutAnswer tight now kept running definition (Ok done) = (next : Pool) × (definition ≡ Ok next) × IsAtRest tight now kept next
PutAnswer tight now kept running definition (Err fault) = CallFault (IsAtRest tight now kept running) definition fault

-- Inside it each image reads as what is kept of the pool before, or of the one that the definition makes; and then by its answer.
pub record Puts (tight : Bool) (start now : DiskState) (kept : PoolState) (running : Pool) (definition : Result Pool Refusal) (result : Result (Unit {0}) PoolFault) : Type 0 where
  pub moments : Leaves start now (λ c. Reads tight (kept_of running) c ⊎ ((next : Pool) × (definition ≡ Ok next) × Reads tight (kept_of next) c))
  pub answer : PutAnswer tight now kept running definition result

-- The rows that the commit of a batch for this target leaves, whatever the image is: those of other targets' partial states are as they were, and one that is under
-- way and took a record is there.
pub record CommitsRows {A : Type 0} (target : List ℕ) (old new : Rows) (batch : batches.Batch) (result : Result A PoolFault) : Type 0 where
  pub others : (other : List ℕ) → other ≢ target → find (is_for other) new.partials ≡ find (is_for other) old.partials
  pub own : batch.taken ≡ true → OnOk result (IsRow new target batch.stage)

module _ {D : Type 0} {g : Ghosts D} where
  -- how the commit of a batch ends over a pool that hasn't failed, whatever the image is; one in which no record was taken commits nothing
  pub record CommitsBatch {A : Type 0} (old new : coded.Pool D g) (result : Result A PoolFault) : Type 0 where
    -- there is no other refusal than E23, E24, E28 and E32, and after one what is kept stays
    pub known : IfErr result IsCallFault
    pub stays : OnErr result (new.kept ≡ old.kept)
    -- before E24 no free extent had as many sectors as a directory may take that has 2,048 bytes more, and a commit grows by no more
    pub short : (need largest : ℕ) → result ≡ Err (Full need largest) → IsCallFull old.io.space new.io.space old.kept.dir need largest
    pub grows : OnOk result ((new.kept ≡ old.kept) ⊎ CallGrows old.io.space old.kept new.kept)
    -- the latest body's free extents stand in sectors that it leaves not free, where those of the one before did
    pub extents : OnOk result (HasItsExtents (disk_of old.io) old.kept.body → HasItsExtents (disk_of new.io) new.kept.body)
    pub ready : new.io.failed ≡ false → Ready (disk_of new.io) new.kept.body
    -- unless the disk failed, each block that was there still stands, and the disk is as long
    pub stood : ¬ (result ≡ Err DiskFault) → KeepsBlocks (disk_of old.io).seen old.io.space (disk_of new.io).seen old.io.space
    pub size : (disk_of new.io).size ≡ (disk_of old.io).size
    pub failed : new.io.failed ≡ is_disk_fault result
    -- a block that is found damaged is told so
    pub told : is_damage (stop_of result) ≡ false → new.io.checksum_errors ≡ old.io.checksum_errors
    pub cause : HasDiskCause (disk_of old.io).faults (disk_of new.io).faults result
    pub honest : IsHonest new.io → IsHonest old.io
    pub same : new.io.disk.ghost_name ≡ old.io.disk.ghost_name

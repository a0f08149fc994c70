-- What opening a pool again leaves.
use Rattle.std.specs.Prelude.{◌≡◌, Bool, true, false, Result, Ok, Err, OnErr, OnOk}
use Rattle.zst_outside.specs.Images.{DiskState, IsSynced, OnlyReads}
use Rattle.zst_outside.specs.declared.disk.Disk.{Ghosts}
use Rattle.zst_block.specs.IoStates.{disk_of}
use Rattle.zst_uber.specs.DiskCalls.{HasDiskCause}
use Rattle.zst_image.specs.Bodies.{Body, free_by}
use Rattle.zst_model.specs.pools.Pool.{Pool as Plain}
use Rattle.zst_dir.specs.Rows.{Rows}
use Rattle.zst_image.specs.OpenAnswers.{GivesPool, OpenAnswers}
use Rattle.zst_image.specs.Reads.{ReadsAs}
use Rattle.zst_image.specs.declared.pool_state.PoolState.{PoolState}
use Rattle.zst_image.specs.declared.open_fault.OpenFault.{OpenFault}
use Rattle.zst_image.specs.declared.open_fault.OpenFault.TheVariants.{Damaged, NoPool, BadVersion, DiskFault, OutOfMemory}
use Rattle.zst_pool.specs.Calls.{CanCommit}
use Rattle.zst_pool.specs.declared.pool.Pool.{Pool}

-- an answer of opening again, with what is then kept
abbrev pub reopened : PoolState → Result (Unit {0}) OpenFault → Result PoolState OpenFault
reopened kept (Ok done) = Ok kept
reopened kept (Err fault) = Err fault

-- whether the pool counts as failed after an opening: not where it was opened; where the disk failed; and else as before
abbrev pub failed_after : Bool → Result PoolState OpenFault → Bool
failed_after failed (Ok kept) = false
failed_after failed (Err (Damaged sector stated found)) = failed
failed_after failed (Err NoPool) = failed
failed_after failed (Err (BadVersion version)) = failed
failed_after failed (Err DiskFault) = true
failed_after failed (Err OutOfMemory) = failed

-- what an opening gives by the image that it reads: the pool of each body as which that reads, and else the refusal of what it found
pub record OpensBy (old new : DiskState) (opened : Result PoolState OpenFault) : Type 0 where
  pub there : (tight : Bool) (body : Body) (rows : Rows) (pool : Plain) → new.honest → ReadsAs tight body rows pool old.seen → GivesPool body rows opened
  pub answer : new.honest → OpenAnswers old opened

module _ {D : Type 0} {g : Ghosts D} where
  -- how opening a pool again ends, whatever the image is
  pub record Reopens (old new : Pool D g) (result : Result (Unit {0}) OpenFault) : Type 0 where
    -- where it was opened, the next commit can be made over what the body leaves free, and nothing of the disk is pending
    pub works : OnOk result (CanCommit (disk_of new.io) new.io.space new.kept.body)
    pub space : OnOk result (new.io.space ≡ free_by new.kept.body)
    pub synced : OnOk result (IsSynced (disk_of new.io))
    -- after a refusal what is kept and the sectors stay
    pub kept : OnErr result (new.kept ≡ old.kept)
    pub same_space : OnErr result (new.io.space ≡ old.io.space)
    pub failed : new.io.failed ≡ failed_after old.io.failed (reopened new.kept result)
    -- the count of blocks that were found damaged goes on: a damage of the directory is the answer, and isn't counted in it
    pub checksum_errors : new.io.checksum_errors ≡ old.io.checksum_errors
    pub reads : OnlyReads (disk_of old.io) (disk_of new.io)
    pub cause : HasDiskCause DiskFault (disk_of old.io).faults (disk_of new.io).faults result
    pub same : new.io.disk.ghost_name ≡ old.io.disk.ghost_name

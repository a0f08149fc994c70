-- What a feed leaves, whatever the image is: of its pool, of the rows and of the receive.
use Rattle.std.specs.Prelude.{◌≡◌, ◌≢◌, ◌||◌, ◌+◌, ◌<◌, ℕ, true, false, List, length, Result, Err, IfErr, find}
use Rattle.zst_outside.specs.declared.disk.Disk.{Ghosts}
use Rattle.zst_block.specs.Blocks.{KeepsBlocks}
use Rattle.zst_block.specs.IoCalls.{HasCause, fails, is_damage}
use Rattle.zst_block.specs.IoStates.{IsHonest, disk_of}
use Rattle.zst_dir.specs.Rows.{Rows, is_for}
use Rattle.zst_image.specs.Commits.{HasItsExtents, Ready}
use Rattle.zst_image.specs.Bodies.{free_by}
use Rattle.zst_model.specs.declared.refusals.faults.Quantity.TheVariants.{Stream}
use Rattle.zst_model.specs.declared.refusals.plan_fault.PlanFault.TheVariants.{Limit}
use Rattle.zst_pool.specs.declared.fault.PoolFault.TheVariants as pools
use Rattle.zst_pool.specs.declared.pool.Pool.{Pool}
use Rattle.zst_reader.specs.InputReads.{stream_limit}
use Rattle.zst_recv.specs.Answers.{goes_on}
use Rattle.zst_recv.specs.Faults.{IsFeedFault, keeps_before, stop_of}
use Rattle.zst_recv.specs.FedReceives.{LeavesKept, LeavesReceive}
use Rattle.zst_recv.specs.GoingOn.{IsRow}
use Rattle.zst_recv.specs.Stages.{ask_of, fed_of, has_partial, is_waiting, stage_of}
use Rattle.zst_recv.specs.declared.fault.RecvFault.{RecvFault}
use Rattle.zst_recv.specs.declared.fault.RecvFault.TheVariants as faults
use Rattle.zst_recv.specs.declared.recv.FeedReport as coded
use Rattle.zst_recv.specs.declared.recv.Recv.{Recv}
use Rattle.zst_recv.specs.declared.stage.Stage.{Stage}

module _ {D : Type 0} {g : Ghosts D} where
  -- a pool was fed a piece of a stream
  pub record LeavesPool (old new : Pool D g) (result : Result coded.FeedReport RecvFault) : Type 0 where
    -- a pool that has failed answers nothing else, and does nothing
    pub failed_pool : old.io.failed ≡ true → result ≡ Err (faults.Pool pools.Failed)
    pub idle_disk : old.io.failed ≡ true → new.io.disk.now ≡ old.io.disk.now
    pub idle_kept : old.io.failed ≡ true → new.kept ≡ old.kept
    -- there is no other refusal, and only a pool that has failed answers so
    pub known : old.io.failed ≡ false → IfErr result IsFeedFault
    pub open_still : old.io.failed ≡ false → ¬ (result ≡ Err (faults.Pool pools.Failed))
    -- a refusal that keeps no records before it commits nothing: the body is as it was
    pub stays : (fault : RecvFault) → result ≡ Err fault → keeps_before fault ≡ false → new.kept.body ≡ old.kept.body
    -- unless the disk failed, the blocks that were there still are, over the sectors that the latest body then leaves free
    pub blocks : ¬ (result ≡ Err (faults.Pool pools.DiskFault)) → KeepsBlocks (disk_of old.io).seen (free_by old.kept.body) (disk_of new.io).seen (free_by new.kept.body)
    -- and whatever it answers, unless the disk failed, each block still stands that stood in sectors which the body left not free; the disk is as long
    pub stood : ¬ (result ≡ Err (faults.Pool pools.DiskFault)) → KeepsBlocks (disk_of old.io).seen (free_by old.kept.body) (disk_of new.io).seen (free_by old.kept.body)
    -- so do the latest body's free extents, in sectors that it leaves not free, where those of the one before did
    pub extents : ¬ (result ≡ Err (faults.Pool pools.DiskFault)) → HasItsExtents (disk_of old.io) old.kept.body → HasItsExtents (disk_of new.io) new.kept.body
    pub size : (disk_of new.io).size ≡ (disk_of old.io).size
    pub ready : new.io.failed ≡ false → Ready (disk_of new.io) new.kept.body
    pub failed : new.io.failed ≡ (old.io.failed || fails (stop_of result))
    -- a block that is found damaged is told so: only a feed that answers E25 may have counted one
    pub told : is_damage (stop_of result) ≡ false → new.io.checksum_errors ≡ old.io.checksum_errors
    pub cause : HasCause (disk_of old.io).faults (disk_of new.io).faults (stop_of result)
    pub honest : IsHonest new.io → IsHonest old.io
    pub same : new.io.disk.ghost_name ≡ old.io.disk.ghost_name

  -- a piece with which a stream would be longer than one may be was refused, and the disk wasn't called
  pub record IsTooLong (old new : Pool D g) (result : Result coded.FeedReport RecvFault) : Type 0 where
    pub refused : result ≡ Err (faults.Pool (pools.Plan (Limit Stream stream_limit)))
    pub idle : new.io.disk.now ≡ old.io.disk.now

-- The rows of a pool into which a piece was fed for this target, by a receive that stood here before: those of other targets' partial states are as they were, and
-- a receive that goes on has its own there, where that stood there before.
pub record LeavesRows (target : List ℕ) (before : Stage) (old new : Rows) (recv : Recv) (result : Result coded.FeedReport RecvFault) : Type 0 where
  pub others : (other : List ℕ) → other ≢ target → find (is_for other) new.partials ≡ find (is_for other) old.partials
  pub own : IsRow old target before → goes_on result ≡ true → IsRow new target (stage_of recv)

-- a receive was fed this piece, into a pool
pub record LeavesFed {D : Type 0} {g : Ghosts D} (piece : List ℕ) (before after : Recv) (old new : Pool D g) (result : Result coded.FeedReport RecvFault) : Type 0 where
  -- as long as BEGIN isn't covered nothing is committed; and what a refusal leaves of what is kept
  pub kept : LeavesKept (is_waiting after) old.io.failed (has_partial (stage_of before)) (ask_of before).target old.kept new.kept result
  pub pool : LeavesPool old new result
  -- E23: a stream that would be longer than one may be is refused as that before all else
  pub long : old.io.failed ≡ false → stream_limit < fed_of before + length piece → IsTooLong old new result
  -- others' partial states stay as they were, and where the receive goes on its own stands among the rows
  pub rows : LeavesRows (ask_of before).target (stage_of before) old.kept.dir new.kept.dir after result
  pub receive : LeavesReceive new.kept.dir piece before after result

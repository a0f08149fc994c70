-- What a call that only reads a pool leaves of it, and what a take of bytes makes of the sessions and of a world.
use Rattle.std.specs.Prelude.{◌≡◌, ◌⊎◌, ◌||◌, ◌==◌, ◌≤◌, IsTrue, ℕ, true, false, List, length, take, Option, Some, Result, Ok, Err, IfOk, OnOk}
use Rattle.std.specs.List.{position}
use Rattle.zst_outside.specs.Causes.{Rose}
use Rattle.zst_outside.specs.Images.{Leaves, OnlyReads}
use Rattle.zst_outside.specs.declared.disk.Disk.{Ghosts}
use Rattle.zst_block.specs.IoCalls.{HasCause, fails}
use Rattle.zst_block.specs.IoStates.{disk_of}
use Rattle.zst_block.specs.declared.fault.BlockFault.TheVariants.{Full}
use Rattle.zst_image.specs.Reads.{Reads}
use Rattle.zst_model.specs.declared.refusals.refusal.Refusal.{Refusal}
use Rattle.zst_model.specs.declared.refusals.refusal.Refusal.TheVariants as refusals
use Rattle.zst_model.specs.declared.sends.header.Point.{Point}
use Rattle.zst_model.specs.sends.Headers.{Sent}
use Rattle.zst_pool.specs.Queries.{stop_of}
use Rattle.zst_pool.specs.declared.fault.PoolFault.{PoolFault}
use Rattle.zst_pool.specs.declared.fault.PoolFault.TheVariants as faults
use Rattle.zst_pool.specs.declared.pool.Pool.{Pool}
use Rattle.zst_script.specs.declared.event.Side.TheVariants.{Here, There}
use Rattle.zst_send.specs.Sends.{TakesFrom}
use Rattle.zst_send.specs.declared.send.Send.{Send}
use Rattle.zst_tree.specs.Indices.{Blocks}
use Rattle.zst_sessions.specs.EngineSteps.{EngineFits, IsLaterEngine, NoneFailed, StandsFor, kept_pool}
use Rattle.zst_sessions.specs.Engines.{Kept, Stands}
use Rattle.zst_sessions.specs.Replay.{Fails, image_of}
use Rattle.zst_sessions.specs.World.{OpenSend, World, at_side, gone_on, next_piece, put_send, send_with}
use Rattle.zst_sessions.specs.declared.engine.Engine.{Engine}
use Rattle.zst_sessions.specs.declared.open_sessions.OpenReceive as kept_receives
use Rattle.zst_sessions.specs.declared.open_sessions.OpenSend as kept_sends

-- ---- a pool that is only read

-- What is kept of a pool that was only read: all is as it was, but for the mark that its disk failed; and where it had failed before, no image came.
pub record WasOnlyRead (old new : Kept) : Type 0 where
  pub reads : OnlyReads old.disk new.disk
  pub idle : old.failed ≡ true → Leaves old.disk new.disk (λ c. ⊥)
  pub tells : new.tells ≡ old.tells
  pub state : new.state ≡ old.state
  pub mark : new.failed ≡ false → old.failed ≡ false

module _ {D : Type 0} {g : Ghosts D} where
  -- A call only looked at a pool: what is kept of it stays; a pool that has failed answers nothing else than that, E28 comes only where its disk failed in this call, and E24 never.
  pub record LooksAtPool {T : Type 0} (old new : Pool D g) (result : Result T PoolFault) : Type 0 where
    pub failed_pool : old.io.failed ≡ true → result ≡ Err faults.Failed
    pub idle : old.io.failed ≡ true → new ≡ old
    pub open_still : old.io.failed ≡ false → ¬ (result ≡ Err faults.Failed)
    pub reads : OnlyReads (disk_of old.io) (disk_of new.io)
    pub never_full : (need largest : ℕ) → ¬ (stop_of result ≡ Some (Full need largest))
    pub kept : new.kept ≡ old.kept
    pub failed : new.io.failed ≡ (old.io.failed || fails (stop_of result))
    pub cause : HasCause (disk_of old.io).faults (disk_of new.io).faults (stop_of result)
    pub same : new.io.disk.ghost_name ≡ old.io.disk.ghost_name

-- ---- bytes of a send

-- A take gave what is next of a send, or was refused as one is; or no memory was left for the free extents of its pool, and the send stands as it stood.
abbrev pub GaveOrStarved : Blocks → (before after : Send) → Sent → Option Point → (given left into : List ℕ) → Result ℕ PoolFault → Type 0
GaveOrStarved has before after sent start given left into result = TakesFrom has after sent start given left into result ⊎ ((result ≡ Err faults.OutOfMemory) × (after ≡ before))

-- How a take of at most so many bytes of a send ends, and the world that it leaves: the room begins with the next piece, and the send has gone on; or the disk of its pool
-- fails, whose mark is set; or it had failed before; or no memory was left.
pub data TakeEnds (count : ℕ) (send : OpenSend) (world : World) (room : List ℕ) (result : Result ℕ Refusal) (next : World) : Type 0 where
  Gives : (taken : ℕ) → result ≡ Ok taken → (at_side send.side world).failed ≡ false → taken ≡ length (next_piece count send) → take taken room ≡ next_piece count send
      → next ≡ put_send (gone_on count send) world → TakeEnds count send world room result next
  Loses : result ≡ Err refusals.DiskFault → (at_side send.side world).failed ≡ false → Fails send.side world world next → TakeEnds count send world room result next
  HadFailed : result ≡ Err refusals.Failed → (at_side send.side world).failed ≡ true → next ≡ world → TakeEnds count send world room result next
  Starves : result ≡ Err refusals.OutOfMemory → (at_side send.side world).failed ≡ false → next ≡ world → TakeEnds count send world room result next

-- So it is with the send of a world that has this id: what then stands is the world that is left, and each image reads as it did.
pub record Takes (id count : ℕ) (world : World) (here there here' there' : Kept) (sends : List kept_sends.OpenSend) (receives : List kept_receives.OpenReceive) (room : List ℕ) (result : Result ℕ Refusal) : Type 0 where
  pub send : OpenSend
  pub found : send_with id world ≡ Some send
  pub next : World
  pub ends : TakeEnds count send world room result next
  pub stands : Stands true here' there' sends receives next
  pub here_moments : Leaves here.disk here'.disk (Reads true (image_of Here world))
  pub there_moments : Leaves there.disk there'.disk (Reads true (image_of There world))

module _ {D E : Type 0} {g : Ghosts D} {h : Ghosts E} where
  -- what a take makes of the world that the engine stands for, of the send that has this id
  abbrev pub TakesWorld : (id count : ℕ) → Engine D E g h → Engine D E g h → Result ℕ Refusal → Type 0
  TakesWorld id count old new result =
      (world : World) → (disk_of new.here.io).honest → (disk_of new.there.io).honest → IsTrue g.tells_images → IsTrue h.tells_images → StandsFor old world
      → Takes id count world (kept_pool old.here) (kept_pool old.there) (kept_pool new.here) (kept_pool new.there) new.sends.items new.receives.items new.room.items result

  -- A take of at most so many bytes of the send at this place, into the room: what it makes of a world, and what holds whatever the images are: both pools are only read, and receives stay.
  pub record TakesAt (place count : ℕ) (old new : Engine D E g h) (result : Result ℕ Refusal) : Type 0 where
    pub takes : (id : ℕ) → position (λ one. one.id == id) old.sends.items ≡ Some place → TakesWorld id count old new result
    pub fits : EngineFits new
    pub within : IfOk result (λ taken. taken ≤ count)
    pub receives : new.receives ≡ old.receives
    pub here_read : WasOnlyRead (kept_pool old.here) (kept_pool new.here)
    pub there_read : WasOnlyRead (kept_pool old.there) (kept_pool new.there)
    pub later : IsLaterEngine old new
    -- no disk fails unless it answers so, nor where bytes are given
    pub works : ¬ (result ≡ Err refusals.DiskFault) → NoneFailed old new
    pub marks : OnOk result ((new.here.io.failed ≡ old.here.io.failed) × (new.there.io.failed ≡ old.there.io.failed))
    pub cause : result ≡ Err refusals.DiskFault → Rose (disk_of old.here.io).faults (disk_of new.here.io).faults ⊎ Rose (disk_of old.there.io).faults (disk_of new.there.io).faults
    pub open_still : old.here.io.failed ≡ false → old.there.io.failed ≡ false → ¬ (result ≡ Err refusals.Failed)
    pub never_full : (need largest : ℕ) → ¬ (result ≡ Err (refusals.Full need largest))

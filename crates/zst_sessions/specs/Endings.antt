-- What the end of a receive, and opening a pool again, make of what the engine keeps of a pool.
use Rattle.std.specs.Prelude.{◌≡◌, ℕ, false, true, List, Result, Ok, Err}
use Rattle.zst_outside.specs.Images.{Leaves, OnlyReads}
use Rattle.zst_block.specs.Blocks.{Has}
use Rattle.zst_image.specs.Commits.{HasItsExtents, Ready}
use Rattle.zst_image.specs.Bodies.{free_by}
use Rattle.zst_image.specs.Reads.{Reads, bound_of}
use Rattle.zst_model.specs.declared.refusals.refusal.Refusal.{Refusal}
use Rattle.zst_model.specs.declared.refusals.refusal.Refusal.TheVariants as refusals
use Rattle.zst_model.specs.pools.KeptPool.{kept_of}
use Rattle.zst_model.specs.pools.Pool.{Pool}
use Rattle.zst_pool.specs.Calls.{IsAtRest}
use Rattle.zst_recv.specs.ReceiveSteps.{Stage, left_by}
use Rattle.zst_recv.specs.Stages.{Receives, ask_of}
use Rattle.zst_recv.specs.declared.recv.Recv.{Recv}
use Rattle.zst_sessions.specs.EngineSteps.{KeepsSessions}
use Rattle.zst_sessions.specs.Engines.{Kept}

-- A receive of a pool is over: what isn't kept of it goes, and nothing is read or written.
pub record EndsReceive (old new : Kept) (recv : Recv) : Type 0 where
  pub failed : new.failed ≡ old.failed
  pub seen : new.disk.seen ≡ old.disk.seen
  pub moments : Leaves old.disk new.disk (λ c. ⊥)
  pub rests : (running : Pool) (text : List ℕ) (stage : Stage) → IsAtRest true old.disk old.state running
      → Receives (bound_of true running.number) (Has old.disk.seen (free_by old.state.body)) recv text stage → IsAtRest true new.disk new.state (left_by stage running)
  -- other sessions see nothing of it
  pub keeps : KeepsSessions (λ target. target ≡ (ask_of recv).target) old new

-- How an opening ends of a disk that reads as this pool: it is opened, and its number told; or its disk fails; or no memory is left, and the pool's image is as it was.
pub data OpeningEnds (old new : Kept) (pool : Pool) (result : Result ℕ Refusal) : Type 0 where
  IsOpened : result ≡ Ok pool.number → new.failed ≡ false → IsAtRest true new.disk new.state pool → OpeningEnds old new pool result
  LosesDisk : result ≡ Err refusals.DiskFault → new.failed ≡ true → OpeningEnds old new pool result
  FindsNoMemory : result ≡ Err refusals.OutOfMemory → new.failed ≡ old.failed → (old.failed ≡ false → IsAtRest true new.disk new.state pool) → OpeningEnds old new pool result

-- A pool was opened again, once what isn't kept of it was dropped: its disk was only read, and where that reads as what is kept of a pool, as whose the pool at rest is, it ends so.
pub record OpensAgain (old new : Kept) (result : Result ℕ Refusal) : Type 0 where
  pub reads : OnlyReads old.disk new.disk
  pub never_full : (need largest : ℕ) → ¬ (result ≡ Err (refusals.Full need largest))
  pub ready : new.failed ≡ false → Ready new.disk new.state.body
  pub works : ¬ (result ≡ Err refusals.DiskFault) → old.failed ≡ false → new.failed ≡ false
  -- unless its disk had failed, or a read gave other bytes, its body is the one that was kept, where the extents of that stood in sectors that it left not free
  pub body : old.failed ≡ false → new.disk.honest → HasItsExtents old.disk old.state.body → new.state.body ≡ old.state.body
  pub ends : (running : Pool) → new.disk.honest → Reads true (kept_of running) old.disk.seen → (old.failed ≡ false → IsAtRest true old.disk old.state running)
      → OpeningEnds old new (kept_of running) result

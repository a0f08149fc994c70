-- What the commit of a reclaim does, over the sectors that were found unreached, whatever it answers.
use Rattle.std.specs.Prelude.{◌≡◌, ℕ, Bool, false, Result, IfErr, IfOk}
use Rattle.zst_space.specs.FreeSectors.{FreeSectors}
use Rattle.zst_block.specs.Blocks.{Has}
use Rattle.zst_block.specs.IoCalls.{fails}
use Rattle.zst_block.specs.IoStates.{IoState}
use Rattle.zst_model.specs.pools.Pool.{Pool}
use Rattle.zst_uber.specs.DiskCalls.{HasDiskCause}
use Rattle.zst_image.specs.Commits.{CommitsOver, KeepsDisk, NextIs, RefusedDir}
use Rattle.zst_image.specs.Faults.{stop_of_commit}
use Rattle.zst_image.specs.FreedCommits.{AreAllUnmarked, FreedDir, IsFreedFull}
use Rattle.zst_image.specs.declared.commit_fault.CommitFault.{CommitFault}
use Rattle.zst_image.specs.declared.commit_fault.CommitFault.TheVariants.{DiskFault, Full}
use Rattle.zst_image.specs.declared.pool_state.PoolState.{PoolState}
use Rattle.zst_roots.specs.declared.unreached.UnreachedSectors.{UnreachedSectors}
use Rattle.zst_pool.specs.Faults.{of_committed}
use Rattle.zst_pool.specs.declared.fault.PoolFault.{PoolFault}

-- an Io whose free sectors are those that were found
abbrev pub over_found : UnreachedSectors → IoState → IoState
over_found found io = record io { space = found.space }

-- the directory that is kept is committed once more, over the sectors that were found, and what they leave unmarked is made free; a want of memory before it is answered as one of the commit
pub record CommitsFound (kept : PoolState) (found : UnreachedSectors) (old new : IoState) (result : Result PoolState PoolFault) : Type 0 where
  pub made : Result PoolState CommitFault
  pub answers : result ≡ of_committed made
  pub over : (tight : Bool) (all : FreeSectors) (next : Pool) → new.disk.honest → AreAllUnmarked kept.body found.marks all → NextIs tight (Has old.disk.seen all) kept.body kept.body.uber.guids kept.dir next
      → CommitsOver tight old.disk found.space new.disk new.space next made
  pub done : IfOk made (FreedDir kept.body kept.dir found.marks (over_found found old) new)
  pub full : IfErr made (λ fault. (need largest : ℕ) → fault ≡ Full need largest → IsFreedFull kept.dir found.marks found.space new.space need largest)
  pub refused : RefusedDir kept.body (over_found found old) new made
  pub disk : KeepsDisk (fails (stop_of_commit made)) false (over_found found old) new
  pub cause : HasDiskCause DiskFault old.disk.faults new.disk.faults made

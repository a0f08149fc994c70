-- What a check tells of a pool, from what its parts find and its count gives.
use Rattle.std.proofs.Common.{◌≡◌, ℕ, Bool, List, [], Option, Some, None, false, refl, sym, ap, ◌∙◌, subst}
use Rattle.std.specs.Prelude.{Result, Ok, Err}
use Rattle.zst_block.specs.Blocks.{Has}
use Rattle.zst_block.specs.IoCalls.{Looks}
use Rattle.zst_block.specs.IoStates.{IoState, disk_of, io_of}
use Rattle.zst_block.specs.declared.fault.BlockFault.{BlockFault}
use Rattle.zst_block.specs.declared.fault.BlockFault.TheVariants as blocks
use Rattle.zst_block.specs.declared.io.Io.{Io}
use Rattle.zst_dir.specs.Rows.{Rows}
use Rattle.zst_image.specs.Bodies.{free_by}
use Rattle.zst_image.specs.Commits.{Ready}
use Rattle.zst_image.specs.Reads.{HasDir, RunsBy}
use Rattle.zst_image.specs.declared.pool_state.PoolState.{PoolState}
use Rattle.zst_image.proofs.PlainReads.{RunsBy-plain}
use Rattle.zst_model.specs.pools.Pool.{Pool}
use Rattle.zst_outside.specs.Images.{DiskState}
use Rattle.zst_outside.specs.declared.disk.Disk.{Ghosts}
use Rattle.zst_pool.specs.Calls.{IsAtRest}
use Rattle.zst_pool.specs.Events.{Settles}
use Rattle.zst_pool.specs.Faults.{of_block, or_memory}
use Rattle.zst_pool.specs.Queries.{stop_of}
use Rattle.zst_pool.specs.declared.fault.PoolFault.{PoolFault}
use Rattle.zst_pool.specs.declared.pool.Pool.{Pool as OpenPool}
use Rattle.zst_pool.proofs.EventEnds.{settles_err, settles_ok, settles_told}
use Rattle.zst_space.specs.FreeSectors.{FreeSectors}
use Rattle.zst_tree.specs.Faults.{GivesOrTells, fault_of}
use Rattle.zst_tree.specs.Indices.{IsNoDamage}
use Rattle.zst_tree.specs.declared.or_memory.OrMemory.{OrMemory}
use Rattle.zst_tree.specs.declared.or_memory.OrMemory.TheVariants.{Fault, Memory}
use Rattle.zst_uber.specs.declared.uber.Uber.{Uber}
use Rattle.zst_check.specs.Checks.{IsReportBy, TellsReport}
use Rattle.zst_check.specs.Findings.{FindsUnsound}
use Rattle.zst_check.specs.declared.report.Report.{Report}
use Rattle.zst_check.specs.declared.report.Report.TheVariants as reports
use Rattle.zst_extents.specs.StoredExtents.{HasExtents}

-- what a pool at rest is, over the sectors that its latest body leaves free
module _ {tight : Bool} (disk : DiskState) (kept : PoolState) (running : Pool) where
  -- the body has its number
  pub number_is : (uber : Uber) → uber ≡ kept.body.uber → IsAtRest tight disk kept running → running.number ≡ uber.number
  number_is uber same rested = rested.rests.reads.described.number ∙ sym (ap (λ (u : Uber). u.number) same)

  module _ (space : FreeSectors) (free : space ≡ free_by kept.body) where
    -- the rows stand for it
    pub runs_over : IsAtRest tight disk kept running → RunsBy None (Has disk.seen space) kept.dir running
    runs_over rested = subst (λ (s : FreeSectors). RunsBy None (Has disk.seen s) kept.dir running) (sym free) (RunsBy-plain (Has disk.seen (free_by kept.body)) kept.dir running rested.runs_by)

    -- and the texts of the body stand: its directory
    pub dir_over : (uber : Uber) → uber ≡ kept.body.uber → (rested : IsAtRest tight disk kept running) → HasDir (Has disk.seen space) uber rested.rows
    dir_over uber same rested =
        subst (λ (s : FreeSectors). HasDir (Has disk.seen s) uber rested.rows) (sym free) (subst (λ (u : Uber). HasDir (Has disk.seen (free_by kept.body)) u rested.rows) (sym same) rested.rests.reads.described.directory)

    -- and its free extents
    pub extents_over : (uber : Uber) → uber ≡ kept.body.uber → IsAtRest tight disk kept running → HasExtents (Has disk.seen space) uber.free_levels uber.free_root uber.free_count kept.body.free
    extents_over uber same rested =
        subst (λ (s : FreeSectors). HasExtents (Has disk.seen s) uber.free_levels uber.free_root uber.free_count kept.body.free) (sym free)
        (subst (λ (u : Uber). HasExtents (Has disk.seen (free_by kept.body)) u.free_levels u.free_root u.free_count kept.body.free) (sym same) rested.rests.reads.described.extents)

-- what is found is a report
pub found_report : (image : List ℕ) (uber : Uber) (rows : Rows) (pool : Pool) (found : Option Report) (report : Report) → found ≡ Some report → FindsUnsound pool found → IsReportBy image uber rows pool report
found_report image uber rows pool found report is finds = go report (subst (FindsUnsound pool) is finds)
  where
    go : (r : Report) → FindsUnsound pool (Some r) → IsReportBy image uber rows pool r
    go (reports.Sound blocks) none = absurd none
    go (reports.Unsound earlier later object block) at = at

-- and where a part or the count is refused, no memory was left or the disk failed
pub refused_report : {T : Type 0} (Is : T → Type 0) (image : List ℕ) (uber : Uber) (rows : Rows) (pool : Pool) (fault : OrMemory BlockFault) → GivesOrTells Is IsNoDamage (Err fault)
    → ((need largest : ℕ) → ¬ (fault_of {T = T} (Err fault) ≡ Some (blocks.Full need largest))) → TellsReport image uber rows pool (Err (or_memory of_block fault))
refused_report Is image uber rows pool (Fault (blocks.Full need largest)) told never = never need largest refl
refused_report Is image uber rows pool (Fault (blocks.Damaged sector stated found)) told never = told
refused_report Is image uber rows pool (Fault blocks.DiskFault) told never = tt
refused_report Is image uber rows pool Memory told never = tt

-- a call that stops at a fault is an event that does
stop_fault : (T U : Type 0) (fault : OrMemory BlockFault) → fault_of {T = T} (Err fault) ≡ stop_of {T = U} (Err (or_memory of_block fault))
stop_fault T U (Fault (blocks.Full need largest)) = refl
stop_fault T U (Fault (blocks.Damaged sector stated found)) = refl
stop_fault T U (Fault blocks.DiskFault) = refl
stop_fault T U Memory = refl

-- how a check ends that only read, once the sectors were free again
module _ {D : Type 0} {g : Ghosts D} (pool : OpenPool D g) (io : Io D g) (works : pool.io.failed ≡ false) (space : FreeSectors) (free : space ≡ free_by pool.kept.body)
    (ready : Ready (disk_of pool.io) pool.kept.body) where
  -- as it began
  abbrev begun : IoState
  begun = record { disk = disk_of pool.io; space = space; failed = pool.io.failed; checksum_errors = pool.io.checksum_errors; reference = pool.io.disk.ghost_name }

  -- after a report
  pub settles_report : (report : Report) → Looks begun (io_of io) None → Settles pool (record pool { io = io }) (Ok report)
  settles_report report looks = settles_ok pool (record pool { io = io }) [] report (settles_told pool io (Ok []) works space free looks ready)

  -- and after a refusal
  pub settles_refused : (T : Type 0) (fault : OrMemory BlockFault) (result : Result Report PoolFault) → result ≡ Err (or_memory of_block fault) → Looks begun (io_of io) (fault_of {T = T} (Err fault))
      → Settles pool (record pool { io = io }) result
  settles_refused T fault result fell looks =
      settles_err pool (record pool { io = io }) (or_memory of_block fault) result fell
      (settles_told pool io (Err (or_memory of_block fault)) works space free (subst (Looks begun (io_of io)) (stop_fault T (List (List ℕ)) fault) looks) ready)

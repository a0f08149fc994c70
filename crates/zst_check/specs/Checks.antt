-- What a check of a pool tells.
use Rattle.std.specs.Prelude.{ℕ, ◌++◌, List, codes, Result, Ok, Err}
use Rattle.zst_block.specs.Blocks.{IsBlock}
use Rattle.zst_dir.specs.Rows.{Rows}
use Rattle.zst_model.specs.pools.AnswerLines.{word}
use Rattle.zst_model.specs.pools.Pool.{Pool}
use Rattle.zst_model.specs.pools.Soundness as soundness
use Rattle.zst_laws.specs.RedactionLists.{AreListed}
use Rattle.zst_pool.specs.declared.fault.PoolFault.{PoolFault}
use Rattle.zst_pool.specs.declared.fault.PoolFault.TheVariants as faults
use Rattle.zst_uber.specs.declared.uber.Uber.{Uber}
use Rattle.zst_count.specs.CountedRows.{AreAllRead}
use Rattle.zst_count.specs.FirstSectors.{CountsBlocks}
use Rattle.zst_check.specs.Reports.{IsUnsoundAt}
use Rattle.zst_check.specs.declared.report.Report.{Report}
use Rattle.zst_check.specs.declared.report.Report.TheVariants.{Sound, Unsound}

-- a report by an image: it says sound, with the count of blocks that the body with its directory reaches, of a pool of which all four parts of soundness hold; else it names where the first part fails that does
abbrev pub IsReportBy : (image : List ℕ) → Uber → Rows → Pool → Report → Type 0
IsReportBy image uber rows pool (Sound blocks) = CountsBlocks (IsBlock image) uber rows blocks × soundness.Sound pool × AreListed pool
IsReportBy image uber rows pool (Unsound earlier later object block) = IsUnsoundAt pool earlier later object block

-- what is told is a report of the pool; or memory was wanted, or the disk failed, and nothing is damaged
abbrev pub TellsReport : (image : List ℕ) → Uber → Rows → Pool → Result Report PoolFault → Type 0
TellsReport image uber rows pool (Ok report) = IsReportBy image uber rows pool report
TellsReport image uber rows pool (Err faults.OutOfMemory) = Unit {0}
TellsReport image uber rows pool (Err faults.DiskFault) = Unit {0}
TellsReport image uber rows pool (Err fault) = ⊥

-- What holds of any image where its pool is told to be sound with so many blocks: each block that the body with this directory reaches was read, with the sums of
-- its pointer; and they are so many, by their first sectors.
pub record IsSoundOn (image : List ℕ) (uber : Uber) (rows : Rows) (blocks : ℕ) : Type 0 where
  pub read : AreAllRead image uber rows
  pub counts : CountsBlocks (IsBlock image) uber rows blocks

-- the line of a report
abbrev pub report_line : Report → List ℕ
report_line (Sound blocks) = codes "sound" ++ word blocks
report_line (Unsound earlier later object block) = codes "unsound " ++ (earlier ++ (codes " " ++ (later ++ (codes " object" ++ (word object ++ (codes " block" ++ word block))))))

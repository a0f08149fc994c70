-- What a call of a receive does to a pool that runs.
use Rattle.std.specs.Prelude.{◌≡◌, ◌⊎◌, ◌+◌, ◌<◌, ◌≤◌, ℕ, Bool, length, Result, Ok, Err}
use Rattle.zst_outside.specs.Images.{DiskState, Leaves}
use Rattle.zst_space.specs.FreeSectors.{FreeSectors, largest_of}
use Rattle.zst_block.specs.Blocks.{FillsFree, FitsDisk, Has}
use Rattle.zst_block.specs.IoCalls.{IsBlockLength, TakesAtMost}
use Rattle.zst_image.specs.Bodies.{Body, free_by}
use Rattle.zst_model.specs.declared.refusals.faults.Quantity.{Quantity}
use Rattle.zst_model.specs.declared.refusals.plan_fault.PlanFault.TheVariants.{Limit}
use Rattle.zst_model.specs.declared.refusals.refusal.Refusal.{Refusal}
use Rattle.zst_model.specs.refusals.Refusal.{refusal_of}
use Rattle.zst_model.specs.pools.KeptPool.{kept_of}
use Rattle.zst_model.specs.pools.Pool.{Pool, IsPool}
use Rattle.zst_dir.specs.Rows.{Rows}
use Rattle.zst_dir.specs.Spelling.{dir_bytes}
use Rattle.zst_image.specs.Reads.{Reads, Rests, RunsBy, bound_of, kept_rows}
use Rattle.zst_image.specs.Commits.{Ready, commit_sectors}
use Rattle.zst_pool.specs.declared.fault.PoolFault.{PoolFault}
use Rattle.zst_pool.specs.declared.fault.PoolFault.TheVariants.{Plan, CannotApply, Redacted, Full, Damaged, DiskFault, Failed, OutOfMemory}
use Rattle.zst_image.specs.declared.pool_state.PoolState.{PoolState}

-- over these free sectors the next commit can be made
pub record CanCommit (disk : DiskState) (space : FreeSectors) (body : Body) : Type 0 where
  pub fits : FitsDisk disk.size space
  pub sectors : space.sectors ≡ body.uber.sectors
  pub ready : Ready disk body

-- a pool differs from another in what it lists alone
pub record ListsAnew (running next : Pool) : Type 0 where
  pub id : next.id ≡ running.id
  pub number : next.number ≡ running.number
  pub guids : next.guids ≡ running.guids

-- between its events: the disk rests, by its rows, as what is kept of this pool, and the rows in memory, of which those that last are the disk's, stand for the lawful pool that runs, by tight sets where that is said
pub record IsAtRest (tight : Bool) (now : DiskState) (kept : PoolState) (running : Pool) : Type 0 where
  pub rows : Rows
  pub lasting : kept_rows kept.dir ≡ kept_rows rows
  pub rests : Rests tight now kept.body rows (kept_of running)
  pub runs_by : RunsBy (bound_of tight running.number) (Has now.seen (free_by kept.body)) kept.dir running
  pub lawful : IsPool running

-- within an event: at a start the pool was at rest, and since then blocks alone were written
pub record IsUnderWay (tight : Bool) (start now : DiskState) (space : FreeSectors) (kept : PoolState) (running : Pool) : Type 0 where
  pub rested : IsAtRest tight start kept running
  pub fills : FillsFree start (free_by kept.body) now space

-- why a call is refused, and what then stands: a limit where the definition says so, and a full disk only where it accepts
abbrev pub CallFault : Type 0 → Result Pool Refusal → PoolFault → Type 0
CallFault before definition (Plan fault) = (definition ≡ Err (refusal_of fault)) × before
CallFault before definition (CannotApply fault) = ⊥
CallFault before definition (Redacted object block) = ⊥
CallFault before definition (Full need largest) = (largest < need) × ((next : Pool) × (definition ≡ Ok next)) × before
CallFault before definition (Damaged sector stated found) = ⊥
CallFault before definition DiskFault = Unit {0}
CallFault before definition Failed = ⊥
CallFault before definition OutOfMemory = before

-- the faults that a call may answer, whatever the image is: E23, E24, E28 and E32
abbrev pub IsCallFault : PoolFault → Type 0
IsCallFault (Plan fault) = (which : Quantity) × (most : ℕ) × (fault ≡ Limit which most)
IsCallFault (CannotApply fault) = ⊥
IsCallFault (Redacted object block) = ⊥
IsCallFault (Full need largest) = largest < need
IsCallFault (Damaged sector stated found) = ⊥
IsCallFault DiskFault = Unit {0}
IsCallFault Failed = ⊥
IsCallFault OutOfMemory = Unit {0}

-- what stands after a call's answer: what the definition makes of the pool, or the pool as it was
abbrev pub CallAnswer : (tight : Bool) → DiskState → PoolState → Pool → Result Pool Refusal → Result PoolState PoolFault → Type 0
CallAnswer tight now old running definition (Ok kept) = (next : Pool) × (definition ≡ Ok next) × (kept.body.uber.number ≡ next.number) × IsAtRest tight now kept next
CallAnswer tight now old running definition (Err fault) = CallFault (IsAtRest tight now old running) definition fault

-- a call that commits: inside it each image reads as what is kept of the pool before, or of the one that the definition makes, and then by its answer
pub record CallDid (tight : Bool) (start now : DiskState) (kept : PoolState) (running : Pool) (definition : Result Pool Refusal) (result : Result PoolState PoolFault) : Type 0 where
  pub moments : Leaves start now (λ c. Reads tight (kept_of running) c ⊎ ((next : Pool) × (definition ≡ Ok next) × Reads tight (kept_of next) c))
  pub answer : CallAnswer tight now kept running definition result

-- a call's answer with what the pool then keeps
abbrev pub keeping : PoolState → Result ℕ PoolFault → Result PoolState PoolFault
keeping kept (Ok number) = Ok kept
keeping kept (Err fault) = Err fault

-- E24 of a call: the 16 sectors of a block of a directory are longer than the longest extent of those that are left then, which are those before less blocks of it that were written; at most so many were taken as the commit of a directory with 2,048 bytes more takes, beside the extents that were free, and before it no free extent had as many
pub record IsCallFull (space left : FreeSectors) (rows : Rows) (need largest : ℕ) : Type 0 where
  pub taken : TakesAtMost (commit_sectors (length (dir_bytes rows) + 2048) (length space.free)) (IsBlockLength 16) space left
  pub shorter : largest < need
  pub needed : need ≡ 16
  pub is_longest : largest ≡ largest_of left
  pub before : largest_of space < commit_sectors (length (dir_bytes rows) + 2048) (length space.free)

-- what a call of a receive committed over these free sectors: the number is one more, and the directory has at most 2,048 bytes more; the body has as many sectors, and leaves free what was, less at most what the commit of such a directory takes
pub record CallGrows (space : FreeSectors) (before after : PoolState) : Type 0 where
  pub number : after.body.uber.number ≡ before.body.uber.number + 1
  pub directory : length (dir_bytes after.dir) ≤ length (dir_bytes before.dir) + 2048
  pub sectors : after.body.uber.sectors ≡ before.body.uber.sectors
  pub takes : TakesAtMost (commit_sectors (length (dir_bytes before.dir) + 2048) (length space.free)) (IsBlockLength 16) space (free_by after.body)

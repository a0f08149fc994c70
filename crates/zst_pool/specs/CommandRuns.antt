-- What running a command does.
use Rattle.std.specs.Prelude.{◌≡◌, ◌≢◌, ◌≤◌, ℕ, Bool, false, List, [], Result, Ok, Err, OnErr, IfErr, IfOk}
use Rattle.zst_outside.specs.Images.{DiskState, Leaves}
use Rattle.zst_block.specs.Blocks.{KeepsBlocks, SparesTaken}
use Rattle.zst_block.specs.IoStates.{IoState}
use Rattle.zst_model.specs.declared.pools.command.Command.{Command}
use Rattle.zst_model.specs.declared.pools.command.Command.TheVariants as commands
use Rattle.zst_model.specs.declared.refusals.refusal.Refusal.{Refusal}
use Rattle.zst_model.specs.pools.Pool.{Pool}
use Rattle.zst_model.specs.pools.Step.{Stepped, committed, stepped}
use Rattle.zst_objset.specs.Damage.{DamageFact}
use Rattle.zst_dir.specs.declared.rows.Partial.{Partial}
use Rattle.zst_roots.specs.declared.held.HeldBlocks.{HeldBlocks}
use Rattle.zst_pool.specs.Cost.{Cost, FindsLess, Spends, cost_of}
use Rattle.zst_pool.specs.Damage.{IsOf, TellsDamage, reclaim_damage}
use Rattle.zst_pool.specs.Faults.{StepFault}
use Rattle.zst_image.specs.Commits.{Ready}
use Rattle.zst_image.specs.Bodies.{free_by}
use Rattle.zst_pool.specs.Calls.{IsAtRest}
use Rattle.zst_pool.specs.Events.{EndsCommit}
use Rattle.zst_pool.specs.PartialRows.{each_stays, rows_after}
use Rattle.zst_pool.specs.Plans.{Plans, indices_end, makes_list, numbers_end}
use Rattle.zst_pool.specs.Reclaims.{HeldStand, Reclaims, SparesReached}
use Rattle.zst_pool.specs.StepAnswers.{BeforeOrAfter}
use Rattle.zst_pool.specs.declared.fault.PoolFault.{PoolFault}
use Rattle.zst_pool.specs.declared.fault.PoolFault.TheVariants.{DiskFault, Failed}
use Rattle.zst_image.specs.declared.pool_state.PoolState.{PoolState}

-- what stands after a command's answer: what the definition makes of the pool, or the pool as it was
abbrev pub DidAnswer : (tight : Bool) → DiskState → PoolState → Pool → Result Stepped Refusal → Result PoolState PoolFault → Type 0
DidAnswer tight now old running definition (Ok kept) = (done : Stepped) × (definition ≡ Ok done) × IsAtRest tight now kept done.pool
DidAnswer tight now old running definition (Err fault) = StepFault (IsAtRest tight now old running) definition fault

-- a command that commits: inside it each image reads as what is kept of the pool before or of what the definition makes of it, and then by its answer
pub record Did (tight : Bool) (start now : DiskState) (kept : PoolState) (running : Pool) (definition : Result Stepped Refusal) (result : Result PoolState PoolFault) : Type 0 where
  pub moments : Leaves start now (BeforeOrAfter tight running definition)
  pub answer : DidAnswer tight now kept running definition result

-- what is kept after a command that went well is what it answers
abbrev pub as_kept : PoolState → PoolState
as_kept kept = kept

-- what a command at this cost did: by its definition where a pool was at rest, and what stands then whatever the image was
pub record Ran (definition : Pool → Result Stepped Refusal) (cost : Cost) (kept : PoolState) (old new : IoState) (result : Result PoolState PoolFault) : Type 0 where
  pub did : (tight : Bool) (running : Pool) → new.disk.honest → IsAtRest tight old.disk kept running → Did tight old.disk new.disk kept running (definition running) result
  pub open_still : ¬ (result ≡ Err Failed)
  -- it takes no more than the cost at most, and no more than the cost in the pool
  pub spends : (block : ℕ) × (block ≤ cost.most) × Spends cost.cells block cost.most_list kept new.space as_kept result
  pub exact : (running : Pool) → new.disk.honest → IsAtRest false old.disk kept running → Spends cost.cells (cost.block running) (cost.list running) kept new.space as_kept result
  -- and where it finds no room there, fewer sectors were free than it takes with the directory that it would leave
  pub short : (running : Pool) → new.disk.honest → IsAtRest false old.disk kept running → IfErr result (FindsLess cost.cells (cost.block running) (cost.list running) kept.body (definition running))
  -- where it is refused, unless the disk failed, free sectors alone were written
  pub spares : ¬ (result ≡ Err DiskFault) → OnErr result (SparesTaken (free_by kept.body) old.disk.seen new.disk.seen)
  pub commits : EndsCommit kept old new result
  -- where it commits, the blocks that were there still are, over the sectors that the new body leaves free
  pub blocks : IfOk result (λ next. KeepsBlocks old.disk.seen (free_by kept.body) new.disk.seen (free_by next.body))

-- and which damage it told
pub record Runs (definition : Pool → Result Stepped Refusal) (cost : Cost) (damage : DamageFact) (kept : PoolState) (old new : IoState) (result : Result PoolState PoolFault) : Type 0 where
  pub ran : Ran definition cost kept old new result
  pub damaged : new.disk.honest → IfErr result (IsOf damage)

-- a command that commits can begin: what the latest body leaves free is free, and the next commit can be made
pub record CanBegin (now : IoState) (kept : PoolState) : Type 0 where
  pub space : now.space ≡ free_by kept.body
  pub ready : Ready now.disk kept.body

-- what a command that commits did and told, what its plan refuses, and what it leaves of the rows of partial states
pub record RunsByPlan (definition : Pool → Result Stepped Refusal) (cost : Cost) (damage : DamageFact) (numbers indices : ℕ) (lists : Bool) (left : List Partial → List Partial) (kept : PoolState) (old new : IoState) (result : Result PoolState PoolFault) : Type 0 where
  pub runs : Runs definition cost damage kept old new result
  pub plans : Plans definition numbers indices lists kept result
  pub partials : IfOk result (λ next. next.dir.partials ≡ left kept.dir.partials)

-- what is kept after a command's answer
abbrev pub kept_after : PoolState → Result PoolState PoolFault → PoolState
kept_after kept (Ok next) = next
kept_after kept (Err fault) = kept

-- what each command that commits did, whatever it may write into and takes: by its definition where a pool was at rest, and what stands then, what it told as damaged and what its plan refused, whatever the image was
pub record Carries (held : List HeldBlocks) (definition : Pool → Result Stepped Refusal) (damage : DamageFact) (numbers indices : ℕ) (lists : Bool) (left : List Partial → List Partial) (kept : PoolState) (old new : IoState) (result : Result PoolState PoolFault) : Type 0 where
  pub moments : (tight : Bool) (running : Pool) → new.disk.honest → IsAtRest tight old.disk kept running → Leaves old.disk new.disk (BeforeOrAfter tight running (definition running))
  pub answer : (tight : Bool) (running : Pool) → new.disk.honest → IsAtRest tight old.disk kept running → HeldStand old.disk kept.body held → DidAnswer tight new.disk kept running (definition running) result
  pub open_still : ¬ (result ≡ Err Failed)
  pub commits : EndsCommit kept old new result
  -- unless the disk failed, what the rows from before reach and what sessions hold still stands
  pub spared : new.disk.honest → ¬ (result ≡ Err DiskFault) → SparesReached held old.disk new.disk kept (kept_after kept result)
  pub damaged : new.disk.honest → IfErr result (IsOf damage)
  pub plans : Plans definition numbers indices lists kept result
  pub partials : IfOk result (λ next. next.dir.partials ≡ left kept.dir.partials)

-- what a reclaim did, and what it made free
pub record ReclaimDid (held : List HeldBlocks) (kept : PoolState) (old new : IoState) (result : Result PoolState PoolFault) : Type 0 where
  pub carries : Carries held committed (reclaim_damage held old.disk kept.body kept.dir) 0 0 false each_stays kept old new result
  pub reclaims : new.disk.honest → Reclaims held old.disk new.disk kept (kept_after kept result) new.space result

-- what a command did that commits, at this time; and what it took, where it is no reclaim, or made free, where it is one
pub record CarriesOut (now : ℕ) (command : Command) (held : List HeldBlocks) (kept : PoolState) (old new : IoState) (result : Result PoolState PoolFault) : Type 0 where
  pub carries : Carries held (λ pool. stepped [] now command pool) (TellsDamage command held kept.body kept.dir old.disk) (numbers_end command) (indices_end command) (makes_list command) (rows_after command) kept old new result
  pub ran : command ≢ commands.Reclaim → Ran (λ pool. stepped [] now command pool) (cost_of command) kept old new result
  pub reclaims : command ≡ commands.Reclaim → new.disk.honest → Reclaims held old.disk new.disk kept (kept_after kept result) new.space result

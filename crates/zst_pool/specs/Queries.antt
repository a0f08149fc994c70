-- What a command that only answers does: it reads, and changes neither the disk nor what is kept.
use Rattle.std.specs.Prelude.{◌≡◌, ℕ, Bool, List, Option, Some, None, Result, Ok, Err, IfErr}
use Rattle.zst_block.specs.Blocks.{Has}
use Rattle.zst_block.specs.IoCalls.{Looks}
use Rattle.zst_block.specs.IoStates.{IoState}
use Rattle.zst_block.specs.declared.fault.BlockFault.{BlockFault}
use Rattle.zst_block.specs.declared.fault.BlockFault.TheVariants as blocks
use Rattle.zst_model.specs.declared.refusals.subjects.Name.{Name}
use Rattle.zst_model.specs.declared.refusals.refusal.Refusal.{Refusal}
use Rattle.zst_model.specs.states.DatedState.{DatedState}
use Rattle.zst_model.specs.pools.Pool.{Pool}
use Rattle.zst_model.specs.pools.Step.{Stepped, answered, state_named}
use Rattle.zst_tree.specs.Indices.{Blocks}
use Rattle.zst_tree.specs.declared.tree.ObjSet.{ObjSet}
use Rattle.zst_objset.specs.Damage.{DamageFact}
use Rattle.zst_objset.specs.Sets.{SetHolds}
use Rattle.zst_image.specs.Reads.{RunsBy}
use Rattle.zst_image.specs.declared.pool_state.PoolState.{PoolState}
use Rattle.zst_pool.specs.Damage.{IsOf}
use Rattle.zst_pool.specs.Faults.{StepFault}
use Rattle.zst_pool.specs.Plans.{Plans}
use Rattle.zst_pool.specs.declared.fault.PoolFault.{PoolFault}
use Rattle.zst_pool.specs.declared.fault.PoolFault.TheVariants as faults

-- the block fault that a fault of a command is
abbrev pub stop_at : PoolFault → Option BlockFault
stop_at (faults.Plan fault) = None
stop_at (faults.CannotApply fault) = None
stop_at (faults.Redacted object block) = None
stop_at (faults.Full need largest) = Some (blocks.Full need largest)
stop_at (faults.Damaged sector stated found) = Some (blocks.Damaged sector stated found)
stop_at faults.DiskFault = Some blocks.DiskFault
stop_at faults.Failed = None
stop_at faults.OutOfMemory = None

-- the block fault at which a command stopped
abbrev pub stop_of : {T : Type 0} → Result T PoolFault → Option BlockFault
stop_of (Ok value) = None
stop_of (Err fault) = stop_at fault

-- what is told is what the definition tells of a pool, which stays as it is; a refusal is the definition's, and nothing is damaged
abbrev pub TellsAnswer : Pool → Result Stepped Refusal → Result (List (List ℕ)) PoolFault → Type 0
TellsAnswer pool definition (Ok reply) = definition ≡ answered pool reply
TellsAnswer pool definition (Err fault) = StepFault (Unit {0}) definition fault

-- a command that only answers: by its definition where the rows stand for a pool, and what is so whatever the image is
pub record Tells (definition : Pool → Result Stepped Refusal) (damage : DamageFact) (kept : PoolState) (old new : IoState) (result : Result (List (List ℕ)) PoolFault) : Type 0 where
  pub told : (pool : Pool) → new.disk.honest → RunsBy None (Has old.disk.seen old.space) kept.dir pool → TellsAnswer pool (definition pool) result
  pub looks : Looks old new (stop_of result)
  pub open_still : ¬ (result ≡ Err faults.Failed)
  pub damaged : new.disk.honest → IfErr result (IsOf damage)

-- what a command that only answers tells, and what its plan refuses
pub record TellsByPlan (definition : Pool → Result Stepped Refusal) (damage : DamageFact) (numbers indices : ℕ) (lists : Bool) (kept : PoolState) (old new : IoState) (result : Result (List (List ℕ)) PoolFault) : Type 0 where
  pub tells : Tells definition damage kept old new result
  pub plans : Plans definition numbers indices lists kept result

-- a set holds the state of this name
pub record HoldsNamed (has : Blocks) (name : Name) (pool : Pool) (set : ObjSet) : Type 0 where
  pub state : DatedState
  pub named : state_named name pool ≡ Some state
  pub holds : SetHolds has set state

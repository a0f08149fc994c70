-- What a list answers as the answer of a command that only reads.
use Rattle.std.specs.Prelude.{Result, Ok, Err, Option, Some, None}
use Rattle.std.proofs.Common.{◌≡◌, ℕ, true, false, List, [], is_some, refl}
use Rattle.zst_block.specs.Blocks.{Has}
use Rattle.zst_block.specs.declared.fault.BlockFault.TheVariants as blocks
use Rattle.zst_block.specs.IoStates.{IoState}
use Rattle.zst_block.proofs.IoCallLemmas.{Looks-none}
use Rattle.zst_image.specs.Reads.{RunsBy}
use Rattle.zst_image.specs.declared.pool_state.PoolState.{PoolState}
use Rattle.zst_listing.specs.Listing.{ListsObjects}
use Rattle.zst_tree.specs.Faults.{IfFault}
use Rattle.zst_tree.specs.declared.or_memory.OrMemory.{OrMemory}
use Rattle.zst_objset.specs.declared.fault.ObjFault.{ObjFault}
use Rattle.zst_tree.specs.declared.or_memory.OrMemory.TheVariants.{Fault, Memory}
use Rattle.zst_model.specs.declared.pools.command.Command.TheVariants as commands
use Rattle.zst_model.specs.declared.refusals.subjects.Name.{Name}
use Rattle.zst_model.specs.declared.refusals.plan_fault.PlanFault.{PlanFault}
use Rattle.zst_model.specs.declared.refusals.refusal.Refusal.{Refusal}
use Rattle.zst_model.specs.states.DatedState.{DatedState}
use Rattle.zst_model.specs.pools.AnswerLines.{object_lines, pool_lines}
use Rattle.zst_model.specs.pools.Pool.{Pool}
use Rattle.zst_model.specs.pools.Step.{Stepped, answered, no_such, or_else, state_named, stepped}
use Rattle.zst_objset.specs.Answers.{IsOfBlock}
use Rattle.zst_objset.specs.Damage.{DamageFact}
use Rattle.zst_objset.specs.OrMemory as calls
use Rattle.zst_objset.specs.OrMemory.{IfTold}
use Rattle.zst_objset.specs.declared.fault.ObjFault.TheVariants as sets
use Rattle.zst_pool.specs.Damage.{IsOf}
use Rattle.zst_pool.specs.Faults.{StepFault, of_set, or_memory}
use Rattle.zst_pool.specs.Queries.{Tells, stop_of}
use Rattle.zst_pool.proofs.PlanLemmas.{gives_told, no_plan-block}
use Rattle.zst_pool.proofs.QueryLemmas.{disk_refused, set_told, stop_set}
use Rattle.zst_pool.specs.declared.fault.PoolFault.TheVariants as faults

-- a command stops where the list did
pub stop_list : (T U : Type 0) (fault : OrMemory ObjFault) → calls.stop_of {T = U} (Err fault) ≡ stop_of {T = T} (Err (or_memory of_set fault))
stop_list T U (Fault fault) = stop_set T U fault
stop_list T U Memory = refl

-- where the set holds a state, only the disk or the memory fails
pub list_refused : (definition : Result Stepped Refusal) (state : DatedState) (fault : OrMemory ObjFault) → ListsObjects state (Err fault) → StepFault (Unit {0}) definition (or_memory of_set fault)
list_refused definition state (Fault fault) is = disk_refused definition fault is
list_refused definition state Memory is = tt

-- a damage that the list tells is told by the command
pub list_told : (T : Type 0) (P : DamageFact) (fault : OrMemory ObjFault) → IfTold {T = T} (Err fault) P → IsOf P (or_memory of_set fault)
list_told T P (Fault fault) is = set_told P P (λ sector stated found damaged. damaged) T fault is
list_told T P Memory is = λ sector stated found same. absurd (cc)

-- no list has a plan
pub no_plan-list : (T : Type 0) (called : OrMemory ObjFault) (fault : PlanFault) → IfFault {T = T} (Err called) IsOfBlock → or_memory of_set called ≡ faults.Plan fault → ⊥
no_plan-list T (Fault called) fault known is = no_plan-block called fault known is
no_plan-list T Memory fault known is = absurd (cc)

-- what a list of a name is, where it is there and where it isn't
pub list_missing : (now : ℕ) (name : Name) (pool : Pool) → state_named name pool ≡ None → stepped [] now (commands.ListObjects name) pool ≡ Err (no_such name)
unfolding stepped
list_missing now name pool none = rw none refl

pub list_there : (now : ℕ) (name : Name) (pool : Pool) (state : DatedState) → state_named name pool ≡ Some state → stepped [] now (commands.ListObjects name) pool ≡ answered pool (object_lines state)
unfolding stepped
list_there now name pool state some = rw some refl

pub list_apart : (now : ℕ) (name : Name) (pool : Pool) → is_some (state_named name pool) ≡ true → gives_told (stepped [] now (commands.ListObjects name) pool) ≡ false
unfolding stepped
list_apart now name pool there = go (state_named name pool) there
  where
    go : (found : Option DatedState) → is_some found ≡ true → gives_told (or_else (no_such name) found (λ state. answered pool (object_lines state))) ≡ false
    go None there = absurd (cc)
    go (Some state) there = refl

-- a list of the pool
pub list_pool : (now : ℕ) (pool : Pool) → stepped [] now commands.List pool ≡ answered pool (pool_lines pool)
unfolding stepped
list_pool now pool = refl

-- a command that looks at nothing but the rows
module _ (definition : Pool → Result Stepped Refusal) (damage : DamageFact) (kept : PoolState) (io : IoState) where
  pub tells_rows : (reply : List (List ℕ)) → ((pool : Pool) → RunsBy None (Has io.disk.seen io.space) kept.dir pool → definition pool ≡ answered pool reply) → Tells definition damage kept io io (Ok reply)
  tells_rows reply is = record { told = λ pool honest runs. is pool runs; looks = Looks-none io; open_still = λ same. absurd (cc); damaged = λ honest. tt }

  pub tells_no_memory : Tells definition damage kept io io (Err faults.OutOfMemory)
  tells_no_memory = record { told = λ pool honest runs. tt; looks = Looks-none io; open_still = λ same. absurd (cc); damaged = λ honest sector stated found same. absurd (cc) }

-- no list tells that the pool has failed
pub list_open : (fault : OrMemory ObjFault) → ¬ (or_memory of_set fault ≡ faults.Failed)
list_open (Fault (sets.CannotApply apply)) = λ is. absurd (cc)
list_open (Fault (sets.Redacted object block)) = λ is. absurd (cc)
list_open (Fault (sets.Limit which number)) = λ is. absurd (cc)
list_open (Fault (sets.Block (blocks.Full need largest))) = λ is. absurd (cc)
list_open (Fault (sets.Block (blocks.Damaged sector stated found))) = λ is. absurd (cc)
list_open (Fault (sets.Block blocks.DiskFault)) = λ is. absurd (cc)
list_open Memory = λ is. absurd (cc)

-- The refusals of a pool, and what stands after each.
use Rattle.std.specs.Prelude.{◌≡◌, ◌≤◌, ℕ, Bool, true, false, Result, Ok, Err}
use Rattle.zst_outside.specs.Causes.{Rose}
use Rattle.zst_block.specs.declared.fault.BlockFault.{BlockFault}
use Rattle.zst_block.specs.declared.fault.BlockFault.TheVariants as blocks
use Rattle.zst_model.specs.declared.refusals.refusal.Refusal.{Refusal}
use Rattle.zst_model.specs.declared.refusals.refusal.Refusal.TheVariants as refusals
use Rattle.zst_model.specs.refusals.Refusal.{refusal_of}
use Rattle.zst_model.specs.pools.Step.{Stepped}
use Rattle.zst_model.specs.declared.refusals.faults.Quantity.TheVariants as quantities
use Rattle.zst_model.specs.declared.refusals.plan_fault.PlanFault.TheVariants as plans
use Rattle.zst_model.specs.pools.Limits.{most_runs}
use Rattle.zst_objset.specs.declared.fault.ObjFault.{ObjFault}
use Rattle.zst_objset.specs.declared.fault.ObjFault.TheVariants as sets
use Rattle.zst_tree.specs.declared.or_memory.OrMemory.{OrMemory}
use Rattle.zst_tree.specs.declared.or_memory.OrMemory.TheVariants.{Fault, Memory}
use Rattle.zst_redact.specs.declared.fault.RedactFault.{RedactFault}
use Rattle.zst_redact.specs.declared.fault.RedactFault.TheVariants as redacts
use Rattle.zst_image.specs.declared.commit_fault.CommitFault.{CommitFault}
use Rattle.zst_image.specs.declared.commit_fault.CommitFault.TheVariants as commits
use Rattle.zst_pool.specs.declared.fault.PoolFault.{PoolFault}
use Rattle.zst_pool.specs.declared.fault.PoolFault.TheVariants as faults

-- the refusal that a pool's fault is
abbrev pub pool_refusal : PoolFault → Refusal
pool_refusal (faults.Plan fault) = refusal_of fault
pool_refusal (faults.CannotApply fault) = refusals.CannotApply 0 fault
pool_refusal (faults.Redacted object block) = refusals.Redacted object block
pool_refusal (faults.Full need largest) = refusals.Full need largest
pool_refusal (faults.Damaged sector stated found) = refusals.Damaged sector stated found
pool_refusal faults.DiskFault = refusals.DiskFault
pool_refusal faults.Failed = refusals.Failed
pool_refusal faults.OutOfMemory = refusals.OutOfMemory

-- a block's fault as a pool's
abbrev pub of_block : BlockFault → PoolFault
of_block (blocks.Full need largest) = faults.Full need largest
of_block (blocks.Damaged sector stated found) = faults.Damaged sector stated found
of_block blocks.DiskFault = faults.DiskFault

-- an object set's fault as a pool's
abbrev pub of_set : ObjFault → PoolFault
of_set (sets.CannotApply fault) = faults.CannotApply fault
of_set (sets.Redacted object block) = faults.Redacted object block
of_set (sets.Limit which number) = faults.Plan (plans.Limit which number)
of_set (sets.Block fault) = of_block fault

-- a fault that is such a one as a pool's, or want of memory
abbrev pub or_memory : {F : Type 0} → (F → PoolFault) → OrMemory F → PoolFault
or_memory as_pool (Fault fault) = as_pool fault
or_memory as_pool Memory = faults.OutOfMemory

-- a fault of building a list as a pool's: E23 where it is too long
abbrev pub of_redact : RedactFault → PoolFault
of_redact redacts.Limit = faults.Plan (plans.Limit quantities.Runs most_runs)
of_redact (redacts.Block fault) = of_block fault

-- what the building of a list answers, as a pool's answer
abbrev pub of_built : {T : Type 0} → Result T (OrMemory RedactFault) → Result T PoolFault
of_built (Ok value) = Ok value
of_built (Err fault) = Err (or_memory of_redact fault)

-- a commit's fault as a pool's
abbrev pub of_commit : CommitFault → PoolFault
of_commit (commits.Full need largest) = faults.Full need largest
of_commit commits.DiskFault = faults.DiskFault
of_commit commits.OutOfMemory = faults.OutOfMemory

-- what a commit answers, as a pool's answer
abbrev pub of_committed : {T : Type 0} → Result T CommitFault → Result T PoolFault
of_committed (Ok value) = Ok value
of_committed (Err fault) = Err (of_commit fault)

-- whether the disk failed
abbrev pub is_disk_fault : {T : Type 0} → Result T PoolFault → Bool
is_disk_fault (Ok value) = false
is_disk_fault (Err (faults.Plan fault)) = false
is_disk_fault (Err (faults.CannotApply fault)) = false
is_disk_fault (Err (faults.Redacted object block)) = false
is_disk_fault (Err (faults.Full need largest)) = false
is_disk_fault (Err (faults.Damaged sector stated found)) = false
is_disk_fault (Err faults.DiskFault) = true
is_disk_fault (Err faults.Failed) = false
is_disk_fault (Err faults.OutOfMemory) = false

-- a count of faults never falls, and a fault of the disk is answered only where it rose
pub record HasDiskCause {T : Type 0} (before now : ℕ) (result : Result T PoolFault) : Type 0 where
  pub later : before ≤ now
  pub fault : result ≡ Err faults.DiskFault → Rose before now

-- what stands after a command's fault, where the image read as a pool: the definition's own refusals come where it says, and leave the pool as it was; so do a full disk, only where the definition accepts, and want of memory; nothing is ever damaged
abbrev pub StepFault : Type 0 → Result Stepped Refusal → PoolFault → Type 0
StepFault kept after (faults.Plan fault) = (after ≡ Err (refusal_of fault)) × kept
StepFault kept after (faults.CannotApply fault) = (after ≡ Err (refusals.CannotApply 0 fault)) × kept
StepFault kept after (faults.Redacted object block) = (after ≡ Err (refusals.Redacted object block)) × kept
StepFault kept after (faults.Full need largest) = ((done : Stepped) × (after ≡ Ok done)) × kept
StepFault kept after (faults.Damaged sector stated found) = ⊥
StepFault kept after faults.DiskFault = Unit {0}
StepFault kept after faults.Failed = ⊥
StepFault kept after faults.OutOfMemory = kept

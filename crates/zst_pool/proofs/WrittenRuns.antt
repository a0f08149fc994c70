-- Why a list isn't written, as a command's refusal.
use Rattle.std.specs.Prelude.{Ok, Err}
use Rattle.std.proofs.Common.{◌≡◌, ℕ, List, refl}
use Rattle.zst_block.specs.declared.fault.BlockFault.{BlockFault}
use Rattle.zst_block.specs.declared.fault.BlockFault.TheVariants.{Full, Damaged, DiskFault}
use Rattle.zst_leaves.specs.Leaves.{TellsNone}
use Rattle.zst_model.specs.declared.refusals.plan_fault.PlanFault.{PlanFault}
use Rattle.zst_model.specs.pools.Pool.{Pool}
use Rattle.zst_model.specs.pools.Step.{committed}
use Rattle.zst_tree.specs.Faults.{fault_of}
use Rattle.zst_tree.specs.declared.or_memory.OrMemory.{OrMemory}
use Rattle.zst_tree.specs.declared.or_memory.OrMemory.TheVariants.{Fault, Memory}
use Rattle.zst_tree.specs.declared.tree.Tree.{Tree}
use Rattle.zst_pool.specs.Checks.{next_of}
use Rattle.zst_pool.specs.Faults.{StepFault, of_block, or_memory}
use Rattle.zst_pool.specs.Queries.{stop_at}
use Rattle.zst_pool.specs.declared.fault.PoolFault.TheVariants as faults

-- it stops where the write did
pub refused_stop : (fault : OrMemory BlockFault) → stop_at (or_memory of_block fault) ≡ fault_of {T = Tree} (Err fault)
refused_stop (Fault (Full need largest)) = refl
refused_stop (Fault (Damaged sector stated found)) = refl
refused_stop (Fault DiskFault) = refl
refused_stop Memory = refl

-- it is no plan's, and the pool had not failed
pub refused_plan : (fault : OrMemory BlockFault) (plan : PlanFault) → ¬ (or_memory of_block fault ≡ faults.Plan plan)
refused_plan (Fault (Full need largest)) plan = λ is. cc
refused_plan (Fault (Damaged sector stated found)) plan = λ is. cc
refused_plan (Fault DiskFault) plan = λ is. cc
refused_plan Memory plan = λ is. cc

pub refused_open : (fault : OrMemory BlockFault) → ¬ (or_memory of_block fault ≡ faults.Failed)
refused_open (Fault (Full need largest)) = λ is. cc
refused_open (Fault (Damaged sector stated found)) = λ is. cc
refused_open (Fault DiskFault) = λ is. cc
refused_open Memory = λ is. cc

-- nothing is damaged
pub refused_sound : (fault : OrMemory BlockFault) → TellsNone {T = Tree} (Err fault) → (sector : ℕ) (stated found : List ℕ) → ¬ (or_memory of_block fault ≡ faults.Damaged sector stated found)
refused_sound (Fault (Full need largest)) none sector stated found = λ is. cc
refused_sound (Fault (Damaged s a b)) none sector stated found = absurd none
refused_sound (Fault DiskFault) none sector stated found = λ is. cc
refused_sound Memory none sector stated found = λ is. cc

-- a full disk comes where the commit is accepted
pub refused_so : (pool : Pool) (fault : OrMemory BlockFault) → committed pool ≡ Ok (next_of pool) → TellsNone {T = Tree} (Err fault) → StepFault (Unit {0}) (committed pool) (or_memory of_block fault)
refused_so pool (Fault (Full need largest)) made none = ((next_of pool, made), tt)
refused_so pool (Fault (Damaged sector stated found)) made none = absurd none
refused_so pool (Fault DiskFault) made none = tt
refused_so pool Memory made none = tt

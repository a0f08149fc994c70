-- What changes the head of a dataset, and what its command makes of that.
use Rattle.std.specs.Prelude.{◌≡◌, ◌⊎◌, ◌+◌, ◌*◌, ◌<◌, ◌≤◌, ℕ, Bool, true, false, List, Option, Some, Result, Ok, Err, IfSome}
use Rattle.zst_outside.specs.Images.{DiskState}
use Rattle.zst_block.specs.Blocks.{Has}
use Rattle.zst_block.specs.IoCalls as blocks
use Rattle.zst_block.specs.IoStates.{IoState}
use Rattle.zst_block.specs.declared.fault.BlockFault.{BlockFault}
use Rattle.zst_block.specs.declared.fault.BlockFault.TheVariants as block_faults
use Rattle.zst_model.specs.declared.refusals.plan_fault.PlanFault.{PlanFault}
use Rattle.zst_model.specs.declared.refusals.refusal.Refusal.{Refusal}
use Rattle.zst_model.specs.states.AppliedItems.{◌>>=◌}
use Rattle.zst_model.specs.declared.states.attr.ObjectHead.{ObjectHead}
use Rattle.zst_model.specs.states.DatedState.{DatedState}
use Rattle.zst_model.specs.states.State.{IsHead, IsBonus, IsSpill}
use Rattle.zst_model.specs.pools.Pool.{Pool}
use Rattle.zst_model.specs.pools.Step.{committed, on_head}
use Rattle.zst_tree.specs.Indices.{Blocks}
use Rattle.zst_tree.specs.declared.tree.ObjSet.{ObjSet}
use Rattle.zst_objset.specs.Answers as sets
use Rattle.zst_objset.specs.OrMemory.{stop_of}
use Rattle.zst_objset.specs.declared.fault.ObjFault.{ObjFault}
use Rattle.zst_objset.specs.declared.fault.ObjFault.TheVariants as set_faults
use Rattle.zst_pool.specs.Checks.{next_of, with_head_of}
use Rattle.zst_pool.specs.Cost.{Cost}
use Rattle.zst_pool.specs.Faults.{StepFault, is_disk_fault, of_set, or_memory}
use Rattle.zst_image.specs.Bodies.{free_by}
use Rattle.zst_image.specs.Reads.{SetIs, bound_of}
use Rattle.zst_pool.specs.Calls.{IsAtRest}
use Rattle.zst_pool.specs.Plans.{IsLast}
use Rattle.zst_pool.specs.Queries.{stop_at}
use Rattle.zst_pool.specs.declared.fault.PoolFault.{PoolFault}
use Rattle.zst_pool.specs.declared.fault.PoolFault.TheVariants as faults
use Rattle.zst_tree.specs.declared.or_memory.OrMemory.{OrMemory}
use Rattle.zst_tree.specs.declared.or_memory.OrMemory.TheVariants.{Fault, Memory}
use Rattle.zst_image.specs.declared.pool_state.PoolState.{PoolState}

-- an object of this number can have this head, this bonus and this spill block
pub record CanPutObject (k : ℕ) (attr : ObjectHead) (held : List ℕ) (block : Option (List ℕ)) : Type 0 where
  pub object : 0 < k
  pub head : IsHead attr
  pub bonus : IsBonus held
  pub spill : IfSome block IsSpill

-- what a call of an object set answers, as what a change of a head does
abbrev pub of_call : Result (Unit {0}) ObjFault → Result (Unit {0}) (OrMemory ObjFault)
of_call (Ok done) = Ok done
of_call (Err fault) = Err (Fault fault)

-- what a change of a head answers, as a pool's answer
abbrev pub of_change : Result (Unit {0}) (OrMemory ObjFault) → Result (Unit {0}) PoolFault
of_change (Ok done) = Ok done
of_change (Err fault) = Err (or_memory of_set fault)

-- why a head isn't changed, where its set holds it: as the definition refuses it; full only where the definition accepts; never damaged
abbrev pub ChangeFault : Result DatedState Refusal → OrMemory ObjFault → Type 0
ChangeFault change (Fault fault) = sets.Refuses change fault
ChangeFault change Memory = Unit {0}

-- the size of the blocks of an object that is there, or why one of them isn't written
abbrev pub FindsSize : Result DatedState Refusal → ℕ → Result ℕ (OrMemory ObjFault) → Type 0
FindsSize change size (Ok found) = found ≡ size
FindsSize change size (Err fault) = ChangeFault change fault

-- the set is of what the definition makes of a head, known as well as its bound says, or the head isn't changed
abbrev pub ChangesHead : (bound : Option ℕ) → Blocks → ObjSet → Result DatedState Refusal → Result (Unit {0}) (OrMemory ObjFault) → Type 0
ChangesHead bound has set change (Ok done) = (after : DatedState) × (change ≡ Ok after) × SetIs bound has set after
ChangesHead bound has set change (Err fault) = ChangeFault change fault

-- whether the definition accepts a change with this answer: also where no room was found
abbrev pub is_accepted : Result (Unit {0}) (OrMemory ObjFault) → Bool
is_accepted (Ok done) = true
is_accepted (Err (Fault (set_faults.CannotApply fault))) = false
is_accepted (Err (Fault (set_faults.Redacted object block))) = false
is_accepted (Err (Fault (set_faults.Limit which number))) = false
is_accepted (Err (Fault (set_faults.Block (block_faults.Full need largest)))) = true
is_accepted (Err (Fault (set_faults.Block (block_faults.Damaged sector stated found)))) = false
is_accepted (Err (Fault (set_faults.Block block_faults.DiskFault))) = false
is_accepted (Err Memory) = false

-- a command whose part stopped at this block fault, or at none, answers so: of the disk and of a full disk only what the block told, and a damaged block as damaged
pub record Stops (stop : Option BlockFault) (fault : PoolFault) : Type 0 where
  pub fails : blocks.fails stop ≡ is_disk_fault {T = Unit {0}} (Err fault)
  pub told : blocks.is_damage (stop_at fault) ≡ false → blocks.is_damage stop ≡ false
  pub disk : fault ≡ faults.DiskFault → stop ≡ Some block_faults.DiskFault
  pub full : (need largest : ℕ) → fault ≡ faults.Full need largest → stop ≡ Some (block_faults.Full need largest)
  pub open_still : ¬ (fault ≡ faults.Failed)

-- what a command that changes a head with this answer refuses: a damage is the change's own, and a plan is refused by the change or for the commit's number
pub record RefusesHead {T : Type 0} (number : ℕ) (changed : Result (Unit {0}) (OrMemory ObjFault)) (result : Result T PoolFault) : Type 0 where
  pub damaged : (sector : ℕ) (stated found : List ℕ) → result ≡ Err (faults.Damaged sector stated found) → changed ≡ Err (Fault (set_faults.Block (block_faults.Damaged sector stated found)))
  pub last : (fault : PlanFault) → result ≡ Err (faults.Plan fault) → (of_change changed ≡ Err (faults.Plan fault)) ⊎ IsLast number fault

-- the set is of a changed head that can be committed, or what the command is refused for
abbrev pub JudgesHead : (bound : Option ℕ) → Blocks → ObjSet → List ℕ → Pool → Result DatedState Refusal → Result (Unit {0}) PoolFault → Type 0
JudgesHead bound has set name pool change (Ok done) =
    (after : DatedState) × (change ≡ Ok after) × SetIs bound has set after
    × (committed (with_head_of name after pool) ≡ Ok (next_of (with_head_of name after pool)))
JudgesHead bound has set name pool change (Err fault) = StepFault (Unit {0}) (change >>= λ after. committed (with_head_of name after pool)) fault

-- a change that touches so many cells, and writes one block of so many sectors beside those of the trees
abbrev pub Works : ℕ → ℕ → (old new : IoState) → Option BlockFault → Type 0
Works cells block old new stop = blocks.Works (block + 640 * cells) block old new stop

-- the Io of a pool at rest on this disk: free is what its latest body leaves free
abbrev pub rested : DiskState → Bool → (checksum_errors reference : ℕ) → PoolState → IoState
rested disk failed checksum_errors reference kept = record { disk = disk; space = free_by kept.body; failed = failed; checksum_errors = checksum_errors; reference = reference }

-- Since a start at which a pool was at rest a command changed the head of a dataset as `make` says, or could not: what stands then, and what was answered.
pub record ChangedHead (kept : PoolState) (name : List ℕ) (make : Pool → DatedState → Result DatedState Refusal) (cost : Cost) (start now : IoState) (set : ObjSet) (changed : Result (Unit {0}) (OrMemory ObjFault)) : Type 0 where
  pub made : {tight : Bool} (running : Pool) → now.disk.honest → IsAtRest tight start.disk kept running
      → (head : DatedState) × ChangesHead (bound_of tight (running.number + 1)) (Has now.disk.seen now.space) set (make running head) changed
      × (on_head name running (make running) ≡ (make running head >>= λ after. committed (with_head_of name after running)))
  -- whatever is there, and where a pool was at rest
  pub works : (block : ℕ) × (block ≤ cost.most) × Works cost.cells block start now (stop_of changed)
  pub exact : (running : Pool) → now.disk.honest → IsAtRest false start.disk kept running → Works cost.cells (cost.block running) start now (stop_of changed)

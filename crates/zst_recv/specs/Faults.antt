-- The faults of a receive.
use Rattle.std.specs.Prelude.{◌≡◌, ◌<◌, ◌||◌, ℕ, Bool, true, false, Option, Some, None, Result, Ok, Err}
use Rattle.zst_space.specs.FreeSectors.{largest_of}
use Rattle.zst_block.specs.Blocks.{FillsFree}
use Rattle.zst_block.specs.IoCalls.{HasCause, fails, is_damage}
use Rattle.zst_block.specs.IoStates.{IoState}
use Rattle.zst_block.specs.declared.fault.BlockFault.{BlockFault}
use Rattle.zst_block.specs.declared.fault.BlockFault.TheVariants as blocks
use Rattle.zst_model.specs.declared.refusals.faults.Quantity.TheVariants as quantities
use Rattle.zst_model.specs.declared.refusals.plan_fault.PlanFault.{PlanFault}
use Rattle.zst_model.specs.declared.refusals.plan_fault.PlanFault.TheVariants as plans
use Rattle.zst_model.specs.declared.refusals.refusal.Refusal.{Refusal}
use Rattle.zst_model.specs.declared.refusals.refusal.Refusal.TheVariants as refusals
use Rattle.zst_model.specs.declared.refusals.stream_fault.StreamFault.{StreamFault}
use Rattle.zst_model.specs.declared.refusals.stream_fault.StreamFault.TheVariants.{Truncated}
use Rattle.zst_objset.specs.declared.fault.ObjFault.{ObjFault}
use Rattle.zst_objset.specs.declared.fault.ObjFault.TheVariants as sets
use Rattle.zst_pool.specs.Faults.{of_set, pool_refusal}
use Rattle.zst_pool.specs.declared.fault.PoolFault.TheVariants as pools
use Rattle.zst_stream.specs.Findings.{IsFound}
use Rattle.zst_recv.specs.declared.fault.RecvFault.{RecvFault}
use Rattle.zst_recv.specs.declared.fault.RecvFault.TheVariants as faults

-- the refusal that a receive's fault is
abbrev pub recv_refusal : RecvFault → Refusal
recv_refusal (faults.Pool fault) = pool_refusal fault
recv_refusal (faults.Stream fault) = refusals.Stream fault
recv_refusal (faults.CannotApply index fault) = refusals.CannotApply index fault

-- what applying the record with this index answers, as a receive's answer: E21 names the record
abbrev pub of_record : ℕ → ObjFault → RecvFault
of_record index (sets.CannotApply fault) = faults.CannotApply index fault
of_record index (sets.Redacted object block) = faults.Pool (of_set (sets.Redacted object block))
of_record index (sets.Limit which number) = faults.Pool (of_set (sets.Limit which number))
of_record index (sets.Block fault) = faults.Pool (of_set (sets.Block fault))

-- E23 of an index, after which the records before stay as after E17 to E19 of a stream and E21
abbrev pub is_block_limit : PlanFault → Bool
is_block_limit (plans.Limit quantities.Block number) = true
is_block_limit _ = false

-- a fault before which the records stay, where the partial state is kept
abbrev pub keeps_before : RecvFault → Bool
keeps_before (faults.Pool (pools.Plan fault)) = is_block_limit fault
keeps_before (faults.Pool _) = false
keeps_before (faults.Stream fault) = true
keeps_before (faults.CannotApply index fault) = true

-- the block fault at which a feed stopped
abbrev pub stop_at : RecvFault → Option BlockFault
stop_at (faults.Pool (pools.Full need largest)) = Some (blocks.Full need largest)
stop_at (faults.Pool (pools.Damaged sector stated found)) = Some (blocks.Damaged sector stated found)
stop_at (faults.Pool pools.DiskFault) = Some blocks.DiskFault
stop_at _ = None

abbrev pub stop_of : {T : Type 0} → Result T RecvFault → Option BlockFault
stop_of (Ok value) = None
stop_of (Err fault) = stop_at fault

-- the faults that a feed may answer on a pool that hasn't failed, whatever the image is: those of a plan (E2 to E15, E19, E23), a full disk
-- (E24), a damaged block (E25), a fault of the disk (E28), no memory (E32), those found in a stream (E17 to E19, never that it is cut), and a record that
-- can't be applied (E21)
abbrev pub IsFeedFault : RecvFault → Type 0
IsFeedFault (faults.Pool (pools.Plan fault)) = Unit {0}
IsFeedFault (faults.Pool (pools.CannotApply fault)) = ⊥
IsFeedFault (faults.Pool (pools.Redacted object block)) = ⊥
IsFeedFault (faults.Pool (pools.Full need largest)) = Unit {0}
IsFeedFault (faults.Pool (pools.Damaged sector stated found)) = Unit {0}
IsFeedFault (faults.Pool pools.DiskFault) = Unit {0}
IsFeedFault (faults.Pool pools.Failed) = ⊥
IsFeedFault (faults.Pool pools.OutOfMemory) = Unit {0}
IsFeedFault (faults.Stream fault) = IsFound fault
IsFeedFault (faults.CannotApply index fault) = Unit {0}

-- those that taking a record may answer
abbrev pub IsRecordFault : RecvFault → Type 0
IsRecordFault (faults.Pool fault) = IsFeedFault (faults.Pool fault)
IsRecordFault (faults.Stream fault) = ⊥
IsRecordFault (faults.CannotApply index fault) = Unit {0}

-- what the end of the input means: E20 with the count of bytes where the receive goes on
abbrev pub cut_of : (live : Bool) → ℕ → Result (Unit {0}) StreamFault
cut_of true pushed = Err (Truncated pushed)
cut_of false pushed = Ok tt

-- Blocks alone are written, into free sectors, whatever is there: the disk is full only where the longest extent is shorter than what is
-- needed, and failed only where its count of faults rose; and only a call that stops at damage may have counted a block that is damaged.
pub record Fills (old new : IoState) (stop : Option BlockFault) : Type 0 where
  pub fills : FillsFree old.disk old.space new.disk new.space
  pub sectors : new.space.sectors ≡ old.space.sectors
  pub full : (need largest : ℕ) → stop ≡ Some (blocks.Full need largest) → (largest < need) × (largest ≡ largest_of new.space)
  -- a block that is found damaged is told so
  pub told : is_damage stop ≡ false → new.checksum_errors ≡ old.checksum_errors
  pub failed : new.failed ≡ (old.failed || fails stop)
  pub cause : HasCause old.disk.faults new.disk.faults stop
  pub same : new.reference ≡ old.reference

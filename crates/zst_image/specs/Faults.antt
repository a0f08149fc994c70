-- The refusals of making and opening a pool and of committing to it.
use Rattle.std.specs.Prelude.{Option, Some, None, Result, Ok, Err}
use Rattle.zst_block.specs.declared.fault.BlockFault.{BlockFault}
use Rattle.zst_block.specs.declared.fault.BlockFault.TheVariants as blocks
use Rattle.zst_uber.specs.declared.fault.UberFault.{UberFault}
use Rattle.zst_uber.specs.declared.fault.UberFault.TheVariants as ubers
use Rattle.zst_model.specs.declared.refusals.faults.Quantity.TheVariants as quantities
use Rattle.zst_model.specs.declared.refusals.subjects.PresentSubject.TheVariants as present
use Rattle.zst_model.specs.declared.refusals.plan_fault.PlanFault.TheVariants as plans
use Rattle.zst_model.specs.declared.refusals.refusal.Refusal.{Refusal}
use Rattle.zst_model.specs.declared.refusals.refusal.Refusal.TheVariants as refusals
use Rattle.zst_image.specs.declared.open_fault.OpenFault.{OpenFault}
use Rattle.zst_image.specs.declared.open_fault.OpenFault.TheVariants as opens
use Rattle.zst_image.specs.declared.create_fault.CreateFault.{CreateFault}
use Rattle.zst_image.specs.declared.create_fault.CreateFault.TheVariants as creates
use Rattle.zst_image.specs.declared.commit_fault.CommitFault.{CommitFault}
use Rattle.zst_image.specs.declared.commit_fault.CommitFault.TheVariants as commits

-- the refusal that a fault of opening is
abbrev pub open_refusal : OpenFault → Refusal
open_refusal (opens.Damaged sector stated found) = refusals.Damaged sector stated found
open_refusal opens.NoPool = refusals.NoPool
open_refusal (opens.BadVersion version) = refusals.BadVersion version
open_refusal opens.DiskFault = refusals.DiskFault
open_refusal opens.OutOfMemory = refusals.OutOfMemory

-- and one of making a pool
abbrev pub create_refusal : CreateFault → Refusal
create_refusal creates.Exists = refusals.Plan (plans.Exists present.Pool)
create_refusal (creates.TooSmall sectors) = refusals.Limit quantities.Device sectors
create_refusal creates.DiskFault = refusals.DiskFault
create_refusal creates.OutOfMemory = refusals.OutOfMemory

-- and one of a commit
abbrev pub commit_refusal : CommitFault → Refusal
commit_refusal (commits.Full need largest) = refusals.Full need largest
commit_refusal commits.DiskFault = refusals.DiskFault
commit_refusal commits.OutOfMemory = refusals.OutOfMemory

-- what is wrong with the latest body, as a fault of opening
abbrev pub of_uber : UberFault → OpenFault
of_uber (ubers.Damaged sector stated found) = opens.Damaged sector stated found
of_uber ubers.NoPool = opens.NoPool
of_uber (ubers.BadVersion version) = opens.BadVersion version
of_uber ubers.DiskFault = opens.DiskFault

-- the fault of a block at which a commit stopped, or none
abbrev pub stop_of_commit : {T : Type 0} → Result T CommitFault → Option BlockFault
stop_of_commit (Ok value) = None
stop_of_commit (Err (commits.Full need largest)) = Some (blocks.Full need largest)
stop_of_commit (Err commits.DiskFault) = Some blocks.DiskFault
stop_of_commit (Err commits.OutOfMemory) = None

-- The answers of a read and a write, and their causes.
use Rattle.std.specs.Prelude.{◌≡◌, ℕ, ◌≤◌, Bool, true, false, Result, Ok, Err}
use Rattle.zst_outside.specs.Causes.{Rose}
use Rattle.zst_block.specs.declared.fault.BlockFault.{BlockFault}
use Rattle.zst_block.specs.declared.fault.BlockFault.TheVariants.{Full, Damaged, DiskFault}

-- the disk failed
abbrev pub is_disk_fault : {T : Type 0} → Result T BlockFault → Bool
is_disk_fault (Ok value) = false
is_disk_fault (Err (Full need largest)) = false
is_disk_fault (Err (Damaged sector stated found)) = false
is_disk_fault (Err DiskFault) = true

-- a count of faults never falls, and a fault of the disk is answered only where it rose
pub record HasDiskCause {T : Type 0} (before now : ℕ) (result : Result T BlockFault) : Type 0 where
  pub later : before ≤ now
  pub fault : result ≡ Err DiskFault → Rose before now

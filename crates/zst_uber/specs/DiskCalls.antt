-- What a call does to the disk, whatever it answers.
use Rattle.std.specs.Prelude.{◌≡◌, ℕ, ◌≤◌, Result, Err, OnOk}
use Rattle.zst_outside.specs.Causes.{HasCause, Rose}
use Rattle.zst_outside.specs.Images.{DiskState, IsSynced, OnlyReads, WritesIn}

-- a count of faults never falls, and this fault, the disk's, is answered only where it rose
pub record HasDiskCause {T F : Type 0} (disk_fault : F) (before now : ℕ) (result : Result T F) : Type 0 where
  pub later : before ≤ now
  pub fault : result ≡ Err disk_fault → Rose before now

-- a call that reads the disk, and fails only where the disk does
pub record ReadsDisk {T F : Type 0} (old new : DiskState) (result : Result T F) : Type 0 where
  pub reads : OnlyReads old new
  pub cause : HasCause old.faults new.faults result

-- a call that reads the disk, and answers this fault only where the disk fails
pub record ReadsOrFails {T F : Type 0} (disk_fault : F) (old new : DiskState) (result : Result T F) : Type 0 where
  pub reads : OnlyReads old new
  pub cause : HasDiskCause disk_fault old.faults new.faults result

-- a call that writes in this range and makes sure of it, and fails only where the disk does
pub record PutsIn {T F : Type 0} (place count : ℕ) (old new : DiskState) (result : Result T F) : Type 0 where
  pub writes : WritesIn place count old new
  pub durable : OnOk result (IsSynced new)
  pub cause : HasCause old.faults new.faults result

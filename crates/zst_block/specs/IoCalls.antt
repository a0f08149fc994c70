-- What a call does to the Io: it reads, or it writes blocks into free sectors. Said over the fault at which it stopped, or none, so that one record serves each layer.
use Rattle.std.specs.Prelude.{◌≡◌, ◌⊎◌, ℕ, ◌+◌, ◌<◌, ◌≤◌, ◌||◌, Bool, true, false, List, [], Option, Some, None, Result, Ok, Err}
use Rattle.zst_outside.specs.Causes.{Rose, next_count}
use Rattle.zst_outside.specs.Images.{OnlyReads}
use Rattle.zst_fletcher.specs.WeightSum.{parts_of}
use Rattle.zst_space.specs.FreeSectors.{FreeSectors, largest_of, room}
use Rattle.zst_space.specs.TakenExtents.{TakenInTurn}
use Rattle.zst_block.specs.Blocks.{FillsFree}
use Rattle.zst_block.specs.IoStates.{IoState}
use Rattle.zst_block.specs.ReadAnswers.{IsDamage}
use Rattle.zst_block.specs.declared.ptr.Ptr.{Ptr}
use Rattle.zst_block.specs.declared.fault.BlockFault.{BlockFault}
use Rattle.zst_block.specs.declared.fault.BlockFault.TheVariants.{Full, Damaged, DiskFault}

-- the fault at which a call stopped
abbrev pub stop_of : {T : Type 0} → Result T BlockFault → Option BlockFault
stop_of (Ok value) = None
stop_of (Err fault) = Some fault

-- the disk failed
abbrev pub fails : Option BlockFault → Bool
fails None = false
fails (Some (Full need largest)) = false
fails (Some (Damaged sector stated found)) = false
fails (Some DiskFault) = true

-- a call stops at a damaged block
abbrev pub is_damage : Option BlockFault → Bool
is_damage None = false
is_damage (Some (Full need largest)) = false
is_damage (Some (Damaged sector stated found)) = true
is_damage (Some DiskFault) = false

-- the count of blocks that were found damaged, after one read: one more where it stopped at such a block
abbrev pub with_error : ℕ → Option BlockFault → ℕ
with_error count None = count
with_error count (Some (Full need largest)) = count
with_error count (Some (Damaged sector stated found)) = next_count count
with_error count (Some DiskFault) = count

-- a count of faults never falls, and a call stops at a fault of the disk only where it rose
pub record HasCause (before now : ℕ) (stop : Option BlockFault) : Type 0 where
  pub later : before ≤ now
  pub fault : stop ≡ Some DiskFault → Rose before now

-- a block of a tree, of 16 sectors, or one of so many
abbrev pub IsBlockLength : (block : ℕ) → ℕ → Type 0
IsBlockLength block count = (count ≡ 16) ⊎ (count ≡ block)

-- So many sectors at most were taken, of all that are free and of the longest free extent alike; where no extents were free below the end, none are. What is free now
-- is what was free before less the blocks that were written since, each of such a length and where it first fits.
pub record TakesAtMost (count : ℕ) (IsLength : ℕ → Type 0) (old new : FreeSectors) : Type 0 where
  pub sectors : new.sectors ≡ old.sectors
  pub left : room old ≤ room new + count
  pub longest : largest_of old ≤ largest_of new + count
  pub unbroken : old.free ≡ [] → new.free ≡ []
  pub blocks : TakenInTurn IsLength old new

-- What was to be written is a block of a tree, of 16 sectors, or one of so many: no free extent has as many now, and before the call none had all that the call may take.
pub record IsFull (most block : ℕ) (old new : FreeSectors) (need largest : ℕ) : Type 0 where
  pub shorter : largest < need
  pub is_longest : largest ≡ largest_of new
  pub needed : IsBlockLength block need
  pub before : largest_of old < most

-- a call that reads
pub record Looks (old new : IoState) (stop : Option BlockFault) : Type 0 where
  pub reads : OnlyReads old.disk new.disk
  pub space : new.space ≡ old.space
  pub never_full : (need largest : ℕ) → ¬ (stop ≡ Some (Full need largest))
  -- a block that is found damaged is told so: only a call that stops at damage may have counted one
  pub told : is_damage stop ≡ false → new.checksum_errors ≡ old.checksum_errors
  pub failed : new.failed ≡ (old.failed || fails stop)
  pub cause : HasCause old.disk.faults new.disk.faults stop
  pub same : new.reference ≡ old.reference

-- a call that writes: it takes so many sectors at most, for blocks of 16 sectors or of so many
pub record Works (most block : ℕ) (old new : IoState) (stop : Option BlockFault) : Type 0 where
  pub fills : FillsFree old.disk old.space new.disk new.space
  pub takes : TakesAtMost most (IsBlockLength block) old.space new.space
  pub full : (need largest : ℕ) → stop ≡ Some (Full need largest) → IsFull most block old.space new.space need largest
  -- a block that is found damaged is told so
  pub told : is_damage stop ≡ false → new.checksum_errors ≡ old.checksum_errors
  pub failed : new.failed ≡ (old.failed || fails stop)
  pub cause : HasCause old.disk.faults new.disk.faults stop
  pub same : new.reference ≡ old.reference

-- a refusal of damage tells this pointer, and what stands there has other sums, or the layout isn't as it should be, and then both sums are told alike
abbrev pub TellsDamage : {T : Type 0} → List ℕ → ℕ → Ptr → Result T BlockFault → Type 0
TellsDamage image size ptr (Ok value) = Unit {0}
TellsDamage image size ptr (Err (Damaged sector stated found)) = (sector ≡ ptr.sector) × (stated ≡ parts_of ptr.sum) × (IsDamage image size ptr found ⊎ (found ≡ stated))
TellsDamage image size ptr (Err (Full need largest)) = Unit {0}
TellsDamage image size ptr (Err DiskFault) = Unit {0}

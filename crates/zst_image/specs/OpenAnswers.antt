-- What opening a pool answers, and where.
use Rattle.std.specs.Prelude.{◌≡◌, ◌≢◌, ◌⊎◌, ℕ, List, length, Some, None, Result, Ok, Err}
use Rattle.zst_outside.specs.Images.{DiskState}
use Rattle.zst_bytes.specs.Bytes.{bytes_at, number_at}
use Rattle.zst_fletcher.specs.WeightSum.{parts_of, weight_sum}
use Rattle.zst_block.specs.Ptr.{sum_at}
use Rattle.zst_block.specs.declared.fault.BlockFault.TheVariants as blocks
use Rattle.zst_space.specs.declared.space.Extent.{Extent}
use Rattle.zst_marks.specs.Marks.{Apart}
use Rattle.zst_uber.specs.Body.{IsBody}
use Rattle.zst_uber.specs.Slots.{body_sector, latest, latest_slot}
use Rattle.zst_uber.specs.declared.TheConstants.{VERSION}
use Rattle.zst_uber.specs.declared.uber.Uber.{Uber}
use Rattle.zst_dir.specs.Rows.{Rows}
use Rattle.zst_dir.specs.Spelling.{IsDir}
use Rattle.zst_leaves.specs.Damage.{TellsText}
use Rattle.zst_leaves.specs.Leaves.{BlocksBefore, HasLeaves}
use Rattle.zst_extents.specs.ExtentReads.{TellsExtents}
use Rattle.zst_extents.specs.StoredExtents.{HasExtents}
use Rattle.zst_tree.specs.declared.or_memory.OrMemory.{OrMemory}
use Rattle.zst_block.specs.declared.fault.BlockFault.{BlockFault}
use Rattle.zst_tree.specs.declared.or_memory.OrMemory.TheVariants.{Fault, Memory}
use Rattle.zst_image.specs.Bodies.{Body}
use Rattle.zst_image.specs.Reads.{kept_rows, HasDir}
use Rattle.zst_image.specs.declared.open_fault.OpenFault.{OpenFault}
use Rattle.zst_image.specs.declared.open_fault.OpenFault.TheVariants.{Damaged, NoPool, BadVersion, DiskFault, OutOfMemory}
use Rattle.zst_image.specs.declared.pool_state.PoolState.{PoolState}

-- what a read of what is there may answer: the disk's failure, or want of memory
abbrev pub ReadFault : OpenFault → Type 0
ReadFault (Damaged sector stated found) = ⊥
ReadFault NoPool = ⊥
ReadFault (BadVersion version) = ⊥
ReadFault DiskFault = Unit {0}
ReadFault OutOfMemory = Unit {0}

-- what a read may answer where it isn't known what is there: that a block isn't as it was written besides
abbrev pub LoadFault : OpenFault → Type 0
LoadFault (Damaged sector stated found) = Unit {0}
LoadFault NoPool = ⊥
LoadFault (BadVersion version) = ⊥
LoadFault DiskFault = Unit {0}
LoadFault OutOfMemory = Unit {0}

-- what is wrong with leaves, as a fault of opening; a read never finds the disk full
abbrev pub IsOpenFault : OrMemory BlockFault → OpenFault → Type 0
IsOpenFault (Fault (blocks.Full need largest)) fault = ⊥
IsOpenFault (Fault (blocks.Damaged sector stated found)) fault = fault ≡ Damaged sector stated found
IsOpenFault (Fault blocks.DiskFault) fault = fault ≡ DiskFault
IsOpenFault Memory fault = fault ≡ OutOfMemory

-- a read of what is there gives it, or the disk or the memory failed
abbrev pub ReadAnswer : {T : Type 0} → (T → Type 0) → Result T OpenFault → Type 0
ReadAnswer Is (Ok value) = Is value
ReadAnswer Is (Err fault) = ReadFault fault

-- where the image reads as a pool, this is what is kept of it, its rows that last, unless the disk or the memory failed
abbrev pub GivesPool : Body → Rows → Result PoolState OpenFault → Type 0
GivesPool body rows result = ReadAnswer (λ kept. (kept.body ≡ body) × (kept.dir ≡ kept_rows rows)) result

-- this body, and below its end extents and a directory of the layout, are there, the directory with these rows
pub record IsOpened (disk : DiskState) (bytes : List ℕ) (body : Body) (rows : Rows) : Type 0 where
  pub is_body : IsBody disk.size body.uber bytes
  pub extents : HasExtents (BlocksBefore body.uber.end disk.seen) body.uber.free_levels body.uber.free_root body.uber.free_count body.free
  -- they rise from sector 8 on up to the body's end, none is empty, and no two touch
  pub apart : Apart 8 body.free body.uber.end
  pub directory : HasDir (BlocksBefore body.uber.end disk.seen) body.uber rows

-- E25 of the latest body, which is of this version but not of the layout: told are its sector, the sums that it states and those of its bytes
pub record TellsBody (disk : DiskState) (sector : ℕ) (stated found : List ℕ) : Type 0 where
  pub body : List ℕ
  pub there : latest disk.seen ≡ Some body
  pub version : number_at body 8 4 ≡ VERSION
  pub no_body : (uber : Uber) → ¬ (IsBody disk.size uber body)
  pub sector_is : sector ≡ body_sector (latest_slot disk.seen)
  pub stated_is : stated ≡ parts_of (sum_at body 480)
  pub found_is : found ≡ parts_of (weight_sum (bytes_at body 0 480))

-- every block below the directory's root is there, with the sum that its pointer states, and the text of the leaves, as long as the body says, is of no directory
pub record HasNoDir (disk : DiskState) (uber : Uber) : Type 0 where
  pub text : List ℕ
  pub leaves : HasLeaves (BlocksBefore uber.end disk.seen) uber.dir_levels uber.dir_root text
  pub long : length text ≡ uber.dir_bytes
  pub no_dir : (rows : Rows) → ¬ IsDir rows text

-- the directory's root is told with both sums alike: all leaves were read and aren't a directory
pub record TellsDirRoot (disk : DiskState) (uber : Uber) (sector : ℕ) (stated found : List ℕ) : Type 0 where
  pub why : HasNoDir disk uber
  pub sector_is : sector ≡ uber.dir_root.sector
  pub stated_is : stated ≡ parts_of uber.dir_root.sum
  pub found_is : found ≡ stated

-- a block of the directory is told as the read of its leaves tells it, or the root where that read isn't what fails
abbrev pub TellsDirBlock : DiskState → Uber → ℕ → List ℕ → List ℕ → Type 0
TellsDirBlock disk uber sector stated found =
    TellsText {T = Unit {0}} uber.end disk.seen disk.size uber.dir_levels uber.dir_root uber.dir_bytes (Err (Fault (blocks.Damaged sector stated found)))
    ⊎ TellsDirRoot disk uber sector stated found

-- a block of the free extents is told as their read tells it
abbrev pub TellsFreeBlock : DiskState → Uber → ℕ → List ℕ → List ℕ → Type 0
TellsFreeBlock disk uber sector stated found =
    TellsExtents {T = Unit {0}} uber.end disk.seen disk.size uber.free_levels uber.free_root uber.free_count uber.end (Err (Fault (blocks.Damaged sector stated found)))

-- a block of the free extents is told, or one of the directory
abbrev pub TellsBlock : DiskState → Uber → ℕ → List ℕ → List ℕ → Type 0
TellsBlock disk uber sector stated found = TellsFreeBlock disk uber sector stated found ⊎ TellsDirBlock disk uber sector stated found

-- E25 of the extents or the directory: the latest body is of the layout, but no extents and no directory of the layout are there by it
pub record TellsDir (disk : DiskState) (sector : ℕ) (stated found : List ℕ) : Type 0 where
  pub uber : Uber
  pub body : List ℕ
  pub there : latest disk.seen ≡ Some body
  pub is_body : IsBody disk.size uber body
  pub no_dir : (free : List Extent) (rows : Rows) → ¬ (IsOpened disk body (record { uber = uber; free = free }) rows)
  pub block : TellsBlock disk uber sector stated found

-- a fault tells no damage, or that of a block of the extents or the directory
abbrev pub TellsFault : DiskState → Uber → OpenFault → Type 0
TellsFault disk uber (Damaged sector stated found) = TellsBlock disk uber sector stated found
TellsFault disk uber NoPool = Unit {0}
TellsFault disk uber (BadVersion version) = Unit {0}
TellsFault disk uber DiskFault = Unit {0}
TellsFault disk uber OutOfMemory = Unit {0}

-- each answer of opening, where it comes
abbrev pub OpenAnswers : DiskState → Result PoolState OpenFault → Type 0
OpenAnswers disk (Ok kept) = (bytes : List ℕ) × (rows : Rows) × (latest disk.seen ≡ Some bytes) × IsOpened disk bytes kept.body rows × (kept.dir ≡ kept_rows rows)
OpenAnswers disk (Err (Damaged sector stated found)) = TellsBody disk sector stated found ⊎ TellsDir disk sector stated found
OpenAnswers disk (Err NoPool) = latest disk.seen ≡ None
OpenAnswers disk (Err (BadVersion number)) = (body : List ℕ) × (latest disk.seen ≡ Some body) × (number ≡ number_at body 8 4) × (number ≢ VERSION)
OpenAnswers disk (Err DiskFault) = Unit {0}
OpenAnswers disk (Err OutOfMemory) = Unit {0}

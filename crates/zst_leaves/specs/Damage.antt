-- Which block of a text in leaves a read tells as damaged.
use Rattle.std.specs.Prelude.{◌≡◌, ◌≢◌, ◌⊎◌, ℕ, zero, suc, ◌<◌, List, All, drop, Result}
use Rattle.zst_fletcher.specs.WeightSum.{parts_of}
use Rattle.zst_block.specs.Blocks.{IsBlock}
use Rattle.zst_block.specs.Ptr.{hole_of}
use Rattle.zst_block.specs.ReadAnswers.{IsDamage}
use Rattle.zst_block.specs.declared.fault.BlockFault.{BlockFault}
use Rattle.zst_block.specs.declared.fault.BlockFault.TheVariants.{Full, Damaged, DiskFault}
use Rattle.zst_block.specs.declared.ptr.Ptr.{Ptr}
use Rattle.zst_tree.specs.Indices.{child}
use Rattle.zst_leaves.specs.Leaves.{IsLeast, StandsBefore, bytes_below, part_length}
use Rattle.zst_tree.specs.Faults.{IfFault}
use Rattle.zst_tree.specs.declared.or_memory.OrMemory.{OrMemory}

-- a pointer names a block of 8,192 bytes, by its kind and its level, which stands before this sector
pub record Names (kind level end : ℕ) (ptr : Ptr) : Type 0 where
  pub kind_is : ptr.kind ≡ kind
  pub level_is : ptr.level ≡ level
  pub length_is : ptr.length ≡ 8192
  pub stands : StandsBefore end ptr

-- behind so many bytes the block has more than zeros
pub record HasMore (image : List ℕ) (count : ℕ) (ptr : Ptr) : Type 0 where
  pub bytes : List ℕ
  pub block : IsBlock image ptr bytes
  pub more : ¬ All (λ byte. byte ≡ 0) (drop count bytes)

-- a pointer isn't right for so many bytes below it: for none it isn't the hole of the date 0, for those of a leaf it names no leaf or one with more, and else it names no node
abbrev pub IsWrong : ℕ → List ℕ → ℕ → ℕ → Ptr → Type 0
IsWrong end image level count ptr =
    ((count ≡ 0) × (ptr ≢ hole_of 0))
    ⊎ (((0 < count) × (level ≡ 0) × ((¬ Names 1 0 end ptr) ⊎ HasMore image count ptr))
    ⊎ ((0 < count) × (0 < level) × (¬ Names 3 level end ptr)))

-- a fault tells no damage, or that of this pointer: what stands there has other sums, or it is wrong, and then both sums are told alike
abbrev pub TellsPtr : List ℕ → ℕ → Type 0 → Ptr → BlockFault → Type 0
TellsPtr image size wrong ptr (Damaged sector stated found) = (sector ≡ ptr.sector) × (stated ≡ parts_of ptr.sum) × (IsDamage image size ptr found ⊎ ((found ≡ stated) × wrong))
TellsPtr image size wrong ptr (Full need largest) = Unit {0}
TellsPtr image size wrong ptr DiskFault = Unit {0}

-- below a pointer at a level, for so many bytes, this one is reached, with its level and its part of them: the pointer itself, or one that is reached below a child of its block
unfoldable pub LeadsTo : List ℕ → ℕ → Ptr → ℕ → ℕ → Ptr → ℕ → Type 0
LeadsTo image zero ptr count at found part = (at ≡ 0) × (found ≡ ptr) × (part ≡ count)
LeadsTo image (suc level) ptr count at found part = ((at ≡ suc level) × (found ≡ ptr) × (part ≡ count))
    ⊎ ((node : List ℕ) × IsBlock image ptr node × (k : ℕ) × (k < 128) × LeadsTo image level (child node k) (part_length (bytes_below level) count k) at found part)

-- a fault tells no damage, or that of a pointer that is reached from the root
pub record IsDamagedBelow (end : ℕ) (image : List ℕ) (size level : ℕ) (root : Ptr) (count : ℕ) (fault : BlockFault) : Type 0 where
  pub at : ℕ
  pub ptr : Ptr
  pub part : ℕ
  pub leads : LeadsTo image level root count at ptr part
  pub told : TellsPtr image size (IsWrong end image at part ptr) ptr fault

-- so does a refusal
abbrev pub TellsBelow : {T : Type 0} → ℕ → List ℕ → ℕ → ℕ → Ptr → ℕ → Result T (OrMemory BlockFault) → Type 0
TellsBelow end image size level root count result = IfFault result (IsDamagedBelow end image size level root count)

-- or, of a whole text, that of a root with other levels than the fewest that have room for so many bytes
abbrev pub TellsText : {T : Type 0} → ℕ → List ℕ → ℕ → ℕ → Ptr → ℕ → Result T (OrMemory BlockFault) → Type 0
TellsText end image size levels root count result =
    IfFault result (λ fault. TellsPtr image size (¬ ((0 < count) × IsLeast levels count)) root fault ⊎ IsDamagedBelow end image size levels root count fault)

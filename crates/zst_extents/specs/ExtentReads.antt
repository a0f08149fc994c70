-- What a read of free extents gives, and which block it tells as damaged.
use Rattle.std.specs.Prelude.{◌≡◌, ◌⊎◌, ℕ, ◌*◌, ◌^◌, ◌<◌, List, length, Result, Err}
use Rattle.zst_fletcher.specs.WeightSum.{parts_of}
use Rattle.zst_space.specs.declared.space.Extent.{Extent}
use Rattle.zst_marks.specs.Marks.{Apart}
use Rattle.zst_block.specs.declared.fault.BlockFault.{BlockFault}
use Rattle.zst_block.specs.declared.fault.BlockFault.TheVariants.{Full, Damaged, DiskFault}
use Rattle.zst_block.specs.declared.ptr.Ptr.{Ptr}
use Rattle.zst_tree.specs.Indices.{Blocks, IsNoDamage}
use Rattle.zst_tree.specs.Faults.{GivesOrTells, IfFault}
use Rattle.zst_tree.specs.declared.or_memory.OrMemory.{OrMemory}
use Rattle.zst_tree.specs.declared.or_memory.OrMemory.TheVariants.{Fault}
use Rattle.zst_leaves.specs.Damage.{TellsText}
use Rattle.zst_leaves.specs.Leaves.{BlocksBefore, HasLeaves}
use Rattle.zst_extents.specs.StoredExtents.{extent_bytes}

-- the numbers of an extent fit words
pub record FitsWords (extent : Extent) : Type 0 where
  pub first : extent.first < 2 ^ 64
  pub count : extent.count < 2 ^ 64

-- what was read are these extents, and no block is told as damaged
abbrev pub GivesExtents : List Extent → {T : Type 0} → (T → List Extent) → Result T (OrMemory BlockFault) → Type 0
GivesExtents extents read result = GivesOrTells (λ value. read value ≡ extents) IsNoDamage result

-- every block below the root is there, with the sum that its pointer states, and the text of the leaves, as long as one of so many extents, is the text of none that are apart from sector 8 on up to this end
pub record HasNoExtents (has : Blocks) (levels : ℕ) (root : Ptr) (count end : ℕ) : Type 0 where
  pub text : List ℕ
  pub leaves : HasLeaves has levels root text
  pub long : length text ≡ 16 * count
  pub none_apart : (extents : List Extent) → Apart 8 extents end → ¬ (text ≡ extent_bytes extents)

-- the root is told as damaged, with both sums alike
abbrev pub TellsRoot : Ptr → BlockFault → Type 0
TellsRoot root (Damaged sector stated found) = (sector ≡ root.sector) × (stated ≡ parts_of root.sum) × (found ≡ stated)
TellsRoot root (Full need largest) = ⊥
TellsRoot root DiskFault = ⊥

-- a refusal tells a block of the text of so many extents as the read of its leaves tells it, or, only where these all were read and are the text of none that are apart, its root; of no extents the root is told, which is no hole of the date 0 over no levels
abbrev pub TellsExtents : {T : Type 0} → (before : ℕ) → List ℕ → ℕ → ℕ → Ptr → ℕ → (end : ℕ) → Result T (OrMemory BlockFault) → Type 0
TellsExtents before image size levels root count end result =
    IfFault result (λ fault. TellsText {T = Unit {0}} before image size levels root (16 * count) (Err (Fault fault)) ⊎ (HasNoExtents (BlocksBefore before image) levels root count end × TellsRoot root fault))

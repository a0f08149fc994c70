-- Which sectors are the first ones of the blocks that a pool's latest body reaches, and how many these are.
use Rattle.std.specs.Prelude.{◌≡◌, ◌≢◌, ◌⊎◌, ◌↔◌, ℕ, ◌^◌, ◌<◌, List, [], length, false, AllPairs, Contains}
use Rattle.zst_block.specs.Blocks.{IsBlock}
use Rattle.zst_block.specs.Ptr.{is_flat}
use Rattle.zst_block.specs.declared.ptr.Ptr.{Ptr}
use Rattle.zst_dir.specs.Rows.{Rows}
use Rattle.zst_dir.specs.declared.rows.Dataset.{Dataset}
use Rattle.zst_dir.specs.declared.rows.Snapshot.{Snapshot}
use Rattle.zst_dir.specs.declared.rows.Bookmark.{Bookmark}
use Rattle.zst_dir.specs.declared.rows.Partial.{Partial}
use Rattle.zst_dnode.specs.declared.dnode.Dnode.{Dnode}
use Rattle.zst_dnode.specs.declared.slot.Slot.{Slot}
use Rattle.zst_dnode.specs.declared.slot.Slot.TheVariants.{Absent, There}
use Rattle.zst_objset.specs.Damage.{HasSlot}
use Rattle.zst_reach.specs.Reached.{IsOf, ReachesBlock}
use Rattle.zst_reach.specs.ReachedSets.{StandsAt}
use Rattle.zst_roots.specs.ReachedRows.{IsReachedBySome}
use Rattle.zst_roots.specs.Unreached.{IsReached}
use Rattle.zst_tree.specs.Indices.{Blocks}
use Rattle.zst_tree.specs.declared.tree.ObjSet.{ObjSet}
use Rattle.zst_uber.specs.declared.uber.Uber.{Uber}

module _ (has : Blocks) where
  -- a block that is reached below a pointer at a level begins with this sector
  pub record IsFirstBelow (level : ℕ) (ptr : Ptr) (sector : ℕ) : Type 0 where
    pub found : Ptr
    pub reached : ReachesBlock has level ptr found
    pub begins : found.sector ≡ sector

  -- of an object: one of its blocks, of the nodes above them, or its spill
  abbrev pub IsFirstInDnode : Dnode → ℕ → Type 0
  IsFirstInDnode dnode sector = IsFirstBelow dnode.levels dnode.root sector ⊎ IsFirstBelow 0 dnode.spill sector

  -- of a slot: one of its object
  abbrev pub IsFirstInSlot : Slot → ℕ → Type 0
  IsFirstInSlot (Absent date) sector = ⊥
  IsFirstInSlot (There dnode) sector = IsFirstInDnode dnode sector

  -- of a leaf of a set: one of an object in its slots
  pub record IsFirstInLeaf (leaf : Ptr) (sector : ℕ) : Type 0 where
    pub bytes : List ℕ
    pub there : has leaf bytes
    pub place : ℕ
    pub under : place < 16
    pub slot : Slot
    pub stands : HasSlot bytes place slot
    pub begins : IsFirstInSlot slot sector

  -- of a leaf of an index that a set may have, below a pointer whose first index is this one
  pub record IsFirstByLeaf (level : ℕ) (ptr : Ptr) (first sector : ℕ) : Type 0 where
    pub leaf : Ptr
    pub index : ℕ
    pub small : index < 2 ^ 44
    pub stands : StandsAt has level ptr first index leaf
    pub some : is_flat leaf ≡ false
    pub inside : IsFirstInLeaf leaf sector

  -- of a set: a node or a leaf of its tree, or one of a leaf
  abbrev pub IsFirstInSet : ObjSet → ℕ → Type 0
  IsFirstInSet set sector = IsFirstBelow set.tree.levels set.tree.root sector ⊎ IsFirstByLeaf set.tree.levels set.tree.root 0 sector

  -- of a dataset's row: one of its head, and so with a snapshot's and a partial state's objects
  abbrev pub IsFirstInHead : Dataset → ℕ → Type 0
  IsFirstInHead row sector = IsFirstInSet row.head sector

  abbrev pub IsFirstInSnapshot : Snapshot → ℕ → Type 0
  IsFirstInSnapshot row sector = IsFirstInSet row.objects sector

  abbrev pub IsFirstInPartial : Partial → ℕ → Type 0
  IsFirstInPartial row sector = IsFirstInSet row.objects sector

  -- of a bookmark's row: a leaf of its list or a node above, where the list has runs
  abbrev pub IsFirstInList : Bookmark → ℕ → Type 0
  IsFirstInList row sector = (0 < row.runs) × IsFirstBelow row.levels row.root sector

  -- of the rows of a directory: one of some row
  abbrev pub IsFirstInRows : Rows → ℕ → Type 0
  IsFirstInRows rows sector =
      IsReachedBySome rows.datasets IsFirstInHead sector
      ⊎ (IsReachedBySome rows.snapshots IsFirstInSnapshot sector
      ⊎ (IsReachedBySome rows.partials IsFirstInPartial sector
      ⊎ IsReachedBySome rows.bookmarks IsFirstInList sector))

  -- of the texts of a body: a leaf of its directory or of its free extents, where it has any, or a node above
  abbrev pub IsFirstInTexts : Uber → ℕ → Type 0
  IsFirstInTexts uber sector = IsFirstBelow uber.dir_levels uber.dir_root sector ⊎ ((0 < uber.free_count) × IsFirstBelow uber.free_levels uber.free_root sector)

  -- of all that a body with this directory reaches
  abbrev pub IsFirstReached : Uber → Rows → ℕ → Type 0
  IsFirstReached uber rows sector = IsFirstInRows rows sector ⊎ IsFirstInTexts uber sector

-- so many numbers are such: a list that has no number twice has exactly these
pub record Counts (is : ℕ → Type 0) (count : ℕ) : Type 0 where
  pub numbers : List ℕ
  pub once : AllPairs (λ a b. a ≢ b) numbers
  pub exact : (number : ℕ) → Contains numbers number ↔ is number
  pub long : length numbers ≡ count

-- so many different blocks, by their first sectors, are reached by a body with this directory: those that begin before its end, as each block of a pool that reads does
abbrev pub CountsBlocks : Blocks → Uber → Rows → ℕ → Type 0
CountsBlocks has uber rows count = Counts (λ sector. (sector < uber.end) × IsFirstReached has uber rows sector) count

-- an image has one count of them at most
abbrev pub CountIsOne : Type 0
CountIsOne = (image : List ℕ) (uber : Uber) (rows : Rows) (a b : ℕ) → CountsBlocks (IsBlock image) uber rows a → CountsBlocks (IsBlock image) uber rows b → a ≡ b

-- a block begins with this sector, and each of its sectors is reached so
pub record BeginsWithin (reached : ℕ → Type 0) (sector : ℕ) : Type 0 where
  pub found : Ptr
  pub begins : found.sector ≡ sector
  pub within : (other : ℕ) → IsOf found other → reached other

-- the sector is one of a block whose first sector is such
pub record IsOfOne (is_first : ℕ → Type 0) (sector : ℕ) : Type 0 where
  pub found : Ptr
  pub is_of : IsOf found sector
  pub first : is_first found.sector

-- what is counted begins a block of sectors that are reached where no session holds anything
abbrev pub CountedAreReached : Type 0
CountedAreReached =
    (image : List ℕ) (uber : Uber) (rows : Rows) (sector : ℕ) → IsFirstReached (IsBlock image) uber rows sector → BeginsWithin (IsReached (IsBlock image) uber rows []) sector

-- and each sector that is reached so is one of the first eight, or of a block that is counted
abbrev pub ReachedAreCounted : Type 0
ReachedAreCounted =
    (image : List ℕ) (uber : Uber) (rows : Rows) (sector : ℕ) → IsReached (IsBlock image) uber rows [] sector → (sector < 8) ⊎ IsOfOne (IsFirstReached (IsBlock image) uber rows) sector

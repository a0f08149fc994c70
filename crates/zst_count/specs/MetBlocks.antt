-- Which blocks a walk has met, and which of them it has read.
use Rattle.std.specs.Prelude.{◌≡◌, ◌⊎◌, ℕ, zero, suc, ◌<◌, List, Option, Some, None, IfSome, true, false}
use Rattle.zst_block.specs.Blocks.{IsBlock}
use Rattle.zst_block.specs.Ptr.{is_flat}
use Rattle.zst_block.specs.declared.ptr.Ptr.{Ptr}
use Rattle.zst_dnode.specs.declared.dnode.Dnode.{Dnode}
use Rattle.zst_dnode.specs.declared.slot.Slot.{Slot}
use Rattle.zst_dnode.specs.declared.slot.Slot.TheVariants.{Absent, There}
use Rattle.zst_marks.specs.Marks.{IsMarked}
use Rattle.zst_objset.specs.Damage.{HasSlot}
use Rattle.zst_tree.specs.Indices.{child}
use Rattle.zst_count.specs.FirstSectors.{IsFirstBelow, IsFirstInDnode, IsFirstInLeaf, IsFirstInSlot}
use Rattle.zst_count.specs.PastLeaves.{told_below}
use Rattle.zst_count.specs.declared.met_blocks.MetBlocks.{MetBlocks}

-- more may be met: what was met stays so, before the same end
pub record MetMore (old new : MetBlocks) : Type 0 where
  pub stay : (sector : ℕ) → IsMarked old.marks sector → IsMarked new.marks sector
  pub end_is : new.end ≡ old.end

-- each first sector of this kind below an end was met: it is marked
abbrev pub AllMet : (end : ℕ) → (marks : List ℕ) → (ℕ → Type 0) → Type 0
AllMet end marks is_first = (sector : ℕ) → is_first sector → sector < end → IsMarked marks sector

-- each block below an end that is reached below a pointer at a level was met: its first sector is marked
abbrev pub AreMet : (image : List ℕ) → (end : ℕ) → (marks : List ℕ) → (level : ℕ) → Ptr → Type 0
AreMet image end marks level ptr = AllMet end marks (IsFirstBelow (IsBlock image) level ptr)

-- below a pointer at a level each node is there: it has the sums of its pointer; and so has each leaf, where a length is told, but for those past the bound, which are no blocks of an object
unfoldable pub AreRead : (image : List ℕ) → Option ℕ → (level : ℕ) → Ptr → Type 0
AreRead image told zero ptr = (is_flat ptr ≡ true) ⊎ IfSome told (λ count. (bytes : List ℕ) × IsBlock image ptr bytes)
AreRead image told (suc level) ptr = (is_flat ptr ≡ true)
    ⊎ ((bytes : List ℕ) × IsBlock image ptr bytes × ((k : ℕ) → k < 128 → AreRead image (told_below told (suc level) k) level (child bytes k)))

module _ (image : List ℕ) where
  -- what was met before of an object: each of its blocks
  abbrev pub AreMetInDnode : ℕ → List ℕ → Dnode → Type 0
  AreMetInDnode end marks dnode = AllMet end marks (IsFirstInDnode (IsBlock image) dnode)

  -- so it is with the object in a slot
  abbrev pub AreMetInSlot : ℕ → List ℕ → Slot → Type 0
  AreMetInSlot end marks slot = AllMet end marks (IsFirstInSlot (IsBlock image) slot)

  -- and with those in the slots of a leaf
  abbrev pub AreMetInLeaf : ℕ → List ℕ → Ptr → Type 0
  AreMetInLeaf end marks leaf = AllMet end marks (IsFirstInLeaf (IsBlock image) leaf)

  -- where a leaf that was walked before stands at this level, it is so with that leaf
  abbrev pub AreMetBeside : ℕ → List ℕ → ℕ → Ptr → Type 0
  AreMetBeside end marks level known = level ≡ 0 → is_flat known ≡ false → AreMetInLeaf end marks known

  -- the blocks of an object are there, the nodes above them, and its spill
  abbrev pub AreReadInDnode : Dnode → Type 0
  AreReadInDnode dnode = AreRead image (Some dnode.block_size) dnode.levels dnode.root × AreRead image (Some dnode.spill.length) 0 dnode.spill

  -- so it is with the object in a slot
  abbrev pub AreReadInSlot : Slot → Type 0
  AreReadInSlot (Absent date) = Unit {0}
  AreReadInSlot (There dnode) = AreReadInDnode dnode

  -- and with a leaf: its own block, and those of the objects in its slots
  pub record AreReadInLeaf (leaf : Ptr) : Type 0 where
    pub bytes : List ℕ
    pub there : IsBlock image leaf bytes
    pub slots : (place : ℕ) → place < 16 → (slot : Slot) → HasSlot bytes place slot → AreReadInSlot slot

  -- where a leaf that was walked before stands at this level, it is so with that leaf
  abbrev pub AreReadBeside : ℕ → Ptr → Type 0
  AreReadBeside level known = level ≡ 0 → is_flat known ≡ false → AreReadInLeaf known

  -- at a place of a leaf that was walked before stands this object
  pub record StandsBeside (level : ℕ) (known : Ptr) (place : ℕ) (dnode : Dnode) : Type 0 where
    pub bottom : level ≡ 0
    pub some : is_flat known ≡ false
    pub under : place < 16
    pub bytes : List ℕ
    pub there : IsBlock image known bytes
    pub slot : HasSlot bytes place (There dnode)

-- a tree is that of an object, or has no block
abbrev pub IsTreeOf : Option Dnode → ℕ → Ptr → Type 0
IsTreeOf None level root = is_flat root ≡ true
IsTreeOf (Some dnode) level root = (is_flat root ≡ true) ⊎ ((level ≡ dnode.levels) × (root ≡ dnode.root))

-- a spill is that of an object, or has no block
abbrev pub IsSpillOf : Option Dnode → Ptr → Type 0
IsSpillOf None spill = is_flat spill ≡ true
IsSpillOf (Some dnode) spill = spill ≡ dnode.spill

-- Trees whose nodes and data stand as their pointers name them, so that they are walked and read.
use Rattle.std.specs.Prelude.{◌≡◌, ◌⊎◌, ℕ, zero, suc, ◌<◌, List, Option, Some, None, true, length}
use Rattle.zst_block.specs.Ptr.{is_flat}
use Rattle.zst_block.specs.declared.ptr.Ptr.{Ptr}
use Rattle.zst_dnode.specs.declared.dnode.Dnode.{Dnode}
use Rattle.zst_dnode.specs.declared.slot.Slot.{Slot}
use Rattle.zst_dnode.specs.declared.slot.Slot.TheVariants.{Absent, There}
use Rattle.zst_objset.specs.Damage.{HasSlot}
use Rattle.zst_tree.specs.Damage.{NamesNode}
use Rattle.zst_tree.specs.Indices.{Blocks, child}
use Rattle.zst_count.specs.PastLeaves.{told_below}

module _ (has : Blocks) where
  -- a pointer names data of so many bytes that are there
  pub record IsDataThere (count : ℕ) (ptr : Ptr) : Type 0 where
    pub kind : ptr.kind ≡ 1
    pub size : ptr.length ≡ count
    pub bytes : List ℕ
    pub there : has ptr bytes

  -- so it is with a leaf, where a length is told
  abbrev pub LeafIsThere : Option ℕ → Ptr → Type 0
  LeafIsThere None ptr = Unit {0}
  LeafIsThere (Some count) ptr = IsDataThere count ptr

  -- below a pointer at a level each node is there, as its pointer names it, and so is each leaf, but for those past the bound, which are no blocks of an object
  unfoldable pub DataStand : Option ℕ → ℕ → Ptr → Type 0
  DataStand told zero ptr = (is_flat ptr ≡ true) ⊎ LeafIsThere told ptr
  DataStand told (suc level) ptr = (is_flat ptr ≡ true)
      ⊎ (NamesNode (suc level) ptr × ((bytes : List ℕ) × has ptr bytes × ((k : ℕ) → k < 128 → DataStand (told_below told (suc level) k) level (child bytes k))))

  -- so it is with an object, whose leaves have its block size, and with its spill
  abbrev pub DataStandInDnode : Dnode → Type 0
  DataStandInDnode dnode = DataStand (Some dnode.block_size) dnode.levels dnode.root × DataStand (Some dnode.spill.length) 0 dnode.spill

  -- and with the object in a slot
  abbrev pub DataStandInSlot : Slot → Type 0
  DataStandInSlot (Absent date) = Unit {0}
  DataStandInSlot (There dnode) = DataStandInDnode dnode

  -- at each place of a leaf's block stands a slot, and so it is with its object
  pub record DataStandInLeaf (leaf : Ptr) : Type 0 where
    pub bytes : List ℕ
    pub there : has leaf bytes
    pub long : length bytes ≡ 8192
    pub slots : (place : ℕ) → place < 16 → (slot : Slot) × HasSlot bytes place slot × DataStandInSlot slot

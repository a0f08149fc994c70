-- Trees whose nodes stand as their pointers name them, so that they are walked.
use Rattle.std.specs.Prelude.{◌≡◌, ◌⊎◌, ℕ, zero, suc, ◌+◌, ◌*◌, ◌^◌, ◌<◌, List, true, length}
use Rattle.zst_block.specs.Ptr.{is_flat}
use Rattle.zst_block.specs.declared.ptr.Ptr.{Ptr}
use Rattle.zst_dnode.specs.declared.slot.Slot.{Slot}
use Rattle.zst_dnode.specs.declared.slot.Slot.TheVariants.{Absent, There}
use Rattle.zst_objset.specs.Damage.{HasSlot}
use Rattle.zst_tree.specs.Damage.{NamesNode}
use Rattle.zst_tree.specs.Indices.{Blocks, child, span}

-- below a pointer at a level each node is there, and its pointer names a node of its level
unfoldable pub NodesStand : Blocks → ℕ → Ptr → Type 0
NodesStand has zero ptr = Unit {0}
NodesStand has (suc level) ptr = (is_flat ptr ≡ true)
    ⊎ (NamesNode (suc level) ptr × ((bytes : List ℕ) × has ptr bytes × ((k : ℕ) → k < 128 → NodesStand has level (child bytes k))))

-- so it is with the tree of the object in a slot
abbrev pub NodesStandInSlot : Blocks → Slot → Type 0
NodesStandInSlot has (Absent date) = Unit {0}
NodesStandInSlot has (There dnode) = NodesStand has dnode.levels dnode.root

-- at each place of a leaf's block stands a slot, and the nodes of its object's tree do
pub record LeafStands (has : Blocks) (leaf : Ptr) : Type 0 where
  pub bytes : List ℕ
  pub there : has leaf bytes
  pub long : length bytes ≡ 8192
  pub slots : (place : ℕ) → place < 16 → (slot : Slot) × HasSlot bytes place slot × NodesStandInSlot has slot

-- below a pointer of a set's tree, whose first index is this one, each node is there, and each leaf of an index that a set may have
unfoldable pub SetStands : Blocks → ℕ → Ptr → ℕ → Type 0
SetStands has zero ptr first = first < 2 ^ 44 → (is_flat ptr ≡ true) ⊎ LeafStands has ptr
SetStands has (suc level) ptr first = (is_flat ptr ≡ true)
    ⊎ (NamesNode (suc level) ptr × ((bytes : List ℕ) × has ptr bytes × ((k : ℕ) → k < 128 → SetStands has level (child bytes k) (first + k * span level))))

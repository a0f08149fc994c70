-- Which block a walk of a set tells as damaged, below one of its pointers.
use Rattle.std.specs.Prelude.{◌≢◌, ◌⊎◌, ℕ, ◌<◌, List}
use Rattle.zst_block.specs.declared.ptr.Ptr.{Ptr}
use Rattle.zst_dnode.specs.declared.slot.Slot.{Slot}
use Rattle.zst_dnode.specs.declared.slot.Slot.TheVariants.{Absent, There}
use Rattle.zst_objset.specs.Damage.{DamageFact, HasSlot, IsDamagedLeaf}
use Rattle.zst_tree.specs.Damage.{HangsBelow, IsDamagedNode, MayHave, NamesNode}

-- of a slot: a node of its object's tree
abbrev pub IsDamagedInSlot : (List ℕ → Type 0) → ℕ → Slot → DamageFact
IsDamagedInSlot images size (Absent date) sector stated found = ⊥
IsDamagedInSlot images size (There dnode) sector stated found = IsDamagedNode images size NamesNode dnode.levels dnode.root sector stated found

-- of a block that may stand at a leaf: that of one of its slots
pub record HasDamagedSlot (images : List ℕ → Type 0) (size : ℕ) (leaf : Ptr) (sector : ℕ) (stated found : List ℕ) : Type 0 where
  pub bytes : List ℕ
  pub there : MayHave images leaf bytes
  pub place : ℕ
  pub under : place < 16
  pub slot : Slot
  pub stands : HasSlot bytes place slot
  pub damaged : IsDamagedInSlot images size slot sector stated found

-- of a leaf: its own block, or that
abbrev pub IsDamagedInLeaf : (List ℕ → Type 0) → ℕ → Ptr → DamageFact
IsDamagedInLeaf images size leaf sector stated found = IsDamagedLeaf images size leaf sector stated found ⊎ HasDamagedSlot images size leaf sector stated found

-- of a leaf that hangs below a pointer at a level
pub record HasDamageInLeaf (images : List ℕ → Type 0) (size level : ℕ) (ptr : Ptr) (sector : ℕ) (stated found : List ℕ) : Type 0 where
  pub leaf : Ptr
  pub some : leaf.kind ≢ 0
  pub hangs : HangsBelow (MayHave images) level ptr leaf
  pub damaged : IsDamagedInLeaf images size leaf sector stated found

-- below a pointer of a set's tree: a node, or that of a leaf
abbrev pub IsDamagedInTree : (List ℕ → Type 0) → ℕ → ℕ → Ptr → DamageFact
IsDamagedInTree images size level ptr sector stated found = IsDamagedNode images size NamesNode level ptr sector stated found ⊎ HasDamageInLeaf images size level ptr sector stated found

-- Which block a walk that reads data tells as damaged.
use Rattle.std.specs.Prelude.{◌⊎◌, ℕ, ◌<◌, List, Option, Some, None}
use Rattle.zst_block.specs.declared.ptr.Ptr.{Ptr}
use Rattle.zst_dnode.specs.declared.dnode.Dnode.{Dnode}
use Rattle.zst_dnode.specs.declared.slot.Slot.{Slot}
use Rattle.zst_dnode.specs.declared.slot.Slot.TheVariants.{Absent, There}
use Rattle.zst_objset.specs.Damage.{DamageFact, HasSlot, IsDamagedData, IsDamagedLeaf}
use Rattle.zst_tree.specs.Damage.{HangsBelow, IsDamagedNode, MayHave, NamesNode}

module _ (images : List ℕ → Type 0) (size : ℕ) where
  -- data of so many bytes that hang below a pointer at a level
  pub record HasDamagedData (count level : ℕ) (ptr : Ptr) (sector : ℕ) (stated found : List ℕ) : Type 0 where
    pub leaf : Ptr
    pub hangs : HangsBelow (MayHave images) level ptr leaf
    pub damaged : IsDamagedData images size count leaf sector stated found

  -- they are read where a length is told
  abbrev pub IsDamagedBeneath : Option ℕ → ℕ → Ptr → DamageFact
  IsDamagedBeneath None level ptr sector stated found = ⊥
  IsDamagedBeneath (Some count) level ptr sector stated found = HasDamagedData count level ptr sector stated found

  -- below a pointer at a level: a node, or such data
  abbrev pub IsDamagedBelow : Option ℕ → ℕ → Ptr → DamageFact
  IsDamagedBelow told level ptr sector stated found = IsDamagedNode images size NamesNode level ptr sector stated found ⊎ IsDamagedBeneath told level ptr sector stated found

  -- of an object: that of its tree, whose leaves have its block size, or its spill
  abbrev pub IsDamagedInDnode : Dnode → DamageFact
  IsDamagedInDnode dnode sector stated found =
      IsDamagedBelow (Some dnode.block_size) dnode.levels dnode.root sector stated found ⊎ IsDamagedData images size dnode.spill.length dnode.spill sector stated found

  -- of a slot: that of its object
  abbrev pub IsDamagedInSlot : Slot → DamageFact
  IsDamagedInSlot (Absent date) sector stated found = ⊥
  IsDamagedInSlot (There dnode) sector stated found = IsDamagedInDnode dnode sector stated found

  -- of a block that may stand at a leaf: that of one of its slots
  pub record HasDamagedSlot (leaf : Ptr) (sector : ℕ) (stated found : List ℕ) : Type 0 where
    pub bytes : List ℕ
    pub there : MayHave images leaf bytes
    pub place : ℕ
    pub under : place < 16
    pub slot : Slot
    pub stands : HasSlot bytes place slot
    pub damaged : IsDamagedInSlot slot sector stated found

  -- of a leaf: its own block, or that
  abbrev pub IsDamagedInLeaf : Ptr → DamageFact
  IsDamagedInLeaf leaf sector stated found = IsDamagedLeaf images size leaf sector stated found ⊎ HasDamagedSlot leaf sector stated found

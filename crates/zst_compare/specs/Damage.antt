-- Which block a comparison tells as damaged.
use Rattle.std.specs.Prelude.{◌≢◌, ◌⊎◌, ℕ, ◌<◌, List}
use Rattle.zst_block.specs.declared.ptr.Ptr.{Ptr}
use Rattle.zst_dnode.specs.declared.dnode.Dnode.{Dnode}
use Rattle.zst_dnode.specs.declared.slot.Slot.{Slot}
use Rattle.zst_dnode.specs.declared.slot.Slot.TheVariants.{Absent, There}
use Rattle.zst_objset.specs.Damage.{DamageFact, HasSlot, IsDamagedData, IsDamagedLeaf, IsDamagedSet, StandsIn}
use Rattle.zst_tree.specs.Damage.{HangsBelow, IsDamagedNode, MayHave, NamesNode}
use Rattle.zst_tree.specs.declared.tree.ObjSet.{ObjSet}
use Rattle.zst_tree.specs.declared.tree.Tree.{Tree}
use Rattle.zst_compare.specs.Contents.{indices_in}
use Rattle.zst_compare.specs.declared.trees.Indices.{Indices}

-- damage of the one or of the other
abbrev pub OfEither : DamageFact → DamageFact → DamageFact
OfEither one other sector stated found = one sector stated found ⊎ other sector stated found

module _ (images : List ℕ → Type 0) (size : ℕ) where
  -- of a tree: a node
  abbrev pub IsDamagedTree : Tree → DamageFact
  IsDamagedTree tree = IsDamagedNode images size NamesNode tree.levels tree.root

  -- a block of this size that hangs below the root of a tree
  pub record HasDamagedBlock (indices : Indices) (sector : ℕ) (stated found : List ℕ) : Type 0 where
    pub ptr : Ptr
    pub hangs : HangsBelow (MayHave images) indices.tree.levels indices.tree.root ptr
    pub damaged : IsDamagedData images size indices.size ptr sector stated found

  -- of the indices of an object: a node of their tree, or a block
  abbrev pub IsDamagedIndex : Indices → DamageFact
  IsDamagedIndex indices = OfEither (IsDamagedTree indices.tree) (HasDamagedBlock indices)

  -- of a spill: its block, which has the length that is stated
  abbrev pub IsDamagedSpill : Ptr → DamageFact
  IsDamagedSpill spill = IsDamagedData images size spill.length spill

  -- of an object: its spill, or one of its indices
  abbrev pub IsDamagedInDnode : Dnode → DamageFact
  IsDamagedInDnode dnode = OfEither (IsDamagedSpill dnode.spill) (IsDamagedIndex (indices_in dnode))

  -- of a slot: that of its object
  abbrev pub IsDamagedInSlot : Slot → DamageFact
  IsDamagedInSlot (Absent date) sector stated found = ⊥
  IsDamagedInSlot (There dnode) sector stated found = IsDamagedInDnode dnode sector stated found

  -- of a block that may stand at a leaf: that of one of its slots
  pub record HasDamagedSlot (leaf : Ptr) (sector : ℕ) (stated found : List ℕ) : Type 0 where
    pub some : leaf.kind ≢ 0
    pub bytes : List ℕ
    pub there : MayHave images leaf bytes
    pub place : ℕ
    pub under : place < 16
    pub slot : Slot
    pub stands : HasSlot bytes place slot
    pub damaged : IsDamagedInSlot slot sector stated found

  -- of a leaf of dnodes: its own block, or that
  abbrev pub IsDamagedInLeaf : Ptr → DamageFact
  IsDamagedInLeaf leaf = OfEither (IsDamagedLeaf images size leaf) (HasDamagedSlot leaf)

  -- the spill or an index of an object that may stand in the set
  pub record HasDamagedDnode (set : ObjSet) (sector : ℕ) (stated found : List ℕ) : Type 0 where
    pub dnode : Dnode
    pub stands : StandsIn images set dnode
    pub damaged : IsDamagedInDnode dnode sector stated found

  -- of a set: too many levels, a node of its tree, a leaf of dnodes, or that
  abbrev pub IsDamagedIn : ObjSet → DamageFact
  IsDamagedIn set = OfEither (IsDamagedSet images size set) (HasDamagedDnode set)

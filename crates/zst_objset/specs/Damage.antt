-- Which block a call on an object set tells as damaged.
use Rattle.std.specs.Prelude.{◌≡◌, ◌≢◌, ◌⊎◌, ℕ, ◌*◌, ◌<◌, List, false, Result, Ok, Err}
use Rattle.zst_bytes.specs.Bytes.{bytes_at}
use Rattle.zst_fletcher.specs.WeightSum.{parts_of}
use Rattle.zst_block.specs.Ptr.{is_flat}
use Rattle.zst_block.specs.ReadAnswers.{IsDamage}
use Rattle.zst_block.specs.declared.fault.BlockFault.{BlockFault}
use Rattle.zst_block.specs.declared.fault.BlockFault.TheVariants as blocks
use Rattle.zst_block.specs.declared.ptr.Ptr.{Ptr}
use Rattle.zst_dnode.specs.Slot.{slot_bytes, SlotFits}
use Rattle.zst_dnode.specs.declared.dnode.Dnode.{Dnode}
use Rattle.zst_dnode.specs.declared.slot.Slot.{Slot}
use Rattle.zst_dnode.specs.declared.slot.Slot.TheVariants.{Absent, There}
use Rattle.zst_tree.specs.Damage.{HangsBelow, IsDamagedNode, MayHave, NamesNode, SumsUp}
use Rattle.zst_tree.specs.declared.tree.ObjSet.{ObjSet}
use Rattle.zst_objset.specs.declared.fault.ObjFault.{ObjFault}
use Rattle.zst_objset.specs.declared.fault.ObjFault.TheVariants as faults

-- what is so of a damage: of the sector, the sums that are stated and those that are found
abbrev pub DamageFact : Type 1
DamageFact = ℕ → List ℕ → List ℕ → Type 0

-- what the first tells as damaged the second tells
abbrev pub TellsWithin : DamageFact → DamageFact → Type 0
TellsWithin fewer more = (sector : ℕ) (stated found : List ℕ) → fewer sector stated found → more sector stated found

-- it is so of the damage that a fault tells
abbrev pub IfDamage : BlockFault → DamageFact → Type 0
IfDamage (blocks.Damaged sector stated found) P = P sector stated found
IfDamage (blocks.Full need largest) P = Unit {0}
IfDamage blocks.DiskFault P = Unit {0}

-- and of that which a call on blocks tells
abbrev pub IfDamaged : {T : Type 0} → Result T BlockFault → DamageFact → Type 0
IfDamaged (Ok value) P = Unit {0}
IfDamaged (Err fault) P = IfDamage fault P

-- and of that which a call on an object set tells
abbrev pub IfSetDamaged : {T : Type 0} → Result T ObjFault → DamageFact → Type 0
IfSetDamaged (Ok value) P = Unit {0}
IfSetDamaged (Err (faults.CannotApply fault)) P = Unit {0}
IfSetDamaged (Err (faults.Redacted object block)) P = Unit {0}
IfSetDamaged (Err (faults.Limit which number)) P = Unit {0}
IfSetDamaged (Err (faults.Block fault)) P = IfDamage fault P

-- damage is told of a pointer: what stands there in one of these images has other sums, or the pointer is wrong where it stands, and then both sums are told alike
pub record IsToldOf (images : List ℕ → Type 0) (size : ℕ) (wrong : Type 0) (ptr : Ptr) (sector : ℕ) (stated found : List ℕ) : Type 0 where
  pub sector_is : sector ≡ ptr.sector
  pub stated_is : stated ≡ parts_of ptr.sum
  pub found_is : ((image : List ℕ) × images image × IsDamage image size ptr found) ⊎ ((found ≡ stated) × wrong)

-- at a place of a block stands this slot
pub record HasSlot (bytes : List ℕ) (place : ℕ) (slot : Slot) : Type 0 where
  pub fits : SlotFits slot
  pub spelled : bytes_at bytes (512 * place) 512 ≡ slot_bytes slot

-- at one of the sixteen places of a block stands no slot
pub record LacksSlot (bytes : List ℕ) : Type 0 where
  pub place : ℕ
  pub under : place < 16
  pub none : (slot : Slot) → ¬ HasSlot bytes place slot

-- at each of them stands one
abbrev pub HasAllSlots : List ℕ → Type 0
HasAllSlots bytes = (place : ℕ) → place < 16 → (slot : Slot) × HasSlot bytes place slot

-- a block is no leaf of dnodes, which this pointer had to name: both sums of it are told alike
pub record TellsLacking (bytes : List ℕ) (leaf : Ptr) (sector : ℕ) (stated found : List ℕ) : Type 0 where
  pub sector_is : sector ≡ leaf.sector
  pub stated_is : stated ≡ parts_of leaf.sum
  pub found_is : found ≡ stated
  pub lacks : LacksSlot bytes

-- a pointer is wrong for a leaf of dnodes: by its length, or since some block that may stand there lacks a slot
abbrev pub IsNoLeaf : (List ℕ → Type 0) → Ptr → Type 0
IsNoLeaf images leaf = (leaf.length ≢ 8192) ⊎ ((bytes : List ℕ) × MayHave images leaf bytes × LacksSlot bytes)

-- the block of a leaf of dnodes is damaged; a hole has none
pub record IsDamagedLeaf (images : List ℕ → Type 0) (size : ℕ) (leaf : Ptr) (sector : ℕ) (stated found : List ℕ) : Type 0 where
  pub some : leaf.kind ≢ 0
  pub told : IsToldOf images size (IsNoLeaf images leaf) leaf sector stated found

-- a set of more than 7 levels: both sums of its root are told alike
pub record IsTooTall (set : ObjSet) (sector : ℕ) (stated found : List ℕ) : Type 0 where
  pub tall : 7 < set.tree.levels
  pub sector_is : sector ≡ set.tree.root.sector
  pub stated_is : stated ≡ parts_of set.tree.root.sum
  pub found_is : found ≡ stated

-- a leaf of dnodes that hangs below the root of the set's tree
pub record HasDamagedLeaf (images : List ℕ → Type 0) (size : ℕ) (set : ObjSet) (sector : ℕ) (stated found : List ℕ) : Type 0 where
  pub leaf : Ptr
  pub hangs : HangsBelow (MayHave images) set.tree.levels set.tree.root leaf
  pub damaged : IsDamagedLeaf images size leaf sector stated found

-- what a call may tell that looks at slots or changes them: too many levels, a node of the set's tree, or a leaf of dnodes
abbrev pub IsDamagedSet : (List ℕ → Type 0) → ℕ → ObjSet → DamageFact
IsDamagedSet images size set sector stated found =
    IsTooTall set sector stated found
    ⊎ (IsDamagedNode images size NamesNode set.tree.levels set.tree.root sector stated found
    ⊎ HasDamagedLeaf images size set sector stated found)

-- what may be told as damaged of the second set, among the second images, may be told of the first
abbrev pub IsSetWithin : (List ℕ → Type 0) → ℕ → ObjSet → (List ℕ → Type 0) → ObjSet → Type 0
IsSetWithin images size set fewer made = (sector : ℕ) (stated found : List ℕ) → IsDamagedSet fewer size made sector stated found → IsDamagedSet images size set sector stated found

-- a dnode may stand in the set: in a slot of a leaf that hangs below the root of its tree
pub record StandsIn (images : List ℕ → Type 0) (set : ObjSet) (dnode : Dnode) : Type 0 where
  pub leaf : Ptr
  pub some : leaf.kind ≢ 0
  pub hangs : HangsBelow (MayHave images) set.tree.levels set.tree.root leaf
  pub bytes : List ℕ
  pub there : MayHave images leaf bytes
  pub place : ℕ
  pub under : place < 16
  pub slot : HasSlot bytes place (There dnode)

-- a dnode that may stand in the second set, among the second images, may stand in the first, or was put there
abbrev pub StandsWithin : (Dnode → Type 0) → (List ℕ → Type 0) → ObjSet → (List ℕ → Type 0) → ObjSet → Type 0
StandsWithin Put images set fewer made = (dnode : Dnode) → StandsIn fewer made dnode → StandsIn images set dnode ⊎ Put dnode

-- a slot's dnode may
abbrev pub SlotStands : (List ℕ → Type 0) → ObjSet → Slot → Type 0
SlotStands images set (Absent date) = Unit {0}
SlotStands images set (There dnode) = StandsIn images set dnode

-- a node of the tree of an object that may stand in the set
pub record HasDamagedTree (images : List ℕ → Type 0) (size : ℕ) (right : ℕ → Ptr → Type 0) (set : ObjSet) (sector : ℕ) (stated found : List ℕ) : Type 0 where
  pub dnode : Dnode
  pub stands : StandsIn images set dnode
  pub damaged : IsDamagedNode images size right dnode.levels dnode.root sector stated found

-- what a call may tell that also looks at the tree of an object or changes it
abbrev pub IsDamagedObject : (List ℕ → Type 0) → ℕ → (ℕ → Ptr → Type 0) → ObjSet → DamageFact
IsDamagedObject images size right set sector stated found = IsDamagedSet images size set sector stated found ⊎ HasDamagedTree images size right set sector stated found

-- what may be told as damaged of the second set and of the trees of its objects, among the second images, may be told of the first
abbrev pub AreTreesWithin : (List ℕ → Type 0) → ℕ → ObjSet → (List ℕ → Type 0) → ObjSet → Type 0
AreTreesWithin images size set fewer made = TellsWithin (IsDamagedObject fewer size (SumsUp fewer) made) (IsDamagedObject images size (SumsUp images) set)

-- a pointer is wrong for data of so many bytes
abbrev pub IsNoData : ℕ → Ptr → Type 0
IsNoData count ptr = (ptr.kind ≢ 1) ⊎ (ptr.length ≢ count)

-- the data of an index, of so many bytes, is damaged; a hole has none, nor has a redacted block
pub record IsDamagedData (images : List ℕ → Type 0) (size count : ℕ) (ptr : Ptr) (sector : ℕ) (stated found : List ℕ) : Type 0 where
  pub some : is_flat ptr ≡ false
  pub told : IsToldOf images size (IsNoData count ptr) ptr sector stated found

-- a block that hangs below the root of the tree of an object that may stand in the set
pub record HasDamagedData (images : List ℕ → Type 0) (size count : ℕ) (set : ObjSet) (sector : ℕ) (stated found : List ℕ) : Type 0 where
  pub dnode : Dnode
  pub stands : StandsIn images set dnode
  pub ptr : Ptr
  pub hangs : HangsBelow (MayHave images) dnode.levels dnode.root ptr
  pub damaged : IsDamagedData images size count ptr sector stated found

-- what a call may tell that also reads a block of an object, of so many bytes
abbrev pub IsDamagedBlock : (List ℕ → Type 0) → ℕ → ℕ → ObjSet → DamageFact
IsDamagedBlock images size count set sector stated found = IsDamagedObject images size NamesNode set sector stated found ⊎ HasDamagedData images size count set sector stated found

-- sixteen absent slots stand in a block
abbrev pub AreAbsent : List ℕ → Type 0
AreAbsent bytes = (place : ℕ) → place < 16 → (date : ℕ) × HasSlot bytes place (Absent date)

-- what a pointer has in place of a leaf: for a hole absent slots, and else its block
abbrev pub IsLoaded : (List ℕ → Type 0) → Ptr → List ℕ → Type 0
IsLoaded images leaf bytes = ((leaf.kind ≡ 0) × AreAbsent bytes) ⊎ ((leaf.kind ≢ 0) × MayHave images leaf bytes)

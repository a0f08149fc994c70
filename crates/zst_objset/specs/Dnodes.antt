-- What a dnode says of an object, over the blocks that are there.
use Rattle.std.specs.Prelude.{◌≡◌, ℕ, ◌<◌, Bool, true, false, List, take, Option, Some, None}
use Rattle.zst_block.specs.declared.ptr.Ptr.{Ptr}
use Rattle.zst_dnode.specs.declared.dnode.Dnode.{Dnode}
use Rattle.zst_dnode.specs.declared.slot.Slot.{Slot}
use Rattle.zst_dnode.specs.declared.slot.Slot.TheVariants.{Absent, There}
use Rattle.zst_model.specs.states.State.{Block, Hole, Redacted, Data, Object, end_of, index_bound}
use Rattle.zst_model.specs.sends.Inclusion.{Pairs}
use Rattle.zst_model.specs.states.DatedState.{DatedState}
use Rattle.zst_tree.specs.Indices.{Blocks, Map, TreeIs}
use Rattle.zst_tree.specs.declared.tree.Tree.{Tree}

-- the tree of an object's blocks
abbrev pub tree_of : Dnode → Tree
tree_of dnode = record { levels = dnode.levels; past = dnode.past; root = dnode.root }

-- a pointer stands for this block: a hole, a redacted block, or the data that it names
abbrev pub BlockIs : Blocks → Ptr → Block → Type 0
BlockIs has ptr Hole = ptr.kind ≡ 0
BlockIs has ptr Redacted = ptr.kind ≡ 2
BlockIs has ptr (Data bytes) = (ptr.kind ≡ 1) × has ptr bytes

-- a pointer stands for this spill: none, or the block that it names
abbrev pub SpillIs : Blocks → Ptr → Option (List ℕ) → Type 0
SpillIs has ptr None = ptr.kind ≡ 0
SpillIs has ptr (Some bytes) = (ptr.kind ≡ 1) × has ptr bytes

-- a block that isn't read may have any bytes
abbrev pub Unread : Blocks
Unread ptr bytes = Unit {0}

abbrev pub read_unless : Bool → Blocks → Blocks
read_unless true has = Unread
read_unless false has = has

-- the data of all pairs but these is read
abbrev pub outside : Pairs → Blocks → ℕ → ℕ → Blocks
outside pairs has k i = read_unless (pairs k i) has

-- a dnode is of this object with these dates; the map of its indices has the blocks and their dates, where `reads` says which data stand
pub record ObjectIn (has : Blocks) (reads : ℕ → Blocks) (dnode : Dnode) (object : Object) (date : ℕ) (dates : ℕ → ℕ) (map : Map) : Type 0 where
  pub type_is : dnode.type_ ≡ object.attr.type_
  pub bonus_type_is : dnode.bonus_type ≡ object.attr.bonus_type
  pub size_is : dnode.block_size ≡ object.attr.block_size
  pub bonus_is : object.attr.bonus ≡ take dnode.bonus_len dnode.bonus
  pub date_is : dnode.date ≡ date
  pub end_is : dnode.end ≡ end_of object
  pub spill_is : SpillIs has dnode.spill object.attr.spill
  pub tree : TreeIs has (tree_of dnode) map
  pub blocks : (i : ℕ) → i < index_bound → BlockIs (reads i) (map i) (object.blocks i)
  pub index_dates : (i : ℕ) → i < index_bound → (map i).number ≡ dates i

-- so it is where all data are read
abbrev pub ObjectIs : Blocks → Dnode → Object → ℕ → (ℕ → ℕ) → Map → Type 0
ObjectIs has dnode object date dates map = ObjectIn has (λ i. has) dnode object date dates map

-- what is found at a number is what the state has there
abbrev pub DnodeAtIn : Blocks → (ℕ → Blocks) → Option Object → ℕ → (ℕ → ℕ) → Option Dnode → Type 0
DnodeAtIn has reads None date dates None = Unit {0}
DnodeAtIn has reads None date dates (Some dnode) = ⊥
DnodeAtIn has reads (Some object) date dates None = ⊥
DnodeAtIn has reads (Some object) date dates (Some dnode) = (map : Map) × ObjectIn has reads dnode object date dates map

abbrev pub DnodeAt : Blocks → Option Object → ℕ → (ℕ → ℕ) → Option Dnode → Type 0
DnodeAt has found date dates dnode = DnodeAtIn has (λ i. has) found date dates dnode

-- a dnode, or none, is that of what the state has at a number
abbrev pub DnodeIn : Blocks → (ℕ → ℕ → Blocks) → DatedState → ℕ → Option Dnode → Type 0
DnodeIn has reads snap k found = DnodeAtIn has (reads k) (snap.state k) (snap.number_date k) (snap.index_date k) found

abbrev pub DnodeIs : Blocks → DatedState → ℕ → Option Dnode → Type 0
DnodeIs has snap k found = DnodeIn has (λ k i. has) snap k found

-- nothing is at a number, and its indices have its date
pub record IsAbsent (snap : DatedState) (k date : ℕ) : Type 0 where
  pub none : snap.state k ≡ None
  pub date_is : snap.number_date k ≡ date
  pub dates : (i : ℕ) → i < index_bound → snap.index_date k i ≡ date

-- an object is at a number, and a dnode is that object's
pub record IsThereIn (has : Blocks) (reads : ℕ → ℕ → Blocks) (snap : DatedState) (k : ℕ) (dnode : Dnode) : Type 0 where
  pub object : Object
  pub there : snap.state k ≡ Some object
  pub map : Map
  pub is : ObjectIn has (reads k) dnode object (snap.number_date k) (snap.index_date k) map

abbrev pub IsThere : Blocks → DatedState → ℕ → Dnode → Type 0
IsThere has snap k dnode = IsThereIn has (λ k i. has) snap k dnode

-- what a slot says of a number
abbrev pub SlotIn : Blocks → (ℕ → ℕ → Blocks) → DatedState → ℕ → Slot → Type 0
SlotIn has reads snap k (Absent date) = IsAbsent snap k date
SlotIn has reads snap k (There dnode) = IsThereIn has reads snap k dnode

abbrev pub SlotIs : Blocks → DatedState → ℕ → Slot → Type 0
SlotIs has snap k slot = SlotIn has (λ k i. has) snap k slot

-- A set that holds a state holds it over more blocks too, and where fewer of its data are read.
use Rattle.std.specs.Prelude.{Option, Some, None}
use Rattle.std.proofs.Common.{inl, inr, ℕ, ◌+◌, ◌*◌, Bool, true, false, List}
use Rattle.zst_block.specs.declared.ptr.Ptr.{Ptr}
use Rattle.zst_dnode.specs.declared.dnode.Dnode.{Dnode}
use Rattle.zst_dnode.specs.declared.slot.Slot.{Slot}
use Rattle.zst_dnode.specs.declared.slot.Slot.TheVariants.{Absent, There}
use Rattle.zst_model.specs.sends.Inclusion.{Pairs}
use Rattle.zst_model.specs.states.State.{Block, Hole, Redacted, Data, Object}
use Rattle.zst_model.specs.states.DatedState.{DatedState}
use Rattle.zst_tree.specs.Indices.{Blocks, Map}
use Rattle.zst_tree.proofs.IndicesLaws.{TreeIs-grows}
use Rattle.zst_tree.specs.declared.tree.ObjSet.{ObjSet}
use Rattle.zst_objset.specs.Dnodes.{BlockIs, ObjectIn, SlotIn, SpillIs, outside, read_unless, tree_of}
use Rattle.zst_objset.specs.Sets.{AreSlotsIn, LeafIn, SetHolds, SetHoldsBut, SetIn}
use Rattle.zst_objset.specs.TightSets.{SetIsTight, SetIsTightIn}
use Rattle.zst_objset.proofs.SetGrowth.{NamesSlots-grows}

block_on : (has more : Blocks) → ((ptr : Ptr) (bytes : List ℕ) → has ptr bytes → more ptr bytes) → (ptr : Ptr) (block : Block) → BlockIs has ptr block → BlockIs more ptr block
block_on has more up ptr Hole is = is
block_on has more up ptr Redacted is = is
block_on has more up ptr (Data bytes) is = (is.0, up ptr bytes is.1)

spill_on : (has more : Blocks) → ((ptr : Ptr) (bytes : List ℕ) → has ptr bytes → more ptr bytes) → (ptr : Ptr) (spill : Option (List ℕ)) → SpillIs has ptr spill → SpillIs more ptr spill
spill_on has more up ptr None is = is
spill_on has more up ptr (Some bytes) is = (is.0, up ptr bytes is.1)

module _ (has more : Blocks) (up : (ptr : Ptr) (bytes : List ℕ) → has ptr bytes → more ptr bytes)
    (reads later : ℕ → ℕ → Blocks) (on : (k i : ℕ) (ptr : Ptr) (bytes : List ℕ) → reads k i ptr bytes → later k i ptr bytes) where
  object_on : (k : ℕ) (dnode : Dnode) (object : Object) (date : ℕ) (dates : ℕ → ℕ) (map : Map) → ObjectIn has (reads k) dnode object date dates map → ObjectIn more (later k) dnode object date dates map
  object_on k dnode object date dates map is = record {
    type_is = is.type_is;
    bonus_type_is = is.bonus_type_is;
    size_is = is.size_is;
    bonus_is = is.bonus_is;
    date_is = is.date_is;
    end_is = is.end_is;
    spill_is = spill_on has more up dnode.spill object.attr.spill is.spill_is;
    tree = TreeIs-grows has more up (tree_of dnode) map is.tree;
    blocks = λ i less. block_on (reads k i) (later k i) (on k i) (map i) (object.blocks i) (is.blocks i less);
    index_dates = is.index_dates;
  }

  slot_on : (snap : DatedState) (k : ℕ) (slot : Slot) → SlotIn has reads snap k slot → SlotIn more later snap k slot
  slot_on snap k (Absent date) is = is
  slot_on snap k (There dnode) is =
      record { object = is.object; there = is.there; map = is.map; is = object_on k dnode is.object (snap.number_date k) (snap.index_date k) is.map is.is }

  slots_on : (snap : DatedState) (j : ℕ) (slots : ℕ → Slot) → AreSlotsIn has reads snap j slots → AreSlotsIn more later snap j slots
  slots_on snap j slots are = record { numbers = λ s less number. slot_on snap (16 * j + s) (slots s) (are.numbers s less number); no_number = are.no_number }

  leaf_on : (snap : DatedState) (j : ℕ) (ptr : Ptr) → LeafIn has reads snap j ptr → LeafIn more later snap j ptr
  leaf_on snap j ptr (inl none) = inl none
  leaf_on snap j ptr (inr leaf) = inr (record {
    bytes = leaf.bytes;
    slots = leaf.slots;
    names = NamesSlots-grows has more up ptr leaf.bytes leaf.slots leaf.names;
    slots_are = slots_on snap j leaf.slots leaf.slots_are;
  })

  set_on : (set : ObjSet) (snap : DatedState) → SetIn has reads set snap → SetIn more later set snap
  set_on set snap holds = record {
    lawful = holds.lawful;
    bounded = holds.bounded;
    levels = holds.levels;
    map = holds.map;
    tree = TreeIs-grows has more up set.tree holds.map holds.tree;
    leaves = λ j less. leaf_on snap j (holds.map j) (holds.leaves j less);
  }

read_on : (has more : Blocks) → ((ptr : Ptr) (bytes : List ℕ) → has ptr bytes → more ptr bytes) → (b : Bool) (ptr : Ptr) (bytes : List ℕ) → read_unless b has ptr bytes → read_unless b more ptr bytes
read_on has more up true ptr bytes is = tt
read_on has more up false ptr bytes is = up ptr bytes is

unread_on : (has : Blocks) (b : Bool) (ptr : Ptr) (bytes : List ℕ) → has ptr bytes → read_unless b has ptr bytes
unread_on has true ptr bytes is = tt
unread_on has false ptr bytes is = is

-- what a set holds but for some pairs' bytes it holds as long as its blocks are there
pub but_grows : (has more : Blocks) → ((ptr : Ptr) (bytes : List ℕ) → has ptr bytes → more ptr bytes) → (pairs : Pairs) (set : ObjSet) (snap : DatedState)
    → SetHoldsBut has pairs set snap → SetHoldsBut more pairs set snap
but_grows has more up pairs set snap holds = set_on has more up (outside pairs has) (outside pairs more) (λ k i. read_on has more up (pairs k i)) set snap holds

-- and what it holds it holds but for any pairs' bytes
pub holds_but : (has : Blocks) (pairs : Pairs) (set : ObjSet) (snap : DatedState) → SetHolds has set snap → SetHoldsBut has pairs set snap
holds_but has pairs set snap holds = set_on has has (λ ptr bytes is. is) (λ k i. has) (outside pairs has) (λ k i. unread_on has (pairs k i)) set snap holds

pub tight_but : (has : Blocks) (pairs : Pairs) (set : ObjSet) (snap : DatedState) → SetIsTight has set snap → SetIsTightIn has (outside pairs has) set snap
tight_but has pairs set snap is = record {
  holds = record {
    lawful = is.holds.lawful;
    bounded = is.holds.bounded;
    levels = is.holds.levels;
    map = is.holds.map;
    tree = is.holds.tree;
    leaves = λ j less. leaf_on has has (λ ptr bytes there. there) (λ k i. has) (outside pairs has) (λ k i. unread_on has (pairs k i)) snap j (is.holds.map j) (is.holds.leaves j less);
  };
  tight = is.tight;
  tells = is.tells;
}

-- What a set holds it holds as long as all blocks are there.
use Rattle.std.specs.Prelude.{Option, Some, None}
use Rattle.std.proofs.Common.{inl, inr, ℕ, ◌+◌, ◌*◌, List}
use Rattle.zst_block.specs.declared.ptr.Ptr.{Ptr}
use Rattle.zst_dnode.specs.declared.dnode.Dnode.{Dnode}
use Rattle.zst_dnode.specs.declared.slot.Slot.{Slot}
use Rattle.zst_dnode.specs.declared.slot.Slot.TheVariants.{Absent, There}
use Rattle.zst_model.specs.states.State.{Block, Hole, Redacted, Data, Object}
use Rattle.zst_model.specs.states.DatedState.{DatedState}
use Rattle.zst_tree.specs.Indices.{Blocks, Map}
use Rattle.zst_tree.proofs.IndicesLaws.{TreeIs-grows}
use Rattle.zst_tree.specs.declared.tree.ObjSet.{ObjSet}
use Rattle.zst_objset.specs.Dnodes.{BlockIs, IsThere, SpillIs, SlotIs, ObjectIs, tree_of}
use Rattle.zst_objset.specs.Sets.{AreSlots, LeafIs, NamesSlots, SetHolds}

module _ (has more : Blocks) (up : (ptr : Ptr) (bytes : List ℕ) → has ptr bytes → more ptr bytes) where
  BlockIs-grows : (ptr : Ptr) (block : Block) → BlockIs has ptr block → BlockIs more ptr block
  BlockIs-grows ptr Hole is = is
  BlockIs-grows ptr Redacted is = is
  BlockIs-grows ptr (Data bytes) is = (is.0, up ptr bytes is.1)

  SpillIs-grows : (ptr : Ptr) (spill : Option (List ℕ)) → SpillIs has ptr spill → SpillIs more ptr spill
  SpillIs-grows ptr None is = is
  SpillIs-grows ptr (Some bytes) is = (is.0, up ptr bytes is.1)

  pub ObjectIs-grows : (dnode : Dnode) (object : Object) (date : ℕ) (dates : ℕ → ℕ) (map : Map) → ObjectIs has dnode object date dates map → ObjectIs more dnode object date dates map
  ObjectIs-grows dnode object date dates map is = record {
    type_is = is.type_is;
    bonus_type_is = is.bonus_type_is;
    size_is = is.size_is;
    bonus_is = is.bonus_is;
    date_is = is.date_is;
    end_is = is.end_is;
    spill_is = SpillIs-grows dnode.spill object.attr.spill is.spill_is;
    tree = TreeIs-grows has more up (tree_of dnode) map is.tree;
    blocks = λ i less. BlockIs-grows (map i) (object.blocks i) (is.blocks i less);
    index_dates = is.index_dates;
  }

  pub IsThere-grows : (snap : DatedState) (k : ℕ) (dnode : Dnode) → IsThere has snap k dnode → IsThere more snap k dnode
  IsThere-grows snap k dnode is = record { object = is.object; there = is.there; map = is.map; is = ObjectIs-grows dnode is.object (snap.number_date k) (snap.index_date k) is.map is.is }

  pub SlotIs-grows : (snap : DatedState) (k : ℕ) (slot : Slot) → SlotIs has snap k slot → SlotIs more snap k slot
  SlotIs-grows snap k (Absent date) is = is
  SlotIs-grows snap k (There dnode) is = record { object = is.object; there = is.there; map = is.map; is = ObjectIs-grows dnode is.object (snap.number_date k) (snap.index_date k) is.map is.is }

  pub AreSlots-grows : (snap : DatedState) (j : ℕ) (slots : ℕ → Slot) → AreSlots has snap j slots → AreSlots more snap j slots
  AreSlots-grows snap j slots are = record { numbers = λ s less number. SlotIs-grows snap (16 * j + s) (slots s) (are.numbers s less number); no_number = are.no_number }

  pub NamesSlots-grows : (ptr : Ptr) (bytes : List ℕ) (slots : ℕ → Slot) → NamesSlots has ptr bytes slots → NamesSlots more ptr bytes slots
  NamesSlots-grows ptr bytes slots names = record { there = up ptr bytes names.there; kind = names.kind; level = names.level; number = names.number; spells = names.spells }

  pub LeafIs-grows : (snap : DatedState) (j : ℕ) (ptr : Ptr) → LeafIs has snap j ptr → LeafIs more snap j ptr
  LeafIs-grows snap j ptr (inl none) = inl none
  LeafIs-grows snap j ptr (inr leaf) = inr (record {
    bytes = leaf.bytes;
    slots = leaf.slots;
    names = NamesSlots-grows ptr leaf.bytes leaf.slots leaf.names;
    slots_are = AreSlots-grows snap j leaf.slots leaf.slots_are;
  })

  pub SetHolds-grows : (set : ObjSet) (snap : DatedState) → SetHolds has set snap → SetHolds more set snap
  SetHolds-grows set snap holds = record {
    lawful = holds.lawful;
    bounded = holds.bounded;
    levels = holds.levels;
    map = holds.map;
    tree = TreeIs-grows has more up set.tree holds.map holds.tree;
    leaves = λ j less. LeafIs-grows snap j (holds.map j) (holds.leaves j less);
  }

-- The data of the objects of a set that holds a state stand: a leaf that is read has an index that an object may have.
use Rattle.std.proofs.Common.{◌≡◌, ◌⊎◌, inl, inr, ℕ, zero, suc, ◌+◌, ◌*◌, ◌^◌, ◌<◌, ◌≤◌, Bool, true, false, nat_lt, refl, sym, ◌∙◌, subst, arith}
use Rattle.std.specs.Prelude.{List, Option, None, Some, if◌then◌else◌}
use Rattle.std.proofs.Math.Nat.{mul-le-mul_right}
use Rattle.std.proofs.lemmas.Bool.{and_cases, cases_lt, ltb-false}
use Rattle.zst_space.specs.FreeSectors.{FreeSectors}
use Rattle.zst_block.specs.Blocks.{Has}
use Rattle.zst_block.specs.Ptr.{is_flat}
use Rattle.zst_block.specs.declared.ptr.Ptr.{Ptr}
use Rattle.zst_block.proofs.BlocksLaws.{IsBlock-length}
use Rattle.zst_dnode.specs.Slot.{SlotFits}
use Rattle.zst_dnode.specs.declared.dnode.Dnode.{Dnode}
use Rattle.zst_dnode.specs.declared.slot.Slot.{Slot}
use Rattle.zst_dnode.specs.declared.slot.Slot.TheVariants.{Absent, There}
use Rattle.zst_model.specs.states.DatedState.{DatedState}
use Rattle.zst_model.specs.states.State.{Block, Hole, Redacted, Data, BlockFits, IsObject, IsObjectOrNone, IsState, Object, index_bound, is_number}
use Rattle.zst_objset.specs.Dnodes.{BlockIs, IsThere, SlotIs, SpillIs}
use Rattle.zst_objset.specs.Sets.{IsLeaf, LeafIs, SetHolds}
use Rattle.zst_tree.specs.Damage.{NamesNode}
use Rattle.zst_tree.specs.Indices.{IsNode, Map, Subtree, child, span}
use Rattle.zst_tree.specs.declared.tree.ObjSet.{ObjSet}
use Rattle.zst_tree.proofs.Span.{span-pos, span-suc, span_limit}
use Rattle.zst_tree.proofs.SubtreeCases.{kind_three_or_four}
use Rattle.zst_count.specs.PastLeaves.{is_past}
use Rattle.zst_count.specs.StandingData.{DataStand, DataStandInDnode, DataStandInLeaf, DataStandInSlot, IsDataThere}
use Rattle.zst_count.proofs.StandingData.{DataStand-unread}

-- an index below 2^43 is one that an object may have
index_under : (i : ℕ) → i < 2 ^ 43 → i < index_bound
unfolding index_bound
index_under i less = less

-- all leaves below a pointer whose first index is this one have indices that an object may have, or it is the root of a tree of 7 levels
abbrev pub IsInside : (level : ℕ) → (base : ℕ) → Type 0
IsInside level base = (base + span level ≤ 2 ^ 43) ⊎ ((level ≡ 7) × (base ≡ 0))

-- a pointer at level 6 or less has at most 2^42 leaves
pub few_leaves : (level : ℕ) → level < 7 → span level ≤ 2 ^ 42
few_leaves level less = omega (arith, span_limit (suc level) (omega arith), span-suc level)

-- so it is below the root of each tree
pub root_inside : (levels : ℕ) → levels ≤ 7 → IsInside levels 0
root_inside levels most = elim (cases_lt levels 7) [ inl less ↦ inl (omega (arith, few_leaves levels less)) | inr past ↦ inr (omega (arith, past, most), refl) ]

low_child : (level base k : ℕ) → k < 128 → base + span (suc level) ≤ 2 ^ 43 → base + k * span level + span level ≤ 2 ^ 43
low_child level base k less inside = let most : (k + 1) * span level ≤ 128 * span level = mul-le-mul_right (span level) (omega arith) in omega (arith, span-suc level, most, inside)

first_children : (level k : ℕ) → level ≡ 7 → is_past level k ≡ false → k ≤ 1
first_children level k top within = elim (and_cases (nat_lt 1 k) (nat_lt 6 level) within) [ inl few ↦ ltb-false 1 k few | inr low ↦ absurd (omega (arith, ltb-false 6 level low, top)) ]

top_child : (level base k : ℕ) → suc level ≡ 7 → base ≡ 0 → k ≤ 1 → base + k * span level + span level ≤ 2 ^ 43
top_child level base k top first few =
    let most : k * span level ≤ 1 * span level = mul-le-mul_right (span level) few in
    omega (arith, few_leaves level (omega arith), most, first)

-- and below a child that isn't past the bound
pub child_inside : (level base k : ℕ) → k < 128 → is_past (suc level) k ≡ false → IsInside (suc level) base → base + k * span level + span level ≤ 2 ^ 43
child_inside level base k less within (inl low) = low_child level base k less low
child_inside level base k less within (inr (top, first)) = top_child level base k top first (first_children (suc level) k top within)

module _ (image : List ℕ) (space : FreeSectors) where
  names_node : (level : ℕ) (ptr : Ptr) (bytes : List ℕ) → IsNode (Has image space) level ptr bytes → NamesNode level ptr
  names_node level ptr bytes node = record {
    kind = kind_three_or_four bytes ptr.kind node.kind_is;
    level_is = node.level_is;
    length_is = sym (IsBlock-length image ptr bytes node.there.block) ∙ node.pointers.long;
  }

  -- a pointer has no block, or data of so many bytes that are there
  abbrev DataOrNone : ℕ → Ptr → Type 0
  DataOrNone count ptr = (is_flat ptr ≡ true) ⊎ IsDataThere (Has image space) count ptr

  -- so it is where it stands for a block of an object, or for a spill
  block_there : (count : ℕ) (ptr : Ptr) (block : Block) → BlockFits count block → BlockIs (Has image space) ptr block → DataOrNone count ptr
  block_there count ptr Hole fits is = inl (rw is refl)
  block_there count ptr Redacted fits is = inl (rw is refl)
  block_there count ptr (Data bytes) fits is = inr (record { kind = is.0; size = sym (IsBlock-length image ptr bytes is.1.block) ∙ fits.0; bytes = bytes; there = is.1 })

  spill_there : (ptr : Ptr) (spill : Option (List ℕ)) → SpillIs (Has image space) ptr spill → DataStand (Has image space) (Some ptr.length) 0 ptr
  unfolding DataStand
  spill_there ptr None is = inl (rw is refl)
  spill_there ptr (Some bytes) is = inr (record { kind = is.0; size = refl; bytes = bytes; there = is.1 })

  -- the nodes of the tree of a map stand
  nodes_below : (level : ℕ) (ptr : Ptr) (base : ℕ) (map : Map) → Subtree (Has image space) level ptr base map → DataStand (Has image space) None level ptr
  unfolding Subtree DataStand
  nodes_below zero ptr base map is = inr tt
  nodes_below (suc level) ptr base map (inl flat) = inl flat.1
  nodes_below (suc level) ptr base map (inr (bytes, node, below)) =
      inr (
        names_node (suc level) ptr bytes node,
        (bytes, node.there, λ k less. DataStand-unread (Has image space) (suc level) k level (child bytes k) (nodes_below level (child bytes k) (base + k * span level) map (below k less))),
      )

  -- past the bound the nodes stand, and before it the leaves too
  unless_past : (count level : ℕ) (ptr : Ptr) (past : Bool) → DataStand (Has image space) None level ptr → (past ≡ false → DataStand (Has image space) (Some count) level ptr) → DataStand (Has image space) (if past then None else Some count) level ptr
  unless_past count level ptr true unread there = unread
  unless_past count level ptr false unread there = there refl

  -- the data below a pointer stand where the leaf of each index that an object may have does
  data_below : (count level : ℕ) (ptr : Ptr) (base : ℕ) (map : Map) → IsInside level base → Subtree (Has image space) level ptr base map → ((i : ℕ) → i < 2 ^ 43 → DataOrNone count (map i)) → DataStand (Has image space) (Some count) level ptr
  unfolding Subtree DataStand
  data_below count zero ptr base map (inl low) is leaves = subst (DataOrNone count) is.1 (leaves base (omega (arith, low, span-pos 0)))
  data_below count zero ptr base map (inr top) is leaves = absurd (omega (arith, top.0))
  data_below count (suc level) ptr base map inside (inl flat) leaves = inl flat.1
  data_below count (suc level) ptr base map inside (inr (bytes, node, below)) leaves =
      inr (
        names_node (suc level) ptr bytes node,
        (
          bytes,
          node.there,
          λ k less.
              unless_past count level (child bytes k) (is_past (suc level) k) (nodes_below level (child bytes k) (base + k * span level) map (below k less))
              (λ within. data_below count level (child bytes k) (base + k * span level) map (inl (child_inside level base k less within inside)) (below k less) leaves),
        ),
      )

  lawful_object : (snap : DatedState) (k : ℕ) (object : Object) → IsState snap.state → snap.state k ≡ Some object → IsObject object
  lawful_object snap k object lawful there = let is : IsObjectOrNone (snap.state k) = lawful.objects k in let kept : IsObjectOrNone (Some object) = rw there at is in kept

  -- the data of an object of a state stand
  pub object_stands : (snap : DatedState) (k : ℕ) (dnode : Dnode) → dnode.levels ≤ 7 → IsState snap.state → IsThere (Has image space) snap k dnode → DataStandInDnode (Has image space) dnode
  object_stands snap k dnode low lawful there =
      let object = there.object in
      let is = there.is in
      let fits = (lawful_object snap k object lawful there.there).fits in
      let leaf : (i : ℕ) → i < 2 ^ 43 → DataOrNone dnode.block_size (is.tree.whole i) = λ i less.
      subst (λ (n : ℕ). DataOrNone n (is.tree.whole i)) (sym is.size_is)
      (subst (DataOrNone object.attr.block_size) (is.tree.agrees i (omega arith)) (block_there object.attr.block_size (there.map i) (object.blocks i) (fits i) (is.blocks i (index_under i less)))) in
      (data_below dnode.block_size dnode.levels dnode.root 0 is.tree.whole (root_inside dnode.levels low) is.tree.stands.below leaf, spill_there dnode.spill object.attr.spill is.spill_is)

  slot_stands : (snap : DatedState) (k : ℕ) (slot : Slot) → SlotFits slot → IsState snap.state → SlotIs (Has image space) snap k slot → DataStandInSlot (Has image space) slot
  slot_stands snap k (Absent date) fits lawful is = tt
  slot_stands snap k (There dnode) fits lawful is = object_stands snap k dnode fits.levels lawful is

  absent_stands : (slot : Slot) → slot ≡ Absent 0 → DataStandInSlot (Has image space) slot
  absent_stands slot is = rw is tt

  -- so do those of the objects in a leaf
  pub leaf_stands : (snap : DatedState) (j : ℕ) (ptr : Ptr) → IsState snap.state → IsLeaf (Has image space) snap j ptr → DataStandInLeaf (Has image space) ptr
  leaf_stands snap j ptr lawful leaf = record {
    bytes = leaf.bytes;
    there = leaf.names.there;
    long = leaf.names.spells.long;
    slots = λ place under. (leaf.slots place, record { fits = leaf.names.spells.fits place under; spelled = leaf.names.spells.spelled place under }, stands place under (is_number (16 * j + place)) refl);
  }
    where
      stands : (place : ℕ) → place < 16 → (test : Bool) → is_number (16 * j + place) ≡ test → DataStandInSlot (Has image space) (leaf.slots place)
      stands place under true number = slot_stands snap (16 * j + place) (leaf.slots place) (leaf.names.spells.fits place under) lawful (leaf.slots_are.numbers place under number)
      stands place under false other = absent_stands (leaf.slots place) (leaf.slots_are.no_number place under other)

  -- in a set that holds a state a pointer at an index has no block, or is a leaf whose objects' data stand
  pub leaf_or_none : (snap : DatedState) (j : ℕ) (ptr : Ptr) → IsState snap.state → LeafIs (Has image space) snap j ptr → (is_flat ptr ≡ true) ⊎ DataStandInLeaf (Has image space) ptr
  leaf_or_none snap j ptr lawful (inl hole) = inl (rw hole.kind refl)
  leaf_or_none snap j ptr lawful (inr leaf) = inr (leaf_stands snap j ptr lawful leaf)

  pub SetHolds-leaf : (set : ObjSet) (snap : DatedState) (holds : SetHolds (Has image space) set snap) (j : ℕ) → j < 2 ^ 44 → (is_flat (holds.tree.whole j) ≡ true) ⊎ DataStandInLeaf (Has image space) (holds.tree.whole j)
  SetHolds-leaf set snap holds j small = leaf_or_none snap j (holds.tree.whole j) holds.lawful (subst (LeafIs (Has image space) snap j) (holds.tree.agrees j small) (holds.leaves j small))

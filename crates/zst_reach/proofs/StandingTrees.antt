-- Which trees stand: those of maps, of texts and of sets.
use Rattle.std.proofs.Common.{◌≡◌, ◌⊎◌, inl, inr, ⊎_elim, ℕ, zero, suc, ◌+◌, ◌-◌, ◌*◌, ◌^◌, ◌<◌, ◌≤◌, Bool, true, false, List, refl, sym, ◌∙◌, subst, arith}
use Rattle.std.specs.Prelude.{Err}
use Rattle.std.proofs.Math.Nat.{mul-le-mul_right}
use Rattle.std.proofs.lemmas.Bool.{false≢true}
use Rattle.zst_space.specs.FreeSectors.{FreeSectors}
use Rattle.zst_block.specs.Blocks.{Has}
use Rattle.zst_block.specs.Ptr.{is_flat}
use Rattle.zst_block.specs.ReadAnswers.{GivesBlock}
use Rattle.zst_block.specs.declared.fault.BlockFault.{BlockFault}
use Rattle.zst_block.specs.declared.fault.BlockFault.TheVariants.{Full, Damaged, DiskFault}
use Rattle.zst_block.specs.declared.ptr.Ptr.{Ptr}
use Rattle.zst_block.proofs.BlocksLaws.{IsBlock-length}
use Rattle.zst_dnode.specs.declared.slot.Slot.{Slot}
use Rattle.zst_dnode.specs.declared.slot.Slot.TheVariants.{Absent, There}
use Rattle.zst_leaves.specs.Leaves.{HasLeaves, LeavesBelow, bytes_below, part}
use Rattle.zst_model.specs.states.DatedState.{DatedState}
use Rattle.zst_model.specs.states.State.{is_number}
use Rattle.zst_objset.specs.Dnodes.{SlotIn}
use Rattle.zst_objset.specs.Sets.{IsLeafIn, LeafIn, SetIn}
use Rattle.zst_tree.specs.Damage.{NamesNode}
use Rattle.zst_tree.specs.Indices.{Blocks, IsNoDamage, IsNode, Map, Subtree, child, span}
use Rattle.zst_tree.specs.declared.tree.ObjSet.{ObjSet}
use Rattle.zst_tree.proofs.Span.{span-pos, span-suc}
use Rattle.zst_tree.proofs.SubtreeCases.{kind_three_or_four}
use Rattle.zst_reach.specs.StandingNodes.{LeafStands, NodesStand, NodesStandInSlot, SetStands}

-- a block that is there isn't damaged
pub given_fault : (bytes read : List ℕ) (fault : BlockFault) → GivesBlock bytes read (Err fault) → IsNoDamage fault
given_fault bytes read (Full need largest) given = tt
given_fault bytes read (Damaged sector stated found) given = given
given_fault bytes read DiskFault given = tt

module _ (has : Blocks) where
  -- the node that a pointer names, and what stands below its children
  pub record NodeStands (level : ℕ) (ptr : Ptr) : Type 0 where
    pub names : NamesNode level ptr
    pub bytes : List ℕ
    pub there : has ptr bytes
    pub below : (k : ℕ) → k < 128 → NodesStand has (level - 1) (child bytes k)

  node_suc : (level : ℕ) (ptr : Ptr) → is_flat ptr ≡ false → NodesStand has (suc level) ptr → NodeStands (suc level) ptr
  unfolding NodesStand
  node_suc level ptr inner (inl flat) = absurd (false≢true (sym inner ∙ flat))
  node_suc level ptr inner (inr (names, (bytes, there, below))) =
      let same : suc level - 1 ≡ level = omega arith in
      record { names = names; bytes = bytes; there = there; below = λ k less. rw same (below k less) }

  pub node_stands : (level : ℕ) (ptr : Ptr) → 0 < level → is_flat ptr ≡ false → NodesStand has level ptr → NodeStands level ptr
  node_stands zero ptr some inner stands = absurd (omega arith)
  node_stands (suc level) ptr some inner stands = node_suc level ptr inner stands

  -- so it is in the tree of a set
  pub record NodeInSet (level : ℕ) (ptr : Ptr) (first : ℕ) : Type 0 where
    pub names : NamesNode level ptr
    pub bytes : List ℕ
    pub there : has ptr bytes
    pub below : (k : ℕ) → k < 128 → SetStands has (level - 1) (child bytes k) (first + k * span (level - 1))

  in_set_suc : (level : ℕ) (ptr : Ptr) (first : ℕ) → is_flat ptr ≡ false → SetStands has (suc level) ptr first → NodeInSet (suc level) ptr first
  unfolding SetStands
  in_set_suc level ptr first inner (inl flat) = absurd (false≢true (sym inner ∙ flat))
  in_set_suc level ptr first inner (inr (names, (bytes, there, below))) =
      let same : suc level - 1 ≡ level = omega arith in
      record { names = names; bytes = bytes; there = there; below = λ k less. rw same (below k less) }

  pub node_in_set : (level : ℕ) (ptr : Ptr) (first : ℕ) → 0 < level → is_flat ptr ≡ false → SetStands has level ptr first → NodeInSet level ptr first
  node_in_set zero ptr first some inner stands = absurd (omega arith)
  node_in_set (suc level) ptr first some inner stands = in_set_suc level ptr first inner stands

  -- and with a leaf
  leaf_zero : (ptr : Ptr) (first : ℕ) → first < 2 ^ 44 → is_flat ptr ≡ false → SetStands has 0 ptr first → LeafStands has ptr
  unfolding SetStands
  leaf_zero ptr first small inner stands = ⊎_elim (λ flat. absurd (false≢true (sym inner ∙ flat))) (λ leaf. leaf) (stands small)

  pub leaf_in_set : (level : ℕ) (ptr : Ptr) (first : ℕ) → level ≡ 0 → first < 2 ^ 44 → is_flat ptr ≡ false → SetStands has level ptr first → LeafStands has ptr
  leaf_in_set level ptr first bottom small inner stands = leaf_zero ptr first small inner (subst (λ (n : ℕ). SetStands has n ptr first) bottom stands)

  -- the nodes of a set's tree stand
  pub SetStands-nodes : (level : ℕ) (ptr : Ptr) (first : ℕ) → SetStands has level ptr first → NodesStand has level ptr
  unfolding SetStands NodesStand
  SetStands-nodes zero ptr first stands = tt
  SetStands-nodes (suc level) ptr first (inl flat) = inl flat
  SetStands-nodes (suc level) ptr first (inr (names, (bytes, there, below))) = inr (names, (bytes, there, λ k less. SetStands-nodes level (child bytes k) (first + k * span level) (below k less)))

module _ (image : List ℕ) (space : FreeSectors) where
  names_node : (level : ℕ) (ptr : Ptr) (bytes : List ℕ) → IsNode (Has image space) level ptr bytes → NamesNode level ptr
  names_node level ptr bytes node = record {
    kind = kind_three_or_four bytes ptr.kind node.kind_is;
    level_is = node.level_is;
    length_is = sym (IsBlock-length image ptr bytes node.there.block) ∙ node.pointers.long;
  }

  -- the tree of a map
  pub Subtree-nodes : (level : ℕ) (ptr : Ptr) (base : ℕ) (map : Map) → Subtree (Has image space) level ptr base map → NodesStand (Has image space) level ptr
  unfolding Subtree NodesStand
  Subtree-nodes zero ptr base map is = tt
  Subtree-nodes (suc level) ptr base map (inl flat) = inl flat.1
  Subtree-nodes (suc level) ptr base map (inr (bytes, node, below)) =
      inr (names_node (suc level) ptr bytes node, (bytes, node.there, λ k less. Subtree-nodes level (child bytes k) (base + k * span level) map (below k less)))

  -- the tree of a text
  leaves_nodes : (level : ℕ) (ptr : Ptr) (text : List ℕ) → LeavesBelow (Has image space) level ptr text → NodesStand (Has image space) level ptr
  unfolding LeavesBelow NodesStand
  leaves_nodes zero ptr text is = tt
  leaves_nodes (suc level) ptr text (inl hole) = inl (rw hole.1 refl)
  leaves_nodes (suc level) ptr text (inr (some, (node, over, parts))) =
      inr (
        record { kind = inl over.kind_is; level_is = over.level_is; length_is = sym (IsBlock-length image ptr node over.there.block) ∙ over.long },
        (node, over.there, λ k less. leaves_nodes level (child node k) (part (bytes_below level) text k) (parts k less)),
      )

  pub HasLeaves-nodes : (levels : ℕ) (root : Ptr) (text : List ℕ) → HasLeaves (Has image space) levels root text → NodesStand (Has image space) levels root
  HasLeaves-nodes levels root text is = leaves_nodes levels root text is.below

-- a set that holds a state, whatever of its data is read
module _ (image : List ℕ) (space : FreeSectors) (reads : ℕ → ℕ → Blocks) where
  -- the tree of an object in a slot
  slot_nodes : (snap : DatedState) (k : ℕ) (slot : Slot) → SlotIn (Has image space) reads snap k slot → NodesStandInSlot (Has image space) slot
  slot_nodes snap k (Absent date) is = tt
  slot_nodes snap k (There dnode) is = Subtree-nodes image space dnode.levels dnode.root 0 is.is.tree.whole is.is.tree.stands.below

  absent_nodes : (slot : Slot) → slot ≡ Absent 0 → NodesStandInSlot (Has image space) slot
  absent_nodes slot is = rw is tt

  -- a leaf of a set
  leaf_stands : (snap : DatedState) (j : ℕ) (ptr : Ptr) → IsLeafIn (Has image space) reads snap j ptr → LeafStands (Has image space) ptr
  leaf_stands snap j ptr leaf = record {
    bytes = leaf.bytes;
    there = leaf.names.there;
    long = leaf.names.spells.long;
    slots = λ place under. (leaf.slots place, record { fits = leaf.names.spells.fits place under; spelled = leaf.names.spells.spelled place under }, stands place under (is_number (16 * j + place)) refl);
  }
    where
      stands : (place : ℕ) → place < 16 → (test : Bool) → is_number (16 * j + place) ≡ test → NodesStandInSlot (Has image space) (leaf.slots place)
      stands place under true number = slot_nodes snap (16 * j + place) (leaf.slots place) (leaf.slots_are.numbers place under number)
      stands place under false other = absent_nodes (leaf.slots place) (leaf.slots_are.no_number place under other)

  leaf_or_flat : (snap : DatedState) (j : ℕ) (ptr : Ptr) → LeafIn (Has image space) reads snap j ptr → (is_flat ptr ≡ true) ⊎ LeafStands (Has image space) ptr
  leaf_or_flat snap j ptr (inl hole) = inl (rw hole.kind refl)
  leaf_or_flat snap j ptr (inr leaf) = inr (leaf_stands snap j ptr leaf)

  -- a child's indices are among those below the pointer
  within : (first k level index : ℕ) → k < 128 → index < first + k * span level + span level → index < first + span (suc level)
  within first k level index less under = let le : (k + 1) * span level ≤ 128 * span level = mul-le-mul_right (span level) (omega arith) in omega (arith, span-suc level, le, under)

  -- the tree of a set below a pointer
  set_below : (snap : DatedState) (level : ℕ) (ptr : Ptr) (first : ℕ) (map : Map) → Subtree (Has image space) level ptr first map
      → ((j : ℕ) → first ≤ j → j < first + span level → j < 2 ^ 44 → LeafIn (Has image space) reads snap j (map j)) → SetStands (Has image space) level ptr first
  unfolding Subtree SetStands
  set_below snap zero ptr first map is leaves = λ small. leaf_or_flat snap first ptr (subst (LeafIn (Has image space) reads snap first) is.1 (leaves first (omega arith) (omega (arith, span-pos 0)) small))
  set_below snap (suc level) ptr first map (inl flat) leaves = inl flat.1
  set_below snap (suc level) ptr first map (inr (bytes, node, below)) leaves =
      inr (
        names_node image space (suc level) ptr bytes node,
        (
          bytes,
          node.there,
          λ k less.
              set_below snap level (child bytes k) (first + k * span level) map (below k less)
              (λ j from under small. leaves j (omega (arith, from)) (within first k level j less under) small),
        ),
      )

  pub SetIn-stands : (set : ObjSet) (snap : DatedState) → SetIn (Has image space) reads set snap → SetStands (Has image space) set.tree.levels set.tree.root 0
  SetIn-stands set snap holds =
      set_below snap set.tree.levels set.tree.root 0 holds.tree.whole holds.tree.stands.below
      (λ j from under small. subst (LeafIn (Has image space) reads snap j) (holds.tree.agrees j small) (holds.leaves j small))

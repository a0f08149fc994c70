-- Which sets stand with their data: those that hold a state.
use Rattle.std.proofs.Common.{◌≡◌, ◌⊎◌, inl, inr, ⊎_elim, ℕ, zero, suc, ◌+◌, ◌-◌, ◌*◌, ◌^◌, ◌<◌, Bool, true, false, if◌then◌else◌, List, refl, sym, ◌∙◌, subst, arith}
use Rattle.std.specs.Prelude.{Option, None}
use Rattle.std.proofs.lemmas.Bool.{false≢true}
use Rattle.zst_space.specs.FreeSectors.{FreeSectors}
use Rattle.zst_block.specs.Blocks.{Has}
use Rattle.zst_block.specs.Ptr.{is_flat}
use Rattle.zst_block.specs.declared.ptr.Ptr.{Ptr}
use Rattle.zst_block.proofs.BlocksLaws.{IsBlock-length}
use Rattle.zst_model.specs.states.DatedState.{DatedState}
use Rattle.zst_objset.specs.Sets.{SetHolds}
use Rattle.zst_tree.specs.Damage.{NamesNode}
use Rattle.zst_tree.specs.Indices.{Blocks, IsNode, Map, Subtree, child, span}
use Rattle.zst_tree.specs.declared.tree.ObjSet.{ObjSet}
use Rattle.zst_tree.proofs.SubtreeCases.{kind_three_or_four}
use Rattle.zst_count.specs.CountedSets.{DataStandInSet, DataStandInTree}
use Rattle.zst_count.specs.StandingData.{DataStand, DataStandInLeaf}
use Rattle.zst_count.specs.PastLeaves.{is_past}
use Rattle.zst_count.proofs.StandingObjects.{SetHolds-leaf}

-- no length is told for children where none is for the node
none_told : (past : Bool) → ◌≡◌ {A = Option ℕ} None (if past then None else None)
none_told true = refl
none_told false = refl

module _ (has : Blocks) where
  -- the node that a pointer names, and what stands below its children
  pub record NodeInTree (level : ℕ) (ptr : Ptr) (first : ℕ) : Type 0 where
    pub names : NamesNode level ptr
    pub bytes : List ℕ
    pub there : has ptr bytes
    pub below : (k : ℕ) → k < 128 → DataStandInTree has (level - 1) (child bytes k) (first + k * span (level - 1))

  in_tree_suc : (level : ℕ) (ptr : Ptr) (first : ℕ) → is_flat ptr ≡ false → DataStandInTree has (suc level) ptr first → NodeInTree (suc level) ptr first
  unfolding DataStandInTree
  in_tree_suc level ptr first inner (inl flat) = absurd (false≢true (sym inner ∙ flat))
  in_tree_suc level ptr first inner (inr (names, (bytes, there, below))) =
      let same : suc level - 1 ≡ level = omega arith in
      record { names = names; bytes = bytes; there = there; below = λ k less. rw same (below k less) }

  pub node_in_tree : (level : ℕ) (ptr : Ptr) (first : ℕ) → 0 < level → is_flat ptr ≡ false → DataStandInTree has level ptr first → NodeInTree level ptr first
  node_in_tree zero ptr first some inner stands = absurd (omega arith)
  node_in_tree (suc level) ptr first some inner stands = in_tree_suc level ptr first inner stands

  -- and with a leaf
  leaf_zero : (ptr : Ptr) (first : ℕ) → first < 2 ^ 44 → is_flat ptr ≡ false → DataStandInTree has 0 ptr first → DataStandInLeaf has ptr
  unfolding DataStandInTree
  leaf_zero ptr first small inner stands = ⊎_elim (λ flat. absurd (false≢true (sym inner ∙ flat))) (λ leaf. leaf) (stands small)

  pub leaf_in_tree : (level : ℕ) (ptr : Ptr) (first : ℕ) → level ≡ 0 → first < 2 ^ 44 → is_flat ptr ≡ false → DataStandInTree has level ptr first → DataStandInLeaf has ptr
  leaf_in_tree level ptr first bottom small inner stands = leaf_zero ptr first small inner (subst (λ (n : ℕ). DataStandInTree has n ptr first) bottom stands)

  -- the nodes stand where no leaf is read
  pub DataStandInTree-nodes : (level : ℕ) (ptr : Ptr) (first : ℕ) → DataStandInTree has level ptr first → DataStand has None level ptr
  unfolding DataStandInTree DataStand
  DataStandInTree-nodes zero ptr first stands = inr tt
  DataStandInTree-nodes (suc level) ptr first (inl flat) = inl flat
  DataStandInTree-nodes (suc level) ptr first (inr (names, (bytes, there, below))) =
      inr (names, (bytes, there, λ k less. subst (λ (told : Option ℕ). DataStand has told level (child bytes k)) (none_told (is_past (suc level) k)) (DataStandInTree-nodes level (child bytes k) (first + k * span level) (below k less))))

module _ (image : List ℕ) (space : FreeSectors) where
  names_node : (level : ℕ) (ptr : Ptr) (bytes : List ℕ) → IsNode (Has image space) level ptr bytes → NamesNode level ptr
  names_node level ptr bytes node = record {
    kind = kind_three_or_four bytes ptr.kind node.kind_is;
    level_is = node.level_is;
    length_is = sym (IsBlock-length image ptr bytes node.there.block) ∙ node.pointers.long;
  }

  -- a pointer has no block, or a leaf with the data of its objects
  abbrev LeafOrNone : Ptr → Type 0
  LeafOrNone ptr = (is_flat ptr ≡ true) ⊎ DataStandInLeaf (Has image space) ptr

  -- the tree of a set below a pointer
  set_below : (level : ℕ) (ptr : Ptr) (first : ℕ) (map : Map) → Subtree (Has image space) level ptr first map → ((j : ℕ) → j < 2 ^ 44 → LeafOrNone (map j)) → DataStandInTree (Has image space) level ptr first
  unfolding Subtree DataStandInTree
  set_below zero ptr first map is leaves = λ small. subst LeafOrNone is.1 (leaves first small)
  set_below (suc level) ptr first map (inl flat) leaves = inl flat.1
  set_below (suc level) ptr first map (inr (bytes, node, below)) leaves =
      inr (
        names_node (suc level) ptr bytes node,
        (
          bytes,
          node.there,
          λ k less. set_below level (child bytes k) (first + k * span level) map (below k less) leaves,
        ),
      )

  pub SetHolds-stands : (set : ObjSet) (snap : DatedState) → SetHolds (Has image space) set snap → DataStandInSet (Has image space) set
  SetHolds-stands set snap holds = record {
    levels = holds.levels;
    below = set_below set.tree.levels set.tree.root 0 holds.tree.whole holds.tree.stands.below (SetHolds-leaf image space set snap holds);
  }

-- What a walk of a set that reads data tells as damaged, from a leaf up to the set.
use Rattle.std.proofs.Common.{◌≡◌, inl, inr, ℕ, ◌-◌, ◌<◌, List, false, refl, subst, sym}
use Rattle.std.specs.Prelude.{Option, None, Result}
use Rattle.zst_fletcher.specs.WeightSum.{parts_of}
use Rattle.zst_block.specs.Blocks.{IsBlock}
use Rattle.zst_block.specs.Ptr.{is_flat}
use Rattle.zst_block.specs.IoStates.{IoState}
use Rattle.zst_block.specs.IoCalls.{Looks}
use Rattle.zst_block.specs.declared.fault.BlockFault.{BlockFault}
use Rattle.zst_block.specs.declared.fault.BlockFault.TheVariants.{Full, Damaged, DiskFault}
use Rattle.zst_block.specs.declared.ptr.Ptr.{Ptr}
use Rattle.zst_objset.specs.Damage.{IfDamage, IfDamaged}
use Rattle.zst_objset.proofs.DamageLaws.{IfDamage-weaker}
use Rattle.zst_tree.specs.Damage.{IsSeen, MayHave, NamesNode, TellsNode}
use Rattle.zst_tree.specs.Indices.{child}
use Rattle.zst_tree.specs.declared.tree.ObjSet.{ObjSet}
use Rattle.zst_tree.proofs.Damage.{IsBelow-child, hangs_child, hangs_leaf, seen_before}
use Rattle.zst_count.specs.CountedSets.{IsDamagedInSet, IsDamagedInTree}
use Rattle.zst_count.specs.DataDamage.{IsDamagedBelow, IsDamagedInLeaf}
use Rattle.zst_count.proofs.DataFaults.{told_more}

module _ (images : List ℕ → Type 0) (size : ℕ) where
  -- a node of the set's tree is told below the pointer
  pub node_in_tree : (level : ℕ) (ptr : Ptr) (fault : BlockFault) → TellsNode images size NamesNode level ptr fault → IfDamage fault (IsDamagedInTree images size level ptr)
  node_in_tree level ptr (Full need largest) told = tt
  node_in_tree level ptr (Damaged sector stated found) told = inl told
  node_in_tree level ptr DiskFault told = tt

  -- so is what is told where no leaf is read
  past_up : (level : ℕ) (ptr : Ptr) (sector : ℕ) (stated found : List ℕ) → IsDamagedBelow images size None level ptr sector stated found → IsDamagedInTree images size level ptr sector stated found
  past_up level ptr sector stated found (inl node) = inl node
  past_up level ptr sector stated found (inr none) = absurd none

  pub past_told : {T : Type 0} → (level : ℕ) (ptr : Ptr) (result : Result T BlockFault) → IfDamaged result (IsDamagedBelow images size None level ptr) → IfDamaged result (IsDamagedInTree images size level ptr)
  past_told level ptr result told = told_more (IsDamagedBelow images size None level ptr) (IsDamagedInTree images size level ptr) (past_up level ptr) result told

  -- what is told of a leaf is told below a pointer to it
  pub leaf_in_tree : {T : Type 0} → (level : ℕ) (ptr : Ptr) (result : Result T BlockFault) → level ≡ 0 → is_flat ptr ≡ false → IfDamaged result (IsDamagedInLeaf images size ptr) → IfDamaged result (IsDamagedInTree images size level ptr)
  leaf_in_tree level ptr result bottom inner told =
      told_more (IsDamagedInLeaf images size ptr) (IsDamagedInTree images size level ptr)
      (λ sector stated found damaged. inr (record { leaf = ptr; some = inner; hangs = hangs_leaf (MayHave images) level ptr bottom; damaged = damaged })) result told

  -- what is told below a child is told below the node
  child_up : (level : ℕ) (ptr : Ptr) (node : List ℕ) (k : ℕ) → 0 < level → is_flat ptr ≡ false → MayHave images ptr node → k < 128 → (sector : ℕ) (stated found : List ℕ)
      → IsDamagedInTree images size (level - 1) (child node k) sector stated found → IsDamagedInTree images size level ptr sector stated found
  child_up level ptr node k some inner there less sector stated found (inl damaged) = inl (IsBelow-child images size NamesNode level ptr node k some inner there less sector stated found damaged)
  child_up level ptr node k some inner there less sector stated found (inr has) = inr (record {
    leaf = has.leaf;
    some = has.some;
    hangs = hangs_child (MayHave images) level ptr node k has.leaf some inner there less has.hangs;
    damaged = has.damaged;
  })

  pub child_in_tree : (level : ℕ) (ptr : Ptr) (node : List ℕ) (k : ℕ) → 0 < level → is_flat ptr ≡ false → MayHave images ptr node → k < 128 → (fault : BlockFault)
      → IfDamage fault (IsDamagedInTree images size (level - 1) (child node k)) → IfDamage fault (IsDamagedInTree images size level ptr)
  child_in_tree level ptr node k some inner there less fault told =
      IfDamage-weaker (IsDamagedInTree images size (level - 1) (child node k)) (IsDamagedInTree images size level ptr) (child_up level ptr node k some inner there less) fault told

  -- what is told below the root of a set is told of the set
  pub set_told : {T : Type 0} → (set : ObjSet) (result : Result T BlockFault) → IfDamaged result (IsDamagedInTree images size set.tree.levels set.tree.root) → IfDamaged result (IsDamagedInSet images size set)
  set_told set result told = told_more (IsDamagedInTree images size set.tree.levels set.tree.root) (IsDamagedInSet images size set) (λ sector stated found damaged. inr damaged) result told

  -- so is a set of too many levels, with both sums alike
  pub tall_set : (set : ObjSet) (fault : BlockFault) → fault ≡ Damaged set.tree.root.sector (parts_of set.tree.root.sum) (parts_of set.tree.root.sum) → 7 < set.tree.levels → IfDamage fault (IsDamagedInSet images size set)
  tall_set set fault is tall = rw is (inl (record { tall = tall; sector_is = refl; stated_is = refl; found_is = refl }))

-- what is told below a child of a node that was read is told below the node
pub tree_fault : {old new : IoState} {stop : Option BlockFault} → Looks old new stop → (level : ℕ) (ptr : Ptr) (node loaded : List ℕ) (k : ℕ) (p : Ptr) → 0 < level → is_flat ptr ≡ false → IsBlock old.disk.seen ptr loaded → node ≡ loaded → k < 128 → p ≡ child node k
    → (fault : BlockFault) → IfDamage fault (IsDamagedInTree (IsSeen new.disk.seen) new.disk.size (level - 1) p) → IfDamage fault (IsDamagedInTree (IsSeen old.disk.seen) old.disk.size level ptr)
tree_fault {old} {new} looks level ptr node loaded k p some inner block is less child_is fault told =
    child_in_tree (IsSeen old.disk.seen) old.disk.size level ptr node k some inner (record { image = old.disk.seen; among = refl; block = subst (λ (b : List ℕ). IsBlock old.disk.seen ptr b) (sym is) block }) less fault
    (seen_before looks (λ (seen : List ℕ) (size : ℕ). IfDamage fault (IsDamagedInTree (IsSeen seen) size (level - 1) (child node k)))
    (subst (λ (q : Ptr). IfDamage fault (IsDamagedInTree (IsSeen new.disk.seen) new.disk.size (level - 1) q)) child_is told))

-- The leaf of an index, as the tree of a set that holds a state shows it, over what was read since.
use Rattle.std.proofs.Common.{◌≡◌, ℕ, ◌^◌, ◌<◌, List, sym, subst, arith}
use Rattle.std.specs.Prelude.{Option}
use Rattle.zst_space.specs.FreeSectors.{FreeSectors}
use Rattle.zst_block.specs.Blocks.{Has}
use Rattle.zst_block.specs.IoCalls.{Looks}
use Rattle.zst_block.specs.IoStates.{IoState}
use Rattle.zst_block.specs.declared.fault.BlockFault.{BlockFault}
use Rattle.zst_block.specs.declared.ptr.Ptr.{Ptr}
use Rattle.zst_model.specs.sends.Inclusion.{Pairs}
use Rattle.zst_model.specs.states.DatedState.{DatedState}
use Rattle.zst_tree.specs.Lookups.{Shows}
use Rattle.zst_tree.specs.declared.tree.ObjSet.{ObjSet}
use Rattle.zst_objset.proofs.LeafLaws.{look_on}
use Rattle.zst_objset.specs.Dnodes.{outside}
use Rattle.zst_objset.specs.Sets.{LeafIn, SetHoldsBut}
use Rattle.zst_objset.specs.TightSets.{IsTightLeaf, SetIsTightIn}
use Rattle.zst_traverse.specs.Leaves.{HoldsLeaf, HoldsTightLeaf, StandsFor}
use Rattle.zst_traverse.specs.declared.leaves.Leaf.{Leaf}

module _ {old new : IoState} {stop : Option BlockFault} (looks : Looks old new stop) (pairs : Pairs) (set : ObjSet) (snap : DatedState) (index : ℕ) (leaf : Leaf) (at : leaf.index ≡ index) where
  module _ (holds : SetHoldsBut (Has old.disk.seen old.space) pairs set snap) (shows : Shows holds.map index (leaf.ptr, leaf.count)) where
    stands : StandsFor (Has old.disk.seen old.space) (outside pairs (Has old.disk.seen old.space)) snap leaf
    stands j over under less = subst (λ (p : Ptr). LeafIn (Has old.disk.seen old.space) (outside pairs (Has old.disk.seen old.space)) snap j p) (shows.same j (omega (arith, at, over)) (omega (arith, at, under)) less) (holds.leaves j less)

    -- its pointer stands for slots of the state
    pub leaf_held : HoldsLeaf (Has new.disk.seen new.space) (outside pairs (Has new.disk.seen new.space)) set snap leaf
    leaf_held = look_on (λ (seen : List ℕ) (space : FreeSectors). HoldsLeaf (Has seen space) (outside pairs (Has seen space)) set snap leaf) looks (record { holds = holds; stands = stands })

    pub own_leaf : index < 2 ^ 44 → LeafIn (Has new.disk.seen new.space) (outside pairs (Has new.disk.seen new.space)) snap leaf.index leaf.ptr
    own_leaf less = let some = shows.some in leaf_held.stands leaf.index (omega arith) (omega (arith, some)) (omega (arith, at, less))

  -- and that of a leaf of a tight set is tight
  pub tight_leaf_held : (tight : SetIsTightIn (Has old.disk.seen old.space) (outside pairs (Has old.disk.seen old.space)) set snap) → index < 2 ^ 44 → Shows tight.holds.map index (leaf.ptr, leaf.count)
      → HoldsTightLeaf (Has new.disk.seen new.space) (outside pairs (Has new.disk.seen new.space)) set snap leaf
  tight_leaf_held tight less shows =
      let some = shows.some in
      let same = shows.same index (omega arith) (omega (arith, some)) less in
      let own : IsTightLeaf (Has old.disk.seen old.space) snap leaf.index leaf.ptr = subst (λ (n : ℕ). IsTightLeaf (Has old.disk.seen old.space) snap n leaf.ptr) (sym at)
      (subst (λ (p : Ptr). IsTightLeaf (Has old.disk.seen old.space) snap index p) same (tight.tight index less)) in
      look_on (λ (seen : List ℕ) (space : FreeSectors). HoldsTightLeaf (Has seen space) (outside pairs (Has seen space)) set snap leaf) looks (record { tight = tight; leaf_is = record { stands = stands tight.holds shows; tight = own } })

-- What the write of a block of an object is refused for, and what it makes of the object's tree.
use Rattle.std.specs.Prelude.{◌≡◌, ℕ, List, ◌+◌, ◌==◌, ◌&&◌, not, nat_lt, Result, Ok}
use Rattle.zst_block.specs.declared.ptr.Ptr.{Ptr}
use Rattle.zst_model.specs.declared.refusals.apply_fault.ApplyFault.TheVariants.{SizeDiffers, OddBlock}
use Rattle.zst_model.specs.declared.refusals.faults.Quantity.TheVariants as quantities
use Rattle.zst_model.specs.states.AppliedItems.{unless}
use Rattle.zst_model.specs.states.State.{Data, index_bound, is_odd_size}
use Rattle.zst_tree.specs.Changes.{PutsRoot}
use Rattle.zst_tree.specs.Indices.{Blocks, Map, Puts, TreeIs}
use Rattle.zst_tree.specs.declared.tree.Tree.{Tree}
use Rattle.zst_objset.specs.Dnodes.{BlockIs}
use Rattle.zst_objset.specs.declared.fault.ObjFault.{ObjFault}
use Rattle.zst_objset.specs.declared.fault.ObjFault.TheVariants as faults

-- what so many bytes at an index of an object of this block size are refused for, in the definition's order: the faults of E21, and then E23 of the index
abbrev pub write_judged : ℕ → ℕ → ℕ → Result (Unit {0}) ObjFault
write_judged size i count =
    unless (not (count == size)) (faults.CannotApply SizeDiffers)
    (unless (is_odd_size size && nat_lt 0 i) (faults.CannotApply OddBlock)
    (unless (nat_lt index_bound (i + 1)) (faults.Limit quantities.Block index_bound)
    (Ok tt)))

-- a tree has these bytes at an index, with this date, and else what a map has
pub record PutsData (has : Blocks) (old : Map) (i : ℕ) (bytes : List ℕ) (number : ℕ) (tree : Tree) : Type 0 where
  pub block : Ptr
  pub is : BlockIs has block (Data bytes)
  pub date : block.number ≡ number
  pub map : Map
  pub puts : Puts old map i (i + 1) block
  pub tree_is : TreeIs has tree map

-- a tree that got data of so many bytes has the root that it had, or that data, or a node
pub record PutsDataRoot (old : Tree) (count : ℕ) (new : Tree) : Type 0 where
  pub block : Ptr
  pub kind : block.kind ≡ 1
  pub length_is : block.length ≡ count
  pub root : PutsRoot old block new

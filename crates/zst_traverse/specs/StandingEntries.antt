-- What a walk finds may stand in the set.
use Rattle.std.specs.Prelude.{◌≡◌, ℕ, List}
use Rattle.zst_block.specs.declared.ptr.Ptr.{Ptr}
use Rattle.zst_dnode.specs.declared.dnode.Dnode.{Dnode}
use Rattle.zst_model.specs.declared.states.cell.Cell.{Cell}
use Rattle.zst_model.specs.declared.states.cell.Cell.TheVariants as cells
use Rattle.zst_tree.specs.Damage.{HangsBelow, MayHave}
use Rattle.zst_tree.specs.declared.tree.ObjSet.{ObjSet}
use Rattle.zst_objset.specs.Damage.{StandsIn}
use Rattle.zst_traverse.specs.declared.walk_entry.WalkEntry.{WalkEntry}
use Rattle.zst_traverse.specs.declared.walk_entry.WalkEntry.TheVariants.{Object, Gone, Pairs}
use Rattle.zst_traverse.specs.declared.leaves.WalkStep.{WalkStep}
use Rattle.zst_traverse.specs.declared.leaves.WalkStep.TheVariants.{Next, Nothing}
use Rattle.zst_traverse.specs.declared.pairs.Run.{Run}

-- a pointer of data hangs below the root of the tree of an object that may stand in the set, and is as long as the object's blocks
pub record IsDataOf (images : List ℕ → Type 0) (set : ObjSet) (ptr : Ptr) : Type 0 where
  pub dnode : Dnode
  pub stands : StandsIn images set dnode
  pub hangs : HangsBelow (MayHave images) dnode.levels dnode.root ptr
  pub is_data : ptr.kind ≡ 1
  pub length_is : ptr.length ≡ dnode.block_size

-- where an index is told to have data, its pointer is that of data of the set
abbrev pub CellStands : (List ℕ → Type 0) → ObjSet → Cell → Ptr → Type 0
CellStands images set cells.Hole ptr = Unit {0}
CellStands images set cells.Redacted ptr = Unit {0}
CellStands images set cells.Data ptr = IsDataOf images set ptr

-- so it is with indices that are alike
abbrev pub RunStands : (List ℕ → Type 0) → ObjSet → Run → Type 0
RunStands images set run = CellStands images set run.what run.ptr

-- what a walk finds may stand in the set
abbrev pub FoundStands : (List ℕ → Type 0) → ObjSet → WalkEntry → Type 0
FoundStands images set (Object number dnode) = StandsIn images set dnode
FoundStands images set (Gone first count) = Unit {0}
FoundStands images set (Pairs object first count what ptr) = CellStands images set what ptr

-- so it is with what a look shows
abbrev pub AheadStands : (List ℕ → Type 0) → ObjSet → WalkStep → Type 0
AheadStands images set (Next found) = FoundStands images set found
AheadStands images set (Nothing below) = Unit {0}

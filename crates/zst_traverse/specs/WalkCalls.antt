-- What a call of a walk over a set gives and tells, whatever the image.
use Rattle.std.specs.Prelude.{ℕ, List, Result, IfOk}
use Rattle.zst_block.specs.declared.fault.BlockFault.{BlockFault}
use Rattle.zst_tree.specs.Damage.{IsSeen}
use Rattle.zst_tree.specs.declared.tree.ObjSet.{ObjSet}
use Rattle.zst_objset.specs.Damage.{IfDamaged}
use Rattle.zst_traverse.specs.Damage.{IsDamagedCell}

-- what it gives may stand in the set, and the damage that it tells is that of a block of the walk
pub record IsOfWalk {T : Type 0} (seen : List ℕ) (size : ℕ) (set : ObjSet) (result : Result T BlockFault) (Stands : (List ℕ → Type 0) → T → Type 0) : Type 0 where
  pub stands : IfOk result (Stands (IsSeen seen))
  pub damaged : IfDamaged result (IsDamagedCell (IsSeen seen) size set)

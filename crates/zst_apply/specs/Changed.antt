-- What a call that applies records does to a set of objects, said over the Io before it and after it.
use Rattle.std.specs.Prelude.{ℕ, OnOk, Result}
use Rattle.zst_block.specs.Blocks.{Has, SparesTaken}
use Rattle.zst_block.specs.IoStates.{IoState}
use Rattle.zst_model.specs.declared.refusals.refusal.Refusal.{Refusal}
use Rattle.zst_model.specs.pools.Soundness.{DatedUpTo}
use Rattle.zst_model.specs.states.DatedState.{DatedState}
use Rattle.zst_tree.specs.Sets.{SetFits}
use Rattle.zst_tree.specs.declared.tree.ObjSet.{ObjSet}
use Rattle.zst_objset.specs.Damage.{AreTreesWithin}
use Rattle.zst_objset.specs.SetChanges.{KeepsSet}
use Rattle.zst_objset.specs.Sets.{SetHolds}
use Rattle.zst_objset.specs.TightSets.{SetIsTight}
use Rattle.zst_objset.specs.declared.fault.ObjFault.{ObjFault}
use Rattle.zst_apply.specs.AppliedRecords.{Applies, LimitOfIndex}
use Rattle.zst_apply.specs.Damage.{apply_damage}

-- Where the set holds a dated state, it then holds what the definition makes of that as the record of any index, or the definition refuses, or a
-- block does; dates that were tight, up to the commit of this number, are tight. Whatever it holds, an E23 is that of an index, and
-- what may be told as damaged of the set and of the trees of its objects might have been told before.
pub record Changed (number : ℕ) (definition : ℕ → DatedState → Result DatedState Refusal) (most block : ℕ) (old new : IoState) (set made : ObjSet) (result : Result (Unit {0}) ObjFault) : Type 0 where
  pub changed : (index : ℕ) (state : DatedState) → new.disk.honest → SetHolds (Has old.disk.seen old.space) set state
      → Applies index (SetHolds (Has new.disk.seen new.space) made) (definition index state) result
  pub tight : (index : ℕ) (state : DatedState) → new.disk.honest → SetIsTight (Has old.disk.seen old.space) set state → DatedUpTo number state
      → Applies index (SetIsTight (Has new.disk.seen new.space) made) (definition index state) result
  pub keeps : KeepsSet LimitOfIndex (apply_damage (SparesTaken old.space old.disk.seen) old.disk.size set) most block old new set made result
  pub within : new.disk.honest → OnOk result (AreTreesWithin (SparesTaken old.space old.disk.seen) old.disk.size set (SparesTaken new.space new.disk.seen) made)
  pub levels : SetFits set → SetFits made

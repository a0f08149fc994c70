-- What a call does that looks for what comes next in the walk of a send.
use Rattle.std.specs.Prelude.{Option, Result, IfOk, IfSome}
use Rattle.zst_block.specs.Blocks.{Has}
use Rattle.zst_block.specs.IoCalls.{Looks, stop_of}
use Rattle.zst_block.specs.IoStates.{IoState}
use Rattle.zst_block.specs.declared.fault.BlockFault.{BlockFault}
use Rattle.zst_model.specs.states.DatedState.{DatedState}
use Rattle.zst_model.specs.fields.Lists.{has_pair}
use Rattle.zst_objset.specs.Damage.{IfDamaged}
use Rattle.zst_objset.specs.Dnodes.{outside}
use Rattle.zst_traverse.specs.Cells.{FoundFits, IsNextCellIn}
use Rattle.zst_traverse.specs.Damage.{IsDamagedCell}
use Rattle.zst_traverse.specs.StandingEntries.{FoundStands}
use Rattle.zst_traverse.specs.WalkCalls.{IsOfWalk}
use Rattle.zst_traverse.specs.declared.walk_entry.WalkEntry.{WalkEntry}
use Rattle.zst_tree.specs.Damage.{IsSeen}
use Rattle.zst_tree.specs.Indices.{Delivers}
use Rattle.zst_tree.specs.declared.tree.ObjSet.{ObjSet}
use Rattle.zst_send.specs.Subjects.{HoldsFor, choice_for}
use Rattle.zst_send.specs.declared.subject.Subject.{Subject}
use Rattle.zst_send.specs.declared.walk_position.WalkPosition.{WalkPosition}

-- whatever the image, what is given is in its range, damage is told of a block of the walk, and the set is only looked at
pub record StepsIn {T : Type 0} (set : ObjSet) (old new : IoState) (result : Result T BlockFault) (Fits : T → Type 0) : Type 0 where
  pub ranges : IfOk result Fits
  pub damaged : new.disk.honest → IfDamaged result (IsDamagedCell (IsSeen old.disk.seen) old.disk.size set)
  pub looks : Looks old new (stop_of result)

-- what is found at a position: of a set that holds a state but for what is withheld, what comes next there
pub record FindsNext (subject : Subject) (position : WalkPosition) (old new : IoState) (result : Result (Option WalkEntry) BlockFault) : Type 0 where
  pub found : (snap : DatedState) → new.disk.honest → HoldsFor (Has old.disk.seen old.space) subject snap
      → Delivers (IsNextCellIn (Has new.disk.seen new.space) (outside (has_pair subject.redact) (Has new.disk.seen new.space)) snap (choice_for subject) position.point position.slot) result
  -- whatever the image, it is in its range and may stand in the set, and damage is told of a block of the walk
  pub ranges : IfOk result (λ found. IfSome found (FoundFits position.point))
  pub of_walk : new.disk.honest → IsOfWalk old.disk.seen old.disk.size subject.set result (λ images found. IfSome found (FoundStands images subject.set))
  pub looks : Looks old new (stop_of result)

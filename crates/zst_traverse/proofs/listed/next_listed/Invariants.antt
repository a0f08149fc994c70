use Rattle.std.proofs.Common.{◌+◌, ◌-◌, ◌≤◌}
use Rattle.std.specs.Prelude.{IfSome, None}
use Rattle.zst_block.specs.IoStates.{IsHonest, blocks_of, disk_of, io_of}
use Rattle.zst_model.specs.fields.Lists.{has_pair}
use Rattle.zst_model.specs.states.DatedState.{DatedState}
use Rattle.zst_objset.specs.Dnodes.{outside}
use Rattle.zst_traverse.specs.Cells.{choice_after, choice_with, NoNumber}
use Rattle.zst_traverse.specs.Leaves.{FindsNumber, HoldsLeaf, HoldsTightLeaf}
use Rattle.zst_traverse.specs.ListedNumbers.{AreIncluded}
use Rattle.zst_traverse.proofs.listed.next_listed.Given as goal
use Rattle.zst_tree.specs.Damage.{HangsIn, IsSeen, MayHave}
use Rattle.zst_tree.specs.Steps.{LooksBySteps}
use Rattle.zst_traverse.specs.StandingEntries.{FoundStands}

abbrev pub invariant-loop-number : goal.invariant-loop-number
invariant-loop-number g l = record {
  from_on : l.from ≤ l.at;
  some : 1 ≤ l.at;
  none : (snap : DatedState) → IsHonest l.io → HoldsLeaf (blocks_of l.fn.io) (outside (has_pair l.withheld) (blocks_of l.fn.io)) l.set snap l.leaf
      → NoNumber snap (choice_with l.fn.source l.listed l.withheld) l.from l.at;
  first : (snap : DatedState) → IsHonest l.io → HoldsLeaf (blocks_of l.fn.io) (outside (has_pair l.withheld) (blocks_of l.fn.io)) l.set snap l.leaf
      → FindsNumber (blocks_of l.fn.io) (outside (has_pair l.withheld) (blocks_of l.fn.io)) snap (choice_after l.fn.source) l.from l.by_date;
  stands : IsHonest l.io → HangsIn (MayHave (IsSeen (disk_of l.fn.io).seen)) l.set.tree l.leaf.ptr → IfSome l.by_date (FoundStands (IsSeen (disk_of l.fn.io).seen) l.set);
  few : (snap : DatedState) → IsHonest l.io → HoldsTightLeaf (blocks_of l.fn.io) (outside (has_pair l.withheld) (blocks_of l.fn.io)) l.set snap l.leaf
      → AreIncluded snap (choice_with l.fn.source l.listed l.withheld) l.listed l.withheld → l.steps ≤ l.fn.steps + 35;
  looks : LooksBySteps (io_of l.fn.io) (io_of l.io) None l.fn.steps l.steps;
}

abbrev pub decreases-loop-number : goal.decreases-loop-number
decreases-loop-number g l = l.below + 1 - l.at

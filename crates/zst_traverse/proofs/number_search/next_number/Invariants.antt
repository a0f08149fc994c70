use Rattle.std.proofs.Common.{◌≡◌, ◌⊎◌, ◌+◌, ◌-◌, ◌%◌, ◌^◌, ◌≤◌}
use Rattle.std.specs.Prelude.{None}
use Rattle.zst_block.specs.IoStates.{IsHonest, blocks_of, io_of}
use Rattle.zst_model.specs.states.DatedState.{DatedState}
use Rattle.zst_tree.specs.Steps.{LooksBySteps}
use Rattle.zst_traverse.specs.Cells.{choice_after, NoNumber}
use Rattle.zst_traverse.specs.Leaves.{HoldsLeaf, HoldsTightLeaf}
use Rattle.zst_traverse.proofs.number_search.next_number.Given as goal
use Rattle.zst_objset.specs.Dnodes.{outside}
use Rattle.zst_model.specs.sends.Inclusion.{Pairs}

abbrev pub invariant-loop-at : goal.invariant-loop-at
invariant-loop-at g l = record {
  from_on : l.from ≤ l.at;
  some : 1 ≤ l.at;
  none : (snap : DatedState) (pairs : Pairs) → IsHonest l.io → HoldsLeaf (blocks_of l.fn.io) (outside pairs (blocks_of l.fn.io)) l.set snap l.leaf
      → NoNumber snap (choice_after l.source) l.from l.at;
  few : (snap : DatedState) (pairs : Pairs) → IsHonest l.io → HoldsTightLeaf (blocks_of l.fn.io) (outside pairs (blocks_of l.fn.io)) l.set snap l.leaf
      → ((l.at % 16 ≡ 0) × (l.steps ≤ l.fn.steps + 1)) ⊎ ((2 ^ 48 ≤ l.at) × (l.steps ≤ l.fn.steps + 35));
  looks : LooksBySteps (io_of l.fn.io) (io_of l.io) None l.fn.steps l.steps;
}

abbrev pub decreases-loop-at : goal.decreases-loop-at
decreases-loop-at g l = 281474976710656 - l.at

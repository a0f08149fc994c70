use Rattle.std.proofs.Common.{◌-◌, ◌≤◌}
use Rattle.std.specs.Prelude.{None}
use Rattle.zst_block.specs.IoStates.{IsHonest, blocks_of, io_of}
use Rattle.zst_block.specs.IoCalls.{Looks}
use Rattle.zst_model.specs.states.DatedState.{DatedState}
use Rattle.zst_objset.specs.Searches.{HasNone}
use Rattle.zst_objset.specs.Sets.{SetHolds}
use Rattle.zst_objset.proofs.searches.next_object.Given as goal

abbrev pub invariant-loop-at : goal.invariant-loop-at
invariant-loop-at g l = record {
  from_on : l.from ≤ l.at;
  none : (state : DatedState) → IsHonest l.io → SetHolds (blocks_of l.fn.io) l.set state → HasNone state l.from l.at;
  looks : Looks (io_of l.fn.io) (io_of l.io) None;
}

abbrev pub decreases-loop-at : goal.decreases-loop-at
decreases-loop-at g l = 281474976710656 - l.at

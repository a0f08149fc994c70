use Rattle.std.proofs.Common.{◌≡◌, ◌-◌, ◌≤◌, ◌<◌, ◌++◌}
use Rattle.std.specs.Prelude.{None}
use Rattle.zst_block.specs.IoStates.{IsHonest, blocks_of, io_of}
use Rattle.zst_block.specs.IoCalls.{Looks}
use Rattle.zst_model.specs.pools.AnswerLines.{object_lines}
use Rattle.zst_model.specs.states.DatedState.{DatedState}
use Rattle.zst_model.specs.states.State.{number_bound}
use Rattle.zst_objset.specs.Sets.{SetHolds}
use Rattle.zst_listing.proofs.ObjectWalk.{lines_from}
use Rattle.zst_listing.proofs.objects.list_objects.Given as goal

abbrev pub invariant-loop-lines : goal.invariant-loop-lines
invariant-loop-lines g l = record {
  some : 0 < l.from;
  number : l.from ≤ number_bound;
  told : (state : DatedState) → IsHonest l.io → SetHolds (blocks_of l.fn.io) l.set state → l.lines.items ++ lines_from state l.from ≡ object_lines state;
  looks : Looks (io_of l.fn.io) (io_of l.io) None;
}

abbrev pub decreases-loop-lines : goal.decreases-loop-lines
decreases-loop-lines g l = number_bound - l.from

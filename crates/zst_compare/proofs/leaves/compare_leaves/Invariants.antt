use Rattle.std.proofs.Common.{◌+◌, ◌*◌}
use Rattle.std.specs.Prelude.{None}
use Rattle.zst_block.specs.IoStates.{IsHonest, blocks_of, io_of}
use Rattle.zst_block.specs.IoCalls.{Looks}
use Rattle.zst_model.specs.states.State.{IsState}
use Rattle.zst_model.specs.states.DatedState.{DatedState}
use Rattle.zst_objset.specs.Sets.{LeafIs}
use Rattle.zst_compare.specs.Agreement.{AgreeBetween}
use Rattle.zst_compare.proofs.leaves.compare_leaves.Given as goal

abbrev pub invariant-loop-place : goal.invariant-loop-place
invariant-loop-place g l = record {
  agree : (was now : DatedState) → IsHonest l.io → IsState was.state → IsState now.state → LeafIs (blocks_of l.fn.io) now l.fn.leaf l.fn.later → LeafIs (blocks_of l.fn.io) was l.fn.leaf l.fn.earlier
      → AgreeBetween l.fn.number was now (16 * l.fn.leaf) (16 * l.fn.leaf + l.place);
  looks : Looks (io_of l.initial.io) (io_of l.io) None;
}

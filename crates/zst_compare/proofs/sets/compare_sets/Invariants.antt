use Rattle.std.proofs.Common.{◌*◌, ◌-◌}
use Rattle.std.specs.Prelude.{None}
use Rattle.zst_block.specs.IoStates.{IsHonest, blocks_of, io_of}
use Rattle.zst_block.specs.IoCalls.{Looks}
use Rattle.zst_model.specs.states.DatedState.{DatedState}
use Rattle.zst_objset.specs.Sets.{SetHolds}
use Rattle.zst_compare.specs.Agreement.{AgreeBetween}
use Rattle.zst_compare.proofs.sets.compare_sets.Given as goal

abbrev pub invariant-loop-index : goal.invariant-loop-index
invariant-loop-index g l = record {
  agree : (was now : DatedState) → IsHonest l.io → SetHolds (blocks_of l.fn.io) l.later now → SetHolds (blocks_of l.fn.io) l.earlier was → AgreeBetween l.number was now 0 (16 * l.index);
  looks : Looks (io_of l.fn.io) (io_of l.io) None;
}

abbrev pub decreases-loop-index : goal.decreases-loop-index
decreases-loop-index g l = 17592186044416 - l.index

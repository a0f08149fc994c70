use Rattle.std.proofs.Common.{◌-◌}
use Rattle.std.specs.Prelude.{None}
use Rattle.zst_block.specs.IoCalls.{Looks}
use Rattle.zst_block.specs.IoStates.{IsHonest, blocks_of, io_of}
use Rattle.zst_image.specs.Reads.{RunsBy}
use Rattle.zst_model.specs.pools.Pool.{IsPool, Pool}
use Rattle.zst_model.specs.pools.Soundness.{Dated}
use Rattle.zst_check.specs.Findings.{state_count}
use Rattle.zst_check.proofs.ComparedStates.{AgreeBelow}
use Rattle.zst_check.proofs.differences.differing_state.Given as goal

abbrev pub invariant-loop-state : goal.invariant-loop-state
invariant-loop-state g l = record {
  agree : (pool : Pool) → IsHonest l.io → RunsBy None (blocks_of l.fn.io) l.dir pool → IsPool pool → Dated pool → AgreeBelow pool l.place;
  looks : Looks (io_of l.fn.io) (io_of l.io) None;
}

abbrev pub decreases-loop-state : goal.decreases-loop-state
decreases-loop-state g l = state_count l.dir - l.place

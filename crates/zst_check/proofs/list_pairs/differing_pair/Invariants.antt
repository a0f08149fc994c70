use Rattle.std.proofs.Common.{◌+◌, ◌-◌, ◌*◌, ◌<◌, List}
use Rattle.std.specs.Prelude.{None}
use Rattle.zst_block.specs.IoStates.{IsHonest, blocks_of, io_of}
use Rattle.zst_block.specs.IoCalls.{Looks}
use Rattle.zst_model.specs.fields.Lists.{has_pair}
use Rattle.zst_model.specs.pools.RedSet.{red_set}
use Rattle.zst_model.specs.states.DatedState.{DatedState}
use Rattle.zst_redact.specs.Passes.{HoldStates}
use Rattle.zst_check.proofs.SamePairs.{AreSameBefore}
use Rattle.zst_check.proofs.list_pairs.differing_pair.Given as goal

-- the list has the wanted pairs before the one from which the search goes on
abbrev pub invariant-runs : goal.invariant-runs
invariant-runs g l = record {
  some : 0 < l.at.0;
  same : (state : DatedState) (kept : List DatedState) → IsHonest l.io → HoldStates (blocks_of l.fn.io) l.own.objects l.sets state kept
      → AreSameBefore (red_set state.state l.own.number kept) (has_pair l.list) l.at.0 l.at.1;
  looks : Looks (io_of l.fn.io) (io_of l.io) None;
}

-- numbers are below 2^48, and indices below 2^43
abbrev pub decreases-runs : goal.decreases-runs
decreases-runs g l = (281474976710656 - l.at.0) * 17592186044416 + (17592186044416 - l.at.1)

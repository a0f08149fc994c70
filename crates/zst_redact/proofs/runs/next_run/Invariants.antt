use Rattle.std.proofs.Common.{◌-◌, ◌<◌, List}
use Rattle.std.specs.Prelude.{None}
use Rattle.zst_block.specs.IoStates.{IsHonest, blocks_of, io_of}
use Rattle.zst_block.specs.IoCalls.{Looks}
use Rattle.zst_model.specs.fields.Lists.{IsAtOrAfter}
use Rattle.zst_model.specs.states.DatedState.{DatedState}
use Rattle.zst_redact.specs.Passes.{HoldStates}
use Rattle.zst_redact.specs.Wanted.{sets_beside, wanted_pairs}
use Rattle.zst_redact.proofs.LeastPairs.{IsSearchedTo}
use Rattle.zst_redact.proofs.runs.next_run.Given as goal

abbrev pub invariant-loop-object : goal.invariant-loop-object
invariant-loop-object g l = record {
  some : 0 < l.object;
  after : IsAtOrAfter l.fn.start.0 l.fn.start.1 l.object l.index;
  searched : (state : DatedState) (kept : List DatedState) → IsHonest l.io → HoldStates (blocks_of l.fn.io) l.snap (sets_beside l.wanted) state kept
      → IsSearchedTo (wanted_pairs l.wanted state kept) l.fn.start (l.object, l.index);
  looks : Looks (io_of l.fn.io) (io_of l.io) None;
}

abbrev pub decreases-loop-object : goal.decreases-loop-object
decreases-loop-object g l = 281474976710656 - l.object

use Rattle.std.proofs.Common.{◌≡◌, ◌*◌, ◌/◌, length}
use Rattle.std.specs.Prelude.{None}
use Rattle.zst_block.specs.IoStates.{blocks_of, io_of}
use Rattle.zst_block.specs.IoCalls.{Works}
use Rattle.zst_objset.specs.BlockRuns.{AreSoFar}
use Rattle.zst_objset.proofs.block_writes.write_each.Given as goal

abbrev pub invariant-loop-k : goal.invariant-loop-k
invariant-loop-k g l = record {
  written : AreSoFar (blocks_of l.io) l.number l.size l.index l.bytes l.into l.k;
  long : length l.into ≡ length l.initial.into;
  works : Works (l.k * (l.size / 512)) (l.size / 512) (io_of l.initial.io) (io_of l.io) None;
}

use Rattle.std.proofs.Common.{ℕ, ◌-◌, ◌<◌, length}
use Rattle.std.specs.Prelude.{Ok}
use Rattle.zst_block.specs.IoStates.{blocks_of, io_of}
use Rattle.zst_tree.specs.Indices.{child}
use Rattle.zst_leaves.specs.Leaves.{Laid, LeavesBelow, bytes_below, part}
use Rattle.zst_leaves.specs.WrittenLeaves.{WritesBlocks}
use Rattle.zst_leaves.proofs.BlockCounts.{blocks_before}
use Rattle.zst_leaves.proofs.writes.+write_below.Given as goal

abbrev pub decreases-write_below : goal.decreases-write_below
decreases-write_below g l = l.level

-- the parts so far stand below the first pointers
abbrev pub invariant-loop-k : goal.invariant-loop-k
invariant-loop-k g l = record {
  children : (j : ℕ) → j < l.k → LeavesBelow (Laid l.number l.initial.io.space (blocks_of l.io)) (l.level - 1) (child l.node j) (part (bytes_below (l.level - 1)) l.bytes j);
  written : WritesBlocks (blocks_before (l.level - 1) (length l.bytes) l.k) (io_of l.initial.io) (io_of l.io) (Ok (tt {0}));
}

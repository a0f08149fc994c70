use Rattle.std.proofs.Common.{◌≡◌, ◌+◌, ◌-◌, ◌*◌, min, length}
use Rattle.std.specs.Prelude.{None}
use Rattle.zst_block.specs.IoStates.{IsHonest, disk_of, io_of}
use Rattle.zst_tree.specs.Steps.{LooksAtMost}
use Rattle.zst_leaves.specs.Leaves.{BlocksBefore, bytes_below}
use Rattle.zst_leaves.proofs.BlockCounts.{blocks_before}
use Rattle.zst_leaves.proofs.GatheredTexts.{Gathered}
use Rattle.zst_leaves.proofs.reads.+read_below.Given as goal

abbrev pub decreases-read_below : goal.decreases-read_below
decreases-read_below g l = l.level

-- the text of the first pointers was appended
abbrev pub invariant-loop-k : goal.invariant-loop-k
invariant-loop-k g l = record {
  only : IsHonest l.io → Gathered (BlocksBefore l.initial.io.space.end (disk_of l.initial.io).seen) (l.level - 1) l.node l.count l.k l.initial.text.items l.text.items;
  long : length l.text.items ≡ length l.initial.text.items + min (l.k * bytes_below (l.level - 1)) l.count;
  looks : LooksAtMost (blocks_before (l.level - 1) l.count l.k) (io_of l.initial.io) (io_of l.io) None;
}

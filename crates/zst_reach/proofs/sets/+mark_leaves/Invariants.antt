use Rattle.std.proofs.Common.{◌⊎◌, ◌+◌, ◌-◌, ◌*◌, ◌<◌, ℕ}
use Rattle.std.specs.Prelude.{None}
use Rattle.zst_block.specs.Blocks.{IsBlock}
use Rattle.zst_block.specs.IoStates.{IsHonest, disk_of, io_of}
use Rattle.zst_block.specs.IoCalls.{Looks}
use Rattle.zst_marks.specs.Marks.{HasRoomFor, IsMarked, MarksMore}
use Rattle.zst_tree.specs.Indices.{child, span}
use Rattle.zst_reach.specs.ReachedSets.{AreMarkedInTree, ReachesInTree}
use Rattle.zst_reach.proofs.ReachedLaws.{OwnMarked}
use Rattle.zst_reach.proofs.sets.+mark_leaves.Given as goal

abbrev pub decreases-mark_leaves : goal.decreases-mark_leaves
decreases-mark_leaves g l = l.level

-- the block itself is marked, and all below its first children
abbrev pub invariant-loop-k : goal.invariant-loop-k
invariant-loop-k g l =
    let image = (disk_of l.initial.io).seen in
    record {
      own : OwnMarked l.end l.marks l.fn.ptr;
      all : IsHonest l.io → AreMarkedInTree image l.end l.initial.marks l.known.0 l.known.1 l.first → (j : ℕ) → j < l.k → AreMarkedInTree image l.end l.marks (l.level - 1) (child l.node j) (l.first + j * span (l.level - 1));
      more : MarksMore l.initial.marks l.marks;
      room : HasRoomFor l.marks l.end;
      only : IsHonest l.io → (sector : ℕ) → IsMarked l.marks sector → IsMarked l.initial.marks sector ⊎ ReachesInTree (IsBlock image) l.level l.fn.ptr l.first sector;
      looks : Looks (io_of l.initial.io) (io_of l.io) None;
    }

use Rattle.std.proofs.Common.{◌⊎◌, ◌-◌, ◌<◌, ℕ}
use Rattle.std.specs.Prelude.{None}
use Rattle.zst_block.specs.Blocks.{IsBlock}
use Rattle.zst_block.specs.IoStates.{IsHonest, disk_of, io_of}
use Rattle.zst_block.specs.IoCalls.{Looks}
use Rattle.zst_marks.specs.Marks.{HasRoomFor, IsMarked, MarksMore}
use Rattle.zst_tree.specs.Indices.{child}
use Rattle.zst_reach.specs.Reached.{AreMarked, ReachesSector}
use Rattle.zst_reach.proofs.ReachedLaws.{OwnMarked}
use Rattle.zst_reach.proofs.trees.+mark_below.Given as goal

abbrev pub decreases-mark_below : goal.decreases-mark_below
decreases-mark_below g l = l.level

-- the block itself is marked, and all below its first children
abbrev pub invariant-loop-k : goal.invariant-loop-k
invariant-loop-k g l =
    let image = (disk_of l.initial.io).seen in
    record {
      own : OwnMarked l.end l.marks l.fn.ptr;
      all : IsHonest l.io → AreMarked image l.end l.initial.marks l.known_level l.known → (j : ℕ) → j < l.k → AreMarked image l.end l.marks (l.level - 1) (child l.node j);
      more : MarksMore l.initial.marks l.marks;
      room : HasRoomFor l.marks l.end;
      only : IsHonest l.io → (sector : ℕ) → IsMarked l.marks sector → IsMarked l.initial.marks sector ⊎ ReachesSector (IsBlock image) l.level l.fn.ptr sector;
      looks : Looks (io_of l.initial.io) (io_of l.io) None;
    }

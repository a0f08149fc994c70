use Rattle.std.proofs.Common.{◌⊎◌, ◌<◌, ℕ}
use Rattle.std.specs.Prelude.{None}
use Rattle.zst_block.specs.Blocks.{IsBlock}
use Rattle.zst_block.specs.IoStates.{IsHonest, disk_of, io_of}
use Rattle.zst_block.specs.IoCalls.{Looks}
use Rattle.zst_marks.specs.Marks.{HasRoomFor, IsMarked, MarksMore}
use Rattle.zst_reach.specs.ReachedSets.{AreMarkedBeside, ReachesInLeaf}
use Rattle.zst_reach.proofs.SetWalks.{PlaceMarked}
use Rattle.zst_reach.proofs.leaves.mark_leaf.Given as goal

-- what the objects in the first places reach is marked
abbrev pub invariant-loop-place : goal.invariant-loop-place
invariant-loop-place g l =
    let image = (disk_of l.initial.io).seen in
    record {
      all : IsHonest l.io → AreMarkedBeside image l.end l.initial.marks l.fn.known_level l.fn.known → (j : ℕ) → j < l.place → PlaceMarked image l.end l.marks l.leaf j;
      more : MarksMore l.initial.marks l.marks;
      room : HasRoomFor l.marks l.end;
      only : IsHonest l.io → (sector : ℕ) → IsMarked l.marks sector → IsMarked l.initial.marks sector ⊎ ReachesInLeaf (IsBlock image) l.fn.ptr sector;
      looks : Looks (io_of l.initial.io) (io_of l.io) None;
    }

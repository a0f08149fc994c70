use Rattle.std.proofs.Common.{◌⊎◌, ◌<◌, ℕ}
use Rattle.std.specs.Prelude.{None}
use Rattle.zst_block.specs.Blocks.{IsBlock}
use Rattle.zst_block.specs.IoStates.{IsHonest, disk_of, io_of}
use Rattle.zst_block.specs.IoCalls.{Looks}
use Rattle.zst_marks.specs.Marks.{IsMarked}
use Rattle.zst_count.specs.FirstSectors.{IsFirstInLeaf}
use Rattle.zst_count.specs.MetBlocks.{AreMetBeside, AreReadBeside, MetMore}
use Rattle.zst_count.proofs.ObjectWalks.{PlaceMet, PlaceRead}
use Rattle.zst_count.proofs.objects.count_leaf.Given as goal

-- what the objects in the first places reach is met, and read
abbrev pub invariant-loop-place : goal.invariant-loop-place
invariant-loop-place g l =
    let image = (disk_of l.initial.io).seen in
    record {
      all : IsHonest l.io → AreMetBeside image l.initial.met.end l.initial.met.marks l.fn.known.0 l.fn.known.1 → (j : ℕ) → j < l.place → PlaceMet image l.met.end l.met.marks l.leaf j;
      more : MetMore l.initial.met l.met;
      only : IsHonest l.io → (sector : ℕ) → IsMarked l.met.marks sector → IsMarked l.initial.met.marks sector ⊎ (IsFirstInLeaf (IsBlock image) l.fn.ptr sector × (sector < l.initial.met.end));
      read : IsHonest l.io → AreReadBeside image l.fn.known.0 l.fn.known.1 → (j : ℕ) → j < l.place → PlaceRead image l.leaf j;
      looks : Looks (io_of l.initial.io) (io_of l.io) None;
    }

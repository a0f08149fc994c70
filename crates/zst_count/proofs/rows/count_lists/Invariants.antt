use Rattle.std.proofs.Common.{◌⊎◌, ◌<◌, ℕ, take}
use Rattle.std.specs.Prelude.{None}
use Rattle.zst_block.specs.Blocks.{IsBlock}
use Rattle.zst_block.specs.IoStates.{IsHonest, disk_of, io_of}
use Rattle.zst_block.specs.IoCalls.{Looks}
use Rattle.zst_marks.specs.Marks.{IsMarked}
use Rattle.zst_roots.specs.ReachedRows.{IsReachedBySome}
use Rattle.zst_count.specs.CountedRows.{AreMetForLists, AreReadForLists}
use Rattle.zst_count.specs.FirstSectors.{IsFirstInList}
use Rattle.zst_count.specs.MetBlocks.{MetMore}
use Rattle.zst_count.proofs.rows.count_lists.Given as goal

-- what the first lists reach is met
abbrev pub invariant-loop-row : goal.invariant-loop-row
invariant-loop-row g l =
    let image = (disk_of l.initial.io).seen in
    record {
      all : IsHonest l.io → AreMetForLists image l.met.end l.met.marks (take l.row-index l.dir.bookmarks);
      more : MetMore l.initial.met l.met;
      only : IsHonest l.io → (sector : ℕ) → IsMarked l.met.marks sector → IsMarked l.initial.met.marks sector ⊎ (IsReachedBySome l.dir.bookmarks (IsFirstInList (IsBlock image)) sector × (sector < l.initial.met.end));
      read : IsHonest l.io → AreReadForLists image (take l.row-index l.dir.bookmarks);
      looks : Looks (io_of l.initial.io) (io_of l.io) None;
    }

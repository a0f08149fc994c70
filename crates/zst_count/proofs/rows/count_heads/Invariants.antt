use Rattle.std.proofs.Common.{◌⊎◌, ◌<◌, ℕ, take}
use Rattle.std.specs.Prelude.{None}
use Rattle.zst_block.specs.Blocks.{IsBlock}
use Rattle.zst_block.specs.IoStates.{IsHonest, disk_of, io_of}
use Rattle.zst_block.specs.IoCalls.{Looks}
use Rattle.zst_marks.specs.Marks.{IsMarked}
use Rattle.zst_roots.specs.ReachedRows.{IsReachedBySome}
use Rattle.zst_count.specs.CountedRows.{AreMetForHeads, AreMetForSnapshots, AreReadForHeads, AreReadForSnapshots}
use Rattle.zst_count.specs.FirstSectors.{IsFirstInHead}
use Rattle.zst_count.specs.MetBlocks.{MetMore}
use Rattle.zst_count.proofs.rows.count_heads.Given as goal

-- what the first rows reach is met
abbrev pub invariant-loop-row : goal.invariant-loop-row
invariant-loop-row g l =
    let image = (disk_of l.initial.io).seen in
    record {
      all : IsHonest l.io → AreMetForSnapshots image l.initial.met.end l.initial.met.marks l.dir.snapshots → AreMetForHeads image l.met.end l.met.marks (take l.row-index l.dir.datasets);
      more : MetMore l.initial.met l.met;
      only : IsHonest l.io → (sector : ℕ) → IsMarked l.met.marks sector → IsMarked l.initial.met.marks sector ⊎ (IsReachedBySome l.dir.datasets (IsFirstInHead (IsBlock image)) sector × (sector < l.initial.met.end));
      read : IsHonest l.io → AreReadForSnapshots image l.dir.snapshots → AreReadForHeads image (take l.row-index l.dir.datasets);
      looks : Looks (io_of l.initial.io) (io_of l.io) None;
    }

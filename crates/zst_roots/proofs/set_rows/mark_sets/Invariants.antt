use Rattle.std.proofs.Common.{◌⊎◌, ℕ, List}
use Rattle.std.specs.Prelude.{None}
use Rattle.zst_block.specs.Blocks.{IsBlock}
use Rattle.zst_block.specs.IoStates.{IsHonest, disk_of, io_of}
use Rattle.zst_block.specs.IoCalls.{Looks}
use Rattle.zst_marks.specs.Marks.{HasRoomFor, IsMarked, MarksMore}
use Rattle.zst_reach.specs.ReachedSets.{ReachesInSet}
use Rattle.zst_roots.specs.ReachedRows.{AreMarkedForSnapshots, IsReachedBySome}
use Rattle.zst_roots.proofs.RowTurns.{FirstMarked}
use Rattle.zst_roots.proofs.set_rows.mark_sets.Given as goal

-- what the first rows reach is marked
abbrev pub invariant-loop-row : goal.invariant-loop-row
invariant-loop-row g l =
    let image = (disk_of l.initial.io).seen in
    record {
      all : IsHonest l.io → AreMarkedForSnapshots image l.end l.initial.marks l.dir.snapshots → FirstMarked (λ (seen : List ℕ) (row : g.row.R.Denot). ReachesInSet (IsBlock seen) (g.R.SetRow.set row)) image (g.R.SetRow.rows l.dir) l.end l.marks l.row-index;
      more : MarksMore l.initial.marks l.marks;
      room : HasRoomFor l.marks l.end;
      only : IsHonest l.io → (sector : ℕ) → IsMarked l.marks sector → IsMarked l.initial.marks sector ⊎ IsReachedBySome (g.R.SetRow.rows l.dir) (λ (row : g.row.R.Denot). ReachesInSet (IsBlock image) (g.R.SetRow.set row)) sector;
      looks : Looks (io_of l.initial.io) (io_of l.io) None;
    }

use Rattle.std.proofs.Common.{◌⊎◌, ℕ, List}
use Rattle.std.specs.Prelude.{None}
use Rattle.zst_block.specs.Blocks.{IsBlock}
use Rattle.zst_block.specs.IoStates.{IsHonest, disk_of, io_of}
use Rattle.zst_block.specs.IoCalls.{Looks}
use Rattle.zst_marks.specs.Marks.{HasRoomFor, IsMarked, MarksMore}
use Rattle.zst_roots.specs.Held.{HeldReaches, IsHeldBy}
use Rattle.zst_roots.specs.ReachedRows.{AreMarkedForSnapshots}
use Rattle.zst_roots.proofs.RowTurns.{FirstMarked}
use Rattle.zst_roots.proofs.held.mark_held.Given as goal

-- what the first sessions hold is marked
abbrev pub invariant-loop-one : goal.invariant-loop-one
invariant-loop-one g l =
    let image = (disk_of l.initial.io).seen in
    record {
      all : IsHonest l.io → AreMarkedForSnapshots image l.end l.initial.marks l.dir.snapshots → FirstMarked (λ (seen : List ℕ). IsHeldBy (IsBlock seen)) image l.held l.end l.marks l.one-index;
      more : MarksMore l.initial.marks l.marks;
      room : HasRoomFor l.marks l.end;
      only : IsHonest l.io → (sector : ℕ) → IsMarked l.marks sector → IsMarked l.initial.marks sector ⊎ HeldReaches (IsBlock image) l.held sector;
      looks : Looks (io_of l.initial.io) (io_of l.io) None;
    }

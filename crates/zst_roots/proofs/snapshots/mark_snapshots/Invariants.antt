use Rattle.std.proofs.Common.{◌≡◌, ◌⊎◌, ℕ, true, false, length, get_or, take}
use Rattle.std.specs.Prelude.{None}
use Rattle.std.specs.List.{All}
use Rattle.zst_block.specs.Blocks.{IsBlock}
use Rattle.zst_block.specs.IoStates.{IsHonest, disk_of, io_of}
use Rattle.zst_block.specs.IoCalls.{Looks}
use Rattle.zst_marks.specs.Marks.{HasRoomFor, IsMarked, MarksMore}
use Rattle.zst_roots.specs.ReachedRows.{IsReachedBySome, SnapshotReaches}
use Rattle.zst_roots.specs.WalkedRows.{AreMarkedIfWalked}
use Rattle.zst_roots.proofs.snapshots.mark_snapshots.Given as goal

-- each snapshot whose turn was has its flag set, and what those reach is marked
abbrev pub invariant-loop-turn : goal.invariant-loop-turn
invariant-loop-turn g l =
    let image = (disk_of l.initial.io).seen in
    record {
      long : length l.walked.items ≡ length l.rows;
      walked : IsHonest l.io → AreMarkedIfWalked image l.end l.marks l.rows l.walked.items;
      flags : All (λ (turn : ℕ × ℕ). get_or l.walked.items turn.1 false ≡ true) (take l.turn-index l.turn-items);
      more : MarksMore l.initial.marks l.marks;
      room : HasRoomFor l.marks l.end;
      only : IsHonest l.io → (sector : ℕ) → IsMarked l.marks sector → IsMarked l.initial.marks sector ⊎ IsReachedBySome l.dir.snapshots (SnapshotReaches (IsBlock image)) sector;
      looks : Looks (io_of l.initial.io) (io_of l.io) None;
    }

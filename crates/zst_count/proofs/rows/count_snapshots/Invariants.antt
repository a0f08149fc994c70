use Rattle.std.proofs.Common.{◌≡◌, ◌⊎◌, ◌<◌, ℕ, true, false, length, get_or, take}
use Rattle.std.specs.Prelude.{None}
use Rattle.std.specs.List.{All}
use Rattle.zst_block.specs.Blocks.{IsBlock}
use Rattle.zst_block.specs.IoStates.{IsHonest, disk_of, io_of}
use Rattle.zst_block.specs.IoCalls.{Looks}
use Rattle.zst_marks.specs.Marks.{IsMarked}
use Rattle.zst_roots.specs.ReachedRows.{IsReachedBySome}
use Rattle.zst_count.specs.CountedSets.{AreMetInSet, AreReadInSet}
use Rattle.zst_count.specs.FirstSectors.{IsFirstInSnapshot}
use Rattle.zst_count.specs.MetBlocks.{MetMore}
use Rattle.zst_count.proofs.RowWalks.{IfWalked}
use Rattle.zst_count.proofs.rows.count_snapshots.Given as goal

-- each snapshot whose turn was has its flag set, and what those reach is met and read
abbrev pub invariant-loop-turn : goal.invariant-loop-turn
invariant-loop-turn g l =
    let image = (disk_of l.initial.io).seen in
    record {
      long : length l.walked.items ≡ length l.rows;
      walked : IsHonest l.io → IfWalked (λ row. AreMetInSet image l.met.end l.met.marks row.objects) l.rows l.walked.items;
      read : IsHonest l.io → IfWalked (λ row. AreReadInSet image row.objects) l.rows l.walked.items;
      flags : All (λ (turn : ℕ × ℕ). get_or l.walked.items turn.1 false ≡ true) (take l.turn-index l.turn-items);
      more : MetMore l.initial.met l.met;
      only : IsHonest l.io → (sector : ℕ) → IsMarked l.met.marks sector → IsMarked l.initial.met.marks sector ⊎ (IsReachedBySome l.dir.snapshots (IsFirstInSnapshot (IsBlock image)) sector × (sector < l.initial.met.end));
      looks : Looks (io_of l.initial.io) (io_of l.io) None;
    }

use Rattle.std.proofs.Common.{◌⊎◌, ℕ, List, []}
use Rattle.zst_marks.specs.Marks.{HasRoomFor, IsMarked, MarksMore}
use Rattle.zst_roots.specs.Held.{IsOfBlock}
use Rattle.zst_roots.specs.ReachedRows.{IsReachedBySome}
use Rattle.zst_roots.proofs.RowTurns.{FirstMarked}
use Rattle.zst_roots.proofs.held.mark_blocks.Given as goal

-- the blocks of the first pointers are marked
abbrev pub invariant-loop-block : goal.invariant-loop-block
invariant-loop-block l = record {
  all : FirstMarked (λ (seen : List ℕ). IsOfBlock) [] l.blocks l.end l.marks l.block-index;
  more : MarksMore l.initial.marks l.marks;
  room : HasRoomFor l.marks l.end;
  only : (sector : ℕ) → IsMarked l.marks sector → IsMarked l.initial.marks sector ⊎ IsReachedBySome l.blocks IsOfBlock sector;
}

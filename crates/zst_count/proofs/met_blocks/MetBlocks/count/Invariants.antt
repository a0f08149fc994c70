use Rattle.zst_marks.specs.Marks.{IsMarked}
use Rattle.zst_count.proofs.MetCounts.{CountsBefore}
use Rattle.zst_count.proofs.met_blocks.MetBlocks.count.Given as goal

-- the marked sectors before this one are counted
abbrev pub invariant-loop-sector : goal.invariant-loop-sector
invariant-loop-sector l = CountsBefore (IsMarked l.self.marks) l.sector l.count

use Rattle.zst_space.specs.FreeSectors.{room}
use Rattle.zst_extents.proofs.MarkedBlocks.{TakesRounds}
use Rattle.zst_extents.proofs.unmarked.leave_unmarked.Given as goal

-- the blocks and so many for the extents were taken and marked
abbrev pub invariant-rounds : goal.invariant-rounds
invariant-rounds l = TakesRounds l.end l.blocks l.taken l.fn.space l.space l.fn.marks l.marks

-- each round takes one more at least
abbrev pub decreases-rounds : goal.decreases-rounds
decreases-rounds l = room l.space

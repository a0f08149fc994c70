use Rattle.zst_extents.specs.UnmarkedExtents.{TakesMarked}
use Rattle.zst_extents.proofs.unmarked.take_marked.Given as goal

-- so many blocks were taken and marked
abbrev pub invariant-loop-k : goal.invariant-loop-k
invariant-loop-k l = TakesMarked l.end l.k l.initial.space l.space l.initial.marks l.marks

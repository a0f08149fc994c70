use Rattle.std.proofs.Common.{◌≡◌, ◌*◌, ℕ}
use Rattle.zst_space.specs.FreeSectors.{IsFree, IsSpaceFrom}
use Rattle.zst_space.specs.TakenExtents.{without_blocks}
use Rattle.zst_block.specs.IoCalls.{IsBlockLength, TakesAtMost}
use Rattle.zst_extents.proofs.writes.take_blocks.Given as goal

-- so many blocks were taken
abbrev pub invariant-loop-k : goal.invariant-loop-k
invariant-loop-k l = record {
  after : l.space ≡ without_blocks l.k l.initial.space;
  takes : TakesAtMost (16 * l.k) (IsBlockLength 16) l.initial.space l.space;
  fewer : (sector : ℕ) → IsFree l.space sector → IsFree l.initial.space sector;
  kept : IsSpaceFrom 8 l.space;
}

use Rattle.std.proofs.Common.{◌⊎◌, ℕ, List, Contains}
use Rattle.zst_block.specs.KeptBlocks.{IsApart}
use Rattle.zst_block.proofs.cache.meets_in.Given as goal

-- each block is still to come, or is apart, and each that is still to come is kept
abbrev pub invariant-loop-sector : goal.invariant-loop-sector
invariant-loop-sector l = (sector : ℕ) (bytes : List ℕ)
    → (Contains l.blocks.entries (sector, bytes) → Contains l.sector-iterator (sector, bytes) ⊎ IsApart sector l.first l.count)
    × (Contains l.sector-iterator (sector, bytes) → Contains l.blocks.entries (sector, bytes))

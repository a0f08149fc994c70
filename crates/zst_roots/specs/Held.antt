-- What sessions that are open hold besides the rows of the directory: of each an object set, and the blocks that some pointers name.
use Rattle.std.specs.Prelude.{◌⊎◌, ℕ, List, Option, Some, None}
use Rattle.zst_block.specs.declared.ptr.Ptr.{Ptr}
use Rattle.zst_reach.specs.Reached.{IsOf}
use Rattle.zst_reach.specs.ReachedSets.{ReachesInSet}
use Rattle.zst_tree.specs.Indices.{Blocks}
use Rattle.zst_roots.specs.ReachedRows.{IsReachedBySome}
use Rattle.zst_roots.specs.declared.held.HeldBlocks.{HeldBlocks}

-- the sector is one of the block that the pointer names, where there is one
abbrev pub IsOfBlock : Option Ptr → ℕ → Type 0
IsOfBlock None sector = ⊥
IsOfBlock (Some ptr) sector = IsOf ptr sector

-- a session holds the sector: its set reaches it, or the block of one of its pointers has it
abbrev pub IsHeldBy : Blocks → HeldBlocks → ℕ → Type 0
IsHeldBy has one sector = ReachesInSet has one.set sector ⊎ IsReachedBySome one.blocks IsOfBlock sector

-- some session holds it
abbrev pub HeldReaches : Blocks → List HeldBlocks → ℕ → Type 0
HeldReaches has held sector = IsReachedBySome held (IsHeldBy has) sector

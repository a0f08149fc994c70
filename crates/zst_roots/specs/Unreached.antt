-- Which sectors of a pool are reached, and which of them stay so once a reclaim is done.
use Rattle.std.specs.Prelude.{◌≡◌, ◌⊎◌, ℕ, ◌<◌, List}
use Rattle.zst_dir.specs.Rows.{Rows}
use Rattle.zst_marks.specs.Marks.{Apart, HasRoomFor, IsMarked}
use Rattle.zst_reach.specs.Reached.{ReachesSector}
use Rattle.zst_space.specs.FreeSectors.{IsFree}
use Rattle.zst_tree.specs.Indices.{Blocks}
use Rattle.zst_uber.specs.declared.uber.Uber.{Uber}
use Rattle.zst_roots.specs.Held.{HeldReaches}
use Rattle.zst_roots.specs.ReachedRows.{RowsReach}
use Rattle.zst_roots.specs.declared.held.HeldBlocks.{HeldBlocks}
use Rattle.zst_roots.specs.declared.unreached.UnreachedSectors.{UnreachedSectors}

-- the texts of a body reach the leaves of its directory and of its free extents, where it has any, and the nodes above them
abbrev pub TextsReach : Blocks → Uber → ℕ → Type 0
TextsReach has uber sector = ReachesSector has uber.dir_levels uber.dir_root sector ⊎ ((0 < uber.free_count) × ReachesSector has uber.free_levels uber.free_root sector)

-- a sector stays reached whichever texts the next body names: it is one of the first eight, the rows reach it, or a session holds it
abbrev pub StaysReached : Blocks → Rows → List HeldBlocks → ℕ → Type 0
StaysReached has rows held sector = (sector < 8) ⊎ (RowsReach has rows sector ⊎ HeldReaches has held sector)

-- a sector is reached: it stays so, or the texts of the latest body reach it
abbrev pub IsReached : Blocks → Uber → Rows → List HeldBlocks → ℕ → Type 0
IsReached has uber rows held sector = StaysReached has rows held sector ⊎ TextsReach has uber sector

-- what was found is of a pool with this body: the marks have room up to its end; below it the free extents rise from sector 8 on, none is empty, and no two touch; and what is free there isn't marked
pub record IsFoundFor (uber : Uber) (found : UnreachedSectors) : Type 0 where
  pub room : HasRoomFor found.marks uber.end
  pub end : found.space.end ≡ uber.end
  pub sectors : found.space.sectors ≡ uber.sectors
  pub apart : Apart 8 found.space.free uber.end
  pub unmarked : (sector : ℕ) → IsFree found.space sector → sector < uber.end → ¬ IsMarked found.marks sector

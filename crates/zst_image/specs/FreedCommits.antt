-- What a commit does that makes all sectors free that aren't marked: it writes into free sectors alone, and what it leaves free needn't have been free before.
use Rattle.std.specs.Prelude.{◌≡◌, ◌↔◌, ◌+◌, ◌<◌, ◌≤◌, ℕ, false, List, length, Option}
use Rattle.zst_space.specs.FreeSectors.{FreeSectors, IsFree, largest_of}
use Rattle.zst_space.specs.TakenExtents.{without_blocks}
use Rattle.zst_space.specs.declared.space.Extent.{Extent}
use Rattle.zst_marks.specs.Marks.{IsMarked}
use Rattle.zst_block.specs.Blocks.{FillsFree, Has, KeepsBlocks}
use Rattle.zst_block.specs.IoCalls.{HasCause, IsBlockLength, TakesAtMost, fails}
use Rattle.zst_block.specs.IoStates.{IoState}
use Rattle.zst_block.specs.declared.fault.BlockFault.{BlockFault}
use Rattle.zst_tree.specs.Indices.{Blocks}
use Rattle.zst_tree.specs.declared.tree.Tree.{Tree}
use Rattle.zst_leaves.specs.Leaves.{HasLeaves, Laid, leaves_for}
use Rattle.zst_dir.specs.Rows.{Rows}
use Rattle.zst_dir.specs.Spelling.{dir_bytes}
use Rattle.zst_extents.specs.StoredExtents.{HasExtents, extent_blocks, tree_blocks}
use Rattle.zst_extents.specs.UnmarkedExtents.{AreUnmarked, IsFullAfter, MayLeave, TakesEnough}
use Rattle.zst_extents.specs.declared.writes.StoredExtents.{StoredExtents}
use Rattle.zst_image.specs.Bodies.{Body, free_by}
use Rattle.zst_image.specs.Commits.{HasItsExtents, IsNextBody, KeepsDisk, Ready, commit_sectors}
use Rattle.zst_image.specs.declared.pool_state.PoolState.{PoolState}

-- of an image with this body these sectors are free: all from 8 on and below the end that aren't marked, and all from the end on
pub record AreAllUnmarked (body : Body) (marks : List ℕ) (space : FreeSectors) : Type 0 where
  pub end : space.end ≡ body.uber.end
  pub sectors : space.sectors ≡ body.uber.sectors
  pub extents : AreUnmarked marks body.uber.end space.free

-- only such sectors are free
pub record AreSomeUnmarked (body : Body) (marks : List ℕ) (space : FreeSectors) : Type 0 where
  pub end : space.end ≡ body.uber.end
  pub sectors : space.sectors ≡ body.uber.sectors
  pub unmarked : (sector : ℕ) → IsFree space sector → sector < body.uber.end → ¬ IsMarked marks sector

-- so many blocks the tree of a directory with these rows has
abbrev pub dir_blocks : Rows → ℕ
dir_blocks rows = tree_blocks (leaves_for (length (dir_bytes rows)))

-- of the sectors that were free blocks are taken in turn: enough for a directory with these rows and for so many extents, and no more than a commit takes of it and of as many as are left at some time
pub record TakesForFreed (rows : Rows) (count : ℕ) (marks : List ℕ) (old left : FreeSectors) : Type 0 where
  pub enough : TakesEnough (dir_blocks rows) count marks old left
  pub takes : TakesAtMost (commit_sectors (length (dir_bytes rows)) enough.most) (IsBlockLength 16) old left

-- below the end from before exactly those sectors from 8 on are free by the next body that weren't marked, and that it didn't take
abbrev pub AreLeftFree : (body : Body) (marks : List ℕ) (old left : FreeSectors) (next : Body) → Type 0
AreLeftFree body marks old left next =
    (sector : ℕ) → sector < body.uber.end → IsFree (free_by next) sector ↔ ((8 ≤ sector) × (¬ IsMarked marks sector) × ¬ (IsFree old sector × ¬ IsFree left sector))

-- the blocks that were there over all that isn't marked still are, over the sectors that the next body leaves free
abbrev pub KeepsMarked : (body : Body) (marks : List ℕ) (old new : List ℕ) (next : Body) → Type 0
KeepsMarked body marks old new next = (all : FreeSectors) → AreAllUnmarked body marks all → KeepsBlocks old all new (free_by next)

-- what is kept of such a commit of a directory with these rows, which followed on this body over an Io whose free sectors weren't marked
pub record FreedDir (body : Body) (rows : Rows) (marks : List ℕ) (old new : IoState) (kept : PoolState) : Type 0 where
  pub number : kept.body.uber.number ≡ body.uber.number + 1
  pub sectors : kept.body.uber.sectors ≡ body.uber.sectors
  pub dir : kept.dir ≡ rows
  -- what is left of the free sectors once it has written
  pub left : FreeSectors
  pub takes : TakesForFreed rows (length kept.body.free) marks old.space left
  pub end : kept.body.uber.end ≡ left.end
  pub exact : AreLeftFree body marks old.space left kept.body
  pub blocks : KeepsMarked body marks old.disk.seen new.disk.seen kept.body
  pub extents : HasItsExtents new.disk kept.body
  -- the sectors that are left are those that are free by it
  pub space : free_by kept.body ≡ new.space
  pub ready : Ready new.disk kept.body

-- E24 of such a commit: once so many blocks were taken in turn, no more than the directory and as many extents have as are left at some time, no free extent has the 16 sectors of one; and before it none had as many as a commit of these takes
pub record IsFreedFull (rows : Rows) (marks : List ℕ) (old new : FreeSectors) (need largest : ℕ) : Type 0 where
  pub taken : ℕ
  pub full_after : IsFullAfter taken old new need largest
  pub count : ℕ
  pub may_leave : MayLeave marks old taken count
  pub few : taken ≤ dir_blocks rows + extent_blocks count
  pub before : largest_of old < commit_sectors (length (dir_bytes rows)) count

-- How it goes before the commit.

-- a call that writes into free sectors alone, however many of them it takes, and reads no block
pub record Fills (old new : IoState) (stop : Option BlockFault) : Type 0 where
  pub fills : FillsFree old.disk old.space new.disk new.space
  pub disk : KeepsDisk (fails stop) false old new
  pub cause : HasCause old.disk.faults new.disk.faults stop

-- the text of a directory and that of free extents were laid in sectors that were free, in blocks that were taken in turn
pub record WritesTexts (number : ℕ) (bytes : List ℕ) (free : List Extent) (has : Blocks) (old new : FreeSectors) (tree : Tree) (stored : StoredExtents) : Type 0 where
  pub directory : HasLeaves (Laid number old has) tree.levels tree.root bytes
  pub extents : HasExtents (Laid number old has) stored.levels stored.root stored.count free
  pub taken : ℕ
  pub after : new ≡ without_blocks taken old
  pub few : taken ≤ tree_blocks (leaves_for (length bytes)) + extent_blocks (length free)

-- what the next body names was written, beside all that is marked, and what it leaves free are the sectors that it didn't take
pub record WritesFreed (body : Body) (rows : Rows) (marks : List ℕ) (old new : IoState) (next : Body) : Type 0 where
  pub is_next : IsNextBody (Has new.disk.seen (free_by next)) (free_by next) body body.uber.guids rows next
  pub takes : TakesForFreed rows (length next.free) marks old.space new.space
  pub end : next.uber.end ≡ new.space.end
  pub exact : AreLeftFree body marks old.space new.space next
  pub blocks : KeepsMarked body marks old.disk.seen new.disk.seen next

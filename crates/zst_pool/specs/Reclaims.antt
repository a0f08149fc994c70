-- What a reclaim of a pool writes, takes and makes free beside what sessions hold, and what stands after each command.
use Rattle.std.specs.Prelude.{◌≡◌, ◌⊎◌, ◌↔◌, ◌+◌, ◌<◌, ◌≤◌, ℕ, List, All, length, Result, Err, IfErr, OnErr, OnOk}
use Rattle.zst_outside.specs.Images.{DiskState}
use Rattle.zst_space.specs.FreeSectors.{FreeSectors, IsFree, IsInSome, largest_of}
use Rattle.zst_space.specs.TakenExtents.{without_blocks}
use Rattle.zst_space.specs.declared.space.Extent.{Extent}
use Rattle.zst_marks.specs.Marks.{Apart}
use Rattle.zst_block.specs.Blocks.{Has, IsBlock, KeepsBlocks, SparesTaken}
use Rattle.zst_block.specs.IoCalls.{IsBlockLength, TakesAtMost}
use Rattle.zst_dir.specs.Spelling.{dir_bytes}
use Rattle.zst_extents.specs.StoredExtents.{extent_blocks}
use Rattle.zst_extents.specs.UnmarkedExtents.{IsFullAfter}
use Rattle.zst_image.specs.Bodies.{Body, free_by}
use Rattle.zst_image.specs.Commits.{commit_sectors}
use Rattle.zst_image.specs.FreedCommits.{dir_blocks}
use Rattle.zst_image.specs.declared.pool_state.PoolState.{PoolState}
use Rattle.zst_roots.specs.Held.{HeldReaches}
use Rattle.zst_roots.specs.ReachedRows.{RowsReach}
use Rattle.zst_roots.specs.StandingRows.{HeldStands}
use Rattle.zst_roots.specs.Unreached.{IsReached, StaysReached}
use Rattle.zst_roots.specs.declared.held.HeldBlocks.{HeldBlocks}
use Rattle.zst_pool.specs.declared.fault.PoolFault.{PoolFault}
use Rattle.zst_pool.specs.declared.fault.PoolFault.TheVariants.{DiskFault, Full}

-- what each session holds stands by what a read gives, in sectors that the body leaves not free
abbrev pub HeldStand : DiskState → Body → List HeldBlocks → Type 0
HeldStand disk body held = All (HeldStands (Has disk.seen (free_by body))) held

-- Blocks that were there still are, over the sectors that the latest body then leaves free: those that stood in none of these sectors, which are those that the body from before left free and, of a reclaim, others that no row of the directory reaches and no session holds.
pub record SparesReached (held : List HeldBlocks) (old new : DiskState) (before after : PoolState) : Type 0 where
  pub over : FreeSectors
  pub more : (sector : ℕ) → IsFree (free_by before.body) sector → IsFree over sector
  pub unreached : (sector : ℕ) → RowsReach (IsBlock old.seen) before.dir sector ⊎ HeldReaches (IsBlock old.seen) held sector → IsFree over sector → IsFree (free_by before.body) sector
  pub blocks : KeepsBlocks old.seen over new.seen (free_by after.body)

-- These sectors are free: those below a pool's end that nothing reaches, by this image, by what is kept of it and by what sessions hold, and all from there on. The extents rise from sector 8 on, none is empty, and no two touch.
pub record AreUnreached (image : List ℕ) (kept : PoolState) (held : List HeldBlocks) (space : FreeSectors) : Type 0 where
  pub end : space.end ≡ kept.body.uber.end
  pub sectors : space.sectors ≡ kept.body.uber.sectors
  pub apart : Apart 8 space.free kept.body.uber.end
  pub below : (sector : ℕ) → sector < kept.body.uber.end → IsFree space sector ↔ ¬ IsReached (IsBlock image) kept.body.uber kept.dir held sector

-- So many free extents are left at some time while a reclaim takes no more than so many blocks in turn: those of the sectors from 8 on and below the end that don't stay reached, and that it didn't take by then.
pub record MayBeLeft (image : List ℕ) (kept : PoolState) (held : List HeldBlocks) (writable : FreeSectors) (taken count : ℕ) : Type 0 where
  -- so many blocks it took by then
  pub by : ℕ
  pub earlier : by ≤ taken
  pub extents : List Extent
  pub apart : Apart 8 extents kept.body.uber.end
  pub are : (sector : ℕ) → sector < kept.body.uber.end → IsInSome extents sector ↔ ((¬ StaysReached (IsBlock image) kept.dir held sector) × ¬ (IsFree writable sector × ¬ IsFree (without_blocks by writable) sector))
  pub counted : length extents ≡ count

-- of the sectors that nothing reaches a reclaim takes blocks in turn: enough for the directory and for so many free extents, and no more than its commit takes of it and of as many as are left at some time
pub record TakesUnreached (image : List ℕ) (kept : PoolState) (held : List HeldBlocks) (count : ℕ) (writable left : FreeSectors) : Type 0 where
  pub taken : ℕ
  pub after : left ≡ without_blocks taken writable
  pub enough : dir_blocks kept.dir + extent_blocks count ≤ taken
  pub most : ℕ
  pub may_be_left : MayBeLeft image kept held writable taken most
  pub few : taken ≤ dir_blocks kept.dir + extent_blocks most
  pub takes : TakesAtMost (commit_sectors (length (dir_bytes kept.dir)) most) (IsBlockLength 16) writable left

-- what a reclaim makes of a pool: the rows stay, and it wrote into sectors alone that nothing reached
pub record Reclaimed (image : List ℕ) (held : List HeldBlocks) (before after : PoolState) : Type 0 where
  pub rows : after.dir ≡ before.dir
  pub number : after.body.uber.number ≡ before.body.uber.number + 1
  pub sectors : after.body.uber.sectors ≡ before.body.uber.sectors
  -- into these it might write
  pub writable : FreeSectors
  pub unreached : AreUnreached image before held writable
  -- it took what its directory and the free extents that it leaves take, and these are left
  pub left : FreeSectors
  pub takes : TakesUnreached image before held (length after.body.free) writable left
  pub end : after.body.uber.end ≡ left.end
  -- below the end from before exactly those sectors are free that nothing reaches but the directory and the extents from before, and that it didn't take
  pub exact : (sector : ℕ) → sector < before.body.uber.end → IsFree (free_by after.body) sector ↔ ((¬ StaysReached (IsBlock image) before.dir held sector) × ¬ (IsFree writable sector × ¬ IsFree left sector))

-- E24 of a reclaim: of the sectors that nothing reached it took so many blocks in turn, no more than its directory and as many free extents have as are left at some time, and then no extent has the 16 sectors of one; and none of them were as many in a row as its commit takes of these
pub record FindsAllReached (image : List ℕ) (kept : PoolState) (held : List HeldBlocks) (left : FreeSectors) (need largest : ℕ) : Type 0 where
  pub writable : FreeSectors
  pub unreached : AreUnreached image kept held writable
  pub taken : ℕ
  pub full_after : IsFullAfter taken writable left need largest
  pub count : ℕ
  pub may_be_left : MayBeLeft image kept held writable taken count
  pub few : taken ≤ dir_blocks kept.dir + extent_blocks count
  pub before : largest_of writable < commit_sectors (length (dir_bytes kept.dir)) count

-- a reclaim, whatever the image is: what it made free, where it found no room, and that a refusal but that of the disk wrote into sectors alone that nothing reached
pub record Reclaims {T : Type 0} (held : List HeldBlocks) (old new : DiskState) (before after : PoolState) (left : FreeSectors) (result : Result T PoolFault) : Type 0 where
  pub done : OnOk result (Reclaimed old.seen held before after)
  pub full : IfErr result (λ fault. (need largest : ℕ) → fault ≡ Full need largest → FindsAllReached old.seen before held left need largest)
  pub spares : ¬ (result ≡ Err DiskFault) → OnErr result ((space : FreeSectors) → AreUnreached old.seen before held space → SparesTaken space old.seen new.seen)

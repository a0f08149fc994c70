-- The extents of sectors that are left unmarked, once the blocks of some trees were taken and marked.
use Rattle.std.specs.Prelude.{◌≡◌, ◌⊎◌, ◌↔◌, ℕ, ◌+◌, ◌*◌, ◌<◌, ◌≤◌, List, length}
use Rattle.zst_space.specs.FreeSectors.{FreeSectors, IsFree, IsInSome, IsSpaceFrom, Rise, largest_of, room}
use Rattle.zst_space.specs.TakenExtents.{without_blocks}
use Rattle.zst_space.specs.declared.space.Extent.{Extent}
use Rattle.zst_space.specs.declared.space.SpaceFault.{SpaceFault}
use Rattle.zst_marks.specs.Marks.{Apart, IsMarked, IsUnmarked}
use Rattle.zst_block.specs.IoCalls.{IsBlockLength, TakesAtMost}
use Rattle.zst_extents.specs.StoredExtents.{extent_blocks}

-- these are the extents of the sectors from 8 on and before the end that aren't marked: none is empty, and no two touch
pub record AreUnmarked (marks : List ℕ) (end : ℕ) (extents : List Extent) : Type 0 where
  pub apart : Apart 8 extents end
  pub are : (sector : ℕ) → IsInSome extents sector ↔ IsUnmarked marks 8 end sector

-- a sector before the end was taken
pub record IsGone (end : ℕ) (old new : FreeSectors) (sector : ℕ) : Type 0 where
  pub under : sector < end
  pub was_free : IsFree old sector
  pub taken : ¬ IsFree new sector

-- beside what was marked before, the sectors before the end that were taken are marked, and no others, by as many words
pub record MarksTaken (end : ℕ) (old new : FreeSectors) (before now : List ℕ) : Type 0 where
  pub marked : (sector : ℕ) → IsMarked now sector ↔ (IsGone end old new sector ⊎ IsMarked before sector)
  pub words : length now ≡ length before

-- So many extents are left at some time while no more than so many blocks are taken in turn: those of the sectors that aren't marked then.
pub record MayLeave (marks : List ℕ) (old : FreeSectors) (taken count : ℕ) : Type 0 where
  -- so many blocks were taken by then, and marked
  pub by : ℕ
  pub earlier : by ≤ taken
  pub now : List ℕ
  pub marked : MarksTaken old.end old (without_blocks by old) marks now
  pub extents : List Extent
  pub are : AreUnmarked now old.end extents
  pub counted : length extents ≡ count

-- from sector 8 on the free extents stand before this sector, and all from an end on that is no earlier is free
pub record IsSpaceUpTo (last : ℕ) (space : FreeSectors) : Type 0 where
  pub is_space : IsSpaceFrom 8 space
  pub below : Rise 8 space.free last
  pub later : last ≤ space.end

-- so many blocks of a tree were taken in turn, and marked where they stand before the end
pub record TakesMarked (end count : ℕ) (old new : FreeSectors) (before now : List ℕ) : Type 0 where
  pub after : new ≡ without_blocks count old
  pub takes : TakesAtMost (16 * count) (IsBlockLength 16) old new
  pub room_is : room new + 16 * count ≡ room old
  pub fewer : (sector : ℕ) → IsFree new sector → IsFree old sector
  pub left : IsSpaceUpTo end new
  pub marks : MarksTaken end old new before now

-- Blocks of a tree were taken in turn, no fewer than these and those of so many extents, and no more than these and those of as many extents as are left at some time.
pub record TakesEnough (blocks count : ℕ) (marks : List ℕ) (old new : FreeSectors) : Type 0 where
  pub taken : ℕ
  pub after : new ≡ without_blocks taken old
  pub takes : TakesAtMost (16 * taken) (IsBlockLength 16) old new
  pub room_is : room new + 16 * taken ≡ room old
  pub enough : blocks + extent_blocks count ≤ taken
  pub most : ℕ
  pub may_leave : MayLeave marks old taken most
  pub few : taken ≤ blocks + extent_blocks most

-- no free extent has the 16 sectors of one more block, once so many were taken in turn
pub record IsFullAfter (taken : ℕ) (old new : FreeSectors) (need largest : ℕ) : Type 0 where
  pub needed : need ≡ 16
  pub shorter : largest < need
  pub is_longest : largest ≡ largest_of new
  pub after : new ≡ without_blocks taken old

-- before the last of so many blocks no free extent has the 16 sectors of one, and at first none had those of all
pub record IsFullWithin (blocks : ℕ) (old new : FreeSectors) (full : SpaceFault) : Type 0 where
  pub taken : ℕ
  pub fewer : taken < blocks
  pub full_after : IsFullAfter taken old new full.need full.largest
  pub before : largest_of old < 16 * blocks

-- so it is of these blocks and those of as many extents as are left at some time
pub record IsFullFor (blocks : ℕ) (marks : List ℕ) (old new : FreeSectors) (full : SpaceFault) : Type 0 where
  pub count : ℕ
  pub full_within : IsFullWithin (blocks + extent_blocks count) old new full
  pub may_leave : MayLeave marks old full_within.taken count

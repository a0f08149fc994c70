-- Where a command finds no room, and what it takes otherwise.
use Rattle.std.specs.Prelude.{Option, None, Err}
use Rattle.std.proofs.Common.{◌≡◌, inl, ℕ, ◌+◌, ◌*◌, ◌/◌, ◌≤◌, Bool, true, length, subst, arith}
use Rattle.zst_outside.specs.Images.{DiskState}
use Rattle.zst_space.specs.FreeSectors.{FreeSectors}
use Rattle.zst_block.specs.IoCalls as blocks
use Rattle.zst_block.specs.IoCalls.{IsBlockLength, TakesAtMost}
use Rattle.zst_block.specs.IoStates.{IoState}
use Rattle.zst_block.specs.declared.fault.BlockFault.{BlockFault}
use Rattle.zst_block.proofs.TakenSectors.{takes_more, takes_then, takes_tree}
use Rattle.zst_model.specs.states.State.{is_block_size, largest_block}
use Rattle.zst_dir.specs.Rows.{Rows}
use Rattle.zst_dir.specs.Spelling.{dir_bytes}
use Rattle.zst_extents.proofs.TreeBlocks as trees
use Rattle.zst_pool.specs.Calls.{IsCallFull}
use Rattle.zst_pool.specs.Cost.{Grows, HasNoRoom, Spends, most_sectors}
use Rattle.zst_pool.specs.Heads.{Stops, rested}
use Rattle.zst_image.specs.Bodies.{free_by}
use Rattle.zst_image.specs.Reads.{dir_sectors}
use Rattle.zst_image.specs.Commits.{IsDirFull, commit_sectors}
use Rattle.zst_pool.specs.CommandRuns.{as_kept}
use Rattle.zst_pool.specs.declared.fault.PoolFault.{PoolFault}
use Rattle.zst_image.specs.declared.pool_state.PoolState.{PoolState}
use Rattle.zst_pool.proofs.TakenSectors.{fewer_extents, no_longer}

-- a block of data has 256 sectors at most
pub block-sectors : (size : ℕ) → is_block_size size ≡ true → size / 512 ≤ 256
unfolding is_block_size largest_block
block-sectors size is = grind arith

-- a longer directory takes no fewer sectors
pub dir-more : (count more : ℕ) → count ≤ more → dir_sectors count ≤ dir_sectors more
dir-more count more le = omega (arith, le)

-- and so a commit of it, beside more extents
pub commit-more : (count more extents beside : ℕ) → count ≤ more → extents ≤ beside → commit_sectors count extents ≤ commit_sectors more beside
commit-more count more extents beside le few = omega (arith, dir-more count more le, trees.fewer_extents extents beside few)

-- where a commit finds no room for rows that are no more than 2,048 bytes longer, its call does not
pub call_full : (space left : FreeSectors) (dir rows : Rows) (need largest : ℕ) → length (dir_bytes dir) ≤ length (dir_bytes rows) + 2048
    → TakesAtMost (commit_sectors (length (dir_bytes dir)) (length space.free)) (IsBlockLength 16) space left → IsDirFull space left dir need largest → IsCallFull space left rows need largest
call_full space left dir rows need largest longer takes full =
    let extents = length space.free in
    let more = commit-more (length (dir_bytes dir)) (length (dir_bytes rows) + 2048) extents extents longer (omega arith) in
    record {
      taken = takes_more (commit_sectors (length (dir_bytes dir)) extents) (commit_sectors (length (dir_bytes rows) + 2048) extents) space left more takes;
      shorter = full.shorter;
      needed = full.needed;
      is_longest = full.is_longest;
      before = omega (arith, full.before, more);
    }

-- a command that wrote so much: 640 sectors at most for each cell, one block of so many, and so many in blocks of a list
abbrev pub TakesSo : (cells block list : ℕ) → (old new : IoState) → Option BlockFault → Type 0
TakesSo cells block list old new stop = blocks.Works (block + list + 640 * cells) block old new stop

module _ (kept : PoolState) (cells block list : ℕ) {disk : DiskState} {failed : Bool} {checksum_errors reference : ℕ} {new : IoState} where
  -- what a command spends that stopped at a block's fault, or at none
  pub spends_fell : {stop : Option BlockFault} (fault : PoolFault) → Stops stop fault → TakesSo cells block list (rested disk failed checksum_errors reference kept) new stop
      → Spends cells block list kept new.space as_kept (Err fault)
  spends_fell {stop = stop} fault stops works = record {
    full = λ need largest same.
        let full = works.full need largest (stops.full need largest same) in
        let was = no_longer works.takes in
        let more : block + list + 640 * cells ≤ most_sectors cells block list kept.dir (length kept.body.free) = omega arith in
        let taken_more = takes_more (block + list + 640 * cells) (most_sectors cells block list kept.dir (length kept.body.free)) (free_by kept.body) new.space more works.takes in
        record { taken = taken_more; shorter = full.shorter; needed = full.needed; is_longest = full.is_longest; was_free = omega (arith, full.is_longest, was); room = omega (arith, full.before, more) };
    grows = tt;
    directory = tt;
  }

  -- what a command spends that came to its commit
  module _ (dir : Rows) {least : FreeSectors} (works : TakesSo cells block list (rested disk failed checksum_errors reference kept) new None)
      (takes : TakesAtMost (commit_sectors (length (dir_bytes dir)) (length new.space.free)) (IsBlockLength 16) new.space least) (grows : length (dir_bytes dir) ≤ length (dir_bytes kept.dir) + 1024) where
    -- the commit takes no more than that of the longest directory beside the body's free extents
    more : commit_sectors (length (dir_bytes dir)) (length new.space.free) ≤ commit_sectors (length (dir_bytes kept.dir) + 1024) (length kept.body.free)
    more = commit-more (length (dir_bytes dir)) (length (dir_bytes kept.dir) + 1024) (length new.space.free) (length kept.body.free) grows (fewer_extents works.takes)

    both : TakesAtMost (block + list + 640 * cells + commit_sectors (length (dir_bytes dir)) (length new.space.free)) (IsBlockLength block) (free_by kept.body) least
    both = takes_then (free_by kept.body) new.space least works.takes (takes_tree new.space least takes)

    taken : TakesAtMost (most_sectors cells block list kept.dir (length kept.body.free)) (IsBlockLength block) (free_by kept.body) least
    taken = takes_more (block + list + 640 * cells + commit_sectors (length (dir_bytes dir)) (length new.space.free)) (most_sectors cells block list kept.dir (length kept.body.free)) (free_by kept.body) least (omega (arith, more)) both

    pub spends_full : (need largest : ℕ) → IsDirFull new.space least dir need largest → HasNoRoom cells block list kept.body kept.dir least need largest
    spends_full need largest told =
        let was = no_longer both in
        record { taken = taken; shorter = told.shorter; needed = inl told.needed; is_longest = told.is_longest; was_free = omega (arith, told.is_longest, was); room = omega (arith, told.before, works.takes.longest, more) }

    pub spends_grows : (next : PoolState) → least ≡ free_by next.body → Grows (most_sectors cells block list kept.dir (length kept.body.free)) block kept.body next.body
    spends_grows next left = subst (TakesAtMost (most_sectors cells block list kept.dir (length kept.body.free)) (IsBlockLength block) (free_by kept.body)) left taken

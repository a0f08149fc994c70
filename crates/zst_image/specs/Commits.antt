-- What the commit of a directory does: it writes into free sectors alone, and then makes what it wrote the latest.
use Rattle.std.specs.Prelude.{◌≡◌, ◌⊎◌, ◌||◌, ◌+◌, ◌*◌, ◌<◌, ◌≤◌, ℕ, Bool, false, List, [], length, Result, Ok, Err, IfErr, OnErr, OnOk}
use Rattle.zst_outside.specs.Images.{DiskState, Leaves}
use Rattle.zst_space.specs.FreeSectors.{FreeSectors, IsFree, largest_of, room}
use Rattle.zst_marks.specs.Marks.{Apart}
use Rattle.zst_block.specs.Blocks.{FillsFree, Has, KeepsBlocks}
use Rattle.zst_block.specs.IoCalls.{IsBlockLength, TakesAtMost}
use Rattle.zst_block.specs.IoStates.{IoState}
use Rattle.zst_uber.specs.Body.{InRange}
use Rattle.zst_uber.specs.Commit.{LabelSettled}
use Rattle.zst_uber.specs.OpenAnswers.{IsLatest}
use Rattle.zst_uber.specs.Slots.{latest, IsNext}
use Rattle.zst_uber.specs.declared.uber.Uber.{Uber}
use Rattle.zst_model.specs.pools.Pool.{Pool, IsPool}
use Rattle.zst_dir.specs.Rows.{Rows}
use Rattle.zst_dir.specs.Spelling.{dir_bytes}
use Rattle.zst_tree.specs.Indices.{Blocks}
use Rattle.zst_extents.specs.StoredExtents.{HasExtents, extent_blocks}
use Rattle.zst_image.specs.Bodies.{Body}
use Rattle.zst_image.specs.Reads.{HasDir, Reads, RowsAre, Rests, bound_of, dir_sectors, free_by}
use Rattle.zst_image.specs.declared.commit_fault.CommitFault.{CommitFault}
use Rattle.zst_image.specs.declared.commit_fault.CommitFault.TheVariants.{Full, DiskFault, OutOfMemory}
use Rattle.zst_image.specs.declared.pool_state.PoolState.{PoolState}

-- a disk from which the next commit can be made: this body is in its ranges and, where the disk is honest, its latest, with nothing pending in sectors 0 to 7; and no other body is
-- read as the latest
pub record Ready (disk : DiskState) (body : Body) : Type 0 where
  pub in_range : InRange disk.size body.uber
  pub apart : Apart 8 body.free body.uber.end
  pub next : disk.honest → IsNext (body.uber.number + 1) (latest disk.seen)
  pub label : disk.honest → LabelSettled disk
  pub only : disk.honest → (found : Uber) → IsLatest disk.size found disk.seen → found ≡ body.uber

-- the free extents of a body stand in sectors that it leaves not free, as they do on each image that commands made
abbrev pub HasItsExtents : DiskState → Body → Type 0
HasItsExtents disk body = HasExtents (Has disk.seen (free_by body)) body.uber.free_levels body.uber.free_root body.uber.free_count body.free

-- these rows over these blocks are the next pool of this body, with this guid counter, by tight sets where that is said
pub record NextIs (tight : Bool) (has : Blocks) (body : Body) (guids : ℕ) (rows : Rows) (next : Pool) : Type 0 where
  pub id : next.id ≡ body.uber.id
  pub number : next.number ≡ body.uber.number + 1
  pub guid_counter : next.guids ≡ guids
  pub rows_are : RowsAre (bound_of tight next.number) has rows next
  pub lawful : IsPool next

-- the body of the next commit on this one, over these blocks: it goes on with the next number and this guid counter, and names a directory with these rows, and the extents of the sectors that are left
pub record IsNextBody (has : Blocks) (left : FreeSectors) (body : Body) (guids : ℕ) (rows : Rows) (next : Body) : Type 0 where
  pub version : next.uber.version ≡ body.uber.version
  pub id : next.uber.id ≡ body.uber.id
  pub number : next.uber.number ≡ body.uber.number + 1
  pub guid_counter : next.uber.guids ≡ guids
  pub sectors : next.uber.sectors ≡ body.uber.sectors
  pub end : next.uber.end ≡ left.end
  pub free : next.free ≡ left.free
  pub directory : HasDir has next.uber rows
  pub extents : HasExtents has next.uber.free_levels next.uber.free_root next.uber.free_count next.free
  pub apart : Apart 8 next.free next.uber.end

-- so many sectors a commit takes at most: those of a directory of so many bytes, and 16 for each block of so many extents
abbrev pub commit_sectors : (bytes extents : ℕ) → ℕ
commit_sectors bytes extents = dir_sectors bytes + 16 * extent_blocks extents

-- E24 of a commit of a directory with these rows: the 16 sectors of a block of it or of the extents are longer than what is free then, and before it no free extent had as many as the commit may take
pub record IsDirFull (old new : FreeSectors) (rows : Rows) (need largest : ℕ) : Type 0 where
  pub shorter : largest < need
  pub needed : need ≡ 16
  pub is_longest : largest ≡ largest_of new
  pub before : largest_of old < commit_sectors (length (dir_bytes rows)) (length old.free)

-- what stands after a fault: what stood before, unless the disk failed
abbrev pub Stays : Type 0 → CommitFault → Type 0
Stays before (Full need largest) = before
Stays before DiskFault = Unit {0}
Stays before OutOfMemory = before

-- what stands after a commit's answer
abbrev pub CommitAnswer : (PoolState → Type 0) → Type 0 → Result PoolState CommitFault → Type 0
CommitAnswer after before (Ok kept) = after kept
CommitAnswer after before (Err fault) = Stays before fault

-- an image has the latest body of another and all its blocks, also where more sectors are free
pub record KeepsImage (space : FreeSectors) (old new : List ℕ) : Type 0 where
  pub size : length new ≡ length old
  pub latest_stays : latest new ≡ latest old
  pub blocks : (more : FreeSectors) → ((sector : ℕ) → IsFree space sector → IsFree more sector) → KeepsBlocks old more new more

-- an image that keeps one from before a commit, or one that reads as the pool that the commit makes
abbrev pub OldOrNext : (tight : Bool) → FreeSectors → DiskState → Pool → List ℕ → Type 0
OldOrNext tight space old next c = ((d : List ℕ) × old.images d × KeepsImage space d c) ⊎ Reads tight next c

-- a commit of a pool, whatever stood before: inside it each image keeps one from before or reads as the pool; after a refusal that isn't the disk's, free sectors alone were written
pub record CommitsOver (tight : Bool) (old : DiskState) (old_space : FreeSectors) (new : DiskState) (new_space : FreeSectors) (next : Pool) (result : Result PoolState CommitFault) : Type 0 where
  pub moments : Leaves old new (OldOrNext tight old_space old next)
  pub answer : CommitAnswer (λ kept. Rests tight new kept.body kept.dir next) (FillsFree old old_space new new_space) result

-- a commit of the next pool: inside it each image reads as the pool before or as the next, and then by its answer
pub record Commits (tight : Bool) (start now : DiskState) (body : Body) (rows : Rows) (pool next : Pool) (result : Result PoolState CommitFault) : Type 0 where
  pub moments : Leaves start now (λ c. Reads tight pool c ⊎ Reads tight next c)
  pub answer : CommitAnswer (λ kept. Rests tight now kept.body kept.dir next) (Rests tight now body rows pool) result

-- what is kept of a commit of a directory with these rows, which followed on this body
pub record CommittedDir (body : Body) (rows : Rows) (old new : IoState) (kept : PoolState) : Type 0 where
  pub number : kept.body.uber.number ≡ body.uber.number + 1
  pub dir : kept.dir ≡ rows
  -- the blocks that were there still are, over the sectors that the new body leaves free
  pub blocks : KeepsBlocks old.disk.seen old.space new.disk.seen (free_by kept.body)
  pub extents : HasItsExtents new.disk kept.body
  -- the sectors that are left are those that are free by it
  pub space : free_by kept.body ≡ new.space
  pub ready : Ready new.disk kept.body

-- the sectors that a commit of a directory with these rows takes: so many at most, and for one leaf exactly its 16 where no extent is free; E24 tells what was free
pub record TakesForDir (rows : Rows) (old new : FreeSectors) (result : Result PoolState CommitFault) : Type 0 where
  pub takes : TakesAtMost (commit_sectors (length (dir_bytes rows)) (length old.free)) (IsBlockLength 16) old new
  pub one_leaf : old.free ≡ [] → length (dir_bytes rows) ≤ 8192 → OnOk result (room new + 16 ≡ room old)
  pub full : (need largest : ℕ) → result ≡ Err (Full need largest) → IsDirFull old new rows need largest

-- what a refused commit leaves: unless the disk failed, free sectors alone were written, the latest body is the one from before, and the next commit can follow on it
pub record RefusedDir (body : Body) (old new : IoState) (result : Result PoolState CommitFault) : Type 0 where
  pub fills : ¬ (result ≡ Err DiskFault) → OnErr result (FillsFree old.disk old.space new.disk new.space)
  pub refused : IfErr result (Stays (latest new.disk.seen ≡ latest old.disk.seen))
  pub stays : new.failed ≡ false → OnErr result (Ready new.disk body)

-- what stays of an Io: its disk is as long, it is the same reference, it counts as failed once it fell, and only what tells a damage may have counted a block that is damaged
pub record KeepsDisk (fell damaged : Bool) (old new : IoState) : Type 0 where
  pub size : new.disk.size ≡ old.disk.size
  pub failed : new.failed ≡ (old.failed || fell)
  pub told : damaged ≡ false → new.checksum_errors ≡ old.checksum_errors
  pub honest : new.disk.honest → old.disk.honest
  pub same : new.reference ≡ old.reference

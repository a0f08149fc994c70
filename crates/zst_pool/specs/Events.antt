-- What an event of a pool does: a step, a call of a receive, and what both commit.
use Rattle.std.specs.Prelude.{◌≡◌, ◌≢◌, ◌||◌, ◌+◌, ◌<◌, ◌≤◌, ◌^◌, ℕ, Bool, true, false, [], List, length, Result, Err, IfErr, IfOk, OnErr, OnOk}
use Rattle.zst_outside.specs.Images.{Leaves, OnlyReads}
use Rattle.zst_outside.specs.declared.disk.Disk.{Ghosts}
use Rattle.zst_space.specs.FreeSectors.{FreeSectors}
use Rattle.zst_block.specs.Blocks.{KeepsBlocks, SparesTaken}
use Rattle.zst_block.specs.IoCalls.{IsBlockLength, TakesAtMost, is_damage}
use Rattle.zst_block.specs.IoStates.{IoState, IsHonest, blocks_of, disk_of}
use Rattle.zst_block.specs.declared.io.Io.{Io}
use Rattle.zst_model.specs.declared.pools.command.Command.{Command}
use Rattle.zst_model.specs.declared.pools.command.Command.TheVariants as commands
use Rattle.zst_model.specs.declared.refusals.refusal.Refusal.{Refusal}
use Rattle.zst_model.specs.pools.Pool.{Partial as PlainPartial, Pool as Plain}
use Rattle.zst_model.specs.pools.Step.{stepped}
use Rattle.zst_dir.specs.Rows.{Rows}
use Rattle.zst_dir.specs.Spelling.{dir_bytes}
use Rattle.zst_dir.specs.declared.rows.Partial.{Partial}
use Rattle.zst_roots.specs.declared.held.HeldBlocks.{HeldBlocks}
use Rattle.zst_image.specs.Commits.{HasItsExtents, KeepsDisk, Ready, commit_sectors}
use Rattle.zst_image.specs.Bodies.{free_by}
use Rattle.zst_image.specs.Reads.{PartialIs, bound_of}
use Rattle.zst_image.specs.declared.pool_state.PoolState.{PoolState}
use Rattle.zst_pool.specs.Calls.{CallDid, CallGrows, CanCommit, IsAtRest, IsCallFault, IsCallFull, IsUnderWay, keeping}
use Rattle.zst_pool.specs.Cost.{FindsLess, Spends, cost_of}
use Rattle.zst_pool.specs.Damage.{IsOf, TellsDamage}
use Rattle.zst_pool.specs.Faults.{HasDiskCause, is_disk_fault}
use Rattle.zst_pool.specs.Queries.{stop_of}
use Rattle.zst_pool.specs.Reclaims.{HeldStand, Reclaims, SparesReached}
use Rattle.zst_pool.specs.StepAnswers.{BeforeOrAfter, StepAnswer}
use Rattle.zst_pool.specs.declared.fault.PoolFault.{PoolFault}
use Rattle.zst_pool.specs.declared.fault.PoolFault.TheVariants.{DiskFault, Failed, Full}
use Rattle.zst_pool.specs.declared.pool.Pool.{Pool}

-- how a commit ends over a disk and its free sectors, whatever the image is
pub record EndsCommit (kept : PoolState) (old new : IoState) (result : Result PoolState PoolFault) : Type 0 where
  -- the next commit can follow: after the body that was committed, and after a refusal, unless the disk failed, after the latest one
  pub ready : IfOk result (λ next. Ready new.disk next.body)
  pub stays : new.failed ≡ false → OnErr result (Ready new.disk kept.body)
  pub disk : KeepsDisk (is_disk_fault result) (is_damage (stop_of result)) old new
  pub cause : HasDiskCause old.disk.faults new.disk.faults result
  -- what is then left is what the body that was committed leaves free
  pub space : IfOk result (λ next. new.space ≡ free_by next.body)
  pub extents : IfOk result (λ next. HasItsExtents new.disk next.body)

-- what is kept once this directory was committed over these free sectors: its number is one more, it has its rows, and its body has as many sectors, and leaves free what was, less at most what the commit of such a directory takes
pub record FollowsBy (space : FreeSectors) (kept : PoolState) (dir : Rows) (next : PoolState) : Type 0 where
  pub rows : next.dir ≡ dir
  pub number : next.body.uber.number ≡ kept.body.uber.number + 1
  -- the last number is committed only once
  pub below : kept.body.uber.number < 2 ^ 63
  pub sectors : next.body.uber.sectors ≡ kept.body.uber.sectors
  pub takes : TakesAtMost (commit_sectors (length (dir_bytes dir)) (length space.free)) (IsBlockLength 16) space (free_by next.body)

module _ {D : Type 0} {g : Ghosts D} where
  -- nothing was read or written: the disk is as it was, and so are the mark of its failure, the count of blocks that were found damaged and its reference
  pub record SameDisk (old new : Io D g) : Type 0 where
    pub now : new.disk.now ≡ old.disk.now
    pub failed : new.failed ≡ old.failed
    pub checksum_errors : new.checksum_errors ≡ old.checksum_errors
    pub same : new.disk.ghost_name ≡ old.disk.ghost_name

  -- what was committed is kept, and its number is answered; a refusal is answered, and what was kept stays
  pub record KeepsCommitted (committed : Result PoolState PoolFault) (old new : Pool D g) (result : Result ℕ PoolFault) : Type 0 where
    pub kept : keeping new.kept result ≡ committed
    pub number : IfOk result (λ number. number ≡ new.kept.body.uber.number)
    pub stays : OnErr result (new.kept ≡ old.kept)

  -- how each event of a pool ends, whatever the image is
  pub record Settles {T : Type 0} (old new : Pool D g) (result : Result T PoolFault) : Type 0 where
    -- after a refusal what is kept stays
    pub stays : OnErr result (new.kept ≡ old.kept)
    -- a pool that has failed answers nothing else, and does nothing
    pub failed_pool : old.io.failed ≡ true → result ≡ Err Failed
    pub idle_disk : old.io.failed ≡ true → new.io.disk.now ≡ old.io.disk.now
    -- after Ok what the latest body leaves free is free, and the next commit can be made; after a refusal the sectors are those that were left then
    pub space : OnOk result (new.io.space ≡ free_by new.kept.body)
    pub works : OnOk result (CanCommit (disk_of new.io) new.io.space new.kept.body)
    -- and the latest body's free extents stand in sectors that it leaves not free, where those of the one before did
    pub extents : OnOk result (HasItsExtents (disk_of old.io) old.kept.body → HasItsExtents (disk_of new.io) new.kept.body)
    -- unless the disk failed, the next commit can follow once an event begins
    pub ready : new.io.failed ≡ false → Ready (disk_of new.io) new.kept.body
    pub failed : new.io.failed ≡ (old.io.failed || is_disk_fault result)
    -- a block that is found damaged is told so: only an event that answers E25 may have counted one
    pub told : is_damage (stop_of result) ≡ false → new.io.checksum_errors ≡ old.io.checksum_errors
    pub cause : HasDiskCause (disk_of old.io).faults (disk_of new.io).faults result
    pub honest : IsHonest new.io → IsHonest old.io
    pub same : new.io.disk.ghost_name ≡ old.io.disk.ghost_name

  -- a commit over an Io of what this definition makes of a partial state, after which the directory has these rows
  pub record CommitsPartial (definition : PlainPartial → Plain → Result Plain Refusal) (partial : Partial) (dir : Rows) (kept : PoolState) (old new : Io D g) (result : Result PoolState PoolFault) : Type 0 where
    -- from a start at which a pool was at rest, and since which blocks alone were written, each image is what is kept of that pool or of the next one, as the definition says; then one of them is at rest
    pub did : (tight : Bool) (start : D) (running : Plain) (plain : PlainPartial) → IsHonest new → IsUnderWay tight (g.state start) (disk_of old) old.space kept running
        → PartialIs (bound_of tight (running.number + 1)) (blocks_of old) partial plain → CallDid tight (g.state start) (disk_of new) kept running (definition plain running) result
    pub rows : IfOk result (λ next. next.dir ≡ dir)
    -- whatever the image is, there is no other refusal than E23, E24, E28 and E32
    pub known : IfErr result IsCallFault
    pub full : (need largest : ℕ) → result ≡ Err (Full need largest) → IsCallFull old.space new.space kept.dir need largest
    pub grows : IfOk result (CallGrows old.space kept)
    -- the blocks that were there still are, over the sectors that the new body leaves free
    pub blocks : IfOk result (λ next. KeepsBlocks (disk_of old).seen old.space (disk_of new).seen (free_by next.body))
    -- a refusal, but for that of the disk, wrote into free sectors alone, and the disk is as long
    pub spares : ¬ (result ≡ Err DiskFault) → OnErr result (SparesTaken old.space (disk_of old).seen (disk_of new).seen)
    pub size : (disk_of new).size ≡ (disk_of old).size

  -- a call that commits what this definition makes of a partial state, after which the directory has these rows
  pub record PutsPartial (definition : PlainPartial → Plain → Result Plain Refusal) (partial : Partial) (dir : Rows) (old new : Pool D g) (result : Result ℕ PoolFault) : Type 0 where
    -- from a start at which a pool was at rest, and since which blocks alone were written, each image is what is kept of that pool or of the next one, as the definition says; then one of them is at rest
    pub did : (tight : Bool) (start : D) (running : Plain) (plain : PlainPartial) → IsHonest new.io → old.io.failed ≡ false
        → IsUnderWay tight (g.state start) (disk_of old.io) old.io.space old.kept running → PartialIs (bound_of tight (running.number + 1)) (blocks_of old.io) partial plain
        → CallDid tight (g.state start) (disk_of new.io) old.kept running (definition plain running) (keeping new.kept result)
    pub rows : OnOk result (new.kept.dir ≡ dir)
    pub number : IfOk result (λ number. number ≡ new.kept.body.uber.number)
    -- whatever the image is, there is no other refusal than E23, E24, E28 and E32
    pub known : old.io.failed ≡ false → IfErr result IsCallFault
    pub full : (need largest : ℕ) → result ≡ Err (Full need largest) → IsCallFull old.io.space new.io.space old.kept.dir need largest
    pub grows : OnOk result (CallGrows old.io.space old.kept new.kept)
    -- the blocks that were there still are
    pub blocks : OnOk result (KeepsBlocks (disk_of old.io).seen old.io.space (disk_of new.io).seen new.io.space)
    -- a refusal, but for that of the disk, wrote into free sectors alone, and the disk is as long
    pub spares : ¬ (result ≡ Err DiskFault) → OnErr result (SparesTaken old.io.space (disk_of old.io).seen (disk_of new.io).seen)
    pub size : (disk_of new.io).size ≡ (disk_of old.io).size

  -- a step at this time: what it makes of a pool that was at rest, and what it takes and tells whatever the image is
  pub record StepDid (now : ℕ) (command : Command) (held : List HeldBlocks) (old new : Pool D g) (result : Result (List (List ℕ)) PoolFault) : Type 0 where
    -- at every moment each image reads as what is kept of the pool before the command, or of what the command makes of it
    pub moments : (tight : Bool) (running : Plain) → IsHonest new.io → IsAtRest tight (disk_of old.io) old.kept running
        → Leaves (disk_of old.io) (disk_of new.io) (BeforeOrAfter tight running (stepped [] now command running))
    -- after its answer what the definition makes of the pool is at rest; after a refusal the pool as it was is
    pub answer : (tight : Bool) (running : Plain) → IsHonest new.io → old.io.failed ≡ false → IsAtRest tight (disk_of old.io) old.kept running → HeldStand (disk_of old.io) old.kept.body held
        → StepAnswer tight (disk_of new.io) new.kept running (stepped [] now command running) result
    pub open_still : old.io.failed ≡ false → ¬ (result ≡ Err Failed)
    -- whatever the image is, a command but a reclaim takes no more than it costs at most, and E24 comes only where that isn't there
    pub spends : command ≢ commands.Reclaim → old.io.failed ≡ false
        → (block : ℕ) × (block ≤ (cost_of command).most) × Spends (cost_of command).cells block (cost_of command).most_list old.kept new.io.space (λ reply. new.kept) result
    -- where a pool was at rest, it takes no more than it costs there
    pub exact : command ≢ commands.Reclaim → (running : Plain) → IsHonest new.io → old.io.failed ≡ false → IsAtRest false (disk_of old.io) old.kept running
        → Spends (cost_of command).cells ((cost_of command).block running) ((cost_of command).list running) old.kept new.io.space (λ reply. new.kept) result
    -- and E24 comes there only where fewer sectors were free than it takes with the directory that it would leave
    pub short : command ≢ commands.Reclaim → (running : Plain) → IsHonest new.io → old.io.failed ≡ false → IsAtRest false (disk_of old.io) old.kept running
        → IfErr result (FindsLess (cost_of command).cells ((cost_of command).block running) ((cost_of command).list running) old.kept.body (stepped [] now command running))
    -- where it is refused it wrote free sectors alone, unless the disk failed
    pub spares : command ≢ commands.Reclaim → ¬ (result ≡ Err DiskFault) → OnErr result (SparesTaken (free_by old.kept.body) (disk_of old.io).seen (disk_of new.io).seen)
    -- and the blocks that were there still are then, over the sectors that the latest body leaves free
    pub blocks : command ≢ commands.Reclaim → ¬ (result ≡ Err DiskFault) → KeepsBlocks (disk_of old.io).seen (free_by old.kept.body) (disk_of new.io).seen (free_by new.kept.body)
    -- a reclaim makes free what nothing reaches, and takes of that
    pub reclaims : command ≡ commands.Reclaim → IsHonest new.io → old.io.failed ≡ false → Reclaims held (disk_of old.io) (disk_of new.io) old.kept new.kept new.io.space result
    -- unless the disk failed, what the rows from before reach and what sessions hold still stands after each command
    pub spared : IsHonest new.io → ¬ (result ≡ Err DiskFault) → SparesReached held (disk_of old.io) (disk_of new.io) old.kept new.kept
    -- E25 tells a damage of the object set of the command's dataset, or of what a reclaim walks, also where the image reads as no pool
    pub damaged : IsHonest new.io → IfErr result (IsOf (TellsDamage command held old.kept.body old.kept.dir (disk_of old.io)))

  -- a call that only answers reads the disk, and leaves what is kept
  pub record OnlyAnswers (old new : Pool D g) : Type 0 where
    pub reads : OnlyReads (disk_of old.io) (disk_of new.io)
    pub kept : new.kept ≡ old.kept

  -- what a call that looks something up does to the Io: the disk is only read
  pub record ReadsOnly {T : Type 0} (old new : Io D g) (result : Result T PoolFault) : Type 0 where
    pub reads : OnlyReads (disk_of old) (disk_of new)
    pub space : new.space ≡ old.space
    pub failed : new.failed ≡ (old.failed || is_disk_fault result)
    -- a block that is found damaged is told so
    pub told : is_damage (stop_of result) ≡ false → new.checksum_errors ≡ old.checksum_errors
    pub cause : HasDiskCause (disk_of old).faults (disk_of new).faults result
    pub same : new.disk.ghost_name ≡ old.disk.ghost_name

  -- a call that looks something up in a pool, whatever the image is
  pub record LooksUp {T : Type 0} (old new : Pool D g) (result : Result T PoolFault) : Type 0 where
    -- a pool that has failed answers nothing else, and does nothing
    pub failed_pool : old.io.failed ≡ true → result ≡ Err Failed
    pub idle_disk : old.io.failed ≡ true → new.io.disk.now ≡ old.io.disk.now
    -- it only reads
    pub reads_only : ReadsOnly old.io new.io result
    pub kept : new.kept ≡ old.kept

-- The commands that make content, one after another on a pool that runs.
use Rattle.std.specs.Prelude.{ℕ, ◌+◌, ◌≡◌, ◌≢◌, Bool, false, IfErr, OnOk, List, [], ◌∷◌, take, Some, Result, Ok, Err}
use Rattle.std.specs.List.{slice_get}
use Rattle.zst_outside.specs.Causes.{Rose}
use Rattle.zst_outside.specs.Images.{DiskState, Leaves}
use Rattle.zst_outside.specs.declared.disk.Disk.{Ghosts}
use Rattle.zst_space.specs.FreeSectors.{FreeSectors}
use Rattle.zst_block.specs.Blocks.{KeepsBlocks}
use Rattle.zst_block.specs.IoStates.{IsHonest, disk_of, io_of}
use Rattle.zst_gen.specs.Generated.{generated}
use Rattle.zst_model.specs.declared.pools.command.Command.{Command}
use Rattle.zst_model.specs.declared.refusals.refusal.Refusal.{Refusal}
use Rattle.zst_model.specs.declared.refusals.refusal.Refusal.TheVariants as refusals
use Rattle.zst_model.specs.pools.Pool.{Pool}
use Rattle.zst_image.specs.Commits.{Ready}
use Rattle.zst_image.specs.Bodies.{free_by}
use Rattle.zst_image.specs.declared.pool_state.PoolState.{PoolState}
use Rattle.zst_pool.specs.Calls.{IsAtRest}
use Rattle.zst_pool.specs.Faults.{pool_refusal}
use Rattle.zst_pool.specs.declared.fault.PoolFault.{PoolFault}
use Rattle.zst_pool.specs.declared.fault.PoolFault.TheVariants as faults
use Rattle.zst_pool.specs.declared.pool.Pool.{Pool as OpenedPool}
use Rattle.zst_sessions.specs.FullPools.{CommandIsShort}
use Rattle.zst_run.specs.Generating.{CommandGrew, GenEnds, GrewAlong, OneIsShort, ReadsMade, first_made, gen_line}
use Rattle.zst_run.specs.LaterDisks.{IsLater}

-- the line that tells the pool's number, or the refusal
abbrev pub lines_of : (steps : ℕ) → Result ℕ Refusal → Result (List (List ℕ)) Refusal
lines_of steps (Ok number) = Ok (gen_line steps number ∷ [])
lines_of steps (Err refusal) = Err refusal

-- so many first commands were accepted since a start, and the pool that they made is at rest
pub record HasMade (tight : Bool) (now steps count : ℕ) (pool : Pool) (start here' : DiskState) (kept : PoolState) : Type 0 where
  pub running : Pool
  pub is : first_made now steps count pool ≡ Ok running
  pub rests : IsAtRest tight here' kept running
  pub moments : Leaves start here' (ReadsMade tight now steps pool)

-- what stands after the command with this number: the pool that one more makes, or it ends so
abbrev pub NextStands : (tight : Bool) → (now steps number : ℕ) → Pool → DiskState → PoolState → Result (Unit {0}) PoolFault → Type 0
NextStands tight now steps number pool here' kept (Ok done) = (after : Pool) × (first_made now steps (number + 1) pool ≡ Ok after) × IsAtRest tight here' kept after
NextStands tight now steps number pool here' kept (Err fault) = GenEnds tight now steps pool here' (Err (pool_refusal fault))

-- the command with this number
pub record NextDid (tight : Bool) (now steps number : ℕ) (pool : Pool) (old new : DiskState) (kept : PoolState) (result : Result (Unit {0}) PoolFault) : Type 0 where
  pub moments : Leaves old new (ReadsMade tight now steps pool)
  pub stands : NextStands tight now steps number pool new kept result

-- all commands, up to the first that is refused
pub record AllDid (tight : Bool) (now steps : ℕ) (pool : Pool) (old new : DiskState) (answer : Result (List (List ℕ)) Refusal) : Type 0 where
  pub moments : Leaves old new (ReadsMade tight now steps pool)
  pub ends : GenEnds tight now steps pool new answer

-- a refusal of a pool, but not that the disk had failed before; that of the disk only where its count of faults rose
pub record IsStepRefusal (old new : DiskState) (refusal : Refusal) : Type 0 where
  pub one : (fault : PoolFault) × (refusal ≡ pool_refusal fault)
  pub alive : refusal ≢ refusals.Failed
  pub cause : refusal ≡ refusals.DiskFault → Rose old.faults new.faults

-- What the command with this number takes of the free sectors, whatever the image is: where it was done no more than it costs at most; where it found no room it was short of them, and what was kept stays.
pub record NextSpends (steps number : ℕ) (old new : PoolState) (left : FreeSectors) (here' : DiskState) (result : Result (Unit {0}) PoolFault) : Type 0 where
  pub grew : OnOk result ((command : Command) × (slice_get (generated steps) number ≡ Some command) × CommandGrew command old new)
  pub short : (need largest : ℕ) → result ≡ Err (faults.Full need largest)
      → (command : Command) × (slice_get (generated steps) number ≡ Some command) × CommandIsShort command old left need largest × Ready here' old.body

module _ {D : Type 0} {g : Ghosts D} where
  -- the command with this number, on a pool that the commands before it made
  pub record RunsNext (now steps number : ℕ) (old new : OpenedPool D g) (result : Result (Unit {0}) PoolFault) : Type 0 where
    pub says : (tight : Bool) (pool running : Pool) → IsHonest new.io → first_made now steps number pool ≡ Ok running → IsAtRest tight (disk_of old.io) old.kept running
        → NextDid tight now steps number pool (disk_of old.io) (disk_of new.io) new.kept result
    pub works : OnOk result (new.io.failed ≡ false)
    pub ready : OnOk result (Ready (disk_of new.io) new.kept.body)
    -- unless the disk failed, the blocks that were there still are, over the sectors that the latest body then leaves free
    pub blocks : ¬ (result ≡ Err faults.DiskFault) → KeepsBlocks (disk_of old.io).seen (free_by old.kept.body) (disk_of new.io).seen (free_by new.kept.body)
    pub spends : NextSpends steps number old.kept new.kept new.io.space (disk_of new.io) result
    pub why : IfErr result (λ fault. IsStepRefusal (disk_of old.io) (disk_of new.io) (pool_refusal fault))
    pub later : IsLater (io_of old.io) (io_of new.io)

  -- so many first commands ran since the pool was opened
  pub record RunsOn (now steps count : ℕ) (first pool : OpenedPool D g) : Type 0 where
    pub says : (tight : Bool) (plain : Pool) → IsHonest pool.io → IsAtRest tight (disk_of first.io) first.kept plain
        → HasMade tight now steps count plain (disk_of first.io) (disk_of pool.io) pool.kept
    pub works : pool.io.failed ≡ false
    pub ready : Ready (disk_of pool.io) pool.kept.body
    pub blocks : KeepsBlocks (disk_of first.io).seen (free_by first.kept.body) (disk_of pool.io).seen (free_by pool.kept.body)
    pub grew : GrewAlong (take count (generated steps)) first.kept pool.kept
    pub later : IsLater (io_of first.io) (io_of pool.io)

  -- all commands ran, up to the first that is refused
  pub record RunsAll (now steps : ℕ) (old new : OpenedPool D g) (result : Result ℕ Refusal) : Type 0 where
    pub says : (tight : Bool) (pool : Pool) → IsHonest new.io → IsAtRest tight (disk_of old.io) old.kept pool → AllDid tight now steps pool (disk_of old.io) (disk_of new.io) (lines_of steps result)
    pub stood : ¬ (result ≡ Err refusals.DiskFault) → KeepsBlocks (disk_of old.io).seen (free_by old.kept.body) (disk_of new.io).seen (free_by old.kept.body)
    pub full : (need largest : ℕ) → result ≡ Err (refusals.Full need largest) → OneIsShort steps old.kept (disk_of new.io) need largest
    pub why : IfErr result (IsStepRefusal (disk_of old.io) (disk_of new.io))
    pub later : IsLater (io_of old.io) (io_of new.io)

-- What a line that works on a pool leaves of its image, and what it answers.
use Rattle.std.specs.Prelude.{ℕ, ◌≡◌, ◌≢◌, ◌⊎◌, ◌↔◌, ◌*◌, ◌<◌, ◌≤◌, Bool, false, true, IfErr, OnErr, List, [], ◌∷◌, length, None, Some, Result, Ok, Err}
use Rattle.zst_outside.specs.Causes.{Rose}
use Rattle.zst_outside.specs.Images.{DiskState, Leaves, OnlyReads}
use Rattle.zst_bytes.specs.Bytes.{number_at}
use Rattle.zst_space.specs.FreeSectors.{FreeSectors}
use Rattle.zst_block.specs.Blocks.{SparesTaken}
use Rattle.zst_uber.specs.Slots.{latest}
use Rattle.zst_uber.specs.declared.TheConstants.{VERSION}
use Rattle.zst_image.specs.Bodies.{Body, free_by}
use Rattle.zst_model.specs.pools.AnswerLines.{ok_line}
use Rattle.zst_model.specs.pools.Pool.{Pool}
use Rattle.zst_model.specs.pools.Step.{Stepped, commits, stepped}
use Rattle.zst_model.specs.refusals.Refusal.{refusal_of}
use Rattle.zst_model.specs.declared.pools.command.Command.{Command}
use Rattle.zst_model.specs.declared.pools.command.Command.TheVariants as commands
use Rattle.zst_model.specs.declared.refusals.faults.Quantity.TheVariants as quantities
use Rattle.zst_model.specs.declared.refusals.subjects.PresentSubject.TheVariants as present
use Rattle.zst_model.specs.declared.refusals.plan_fault.PlanFault.{PlanFault}
use Rattle.zst_model.specs.declared.refusals.plan_fault.PlanFault.TheVariants as plans
use Rattle.zst_model.specs.declared.refusals.refusal.Refusal.{Refusal}
use Rattle.zst_model.specs.declared.refusals.refusal.Refusal.TheVariants as refusals
use Rattle.zst_dir.specs.Rows.{Rows}
use Rattle.zst_image.specs.Faults.{create_refusal, open_refusal}
use Rattle.zst_image.specs.CreateAnswers.{IsNew}
use Rattle.zst_image.specs.OpenAnswers.{IsOpened, TellsBody, TellsDir}
use Rattle.zst_image.specs.Reads.{IsNamedBy, Reads, ReadsAs, Rests, kept_rows, new_pool}
use Rattle.zst_image.specs.declared.create_fault.CreateFault.{CreateFault}
use Rattle.zst_image.specs.declared.open_fault.OpenFault.{OpenFault}
use Rattle.zst_image.specs.declared.pool_state.PoolState.{PoolState}
use Rattle.zst_pool.specs.Cost.{CostsMore, Grows, HasNoRoom, cost_of, most_sectors}
use Rattle.zst_pool.specs.Damage.{TellsDamage}
use Rattle.zst_pool.specs.Faults.{pool_refusal}
use Rattle.zst_pool.specs.Plans.{IsLimitOf, indices_end, is_by_rows, makes_list, numbers_end}
use Rattle.zst_pool.specs.Reclaims.{AreUnreached, FindsAllReached, Reclaimed}
use Rattle.zst_pool.specs.declared.fault.PoolFault.{PoolFault}

-- an image that stood before a command, or one that reads as the pool before it or as the pool after it
abbrev pub OldOrReads : (tight : Bool) → DiskState → Pool → Result Stepped Refusal → List ℕ → Type 0
OldOrReads tight here pool after image = here.images image ⊎ (Reads tight pool image ⊎ ((done : Stepped) × (after ≡ Ok done) × Reads tight done.pool image))

-- a refusal of making a pool, and one of opening it or of a command on it
abbrev pub OfMaking : Refusal → Type 0
OfMaking refusal = (fault : CreateFault) × (refusal ≡ create_refusal fault)

abbrev pub OfStepping : Refusal → Type 0
OfStepping refusal = ((fault : OpenFault) × (refusal ≡ open_refusal fault)) ⊎ ((fault : PoolFault) × (refusal ≡ pool_refusal fault))

-- one of these refusals, but not that the disk had failed before (E31); the disk's (E28) only where its count of faults rose
pub record IsPoolRefusal (Is : Refusal → Type 0) (here here' : DiskState) (refusal : Refusal) : Type 0 where
  pub one : Is refusal
  pub alive : refusal ≢ refusals.Failed
  pub cause : refusal ≡ refusals.DiskFault → Rose here.faults here'.faults

-- ---- commands

-- so many sectors a command takes at most in this pool, whose directory has these rows that last, beside this body's free extents
abbrev pub most_of : Command → Body → Rows → Pool → ℕ
most_of command body rows pool = most_sectors (cost_of command).cells ((cost_of command).block pool) ((cost_of command).list pool) (kept_rows rows) (length body.free)

-- what is kept of a pool with this body and these rows
abbrev pub as_kept : Body → Rows → PoolState
as_kept body rows = record { body = body; dir = kept_rows rows }

-- The command was done: the lines and the pool are the definition's, and no more sectors are taken than it costs; of a reclaim those are free then that nothing reached, but for what it wrote itself.
pub record IsDone (tight : Bool) (command : Command) (body : Body) (rows : Rows) (pool : Pool) (here here' : DiskState) (after : Result Stepped Refusal) (lines : List (List ℕ)) : Type 0 where
  pub done : Stepped
  pub accepts : after ≡ Ok done
  pub reply : lines ≡ done.reply
  pub next : Body
  pub directory : Rows
  pub rests : Rests tight here' next directory done.pool
  pub reclaims : command ≡ commands.Reclaim → Reclaimed here.seen [] (as_kept body rows) (as_kept next directory)
  pub grows : command ≢ commands.Reclaim → Grows (most_of command body rows pool) ((cost_of command).block pool) body next

-- there was no room for the sectors that are needed, by a command that costs so many cells and so many sectors of data and of a list
abbrev pub IsShort : (cells block list : ℕ) → Body → Rows → (need largest : ℕ) → Type 0
IsShort cells block list body rows need largest = (left : FreeSectors) × HasNoRoom cells block list body (kept_rows rows) left need largest

-- E24: the definition accepts; and but for a reclaim, of which Ran tells, there was less room than the command takes at most, and than it takes with the directory that it would leave
pub record IsFull (command : Command) (body : Body) (rows : Rows) (pool : Pool) (after : Result Stepped Refusal) (need largest : ℕ) : Type 0 where
  pub done : Stepped
  pub accepts : after ≡ Ok done
  pub short : command ≢ commands.Reclaim → IsShort (cost_of command).cells ((cost_of command).block pool) ((cost_of command).list pool) body rows need largest
  pub costs : command ≢ commands.Reclaim → CostsMore (cost_of command).cells ((cost_of command).block pool) ((cost_of command).list pool) body after

-- What stands after a command on the pool of this body and these rows. A refusal leaves the pool as it was, unless the
-- disk failed, and is the definition's, unless the disk is full or no memory is left.
abbrev pub Answers : (tight : Bool) → Command → Body → Rows → Pool → (here here' : DiskState) → Result Stepped Refusal → Result (List (List ℕ)) Refusal → Type 0
Answers tight command body rows pool here here' after (Ok lines) = IsDone tight command body rows pool here here' after lines
Answers tight command body rows pool here here' after (Err refusals.DiskFault) = Unit {0}
Answers tight command body rows pool here here' after (Err (refusals.Full need largest)) = IsFull command body rows pool after need largest × Rests tight here' body rows pool
Answers tight command body rows pool here here' after (Err refusals.OutOfMemory) = Rests tight here' body rows pool
Answers tight command body rows pool here here' after (Err refusal) = (after ≡ Err refusal) × Rests tight here' body rows pool

-- the latest body has this version, which is another
pub record HasVersion (here : DiskState) (number : ℕ) : Type 0 where
  pub body : List ℕ
  pub there : latest here.seen ≡ Some body
  pub version : number ≡ number_at body 8 4
  pub other : number ≢ VERSION

-- the latest body, its free extents and its directory, with these rows, are of the layout
abbrev pub Opens : DiskState → Body → Rows → Type 0
Opens here body rows = (bytes : List ℕ) × (latest here.seen ≡ Some bytes) × IsOpened here bytes body rows

-- What the directory tells alone: E3 to E6, E8, E14, E19, and E23 of datasets, snapshots, bookmarks and guids come exactly where the
-- definition refuses a pool that the body and the rows name, whatever its object sets hold. Any other E23 is past a limit.
pub record Planned (now : ℕ) (command : Command) (body : Body) (rows : Rows) (answer : Result (List (List ℕ)) Refusal) : Type 0 where
  pub exact : (pool : Pool) (fault : PlanFault) → IsNamedBy body (kept_rows rows) pool → is_by_rows fault ≡ true
      → (stepped [] now command pool ≡ Err (refusal_of fault)) ↔ (answer ≡ Err (refusal_of fault))
  pub limits : (fault : PlanFault) → answer ≡ Err (refusal_of fault)
      → (is_by_rows fault ≡ true) ⊎ IsLimitOf (numbers_end command) (indices_end command) (makes_list command) body fault

-- A reclaim that was refused, whatever the image is: E24 comes only where of what nothing reached no sectors in a row were as many as it may take, and but for E28 it wrote
-- into sectors alone that nothing reached.
pub record RefusesReclaim (here here' : DiskState) (kept : PoolState) (answer : Result (List (List ℕ)) Refusal) : Type 0 where
  pub full : (need largest : ℕ) → answer ≡ Err (refusals.Full need largest) → (left : FreeSectors) × FindsAllReached here.seen kept [] left need largest
  pub spares : OnErr answer ((space : FreeSectors) → AreUnreached here.seen kept [] space → SparesTaken space here.seen here'.seen)

-- A command on a pool that was opened by this body and these rows, whether or not the image reads as a pool: a refusal, but
-- for E28 and of a reclaim, wrote into sectors alone that the body leaves free; E24 comes only where there is less room than
-- the command may cost, and E25 only of a block that is damaged in an object set that the command names, or of a reclaim in
-- what it walks.
pub record Ran (now : ℕ) (command : Command) (here here' : DiskState) (answer : Result (List (List ℕ)) Refusal) (body : Body) (rows : Rows) : Type 0 where
  pub opens : Opens here body rows
  pub spares : command ≢ commands.Reclaim → OnErr answer (SparesTaken (free_by body) here.seen here'.seen)
  pub full : command ≢ commands.Reclaim → (need largest : ℕ) → answer ≡ Err (refusals.Full need largest)
      → (block : ℕ) × (block ≤ (cost_of command).most) × IsShort (cost_of command).cells block (cost_of command).most_list body rows need largest
  pub reclaims : command ≡ commands.Reclaim → RefusesReclaim here here' (as_kept body rows) answer
  pub damaged : (sector : ℕ) (stated found : List ℕ) → answer ≡ Err (refusals.Damaged sector stated found)
      → TellsDamage command [] body (kept_rows rows) here sector stated found
  pub planned : answer ≢ Err refusals.OutOfMemory → Planned now command body rows answer

-- What an answer says of any image. E26 comes where there is no latest body, E27 where it has another version, E25 where it,
-- its free extents or its directory isn't of the layout: then nothing is written. Any other answer comes where both are, E28 and E32 aside.
abbrev pub Opened : ℕ → Command → DiskState → DiskState → Result (List (List ℕ)) Refusal → Type 0
Opened now command here here' (Err refusals.NoPool) = (latest here.seen ≡ None) × OnlyReads here here'
Opened now command here here' (Err (refusals.BadVersion number)) = HasVersion here number × OnlyReads here here'
Opened now command here here' (Err (refusals.Damaged sector stated found)) =
    ((TellsBody here sector stated found ⊎ TellsDir here sector stated found) × OnlyReads here here')
    ⊎ ((body : Body) × (rows : Rows) × Ran now command here here' (Err (refusals.Damaged sector stated found)) body rows)
Opened now command here here' (Err refusals.DiskFault) = Unit {0}
Opened now command here here' (Err refusals.OutOfMemory) =
    OnlyReads here here' ⊎ ((body : Body) × (rows : Rows) × Ran now command here here' (Err refusals.OutOfMemory) body rows)
Opened now command here here' answer = (body : Body) × (rows : Rows) × Ran now command here here' answer body rows

-- What an answer says of any image, where a line did nothing but read it (Idle) until the pool was opened by a body and rows (Is). E26 comes where there is
-- no latest body, E27 where it has another version, E25 where it, its free extents or its directory isn't of the layout. Any other answer comes where all
-- are, but for E28 and E32 before anything is done.
abbrev pub SaysOfOpening : {T : Type 0} → (Idle : Type 0) → DiskState → (Is : Body → Rows → Type 0) → Result T Refusal → Type 0
SaysOfOpening Idle here Is (Err refusals.NoPool) = (latest here.seen ≡ None) × Idle
SaysOfOpening Idle here Is (Err (refusals.BadVersion number)) = HasVersion here number × Idle
SaysOfOpening Idle here Is (Err (refusals.Damaged sector stated found)) =
    ((TellsBody here sector stated found ⊎ TellsDir here sector stated found) × Idle) ⊎ ((body : Body) × (rows : Rows) × Is body rows)
SaysOfOpening Idle here Is (Err refusals.DiskFault) = Idle ⊎ ((body : Body) × (rows : Rows) × Is body rows)
SaysOfOpening Idle here Is (Err refusals.OutOfMemory) = Idle ⊎ ((body : Body) × (rows : Rows) × Is body rows)
SaysOfOpening Idle here Is answer = (body : Body) × (rows : Rows) × Is body rows

-- One command on the pool of an image: at every moment, and in the end, each image stood before it, or reads as the pool
-- before it or as what the definition makes of it, by tight object sets where it stood so. One that only answers reads the image.
pub record Stepping (now : ℕ) (command : Command) (here here' : DiskState) (answer : Result (List (List ℕ)) Refusal) : Type 0 where
  pub moments : (tight : Bool) (pool : Pool) → here'.honest → Reads tight pool here.seen → Leaves here here' (OldOrReads tight here pool (stepped [] now command pool))
  pub images : (tight : Bool) (pool : Pool) → here'.honest → Reads tight pool here.seen → (c : List ℕ) → here'.images c → OldOrReads tight here pool (stepped [] now command pool) c
  pub answers : (tight : Bool) (body : Body) (rows : Rows) (pool : Pool) → here'.honest → ReadsAs tight body rows pool here.seen
      → Answers tight command body rows pool here here' (stepped [] now command pool) answer
  pub opened : here'.honest → Opened now command here here' answer
  pub refused : IfErr answer (IsPoolRefusal OfStepping here here')
  pub idle : commits command ≡ false → OnlyReads here here'
  pub later : here.faults ≤ here'.faults

-- ---- making a pool

-- an empty pool with this id and so many sectors stands, by tight sets too
abbrev pub HasNew : ℕ → ℕ → DiskState → Type 0
HasNew sectors id here' = (kept : PoolState) × IsNew sectors kept × ((tight : Bool) → Rests tight here' kept.body kept.dir (new_pool id))

-- What stands after making a pool, and why it is refused: E4 where one is there, also a damaged one or one of another
-- version; E23 where the disk is too small. Both change nothing, and without memory there still is no pool.
abbrev pub Makes : ℕ → ℕ → DiskState → DiskState → Result (List (List ℕ)) Refusal → Type 0
Makes sectors id here here' (Ok lines) =
    (lines ≡ ok_line 1 ∷ []) × (latest here.seen ≡ None) × ¬ (here.size < 512 * sectors) × HasNew sectors id here'
Makes sectors id here here' (Err (refusals.Plan fault)) = (fault ≡ plans.Exists present.Pool) × (latest here.seen ≢ None) × OnlyReads here here'
Makes sectors id here here' (Err (refusals.Limit which number)) =
    (which ≡ quantities.Device) × (number ≡ sectors) × (latest here.seen ≡ None) × (here.size < 512 * sectors) × OnlyReads here here'
Makes sectors id here here' (Err refusals.OutOfMemory) = (latest here.seen ≡ None) × (latest here'.seen ≡ None)
Makes sectors id here here' (Err refusals.DiskFault) = Unit {0}
Makes sectors id here here' (Err refusal) = ⊥

-- Making a pool in an image: at every moment each image has the latest body that one had before, or reads as the new pool.
pub record Making (sectors id : ℕ) (here here' : DiskState) (answer : Result (List (List ℕ)) Refusal) : Type 0 where
  pub moments : (tight : Bool) → here'.honest → Leaves here here' (λ c. ((d : List ℕ) × here.images d × (latest c ≡ latest d)) ⊎ Reads tight (new_pool id) c)
  pub makes : here'.honest → Makes sectors id here here' answer
  pub refused : IfErr answer (IsPoolRefusal OfMaking here here')
  pub later : here.faults ≤ here'.faults

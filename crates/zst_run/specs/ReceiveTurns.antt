-- A receive that is under way, piece by piece.
use Rattle.std.specs.Prelude.{ℕ, ◌+◌, ◌-◌, ◌≡◌, ◌⊎◌, ◌<◌, ◌≤◌, Bool, true, false, IsTrue, IsSome, IfErr, All, List, [], ◌∷◌, ◌++◌, length, take, Option, None, Some, Result, Ok, Err}
use Rattle.std.specs.List.{concat}
use Rattle.zst_outside.specs.Causes.{Rose}
use Rattle.zst_outside.specs.Images.{DiskState, Leaves}
use Rattle.zst_outside.specs.States.{SourceState, Gave}
use Rattle.zst_outside.specs.declared.disk.Disk.{Ghosts}
use Rattle.zst_space.specs.FreeSectors.{FreeSectors}
use Rattle.zst_block.specs.Blocks.{Has, KeepsBlocks}
use Rattle.zst_block.specs.IoStates.{IsHonest, disk_of}
use Rattle.zst_dir.specs.Rows.{Rows}
use Rattle.zst_model.specs.declared.refusals.plan_fault.PlanFault.{PlanFault}
use Rattle.zst_model.specs.declared.refusals.refusal.Refusal.{Refusal}
use Rattle.zst_model.specs.declared.refusals.refusal.Refusal.TheVariants as refusals
use Rattle.zst_model.specs.declared.refusals.stream_fault.StreamFault.{StreamFault}
use Rattle.zst_model.specs.declared.refusals.stream_fault.StreamFault.TheVariants.{Truncated}
use Rattle.zst_model.specs.pools.KeptPool.{kept_of}
use Rattle.zst_model.specs.pools.Pool.{Pool, Partial}
use Rattle.zst_model.specs.states.State.{AreBytes}
use Rattle.zst_image.specs.Commits.{Ready}
use Rattle.zst_image.specs.Bodies.{free_by}
use Rattle.zst_image.specs.Reads.{Reads, bound_of}
use Rattle.zst_image.specs.declared.pool_state.PoolState.{PoolState}
use Rattle.zst_plan.specs.declared.receive.RecvAsk.{RecvAsk}
use Rattle.zst_pool.specs.Calls.{IsAtRest}
use Rattle.zst_pool.specs.declared.pool.Pool.{Pool as OpenedPool}
use Rattle.zst_reader.specs.InputReads.{stream_limit}
use Rattle.zst_reader.specs.StandsFor.{HandsOut, StandsFor}
use Rattle.zst_record.specs.Heads.{Covered}
use Rattle.zst_stream.specs.Findings.{IsFound}
use Rattle.zst_stream.specs.Reading.{complete, faulty, reading, waiting}
use Rattle.zst_recv.specs.Answers.{received_of}
use Rattle.zst_recv.specs.Faults.{IsFeedFault, recv_refusal}
use Rattle.zst_recv.specs.Feeds.{receives, new_records}
use Rattle.zst_recv.specs.Plans.{RefusesOne}
use Rattle.zst_recv.specs.Costs.{PieceGrows, PieceIsShort}
use Rattle.zst_recv.specs.Damage.{IsDamagedFeed, MakesStage}
use Rattle.zst_recv.specs.ReceiveSteps.{Stage, Waits, Lives, Goes, Ends, pool_of}
use Rattle.zst_recv.specs.Stages as standing
use Rattle.zst_recv.specs.Stages.{RecvFits, ask_of, fed_of, is_live, is_waiting, reader_of, received_by, stage_of}
use Rattle.zst_recv.specs.declared.fault.RecvFault.{RecvFault}
use Rattle.zst_recv.specs.declared.recv.Recv.{Recv}
use Rattle.zst_recv.specs.declared.stage.Stage as coded
use Rattle.zst_recv.specs.declared.stage.Stage.TheVariants as stages
use Rattle.zst_replication.specs.RecordCounts.{Counts}
use Rattle.zst_run.specs.Dumps.{NoFault}
use Rattle.zst_run.specs.Receives.{ArePieces, IsDamagedReceive, IsOpen, IsTightOrNew, MadeBy, ReceiveEnds, SaysOfPlan, SaysOfText, piece_size, receipt_line, GrewBy, PiecesFindNoRoom}
use Rattle.zst_run.specs.declared.receive.End.{End}
use Rattle.zst_run.specs.declared.receive.End.TheVariants.{Ended, Failed}
use Rattle.zst_run.specs.declared.receive.Receipt.{Receipt}
use Rattle.zst_run.specs.declared.receive.Turn.{Turn}
use Rattle.zst_run.specs.declared.receive.Turn.TheVariants as turns

-- ---- reading a piece

-- the input gave so many bytes into a room of some size: as many as that has, unless it ended or failed behind them
abbrev pub Fills : SourceState → SourceState → (size count : ℕ) → Option End → Type 0
Fills input input' size count None = (count ≡ size) × NoFault input input'
Fills input input' size count (Some Ended) = IsTrue input'.ended × NoFault input input'
Fills input input' size count (Some Failed) = Rose input.faults input'.faults

-- the pieces with one more, unless it is empty
abbrev pub with_piece : List (List ℕ) → List ℕ → List (List ℕ)
with_piece pieces [] = pieces
with_piece pieces (byte ∷ rest) = pieces ++ (byte ∷ rest) ∷ []

-- ---- between two pieces

-- the pieces left the receive waiting for more
abbrev pub WentOn : RecvAsk → Pool → List (List ℕ) → Type 0
WentOn ask pool pieces = (after : Pool) × (stage : Stage) × (receives ask pool pieces ≡ Goes after stage) × IsOpen stage

-- so did those before each of them
abbrev pub Wanted : RecvAsk → Pool → List (List ℕ) → Type 0
Wanted ask pool pieces = (n : ℕ) → n < length pieces → WentOn ask pool (take n pieces)

-- an image that reads as what is kept of the pool that stands after some of the pieces
abbrev pub ReadsAlong : (tight : Bool) → RecvAsk → Pool → List (List ℕ) → List ℕ → Type 0
ReadsAlong tight ask pool pieces image = (n : ℕ) × Reads tight (kept_of (pool_of (receives ask pool (take n pieces)))) image

-- as long as BEGIN isn't covered, a plan may still look at how late the target's head was changed
abbrev pub MayPlan : (tight : Bool) → RecvAsk → Stage → Pool → Type 0
MayPlan tight ask Waits pool = IsTightOrNew tight ask pool
MayPlan tight ask (Lives flags partial) pool = Unit {0}
MayPlan tight ask (Ends partial) pool = Unit {0}

-- the pool at rest is what the pieces make of the one at the start, and the receive was fed them all and waits for more
pub record WaitsForMore (tight : Bool) (now : DiskState) (kept : PoolState) (recv : Recv) (ask : RecvAsk) (pool : Pool) (pieces : List (List ℕ)) (items : ℕ) : Type 0 where
  pub after : Pool
  pub stage : Stage
  pub is : receives ask pool pieces ≡ Goes after stage
  pub live : IsOpen stage
  pub rests : IsAtRest tight now kept after
  pub may : MayPlan tight ask stage after
  pub fed : standing.Receives (bound_of tight after.number) (Has now.seen (free_by kept.body)) recv (concat pieces) stage
  pub bytes : AreBytes (concat pieces)
  pub counted : Counts (concat pieces) stage items
  pub wanted : Wanted ask pool pieces

-- with the last of them END was covered: the snapshot stands, and the receive tells it
pub record IsReceived (tight : Bool) (now : DiskState) (kept : PoolState) (recv : Recv) (ask : RecvAsk) (pool : Pool) (pieces : List (List ℕ)) (items : ℕ) : Type 0 where
  pub after : Pool
  pub partial : Partial
  pub is : receives ask pool pieces ≡ Goes after (Ends partial)
  pub rests : IsAtRest tight now kept after
  pub snapshot : received_by recv ≡ Some (received_of partial)
  pub counted : items ≡ length (reading (concat pieces)).covered - 2

-- ---- one piece more

-- a piece that goes on is whole, and one that was fed has some bytes
abbrev pub IsPieceOf : Turn → List ℕ → Type 0
IsPieceOf turns.More piece = length piece ≡ piece_size
IsPieceOf turns.Received piece = (0 < length piece) × (length piece ≤ piece_size)
IsPieceOf (turns.Over end) piece = length piece ≤ piece_size
IsPieceOf (turns.Refused refusal) piece = (0 < length piece) × (length piece ≤ piece_size)

-- what follows a piece that left the receive waiting
abbrev pub turn_behind : Option End → Turn
turn_behind None = turns.More
turn_behind (Some end) = turns.Over end

-- what became of the input meanwhile
abbrev pub IsInputOf : SourceState → SourceState → Turn → Type 0
IsInputOf input input' turns.More = NoFault input input'
IsInputOf input input' turns.Received = Unit {0}
IsInputOf input input' (turns.Over Ended) = IsTrue input'.ended × NoFault input input'
IsInputOf input input' (turns.Over Failed) = Rose input.faults input'.faults
IsInputOf input input' (turns.Refused refusal) = Unit {0}

-- what stands after a turn: more is waited for, the snapshot, or what a refusal leaves
abbrev pub TurnStands : (tight : Bool) → DiskState → PoolState → Recv → RecvAsk → Pool → List (List ℕ) → ℕ → Turn → Type 0
TurnStands tight now kept recv ask pool pieces items turns.More = WaitsForMore tight now kept recv ask pool pieces items
TurnStands tight now kept recv ask pool pieces items turns.Received = IsReceived tight now kept recv ask pool pieces items
TurnStands tight now kept recv ask pool pieces items (turns.Over end) = WaitsForMore tight now kept recv ask pool pieces items
TurnStands tight now kept recv ask pool pieces items (turns.Refused refusal) = (input input' : SourceState) → ReceiveEnds tight ask pool pieces now input input' (Err refusal)

-- a receive of these pieces came so far, from a pool at the start
pub record Turned (tight : Bool) (old now : DiskState) (kept : PoolState) (recv : Recv) (ask : RecvAsk) (pool : Pool) (pieces : List (List ℕ)) (items : ℕ) (turn : Turn) : Type 0 where
  pub wanted : Wanted ask pool pieces
  pub moments : Leaves old now (ReadsAlong tight ask pool pieces)
  pub stands : TurnStands tight now kept recv ask pool pieces items turn

-- Whatever the image, the receive stands for this text
abbrev pub HasFed : Recv → List ℕ → Type 0
HasFed recv text = (handed : List Covered) × StandsFor (reader_of recv) text handed

-- and what a turn says of all that was fed: one that goes on stands for it, END comes where its reading is complete, and a refusal that is a fault of a stream is that of its reading.
abbrev pub TurnReads : Recv → List ℕ → Turn → Type 0
TurnReads recv text turns.More = HasFed recv text
TurnReads recv text turns.Received = (reading text).outcome ≡ complete
TurnReads recv text (turns.Over end) = HasFed recv text
TurnReads recv text (turns.Refused refusal) = (fault : StreamFault) → refusal ≡ refusals.Stream fault → IsFound fault × ((reading text).outcome ≡ faulty fault)

-- What the plan says of a receive that goes on, over the rows at its start, whatever the image: as long as it waits for BEGIN the rows stay, and nothing is
-- covered; behind it the plan has passed, of each pool that the rows name.
pub record PlansOn (rows : Rows) (kept : PoolState) (recv : Recv) (text : List ℕ) : Type 0 where
  pub fed : HasFed recv text
  pub waits : is_waiting recv ≡ true → (kept.dir ≡ rows) × ((reading text).covered ≡ [])
  pub passed : is_waiting recv ≡ false → (more : List ℕ) (fault : PlanFault) → RefusesOne rows (ask_of recv) (text ++ more) fault → ⊥

-- and of a turn, behind which all of this text was fed
abbrev pub TurnPlans : Rows → RecvAsk → PoolState → Recv → List ℕ → Turn → Type 0
TurnPlans rows ask kept recv text turns.More = PlansOn rows kept recv text
TurnPlans rows ask kept recv text turns.Received = (fault : PlanFault) → length text ≤ stream_limit → RefusesOne rows ask text fault → ⊥
TurnPlans rows ask kept recv text (turns.Over end) = PlansOn rows kept recv text
TurnPlans rows ask kept recv text (turns.Refused refusal) = SaysOfPlan rows ask text (Err refusal)

-- Whatever the image, the receive has handed out all that this text covers
abbrev pub HasHanded : Recv → List ℕ → Type 0
HasHanded recv text = (handed : List Covered) × HandsOut (reader_of recv) text handed waiting

-- and behind a piece more that is taken it has again, and where it goes on no more is taken than that costs; where it found no room, it costs more than was free.
abbrev pub TurnSpends : (kept kept' : PoolState) → Recv → (text piece : List ℕ) → Turn → Type 0
TurnSpends kept kept' recv text piece turns.More = HasHanded recv (text ++ piece) × PieceGrows (new_records text piece) kept kept'
TurnSpends kept kept' recv text piece turns.Received = Unit {0}
TurnSpends kept kept' recv text piece (turns.Over end) = HasHanded recv (text ++ piece)
TurnSpends kept kept' recv text piece (turns.Refused refusal) =
    (need largest : ℕ) → refusal ≡ refusals.Full need largest → (left : FreeSectors) × PieceIsShort (new_records text piece) kept left need largest

-- One turn: a piece was read, and fed behind those before.
pub record Turns (old now : DiskState) (kept kept' : PoolState) (recv recv' : Recv) (items items' : ℕ) (input input' : SourceState) (turn : Turn) : Type 0 where
  pub piece : List ℕ
  pub gave : Gave input input' piece
  pub sized : IsPieceOf turn piece
  pub input_is : IsInputOf input input' turn
  pub reads : (text : List ℕ) → HasFed recv text → TurnReads recv' (text ++ piece) turn
  pub spends : (text : List ℕ) → HasHanded recv text → TurnSpends kept kept' recv' text piece turn
  pub says : (tight : Bool) (pool : Pool) (pieces : List (List ℕ)) → now.honest → WaitsForMore tight old kept recv (ask_of recv) pool pieces items
      → Turned tight old now kept' recv' (ask_of recv) pool (with_piece pieces piece) items' turn

-- a refusal of a feed, but not that the disk had failed before; that of the disk only where its count of faults rose
pub record IsFeedRefusal (old now : DiskState) (refusal : Refusal) : Type 0 where
  pub one : (fault : RecvFault) × IsFeedFault fault × (refusal ≡ recv_refusal fault)
  pub alive : refusal ≡ refusals.Failed → ⊥
  pub cause : refusal ≡ refusals.DiskFault → Rose old.faults now.faults

-- a refusal tells a damaged block
abbrev pub is_damaged : Refusal → Bool
is_damaged (refusals.Damaged sector stated found) = true
is_damaged _ = false

-- so does a turn, and the end of a receive
abbrev pub turn_damaged : Turn → Bool
turn_damaged turns.More = false
turn_damaged turns.Received = false
turn_damaged (turns.Over end) = false
turn_damaged (turns.Refused refusal) = is_damaged refusal

abbrev pub ends_damaged : {T : Type 0} → Result T Refusal → Bool
ends_damaged (Ok value) = false
ends_damaged (Err refusal) = is_damaged refusal

-- a receive that goes on is live, over a pool that works, and one that doesn't has its snapshot or its refusal
abbrev pub LivesOrEnds : (old now : DiskState) → (recv recv' : Recv) → (failed : Bool) → Turn → Type 0
LivesOrEnds old now recv recv' failed turns.More = (is_live (stage_of recv') ≡ true) × (failed ≡ false) × (fed_of recv' ≡ fed_of recv + piece_size)
LivesOrEnds old now recv recv' failed turns.Received = IsSome (received_by recv')
LivesOrEnds old now recv recv' failed (turns.Over end) = (is_live (stage_of recv') ≡ true) × (failed ≡ false)
LivesOrEnds old now recv recv' failed (turns.Refused refusal) = IsFeedRefusal old now refusal

module _ {D : Type 0} {g : Ghosts D} where
  -- a receive that can be fed: it is live, and what it keeps is in its ranges, over a pool that works and whose next commit can be made
  pub record CanFeed (pool : OpenedPool D g) (recv : Recv) : Type 0 where
    pub live : is_live (stage_of recv) ≡ true
    pub fits : RecvFits pool.kept.dir recv
    pub works : pool.io.failed ≡ false
    pub ready : Ready (disk_of pool.io) pool.kept.body

  -- What a turn leaves of a receive and its pool, whatever the image: it can be fed again where it goes on, but for a fault of the disk the next commit can
  -- be made, and a stream has no more bytes than it may have.
  pub record TurnLeaves (old new : OpenedPool D g) (recv recv' : Recv) (turn : Turn) : Type 0 where
    pub ends : LivesOrEnds (disk_of old.io) (disk_of new.io) recv recv' new.io.failed turn
    pub within : fed_of recv' ≤ stream_limit
    pub ask : ask_of recv' ≡ ask_of recv
    pub fits : RecvFits new.kept.dir recv'
    pub ready : new.io.failed ≡ false → Ready (disk_of new.io) new.kept.body
    -- a block that is found damaged is told so
    pub told : turn_damaged turn ≡ false → new.io.checksum_errors ≡ old.io.checksum_errors

module _ {D : Type 0} {g : Ghosts D} where
  -- What a turn leaves of the blocks, whatever the image: one that goes on each that was there, over the sectors that the latest body leaves free, and any, unless
  -- the disk failed, each in sectors that the body before left not free; one that waits for BEGIN committed nothing.
  pub record TurnBlocks (old new : OpenedPool D g) (recv recv' : Recv) (turn : Turn) : Type 0 where
    pub blocks : turn ≡ turns.More → KeepsBlocks (disk_of old.io).seen (free_by old.kept.body) (disk_of new.io).seen (free_by new.kept.body)
    pub stood : ¬ (turn ≡ turns.Refused refusals.DiskFault) → KeepsBlocks (disk_of old.io).seen (free_by old.kept.body) (disk_of new.io).seen (free_by old.kept.body)
    pub size : (disk_of new.io).size ≡ (disk_of old.io).size
    pub waits : is_waiting recv' ≡ true → (new.kept ≡ old.kept) × (is_waiting recv ≡ true)

  -- What a turn makes of the set, whatever the image, behind which all of this text was fed: the set of a partial state that goes on was made of the one that the
  -- turn began with, and E25 tells a damage of that one.
  pub record TurnSets (old new : OpenedPool D g) (recv recv' : Recv) (text : List ℕ) (turn : Turn) : Type 0 where
    pub makes : IsHonest new.io → turn ≡ turns.More
        → MakesStage old.kept.dir (ask_of recv) text (disk_of old.io).seen (free_by old.kept.body) (disk_of old.io).size (stage_of recv) (disk_of new.io).seen (free_by new.kept.body) (stage_of recv')
    pub damaged : (sector : ℕ) (stated found : List ℕ) → IsHonest new.io → turn ≡ turns.Refused (refusals.Damaged sector stated found)
        → IsDamagedFeed (disk_of old.io) (free_by old.kept.body) old.kept.dir (ask_of recv) text (stage_of recv) sector stated found

-- the set of a partial state that is under way by this text was made from the rows at the start; and while BEGIN is waited for, these still are
abbrev pub Traced : DiskState → PoolState → RecvAsk → (text : List ℕ) → List ℕ → PoolState → coded.Stage → Type 0
Traced start first ask text seen kept stages.Waits = kept ≡ first
Traced start first ask text seen kept (stages.Lives flags row) = (pieces : ℕ) × MadeBy pieces start.seen start.size (free_by first.body) first.dir ask text seen (free_by kept.body) row.objects
Traced start first ask text seen kept (stages.Ends row) = Unit {0}
Traced start first ask text seen kept (stages.Done received) = Unit {0}
Traced start first ask text seen kept stages.Over = Unit {0}

-- a receive that was given nothing yet
pub record IsUnfed (recv : Recv) : Type 0 where
  pub reads : StandsFor (reader_of recv) [] []
  pub hands : HasHanded recv []
  pub waits : is_waiting recv ≡ true

-- Whole pieces were read and fed, and the receive waits for more.
pub record Feeding (old now : DiskState) (kept kept' : PoolState) (recv recv' : Recv) (items : ℕ) (input input' : SourceState) : Type 0 where
  pub pieces : List (List ℕ)
  pub whole : All (λ piece. length piece ≡ piece_size) pieces
  pub consumed : Gave input input' (concat pieces)
  pub no_fault : NoFault input input'
  pub reads : HasFed recv' (concat pieces)
  pub hands : HasHanded recv' (concat pieces)
  pub grew : GrewBy kept kept' pieces
  pub says : (tight : Bool) (pool : Pool) → now.honest → WaitsForMore tight old kept recv (ask_of recv) pool [] 0 → Turned tight old now kept' recv' (ask_of recv) pool pieces items turns.More

-- ---- all of them

-- so it is refused, by E20, or the input failed, and its count of faults rose
abbrev pub IsEnd : (old now : DiskState) → (input input' : SourceState) → Refusal → Type 0
IsEnd old now input input' refusal =
    IsFeedRefusal old now refusal ⊎ (((at : ℕ) × (refusal ≡ refusals.Stream (Truncated at))) ⊎ ((refusal ≡ refusals.SourceFault) × Rose input.faults input'.faults))

module _ {D : Type 0} {g : Ghosts D} where
  -- Why a receive of what is asked ends by this answer, whatever the image: each refusal has its cause, E25 tells a damage of a set that was made from the rows at
  -- the start by what was read, and unless the disk failed each block still stands that stood in sectors which the body left not free.
  pub record WhyReceiveEnds (old new : OpenedPool D g) (ask : RecvAsk) (input input' : SourceState) (result : Result Receipt Refusal) : Type 0 where
    pub refused : IfErr result (IsEnd (disk_of old.io) (disk_of new.io) input input')
    -- a block that is found damaged is told so
    pub told : ends_damaged result ≡ false → new.io.checksum_errors ≡ old.io.checksum_errors
    pub damaged : (text : List ℕ) → Gave input input' text → (sector : ℕ) (stated found : List ℕ) → IsHonest new.io → result ≡ Err (refusals.Damaged sector stated found)
        → IsDamagedReceive (disk_of old.io).seen (disk_of old.io).size old.kept.body old.kept.dir ask text sector stated found
    pub stood : ¬ (result ≡ Err refusals.DiskFault) → KeepsBlocks (disk_of old.io).seen (free_by old.kept.body) (disk_of new.io).seen (free_by old.kept.body)

-- what ends a receive whose input gave no more
abbrev pub cut_refusal : End → ℕ → Refusal
cut_refusal Ended count = refusals.Stream (Truncated count)
cut_refusal Failed count = refusals.SourceFault

-- the line of what was received
abbrev pub line_of : Receipt → List ℕ
line_of receipt = receipt_line receipt.snapshot.target receipt.snapshot.component receipt.snapshot.guid receipt.items

abbrev pub told : Result Receipt Refusal → Result (List (List ℕ)) Refusal
told (Ok receipt) = Ok (line_of receipt ∷ [])
told (Err refusal) = Err refusal

-- how a receive of these pieces ended, from a pool at the start
pub record Outcome (tight : Bool) (old now : DiskState) (ask : RecvAsk) (pool : Pool) (pieces : List (List ℕ)) (input input' : SourceState) (answer : Result (List (List ℕ)) Refusal) : Type 0 where
  pub wanted : Wanted ask pool pieces
  pub moments : Leaves old now (ReadsAlong tight ask pool pieces)
  pub ends : ReceiveEnds tight ask pool pieces now input input' answer

-- All pieces were read and fed, from each pool that starts so.
pub record Fed (Starts : (tight : Bool) → Pool → Type 0) (first : PoolState) (old now : DiskState) (ask : RecvAsk) (input input' : SourceState) (answer : Result (List (List ℕ)) Refusal) : Type 0 where
  pub pieces : List (List ℕ)
  pub are_pieces : ArePieces pieces
  pub consumed : Gave input input' (concat pieces)
  pub text : SaysOfText pieces input input' answer
  pub cost : (need largest : ℕ) → answer ≡ Err (refusals.Full need largest) → PiecesFindNoRoom first pieces need largest
  pub says : (tight : Bool) (pool : Pool) → now.honest → Starts tight pool → Outcome tight old now ask pool pieces input input' answer

-- a pool at rest, of tight object sets, or without the target
abbrev pub IsReady : RecvAsk → (tight : Bool) → DiskState → PoolState → Pool → Type 0
IsReady ask tight old kept pool = IsAtRest tight old kept pool × IsTightOrNew tight ask pool

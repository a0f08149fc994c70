-- What a receive reads, what it leaves of an image, and why it ends.
use Rattle.std.specs.Prelude.{ℕ, zero, suc, ◌+◌, ◌*◌, ◌-◌, ◌≡◌, ◌⊎◌, ◌<◌, ◌≤◌, Bool, true, false, IsTrue, IfErr, List, [], ◌∷◌, ◌++◌, length, take, codes, decimal, None, Result, Ok, Err}
use Rattle.std.specs.List.{concat}
use Rattle.zst_outside.specs.Causes.{Rose}
use Rattle.zst_outside.specs.Images.{DiskState, Leaves, OnlyReads}
use Rattle.zst_outside.specs.States.{SourceState, Gave}
use Rattle.zst_space.specs.FreeSectors.{FreeSectors, largest_of}
use Rattle.zst_block.specs.Blocks.{Has, KeepsBlocks, SparesTaken}
use Rattle.zst_block.specs.IoCalls.{TakesAtMost}
use Rattle.zst_image.specs.Bodies.{Body, free_by}
use Rattle.zst_model.specs.declared.refusals.faults.Quantity.TheVariants.{Stream}
use Rattle.zst_model.specs.declared.refusals.plan_fault.PlanFault.{PlanFault}
use Rattle.zst_model.specs.declared.refusals.refusal.Refusal.{Refusal}
use Rattle.zst_model.specs.declared.refusals.refusal.Refusal.TheVariants as refusals
use Rattle.zst_model.specs.declared.refusals.stream_fault.StreamFault.{StreamFault}
use Rattle.zst_model.specs.declared.refusals.stream_fault.StreamFault.TheVariants.{Truncated}
use Rattle.zst_model.specs.pools.KeptPool.{kept_of}
use Rattle.zst_model.specs.pools.Pool.{Pool, Partial, dataset_named}
use Rattle.zst_model.specs.refusals.Refusal.{refusal_of}
use Rattle.zst_model.specs.refusals.Texts.{guid_text}
use Rattle.zst_dir.specs.Rows.{Rows}
use Rattle.zst_dir.specs.Spelling.{dir_bytes}
use Rattle.zst_image.specs.Commits.{commit_sectors}
use Rattle.zst_image.specs.Faults.{open_refusal}
use Rattle.zst_image.specs.Reads.{Reads, ReadsAs, Rests, RunsBy, bound_of, kept_rows}
use Rattle.zst_image.specs.declared.pool_state.PoolState.{PoolState}
use Rattle.zst_image.specs.declared.open_fault.OpenFault.{OpenFault}
use Rattle.zst_plan.specs.RecvPlan.{snapshot_name}
use Rattle.zst_plan.specs.declared.receive.RecvAsk.{RecvAsk}
use Rattle.zst_reader.specs.InputReads.{stream_limit}
use Rattle.zst_stream.specs.Findings.{IsFound}
use Rattle.zst_stream.specs.Reading.{complete, faulty, reading, waiting}
use Rattle.zst_tree.specs.declared.tree.ObjSet.{ObjSet}
use Rattle.zst_apply.specs.Damage.{apply_damage}
use Rattle.zst_recv.specs.Costs.{PieceIsShort, records_cost}
use Rattle.zst_recv.specs.Faults.{IsFeedFault, recv_refusal}
use Rattle.zst_recv.specs.Feeds.{new_records, receives}
use Rattle.zst_recv.specs.Damage.{IsBegun, PieceMakes}
use Rattle.zst_recv.specs.Plans.{RefusesEach, RefusesOne}
use Rattle.zst_recv.specs.ReceiveSteps.{Stage, Waits, Lives, Ends, Goes, Stops, left_by, pool_of}
use Rattle.zst_recv.specs.declared.fault.RecvFault.{RecvFault}
use Rattle.zst_run.specs.Commands.{IsPoolRefusal, Opens, SaysOfOpening}
use Rattle.zst_run.specs.Dumps.{NoFault}

-- ---- the pieces that are read

-- a receive reads so many bytes at once
abbrev pub piece_size : ℕ
piece_size = 1048576

-- each piece but the last has that size, and the last has no more, and some
abbrev pub ArePieces : List (List ℕ) → Type 0
ArePieces [] = Unit {0}
ArePieces (piece ∷ []) = (0 < length piece) × (length piece ≤ piece_size)
ArePieces (piece ∷ next ∷ rest) = (length piece ≡ piece_size) × ArePieces (next ∷ rest)

-- ---- what stands after pieces were fed

-- END isn't covered: more is waited for
abbrev pub IsOpen : Stage → Type 0
IsOpen Waits = Unit {0}
IsOpen (Lives flags partial) = Unit {0}
IsOpen (Ends partial) = ⊥

-- the image rests, and reads as what is kept of this pool
abbrev pub Keeps : (tight : Bool) → DiskState → Pool → Type 0
Keeps tight here' pool = (body : Body) × (rows : Rows) × Rests tight here' body rows (kept_of pool)

-- an image that stood before the receive, or one that reads as what is kept of the pool that stands after some of the pieces
abbrev pub IsOnTheWay : (tight : Bool) → DiskState → RecvAsk → Pool → List (List ℕ) → List ℕ → Type 0
IsOnTheWay tight here ask pool pieces image = here.images image ⊎ ((n : ℕ) × Reads tight (kept_of (pool_of (receives ask pool (take n pieces)))) image)

-- the pieces were taken, and more is waited for: in the end stands what is left of that
pub record Waited (tight : Bool) (ask : RecvAsk) (pool : Pool) (pieces : List (List ℕ)) (here' : DiskState) : Type 0 where
  pub after : Pool
  pub stage : Stage
  pub is : receives ask pool pieces ≡ Goes after stage
  pub live : IsOpen stage
  pub keeps : Keeps tight here' (left_by stage after)

-- all pieces but the last were taken, and nothing of that one stays
abbrev pub Stopped : (tight : Bool) → RecvAsk → Pool → List (List ℕ) → DiskState → Type 0
Stopped tight ask pool pieces here' = Waited tight ask pool (take (length pieces - 1) pieces) here'

-- the line of a snapshot that was received, with this guid, by so many records between BEGIN and END
abbrev pub receipt_line : (target component : List ℕ) → (guid items : ℕ) → List ℕ
receipt_line target component guid items = concat (
    codes "received " ∷ snapshot_name target component ∷ codes " guid " ∷ guid_text guid ∷ codes " items " ∷ decimal items ∷ [])

-- END was covered: the snapshot stands, and this is the line: of the covered records the first is BEGIN, and the last END
pub record Received (tight : Bool) (ask : RecvAsk) (pool : Pool) (pieces : List (List ℕ)) (here' : DiskState) (lines : List (List ℕ)) : Type 0 where
  pub after : Pool
  pub partial : Partial
  pub is : receives ask pool pieces ≡ Goes after (Ends partial)
  pub line : lines ≡ receipt_line partial.target partial.component partial.header.to (length (reading (concat pieces)).covered - 2) ∷ []
  pub keeps : Keeps tight here' after

-- the pieces are refused so, and what that leaves stands
pub record Refused (tight : Bool) (ask : RecvAsk) (pool : Pool) (pieces : List (List ℕ)) (here' : DiskState) (refusal : Refusal) : Type 0 where
  pub after : Pool
  pub is : receives ask pool pieces ≡ Stops after refusal
  pub keeps : Keeps tight here' after

-- so many sectors these pieces cost behind a text, in a pool whose directory has so many bytes before them, and whose body so many free extents: each the records
-- that it covers, and what it commits, with a directory that has 2,048 bytes more than before it
unfoldable pub pieces_cost : (count extents : ℕ) → List ℕ → List (List ℕ) → ℕ
pieces_cost count extents text [] = 0
pieces_cost count extents text (piece ∷ rest) = records_cost (new_records text piece) + commit_sectors (count + 2048) extents + pieces_cost (count + 2048) extents (text ++ piece) rest

-- no extent that was free by what was opened had as many sectors as the pieces cost together
abbrev pub CostMore : PoolState → List (List ℕ) → Type 0
CostMore kept pieces = largest_of (free_by kept.body) < pieces_cost (length (dir_bytes kept.dir)) (length kept.body.free) [] pieces

-- what the pool keeps has grown by no more than these pieces cost
pub record GrewBy (first kept : PoolState) (pieces : List (List ℕ)) : Type 0 where
  pub directory : length (dir_bytes kept.dir) ≤ length (dir_bytes first.dir) + 2048 * length pieces
  pub takes : TakesAtMost (pieces_cost (length (dir_bytes first.dir)) (length first.body.free) [] pieces) (λ count. Unit {0}) (free_by first.body) (free_by kept.body)

-- The last of the pieces found no room, whatever the image is: the pieces cost more than was free, and the last found none by what was kept of the pool once those before it were taken.
pub record PiecesFindNoRoom (first : PoolState) (pieces : List (List ℕ)) (need largest : ℕ) : Type 0 where
  pub cost : CostMore first pieces
  pub before : List (List ℕ)
  pub last : List ℕ
  pub are : pieces ≡ before ++ last ∷ []
  pub kept : PoolState
  pub grew : GrewBy first kept before
  pub left : FreeSectors
  pub short : PieceIsShort (new_records (concat before) last) kept left need largest

-- The last of the pieces found no room: those before it left the receive waiting, and a pool whose rows in memory stood for it then, by a body by
-- which the image rests still; and by them no free extent had as many sectors as the last piece costs, by the records that it covers.
pub record LastFindsNoRoom (tight : Bool) (ask : RecvAsk) (pool : Pool) (pieces : List (List ℕ)) (here' : DiskState) (need largest : ℕ) : Type 0 where
  pub before : List (List ℕ)
  pub last : List ℕ
  pub are : pieces ≡ before ++ last ∷ []
  pub after : Pool
  pub stage : Stage
  pub is : receives ask pool before ≡ Goes after stage
  pub kept : PoolState
  pub image : List ℕ
  pub runs_by : RunsBy (bound_of tight after.number) (Has image (free_by kept.body)) kept.dir after
  pub rows : Rows
  pub stands : Rests tight here' kept.body rows (kept_of (left_by stage after))
  pub left : FreeSectors
  pub short : PieceIsShort (new_records (concat before) last) kept left need largest

-- How a receive into a pool ends, and what then stands: the snapshot, with its line; E20 where the input ended while its stream waits for more, and E29 where it failed, with all
-- that was read taken; E23 of a stream of more bytes than one has, E24 and E32 with nothing of the last piece taken, and E24 where no free extent had as many sectors before
-- that one as it costs; else as the definition refuses what was read. Nothing is damaged.
abbrev pub ReceiveEnds : (tight : Bool) → RecvAsk → Pool → List (List ℕ) → DiskState → SourceState → SourceState → Result (List (List ℕ)) Refusal → Type 0
ReceiveEnds tight ask pool pieces here' input input' (Ok lines) = Received tight ask pool pieces here' lines
ReceiveEnds tight ask pool pieces here' input input' (Err (refusals.Stream (Truncated at))) =
    ((reading (concat pieces)).outcome ≡ waiting) × (at ≡ length (concat pieces)) × IsTrue input'.ended × NoFault input input' × Waited tight ask pool pieces here'
ReceiveEnds tight ask pool pieces here' input input' (Err refusals.SourceFault) = Waited tight ask pool pieces here'
ReceiveEnds tight ask pool pieces here' input input' (Err refusals.DiskFault) = Unit {0}
ReceiveEnds tight ask pool pieces here' input input' (Err refusals.OutOfMemory) = Stopped tight ask pool pieces here'
ReceiveEnds tight ask pool pieces here' input input' (Err (refusals.Full need largest)) =
    (largest < need) × Stopped tight ask pool pieces here' × LastFindsNoRoom tight ask pool pieces here' need largest
ReceiveEnds tight ask pool pieces here' input input' (Err (refusals.Limit Stream number)) =
    (number ≡ stream_limit) × (stream_limit < length (concat pieces)) × Stopped tight ask pool pieces here'
ReceiveEnds tight ask pool pieces here' input input' (Err (refusals.Damaged sector stated found)) = ⊥
ReceiveEnds tight ask pool pieces here' input input' (Err refusals.NoPool) = ⊥
ReceiveEnds tight ask pool pieces here' input input' (Err (refusals.BadVersion number)) = ⊥
ReceiveEnds tight ask pool pieces here' input input' (Err refusal) = Refused tight ask pool pieces here' refusal

-- ---- receiving into an image

-- a refusal of opening a pool; of a feed, of whose faults of a stream each is found in it; E20; or E29
abbrev pub OfReceiving : Refusal → Type 0
OfReceiving refusal =
    ((fault : OpenFault) × (refusal ≡ open_refusal fault))
    ⊎ (((fault : RecvFault) × IsFeedFault fault × (refusal ≡ recv_refusal fault)) ⊎ (((at : ℕ) × (refusal ≡ refusals.Stream (Truncated at))) ⊎ (refusal ≡ refusals.SourceFault)))

-- one of these, but neither that the disk had failed before (E31) nor E22; that of the disk (E28) and that of the input (E29) only where their counts of faults rose
pub record IsReceiveRefusal (here here' : DiskState) (input input' : SourceState) (refusal : Refusal) : Type 0 where
  pub pool : IsPoolRefusal OfReceiving here here' refusal
  pub cause : refusal ≡ refusals.SourceFault → Rose input.faults input'.faults

-- What the rows of the directory tell alone of a receive of this text, whatever the object sets hold: where its plan refuses a pool that the rows name, that is the
-- answer, and nothing else comes before it, unless no memory was left; and each refusal of a plan but those of a limit comes where the plan refuses each pool that they name.
pub record SaysOfPlan (rows : Rows) (ask : RecvAsk) (text : List ℕ) (answer : Result (List (List ℕ)) Refusal) : Type 0 where
  pub planned : ¬ (answer ≡ Err refusals.OutOfMemory) → (fault : PlanFault) → length text ≤ stream_limit → RefusesOne rows ask text fault → answer ≡ Err (refusal_of fault)
  pub because : (fault : PlanFault) → answer ≡ Err (refusals.Plan fault) → RefusesEach rows ask text fault

-- A set that so many pieces made, from an image of so many bytes, over the sectors that are free there, on which these rows stand: it is the one with which the
-- stream of this text begins, by its plan over the rows: the target's partial state's, the base's, or none; and each piece made it of the one that the pieces before had made.
abbrev pub MadeBy : (pieces : ℕ) → (image : List ℕ) → (size : ℕ) → FreeSectors → Rows → RecvAsk → (text : List ℕ) → (seen : List ℕ) → (left : FreeSectors) → ObjSet → Type 0
MadeBy zero image size free rows ask text seen left set = IsBegun rows ask text set × KeepsBlocks image free seen left
MadeBy (suc pieces) image size free rows ask text seen left set =
    (old : List ℕ) × (more : FreeSectors) × (base : ObjSet) × MadeBy pieces image size free rows ask text old more base × PieceMakes old more size base seen left set

-- E25 of a receive of a text: of a set that some pieces made from the rows that were opened, as the disk read when the refused piece began; each block that stood
-- as the run began still stood then.
pub record IsDamagedReceive (image : List ℕ) (size : ℕ) (body : Body) (rows : Rows) (ask : RecvAsk) (text : List ℕ) (sector : ℕ) (stated found : List ℕ) : Type 0 where
  pub pieces : ℕ
  pub seen : List ℕ
  pub left : FreeSectors
  pub set : ObjSet
  pub blocks : KeepsBlocks image (free_by body) seen left
  pub made : MadeBy pieces image size (free_by body) rows ask text seen left set
  pub damaged : apply_damage (SparesTaken left seen) size set sector stated found

-- a receive of what is asked, by these pieces, into a pool that was opened by this body and these rows, whether or not the image reads as a pool: whatever it
-- answers, but for E28, each block still stands that stood in sectors which the body left not free
pub record ReceiveRan (ask : RecvAsk) (pieces : List (List ℕ)) (here here' : DiskState) (answer : Result (List (List ℕ)) Refusal) (body : Body) (rows : Rows) : Type 0 where
  pub opens : Opens here body rows
  pub stood : ¬ (answer ≡ Err refusals.DiskFault) → KeepsBlocks here.seen (free_by body) here'.seen (free_by body)
  pub planned : SaysOfPlan (kept_rows rows) ask (concat pieces) answer
  pub damaged : (sector : ℕ) (stated found : List ℕ) → answer ≡ Err (refusals.Damaged sector stated found) → IsDamagedReceive here.seen here.size body (kept_rows rows) ask (concat pieces) sector stated found

-- What an answer says of the pieces that were read, whatever the image: a fault that is found in a stream is that of their reading, E20 comes where their
-- reading waits for more, and tells the count of their bytes at the end of an input that didn't fail, and there is a line only where their reading is complete.
pub record SaysOfText (pieces : List (List ℕ)) (input input' : SourceState) (answer : Result (List (List ℕ)) Refusal) : Type 0 where
  pub stream : (fault : StreamFault) → IsFound fault → answer ≡ Err (refusals.Stream fault) → (reading (concat pieces)).outcome ≡ faulty fault
  pub cut : (at : ℕ) → answer ≡ Err (refusals.Stream (Truncated at)) → ((reading (concat pieces)).outcome ≡ waiting) × (at ≡ length (concat pieces)) × IsTrue input'.ended × NoFault input input'
  pub whole : (lines : List (List ℕ)) → answer ≡ Ok lines → (reading (concat pieces)).outcome ≡ complete

-- The object sets of a pool are tight; or the target isn't there yet, since how late a head was changed is told by tight sets alone.
abbrev pub IsTightOrNew : (tight : Bool) → RecvAsk → Pool → Type 0
IsTightOrNew true ask pool = Unit {0}
IsTightOrNew false ask pool = dataset_named ask.target pool ≡ None

-- A receive of what is asked, into an image: some pieces were read of the input, each behind pieces that left the receive waiting. At every moment,
-- and in the end, each image stood before it or reads as what stands after some of the pieces, by tight object sets where it stood so.
pub record Receiving (ask : RecvAsk) (here here' : DiskState) (input input' : SourceState) (answer : Result (List (List ℕ)) Refusal) : Type 0 where
  pub pieces : List (List ℕ)
  pub are_pieces : ArePieces pieces
  pub consumed : Gave input input' (concat pieces)
  pub wanted : (tight : Bool) (body : Body) (rows : Rows) (pool : Pool) → here'.honest → ReadsAs tight body rows pool here.seen → IsTightOrNew tight ask pool
      → (n : ℕ) → n < length pieces → (after : Pool) × (stage : Stage) × (receives ask pool (take n pieces) ≡ Goes after stage) × IsOpen stage
  pub moments : (tight : Bool) (body : Body) (rows : Rows) (pool : Pool) → here'.honest → ReadsAs tight body rows pool here.seen → IsTightOrNew tight ask pool
      → Leaves here here' (IsOnTheWay tight here ask pool pieces)
  pub images : (tight : Bool) (body : Body) (rows : Rows) (pool : Pool) → here'.honest → ReadsAs tight body rows pool here.seen → IsTightOrNew tight ask pool
      → (c : List ℕ) → here'.images c → IsOnTheWay tight here ask pool pieces c
  pub ends : (tight : Bool) (body : Body) (rows : Rows) (pool : Pool) → here'.honest → ReadsAs tight body rows pool here.seen → IsTightOrNew tight ask pool
      → ReceiveEnds tight ask pool pieces here' input input' answer
  pub opened : here'.honest → SaysOfOpening (OnlyReads here here' × (input' ≡ input)) here (ReceiveRan ask pieces here here' answer) answer
  pub text : SaysOfText pieces input input' answer
  -- whatever the image: E24 comes only where no extent that was free by the body that was opened had as many sectors as all pieces cost that were read, and the last of them found no room
  pub cost : here'.honest → (need largest : ℕ) → answer ≡ Err (refusals.Full need largest)
      → (body : Body) × (rows : Rows) × Opens here body rows × PiecesFindNoRoom (record { body = body; dir = kept_rows rows }) pieces need largest
  pub refused : IfErr answer (IsReceiveRefusal here here' input input')
  pub later : here.faults ≤ here'.faults
  pub input_later : input.faults ≤ input'.faults

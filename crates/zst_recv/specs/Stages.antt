-- What the code keeps of a receive, and what it stands for.
use Rattle.std.specs.Prelude.{◌≡◌, ℕ, ◌-◌, ◌^◌, Bool, true, false, not, min, List, [], All, filter, Option, Some, None, is_some}
use Rattle.zst_dir.specs.Rows.{Rows, is_unkept_for}
use Rattle.zst_dir.specs.declared.rows.Partial.{Partial as Row}
use Rattle.zst_image.specs.Reads.{PartialIs}
use Rattle.zst_image.specs.declared.pool_state.PoolState.{PoolState}
use Rattle.zst_model.specs.declared.sends.header.Point.{Point}
use Rattle.zst_model.specs.sends.Items.{origin}
use Rattle.zst_model.specs.pools.Pool.{Pool, dataset_named}
use Rattle.zst_model.specs.states.State.{AreBytes}
use Rattle.zst_plan.specs.Receipts.{TellsDates}
use Rattle.zst_plan.specs.declared.receive.RecvAsk.{RecvAsk}
use Rattle.zst_pool.specs.PartialRows.{CanPut}
use Rattle.zst_reader.specs.StandsFor.{StandsFor, HandsOut, pushed_of}
use Rattle.zst_reader.specs.declared.reader.Reader.{Reader}
use Rattle.zst_record.specs.Heads.{Covered}
use Rattle.zst_record.specs.declared.head.Head.{Head}
use Rattle.zst_record.specs.declared.head.Head.TheVariants as heads
use Rattle.zst_stream.specs.Reading.{waiting}
use Rattle.zst_tree.specs.Indices.{Blocks}
use Rattle.zst_recv.specs.ReceiveSteps.{Stage, Waits, Lives, Ends, Batch}
use Rattle.zst_recv.specs.declared.stage.Stage as coded
use Rattle.zst_recv.specs.declared.stage.Stage.TheVariants as stages
use Rattle.zst_recv.specs.declared.batch.Batch as batches
use Rattle.zst_recv.specs.declared.received_snapshot.ReceivedSnapshot.{ReceivedSnapshot}
use Rattle.zst_recv.specs.declared.recv.Recv.{Recv}

-- over the blocks that are there, the code's stage is this one, whose set is known so well
abbrev pub IsStage : Option ℕ → Blocks → coded.Stage → Stage → Type 0
IsStage bound has stages.Waits Waits = Unit {0}
IsStage bound has stages.Waits (Lives flags partial) = ⊥
IsStage bound has stages.Waits (Ends partial) = ⊥
IsStage bound has (stages.Lives flags row) Waits = ⊥
IsStage bound has (stages.Lives flags row) (Lives stated partial) = (flags ≡ stated) × PartialIs bound has row partial
IsStage bound has (stages.Lives flags row) (Ends partial) = ⊥
IsStage bound has (stages.Ends row) Waits = ⊥
IsStage bound has (stages.Ends row) (Lives flags partial) = ⊥
IsStage bound has (stages.Ends row) (Ends partial) = PartialIs bound has row partial
IsStage bound has (stages.Done received) stage = ⊥
IsStage bound has stages.Over stage = ⊥

-- over the blocks that are there, the code's batch is what a feed has made; its count stops at the largest number of 64 bits
pub record IsBatch (bound : Option ℕ) (has : Blocks) (batch : batches.Batch) (plain : Batch) : Type 0 where
  pub stage : IsStage bound has batch.stage plain.stage
  pub rolls : batch.rolls ≡ plain.rolls
  pub taken : batch.taken ≡ plain.taken
  pub applied : batch.applied ≡ min plain.applied (2 ^ 64 - 1)

-- a partial state's row can be committed for this target
pub record CanPutFor (rows : Rows) (target : List ℕ) (row : Row) : Type 0 where
  pub of_target : row.target ≡ target
  pub can : CanPut rows row

-- so it is with the one that a stage has which isn't over
abbrev pub StageFits : Rows → List ℕ → coded.Stage → Type 0
StageFits rows target stages.Waits = Unit {0}
StageFits rows target (stages.Lives flags row) = CanPutFor rows target row
StageFits rows target (stages.Ends row) = CanPutFor rows target row
StageFits rows target (stages.Done received) = ⊥
StageFits rows target stages.Over = ⊥

-- so it still is with one that goes on, once it was committed
abbrev pub LivesOn : Rows → List ℕ → coded.Stage → Type 0
LivesOn rows target stages.Waits = Unit {0}
LivesOn rows target (stages.Lives flags row) = CanPutFor rows target row
LivesOn rows target (stages.Ends row) = Unit {0}
LivesOn rows target (stages.Done received) = Unit {0}
LivesOn rows target stages.Over = Unit {0}

-- whether the partial state is under way, and whether it stays where its session ends
abbrev pub has_partial : coded.Stage → Bool
has_partial stages.Waits = false
has_partial (stages.Lives flags row) = true
has_partial (stages.Ends row) = false
has_partial (stages.Done received) = false
has_partial stages.Over = false

abbrev pub keeps_partial : coded.Stage → Bool
keeps_partial stages.Waits = false
keeps_partial (stages.Lives flags row) = row.keep
keeps_partial (stages.Ends row) = false
keeps_partial (stages.Done received) = false
keeps_partial stages.Over = false

-- what stays in memory of a pool where the receive ends: all, but for the partial state of this target where one is under way that isn't kept
abbrev pub kept_without : (under_way : Bool) → List ℕ → PoolState → PoolState
kept_without true target kept = record kept { dir = record kept.dir { partials = filter (λ partial. not (is_unkept_for target partial)) kept.dir.partials } }
kept_without false target kept = kept

-- where the stream goes on
abbrev pub point_in : coded.Stage → Point
point_in stages.Waits = origin
point_in (stages.Lives flags row) = row.point
point_in (stages.Ends row) = row.point
point_in (stages.Done received) = origin
point_in stages.Over = origin

-- whether a receive goes on
abbrev pub is_live : coded.Stage → Bool
is_live stages.Waits = true
is_live (stages.Lives flags row) = true
is_live (stages.Ends row) = false
is_live (stages.Done received) = false
is_live stages.Over = false

-- the snapshot that a partial state becomes
abbrev pub received_row : Row → ReceivedSnapshot
received_row row = record { target = row.target; component = row.snapshot; guid = row.header.to }

-- where it stands once all of a piece was committed: with END the snapshot stands
abbrev pub stage_behind : coded.Stage → coded.Stage
stage_behind stages.Waits = stages.Waits
stage_behind (stages.Lives flags row) = stages.Lives flags row
stage_behind (stages.Ends row) = stages.Done (received_row row)
stage_behind (stages.Done received) = stages.Done received
stage_behind stages.Over = stages.Over

-- the snapshot that was made, once END was received
abbrev pub received_at : coded.Stage → Option ReceivedSnapshot
received_at stages.Waits = None
received_at (stages.Lives flags row) = None
received_at (stages.Ends row) = None
received_at (stages.Done received) = Some received
received_at stages.Over = None

-- what a receive asks for, where it stands, and its reader
abbrev pub ask_of : Recv → RecvAsk
ask_of recv = recv.ask

abbrev pub stage_of : Recv → coded.Stage
stage_of recv = recv.stage

abbrev pub reader_of : Recv → Reader
reader_of recv = recv.reader

-- the snapshot that it made, once END was received
abbrev pub received_by : Recv → Option ReceivedSnapshot
received_by recv = received_at (stage_of recv)

-- how many bytes it was fed
abbrev pub fed_of : Recv → ℕ
fed_of recv = pushed_of (reader_of recv)

-- whether BEGIN isn't covered yet
abbrev pub waits_at : coded.Stage → Bool
waits_at stages.Waits = true
waits_at (stages.Lives flags row) = false
waits_at (stages.Ends row) = false
waits_at (stages.Done received) = false
waits_at stages.Over = false

abbrev pub is_waiting : Recv → Bool
is_waiting recv = waits_at (stage_of recv)

-- whether a record is END, and whether it is BEGIN
abbrev pub is_end : Head → Bool
is_end (heads.End sums to) = true
is_end _ = false

abbrev pub is_begin : Head → Bool
is_begin (heads.Begin header len) = true
is_begin _ = false

-- nothing was handed out while it waits for BEGIN, and no END while its partial state is under way
abbrev pub StandsBehind : List Covered → coded.Stage → Type 0
StandsBehind handed stages.Waits = handed ≡ []
StandsBehind handed (stages.Lives flags row) = All (λ c. is_end c.head ≡ false) handed
StandsBehind handed (stages.Ends row) = Unit {0}
StandsBehind handed (stages.Done received) = Unit {0}
StandsBehind handed stages.Over = Unit {0}

-- the reader stands for some bytes, and the stage behind the records that it has handed out of them
pub record HasRead (reader : Reader) (stage : coded.Stage) : Type 0 where
  pub text : List ℕ
  pub bytes : AreBytes text
  pub handed : List Covered
  pub stands : StandsFor reader text handed
  pub behind : StandsBehind handed stage

-- what it keeps is in its ranges, whatever the image: it has read some bytes, and its partial state can be committed beside these rows
pub record RecvFits (rows : Rows) (recv : Recv) : Type 0 where
  pub stage : LivesOn rows (ask_of recv).target (stage_of recv)
  pub reads : HasRead (reader_of recv) (stage_of recv)

-- the sets tell the dates that a plan may look at: none where the target isn't there
abbrev pub TellsTarget : RecvAsk → Rows → Pool → Type 0
TellsTarget ask rows pool = is_some (dataset_named ask.target pool) ≡ true → TellsDates rows pool

-- so it is where BEGIN isn't covered yet
abbrev pub TellsBefore : RecvAsk → Stage → Rows → Pool → Type 0
TellsBefore ask Waits rows pool = TellsTarget ask rows pool
TellsBefore ask (Lives flags partial) rows pool = Unit {0}
TellsBefore ask (Ends partial) rows pool = Unit {0}

-- nothing is covered while a receive waits for BEGIN
abbrev pub WaitsAtBegin : List Covered → Stage → Type 0
WaitsAtBegin handed Waits = handed ≡ []
WaitsAtBegin handed (Lives flags partial) = Unit {0}
WaitsAtBegin handed (Ends partial) = Unit {0}

-- the receive was fed this text, of which all that is covered was taken, and stands here
pub record Receives (bound : Option ℕ) (has : Blocks) (recv : Recv) (text : List ℕ) (stage : Stage) : Type 0 where
  pub handed : List Covered
  pub reads : HandsOut (reader_of recv) text handed waiting
  pub waits : WaitsAtBegin handed stage
  pub stands : IsStage bound has (stage_of recv) stage

-- Which records a run of blocks puts off, and what becomes of them: meanwhile the work stands behind the records before them.
use Rattle.std.specs.Prelude.{◌≡◌, ℕ, ◌+◌, ◌*◌, ◌%◌, ◌<◌, ◌≤◌, Bool, true, false, List, [], ◌∷◌, ◌++◌, length, map, take, Option, None, Some, Result, Ok, Err, if◌then◌else◌}
use Rattle.zst_space.specs.FreeSectors.{FreeSectors}
use Rattle.zst_block.specs.declared.fault.BlockFault.{BlockFault}
use Rattle.zst_model.specs.pools.Pool.{Partial, Pool}
use Rattle.zst_model.specs.states.DatedState.{DatedState}
use Rattle.zst_model.specs.states.State.{Object}
use Rattle.zst_apply.specs.AppliedRuns.{run_received}
use Rattle.zst_plan.specs.declared.receive.RecvAsk.{RecvAsk}
use Rattle.zst_reader.specs.StandsFor.{HandsOut, StandsFor}
use Rattle.zst_reader.specs.declared.reader.Reader.{Reader}
use Rattle.zst_record.specs.Heads.{Covered}
use Rattle.zst_record.specs.declared.head.Head.{Head}
use Rattle.zst_record.specs.declared.head.Head.TheVariants as heads
use Rattle.zst_stream.specs.Reading.{Outcome, complete, faulty, waiting}
use Rattle.zst_recv.specs.Costs.{Spends}
use Rattle.zst_recv.specs.Faults.{stop_at}
use Rattle.zst_recv.specs.ReceiveSteps.{Batch, Ends, Lives, Stage, Waits, taken}
use Rattle.zst_recv.specs.Stages.{has_partial, is_begin, is_end}
use Rattle.zst_recv.specs.TakenRecords.{AreTaken, Drains, TakeFault}
use Rattle.zst_recv.specs.WriteRuns.{AreBlockWrites}
use Rattle.zst_recv.specs.declared.block_run.BlockRun.{BlockRun}
use Rattle.zst_recv.specs.declared.stage.Stage as coded
use Rattle.zst_recv.specs.declared.fault.RecvFault.{RecvFault}
use Rattle.zst_recv.specs.declared.fault.RecvFault.TheVariants as faults

-- how many records a run puts off, and the bytes of their blocks
abbrev pub count_of : BlockRun → ℕ
count_of run = run.count

abbrev pub bytes_of : BlockRun → List ℕ
bytes_of run = take run.len run.bytes.items

-- these are the records that it puts off
pub record IsPutOff (run : BlockRun) (records : List Covered) : Type 0 where
  pub writes : AreBlockWrites run.object run.size run.first (bytes_of run) records
  pub count_is : length records ≡ run.count

-- a run's blocks are of the same object, from the same index on, of the same size
pub record IsSameRun (old new : BlockRun) : Type 0 where
  pub object_is : new.object ≡ old.object
  pub first_is : new.first ≡ old.first
  pub size_is : new.size ≡ old.size

-- a block of so many bytes, at this offset of an object, stands next behind those of a run, and may be put off with them
pub record IsNext (run : BlockRun) (object offset long : ℕ) : Type 0 where
  pub some : 0 < run.count
  pub object_is : object ≡ run.object
  pub long_is : long ≡ run.size
  pub offset_is : offset ≡ (run.first + run.count) * run.size
  pub group : run.first % 128 + run.count < 128
  pub room : run.len + long ≤ 262144

-- a run puts off these bytes alone, a whole block at this offset of an object
pub record IsAlone (run : BlockRun) (object size offset : ℕ) (bytes : List ℕ) : Type 0 where
  pub object_is : run.object ≡ object
  pub size_is : run.size ≡ size
  pub offset_is : offset ≡ run.first * size
  pub count_is : run.count ≡ 1
  pub bytes_are : bytes_of run ≡ bytes
  pub long : length bytes ≡ size

-- a record that is neither BEGIN nor END
pub record StandsBetween (head : Head) : Type 0 where
  pub no_begin : is_begin head ≡ false
  pub no_end : is_end head ≡ false

-- this record was put off, with which a run begins at a partial state that is under way; or the run is as it was
pub record BeginsRun (old new : BlockRun) (c : Covered) (stage : coded.Stage) (begun : Bool) : Type 0 where
  pub put_off : begun ≡ true → IsPutOff new (c ∷ [])
  pub stays : begun ≡ false → new ≡ old
  pub lives : begun ≡ true → has_partial stage ≡ true
  pub between : begun ≡ true → StandsBetween c.head

-- this record was put off behind those that a run had, or the run is as it was
pub record JoinsRun (old new : BlockRun) (c : Covered) (joined : Bool) : Type 0 where
  pub put_off : joined ≡ true → (records : List Covered) → IsPutOff old records → IsPutOff new (records ++ c ∷ [])
  pub stays : joined ≡ false → new ≡ old
  pub some : joined ≡ true → 0 < old.count
  pub same : IsSameRun old new
  pub between : joined ≡ true → StandsBetween c.head

-- a state has an object at this number, with blocks of so many bytes
pub record HasObject (snap : DatedState) (object size : ℕ) : Type 0 where
  pub thing : Object
  pub there : snap.state object ≡ Some thing
  pub size_is : thing.attr.block_size ≡ size

-- so has the partial state that is under way
abbrev pub HasObjectAt : Stage → (object size : ℕ) → Type 0
HasObjectAt Waits object size = ⊥
HasObjectAt (Lives flags partial) object size = HasObject partial.objects object size
HasObjectAt (Ends partial) object size = ⊥

-- where a run begins behind this stage its object is there; or the disk failed
abbrev pub FindsItsObject : Stage → BlockRun → Result Bool RecvFault → Type 0
FindsItsObject stage run (Ok begun) = begun ≡ true → HasObjectAt stage run.object run.size
FindsItsObject stage run (Err fault) = TakeFault {A = Unit {0}} (Ok tt) fault

-- a run puts off these records behind this work, which has their object: so each of them is taken behind it
pub record IsDue (run : BlockRun) (records : List Covered) (work : Batch) : Type 0 where
  pub put_off : IsPutOff run records
  pub there : 0 < run.count → HasObjectAt work.stage run.object run.size

-- ---- what is put off is written at once

-- what a WRITE says beside its bytes: its place among the records and its type
abbrev pub kind_in : Head → ℕ
kind_in (heads.Write object kind offset size to) = kind
kind_in _ = 0

abbrev pub said_of : List Covered → List (ℕ × ℕ)
said_of records = map (λ c. (c.index, kind_in c.head)) records

-- this stands then; or the disk is full or failed
abbrev pub EndsIn : {A : Type 0} → (A → Type 0) → A → Result (Unit {0}) RecvFault → Type 0
EndsIn Is after (Ok done) = Is after
EndsIn {A = A} Is after (Err fault) = TakeFault {A = A} (Ok after) fault

-- a run that is written makes of a partial state what its records make of it one after another, and the point stands behind them
pub record WritesRun (number : ℕ) (run : BlockRun) (records : List Covered) (Is : Partial → Type 0) (state : Partial) (result : Result (Unit {0}) RecvFault) : Type 0 where
  pub objects : DatedState
  pub received_is : run_received number run.object run.size (run.first * run.size) (said_of records) (bytes_of run) state.objects ≡ Ok objects
  pub ends : EndsIn Is (record state { objects = objects; point = record { object = run.object; offset = (run.first + run.count) * run.size } }) result

-- so these records, which were put off behind some work, are taken
pub record Settles (ask : RecvAsk) (pool : Pool) (records : List Covered) (Is : Batch → Type 0) (work : Batch) (result : Result (Unit {0}) RecvFault) : Type 0 where
  pub after : Batch
  pub were_taken : AreTaken ask pool records work after
  pub ends : EndsIn Is after result

-- ---- records pass, one after another

-- the first of these records were taken behind some work, and the others are put off
pub record TakesFirst (ask : RecvAsk) (pool : Pool) (run : BlockRun) (records : List Covered) (Is : Batch → Type 0) (work : Batch) : Type 0 where
  pub first : List Covered
  pub put_off : List Covered
  pub all : first ++ put_off ≡ records
  pub after : Batch
  pub were_taken : AreTaken ask pool first work after
  pub is : Is after
  pub due : IsDue run put_off after

-- these are taken by the definition and the next one isn't, or the disk is full or failed; where no block stopped it these were taken
pub record StopsBehind (ask : RecvAsk) (pool : Pool) (records : List Covered) (next : Covered) (Is : Batch → Type 0) (work : Batch) (fault : RecvFault) : Type 0 where
  pub after : Batch
  pub were_taken : AreTaken ask pool records work after
  pub refused : TakeFault (taken ask pool next after) fault
  pub is : stop_at fault ≡ None → Is after

-- one record more behind those that are put off
abbrev pub Passes : RecvAsk → Pool → BlockRun → List Covered → Covered → (Batch → Type 0) → Batch → Result (Unit {0}) RecvFault → Type 0
Passes ask pool run records next Is work (Ok done) = TakesFirst ask pool run (records ++ next ∷ []) Is work
Passes ask pool run records next Is work (Err fault) = StopsBehind ask pool records next Is work fault

-- so many sectors these records took at most, but for the last ones, which are put off
pub record SpendsFirst (run : BlockRun) (records : List Covered) (old new : FreeSectors) (stop : Option BlockFault) : Type 0 where
  pub first : List Covered
  pub put_off : List Covered
  pub all : first ++ put_off ≡ records
  pub are_put_off : IsPutOff run put_off
  pub spends : Spends first old new stop

-- ---- all that a text covers

-- all that a text covers was handed out: the first of it was taken, the rest is put off, and the reading ends so
pub record Gathered (ask : RecvAsk) (pool : Pool) (run : BlockRun) (reader : Reader) (text : List ℕ) (handed : List Covered) (Is : Batch → Type 0) (batch : Batch) (outcome : Outcome) : Type 0 where
  pub records : List Covered
  pub reads : HandsOut reader text (handed ++ records) outcome
  pub takes : TakesFirst ask pool run records Is batch

-- or the first fault of a record
abbrev pub GathersAll : RecvAsk → Pool → BlockRun → Reader → List ℕ → List Covered → (Batch → Type 0) → Batch → Result Bool RecvFault → Type 0
GathersAll ask pool run reader text handed Is batch (Ok ended) = Gathered ask pool run reader text handed Is batch (if ended then complete else waiting)
GathersAll ask pool run reader text handed Is batch (Err (faults.Stream fault)) = Gathered ask pool run reader text handed Is batch (faulty fault)
GathersAll ask pool run reader text handed Is batch (Err fault) = Drains ask pool reader text handed Is batch (Err fault)

-- where a record is refused nothing is put off behind it; a fault of the stream may stand behind records that are
abbrev pub SettlesFault : BlockRun → RecvFault → Type 0
SettlesFault run (faults.Pool fault) = IsPutOff run []
SettlesFault run (faults.Stream fault) = Unit {0}
SettlesFault run (faults.CannotApply index fault) = IsPutOff run []

-- what was handed out took no more sectors than it costs, but for what is put off
pub record SpendsGathered (run : BlockRun) (reader : Reader) (text : List ℕ) (handed : List Covered) (old new : FreeSectors) (stop : Option BlockFault) : Type 0 where
  pub records : List Covered
  pub stands : StandsFor reader text (handed ++ records)
  pub spends : SpendsFirst run records old new stop

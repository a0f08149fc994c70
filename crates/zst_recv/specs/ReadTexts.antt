-- What reading says of any text, whatever the image is.
use Rattle.std.specs.Prelude.{◌≡◌, ◌+◌, ◌<◌, ◌≤◌, ℕ, Bool, true, false, List, [], length, Result, Ok, Err, IfErr, OnOk}
use Rattle.zst_block.specs.Blocks.{SparesTaken}
use Rattle.zst_block.specs.IoStates.{IoState}
use Rattle.zst_dir.specs.Rows.{Rows}
use Rattle.zst_model.specs.declared.refusals.plan_fault.PlanFault.{PlanFault}
use Rattle.zst_model.specs.declared.refusals.stream_fault.StreamFault.{StreamFault}
use Rattle.zst_plan.specs.declared.receive.RecvAsk.{RecvAsk}
use Rattle.zst_pool.specs.declared.fault.PoolFault.TheVariants as pools
use Rattle.zst_reader.specs.InputReads.{stream_limit}
use Rattle.zst_reader.specs.StandsFor.{HandsOut, StandsFor, pushed_of, room_of}
use Rattle.zst_reader.specs.declared.reader.Reader.{Reader}
use Rattle.zst_record.specs.Heads.{Covered}
use Rattle.zst_stream.specs.Reading.{complete, faulty, reading, waiting}
use Rattle.zst_recv.specs.Damage.{ComesFrom, IsDamagedFeed}
use Rattle.zst_recv.specs.Plans.{IsOfStream, RefusesEach, RefusesOne, is_planned}
use Rattle.zst_recv.specs.Stages.{HasRead, is_live, waits_at}
use Rattle.zst_recv.specs.declared.fault.RecvFault.{RecvFault}
use Rattle.zst_recv.specs.declared.fault.RecvFault.TheVariants as faults
use Rattle.zst_recv.specs.declared.stage.Stage as coded
use Rattle.zst_recv.specs.declared.stage.Stage.TheVariants as stages

-- A receive stood here, and its reader for a front of this text, of which these records were handed out; now it stands there, and this is its reader and the answer.
pub record ReadsText {A : Type 0} (rows : Rows) (ask : RecvAsk) (front : List ℕ) (handed : List Covered) (text : List ℕ) (before after : coded.Stage) (reader : Reader) (result : Result A RecvFault) : Type 0 where
  -- E17 to E19 are of the stream alone
  pub stream : (fault : StreamFault) → result ≡ Err (faults.Stream fault) → (reading text).outcome ≡ faulty fault
  -- one that goes on stands for all of the text, and where it had handed out all that was covered it has again; one that is over has read END
  pub stands : OnOk result (is_live after ≡ true → (later : List Covered) × StandsFor reader text later)
  pub hands_out : OnOk result (is_live after ≡ true → reading front ≡ record { covered = handed; outcome = waiting } → (later : List Covered) × HandsOut reader text later waiting)
  pub whole : is_live before ≡ true → OnOk result (is_live after ≡ false → (reading text).outcome ≡ complete)
  -- where BEGIN is covered and its plan refuses a pool that the rows name, that is the answer: nothing else, as E24, E25 or E28, comes before; and of all but limits no other answer is a plan's: it refuses each pool that they name
  pub planned : (fault : PlanFault) → waits_at before ≡ true → (reading front).covered ≡ [] → length text ≤ stream_limit → RefusesOne rows ask text fault → result ≡ Err (faults.Pool (pools.Plan fault))
  pub because : (fault : PlanFault) → is_planned fault ≡ true → result ≡ Err (faults.Pool (pools.Plan fault)) → (waits_at before ≡ true) × RefusesEach rows ask text fault
  -- it waits for BEGIN as long as nothing is covered
  pub still : waits_at before ≡ true → (reading text).covered ≡ [] → OnOk result (waits_at after ≡ true)
  pub uncovered : (reading front).covered ≡ [] → waits_at after ≡ true → OnOk result ((reading text).covered ≡ [])

-- Where a text with this front leaves a stage and its set, whatever is answered.
pub record LeavesStage {A : Type 0} (rows : Rows) (ask : RecvAsk) (front text : List ℕ) (before after : coded.Stage) (old new : IoState) (result : Result A RecvFault) : Type 0 where
  -- one that is over has read END, and one that waits for BEGIN does so where nothing is covered, and where a plan refuses it
  pub over : is_live before ≡ true → is_live after ≡ false → (reading text).outcome ≡ complete
  pub still : waits_at before ≡ true → (reading text).covered ≡ [] → waits_at after ≡ true
  pub refused : (fault : PlanFault) → waits_at before ≡ true → (reading front).covered ≡ [] → RefusesOne rows ask text fault → waits_at after ≡ true
  -- E25 tells a damage of the set that it began with, from which the one comes that is then under way
  pub damaged : (sector : ℕ) (stated found : List ℕ) → new.disk.honest → result ≡ Err (faults.Pool (pools.Damaged sector stated found)) → IsDamagedFeed old.disk old.space rows ask text before sector stated found
  pub comes : new.disk.honest → ComesFrom rows ask text (SparesTaken old.space old.disk.seen) old.disk.size before (SparesTaken new.space new.disk.seen) after

-- A reader was emptied: nothing was pushed, and where that ends with no fault and without END all that its text covers was handed out, and it has room again. A text that covers nothing is refused as a stream alone.
pub record Empties (old new : Reader) (result : Result Bool RecvFault) : Type 0 where
  pub pushed : pushed_of new ≡ pushed_of old
  pub room : result ≡ Ok false → 0 < room_of new
  pub hands_out : (text : List ℕ) (handed : List Covered) → StandsFor old text handed → result ≡ Ok false → (later : List Covered) × HandsOut new text later waiting
  pub of_stream : (text : List ℕ) (handed : List Covered) → StandsFor old text handed → (reading text).covered ≡ [] → IfErr result IsOfStream

-- A reader took a piece: it has read some bytes, and where no fault was found it stands behind this stage; where that goes on, all of the piece was pushed.
pub record TakesPiece {A : Type 0} (piece : List ℕ) (old new : Reader) (after : coded.Stage) (result : Result A RecvFault) : Type 0 where
  pub reads : HasRead new stages.Over
  pub behind : OnOk result (HasRead new after)
  pub all : OnOk result (is_live after ≡ true → pushed_of new ≡ pushed_of old + length piece)

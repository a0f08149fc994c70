-- What records make of a batch, and of the disk.
use Rattle.std.specs.Prelude.{◌≡◌, ◌<◌, ℕ, Bool, true, false, List, Result, Err, IfErr, OnErr, OnOk}
use Rattle.zst_block.specs.IoStates.{IoState}
use Rattle.zst_dir.specs.RowNames.{AreNamed}
use Rattle.zst_dir.specs.Rows.{Rows}
use Rattle.zst_model.specs.declared.refusals.plan_fault.PlanFault.{PlanFault}
use Rattle.zst_model.specs.declared.sends.header.Header.{Header}
use Rattle.zst_model.specs.pools.Pool.{Pool}
use Rattle.zst_plan.specs.Receipts.{TellsNeeded}
use Rattle.zst_plan.specs.RecvPlan.{recv_plan}
use Rattle.zst_plan.specs.declared.receive.RecvAsk.{RecvAsk}
use Rattle.zst_pool.specs.declared.fault.PoolFault.TheVariants as pools
use Rattle.zst_record.specs.declared.head.Head.{Head}
use Rattle.zst_record.specs.declared.head.Head.TheVariants as heads
use Rattle.zst_recv.specs.Faults.{Fills, IsFeedFault, stop_of}
use Rattle.zst_recv.specs.Plans.{IsPlannedBy, is_planned}
use Rattle.zst_recv.specs.Stages.{StageFits, has_partial, is_begin, is_end, is_live, waits_at}
use Rattle.zst_recv.specs.declared.batch.Batch as batches
use Rattle.zst_recv.specs.declared.fault.RecvFault.{RecvFault}
use Rattle.zst_recv.specs.declared.fault.RecvFault.TheVariants as faults

-- As many records were taken as there were: what is to be committed still fits the rows and the target; where none was taken the batch is as it was, and none was while it waits for BEGIN.
pub record Gathers (rows : Rows) (target : List ℕ) (old new : batches.Batch) : Type 0 where
  pub fits : StageFits rows target old.stage → StageFits rows target new.stage
  pub idle : new.taken ≡ false → new ≡ old
  pub waits : waits_at new.stage ≡ true → new ≡ old

-- A record with this head was taken or refused, whatever the image is: a refusal leaves the batch; BEGIN is the end of waiting, END that of a partial state which is under way, and nothing else begins or ends one.
pub record Moves {A : Type 0} (rows : Rows) (target : List ℕ) (head : Head) (old new : batches.Batch) (result : Result A RecvFault) : Type 0 where
  pub gathers : Gathers rows target old new
  pub stays : OnErr result (new ≡ old)
  pub begins : OnOk result (is_begin head ≡ true → waits_at new.stage ≡ false)
  pub lives : has_partial new.stage ≡ true → is_live old.stage ≡ true
  pub ends : is_end head ≡ true → has_partial new.stage ≡ false
  pub over : is_live old.stage ≡ true → is_live new.stage ≡ false → is_end head ≡ true

-- So many records that were put off were applied or refused, whatever the image is: the partial state is under way as before, and where there are none the batch is as it was.
pub record MovesRun {A : Type 0} (rows : Rows) (target : List ℕ) (count : ℕ) (old new : batches.Batch) (result : Result A RecvFault) : Type 0 where
  pub gathers : Gathers rows target old new
  pub stays : OnErr result (new ≡ old)
  pub none : count ≡ 0 → new ≡ old
  pub some : OnErr result (0 < count)
  pub lives : 0 < count → has_partial new.stage ≡ true

-- A record with this head was passed, behind others that were put off, whatever the image is: as it is taken, but that those may have been applied where it is refused.
pub record MovesOn {A : Type 0} (rows : Rows) (target : List ℕ) (head : Head) (old new : batches.Batch) (result : Result A RecvFault) : Type 0 where
  pub gathers : Gathers rows target old new
  pub waited : waits_at old.stage ≡ true → OnErr result (new ≡ old)
  pub begins : OnOk result (is_begin head ≡ true → waits_at new.stage ≡ false)
  pub lives : has_partial new.stage ≡ true → is_live old.stage ≡ true
  pub ends : OnOk result (is_end head ≡ true → has_partial new.stage ≡ false)
  pub over : is_live old.stage ≡ true → is_live new.stage ≡ false → is_end head ≡ true

-- Whether BEGIN is taken where a receive waits for it is for its plan over the rows alone to say, whatever the image is, and nothing else asks a plan.
pub record PlansBegin (rows : Rows) (ask : RecvAsk) (head : Head) (waited : Bool) (result : Result (Unit {0}) RecvFault) : Type 0 where
  pub planned : (running : Pool) (header : Header) (len : ℕ) → head ≡ heads.Begin header len → waited ≡ true → AreNamed rows running → TellsNeeded rows running ask header → IsPlannedBy (recv_plan ask header running) result
  pub because : (fault : PlanFault) → is_planned fault ≡ true → result ≡ Err (faults.Pool (pools.Plan fault)) → (waited ≡ true) × (header : Header) × (len : ℕ) × (head ≡ heads.Begin header len)

-- What as many records as there are make of a disk, whatever the image is: blocks alone are written, and a feed answers no other fault.
pub record WritesRecords {A : Type 0} (old new : IoState) (result : Result A RecvFault) : Type 0 where
  pub fills : Fills old new (stop_of result)
  pub known : IfErr result IsFeedFault

-- What the plan of a receive says of a feed, whatever the image is: the rows alone tell it.
use Rattle.std.specs.Prelude.{◌≡◌, ℕ, Bool, true, false, List, ◌∷◌, Result, Ok, Err}
use Rattle.zst_dir.specs.RowNames.{AreNamed}
use Rattle.zst_dir.specs.Rows.{Rows}
use Rattle.zst_model.specs.declared.refusals.plan_fault.PlanFault.{PlanFault}
use Rattle.zst_model.specs.declared.refusals.plan_fault.PlanFault.TheVariants as plans
use Rattle.zst_model.specs.declared.refusals.stream_fault.StreamFault.{StreamFault}
use Rattle.zst_model.specs.declared.sends.header.Header.{Header}
use Rattle.zst_model.specs.pools.Pool.{Pool}
use Rattle.zst_plan.specs.Receipts.{TellsNeeded}
use Rattle.zst_plan.specs.RecvPlan.{RecvPlan, recv_plan}
use Rattle.zst_plan.specs.declared.receive.RecvAsk.{RecvAsk}
use Rattle.zst_pool.specs.declared.fault.PoolFault.TheVariants as pools
use Rattle.zst_record.specs.Heads.{Covered}
use Rattle.zst_record.specs.declared.head.Head.{Head}
use Rattle.zst_record.specs.declared.head.Head.TheVariants as heads
use Rattle.zst_stream.specs.Reading.{reading}
use Rattle.zst_recv.specs.declared.fault.RecvFault.{RecvFault}
use Rattle.zst_recv.specs.declared.fault.RecvFault.TheVariants as faults

-- the first record that a text covers is BEGIN, with this header
pub record Begins (text : List ℕ) (header : Header) : Type 0 where
  pub first : Covered
  pub rest : List Covered
  pub len : ℕ
  pub covered : (reading text).covered ≡ first ∷ rest
  pub head : first.head ≡ heads.Begin header len

-- where a receive waits, a text begins with this record's head, if that is BEGIN's
abbrev pub BeginsAt : (waits : Bool) → List ℕ → Head → Type 0
BeginsAt waits text head = waits ≡ true → (header : Header) (len : ℕ) → head ≡ heads.Begin header len → Begins text header

-- whether a plan alone finds a fault: all but those of a limit, of which applying a record and a commit find some too
abbrev pub is_planned : PlanFault → Bool
is_planned (plans.Limit which number) = false
is_planned fault = true

-- BEGIN is taken where its plan passes, and else refused as that is
abbrev pub IsPlannedBy : Result RecvPlan PlanFault → Result (Unit {0}) RecvFault → Type 0
IsPlannedBy plan (Ok done) = (passed : RecvPlan) × (plan ≡ Ok passed)
IsPlannedBy plan (Err fault) = (refused : PlanFault) × (plan ≡ Err refused) × (fault ≡ faults.Pool (pools.Plan refused))

-- of a pool that the rows name the plan refuses the stream that a text begins with
pub record RefusesOne (rows : Rows) (ask : RecvAsk) (text : List ℕ) (fault : PlanFault) : Type 0 where
  pub pool : Pool
  pub header : Header
  pub begins : Begins text header
  pub named : AreNamed rows pool
  pub tells : TellsNeeded rows pool ask header
  pub refused : recv_plan ask header pool ≡ Err fault

-- so it is of each pool that the rows name
pub record RefusesEach (rows : Rows) (ask : RecvAsk) (text : List ℕ) (fault : PlanFault) : Type 0 where
  pub header : Header
  pub begins : Begins text header
  pub refused : (pool : Pool) → AreNamed rows pool → TellsNeeded rows pool ask header → recv_plan ask header pool ≡ Err fault

-- a fault of the stream
abbrev pub IsOfStream : RecvFault → Type 0
IsOfStream fault = (told : StreamFault) × (fault ≡ faults.Stream told)

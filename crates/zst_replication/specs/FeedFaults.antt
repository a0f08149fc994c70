-- What a refused piece leaves of a receive, whatever was read before it.
use Rattle.std.specs.Prelude.{ℕ, ◌≡◌, ◌⊎◌, ◌+◌, ◌≤◌, ◌++◌, true, false, List, [], ◌∷◌, None, Ok, Err}
use Rattle.std.specs.List.{concat}
use Rattle.zst_apply.specs.AppliedRecords.{received_all}
use Rattle.zst_model.specs.declared.refusals.apply_fault.ApplyFault.{ApplyFault}
use Rattle.zst_model.specs.declared.refusals.faults.Quantity.TheVariants as quantities
use Rattle.zst_model.specs.declared.refusals.plan_fault.PlanFault.{PlanFault}
use Rattle.zst_model.specs.declared.refusals.refusal.Refusal.{Refusal}
use Rattle.zst_model.specs.declared.refusals.refusal.Refusal.TheVariants as refusals
use Rattle.zst_model.specs.declared.refusals.stream_fault.StreamFault.{StreamFault}
use Rattle.zst_model.specs.declared.sends.header.Header.{Header}
use Rattle.zst_model.specs.pools.KeptPool.{kept_of}
use Rattle.zst_model.specs.pools.Pool.{Pool, Partial, partial_of}
use Rattle.zst_model.specs.refusals.Refusal.{refusal_of}
use Rattle.zst_plan.specs.RecvPlan.{RecvPlan, recv_plan}
use Rattle.zst_plan.specs.declared.receive.RecvAsk.{RecvAsk}
use Rattle.zst_record.specs.Heads.{Covered}
use Rattle.zst_record.specs.declared.head.Head.TheVariants as heads
use Rattle.zst_stream.specs.Items.{items_by}
use Rattle.zst_stream.specs.Reading.{Outcome, Reading, faulty, reading}
use Rattle.zst_recv.specs.Answers.{is_done}
use Rattle.zst_recv.specs.Feeds.{receives}
use Rattle.zst_recv.specs.ReceiveSteps.{Stage, Goes, Stops}
use Rattle.zst_replication.specs.KeptReceives.{keep_by}
use Rattle.zst_replication.specs.Outcomes.{HasNothing, HasPartial}
use Rattle.zst_replication.specs.Resumption.{AppliedBehind}

-- a receive took some pieces, behind which this pool ran, and the next one is refused, which leaves this pool
pub record IsRefused (ask : RecvAsk) (start : Pool) (pieces : List (List ℕ)) (piece : List ℕ) (pool after : Pool) (refusal : Refusal) : Type 0 where
  pub stage : Stage
  pub went : receives ask start pieces ≡ Goes pool stage
  pub unended : is_done stage ≡ false
  pub stops : receives ask start (pieces ++ piece ∷ []) ≡ Stops after refusal

-- all that was read then
abbrev pub read_with : List (List ℕ) → List ℕ → Reading
read_with pieces piece = reading (concat pieces ++ piece)

-- a refusal of the stream (E17 to E19), of an item of a record (E21), or of an index past the limit (E23)
abbrev pub IsOfRecords : Refusal → Type 0
IsOfRecords refusal =
    ((fault : StreamFault) × (refusal ≡ refusals.Stream fault))
    ⊎ (((index : ℕ) × (fault : ApplyFault) × (refusal ≡ refusals.CannotApply index fault))
    ⊎ ((number : ℕ) × (refusal ≡ refusals.Limit quantities.Block number)))

-- the first record is BEGIN with this header, and the receive is planned by it
pub record IsPlanned (ask : RecvAsk) (start : Pool) (records : List Covered) : Type 0 where
  pub first : Covered
  pub rest : List Covered
  pub header : Header
  pub len : ℕ
  pub plan : RecvPlan
  pub records_are : records ≡ first ∷ rest
  pub head_is : first.head ≡ heads.Begin header len
  pub planned : recv_plan ask header start ≡ Ok plan

-- where the records that were applied end: nothing more is covered, since the reading finds a fault there; or the next record says an item that
-- is refused over this partial state
abbrev pub EndsAtFault : (number flags : ℕ) → Partial → (left : List Covered) → Outcome → Refusal → Type 0
EndsAtFault number flags partial left outcome refusal =
    ((fault : StreamFault) × (left ≡ []) × (outcome ≡ faulty fault) × (refusal ≡ refusals.Stream fault))
    ⊎ ((next : Covered) × (rest : List Covered) × (left ≡ next ∷ rest)
    × (received_all number next.index (items_by flags next.payload next.head) partial.objects ≡ Err refusal))

-- the image keeps what all records before the fault make, committed once, and all else is as at the start
pub record KeepsFront (ask : RecvAsk) (start pool after : Pool) (read : Reading) (refusal : Refusal) : Type 0 where
  pub front : List Covered
  pub left : List Covered
  pub split : read.covered ≡ front ++ left
  pub flags : ℕ
  pub partial : Partial
  pub applied : AppliedBehind ask start front flags partial
  pub fault : EndsAtFault (pool.number + 1) flags partial left read.outcome refusal
  pub has : HasPartial ask (kept_of start) (kept_of after) partial
  pub once : after.number ≤ pool.number + 1

-- Of a receive that is kept and was planned, a refusal of the stream or of a record leaves exactly what the records before it make.
abbrev pub FaultsKeepFront : Type 0
FaultsKeepFront =
    (ask : RecvAsk) (start pool after : Pool) (pieces : List (List ℕ)) (piece : List ℕ) (refusal : Refusal)
    → IsRefused ask start pieces piece pool after refusal → keep_by ask start ≡ true → IsPlanned ask start (read_with pieces piece).covered
    → IsOfRecords refusal → KeepsFront ask start pool after (read_with pieces piece) refusal

-- Any other refusal, as one of a limit of the pool (E23), leaves what stood after the pieces before.
abbrev pub OthersLeaveAll : Type 0
OthersLeaveAll =
    (ask : RecvAsk) (start pool after : Pool) (pieces : List (List ℕ)) (piece : List ℕ) (refusal : Refusal)
    → IsRefused ask start pieces piece pool after refusal → keep_by ask start ≡ true → (IsOfRecords refusal → ⊥) → after ≡ pool

-- Where BEGIN isn't covered, or its plan is refused, nothing begins: the pool is as at the start, and the plan's refusal is told.
abbrev pub UnplannedLeaveAll : Type 0
UnplannedLeaveAll =
    (ask : RecvAsk) (start pool after : Pool) (pieces : List (List ℕ)) (piece : List ℕ) (refusal : Refusal)
    → IsRefused ask start pieces piece pool after refusal
    → ((read_with pieces piece).covered ≡ [] → after ≡ start)
    × ((first : Covered) (rest : List Covered) (header : Header) (len : ℕ) (fault : PlanFault) → (read_with pieces piece).covered ≡ first ∷ rest
    → first.head ≡ heads.Begin header len → recv_plan ask header start ≡ Err fault → (after ≡ start) × (refusal ≡ refusal_of fault))

-- Without -s nothing of a refused receive stands, not even in the pool that runs.
abbrev pub UnkeptLeaveNothing : Type 0
UnkeptLeaveNothing =
    (ask : RecvAsk) (start pool after : Pool) (pieces : List (List ℕ)) (piece : List ℕ) (refusal : Refusal)
    → IsRefused ask start pieces piece pool after refusal → partial_of ask.target start ≡ None → ask.keep ≡ false → HasNothing ask start after

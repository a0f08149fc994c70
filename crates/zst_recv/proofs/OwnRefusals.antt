-- No definition of a receive refuses for the disk's room or for its faults: these are the disk's own.
use Rattle.std.proofs.Common.{◌≡◌, ℕ, ◌+◌, Bool, true, false, List, [], ◌∷◌, ◌++◌, subst}
use Rattle.std.specs.Prelude.{Option, Some, None, Result, Ok, Err, IfErr, IfSome}
use Rattle.zst_model.specs.declared.refusals.apply_fault.ApplyFault.{ApplyFault}
use Rattle.zst_model.specs.declared.refusals.faults.Quantity.TheVariants as quantities
use Rattle.zst_model.specs.declared.refusals.plan_fault.PlanFault.{PlanFault}
use Rattle.zst_model.specs.declared.refusals.refusal.Refusal.{Refusal}
use Rattle.zst_model.specs.declared.refusals.refusal.Refusal.TheVariants as refusals
use Rattle.zst_model.specs.declared.states.item.Item.{Item}
use Rattle.zst_model.specs.pools.Pool.{Pool, Partial}
use Rattle.zst_model.specs.refusals.Refusal.{refusal_of}
use Rattle.zst_model.specs.sends.Points.{point_of}
use Rattle.zst_model.specs.sends.ReceivedRecords.{is_past, of_record, received}
use Rattle.zst_model.specs.states.AppliedItems.{unless, ◌>>=◌}
use Rattle.zst_model.specs.states.DatedState.{DatedState, apply_dated}
use Rattle.zst_model.specs.states.State.{index_bound}
use Rattle.zst_model.proofs.PlanFaults.{plan_cases}
use Rattle.zst_apply.specs.AppliedRecords.{received_all}
use Rattle.zst_plan.specs.RecvPlan.{RecvPlan, recv_plan}
use Rattle.zst_plan.specs.declared.receive.RecvAsk.{RecvAsk}
use Rattle.zst_record.specs.Heads.{Covered}
use Rattle.zst_record.specs.declared.head.Head.{Head}
use Rattle.zst_record.specs.declared.head.Head.TheVariants as heads
use Rattle.zst_stream.specs.Items.{items_by}
use Rattle.zst_stream.specs.Reading.{Outcome, waiting, faulty, complete, reading}
use Rattle.zst_recv.specs.Feeds.{fault_of, new_records}
use Rattle.zst_recv.specs.ReceiveSteps.{Stage, Waits, Lives, Ends, Batch, EndedBatch, batch_of, batch_by, began, first_fault, moved_by, of_plan, opened, taken, taken_at, went_on, with_applied}
use Rattle.zst_recv.specs.TakenRecords.{fault_in}

-- a refusal of the definition's own
abbrev pub IsOwn : Refusal → Type 0
IsOwn (refusals.Full need largest) = ⊥
IsOwn refusals.DiskFault = ⊥
IsOwn _ = Unit {0}

own_plan : (fault : PlanFault) → IsOwn (refusal_of fault)
own_plan = plan_cases (λ fault. IsOwn) (λ fault. tt) (λ which number. tt)

own_of_plan : (plan : Result RecvPlan PlanFault) → IfErr (of_plan plan) IsOwn
own_of_plan (Ok plan) = tt
own_of_plan (Err fault) = own_plan fault

own_then : {A B : Type 0} (r : Result A Refusal) (f : A → Result B Refusal) → IfErr r IsOwn → ((a : A) → IfErr (f a) IsOwn) → IfErr (r >>= f) IsOwn
own_then (Ok a) f is later = later a
own_then (Err refusal) f is later = is

-- ---- records

own_record : {A : Type 0} (index : ℕ) (r : Result A ApplyFault) → IfErr (of_record index r) IsOwn
own_record index (Ok made) = tt
own_record index (Err fault) = tt

own_limit : (past : Bool) (after : DatedState) → IfErr (unless past (refusals.Limit quantities.Block index_bound) (Ok after)) IsOwn
own_limit true after = tt
own_limit false after = tt

own_received : (number index : ℕ) (item : Item) (snap : DatedState) → IfErr (received number index item snap) IsOwn
own_received number index item snap =
    own_then (of_record index (apply_dated number item snap)) (λ after. unless (is_past item snap.state) (refusals.Limit quantities.Block index_bound) (Ok after))
    (own_record index (apply_dated number item snap)) (λ after. own_limit (is_past item snap.state) after)

own_all : (number index : ℕ) (items : List Item) (snap : DatedState) → IfErr (received_all number index items snap) IsOwn
own_all number index [] snap = tt
own_all number index (item ∷ rest) snap =
    own_then (received number index item snap) (received_all number index rest) (own_received number index item snap) (own_all number index rest)

own_moved : (number : ℕ) (c : Covered) (flags : ℕ) (partial : Partial) → IfErr (moved_by number c flags partial) IsOwn
own_moved number c flags partial =
    own_then (received_all number c.index (items_by flags c.payload c.head) partial.objects)
    (λ objects. Ok (record partial { objects = objects; point = point_of partial.point (items_by flags c.payload c.head) }))
    (own_all number c.index (items_by flags c.payload c.head) partial.objects) (λ objects. tt)

module _ (ask : RecvAsk) (pool : Pool) (c : Covered) (plain : Batch) where
  own_began : (head : Head) → IfErr (began ask pool plain head) IsOwn
  own_began (heads.Begin header len) = own_then (of_plan (recv_plan ask header pool)) (λ plan. Ok (opened ask header plan)) (own_of_plan (recv_plan ask header pool)) (λ plan. tt)
  own_began (heads.Object object kind bonus_kind block_size bonus_len max_block to) = tt
  own_began (heads.FreeObjects first count to) = tt
  own_began (heads.Write object kind offset size to) = tt
  own_began (heads.Free object offset size to) = tt
  own_began (heads.End sums to) = tt
  own_began (heads.Spill object size to) = tt
  own_began (heads.Redact object offset size to) = tt

  module _ (number flags : ℕ) (partial : Partial) where
    own_applied : IfErr (moved_by number c flags partial >>= λ moved. Ok (with_applied flags moved plain)) IsOwn
    own_applied = own_then (moved_by number c flags partial) (λ moved. Ok (with_applied flags moved plain)) (own_moved number c flags partial) (λ moved. tt)

    own_went : (head : Head) → IfErr (went_on number c flags partial plain head) IsOwn
    own_went (heads.Begin header len) = tt
    own_went (heads.Object object kind bonus_kind block_size bonus_len max_block to) = own_applied
    own_went (heads.FreeObjects first count to) = own_applied
    own_went (heads.Write object kind offset size to) = own_applied
    own_went (heads.Free object offset size to) = own_applied
    own_went (heads.End sums to) = tt
    own_went (heads.Spill object size to) = own_applied
    own_went (heads.Redact object offset size to) = own_applied

  own_taken : (stage : Stage) → IfErr (taken_at ask pool c plain stage) IsOwn
  own_taken Waits = own_began c.head
  own_taken (Lives flags partial) = own_went (pool.number + 1) flags partial c.head
  own_taken (Ends partial) = tt

-- ---- batches and pieces

own_by : (r : Result Batch Refusal) (plain : Batch) (next : Batch → EndedBatch) → IfErr r IsOwn → ((after : Batch) → IfSome (next after).fault IsOwn) → IfSome (batch_by r plain next).fault IsOwn
own_by (Ok after) plain next is later = later after
own_by (Err refusal) plain next is later = is

own_batch : (ask : RecvAsk) (pool : Pool) (records : List Covered) (plain : Batch) → IfSome (batch_of ask pool records plain).fault IsOwn
unfolding batch_of
own_batch ask pool [] plain = tt
own_batch ask pool (c ∷ rest) plain = own_by (taken ask pool c plain) plain (batch_of ask pool rest) (own_taken ask pool c plain plain.stage) (own_batch ask pool rest)

own_outcome : (outcome : Outcome) → IfSome (fault_of outcome) IsOwn
own_outcome waiting = tt
own_outcome (faulty fault) = tt
own_outcome complete = tt

own_first : (fault other : Option Refusal) → IfSome fault IsOwn → IfSome other IsOwn → IfSome (first_fault fault other) IsOwn
own_first None other is later = later
own_first (Some refusal) other is later = is

-- the first fault of a piece is the definition's own
pub own_fault : (ask : RecvAsk) (pool : Pool) (text piece : List ℕ) (plain : Batch) (refusal : Refusal) → fault_in ask pool text piece plain ≡ Some refusal → IsOwn refusal
own_fault ask pool text piece plain refusal is =
    subst (λ (o : Option Refusal). IfSome o IsOwn) is
    (own_first (batch_of ask pool (new_records text piece) plain).fault (fault_of (reading (text ++ piece)).outcome) (own_batch ask pool (new_records text piece) plain) (own_outcome (reading (text ++ piece)).outcome))

-- What a receive makes of a pool that runs (zfs-receive(8)): one commit for each piece of a stream of which something is covered.
use Rattle.std.specs.Prelude.{ℕ, ◌+◌, Bool, true, false, ◌&&◌, List, [], ◌∷◌, Option, Some, None, option_map, Result, Ok, Err, if◌then◌else◌}
use Rattle.std.specs.Option.{option_map_or}
use Rattle.zst_model.specs.declared.refusals.faults.Quantity.TheVariants as quantities
use Rattle.zst_model.specs.declared.refusals.plan_fault.PlanFault.{PlanFault}
use Rattle.zst_model.specs.declared.refusals.refusal.Refusal.{Refusal}
use Rattle.zst_model.specs.declared.refusals.refusal.Refusal.TheVariants as refusals
use Rattle.zst_model.specs.declared.sends.header.Header.{Header}
use Rattle.zst_model.specs.pools.Pool.{Pool, Partial, untouched}
use Rattle.zst_model.specs.refusals.Refusal.{refusal_of}
use Rattle.zst_model.specs.sends.Items.{origin}
use Rattle.zst_model.specs.sends.Points.{point_of}
use Rattle.zst_model.specs.states.AppliedItems.{◌>>=◌}
use Rattle.zst_apply.specs.AppliedRecords.{received_all}
use Rattle.zst_plan.specs.RecvPlan.{Base, RecvPlan, Resumes, Begins, recv_plan}
use Rattle.zst_plan.specs.declared.receive.RecvAsk.{RecvAsk}
use Rattle.zst_pool.specs.Partials.{partial_put, partial_finished, without_unkept}
use Rattle.zst_record.specs.declared.head.Head.{Head}
use Rattle.zst_record.specs.declared.head.Head.TheVariants as heads
use Rattle.zst_record.specs.Heads.{Covered}
use Rattle.zst_stream.specs.Items.{items_by}

-- where a receive stands: BEGIN isn't covered yet; its partial state is under way, by a stream with these flags; or END was covered, and the partial state is to be the snapshot
pub data Stage : Type 0 where
  Waits : Stage
  Lives : (flags : ℕ) → Partial → Stage
  Ends : Partial → Stage

-- a batch is what one feed has made: where the receive then stands, whether the target's head is rolled back with it, whether a record was taken, and how many of these stood between BEGIN and END
pub record Batch : Type 0 where
  pub stage : Stage
  pub rolls : Bool
  pub taken : Bool
  pub applied : ℕ

-- a feed begins where the receive stands
abbrev pub at_stage : Stage → Batch
at_stage stage = record { stage = stage; rolls = false; taken = false; applied = 0 }

-- ---- records

-- the partial state that a receive begins with: the base's objects with their dates, or none, at the origin
abbrev pub begun : RecvAsk → Header → List ℕ → Base → Partial
begun ask header component base = record {
  target = ask.target;
  component = component;
  keep = ask.keep;
  header = header;
  base = option_map (λ snapshot. snapshot.name) base.snapshot;
  objects = option_map_or (λ snapshot. snapshot.objects) base.snapshot untouched;
  point = origin;
}

-- BEGIN was taken by its plan: the stream's own flags hold, also where it goes on with a partial state
abbrev pub opened : RecvAsk → Header → RecvPlan → Batch
opened ask header (Resumes partial) = record { stage = Lives header.flags partial; rolls = false; taken = true; applied = 0 }
opened ask header (Begins component base) = record { stage = Lives header.flags (begun ask header component base); rolls = base.rolls; taken = true; applied = 0 }

-- a plan's answer, with its fault as a refusal
abbrev pub of_plan : {A : Type 0} → Result A PlanFault → Result A Refusal
of_plan (Ok plan) = Ok plan
of_plan (Err fault) = Err (refusal_of fault)

-- BEGIN, by its plan; a reading gives it first, so that no other record comes before it
abbrev pub began : RecvAsk → Pool → Batch → Head → Result Batch Refusal
began ask pool batch (heads.Begin header len) = of_plan (recv_plan ask header pool) >>= λ plan. Ok (opened ask header plan)
began ask pool batch head = Ok batch

-- the partial state after a record that says these items: E21, then E23 of an index
abbrev pub moved_by : (number : ℕ) → Covered → (flags : ℕ) → Partial → Result Partial Refusal
moved_by number c flags partial =
    received_all number c.index (items_by flags c.payload c.head) partial.objects >>= λ objects.
    Ok (record partial { objects = objects; point = point_of partial.point (items_by flags c.payload c.head) })

-- one record more was applied, and this is the partial state
abbrev pub with_applied : ℕ → Partial → Batch → Batch
with_applied flags partial batch = record batch { stage = Lives flags partial; taken = true; applied = batch.applied + 1 }

-- END, or a record that is applied; a reading gives BEGIN only first
abbrev pub went_on : (number : ℕ) → Covered → (flags : ℕ) → Partial → Batch → Head → Result Batch Refusal
went_on number c flags partial batch (heads.Begin header len) = Ok batch
went_on number c flags partial batch (heads.End sums to) = Ok (record batch { stage = Ends partial; taken = true })
went_on number c flags partial batch head = moved_by number c flags partial >>= λ moved. Ok (with_applied flags moved batch)

-- what one covered record makes of a feed, by where the receive stands; behind END none comes
abbrev pub taken_at : RecvAsk → Pool → Covered → Batch → Stage → Result Batch Refusal
taken_at ask pool c batch Waits = began ask pool batch c.head
taken_at ask pool c batch (Lives flags partial) = went_on (pool.number + 1) c flags partial batch c.head
taken_at ask pool c batch (Ends partial) = Ok batch

abbrev pub taken : RecvAsk → Pool → Covered → Batch → Result Batch Refusal
taken ask pool c batch = taken_at ask pool c batch batch.stage

-- a batch with the records up to the first that is refused, and why that was
pub record EndedBatch : Type 0 where
  pub batch : Batch
  pub fault : Option Refusal

abbrev pub batch_by : Result Batch Refusal → Batch → (Batch → EndedBatch) → EndedBatch
batch_by (Err refusal) batch next = record { batch = batch; fault = Some refusal }
batch_by (Ok after) batch next = next after

unfoldable pub batch_of : RecvAsk → Pool → List Covered → Batch → EndedBatch
batch_of ask pool [] batch = record { batch = batch; fault = None }
batch_of ask pool (c ∷ rest) batch = batch_by (taken ask pool c batch) batch (batch_of ask pool rest)

-- ---- one feed

-- a receive that goes on, or has ended with END; or one that was refused; and the pool that then runs
pub data Fed : Type 0 where
  Goes : Pool → Stage → Fed
  Stops : Pool → Refusal → Fed

-- the pool that then runs
abbrev pub pool_of : Fed → Pool
pool_of (Goes pool stage) = pool
pool_of (Stops pool refusal) = pool

-- what stays where a receive ends at this stage: a partial state that isn't kept goes
abbrev pub left_by : Stage → Pool → Pool
left_by Waits pool = pool
left_by (Lives flags partial) pool = without_unkept partial.target pool
left_by (Ends partial) pool = pool

-- whether the partial state stays where its session ends
abbrev pub is_kept : Stage → Bool
is_kept Waits = false
is_kept (Lives flags partial) = partial.keep
is_kept (Ends partial) = false

-- the records before one of these refusals stay where the partial state is kept: E17 to E19 of a stream, E21, and E23 of an index
abbrev pub keeps_front : Refusal → Bool
keeps_front (refusals.Stream fault) = true
keeps_front (refusals.CannotApply index fault) = true
keeps_front (refusals.Limit quantities.Block number) = true
keeps_front _ = false

-- the commit of what was taken, by where the receive then stands: E23 of the pool comes here
abbrev pub put_at : Bool → Stage → Pool → Result Pool Refusal
put_at rolls Waits pool = Ok pool
put_at rolls (Lives flags partial) pool = partial_put rolls partial pool
put_at rolls (Ends partial) pool = partial_finished partial pool

-- one commit where a record was taken, and else none
abbrev pub put : Batch → Pool → Result Pool Refusal
put batch pool = if batch.taken then put_at batch.rolls batch.stage pool else Ok pool

-- what follows a commit; where it is refused nothing of the feed stays
abbrev pub committed : Stage → Pool → Result Pool Refusal → (Pool → Fed) → Fed
committed before pool (Ok next) follow = follow next
committed before pool (Err refusal) follow = Stops (left_by before pool) refusal

-- the first of two faults
abbrev pub first_fault : Option Refusal → Option Refusal → Option Refusal
first_fault None other = other
first_fault (Some refusal) other = Some refusal

abbrev pub settled : Stage → Pool → Batch → Option Refusal → Fed
settled before pool batch None = committed before pool (put batch pool) (λ next. Goes next batch.stage)
settled before pool batch (Some refusal) =
    if keeps_front refusal && is_kept batch.stage
    then committed before pool (put batch pool) (λ next. Stops next refusal)
    else Stops (left_by before pool) refusal

-- what these records, and the fault that their reading ends with, make of a receive that stands here and of the pool that runs
unfoldable pub fed : RecvAsk → List Covered → Option Refusal → Stage → Pool → Fed
fed ask records fault stage pool =
    let done = batch_of ask pool records (at_stage stage) in
    settled stage pool done.batch (first_fault done.fault fault)

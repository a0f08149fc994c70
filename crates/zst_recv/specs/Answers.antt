-- What a feed answers, and what then stands.
use Rattle.std.specs.Prelude.{◌≡◌, ◌⊎◌, ◌+◌, ◌<◌, ◌++◌, ℕ, Bool, true, false, not, List, length, Option, Some, Result, Ok, Err}
use Rattle.zst_outside.specs.Images.{DiskState, Leaves}
use Rattle.zst_block.specs.Blocks.{Has}
use Rattle.zst_image.specs.Bodies.{free_by}
use Rattle.zst_image.specs.Reads.{Reads, bound_of}
use Rattle.zst_image.specs.declared.pool_state.PoolState.{PoolState}
use Rattle.zst_model.specs.declared.refusals.faults.Quantity.TheVariants.{Stream}
use Rattle.zst_model.specs.declared.refusals.plan_fault.PlanFault.TheVariants.{Limit}
use Rattle.zst_model.specs.declared.refusals.refusal.Refusal.{Refusal}
use Rattle.zst_model.specs.declared.sends.header.Point.{Point}
use Rattle.zst_model.specs.pools.KeptPool.{kept_of}
use Rattle.zst_model.specs.pools.Pool.{Pool, Partial}
use Rattle.zst_model.specs.sends.Items.{origin}
use Rattle.zst_plan.specs.declared.receive.RecvAsk.{RecvAsk}
use Rattle.zst_pool.specs.Calls.{IsAtRest}
use Rattle.zst_pool.specs.Faults.{pool_refusal}
use Rattle.zst_pool.specs.declared.fault.PoolFault.{PoolFault}
use Rattle.zst_pool.specs.declared.fault.PoolFault.TheVariants as pools
use Rattle.zst_reader.specs.InputReads.{stream_limit}
use Rattle.zst_recv.specs.Faults.{recv_refusal}
use Rattle.zst_recv.specs.Feeds.{fed_piece, new_records, used_of}
use Rattle.zst_recv.specs.ReceiveSteps.{Stage, Waits, Lives, Ends, Fed, Goes, Stops, at_stage, batch_of, left_by, pool_of}
use Rattle.zst_recv.specs.Stages.{Receives, ask_of, received_by}
use Rattle.zst_recv.specs.declared.fault.RecvFault.{RecvFault}
use Rattle.zst_recv.specs.declared.fault.RecvFault.TheVariants as faults
use Rattle.zst_recv.specs.declared.received_snapshot.ReceivedSnapshot.{ReceivedSnapshot}
use Rattle.zst_recv.specs.declared.recv.FeedReport as coded
use Rattle.zst_recv.specs.declared.recv.Recv.{Recv}

-- the point of the partial state, and whether it is to be the snapshot
abbrev pub point_at : Stage → Point
point_at Waits = origin
point_at (Lives flags partial) = partial.point
point_at (Ends partial) = partial.point

abbrev pub is_done : Stage → Bool
is_done Waits = false
is_done (Lives flags partial) = false
is_done (Ends partial) = true

-- how many records between BEGIN and END a piece applied
abbrev pub applied_of : RecvAsk → List ℕ → List ℕ → Stage → Pool → ℕ
applied_of ask text piece stage pool = (batch_of ask pool (new_records text piece) (at_stage stage)).batch.applied

-- what a feed tells: the bytes of the piece that are of the stream, the records that it applied, the point, and whether END was covered
pub record Tells (ask : RecvAsk) (text piece : List ℕ) (before after : Stage) (pool : Pool) (fed : coded.FeedReport) : Type 0 where
  pub used : fed.used ≡ used_of text piece
  pub applied : fed.applied ≡ applied_of ask text piece before pool
  pub point : fed.point ≡ point_at after
  pub done : fed.done ≡ is_done after

-- whether the receive goes on after this answer: not after END, and after no refusal
abbrev pub goes_on : Result coded.FeedReport RecvFault → Bool
goes_on (Ok fed) = not fed.done
goes_on (Err fault) = false

-- the snapshot that a partial state becomes
abbrev pub received_of : Partial → ReceivedSnapshot
received_of partial = record { target = partial.target; component = partial.component; guid = partial.header.to }

-- the receive goes on from this text and this stage; or it is done, and tells the snapshot
abbrev pub GoesOn : Option ℕ → DiskState → PoolState → Recv → List ℕ → Stage → Type 0
GoesOn bound now kept recv text Waits = Receives bound (Has now.seen (free_by kept.body)) recv text Waits
GoesOn bound now kept recv text (Lives flags partial) = Receives bound (Has now.seen (free_by kept.body)) recv text (Lives flags partial)
GoesOn bound now kept recv text (Ends partial) = received_by recv ≡ Some (received_of partial)

-- the piece was taken: what the definition makes of the pool is at rest
pub record IsFed (tight : Bool) (now : DiskState) (kept : PoolState) (recv : Recv) (text piece : List ℕ) (before : Stage) (pool : Pool) (definition : Fed) (fed : coded.FeedReport) : Type 0 where
  pub next : Pool
  pub after : Stage
  pub definition_is : definition ≡ Goes next after
  pub rests : IsAtRest tight now kept next
  pub goes_on : GoesOn (bound_of tight next.number) now kept recv (text ++ piece) after
  pub tells : Tells (ask_of recv) text piece before after pool fed

-- the definition refuses so, and what it leaves is at rest
pub record IsStopped (tight : Bool) (now : DiskState) (kept : PoolState) (definition : Fed) (refusal : Refusal) : Type 0 where
  pub next : Pool
  pub definition_is : definition ≡ Stops next refusal
  pub rests : IsAtRest tight now kept next

-- What a feed answers where the pool was at rest. After a refusal that the definition doesn't tell nothing of the piece stays: the
-- stream is too long (E23), the disk is full (E24), no memory is left (E32); where the disk failed, each image is as at one of the moments.
abbrev pub FeedFault : (tight : Bool) → DiskState → PoolState → List ℕ → List ℕ → Stage → Pool → Fed → PoolFault → Type 0
FeedFault tight now kept text piece before pool definition (pools.Plan (Limit Stream number)) =
    (number ≡ stream_limit) × (stream_limit < length text + length piece) × IsAtRest tight now kept (left_by before pool)
FeedFault tight now kept text piece before pool definition (pools.Plan fault) = IsStopped tight now kept definition (pool_refusal (pools.Plan fault))
FeedFault tight now kept text piece before pool definition (pools.CannotApply fault) = ⊥
FeedFault tight now kept text piece before pool definition (pools.Redacted object block) = ⊥
FeedFault tight now kept text piece before pool definition (pools.Full need largest) = (largest < need) × IsAtRest tight now kept (left_by before pool)
FeedFault tight now kept text piece before pool definition (pools.Damaged sector stated found) = ⊥
FeedFault tight now kept text piece before pool definition pools.DiskFault = Unit {0}
FeedFault tight now kept text piece before pool definition pools.Failed = ⊥
FeedFault tight now kept text piece before pool definition pools.OutOfMemory = IsAtRest tight now kept (left_by before pool)

abbrev pub FeedAnswer : (tight : Bool) → DiskState → PoolState → Recv → List ℕ → List ℕ → Stage → Pool → Fed → Result coded.FeedReport RecvFault → Type 0
FeedAnswer tight now kept recv text piece before pool definition (Ok fed) = IsFed tight now kept recv text piece before pool definition fed
FeedAnswer tight now kept recv text piece before pool definition (Err (faults.Pool fault)) = FeedFault tight now kept text piece before pool definition fault
FeedAnswer tight now kept recv text piece before pool definition (Err fault) = IsStopped tight now kept definition (recv_refusal fault)

-- A feed: at every moment each image reads as what is kept of the pool before it, or of the one that it leaves; and then by its answer.
pub record Feeds (tight : Bool) (old now : DiskState) (kept : PoolState) (recv : Recv) (text piece : List ℕ) (before : Stage) (pool : Pool) (result : Result coded.FeedReport RecvFault) : Type 0 where
  pub moments : Leaves old now (λ c. Reads tight (kept_of pool) c ⊎ Reads tight (kept_of (pool_of (fed_piece (ask_of recv) text piece before pool))) c)
  pub answer : FeedAnswer tight now kept recv text piece before pool (fed_piece (ask_of recv) text piece before pool) result

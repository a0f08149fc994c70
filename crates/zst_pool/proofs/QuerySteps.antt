-- A command that only answers leaves a pool as it was.
use Rattle.std.specs.Prelude.{Some, Result, Ok, Err, IfErr, OnErr, OnOk}
use Rattle.std.proofs.Common.{◌≡◌, inl, ℕ, List, refl, ap, Bool, arith}
use Rattle.zst_outside.specs.Images.{DiskState, Leaves, Leaves-weaker, OnlyReads}
use Rattle.zst_space.specs.FreeSectors.{FreeSectors}
use Rattle.zst_block.specs.Blocks.{FillsFree, SparesTaken}
use Rattle.zst_block.specs.IoCalls.{HasCause, fails}
use Rattle.zst_block.specs.declared.fault.BlockFault.TheVariants as blocks
use Rattle.zst_block.proofs.BlocksLaws.{FillsFree-reads, Has-spared}
use Rattle.zst_block.proofs.TakenSectors.{takes_none}
use Rattle.zst_model.specs.declared.refusals.refusal.Refusal.{Refusal}
use Rattle.zst_model.specs.pools.KeptPool.{kept_of}
use Rattle.zst_model.specs.pools.Pool.{Pool}
use Rattle.zst_model.specs.pools.Step.{Stepped}
use Rattle.zst_image.specs.Commits.{HasItsExtents, Ready}
use Rattle.zst_image.specs.Bodies.{Body, free_by}
use Rattle.zst_image.specs.Reads.{Reads}
use Rattle.zst_image.specs.declared.pool_state.PoolState.{PoolState}
use Rattle.zst_image.proofs.Growth.{HasItsExtents-kept}
use Rattle.zst_pool.specs.Calls.{IsAtRest, IsUnderWay}
use Rattle.zst_pool.specs.Cost.{FindsLess, Spends}
use Rattle.zst_pool.specs.Faults.{HasDiskCause, is_disk_fault}
use Rattle.zst_pool.specs.StepAnswers.{BeforeOrAfter, StepAnswer}
use Rattle.zst_pool.specs.Queries.{TellsAnswer, stop_of}
use Rattle.zst_pool.proofs.CommandEnds.{keeps}
use Rattle.zst_pool.proofs.PoolsAtRest.{ready_after, rests_on, since}
use Rattle.zst_pool.specs.declared.fault.PoolFault.{PoolFault}
use Rattle.zst_pool.specs.declared.fault.PoolFault.TheVariants as faults

module _ (old new : DiskState) (kept : PoolState) (reads : OnlyReads old new) where
  fills : FillsFree old (free_by kept.body) new (free_by kept.body)
  fills = FillsFree-reads old new (free_by kept.body) reads

  pub spares_read : SparesTaken (free_by kept.body) old.seen new.seen
  spares_read = fills.seen

  pub ready_read : Ready old kept.body → Ready new kept.body
  ready_read ready = ready_after old new (free_by kept.body) (free_by kept.body) kept.body refl fills ready

  -- and what its body's free extents stand in
  pub extents_read : HasItsExtents old kept.body → HasItsExtents new kept.body
  extents_read = HasItsExtents-kept old new kept.body (λ ptr bytes has. Has-spared (free_by kept.body) old.seen new.seen ptr bytes spares_read has)

  module _ {tight : Bool} (running : Pool) (rested : IsAtRest tight old kept running) where
    under_way : IsUnderWay tight old new (free_by kept.body) kept running
    under_way = record { rested = rested; fills = fills }

    pub rests_read : IsAtRest tight new kept running
    rests_read = rests_on old new (free_by kept.body) kept running under_way

    pub since_read : (after : Result Stepped Refusal) → Leaves old new (BeforeOrAfter tight running after)
    since_read after = Leaves-weaker old new (Reads tight (kept_of running)) (BeforeOrAfter tight running after) (since old new (free_by kept.body) kept running under_way) (λ c is. inl is)

-- what is told is the definition's answer, and the pool as it was is at rest
pub told_rests : {tight : Bool} (now : DiskState) (kept : PoolState) (running : Pool) (definition : Result Stepped Refusal) (result : Result (List (List ℕ)) PoolFault) → IsAtRest tight now kept running → TellsAnswer running definition result
    → StepAnswer tight now kept running definition result
told_rests {tight = tight} now kept running definition (Ok reply) rested told = (record { reply = reply; pool = running }, told, refl, rested)
told_rests {tight = tight} now kept running definition (Err fault) rested told = keeps (IsAtRest tight now kept running) definition rested fault told

-- what holds does so after each refusal
pub on_err : {T : Type 0} {P : Type 0} (result : Result T PoolFault) → P → OnErr result P
on_err (Ok value) is = tt
on_err (Err fault) is = is

-- and after each answer
pub on_ok : {T : Type 0} {P : Type 0} (result : Result T PoolFault) → P → OnOk result P
on_ok (Ok value) is = is
on_ok (Err fault) is = tt

-- it takes no sectors
pub spends_none : (cells block list : ℕ) (kept : PoolState) (left : FreeSectors) (result : Result (List (List ℕ)) PoolFault) → ((need largest : ℕ) → ¬ (stop_of result ≡ Some (blocks.Full need largest)))
    → Spends cells block list kept left (λ reply. kept) result
spends_none cells block list kept left (Ok reply) never = record { full = tt; grows = takes_none (free_by kept.body); directory = omega arith }
spends_none cells block list kept left (Err fault) never = record { full = λ need largest is. absurd (never need largest (ap (λ (f : PoolFault). stop_of {T = List (List ℕ)} (Err f)) is)); grows = tt; directory = tt }

-- and finds room for all that it takes
pub finds_none : (cells block list : ℕ) (body : Body) (definition : Result Stepped Refusal) (result : Result (List (List ℕ)) PoolFault) → ((need largest : ℕ) → ¬ (stop_of result ≡ Some (blocks.Full need largest)))
    → IfErr result (FindsLess cells block list body definition)
finds_none cells block list body definition (Ok reply) never = tt
finds_none cells block list body definition (Err fault) never = λ need largest is. absurd (never need largest (ap (λ (f : PoolFault). stop_of {T = List (List ℕ)} (Err f)) is))

-- it stops at a fault of the disk where it answers one
pub fails_told : (result : Result (List (List ℕ)) PoolFault) → fails (stop_of result) ≡ is_disk_fault result
fails_told (Ok reply) = refl
fails_told (Err (faults.Plan fault)) = refl
fails_told (Err (faults.CannotApply fault)) = refl
fails_told (Err (faults.Redacted object block)) = refl
fails_told (Err (faults.Full need largest)) = refl
fails_told (Err (faults.Damaged sector stated found)) = refl
fails_told (Err faults.DiskFault) = refl
fails_told (Err faults.Failed) = refl
fails_told (Err faults.OutOfMemory) = refl

pub cause_told : (before now : ℕ) (result : Result (List (List ℕ)) PoolFault) → HasCause before now (stop_of result) → HasDiskCause before now result
cause_told before now result cause = record { later = cause.later; fault = λ is. cause.fault (ap stop_of is) }

-- Which answer of a pool a refusal comes from.
use Rattle.std.proofs.Common.{◌≡◌, ℕ, List, Ok, Err, None, refl, ap}
use Rattle.std.specs.Prelude.{IfOk, Result}
use Rattle.zst_model.proofs.PlanFaults.{plan_is, plan_of}
use Rattle.zst_model.specs.declared.refusals.refusal.Refusal.{Refusal}
use Rattle.zst_model.specs.declared.refusals.refusal.Refusal.TheVariants as refusals
use Rattle.zst_model.specs.refusals.Refusal.{refusal_of}
use Rattle.zst_pool.specs.Faults.{pool_refusal}
use Rattle.zst_pool.specs.declared.fault.PoolFault.{PoolFault}
use Rattle.zst_pool.specs.declared.fault.PoolFault.TheVariants as faults
use Rattle.zst_recv.specs.Faults.{recv_refusal}
use Rattle.zst_recv.specs.declared.fault.RecvFault.{RecvFault}
use Rattle.zst_recv.specs.declared.fault.RecvFault.TheVariants as feeds

-- a pool's answer as an answer with a refusal
abbrev pub refused : {T : Type 0} → Result T PoolFault → Result T Refusal
refused (Ok value) = Ok value
refused (Err fault) = Err (pool_refusal fault)

-- E28 is told where the disk failed, and E31 where it had failed before
pub fault_of_disk : (fault : PoolFault) → pool_refusal fault ≡ refusals.DiskFault → fault ≡ faults.DiskFault
fault_of_disk (faults.Plan plan) is = absurd (let none : plan_of (refusal_of plan) ≡ None = ap plan_of is in cc (plan_is plan))
fault_of_disk (faults.CannotApply fault) is = absurd (cc)
fault_of_disk (faults.Redacted object block) is = absurd (cc)
fault_of_disk (faults.Full need largest) is = absurd (cc)
fault_of_disk (faults.Damaged sector stated found) is = absurd (cc)
fault_of_disk faults.DiskFault is = refl
fault_of_disk faults.Failed is = absurd (cc)
fault_of_disk faults.OutOfMemory is = absurd (cc)

pub fault_of_failed : (fault : PoolFault) → pool_refusal fault ≡ refusals.Failed → fault ≡ faults.Failed
fault_of_failed (faults.Plan plan) is = absurd (let none : plan_of (refusal_of plan) ≡ None = ap plan_of is in cc (plan_is plan))
fault_of_failed (faults.CannotApply fault) is = absurd (cc)
fault_of_failed (faults.Redacted object block) is = absurd (cc)
fault_of_failed (faults.Full need largest) is = absurd (cc)
fault_of_failed (faults.Damaged sector stated found) is = absurd (cc)
fault_of_failed faults.DiskFault is = absurd (cc)
fault_of_failed faults.Failed is = refl
fault_of_failed faults.OutOfMemory is = absurd (cc)

-- and E25 where a block was damaged
pub fault_of_damage : (fault : PoolFault) (sector : ℕ) (stated found : List ℕ) → pool_refusal fault ≡ refusals.Damaged sector stated found → fault ≡ faults.Damaged sector stated found
fault_of_damage (faults.Plan plan) sector stated found is = absurd (let none : plan_of (refusal_of plan) ≡ None = ap plan_of is in cc (plan_is plan))
fault_of_damage (faults.CannotApply fault) sector stated found is = absurd (cc)
fault_of_damage (faults.Redacted object block) sector stated found is = absurd (cc)
fault_of_damage (faults.Full need largest) sector stated found is = absurd (cc)
fault_of_damage (faults.Damaged at said parts) sector stated found is = cc
fault_of_damage faults.DiskFault sector stated found is = absurd (cc)
fault_of_damage faults.Failed sector stated found is = absurd (cc)
fault_of_damage faults.OutOfMemory sector stated found is = absurd (cc)

-- and E24 where the disk was full
pub fault_of_full : (fault : PoolFault) (need largest : ℕ) → pool_refusal fault ≡ refusals.Full need largest → fault ≡ faults.Full need largest
fault_of_full (faults.Plan plan) need largest is = absurd (let none : plan_of (refusal_of plan) ≡ None = ap plan_of is in cc (plan_is plan))
fault_of_full (faults.CannotApply fault) need largest is = absurd (cc)
fault_of_full (faults.Redacted object block) need largest is = absurd (cc)
fault_of_full (faults.Full needed longest) need largest is = cc
fault_of_full (faults.Damaged sector stated found) need largest is = absurd (cc)
fault_of_full faults.DiskFault need largest is = absurd (cc)
fault_of_full faults.Failed need largest is = absurd (cc)
fault_of_full faults.OutOfMemory need largest is = absurd (cc)

-- so it is of a feed
pub recv_full : (fault : RecvFault) (need largest : ℕ) → recv_refusal fault ≡ refusals.Full need largest → fault ≡ feeds.Pool (faults.Full need largest)
recv_full (feeds.Pool fault) need largest is = ap (λ f. feeds.Pool f) (fault_of_full fault need largest is)
recv_full (feeds.Stream fault) need largest is = absurd (cc)
recv_full (feeds.CannotApply index fault) need largest is = absurd (cc)

-- so is the answer
pub answer_of_disk : {T : Type 0} (result : Result T PoolFault) → refused result ≡ Err refusals.DiskFault → result ≡ Err faults.DiskFault
answer_of_disk (Ok value) is = absurd (cc)
answer_of_disk {T} (Err fault) is = let same : pool_refusal fault ≡ refusals.DiskFault = cc in ap err (fault_of_disk fault same)
  where
    err : PoolFault → Result T PoolFault
    err f = Err f

pub answer_of_failed : {T : Type 0} (result : Result T PoolFault) → refused result ≡ Err refusals.Failed → result ≡ Err faults.Failed
answer_of_failed (Ok value) is = absurd (cc)
answer_of_failed {T} (Err fault) is = let same : pool_refusal fault ≡ refusals.Failed = cc in ap err (fault_of_failed fault same)
  where
    err : PoolFault → Result T PoolFault
    err f = Err f

pub answer_of_full : {T : Type 0} (result : Result T PoolFault) (need largest : ℕ) → refused result ≡ Err (refusals.Full need largest) → result ≡ Err (faults.Full need largest)
answer_of_full (Ok value) need largest is = absurd (cc)
answer_of_full {T} (Err fault) need largest is = let same : pool_refusal fault ≡ refusals.Full need largest = cc in ap err (fault_of_full fault need largest same)
  where
    err : PoolFault → Result T PoolFault
    err f = Err f

-- what holds of a value that is given
pub refused_gives : {T : Type 0} (P : T → Type 0) (result : Result T PoolFault) → IfOk result P → IfOk (refused result) P
refused_gives P (Ok value) is = is
refused_gives P (Err fault) is = tt

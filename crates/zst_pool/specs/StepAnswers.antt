-- What stepping a pool answers.
use Rattle.std.specs.Prelude.{◌≡◌, ◌⊎◌, ℕ, Bool, List, Result, Ok, Err}
use Rattle.zst_outside.specs.Images.{DiskState}
use Rattle.zst_model.specs.declared.refusals.refusal.Refusal.{Refusal}
use Rattle.zst_model.specs.pools.KeptPool.{kept_of}
use Rattle.zst_model.specs.pools.Pool.{Pool}
use Rattle.zst_model.specs.pools.Step.{Stepped}
use Rattle.zst_pool.specs.Faults.{StepFault}
use Rattle.zst_image.specs.Reads.{Reads}
use Rattle.zst_pool.specs.Calls.{IsAtRest}
use Rattle.zst_pool.specs.declared.fault.PoolFault.{PoolFault}
use Rattle.zst_image.specs.declared.pool_state.PoolState.{PoolState}

-- an image reads as what is kept of the pool before a command, or of the pool after it
abbrev pub BeforeOrAfter : (tight : Bool) → Pool → Result Stepped Refusal → List ℕ → Type 0
BeforeOrAfter tight running after image = Reads tight (kept_of running) image ⊎ ((done : Stepped) × (after ≡ Ok done) × Reads tight (kept_of done.pool) image)

-- after Ok the pool that runs is what the definition makes of it, and the reply is the definition's; after a refusal the pool is as it was, and the refusal is the definition's
abbrev pub StepAnswer : (tight : Bool) → DiskState → PoolState → Pool → Result Stepped Refusal → Result (List (List ℕ)) PoolFault → Type 0
StepAnswer tight disk kept running definition (Ok reply) = (done : Stepped) × (definition ≡ Ok done) × (reply ≡ done.reply) × IsAtRest tight disk kept done.pool
StepAnswer tight disk kept running definition (Err fault) = StepFault (IsAtRest tight disk kept running) definition fault

-- What a command makes of one open pool, and what a telling of its token and a check of it answer.
use Rattle.std.specs.Prelude.{◌≡◌, ◌≢◌, ◌⊎◌, ◌<◌, ℕ, true, false, List, [], ◌∷◌, All, find, Option, None, Result, Ok, Err, if◌then◌else◌}
use Rattle.zst_outside.specs.Images.{Leaves}
use Rattle.zst_check.specs.declared.report.Report.{Report}
use Rattle.zst_dir.specs.Rows.{Rows, is_for}
use Rattle.zst_image.specs.Reads.{Reads}
use Rattle.zst_model.specs.declared.pools.command.Command.{Command}
use Rattle.zst_model.specs.declared.pools.command.Command.TheVariants as commands
use Rattle.zst_model.specs.declared.refusals.plan_fault.PlanFault.{PlanFault}
use Rattle.zst_model.specs.declared.refusals.refusal.Refusal.{Refusal}
use Rattle.zst_model.specs.declared.refusals.refusal.Refusal.TheVariants as refusals
use Rattle.zst_model.specs.pools.KeptPool.{kept_of}
use Rattle.zst_model.specs.pools.Pool.{Pool}
use Rattle.zst_model.specs.pools.Step.{Stepped, commits}
use Rattle.zst_model.specs.refusals.Refusal.{refusal_of}
use Rattle.zst_pool.specs.Faults.{pool_refusal}
use Rattle.zst_pool.specs.declared.fault.PoolFault.{PoolFault}
use Rattle.zst_script.specs.declared.event.Side.{Side}
use Rattle.zst_token.specs.Spelling.{token_text}
use Rattle.zst_token.specs.declared.token.Token.{Token}
use Rattle.zst_sessions.specs.EngineSteps.{target_of}
use Rattle.zst_sessions.specs.Engines.{Kept, PoolStands}
use Rattle.zst_sessions.specs.Moves.{Answer}
use Rattle.zst_sessions.specs.World.{OpenPool}
use Rattle.zst_sessions.specs.declared.event_reply.EventReply.{EventReply}
use Rattle.zst_sessions.specs.declared.event_reply.EventReply.TheVariants.{Checked}
use Rattle.zst_sessions.specs.declared.open_sessions.OpenReceive.{OpenReceive}

-- ---- answers

-- a pool's answer as an event's, and a plan's
abbrev pub pool_told : {T : Type 0} → Result T PoolFault → Result T Refusal
pool_told (Ok value) = Ok value
pool_told (Err fault) = Err (pool_refusal fault)

abbrev pub told_as : {T : Type 0} → Result T PlanFault → Result T Refusal
told_as (Ok value) = Ok value
told_as (Err fault) = Err (refusal_of fault)

-- the line of a token that is told
abbrev pub token_answer : Result Token Refusal → Answer
token_answer (Ok token) = Ok (token_text token ∷ [])
token_answer (Err refusal) = Err refusal

-- a report that is told, as the reply of its event
abbrev pub report_told : Result Report PoolFault → Result EventReply Refusal
report_told (Ok report) = Ok (Checked report)
report_told (Err fault) = Err (pool_refusal fault)

-- ---- commands

-- The partial state that a command gives up: that of the target of an abort which no session is in the way of, where there is one.
abbrev pub GivesUp : (holder : Option ℕ) → Command → Rows → List ℕ → Type 0
GivesUp holder command rows target = (holder ≡ None) × (command ≡ commands.Abort target) × (find (is_for target) rows.partials ≢ None)

-- no session of a pool receives into what a command is to give up
abbrev pub IsUnclaimed : Side → Command → Rows → List OpenReceive → Type 0
IsUnclaimed side command rows receives = All (λ one. one.side ≡ side → ¬ ((command ≡ commands.Abort (target_of one)) × (find (is_for (target_of one)) rows.partials ≢ None))) receives

-- the pool that a definition makes of this one, which a refusal leaves as it was
abbrev pub pool_after : Pool → Result Stepped Refusal → Pool
pool_after pool (Ok done) = done.pool
pool_after pool (Err refusal) = pool

-- so of an open pool: one whose disk has failed stays too
abbrev pub made_of : OpenPool → Result Stepped Refusal → Pool
made_of opened definition = if opened.failed then opened.pool else pool_after opened.pool definition

-- How a command of an open pool ends, and the pool that it leaves: its disk had failed; or it is accepted or refused as the definition says; or, in place of that, the disk is full,
-- no memory is left, or the disk fails, and then the pool is the one before it or the one that the definition makes.
pub data StepEnds (command : Command) (definition : Result Stepped Refusal) (opened : OpenPool) (answer : Answer) (next : OpenPool) : Type 0 where
  HadFailed : opened.failed ≡ true → answer ≡ Err refusals.Failed → next ≡ opened → StepEnds command definition opened answer next
  Accepts : opened.failed ≡ false → (done : Stepped) → definition ≡ Ok done → answer ≡ Ok done.reply → next ≡ record { pool = done.pool; failed = false } → StepEnds command definition opened answer next
  Refuses : opened.failed ≡ false → (refusal : Refusal) → definition ≡ Err refusal → answer ≡ Err refusal → next ≡ opened → StepEnds command definition opened answer next
  LacksRoom : (need largest : ℕ) → answer ≡ Err (refusals.Full need largest) → largest < need → commits command ≡ true → next ≡ opened → StepEnds command definition opened answer next
  LacksMemory : answer ≡ Err refusals.OutOfMemory → next ≡ opened → StepEnds command definition opened answer next
  Loses : answer ≡ Err refusals.DiskFault → (pool : Pool) → (pool ≡ opened.pool) ⊎ (pool ≡ made_of opened definition) → next ≡ record { pool = pool; failed = true } → StepEnds command definition opened answer next

-- What a command made of an open pool: what is kept stands for the pool that it left; and at every moment each image read as the pool before it or as the one that the definition makes.
pub record StepsPool (command : Command) (definition : Result Stepped Refusal) (opened : OpenPool) (old new : Kept) (answer : Answer) : Type 0 where
  pub next : OpenPool
  pub ends : StepEnds command definition opened answer next
  pub stands : PoolStands true new next
  pub moments : Leaves old.disk new.disk (λ c. Reads true (kept_of opened.pool) c ⊎ Reads true (kept_of (made_of opened definition)) c)

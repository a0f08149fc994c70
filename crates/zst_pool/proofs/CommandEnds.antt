-- What a command did, from what its parts did.
use Rattle.std.specs.Prelude.{Result, Ok, Err, IfOk, OnErr}
use Rattle.std.proofs.Common.{◌≡◌, ◌⊎◌, inl, inr, ⊎_elim, ℕ, ◌<◌, ◌^◌, Bool}
use Rattle.zst_outside.specs.Images.{DiskState, Leaves, Leaves-weaker}
use Rattle.zst_space.specs.FreeSectors.{FreeSectors}
use Rattle.zst_block.specs.Blocks.{Has}
use Rattle.zst_block.specs.IoStates.{IoState}
use Rattle.zst_model.specs.declared.refusals.refusal.Refusal.{Refusal}
use Rattle.zst_model.specs.pools.KeptPool.{kept_of}
use Rattle.zst_model.specs.pools.Pool.{Pool}
use Rattle.zst_model.specs.pools.Step.{Stepped}
use Rattle.zst_dir.specs.Rows.{Rows, IsLawful}
use Rattle.zst_image.specs.declared.commit_fault.CommitFault.{CommitFault}
use Rattle.zst_image.specs.declared.commit_fault.CommitFault.TheVariants as commits
use Rattle.zst_pool.specs.Calls.{IsAtRest, IsUnderWay}
use Rattle.zst_tree.specs.Indices.{Blocks}
use Rattle.zst_pool.specs.Checks.{next_of}
use Rattle.zst_pool.specs.Cost.{MakesNamed}
use Rattle.zst_pool.specs.Faults.{StepFault, of_committed}
use Rattle.zst_pool.specs.RowChanges.{MakesRows}
use Rattle.zst_image.specs.Reads.{Reads}
use Rattle.zst_pool.specs.StepAnswers.{BeforeOrAfter}
use Rattle.zst_image.specs.Commits.{Commits, CommittedDir, NextIs, RefusedDir}
use Rattle.zst_pool.specs.CommandRuns.{Did}
use Rattle.zst_pool.specs.declared.fault.PoolFault.{PoolFault}
use Rattle.zst_pool.specs.declared.fault.PoolFault.TheVariants.{Plan, CannotApply, Redacted, Full, Damaged, DiskFault, Failed, OutOfMemory}
use Rattle.zst_image.specs.declared.pool_state.PoolState.{PoolState}
use Rattle.zst_pool.proofs.NamedPools.{rows_named}
use Rattle.zst_pool.proofs.PoolsAtRest.{kept_is_next, next_lawful, rests_next, rests_on, rests_unless, since, way_runs}

-- where the pool still stands, it does after each fault
pub keeps : (before : Type 0) (definition : Result Stepped Refusal) → before → (fault : PoolFault) → StepFault (Unit {0}) definition fault → StepFault before definition fault
keeps before definition still (Plan fault) is = (is.0, still)
keeps before definition still (CannotApply fault) is = (is.0, still)
keeps before definition still (Redacted object block) is = (is.0, still)
keeps before definition still (Full need largest) is = (is.0, still)
keeps before definition still (Damaged sector stated found) is = is
keeps before definition still DiskFault is = tt
keeps before definition still Failed is = is
keeps before definition still OutOfMemory is = still

-- a command that fell before its commit
pub fell : {tight : Bool} (start now : DiskState) (space : FreeSectors) (kept : PoolState) (running : Pool) → IsUnderWay tight start now space kept running → (definition : Result Stepped Refusal) (fault : PoolFault) → StepFault (Unit {0}) definition fault
    → Did tight start now kept running definition (Err fault)
fell {tight = tight} start now space kept running way definition fault is = record {
  moments = Leaves-weaker start now (Reads tight (kept_of running)) (BeforeOrAfter tight running definition) (since start now space kept running way) (λ c reads. inl reads);
  answer = keeps (IsAtRest tight now kept running) definition (rests_on start now space kept running way) fault is;
}

-- a command that came to the commit of what its definition makes
module _ (start now : DiskState) (kept : PoolState) (rows : Rows) (running : Pool) (definition : Result Stepped Refusal) (done : Stepped) (is : definition ≡ Ok done) where
  moments_of : {tight : Bool} (made : Result PoolState CommitFault) → Commits tight start now kept.body rows (kept_of running) (kept_of done.pool) made → Leaves start now (BeforeOrAfter tight running definition)
  moments_of {tight = tight} made event =
      Leaves-weaker start now (λ c. Reads tight (kept_of running) c ⊎ Reads tight (kept_of done.pool) c) (BeforeOrAfter tight running definition) event.moments
      (λ c either. ⊎_elim (λ before. inl before) (λ after. inr (done, is, after)) either)

  pub did : {tight : Bool} (made : Result PoolState CommitFault) → Commits tight start now kept.body rows (kept_of running) (kept_of done.pool) made → IfOk made (λ next. IsAtRest tight now next done.pool)
      → (¬ (made ≡ Err commits.DiskFault) → OnErr made (IsAtRest tight now kept running)) → Did tight start now kept running definition (of_committed made)
  did (Ok next) event after before = record { moments = moments_of (Ok next) event; answer = (done, is, after) }
  did (Err (commits.Full need largest)) event after before = record { moments = moments_of (Err (commits.Full need largest)) event; answer = ((done, is), before (λ disk. cc)) }
  did (Err commits.DiskFault) event after before = record { moments = moments_of (Err commits.DiskFault) event; answer = tt }
  did (Err commits.OutOfMemory) event after before = record { moments = moments_of (Err commits.OutOfMemory) event; answer = before (λ disk. cc) }

-- the rows that a definition makes name the pool that it makes
pub names_next : {tight : Bool} (has : Blocks) (definition : Result Stepped Refusal) (running : Pool) (guids : ℕ) (rows : Rows) → MakesRows tight has definition running guids rows → MakesNamed definition rows
names_next has definition running guids rows makes =
    let named = rows_named has rows makes.next makes.runs_by in
    record {
      done = next_of makes.next;
      made = makes.made;
      named = record { datasets = named.datasets; snapshots = named.snapshots; bookmarks = named.bookmarks; partials = named.partials };
    }

-- a command that came to the commit of the rows that its definition makes
pub did_rows : {tight : Bool} (start : DiskState) (old new : IoState) (kept : PoolState) (running : Pool) (definition : Result Stepped Refusal) (guids : ℕ) (dir : Rows) (made : Result PoolState CommitFault)
    → (way : IsUnderWay tight start old.disk old.space kept running) → MakesRows tight (Has old.disk.seen old.space) definition running guids dir → IsLawful dir → kept.body.uber.number < 2 ^ 63
    → ((next : Pool) → NextIs tight (Has old.disk.seen old.space) kept.body guids dir next → Commits tight start new.disk kept.body way.rested.rows (kept_of running) next made)
    → IfOk made (CommittedDir kept.body dir old new) → RefusedDir kept.body old new made → Did tight start new.disk kept running definition (of_committed made)
did_rows start old new kept running definition guids dir made way makes lawful below commit done refused =
    let has = Has old.disk.seen old.space in
    let runs = way_runs start old.disk old.space kept running way in
    let next = makes.next in
    let is = kept_is_next has kept running next guids dir lawful runs makes.id makes.number makes.guid_counter makes.few below makes.runs_by in
    let after = next_lawful has kept running next guids dir lawful runs makes.id makes.number makes.guid_counter makes.few below makes.runs_by in
    let committed = commit (kept_of (next_of next).pool) is in
    did start new.disk kept way.rested.rows running definition (next_of next) makes.made made committed
    (rests_next start old new kept way.rested.rows dir running next made committed makes.number makes.runs_by after done) (rests_unless start old.disk new.disk old.space new.space kept running made way refused.fills)

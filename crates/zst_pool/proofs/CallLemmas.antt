-- What a call of a receive did, from what its commit did.
use Rattle.std.specs.Prelude.{Result, Ok, Err, IfErr, IfOk, OnOk, OnErr, false}
use Rattle.std.proofs.Common.{◌≡◌, ◌⊎◌, inl, inr, ⊎_elim, ℕ, ◌+◌, ◌<◌, ◌≤◌, List, refl, sym, ap, subst, ◌∙◌, Bool}
use Rattle.zst_outside.specs.Causes.{Rose}
use Rattle.zst_outside.specs.Images.{DiskState, Leaves, Leaves-weaker}
use Rattle.zst_space.specs.FreeSectors.{FreeSectors}
use Rattle.zst_block.specs.Blocks.{KeepsBlocks}
use Rattle.zst_model.specs.declared.refusals.refusal.Refusal.{Refusal}
use Rattle.zst_model.specs.pools.KeptPool.{kept_of}
use Rattle.zst_model.specs.pools.Pool.{Pool}
use Rattle.zst_block.specs.IoStates.{IoState}
use Rattle.zst_image.specs.Bodies.{Body, free_by}
use Rattle.zst_dir.specs.Rows.{Rows}
use Rattle.zst_pool.specs.Calls.{CallDid, CallFault, CanCommit, IsAtRest, IsUnderWay, keeping}
use Rattle.zst_pool.specs.Faults.{HasDiskCause, is_disk_fault, of_committed}
use Rattle.zst_image.specs.declared.commit_fault.CommitFault.{CommitFault}
use Rattle.zst_image.specs.declared.commit_fault.CommitFault.TheVariants as commits
use Rattle.zst_image.specs.Reads.{Reads}
use Rattle.zst_image.specs.Commits.{Commits, CommittedDir, Ready}
use Rattle.zst_pool.specs.Queries.{stop_of}
use Rattle.zst_pool.specs.declared.fault.PoolFault.{PoolFault}
use Rattle.zst_pool.specs.declared.fault.PoolFault.TheVariants.{Plan, CannotApply, Redacted, Full, Damaged, DiskFault, Failed, OutOfMemory}
use Rattle.zst_image.specs.declared.pool_state.PoolState.{PoolState}
use Rattle.zst_pool.proofs.PoolsAtRest.{commit_next_of, rests_on, since}

-- an image reads as what is kept of the pool before a call, or of the one that its definition makes
abbrev EitherReads : (tight : Bool) → Pool → Result Pool Refusal → List ℕ → Type 0
EitherReads tight running definition c = Reads tight (kept_of running) c ⊎ ((next : Pool) × (definition ≡ Ok next) × Reads tight (kept_of next) c)

-- where the pool still stands, it does after each fault that came before the commit
fell_still : (before : Type 0) (definition : Result Pool Refusal) → before → (fault : PoolFault) → CallFault (Unit {0}) definition fault → CallFault before definition fault
fell_still before definition is (Plan fault) fell = (fell.0, is)
fell_still before definition is (CannotApply fault) fell = fell
fell_still before definition is (Redacted object block) fell = fell
fell_still before definition is (Full need largest) fell = (fell.0, fell.1, is)
fell_still before definition is (Damaged sector stated found) fell = fell
fell_still before definition is DiskFault fell = tt
fell_still before definition is Failed fell = fell
fell_still before definition is OutOfMemory fell = is

-- a call that fell before its commit
pub call_fell : {tight : Bool} (start now : DiskState) (space : FreeSectors) (kept : PoolState) (running : Pool) (definition : Result Pool Refusal) (fault : PoolFault) → IsUnderWay tight start now space kept running
    → CallFault (Unit {0}) definition fault → CallDid tight start now kept running definition (Err fault)
call_fell {tight = tight} start now space kept running definition fault way fell = record {
  moments = Leaves-weaker start now (Reads tight (kept_of running)) (EitherReads tight running definition) (since start now space kept running way) (λ c reads. inl reads);
  answer = fell_still (IsAtRest tight now kept running) definition (rests_on start now space kept running way) fault fell;
}

-- one that came to it
module _ (start now : DiskState) (kept : PoolState) (rows : Rows) (running next : Pool) (definition : Result Pool Refusal) (is : definition ≡ Ok next) where
  moments_of : {tight : Bool} (made : Result PoolState CommitFault) → Commits tight start now kept.body rows (kept_of running) (kept_of next) made → Leaves start now (EitherReads tight running definition)
  moments_of {tight = tight} made event =
      Leaves-weaker start now (λ c. Reads tight (kept_of running) c ⊎ Reads tight (kept_of next) c) (EitherReads tight running definition) event.moments
      (λ c either. ⊎_elim (λ before. inl before) (λ after. inr (next, is, after)) either)

  pub call_did : {tight : Bool} (made : Result PoolState CommitFault) → ((need largest : ℕ) → made ≡ Err (commits.Full need largest) → largest < need) → Commits tight start now kept.body rows (kept_of running) (kept_of next) made
      → IfOk made (λ after. after.body.uber.number ≡ next.number) → IfOk made (λ after. IsAtRest tight now after next) → (¬ (made ≡ Err commits.DiskFault) → OnErr made (IsAtRest tight now kept running))
      → CallDid tight start now kept running definition (of_committed made)
  call_did (Ok after) shorter event number rests before = record { moments = moments_of (Ok after) event; answer = (next, is, number, rests) }
  call_did (Err (commits.Full need largest)) shorter event number rests before = record {
    moments = moments_of (Err (commits.Full need largest)) event;
    answer = (shorter need largest refl, (next, is), before (λ disk. cc));
  }
  call_did (Err commits.DiskFault) shorter event number rests before = record { moments = moments_of (Err commits.DiskFault) event; answer = tt }
  call_did (Err commits.OutOfMemory) shorter event number rests before = record { moments = moments_of (Err commits.OutOfMemory) event; answer = before (λ disk. cc) }

-- the number that was committed is the next pool's
pub number_after : (old new : IoState) (body : Body) (dir : Rows) (made : Result PoolState CommitFault) (next : ℕ) → next ≡ body.uber.number → IfOk made (CommittedDir body dir old new) → IfOk made (λ kept. kept.body.uber.number ≡ next + 1)
number_after old new body dir (Ok kept) next same is = is.number ∙ ap (λ n. n + 1) (sym same)
number_after old new body dir (Err fault) next same is = tt

-- what holds of what was committed holds of what the pool then keeps
pub kept_has : (P : PoolState → Type 0) (kept : PoolState) (answer : Result ℕ PoolFault) (made : Result PoolState PoolFault) → keeping kept answer ≡ made → IfOk made P → OnOk answer (P kept)
kept_has P kept answer made is holds = by_answer answer (subst (λ (r : Result PoolState PoolFault). IfOk r P) (sym is) holds)
  where
    by_answer : (a : Result ℕ PoolFault) → IfOk (keeping kept a) P → OnOk a (P kept)
    by_answer (Ok number) h = h
    by_answer (Err fault) h = tt

-- over what is left, which the body that was committed leaves free, the blocks that were there before still are
pub blocks_left : (old new : List ℕ) (space less : FreeSectors) (made : Result PoolState PoolFault) → IfOk made (λ next. KeepsBlocks old space new (free_by next.body)) → IfOk made (λ next. less ≡ free_by next.body)
    → IfOk made (λ next. KeepsBlocks old space new less)
blocks_left old new space less (Ok next) keeps free = subst (KeepsBlocks old space new) (sym free) keeps
blocks_left old new space less (Err fault) keeps free = tt

-- and the next commit can be made over it
pub commits_left : (disk : DiskState) (less : FreeSectors) (made : Result PoolState PoolFault) → IfOk made (λ next. less ≡ free_by next.body) → IfOk made (λ next. Ready disk next.body) → IfOk made (λ next. CanCommit disk less next.body)
commits_left disk less (Ok next) free ready = commit_next_of disk less next.body free ready
commits_left disk less (Err fault) free ready = tt

-- what a call answers, where a pool settled what its commit made
module _ (kept : PoolState) (answer : Result ℕ PoolFault) (made : Result PoolState PoolFault) (is : keeping kept answer ≡ made) where
  -- a fault of the call is the commit's
  pub fault_made : (fault : PoolFault) → answer ≡ Err fault → made ≡ Err fault
  fault_made fault fell = sym is ∙ ap (keeping kept) fell

  pub fault_has : (P : PoolFault → Type 0) → IfErr made P → IfErr answer P
  fault_has P holds = by_answer answer (subst (λ (r : Result PoolState PoolFault). IfErr r P) (sym is) holds)
    where
      by_answer : (a : Result ℕ PoolFault) → IfErr (keeping kept a) P → IfErr a P
      by_answer (Ok number) h = tt
      by_answer (Err fault) h = h

  -- it tells a disk that failed, and the block fault at which it stopped, where the commit does
  pub tells_disk : is_disk_fault made ≡ is_disk_fault answer
  tells_disk = ap is_disk_fault (sym is) ∙ by_answer answer
    where
      by_answer : (a : Result ℕ PoolFault) → is_disk_fault (keeping kept a) ≡ is_disk_fault a
      by_answer (Ok number) = refl
      by_answer (Err (Plan fault)) = refl
      by_answer (Err (CannotApply fault)) = refl
      by_answer (Err (Redacted object block)) = refl
      by_answer (Err (Full need largest)) = refl
      by_answer (Err (Damaged sector stated found)) = refl
      by_answer (Err DiskFault) = refl
      by_answer (Err Failed) = refl
      by_answer (Err OutOfMemory) = refl

  pub tells_stop : stop_of made ≡ stop_of answer
  tells_stop = ap (λ (r : Result PoolState PoolFault). stop_of r) (sym is) ∙ by_answer answer
    where
      by_answer : (a : Result ℕ PoolFault) → stop_of (keeping kept a) ≡ stop_of a
      by_answer (Ok number) = refl
      by_answer (Err fault) = refl

  pub cause_told : (before mid now : ℕ) → now ≡ mid → HasDiskCause before mid made → HasDiskCause before now answer
  cause_told before mid now same cause = record {
    later = subst (λ n. before ≤ n) (sym same) cause.later;
    fault = λ fell. subst (Rose before) (sym same) (cause.fault (fault_made DiskFault fell));
  }

  -- the disk is ready for the commit that follows
  pub ready_still : (old : PoolState) (disk new : DiskState) (fell after : Bool) → new ≡ disk → after ≡ fell → IfOk made (λ next. Ready disk next.body) → (fell ≡ false → OnErr made (Ready disk old.body))
      → OnErr answer (kept ≡ old) → after ≡ false → Ready new kept.body
  ready_still old disk new fell after same alike made_ready unmade stays works = subst (λ (d : DiskState). Ready d kept.body) (sym same)
      (by_answer answer (subst (λ (r : Result PoolState PoolFault). IfOk r (λ next. Ready disk next.body)) (sym is) made_ready) (subst (λ (r : Result PoolState PoolFault). OnErr r (Ready disk old.body)) (sym is) (unmade (sym alike ∙ works))) stays)
    where
      by_answer : (a : Result ℕ PoolFault) → IfOk (keeping kept a) (λ next. Ready disk next.body) → OnErr (keeping kept a) (Ready disk old.body) → OnErr a (kept ≡ old) → Ready disk kept.body
      by_answer (Ok number) after before same = after
      by_answer (Err fault) after before same = subst (λ (k : PoolState). Ready disk k.body) (sym same) before

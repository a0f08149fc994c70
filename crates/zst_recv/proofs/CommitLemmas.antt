-- What stands after a commit of what a feed has taken.
use Rattle.std.proofs.Common.{◌≡◌, ◌⊎◌, inl, inr, ℕ, ◌+◌, ◌||◌, nat_lt, Bool, true, false, cond, List, length, Option, Result, Ok, Err, refl, sym, ap, ◌∙◌, subst, arith}
use Rattle.zst_outside.specs.Images.{DiskState, Leaves, Leaves-weaker}
use Rattle.zst_outside.specs.declared.disk.Disk.{Ghosts}
use Rattle.zst_space.specs.FreeSectors.{FreeSectors}
use Rattle.zst_model.specs.declared.refusals.faults.Quantity.TheVariants as quantities
use Rattle.zst_model.specs.declared.refusals.refusal.Refusal.{Refusal}
use Rattle.zst_model.specs.declared.refusals.refusal.Refusal.TheVariants as refusals
use Rattle.zst_model.specs.pools.KeptPool.{kept_of}
use Rattle.zst_model.specs.pools.Pool.{Pool, Partial}
use Rattle.zst_tree.specs.Indices.{Blocks}
use Rattle.zst_dir.specs.Rows.{Rows}
use Rattle.zst_dir.specs.declared.rows.Partial.{Partial as Row}
use Rattle.zst_image.specs.Commits.{Ready}
use Rattle.zst_image.specs.Reads.{PartialIs, Reads, bound_of}
use Rattle.zst_image.proofs.Growth.{PartialIs-grows}
use Rattle.zst_image.specs.declared.pool_state.PoolState.{PoolState}
use Rattle.zst_block.specs.Blocks.{Has, KeepsBlocks, SparesTaken}
use Rattle.zst_block.specs.IoStates.{disk_of}
use Rattle.zst_pool.specs.Calls.{CallDid, CallFault, CallGrows, IsAtRest, IsCallFault, IsCallFull, IsUnderWay}
use Rattle.zst_pool.specs.Events.{Settles}
use Rattle.zst_pool.specs.Faults.{is_disk_fault}
use Rattle.zst_model.specs.pools.Limits.{most_partials}
use Rattle.zst_model.specs.pools.Step.{count_datasets, last_number, most_datasets, most_snapshots}
use Rattle.zst_model.proofs.Results.{unless_ok}
use Rattle.zst_pool.specs.Partials.{next_commit, partial_finished, partial_put, with_partial}
use Rattle.zst_pool.proofs.Bounds.{SetIs-later}
use Rattle.zst_pool.specs.PartialRows.{rows_with_partial}
use Rattle.zst_pool.specs.declared.fault.PoolFault.{PoolFault}
use Rattle.zst_pool.specs.declared.fault.PoolFault.TheVariants as pools
use Rattle.zst_pool.specs.declared.pool.Pool as coded_pool
use Rattle.zst_pool.proofs.PoolsAtRest.{rests_on, since}
use Rattle.zst_recv.specs.ReceiveSteps.{Stage, Waits, Lives, Ends, Batch, put, put_at}
use Rattle.zst_recv.specs.Commits.{CommitsBatch, Puts}
use Rattle.zst_recv.proofs.SetOrigins.{keeps_same, keeps_spared}
use Rattle.zst_recv.specs.Stages.{CanPutFor, IsStage, IsBatch, LivesOn, StageFits, has_partial}
use Rattle.zst_recv.specs.declared.batch.Batch as batches
use Rattle.zst_recv.specs.declared.received_snapshot.ReceivedSnapshot.{ReceivedSnapshot}
use Rattle.zst_recv.specs.declared.stage.Stage as coded
use Rattle.zst_recv.specs.declared.stage.Stage.TheVariants as stages

-- ---- what is committed

-- a receive that is under way, or has ended, has a partial state
abbrev pub IsLiving : Option ℕ → Blocks → ℕ → Row → Stage → Type 0
IsLiving bound has flags row stage = (partial : Partial) × (stage ≡ Lives flags partial) × PartialIs bound has row partial

pub living : (bound : Option ℕ) (has : Blocks) (flags : ℕ) (row : Row) (stage : Stage) → IsStage bound has (stages.Lives flags row) stage → IsLiving bound has flags row stage
living bound has flags row Waits is = absurd is
living bound has flags row (Lives stated partial) is = (partial, ap (λ (f : ℕ). Lives f partial) (sym is.0), is.1)
living bound has flags row (Ends partial) is = absurd is

abbrev pub IsEnded : Option ℕ → Blocks → Row → Stage → Type 0
IsEnded bound has row stage = (partial : Partial) × (stage ≡ Ends partial) × PartialIs bound has row partial

pub ended : (bound : Option ℕ) (has : Blocks) (row : Row) (stage : Stage) → IsStage bound has (stages.Ends row) stage → IsEnded bound has row stage
ended bound has row Waits is = absurd is
ended bound has row (Lives flags partial) is = absurd is
ended bound has row (Ends partial) is = (partial, refl, is)

module _ (plain : Batch) (running : Pool) where
  pub put_none : plain.taken ≡ false → put plain running ≡ Ok running
  put_none none = ap (λ (b : Bool). cond b (put_at plain.rolls plain.stage running) (Ok running)) none

  put_some : plain.taken ≡ true → put plain running ≡ put_at plain.rolls plain.stage running
  put_some taken = ap (λ (b : Bool). cond b (put_at plain.rolls plain.stage running) (Ok running)) taken

  pub put_living : (flags : ℕ) (partial : Partial) (roll : Bool) → plain.taken ≡ true → plain.stage ≡ Lives flags partial → roll ≡ plain.rolls → put plain running ≡ partial_put roll partial running
  put_living flags partial roll taken is rolls =
      put_some taken ∙ ap (λ (s : Stage). put_at plain.rolls s running) is ∙ ap (λ (b : Bool). partial_put b partial running) (sym rolls)

  pub put_ended : (partial : Partial) → plain.taken ≡ true → plain.stage ≡ Ends partial → put plain running ≡ partial_finished partial running
  put_ended partial taken is = put_some taken ∙ ap (λ (s : Stage). put_at plain.rolls s running) is

  put_waiting : plain.stage ≡ Waits → put plain running ≡ Ok running
  put_waiting is = ap (λ (s : Stage). cond plain.taken (put_at plain.rolls s running) (Ok running)) is ∙ same plain.taken (Ok running)
    where
      same : (b : Bool) (r : Result Pool Refusal) → cond b r r ≡ r
      same true r = refl
      same false r = refl

-- a stage without a partial state commits nothing
pub idle_put : (bound : Option ℕ) (has : Blocks) (code : coded.Stage) (plain : Batch) (running : Pool) → (code ≡ stages.Waits) ⊎ (((received : ReceivedSnapshot) × (code ≡ stages.Done received)) ⊎ (code ≡ stages.Over))
    → IsStage bound has code plain.stage → put plain running ≡ Ok running
idle_put bound has code plain running (inl waits) is = put_waiting plain running (by_stage plain.stage (subst (λ (s : coded.Stage). IsStage bound has s plain.stage) waits is))
  where
    by_stage : (s : Stage) → IsStage bound has stages.Waits s → s ≡ Waits
    by_stage Waits stands = refl
    by_stage (Lives flags partial) stands = absurd stands
    by_stage (Ends partial) stands = absurd stands
idle_put bound has code plain running (inr (inl done)) is = absurd (subst (λ (s : coded.Stage). IsStage bound has s plain.stage) done.1 is)
idle_put bound has code plain running (inr (inr over)) is = absurd (subst (λ (s : coded.Stage). IsStage bound has s plain.stage) over is)

-- ---- what it did

module _ (tight : Bool) (start now : DiskState) (running : Pool) (definition : Result Pool Refusal) where
  -- nothing was to be committed
  pub puts_none : (space : FreeSectors) (kept : PoolState) → definition ≡ Ok running → IsUnderWay tight start now space kept running → Puts tight start now kept running definition (Ok tt)
  puts_none space kept is way = record {
    moments = Leaves-weaker start now (Reads tight (kept_of running)) (λ c. Reads tight (kept_of running) c ⊎ ((next : Pool) × (definition ≡ Ok next) × Reads tight (kept_of next) c)) (since start now space kept running way) (λ c reads. inl reads);
    answer = (running, is, rests_on start now space kept running way);
  }

  -- a call was
  pub puts_ok : (old kept : PoolState) (called : Result Pool Refusal) → definition ≡ called → CallDid tight start now old running called (Ok kept) → Puts tight start now kept running definition (Ok tt)
  puts_ok old kept called is did = record {
    moments = subst (λ (d : Result Pool Refusal). Leaves start now (λ c. Reads tight (kept_of running) c ⊎ ((next : Pool) × (d ≡ Ok next) × Reads tight (kept_of next) c))) (sym is) did.moments;
    answer = let after = did.answer in (after.0, is ∙ after.1, after.3);
  }

  pub puts_err : (old kept : PoolState) (called : Result Pool Refusal) (fault : PoolFault) → definition ≡ called → kept ≡ old → CallDid tight start now old running called (Err fault)
      → Puts tight start now kept running definition (Err fault)
  puts_err old kept called fault is same did = record {
    moments = subst (λ (d : Result Pool Refusal). Leaves start now (λ c. Reads tight (kept_of running) c ⊎ ((next : Pool) × (d ≡ Ok next) × Reads tight (kept_of next) c))) (sym is) did.moments;
    answer =
        subst (λ (k : PoolState). CallFault (IsAtRest tight now k running) definition fault) (sym same)
        (subst (λ (d : Result Pool Refusal). CallFault (IsAtRest tight now old running) d fault) (sym is) did.answer);
  }

-- ---- what goes on

module _ (bound : Option ℕ) (old : List ℕ) (space : FreeSectors) (new : List ℕ) (less : FreeSectors) (keeps : KeepsBlocks old space new less) where
  pub stage_more : (code : coded.Stage) (stage : Stage) → IsStage bound (Has old space) code stage → IsStage bound (Has new less) code stage
  stage_more stages.Waits Waits is = tt
  stage_more stages.Waits (Lives flags partial) is = absurd is
  stage_more stages.Waits (Ends partial) is = absurd is
  stage_more (stages.Lives flags row) Waits is = absurd is
  stage_more (stages.Lives flags row) (Lives stated partial) is = (is.0, PartialIs-grows old space new less keeps bound row partial is.1)
  stage_more (stages.Lives flags row) (Ends partial) is = absurd is
  stage_more (stages.Ends row) Waits is = absurd is
  stage_more (stages.Ends row) (Lives flags partial) is = absurd is
  stage_more (stages.Ends row) (Ends partial) is = PartialIs-grows old space new less keeps bound row partial is
  stage_more (stages.Done received) stage is = absurd is
  stage_more stages.Over stage is = absurd is

  pub batch_more : (batch : batches.Batch) (plain : Batch) → IsBatch bound (Has old space) batch plain → IsBatch bound (Has new less) batch plain
  batch_more batch plain is = record { stage = stage_more batch.stage plain.stage is.stage; rolls = is.rolls; taken = is.taken; applied = is.applied }

-- the number of the next commit bounds the dates from then on
partial_later : (tight : Bool) (number : ℕ) (has : Blocks) (row : Row) (partial : Partial) → PartialIs (bound_of tight number) has row partial → PartialIs (bound_of tight (number + 1)) has row partial
partial_later tight number has row partial is = record { named = is.named; objects = SetIs-later tight number (number + 1) (omega arith) has row.objects partial.objects is.objects }

pub stage_later : (tight : Bool) (number : ℕ) (has : Blocks) (code : coded.Stage) (stage : Stage) → IsStage (bound_of tight number) has code stage → IsStage (bound_of tight (number + 1)) has code stage
stage_later tight number has stages.Waits Waits is = tt
stage_later tight number has stages.Waits (Lives flags partial) is = absurd is
stage_later tight number has stages.Waits (Ends partial) is = absurd is
stage_later tight number has (stages.Lives flags row) Waits is = absurd is
stage_later tight number has (stages.Lives flags row) (Lives stated partial) is = (is.0, partial_later tight number has row partial is.1)
stage_later tight number has (stages.Lives flags row) (Ends partial) is = absurd is
stage_later tight number has (stages.Ends row) Waits is = absurd is
stage_later tight number has (stages.Ends row) (Lives flags partial) is = absurd is
stage_later tight number has (stages.Ends row) (Ends partial) is = partial_later tight number has row partial is
stage_later tight number has (stages.Done received) stage is = absurd is
stage_later tight number has stages.Over stage is = absurd is

-- an answer of the definition
abbrev gave : Pool → Result Pool Refusal
gave pool = Ok pool

-- what was answered is one pool
pub same_ok : (one other : Pool) → gave one ≡ gave other → one ≡ other
same_ok one other is = cc

-- what a commit makes of a pool is that with the next number
pub commit_is : (pool next : Pool) → next_commit pool ≡ Ok next → next ≡ record pool { number = pool.number + 1 }
commit_is pool next e =
    let last : Result Pool Refusal = Ok (record pool { number = pool.number + 1 }) in
    let a = unless_ok (nat_lt most_partials (length pool.partials)) (refusals.Limit quantities.Partials most_partials) _ next e in
    let b = unless_ok (nat_lt most_datasets (count_datasets pool)) (refusals.Limit quantities.Datasets most_datasets) _ next a.1 in
    let c = unless_ok (nat_lt most_snapshots (length pool.snapshots + length pool.partials)) (refusals.Limit quantities.Snapshots most_snapshots) _ next b.1 in
    let d = unless_ok (nat_lt last_number (pool.number + 1)) (refusals.Limit quantities.Number last_number) last next c.1 in
    sym (same_ok _ _ d.1)

-- so a partial state that was put stands under the number of the next pool
pub put_stands : (tight : Bool) (has : Blocks) (plain : Batch) (running next : Pool) (code : coded.Stage) → has_partial code ≡ true → plain.taken ≡ true → put plain running ≡ Ok next
    → IsStage (bound_of tight (running.number + 1)) has code plain.stage → IsStage (bound_of tight next.number) has code plain.stage
put_stands tight has plain running next stages.Waits lives taken is stands = absurd cc
put_stands tight has plain running next (stages.Lives flags row) lives taken is stands =
    let l = living (bound_of tight (running.number + 1)) has flags row plain.stage stands in
    let number : next.number ≡ running.number + 1 = ap (λ (p : Pool). p.number) (commit_is (with_partial plain.rolls l.0 running) next (sym (put_living plain running flags l.0 plain.rolls taken l.1 refl) ∙ is)) in
    subst (λ (n : ℕ). IsStage (bound_of tight n) has (stages.Lives flags row) plain.stage) (sym number) stands
put_stands tight has plain running next (stages.Ends row) lives taken is stands = absurd cc
put_stands tight has plain running next (stages.Done received) lives taken is stands = absurd cc
put_stands tight has plain running next stages.Over lives taken is stands = absurd cc

-- a partial state that was put can be put again: the snapshots are as they were
pub can_again : (rows next : Rows) (roll : Bool) (target : List ℕ) (row : Row) → next ≡ rows_with_partial roll row rows → CanPutFor rows target row → CanPutFor next target row
can_again rows next roll target row is can =
    subst (λ (r : Rows). CanPutFor r target row) (sym is) (record { of_target = can.of_target; can = record { row = can.can.row; base = can.can.base; component = can.can.component } })

-- nor is anything changed where nothing was put
pub goes_idle : (rows : Rows) (target : List ℕ) (stage : coded.Stage) → StageFits rows target stage → LivesOn rows target stage
goes_idle rows target stages.Waits fits = tt
goes_idle rows target (stages.Lives flags row) fits = fits
goes_idle rows target (stages.Ends row) fits = tt
goes_idle rows target (stages.Done received) fits = tt
goes_idle rows target stages.Over fits = tt

-- ---- how a commit ends

-- the faults of a call, and of the commit of a batch
abbrev called : PoolFault → Result ℕ PoolFault
called fault = Err fault

abbrev answered : PoolFault → Result (Unit {0}) PoolFault
answered fault = Err fault

pool_told : (one other : PoolFault) → answered one ≡ answered other → one ≡ other
pool_told one other is = cc

module _ {D : Type 0} {g : Ghosts D} where
  -- nothing was to be committed
  pub commits_none : (pool : coded_pool.Pool D g) → pool.io.failed ≡ false → Ready (disk_of pool.io) pool.kept.body → CommitsBatch {A = Unit {0}} pool pool (Ok tt)
  commits_none pool alive ready = record {
    known = tt;
    stays = tt;
    short = λ need largest is. absurd (cc is);
    grows = inl refl;
    extents = λ has. has;
    ready = λ still. ready;
    stood = λ apart ptr bytes has. has;
    size = refl;
    failed = alive;
    told = λ whole. refl;
    cause = record { later = omega arith; fault = λ is. absurd (cc is) };
    honest = λ told. told;
    same = refl;
  }

  module _ (old new : coded_pool.Pool D g) where
    -- a call committed
    pub commits_made : (number : ℕ) → old.io.failed ≡ false → Settles old new (Ok number) → CallGrows old.io.space old.kept new.kept
        → KeepsBlocks (disk_of old.io).seen old.io.space (disk_of new.io).seen new.io.space → (disk_of new.io).size ≡ (disk_of old.io).size → CommitsBatch {A = Unit {0}} old new (Ok tt)
    commits_made number alive settles grows blocks size = record {
      known = tt;
      stays = tt;
      short = λ need largest is. absurd (cc is);
      grows = inr grows;
      extents = settles.extents;
      ready = settles.ready;
      stood = λ apart. keeps_same (disk_of old.io).seen old.io.space (disk_of new.io).seen new.io.space blocks;
      size = size;
      failed = settles.failed ∙ ap (λ (b : Bool). b || false) alive;
      told = λ whole. settles.told refl;
      cause = record { later = settles.cause.later; fault = λ is. absurd (cc is) };
      honest = settles.honest;
      same = settles.same;
    }

    -- or was refused
    pub commits_refused : (fault : PoolFault) → old.io.failed ≡ false → Settles old new (called fault) → IsCallFault fault
        → ((need largest : ℕ) → called fault ≡ called (pools.Full need largest) → IsCallFull old.io.space new.io.space old.kept.dir need largest)
        → (¬ (called fault ≡ called pools.DiskFault) → SparesTaken old.io.space (disk_of old.io).seen (disk_of new.io).seen) → (disk_of new.io).size ≡ (disk_of old.io).size → CommitsBatch old new (answered fault)
    commits_refused fault alive settles known full spares size = record {
      known = known;
      stays = settles.stays;
      short = λ need largest is. full need largest (ap called (pool_told fault (pools.Full need largest) is));
      grows = tt;
      extents = tt;
      ready = settles.ready;
      stood = λ apart. keeps_spared old.io.space (disk_of old.io).seen (disk_of new.io).seen (spares (λ is. apart (ap answered (called_same is))));
      size = size;
      failed = settles.failed ∙ ap (λ (b : Bool). b || is_disk_fault (called fault)) alive ∙ failed_so fault;
      told = settles.told;
      cause = record { later = settles.cause.later; fault = λ is. settles.cause.fault (ap called (pool_told fault pools.DiskFault is)) };
      honest = settles.honest;
      same = settles.same;
    }
      where
        called_same : called fault ≡ called pools.DiskFault → fault ≡ pools.DiskFault
        called_same is = cc is

        failed_so : (told : PoolFault) → is_disk_fault (called told) ≡ is_disk_fault (answered told)
        failed_so (pools.Plan fault) = refl
        failed_so (pools.CannotApply fault) = refl
        failed_so (pools.Redacted object block) = refl
        failed_so (pools.Full need largest) = refl
        failed_so (pools.Damaged sector stated found) = refl
        failed_so pools.DiskFault = refl
        failed_so pools.Failed = refl
        failed_so pools.OutOfMemory = refl

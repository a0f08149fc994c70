-- What stands after a command on the pool of an image, from what opening and stepping say.
use Rattle.std.specs.Prelude.{false, Some, None, Result, Ok, Err}
use Rattle.std.proofs.Common.{◌≡◌, ◌≢◌, ◌⊎◌, inl, inr, ⊎_elim, ℕ, ◌≤◌, List, [], ◌∷◌, length, refl, sym, ap, ◌∙◌, subst, arith, Bool}
use Rattle.zst_outside.specs.Causes.{Rose-earlier}
use Rattle.zst_outside.specs.Images.{DiskState, Leaves, Leaves-weaker, Leaves-then, OnlyReads, OnlyReads-then, IsSynced}
use Rattle.zst_space.specs.FreeSectors.{FreeSectors}
use Rattle.zst_block.specs.Blocks.{SparesTaken}
use Rattle.zst_image.specs.Bodies.{Body, free_by}
use Rattle.zst_model.specs.pools.KeptPool.{KeepsAll, kept_of}
use Rattle.zst_model.specs.pools.Pool.{Pool}
use Rattle.zst_model.specs.refusals.Refusal.{refusal_of}
use Rattle.zst_model.specs.pools.Step.{Stepped, commits, stepped}
use Rattle.zst_model.specs.declared.pools.command.Command.{Command}
use Rattle.zst_model.specs.declared.pools.command.Command.TheVariants as commands
use Rattle.zst_model.specs.declared.refusals.plan_fault.PlanFault.{PlanFault}
use Rattle.zst_model.specs.declared.refusals.refusal.Refusal.{Refusal}
use Rattle.zst_model.specs.declared.refusals.refusal.Refusal.TheVariants as refusals
use Rattle.zst_model.proofs.PlanFaults.{plan_cases, plan_of, plan_is}
use Rattle.zst_laws.specs.StepInvariants.{StepsKeepKept}
use Rattle.zst_tree.specs.Damage.{IsSeen, NamesNode, SumsUp}
use Rattle.zst_objset.specs.Damage.{IsDamagedBlock, IsDamagedObject, IsDamagedSet}
use Rattle.zst_redact.specs.Damage.{IsDamagedAmong}
use Rattle.zst_dir.specs.Rows.{Rows}
use Rattle.zst_roots.specs.RowDamage.{IsDamagedInPool}
use Rattle.zst_pool.proofs.PoolsAtRest.{kept_twice, rest_plain}
use Rattle.zst_image.specs.Faults.{open_refusal}
use Rattle.zst_uber.specs.DiskCalls as disk_calls
use Rattle.zst_image.specs.OpenAnswers.{GivesPool, OpenAnswers}
use Rattle.zst_image.specs.Reads.{IsNamedBy, Reads, ReadsAs, Rests, kept_rows}
use Rattle.zst_image.specs.declared.pool_state.PoolState.{PoolState}
use Rattle.zst_image.specs.declared.open_fault.OpenFault.{OpenFault}
use Rattle.zst_image.specs.declared.open_fault.OpenFault.TheVariants as opens
use Rattle.zst_pool.specs.Calls.{IsAtRest}
use Rattle.zst_pool.specs.Cost.{FindsLess, FindsNoRoom, Grows, HasNoRoom, cost_of, most_sectors}
use Rattle.zst_pool.specs.Damage.{IsOf, OfHead, OfSet, TellsDamage}
use Rattle.zst_pool.specs.Faults.{HasDiskCause, StepFault, pool_refusal}
use Rattle.zst_pool.specs.Plans.{Plans, indices_end, makes_list, numbers_end}
use Rattle.zst_pool.specs.Reclaims.{AreUnreached, FindsAllReached, Reclaimed, Reclaims}
use Rattle.zst_pool.specs.Redactions.{rows_of, sets_of}
use Rattle.zst_pool.specs.StepAnswers.{BeforeOrAfter, StepAnswer}
use Rattle.zst_pool.specs.declared.fault.PoolFault.{PoolFault}
use Rattle.zst_pool.specs.declared.fault.PoolFault.TheVariants as faults
use Rattle.zst_run.specs.Commands.{OldOrReads, IsPoolRefusal, OfStepping, Answers, Opened, Opens, Planned, Ran, RefusesReclaim, Stepping, as_kept}
use Rattle.zst_run.proofs.ReclaimedRows.{ReadsOne, rows_stay}

-- ---- plans' faults as refusals

-- a pool's fault is the disk's only as that
pub disk_fault : (fault : PoolFault) → pool_refusal fault ≡ refusals.DiskFault → fault ≡ faults.DiskFault
disk_fault (faults.Plan fault) is = absurd (plan_cases (λ f r. r ≡ refusals.DiskFault → ⊥) (λ f e. absurd (cc e)) (λ w n e. absurd (cc e)) fault is)
disk_fault (faults.CannotApply fault) is = absurd (cc is)
disk_fault (faults.Redacted object block) is = absurd (cc is)
disk_fault (faults.Full need largest) is = absurd (cc is)
disk_fault (faults.Damaged sector stated found) is = absurd (cc is)
disk_fault faults.DiskFault is = refl
disk_fault faults.Failed is = absurd (cc is)
disk_fault faults.OutOfMemory is = absurd (cc is)

-- and that it had failed only as that
pub failed_before : (fault : PoolFault) → pool_refusal fault ≡ refusals.Failed → fault ≡ faults.Failed
failed_before (faults.Plan fault) is = absurd (plan_cases (λ f r. r ≡ refusals.Failed → ⊥) (λ f e. absurd (cc e)) (λ w n e. absurd (cc e)) fault is)
failed_before (faults.CannotApply fault) is = absurd (cc is)
failed_before (faults.Redacted object block) is = absurd (cc is)
failed_before (faults.Full need largest) is = absurd (cc is)
failed_before (faults.Damaged sector stated found) is = absurd (cc is)
failed_before faults.DiskFault is = absurd (cc is)
failed_before faults.Failed is = refl
failed_before faults.OutOfMemory is = absurd (cc is)

-- and a full disk's only as that
pub full_only : (fault : PoolFault) (need largest : ℕ) → pool_refusal fault ≡ refusals.Full need largest → fault ≡ faults.Full need largest
full_only (faults.Plan fault) need largest is =
    absurd (plan_cases (λ f r. r ≡ refusals.Full need largest → ⊥) (λ f e. absurd (cc e)) (λ w n e. absurd (cc e)) fault is)
full_only (faults.CannotApply fault) need largest is = absurd (cc is)
full_only (faults.Redacted object block) need largest is = absurd (cc is)
full_only (faults.Full n l) need largest is = cc is
full_only (faults.Damaged sector stated found) need largest is = absurd (cc is)
full_only faults.DiskFault need largest is = absurd (cc is)
full_only faults.Failed need largest is = absurd (cc is)
full_only faults.OutOfMemory need largest is = absurd (cc is)

-- and a damaged block's only as that
pub damaged_only : (fault : PoolFault) (sector : ℕ) (stated found : List ℕ) → pool_refusal fault ≡ refusals.Damaged sector stated found
    → fault ≡ faults.Damaged sector stated found
damaged_only (faults.Plan fault) sector stated found is =
    absurd (plan_cases (λ f r. r ≡ refusals.Damaged sector stated found → ⊥) (λ f e. absurd (cc e)) (λ w n e. absurd (cc e)) fault is)
damaged_only (faults.CannotApply fault) sector stated found is = absurd (cc is)
damaged_only (faults.Redacted object block) sector stated found is = absurd (cc is)
damaged_only (faults.Full need largest) sector stated found is = absurd (cc is)
damaged_only (faults.Damaged a s f) sector stated found is = cc is
damaged_only faults.DiskFault sector stated found is = absurd (cc is)
damaged_only faults.Failed sector stated found is = absurd (cc is)
damaged_only faults.OutOfMemory sector stated found is = absurd (cc is)

-- one that stands among no limits names its fault
pub plan_named : (fault plan : PlanFault) → refusal_of fault ≡ refusals.Plan plan → fault ≡ plan
plan_named fault plan is = let e : Some fault ≡ Some plan = sym (plan_is fault) ∙ ap plan_of is in cc e

no_plan : (refusal : Refusal) (fault : PlanFault) → plan_of refusal ≡ None → refusal ≡ refusal_of fault → ⊥
no_plan refusal fault none is = let e : None ≡ Some fault = sym none ∙ ap plan_of is ∙ plan_is fault in absurd (cc e)

-- and a plan's only as that
pub plan_only : (fault : PoolFault) (plan : PlanFault) → pool_refusal fault ≡ refusal_of plan → fault ≡ faults.Plan plan
plan_only (faults.Plan fault) plan is =
    let e : Some fault ≡ Some plan = sym (plan_is fault) ∙ ap plan_of is ∙ plan_is plan in
    let same : fault ≡ plan = cc e in
    ap (λ (p : PlanFault). faults.Plan p) same
plan_only (faults.CannotApply fault) plan is = absurd (no_plan (refusals.CannotApply 0 fault) plan refl is)
plan_only (faults.Redacted object block) plan is = absurd (no_plan (refusals.Redacted object block) plan refl is)
plan_only (faults.Full need largest) plan is = absurd (no_plan (refusals.Full need largest) plan refl is)
plan_only (faults.Damaged sector stated found) plan is = absurd (no_plan (refusals.Damaged sector stated found) plan refl is)
plan_only faults.DiskFault plan is = absurd (no_plan refusals.DiskFault plan refl is)
plan_only faults.Failed plan is = absurd (no_plan refusals.Failed plan refl is)
plan_only faults.OutOfMemory plan is = absurd (no_plan refusals.OutOfMemory plan refl is)

-- the fault of a command, as a refusal of the whole
refused_step : {T : Type 0} → (here mid here' : DiskState) (fault : PoolFault) → here.faults ≤ mid.faults → HasDiskCause {T = T} mid.faults here'.faults (Err fault)
    → fault ≢ faults.Failed → IsPoolRefusal OfStepping here here' (pool_refusal fault)
refused_step here mid here' fault later cause alive = record {
  one = inr (fault, refl);
  alive = λ is. alive (failed_before fault is);
  cause = λ is. Rose-earlier here.faults mid.faults here'.faults later (cause.fault (ap (λ f. Err f) (disk_fault fault is)));
}

-- a fault of opening is the disk's only as that, and never that it had failed
pub open_disk : (fault : OpenFault) → open_refusal fault ≡ refusals.DiskFault → fault ≡ opens.DiskFault
open_disk (opens.Damaged sector stated found) is = absurd (cc is)
open_disk opens.NoPool is = absurd (cc is)
open_disk (opens.BadVersion version) is = absurd (cc is)
open_disk opens.DiskFault is = refl
open_disk opens.OutOfMemory is = absurd (cc is)

pub open_alive : (fault : OpenFault) → open_refusal fault ≢ refusals.Failed
open_alive (opens.Damaged sector stated found) is = absurd (cc is)
open_alive opens.NoPool is = absurd (cc is)
open_alive (opens.BadVersion version) is = absurd (cc is)
open_alive opens.DiskFault is = absurd (cc is)
open_alive opens.OutOfMemory is = absurd (cc is)

refused_open : {T : Type 0} → (here here' : DiskState) (fault : OpenFault) → disk_calls.HasDiskCause {T = T} opens.DiskFault here.faults here'.faults (Err fault) → IsPoolRefusal OfStepping here here' (open_refusal fault)
refused_open here here' fault cause = record { one = inl (fault, refl); alive = open_alive fault; cause = λ is. cause.fault (ap (λ f. Err f) (open_disk fault is)) }

-- ---- opening

-- a disk that read as a pool and where nothing is pending rests as that pool
pub rests_read : {tight : Bool} (here mid : DiskState) (body : Body) (rows : Rows) (pool : Pool) → ReadsAs tight body rows pool here.seen → OnlyReads here mid → IsSynced mid → Rests tight mid body rows pool
rests_read {tight = tight} here mid body rows pool is reads synced =
    let read : ReadsAs tight body rows pool mid.seen = subst (λ (bytes : List ℕ). ReadsAs tight body rows pool bytes) (sym reads.seen) is in
    record { reads = read; each = λ c image. subst (λ (bytes : List ℕ). ReadsAs tight body rows pool bytes) (sym (synced c image)) read }

-- what holds of the body that is kept holds of the body that it is
for_kept : (P : Body → Type 0) (kept : PoolState) (body : Body) (rows : Rows) → GivesPool body rows (Ok kept) → P kept.body → P body
for_kept P kept body rows same is = subst P same.0 is

-- what is kept of a pool that an image reads as, and of what a command makes of it, is all of it
abbrev pub KeepLaws : Type 0
KeepLaws = ((pool : Pool) → KeepsAll pool → kept_of pool ≡ pool) × StepsKeepKept × ((tight : Bool) (body : Body) (rows : Rows) (pool : Pool) (image : List ℕ) → ReadsAs tight body rows pool image → KeepsAll pool)

module _ (laws : KeepLaws) where
  -- what is kept of the pool that a command makes
  kept_done : (now : ℕ) (command : Command) (pool : Pool) (done : Stepped) → KeepsAll pool → stepped [] now command pool ≡ Ok done → kept_of done.pool ≡ done.pool
  kept_done now command pool done all is = laws.0 done.pool (laws.1 [] now command pool done is all)

  -- an image that reads as what is kept before or after reads as the pool before or after
  reads_whole : {tight : Bool} (now : ℕ) (command : Command) (here : DiskState) (pool : Pool) → KeepsAll pool → (c : List ℕ)
      → BeforeOrAfter tight pool (stepped [] now command pool) c → OldOrReads tight here pool (stepped [] now command pool) c
  reads_whole {tight = tight} now command here pool all c (inl reads) = inr (inl (subst (λ (p : Pool). Reads tight p c) (laws.0 pool all) reads))
  reads_whole {tight = tight} now command here pool all c (inr after) = inr (inr (after.0, after.1, subst (λ (p : Pool). Reads tight p c) (kept_done now command pool after.0 all after.1) after.2))

-- the moments of opening, and those of the command behind it
pub moments_read : {tight : Bool} (here mid : DiskState) (pool : Pool) (after : Result Stepped Refusal) → OnlyReads here mid → Leaves here mid (OldOrReads tight here pool after)
moments_read {tight = tight} here mid pool after reads = Leaves-weaker here mid here.images (OldOrReads tight here pool after) reads.time (λ c image. inl image)

pub moments_then : {tight : Bool} (here mid here' : DiskState) (pool : Pool) (after : Result Stepped Refusal) → OnlyReads here mid → Leaves mid here' (BeforeOrAfter tight pool after)
    → ((c : List ℕ) → BeforeOrAfter tight pool after c → OldOrReads tight here pool after c) → Leaves here here' (OldOrReads tight here pool after)
moments_then {tight = tight} here mid here' pool after reads step whole =
    Leaves-then here mid here' (OldOrReads tight here pool after) (BeforeOrAfter tight pool after) (moments_read here mid pool after reads) step whole

-- ---- answers

-- where the pool reads, opening is refused by the disk or by want of memory alone
pub answers_unopened : {tight : Bool} (command : Command) (here mid : DiskState) (pool : Pool) (after : Result Stepped Refusal) (body : Body) (rows : Rows) (fault : OpenFault)
    → (fault ≢ opens.DiskFault → Rests tight mid body rows pool) → GivesPool body rows (Err fault) → Answers tight command body rows pool here mid after (Err (open_refusal fault))
answers_unopened command here mid pool after body rows (opens.Damaged sector stated found) rests gives = absurd gives
answers_unopened command here mid pool after body rows opens.NoPool rests gives = absurd gives
answers_unopened command here mid pool after body rows (opens.BadVersion version) rests gives = absurd gives
answers_unopened command here mid pool after body rows opens.DiskFault rests gives = tt
answers_unopened command here mid pool after body rows opens.OutOfMemory rests gives = rests (λ is. absurd (cc is))

-- rows in memory that last, and what they tell of room
with_rows : (P : Rows → Type 0) (kept : PoolState) (rows : Rows) → kept.dir ≡ kept_rows rows → P kept.dir → P (kept_rows rows)
with_rows P kept rows same is = subst P same is

-- what a refused command leaves; a reclaim is refused for want of room otherwise
pub answers_refused : {tight : Bool} (command : Command) (here here' : DiskState) (kept : PoolState) (rows : Rows) (pool : Pool) (after : Result Stepped Refusal) (fault : PoolFault) → kept.dir ≡ kept_rows rows
    → (command ≢ commands.Reclaim → (left : FreeSectors) × FindsNoRoom (cost_of command).cells ((cost_of command).block pool) ((cost_of command).list pool) kept left fault)
    → (command ≢ commands.Reclaim → FindsLess (cost_of command).cells ((cost_of command).block pool) ((cost_of command).list pool) kept.body after fault) → (fault ≢ faults.DiskFault → IsAtRest tight here' kept pool → Rests tight here' kept.body rows pool) → StepFault (IsAtRest tight here' kept pool) after fault
    → Answers tight command kept.body rows pool here here' after (Err (pool_refusal fault))
answers_refused {tight = tight} command here here' kept rows pool after (faults.Plan fault) same room less still is =
    let rests = still (λ e. absurd (cc e)) is.1 in
    plan_cases (λ f r. after ≡ Err r → Answers tight command kept.body rows pool here here' after (Err r)) (λ f e. (e, rests)) (λ w n e. (e, rests)) fault is.0
answers_refused {tight = tight} command here here' kept rows pool after (faults.CannotApply fault) same room less still is = (is.0, still (λ e. absurd (cc e)) is.1)
answers_refused {tight = tight} command here here' kept rows pool after (faults.Redacted object block) same room less still is = (is.0, still (λ e. absurd (cc e)) is.1)
answers_refused {tight = tight} command here here' kept rows pool after (faults.Full need largest) same room less still is = (
  record {
    done = is.0.0;
    accepts = is.0.1;
    short = λ other.
        let found = room other in
        (found.0, with_rows (λ r. HasNoRoom (cost_of command).cells ((cost_of command).block pool) ((cost_of command).list pool) kept.body r found.0 need largest) kept rows same (found.1 need largest refl));
    costs = λ other. less other need largest refl;
  },
  still (λ e. absurd (cc e)) is.1,
)
answers_refused {tight = tight} command here here' kept rows pool after (faults.Damaged sector stated found) same room less still is = absurd is
answers_refused {tight = tight} command here here' kept rows pool after faults.DiskFault same room less still is = tt
answers_refused {tight = tight} command here here' kept rows pool after faults.Failed same room less still is = absurd is
answers_refused {tight = tight} command here here' kept rows pool after faults.OutOfMemory same room less still is = still (λ e. absurd (cc e)) is

-- ---- what answers say of any image

pub opened_refused : (now : ℕ) (command : Command) (here here' : DiskState) (fault : OpenFault) → OnlyReads here here' → OpenAnswers here (Err fault)
    → Opened now command here here' (Err (open_refusal fault))
opened_refused now command here here' (opens.Damaged sector stated found) reads is = inl (is, reads)
opened_refused now command here here' opens.NoPool reads is = (is, reads)
opened_refused now command here here' (opens.BadVersion version) reads is = (record { body = is.0; there = is.1; version = is.2; other = is.3 }, reads)
opened_refused now command here here' opens.DiskFault reads is = tt
opened_refused now command here here' opens.OutOfMemory reads is = inl reads

-- what a command tells of a disk that was only read, it tells of the disk from before
pub told_before : (here mid : DiskState) (P : List ℕ → ℕ → Type 0) → OnlyReads here mid → P mid.seen mid.size → P here.seen here.size
told_before here mid P reads is = subst (λ (n : ℕ). P here.seen n) reads.size (subst (λ (bytes : List ℕ). P bytes mid.size) reads.seen is)

pub told_of_start : (here mid : DiskState) (body : Body) (rows : Rows) (sector : ℕ) (stated found : List ℕ) (command : Command) → OnlyReads here mid
    → TellsDamage command [] body rows mid sector stated found → TellsDamage command [] body rows here sector stated found
told_of_start here mid body rows sector stated found (commands.Fs dataset) reads is = is
told_of_start here mid body rows sector stated found (commands.Volume dataset) reads is = is
told_of_start here mid body rows sector stated found (commands.Object dataset k head bonus spill) reads is =
    told_before here mid (λ seen size. OfHead rows dataset (IsDamagedSet (SparesTaken (free_by body) seen) size) sector stated found) reads is
told_of_start here mid body rows sector stated found (commands.Write dataset k i bytes) reads is =
    told_before here mid (λ seen size. OfHead rows dataset (λ set at s f. IsDamagedSet (IsSeen seen) size set at s f
    ⊎ IsDamagedObject (SparesTaken (free_by body) seen) size NamesNode set at s f) sector stated found) reads is
told_of_start here mid body rows sector stated found (commands.Punch dataset k first count) reads is =
    told_before here mid (λ seen size. OfHead rows dataset (IsDamagedObject (SparesTaken (free_by body) seen) size (SumsUp (SparesTaken (free_by body) seen))) sector stated found) reads is
told_of_start here mid body rows sector stated found (commands.Free dataset first count) reads is =
    told_before here mid (λ seen size. OfHead rows dataset (IsDamagedSet (SparesTaken (free_by body) seen) size) sector stated found) reads is
told_of_start here mid body rows sector stated found (commands.Snapshot name) reads is = is
told_of_start here mid body rows sector stated found (commands.Clone origin dataset) reads is = is
told_of_start here mid body rows sector stated found (commands.Bookmark snapshot bookmark) reads is = is
told_of_start here mid body rows sector stated found (commands.Redact snapshot bookmark redactions) reads is =
    told_before here mid (λ seen size. IsDamagedAmong (IsSeen seen) size (sets_of (rows_of (snapshot ∷ redactions) rows)) sector stated found) reads is
told_of_start here mid body rows sector stated found (commands.Rollback destroys snapshot) reads is = is
told_of_start here mid body rows sector stated found (commands.Destroy name) reads is = is
told_of_start here mid body rows sector stated found (commands.Abort dataset) reads is = is
told_of_start here mid body rows sector stated found commands.Reclaim reads is = told_before here mid (λ seen size. IsDamagedInPool (IsSeen seen) size body.uber rows [] sector stated found) reads is
told_of_start here mid body rows sector stated found (commands.Read name k i) reads is =
    told_before here mid (λ seen size. OfSet rows name (λ set at s f. (count : ℕ) × IsDamagedBlock (IsSeen seen) size count set at s f) sector stated found) reads is
told_of_start here mid body rows sector stated found commands.List reads is = is
told_of_start here mid body rows sector stated found (commands.ListObjects name) reads is =
    told_before here mid (λ seen size. OfSet rows name (IsDamagedSet (IsSeen seen) size) sector stated found) reads is

-- what a plan refuses, as a refusal of the whole
planned_refused : (now : ℕ) (command : Command) (kept : PoolState) (rows : Rows) (fault : PoolFault) → kept.dir ≡ kept_rows rows
    → Plans {T = List (List ℕ)} (λ pool. stepped [] now command pool) (numbers_end command) (indices_end command) (makes_list command) kept (Err fault)
    → Planned now command kept.body rows (Err (pool_refusal fault))
planned_refused now command kept rows fault same is = record {
  exact = λ pool plan named told.
      let by = subst (λ (r : Rows). IsNamedBy kept.body r pool) (sym same) named in (
        λ refused. let was = (is.exact pool plan by told).0 refused in let one : fault ≡ faults.Plan plan = cc was in ap (λ f. Err (pool_refusal f)) one,
        λ was. (is.exact pool plan by told).1 (ap (λ f. Err f) (plan_only fault plan (cc was))),
      );
  limits = λ plan was. is.limits plan (ap (λ f. Err f) (plan_only fault plan (cc was)));
}

planned_done : (now : ℕ) (command : Command) (kept : PoolState) (rows : Rows) (lines : List (List ℕ)) → kept.dir ≡ kept_rows rows
    → Plans {T = List (List ℕ)} (λ pool. stepped [] now command pool) (numbers_end command) (indices_end command) (makes_list command) kept (Ok lines)
    → Planned now command kept.body rows (Ok lines)
planned_done now command kept rows lines same is = record {
  exact = λ pool plan named told. (
    λ refused. let was = (is.exact pool plan (subst (λ (r : Rows). IsNamedBy kept.body r pool) (sym same) named) told).0 refused in absurd (cc was),
    λ was. absurd (cc was),
  );
  limits = λ plan was. absurd (cc was);
}

-- a reclaim that was refused on what was opened
reclaim_refused : (here mid here' : DiskState) (kept kept' : PoolState) (rows : Rows) (left : FreeSectors) (fault : PoolFault) → kept.dir ≡ kept_rows rows → OnlyReads here mid → fault ≢ faults.DiskFault
    → Reclaims {T = List (List ℕ)} [] mid here' kept kept' left (Err fault) → RefusesReclaim here here' (as_kept kept.body rows) (Err (pool_refusal fault))
reclaim_refused here mid here' kept kept' rows left fault same reads not is = record {
  full = λ need largest told. (
    left,
    subst (λ (seen : List ℕ). FindsAllReached seen (as_kept kept.body rows) [] left need largest) reads.seen
        (with_rows (λ r. FindsAllReached mid.seen (record { body = kept.body; dir = r }) [] left need largest) kept rows same (is.full need largest (full_only fault need largest (cc told)))),
  );
  spares = λ space are.
      let before = subst (λ (seen : List ℕ). AreUnreached seen (as_kept kept.body rows) [] space) (sym reads.seen) are in
      subst (λ (seen : List ℕ). SparesTaken space seen here'.seen) reads.seen
      (is.spares (λ e. not (cc e)) space (subst (λ (r : Rows). AreUnreached mid.seen (record { body = kept.body; dir = r }) [] space) (sym same) before));
}

-- a command that was
ran_refused : (now : ℕ) (command : Command) (here mid here' : DiskState) (kept : PoolState) (rows : Rows) (fault : PoolFault) → kept.dir ≡ kept_rows rows → Opens here kept.body rows → OnlyReads here mid
    → (command ≢ commands.Reclaim → SparesTaken (free_by kept.body) here.seen here'.seen)
    → (command ≢ commands.Reclaim → (left : FreeSectors) × (block : ℕ) × (block ≤ (cost_of command).most) × FindsNoRoom (cost_of command).cells block (cost_of command).most_list kept left fault)
    → (command ≡ commands.Reclaim → RefusesReclaim here here' (as_kept kept.body rows) (Err (pool_refusal fault)))
    → IsOf (TellsDamage command [] kept.body kept.dir mid) fault
    → (fault ≢ faults.OutOfMemory → Plans {T = List (List ℕ)} (λ pool. stepped [] now command pool) (numbers_end command) (indices_end command) (makes_list command) kept (Err fault))
    → Ran now command here here' (Err (pool_refusal fault)) kept.body rows
ran_refused now command here mid here' kept rows fault same opens reads spares room reclaims damaged plan = record {
  opens = opens;
  spares = spares;
  full = λ other need largest is.
      let found = room other in (
        found.1,
        found.2,
        (found.0, with_rows (λ r. HasNoRoom (cost_of command).cells found.1 (cost_of command).most_list kept.body r found.0 need largest) kept rows same (found.3 need largest (full_only fault need largest (cc is)))),
      );
  reclaims = reclaims;
  damaged = λ sector stated found is.
      told_of_start here mid kept.body (kept_rows rows) sector stated found command reads
      (with_rows (λ r. TellsDamage command [] kept.body r mid sector stated found) kept rows same (damaged sector stated found (damaged_only fault sector stated found (cc is))));
  planned = λ memory. planned_refused now command kept rows fault same (plan (λ is. memory (ap (λ f. Err (pool_refusal f)) is)));
}

ran_done : (now : ℕ) (command : Command) (here here' : DiskState) (kept : PoolState) (rows : Rows) (lines : List (List ℕ)) → kept.dir ≡ kept_rows rows → Opens here kept.body rows
    → Plans {T = List (List ℕ)} (λ pool. stepped [] now command pool) (numbers_end command) (indices_end command) (makes_list command) kept (Ok lines)
    → Ran now command here here' (Ok lines) kept.body rows
ran_done now command here here' kept rows lines same opens plan = record {
  opens = opens;
  spares = λ other. tt;
  full = λ other need largest is. absurd (cc is);
  reclaims = λ one. record { full = λ need largest is. absurd (cc is); spares = tt };
  damaged = λ sector stated found is. absurd (cc is);
  planned = λ memory. planned_done now command kept rows lines same plan;
}

opened_then : (now : ℕ) (command : Command) (here here' : DiskState) (kept : PoolState) (rows : Rows) (fault : PoolFault) → fault ≢ faults.Failed
    → (fault ≢ faults.DiskFault → Ran now command here here' (Err (pool_refusal fault)) kept.body rows) → Opened now command here here' (Err (pool_refusal fault))
opened_then now command here here' kept rows (faults.Plan fault) alive ran =
    plan_cases (λ f r. Ran now command here here' (Err r) kept.body rows → Opened now command here here' (Err r)) (λ f is. (kept.body, rows, is))
    (λ w n is. (kept.body, rows, is)) fault (ran (λ e. absurd (cc e)))
opened_then now command here here' kept rows (faults.CannotApply fault) alive ran = (kept.body, rows, ran (λ e. absurd (cc e)))
opened_then now command here here' kept rows (faults.Redacted object block) alive ran = (kept.body, rows, ran (λ e. absurd (cc e)))
opened_then now command here here' kept rows (faults.Full need largest) alive ran = (kept.body, rows, ran (λ e. absurd (cc e)))
opened_then now command here here' kept rows (faults.Damaged sector stated found) alive ran = inr (kept.body, rows, ran (λ e. absurd (cc e)))
opened_then now command here here' kept rows faults.DiskFault alive ran = tt
opened_then now command here here' kept rows faults.Failed alive ran = absurd (alive refl)
opened_then now command here here' kept rows faults.OutOfMemory alive ran = inr (kept.body, rows, ran (λ e. absurd (cc e)))

-- ---- one command

-- each image in the end is one that was left at some moment since the start
pub images_after : (old new : DiskState) (P : List ℕ → Type 0) → Leaves old new P → ((c : List ℕ) → old.images c → P c)
    → ((c : List ℕ) → old.left_since old.moment c → old.images c) → ((t : ℕ) (c : List ℕ) → t ≤ new.moment → new.images c → new.left_since t c)
    → (c : List ℕ) → new.images c → P c
images_after old new P leaves before only now c image =
    ⊎_elim (λ was. before c (only c was)) (λ is. is) (leaves.adds old.moment c (omega arith) (now old.moment c leaves.later image))

-- opening was refused
pub stepping_unopened : (now : ℕ) (command : Command) (here here' : DiskState) (fault : OpenFault)
    → ((tight : Bool) (body : Body) (rows : Rows) (pool : Pool) → here'.honest → ReadsAs tight body rows pool here.seen → GivesPool body rows (Err fault))
    → (here'.honest → OpenAnswers here (Err fault)) → OnlyReads here here' → (fault ≢ opens.DiskFault → IsSynced here') → disk_calls.HasDiskCause {T = PoolState} opens.DiskFault here.faults here'.faults (Err fault)
    → Stepping now command here here' (Err (open_refusal fault))
stepping_unopened now command here here' fault there answer reads synced cause = record {
  moments = λ tight pool told is. moments_read here here' pool (stepped [] now command pool) reads;
  images = λ tight pool told is c image. inl (reads.crash c image);
  answers = λ tight body rows pool told is. answers_unopened command here here' pool (stepped [] now command pool) body rows fault
      (λ alive. rests_read here here' body rows pool is reads (synced alive)) (there tight body rows pool told is);
  opened = λ told. opened_refused now command here here' fault reads (answer told);
  refused = refused_open here here' fault cause;
  idle = λ not. reads;
  later = cause.later;
}

-- an image reads as it did where free sectors alone were written
abbrev pub ReadsStay : Type 0
ReadsStay = (tight : Bool) (body : Body) (rows : Rows) (pool : Pool) (old new : List ℕ) → SparesTaken (free_by body) old new → ReadsAs tight body rows pool old → ReadsAs tight body rows pool new

-- a command is a reclaim, or another one
pub reclaim_or_not : (command : Command) → (command ≡ commands.Reclaim) ⊎ (command ≢ commands.Reclaim)
reclaim_or_not commands.Reclaim = inl refl
reclaim_or_not command = inr (λ is. absurd (cc is))

-- what a reclaim made of what was opened, by the rows that last
reclaimed_kept : (here mid : DiskState) (kept next : PoolState) (rows directory : Rows) → kept.dir ≡ kept_rows rows → kept_rows next.dir ≡ kept_rows directory → OnlyReads here mid
    → Reclaimed mid.seen [] kept next → Reclaimed here.seen [] (as_kept kept.body rows) (as_kept next.body directory)
reclaimed_kept here mid kept next rows directory same lasting reads is =
    let was : Reclaimed here.seen [] (as_kept kept.body rows) next =
    subst (λ (seen : List ℕ). Reclaimed seen [] (as_kept kept.body rows) next) reads.seen (with_rows (λ r. Reclaimed mid.seen [] (record { body = kept.body; dir = r }) next) kept rows same is) in
    record {
      rows = sym lasting ∙ ap kept_rows was.rows ∙ kept_twice rows;
      number = was.number;
      sectors = was.sectors;
      writable = was.writable;
      unreached = was.unreached;
      left = was.left;
      takes = was.takes;
      end = was.end;
      exact = was.exact;
    }

-- the command ran on what was opened
module _ (laws : KeepLaws) (one : ReadsOne) (stay : ReadsStay) (now : ℕ) (command : Command) (here mid here' : DiskState) (kept kept' : PoolState)
    (there : (tight : Bool) (body : Body) (rows : Rows) (pool : Pool) → mid.honest → ReadsAs tight body rows pool here.seen → GivesPool body rows (Ok kept))
    (falls : here'.honest → mid.honest) (answer : mid.honest → OpenAnswers here (Ok kept)) (reads : OnlyReads here mid)
    (stands : (tight : Bool) (body : Body) (rows : Rows) (pool : Pool) → mid.honest → ReadsAs tight body rows pool here.seen → Rests tight mid kept.body rows pool)
    (opened : (tight : Bool) (rows : Rows) (pool : Pool) → Rests tight mid kept.body rows pool → kept.dir ≡ kept_rows rows → IsAtRest tight mid kept pool) (later : here.faults ≤ mid.faults)
    (step : (tight : Bool) (pool : Pool) → here'.honest → IsAtRest tight mid kept pool → Leaves mid here' (BeforeOrAfter tight pool (stepped [] now command pool)))
    (looks : commits command ≡ false → OnlyReads mid here')
    (only : (c : List ℕ) → here.left_since here.moment c → here.images c) (now_left : (t : ℕ) (c : List ℕ) → t ≤ here'.moment → here'.images c → here'.left_since t c) where
  rests : (tight : Bool) (body : Body) (rows : Rows) (pool : Pool) → here'.honest → ReadsAs tight body rows pool here.seen → IsAtRest tight mid kept pool
  rests tight body rows pool told is = let gives = there tight body rows pool (falls told) is in opened tight rows pool (stands tight body rows pool (falls told) is) gives.1

  moments : (tight : Bool) (pool : Pool) → here'.honest → Reads tight pool here.seen → Leaves here here' (OldOrReads tight here pool (stepped [] now command pool))
  moments tight pool told is =
      moments_then here mid here' pool (stepped [] now command pool) reads (step tight pool told (rests tight is.0 is.1 pool told is.2))
      (reads_whole laws now command here pool (laws.2 tight is.0 is.1 pool here.seen is.2))

  images : (tight : Bool) (pool : Pool) → here'.honest → Reads tight pool here.seen → (c : List ℕ) → here'.images c → OldOrReads tight here pool (stepped [] now command pool) c
  images tight pool told is = images_after here here' (OldOrReads tight here pool (stepped [] now command pool)) (moments tight pool told is) (λ c image. inl image) only now_left

  done : (tight : Bool) (body : Body) (rows : Rows) (pool : Pool) (lines : List (List ℕ)) → GivesPool body rows (Ok kept) → KeepsAll pool
      → (command ≢ commands.Reclaim → Grows (most_sectors (cost_of command).cells ((cost_of command).block pool) ((cost_of command).list pool) kept.dir (length kept.body.free)) ((cost_of command).block pool) kept.body kept'.body)
      → (command ≡ commands.Reclaim → Reclaimed mid.seen [] kept kept') → StepAnswer tight here' kept' pool (stepped [] now command pool) (Ok lines)
      → Answers tight command body rows pool here here' (stepped [] now command pool) (Ok lines)
  done tight body rows pool lines same all grows reclaimed is = for_kept (λ u. Answers tight command u rows pool here here' (stepped [] now command pool) (Ok lines)) kept body rows same (record {
    done = is.0;
    accepts = is.1;
    reply = is.2;
    next = kept'.body;
    directory = is.3.rows;
    rests = subst (λ (p : Pool). Rests tight here' kept'.body is.3.rows p) (kept_done laws now command pool is.0 all is.1) is.3.rests;
    reclaims = λ one. reclaimed_kept here mid kept kept' rows is.3.rows same.1 is.3.lasting reads (reclaimed one);
    grows = λ other. with_rows (λ r. Grows (most_sectors (cost_of command).cells ((cost_of command).block pool) ((cost_of command).list pool) r (length kept.body.free)) ((cost_of command).block pool) kept.body kept'.body) kept rows same.1 (grows other);
  })

  pub stepping_done : (lines : List (List ℕ)) → mid.faults ≤ here'.faults
      → Plans {T = List (List ℕ)} (λ pool. stepped [] now command pool) (numbers_end command) (indices_end command) (makes_list command) kept (Ok lines)
      → (command ≢ commands.Reclaim → (pool : Pool) → here'.honest → IsAtRest false mid kept pool → Grows (most_sectors (cost_of command).cells ((cost_of command).block pool) ((cost_of command).list pool) kept.dir (length kept.body.free)) ((cost_of command).block pool) kept.body kept'.body)
      → (command ≡ commands.Reclaim → here'.honest → Reclaimed mid.seen [] kept kept')
      → ((tight : Bool) (pool : Pool) → here'.honest → IsAtRest tight mid kept pool → StepAnswer tight here' kept' pool (stepped [] now command pool) (Ok lines))
      → Stepping now command here here' (Ok lines)
  stepping_done lines after plan grows reclaimed did = record {
    moments = moments;
    images = images;
    answers = λ tight body rows pool told is.
        let before = rests tight body rows pool told is in
        done tight body rows pool lines (there tight body rows pool (falls told) is) (laws.2 tight body rows pool here.seen is) (λ other. grows other pool told (rest_plain mid kept pool before)) (λ one. reclaimed one told)
        (did tight pool told before);
    opened = λ told. let was = answer (falls told) in (kept.body, was.1, ran_done now command here here' kept was.1 lines was.4 (was.0, was.2, was.3) plan);
    refused = tt;
    idle = λ not. OnlyReads-then here mid here' reads (looks not);
    later = omega (arith, later, after);
  }

  left_as : (tight : Bool) (fault : PoolFault) (pool : Pool) → kept' ≡ kept → StepAnswer tight here' kept' pool (stepped [] now command pool) (Err fault)
      → StepFault (IsAtRest tight here' kept pool) (stepped [] now command pool) fault
  left_as tight fault pool same is = subst (λ (k : PoolState). StepFault (IsAtRest tight here' k pool) (stepped [] now command pool) fault) same is

  -- the pool rests by the rows that it had: no sector was written, but for those that were free, or of a reclaim those that nothing reached
  still_rests : (tight : Bool) (body : Body) (rows : Rows) (pool : Pool) → here'.honest → ReadsAs tight body rows pool here.seen → kept.dir ≡ kept_rows rows
      → (command ≢ commands.Reclaim → SparesTaken (free_by kept.body) mid.seen here'.seen) → (command ≡ commands.Reclaim → (space : FreeSectors) → AreUnreached mid.seen kept [] space → SparesTaken space mid.seen here'.seen)
      → IsAtRest tight here' kept pool → Rests tight here' kept.body rows pool
  still_rests tight body rows pool told is same spares unreached at_rest =
      let before = stands tight body rows pool (falls told) is in
      let ends = subst (λ (p : Pool). Rests tight here' kept.body at_rest.rows p) (laws.0 pool (laws.2 tight body rows pool here.seen is)) at_rest.rests in
      let rows_are = ⊎_elim
      (λ one_is. rows_stay one tight kept rows at_rest.rows pool mid.seen here'.seen (sym at_rest.lasting ∙ ap kept_rows same ∙ kept_twice rows) (unreached one_is) before.reads ends.reads)
      (λ other. one tight kept.body kept.body at_rest.rows rows pool pool here'.seen ends.reads (stay tight kept.body rows pool mid.seen here'.seen (spares other) before.reads))
      (reclaim_or_not command) in
      subst (λ (r : Rows). Rests tight here' kept.body r pool) rows_are ends

  pub stepping_refused : (fault : PoolFault) → kept' ≡ kept → HasDiskCause {T = List (List ℕ)} mid.faults here'.faults (Err fault) → fault ≢ faults.Failed
      → (command ≢ commands.Reclaim → fault ≢ faults.DiskFault → SparesTaken (free_by kept.body) mid.seen here'.seen)
      → (command ≢ commands.Reclaim → (left : FreeSectors) × (block : ℕ) × (block ≤ (cost_of command).most) × FindsNoRoom (cost_of command).cells block (cost_of command).most_list kept left fault)
      → (command ≡ commands.Reclaim → here'.honest → (left : FreeSectors) × Reclaims {T = List (List ℕ)} [] mid here' kept kept' left (Err fault))
      → (here'.honest → IsOf (TellsDamage command [] kept.body kept.dir mid) fault)
      → (fault ≢ faults.OutOfMemory → Plans {T = List (List ℕ)} (λ pool. stepped [] now command pool) (numbers_end command) (indices_end command) (makes_list command) kept (Err fault))
      → (command ≢ commands.Reclaim → (pool : Pool) → here'.honest → IsAtRest false mid kept pool
      → (left : FreeSectors) × FindsNoRoom (cost_of command).cells ((cost_of command).block pool) ((cost_of command).list pool) kept left fault)
      → (command ≢ commands.Reclaim → (pool : Pool) → here'.honest → IsAtRest false mid kept pool
      → FindsLess (cost_of command).cells ((cost_of command).block pool) ((cost_of command).list pool) kept.body (stepped [] now command pool) fault)
      → ((tight : Bool) (pool : Pool) → here'.honest → IsAtRest tight mid kept pool → StepAnswer tight here' kept' pool (stepped [] now command pool) (Err fault))
      → Stepping now command here here' (Err (pool_refusal fault))
  stepping_refused fault same cause alive spares bounded reclaims damaged plan room less did = record {
    moments = moments;
    images = images;
    answers = λ tight body rows pool told is.
        let before = rests tight body rows pool told is in
        let gives = there tight body rows pool (falls told) is in
        for_kept (λ u. Answers tight command u rows pool here here' (stepped [] now command pool) (Err (pool_refusal fault))) kept body rows gives
        (answers_refused command here here' kept rows pool (stepped [] now command pool) fault gives.1
        (λ other. room other pool told (rest_plain mid kept pool before)) (λ other. less other pool told (rest_plain mid kept pool before))
        (λ not at_rest. still_rests tight body rows pool told is gives.1 (λ other. spares other not) (λ one_is. (reclaims one_is told).1.spares (λ e. not (cc e))) at_rest) (left_as tight fault pool same (did tight pool told before)));
    opened = λ told. let was = answer (falls told) in opened_then now command here here' kept was.1 fault alive
        (λ not. ran_refused now command here mid here' kept was.1 fault was.4 (was.0, was.2, was.3) reads
        (λ other. subst (λ (bytes : List ℕ). SparesTaken (free_by kept.body) bytes here'.seen) reads.seen (spares other not)) bounded
        (λ one_is. let found = reclaims one_is told in reclaim_refused here mid here' kept kept' was.1 found.0 fault was.4 reads not found.1) (damaged told) plan);
    refused = refused_step here mid here' fault later cause alive;
    idle = λ not. OnlyReads-then here mid here' reads (looks not);
    later = omega (arith, later, cause.later);
  }

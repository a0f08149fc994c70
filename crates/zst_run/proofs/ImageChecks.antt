-- What the line `check` tells, from what opening the pool and checking it say.
use Rattle.std.proofs.Common.{◌≡◌, inl, inr, ℕ, ◌≤◌, Bool, false, List, Result, Ok, Err, refl, ap, subst, arith}
use Rattle.std.specs.Prelude.{IfErr}
use Rattle.std.specs.Result.{result_map_both}
use Rattle.zst_outside.specs.Causes.{Rose-earlier}
use Rattle.zst_outside.specs.Images.{DiskState, OnlyReads, OnlyReads-then}
use Rattle.zst_check.specs.Checks.{IsSoundOn, TellsReport}
use Rattle.zst_check.specs.Damage.{IsDamagedPool}
use Rattle.zst_check.specs.ReportNames.{AreNamesIn}
use Rattle.zst_check.specs.declared.report.Report.{Report}
use Rattle.zst_check.specs.declared.report.Report.TheVariants.{Sound, Unsound}
use Rattle.zst_dir.specs.Rows.{Rows}
use Rattle.zst_uber.specs.DiskCalls as disk_calls
use Rattle.zst_image.specs.Bodies.{Body}
use Rattle.zst_image.specs.Faults.{open_refusal}
use Rattle.zst_image.specs.OpenAnswers.{GivesPool, OpenAnswers, ReadFault}
use Rattle.zst_image.specs.Reads.{ReadsAs, Rests, kept_rows}
use Rattle.zst_image.specs.declared.open_fault.OpenFault.{OpenFault}
use Rattle.zst_image.specs.declared.open_fault.OpenFault.TheVariants as opens
use Rattle.zst_image.specs.declared.pool_state.PoolState.{PoolState}
use Rattle.zst_model.specs.declared.refusals.refusal.Refusal.{Refusal}
use Rattle.zst_model.specs.pools.Pool.{Pool}
use Rattle.zst_pool.specs.Calls.{IsAtRest}
use Rattle.zst_pool.specs.Damage.{IsOf}
use Rattle.zst_pool.specs.Faults.{HasDiskCause, pool_refusal}
use Rattle.zst_pool.specs.declared.fault.PoolFault.{PoolFault}
use Rattle.zst_pool.specs.declared.fault.PoolFault.TheVariants as faults
use Rattle.zst_run.specs.Checks.{AnswersReport, CheckRan, OfCheck, TellsReportOn}
use Rattle.zst_run.specs.Commands.{IsPoolRefusal, Opens}
use Rattle.zst_run.proofs.CommandLemmas.{damaged_only, disk_fault, failed_before, full_only, open_alive, open_disk, told_before}
use Rattle.zst_run.proofs.ImageSends.{idle_says, is_of_opening, open_never_full, pool_is_open, ran_says}

-- ---- where the pool can't be opened

-- where the image reads as a pool, the disk failed or no memory was left
unopened_answers : (here : DiskState) (body : Body) (rows : Rows) (pool : Pool) (fault : OpenFault) → ReadFault fault → AnswersReport here body rows pool (Err (open_refusal fault))
unopened_answers here body rows pool opens.DiskFault is = tt
unopened_answers here body rows pool opens.OutOfMemory is = tt
unopened_answers here body rows pool (opens.Damaged sector stated found) is = absurd is
unopened_answers here body rows pool opens.NoPool is = absurd is
unopened_answers here body rows pool (opens.BadVersion version) is = absurd is

pub unopened : (here here' : DiskState) (fault : OpenFault)
    → ((tight : Bool) (body : Body) (rows : Rows) (pool : Pool) → here'.honest → ReadsAs tight body rows pool here.seen → GivesPool body rows (Err fault))
    → (here'.honest → OpenAnswers here (Err fault)) → OnlyReads here here' → disk_calls.HasDiskCause {T = PoolState} opens.DiskFault here.faults here'.faults (Err fault)
    → TellsReportOn here here' (Err (open_refusal fault))
unopened here here' fault there answer reads cause = record {
  reads = reads;
  answers = λ body rows pool told is. unopened_answers here body rows pool fault (there false body rows pool told is);
  opened = λ told. idle_says Report (OnlyReads here here') here (CheckRan here (Err (open_refusal fault))) fault reads (answer told);
  refused = record { one = (inl (fault, refl), open_never_full fault); alive = open_alive fault; cause = λ is. cause.fault (ap (λ (f : OpenFault). Err f) (open_disk fault is)) };
  later = cause.later;
}

-- ---- where it is opened

-- what a check tells, its fault as a refusal
abbrev pub as_answer : Result Report PoolFault → Result Report Refusal
as_answer told = result_map_both (λ report. report) pool_refusal told

-- where the image reads as a pool it is a report of it, or the disk failed or no memory was left
checked_answers : (here : DiskState) (body : Body) (rows : Rows) (pool : Pool) (told : Result Report PoolFault) → TellsReport here.seen body.uber (kept_rows rows) pool told
    → AnswersReport here body rows pool (as_answer told)
checked_answers here body rows pool (Ok report) is = is
checked_answers here body rows pool (Err (faults.Plan fault)) is = absurd is
checked_answers here body rows pool (Err (faults.CannotApply fault)) is = absurd is
checked_answers here body rows pool (Err (faults.Redacted object block)) is = absurd is
checked_answers here body rows pool (Err (faults.Full need largest)) is = absurd is
checked_answers here body rows pool (Err (faults.Damaged sector stated found)) is = absurd is
checked_answers here body rows pool (Err faults.DiskFault) is = tt
checked_answers here body rows pool (Err faults.Failed) is = absurd is
checked_answers here body rows pool (Err faults.OutOfMemory) is = tt

-- no refusal of it is one that only opening gives
checked_open : (told : Result Report PoolFault) → IfErr (as_answer told) (λ refusal. is_of_opening refusal ≡ false)
checked_open (Ok report) = tt
checked_open (Err fault) = pool_is_open fault

-- and none wants room, or is of a disk that had failed
checked_refused : (here mid here' : DiskState) (told : Result Report PoolFault) → here.faults ≤ mid.faults → HasDiskCause mid.faults here'.faults told → ¬ (told ≡ Err faults.Failed)
    → ((need largest : ℕ) → ¬ (told ≡ Err (faults.Full need largest))) → IfErr (as_answer told) (IsPoolRefusal OfCheck here here')
checked_refused here mid here' (Ok report) later cause alive never = tt
checked_refused here mid here' (Err fault) later cause alive never = record {
  one = (inr (fault, refl), λ need largest is. never need largest (ap (λ (f : PoolFault). Err f) (full_only fault need largest is)));
  alive = λ is. alive (ap (λ (f : PoolFault). Err f) (failed_before fault is));
  cause = λ is. Rose-earlier here.faults mid.faults here'.faults later (cause.fault (ap (λ (f : PoolFault). Err f) (disk_fault fault is)));
}

-- what is told of the pool that is kept so, whatever the image is
pub record SaysOfAny (mid here' : DiskState) (kept : PoolState) (told : Result Report PoolFault) : Type 0 where
  pub sound : (blocks : ℕ) → here'.honest → told ≡ Ok (Sound blocks) → IsSoundOn mid.seen kept.body.uber kept.dir blocks
  pub named : (earlier later : List ℕ) (object block : ℕ) → told ≡ Ok (Unsound earlier later object block) → AreNamesIn kept.dir earlier later
  pub damaged : here'.honest → IfErr told (IsOf (IsDamagedPool mid.seen mid.size kept.body.uber kept.dir))

-- it is so of the body and the rows by which the pool was opened
ran : (here mid here' : DiskState) (kept : PoolState) (rows : Rows) (told : Result Report PoolFault) → kept.dir ≡ kept_rows rows → Opens here kept.body rows → OnlyReads here mid → here'.honest
    → SaysOfAny mid here' kept told → CheckRan here (as_answer told) kept.body rows
ran here mid here' kept rows (Ok report) same opens reads honest says = record {
  opens = opens;
  sound = λ blocks is.
      let which : report ≡ Sound blocks = cc is in
      told_before here mid (λ seen size. IsSoundOn seen kept.body.uber (kept_rows rows) blocks) reads
      (subst (λ (r : Rows). IsSoundOn mid.seen kept.body.uber r blocks) same (says.sound blocks honest (ap (λ (r : Report). Ok r) which)));
  named = λ earlier later object block is.
      let which : report ≡ Unsound earlier later object block = cc is in
      subst (λ (r : Rows). AreNamesIn r earlier later) same (says.named earlier later object block (ap (λ (r : Report). Ok r) which));
  damaged = λ sector stated found is. absurd (cc is);
}
ran here mid here' kept rows (Err fault) same opens reads honest says = record {
  opens = opens;
  sound = λ blocks is. absurd (cc is);
  named = λ earlier later object block is. absurd (cc is);
  damaged = λ sector stated found is.
      told_before here mid (λ seen size. IsDamagedPool seen size kept.body.uber (kept_rows rows) sector stated found) reads
      (subst (λ (r : Rows). IsDamagedPool mid.seen mid.size kept.body.uber r sector stated found) same
      (says.damaged honest sector stated found (damaged_only fault sector stated found (cc is))));
}

-- the pool was checked that was opened
pub opened : (here mid here' : DiskState) (kept : PoolState) (told : Result Report PoolFault)
    → ((tight : Bool) (body : Body) (rows : Rows) (pool : Pool) → mid.honest → ReadsAs tight body rows pool here.seen → GivesPool body rows (Ok kept))
    → (here'.honest → mid.honest) → (mid.honest → OpenAnswers here (Ok kept)) → OnlyReads here mid → OnlyReads mid here'
    → ((tight : Bool) (body : Body) (rows : Rows) (pool : Pool) → mid.honest → ReadsAs tight body rows pool here.seen → Rests tight mid kept.body rows pool)
    → ((tight : Bool) (rows : Rows) (pool : Pool) → Rests tight mid kept.body rows pool → kept.dir ≡ kept_rows rows → IsAtRest tight mid kept pool)
    → here.faults ≤ mid.faults → HasDiskCause mid.faults here'.faults told → ¬ (told ≡ Err faults.Failed) → ((need largest : ℕ) → ¬ (told ≡ Err (faults.Full need largest)))
    → ((tight : Bool) (pool : Pool) → here'.honest → IsAtRest tight mid kept pool → TellsReport mid.seen kept.body.uber kept.dir pool told)
    → SaysOfAny mid here' kept told → TellsReportOn here here' (as_answer told)
opened here mid here' kept told there falls answer reads looks stands at_rest later cause alive never tells says = record {
  reads = OnlyReads-then here mid here' reads looks;
  answers = λ body rows pool honest is.
      let gives = there false body rows pool (falls honest) is in
      let was = tells false pool honest (at_rest false rows pool (stands false body rows pool (falls honest) is) gives.1) in
      checked_answers here body rows pool told
      (subst (λ (r : Rows). TellsReport here.seen body.uber r pool told) gives.1
      (subst (λ (b : Body). TellsReport here.seen b.uber kept.dir pool told) gives.0
      (subst (λ (seen : List ℕ). TellsReport seen kept.body.uber kept.dir pool told) reads.seen was)));
  opened = λ honest.
      let was = answer (falls honest) in
      ran_says (OnlyReads here here') here (CheckRan here (as_answer told)) (as_answer told) (kept.body, was.1, ran here mid here' kept was.1 told was.4 (was.0, was.2, was.3) reads honest says) (checked_open told);
  refused = checked_refused here mid here' told later cause alive never;
  later = let after = cause.later in omega (arith, later, after);
}

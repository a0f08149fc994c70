-- What a check of a pool makes of a world, and of what the engine keeps: its disk is only read, and what is told is a report of it.
use Rattle.std.proofs.Common.{◌≡◌, ◌||◌, inl, inr, ℕ, Bool, true, false, List, Result, Ok, Err, refl, sym, ap, ◌∙◌, subst}
use Rattle.std.specs.Prelude.{IfErr}
use Rattle.zst_outside.specs.Images.{Leaves, Leaves-none}
use Rattle.zst_outside.specs.declared.disk.Disk.{Ghosts}
use Rattle.zst_block.specs.IoCalls.{fails}
use Rattle.zst_block.specs.IoStates.{disk_of}
use Rattle.zst_check.specs.Checks.{IsReportBy, IsSoundOn, TellsReport}
use Rattle.zst_check.specs.Damage.{IsDamagedPool}
use Rattle.zst_check.specs.ReportNames.{AreNamesIn}
use Rattle.zst_check.specs.Reports.{IsReportOf}
use Rattle.zst_check.specs.declared.report.Report.{Report}
use Rattle.zst_check.specs.declared.report.Report.TheVariants.{Sound, Unsound}
use Rattle.zst_dir.specs.Rows.{Rows}
use Rattle.zst_uber.specs.declared.uber.Uber.{Uber}
use Rattle.zst_model.specs.declared.refusals.refusal.Refusal.TheVariants as refusals
use Rattle.zst_model.specs.pools.Pool.{Pool as Plain}
use Rattle.zst_pool.specs.Calls.{IsAtRest}
use Rattle.zst_pool.specs.Damage.{IsOf}
use Rattle.zst_pool.specs.Events.{OnlyAnswers, Settles}
use Rattle.zst_pool.specs.Faults.{is_disk_fault, pool_refusal}
use Rattle.zst_pool.specs.Queries.{stop_of}
use Rattle.zst_pool.specs.declared.fault.PoolFault.{PoolFault}
use Rattle.zst_pool.specs.declared.fault.PoolFault.TheVariants as faults
use Rattle.zst_pool.specs.declared.pool.Pool.{Pool}
use Rattle.zst_script.specs.declared.event.Event.TheVariants as events
use Rattle.zst_script.specs.declared.event.Side.{Side}
use Rattle.zst_sessions.proofs.LookedPools.{Looked, LookedAt, StepsTo, fits_still, honest_on, mark_on, open_on, rest_on, same_lists}
use Rattle.zst_sessions.proofs.OpenedSends.{both_stay}
use Rattle.zst_sessions.proofs.PoolRefusals.{fault_of_damage, fault_of_disk, fault_of_failed, fault_of_full}
use Rattle.zst_sessions.proofs.ReadEvents.{loses, stays}
use Rattle.zst_sessions.proofs.SparedBlocks.{read_spares}
use Rattle.zst_sessions.specs.CheckReports.{TellsCheck}
use Rattle.zst_sessions.specs.CommandSteps.{report_told}
use Rattle.zst_sessions.specs.EngineSteps.{EngineFits, StandsFor, StepsEngine, kept_pool}
use Rattle.zst_sessions.specs.Engines.{Kept}
use Rattle.zst_sessions.specs.EventReplies.{answer_of}
use Rattle.zst_sessions.specs.Lawfulness.{MovesKeepWorlds}
use Rattle.zst_sessions.specs.Moves.{Answer, moved}
use Rattle.zst_sessions.specs.Openings.{kept_on}
use Rattle.zst_sessions.specs.Replay.{AsDefined, FindsNoMemory, LosesDisk, Moves}
use Rattle.zst_sessions.specs.World.{World, at_side}
use Rattle.zst_sessions.specs.declared.engine.Engine.{Engine}
use Rattle.zst_sessions.specs.declared.event_reply.EventReply.TheVariants.{Checked}

-- ---- reports

-- the count of blocks that is told
abbrev count_of : Report → ℕ
count_of (Sound blocks) = blocks
count_of (Unsound earlier later object block) = 0

-- a report by an image is one of the pool with the count that it tells
report_of : (image : List ℕ) (uber : Uber) (rows : Rows) (pool : Plain) (report : Report) → IsReportBy image uber rows pool report → IsReportOf pool (count_of report) report
report_of image uber rows pool (Sound blocks) is = (refl, is.1, is.2)
report_of image uber rows pool (Unsound earlier later object block) is = is

-- what is told of a pool that is kept so, whatever its image is
pub record SaysOfAny (kept : Kept) (honest : Type 0) (answer : Result Report PoolFault) : Type 0 where
  pub sound : (blocks : ℕ) → honest → answer ≡ Ok (Sound blocks) → IsSoundOn kept.disk.seen kept.state.body.uber kept.state.dir blocks
  pub named : (earlier later : List ℕ) (object block : ℕ) → answer ≡ Ok (Unsound earlier later object block) → AreNamesIn kept.state.dir earlier later
  pub damaged : honest → IfErr answer (IsOf (IsDamagedPool kept.disk.seen kept.disk.size kept.state.body.uber kept.state.dir))

-- ---- answers

-- a check's answer is E24, E28 or E31 only as that of the pool
lost_as : (told : Result Report PoolFault) → report_told told ≡ Err refusals.DiskFault → told ≡ Err faults.DiskFault
lost_as (Ok report) is = absurd (cc is)
lost_as (Err fault) is = let same : pool_refusal fault ≡ refusals.DiskFault = cc is in ap (λ (f : PoolFault). Err f) (fault_of_disk fault same)

failed_as : (told : Result Report PoolFault) → report_told told ≡ Err refusals.Failed → told ≡ Err faults.Failed
failed_as (Ok report) is = absurd (cc is)
failed_as (Err fault) is = let same : pool_refusal fault ≡ refusals.Failed = cc is in ap (λ (f : PoolFault). Err f) (fault_of_failed fault same)

full_as : (told : Result Report PoolFault) (need largest : ℕ) → report_told told ≡ Err (refusals.Full need largest) → told ≡ Err (faults.Full need largest)
full_as (Ok report) need largest is = absurd (cc is)
full_as (Err fault) need largest is = let same : pool_refusal fault ≡ refusals.Full need largest = cc is in ap (λ (f : PoolFault). Err f) (fault_of_full fault need largest same)

-- whether the disk failed in a check, in both words
fails_as : (told : Result Report PoolFault) → is_disk_fault told ≡ fails (stop_of told)
fails_as (Ok report) = refl
fails_as (Err (faults.Plan fault)) = refl
fails_as (Err (faults.CannotApply fault)) = refl
fails_as (Err (faults.Redacted object block)) = refl
fails_as (Err (faults.Full need largest)) = refl
fails_as (Err (faults.Damaged sector stated found)) = refl
fails_as (Err faults.DiskFault) = refl
fails_as (Err faults.Failed) = refl
fails_as (Err faults.OutOfMemory) = refl

-- ---- the pool

module _ {D : Type 0} {g : Ghosts D} (old new : Pool D g) (told : Result Report PoolFault) (answers : OnlyAnswers old new) (settles : Settles old new told)
    (open_still : old.io.failed ≡ false → ¬ (told ≡ Err faults.Failed)) (never_full : (need largest : ℕ) → ¬ (told ≡ Err (faults.Full need largest))) where
  mark_is : new.io.failed ≡ (old.io.failed || fails (stop_of told))
  mark_is = settles.failed ∙ ap (λ (b : Bool). old.io.failed || b) (fails_as told)

  -- a check only looks at its pool
  pub check_looks : LookedAt old new told
  check_looks = record {
    read = record {
      reads = answers.reads;
      idle = λ fell. subst (λ (now : D). Leaves (disk_of old.io) (g.state now) (λ c. ⊥)) (sym (settles.idle_disk fell)) (Leaves-none (disk_of old.io) (λ c. ⊥));
      tells = refl;
      state = answers.kept;
      mark = λ works. first old.io.failed (fails (stop_of told)) (sym mark_is ∙ works);
    };
    later = record { faults = settles.cause.later; honest = settles.honest; same = settles.same };
    own = mark_is;
    had_failed = settles.failed_pool;
    open_still = open_still;
    cause = settles.cause.fault;
    never_full = never_full;
  }
    where
      first : (a b : Bool) → (a || b) ≡ false → a ≡ false
      first true b is = is
      first false b is = refl

-- ---- the event

-- in a check the world stays
check_stays : (now : ℕ) (side : Side) (world : World) → world ≡ (moved now (events.Check side) world).world
unfolding moved
check_stays now side world = refl

module _ {D E : Type 0} {g : Ghosts D} {h : Ghosts E} (side : Side) (old new : Engine D E g h) (told : Result Report PoolFault) (look : Looked side old new told) (keep : MovesKeepWorlds) where
  abbrev kept : Kept
  kept = kept_on side old

  -- what is told of a pool that was at rest
  abbrev Tells : Plain → Result Report PoolFault → Type 0
  Tells running answer = TellsReport kept.disk.seen kept.state.body.uber kept.state.dir running answer

  module _ (world : World) (stands : StandsFor old world) where
    -- nothing changes where no disk fails
    check_leaves : (answer : Answer) → (kept_on side new).failed ≡ kept.failed → Moves old.now world (events.Check side) answer world → StepsTo (events.Check side) old new world old.sends.items old.receives.items answer
    check_leaves answer mark moves =
        let both = both_stay side (kept_pool old.here) (kept_pool old.there) (kept_pool new.here) (kept_pool new.there) mark look.other in
        stays old.now (events.Check side) world (kept_pool old.here) (kept_pool old.there) (kept_pool new.here) (kept_pool new.there) look.here look.there old.sends.items old.receives.items stands keep answer moves both.0 both.1

    -- of a pool that was at rest a report is told, unless no memory is left or its disk fails
    by_report : (answer : Result Report PoolFault) → kept.failed ≡ false → (kept_on side new).failed ≡ fails (stop_of answer) → Tells (at_side side world).pool answer
        → StepsTo (events.Check side) old new world old.sends.items old.receives.items (answer_of (report_told answer))
    by_report (Ok report) works mark is =
        check_leaves (answer_of (Ok (Checked report))) (mark ∙ sym works)
        (AsDefined (inr (sym (mark_on side old world stands) ∙ works, (count_of report, report, report_of kept.disk.seen kept.state.body.uber kept.state.dir (at_side side world).pool report is, refl)))
        (check_stays old.now side world))
    by_report (Err (faults.Plan fault)) works mark is = absurd is
    by_report (Err (faults.CannotApply fault)) works mark is = absurd is
    by_report (Err (faults.Redacted object block)) works mark is = absurd is
    by_report (Err (faults.Full need largest)) works mark is = absurd is
    by_report (Err (faults.Damaged sector stated found)) works mark is = absurd is
    by_report (Err faults.DiskFault) works mark is =
        loses old.now (events.Check side) world (kept_pool old.here) (kept_pool old.there) (kept_pool new.here) (kept_pool new.there) look.here look.there old.sends.items old.receives.items stands keep side
        (LosesDisk refl (record { pool = (at_side side world).pool; one_of = inl refl; world_is = refl })) mark look.other
    by_report (Err faults.Failed) works mark is = absurd is
    by_report (Err faults.OutOfMemory) works mark is = check_leaves (Err refusals.OutOfMemory) (mark ∙ sym works) (FindsNoMemory refl refl)

    -- one whose disk had failed answers E31
    check_world : (failed : Bool) → kept.failed ≡ failed → (kept.failed ≡ false → Tells (at_side side world).pool told)
        → StepsTo (events.Check side) old new world old.sends.items old.receives.items (answer_of (report_told told))
    check_world true fell tells =
        let had = look.had_failed fell in
        subst (λ (t : Result Report PoolFault). StepsTo (events.Check side) old new world old.sends.items old.receives.items (answer_of (report_told t))) (sym had)
        (check_leaves (Err refusals.Failed) (look.own ∙ ap (λ (b : Bool). b || fails (stop_of told)) fell ∙ sym fell)
        (AsDefined (inl (sym (mark_on side old world stands) ∙ fell, refl)) (check_stays old.now side world)))
    check_world false works tells = by_report told works (look.own ∙ ap (λ (b : Bool). b || fails (stop_of told)) works) (tells works)

  -- what is told is the event's, whatever the image is
  told_check : (running : Plain) (answer : Result Report PoolFault) → (kept_on side new).disk.honest → (kept.failed ≡ false → IsAtRest true kept.disk kept.state running → Tells running answer)
      → SaysOfAny kept (kept_on side new).disk.honest answer → TellsCheck kept running (report_told answer)
  told_check running (Ok report) honest tells says = record {
    told = λ works rest. (report, refl, tells works rest);
    sound = λ blocks is. let which : report ≡ Sound blocks = cc is in says.sound blocks honest (ap (λ (r : Report). Ok r) which);
    named = λ earlier later object block is. let which : report ≡ Unsound earlier later object block = cc is in says.named earlier later object block (ap (λ (r : Report). Ok r) which);
    damaged = λ sector stated found is. absurd (cc is);
  }
  told_check running (Err fault) honest tells says = record {
    told = λ works rest. tt;
    sound = λ blocks is. absurd (cc is);
    named = λ earlier later object block is. absurd (cc is);
    damaged = λ sector stated found is.
        let same : pool_refusal fault ≡ refusals.Damaged sector stated found = cc is in
        says.damaged honest sector stated found (fault_of_damage fault sector stated found same);
  }

  -- What a check of the pool on a side makes of a world, and of what the engine keeps.
  pub check_steps : EngineFits old
      → ((running : Plain) → (kept_on side new).disk.honest → kept.failed ≡ false → IsAtRest true kept.disk kept.state running → Tells running told)
      → SaysOfAny kept (kept_on side new).disk.honest told → StepsEngine (events.Check side) old new (report_told told)
  check_steps fits tells says = record {
    steps = λ world honest also here there stands.
        same_lists (events.Check side) old new world (answer_of (report_told told)) old.sends.items new.sends.items old.receives.items new.receives.items look.sends look.receives
        (check_world world stands kept.failed refl (λ works. tells (at_side side world).pool (honest_on side new honest also) works (rest_on side old world stands works)));
    fits = fits_still side old new told look fits;
    later = look.later;
    cause = λ is. look.cause (lost_as told is);
    open_still = λ works also is. look.open_still (open_on side old works also) (failed_as told is);
    checks = λ of running is.
        let same : side ≡ of = cc is in
        subst (λ (s : Side). (kept_on s new).disk.honest → TellsCheck (kept_on s old) running (report_told told)) same (λ honest. told_check running told honest (tells running honest) says);
    works = λ alive. look.works (λ is. alive (ap report_told is));
    here_spares = λ no_reclaim. read_spares (kept_pool old.here) (kept_pool new.here) look.here;
    there_spares = λ no_reclaim. read_spares (kept_pool old.there) (kept_pool new.there) look.there;
    full = λ need largest is. look.never_full need largest (full_as told need largest is);
  }

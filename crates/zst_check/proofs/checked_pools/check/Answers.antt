use Rattle.std.proofs.Common.{◌≡◌, inl, inr, ℕ, List, sym, ap, ◌∙◌, subst}
use Rattle.std.specs.Prelude.{Option, Some, None, Result, Err, IfErr}
use Rattle.zst_block.specs.Blocks.{FitsDisk, Has, IsBlock}
use Rattle.zst_block.specs.IoStates.{disk_of}
use Rattle.zst_block.proofs.IoCallLemmas.{Looks-then}
use Rattle.zst_count.specs.CountedRows.{AreAllRead, IsDamagedReached}
use Rattle.zst_count.specs.FirstSectors.{CountsBlocks}
use Rattle.zst_extents.specs.StoredExtents.{HasExtents}
use Rattle.zst_image.specs.Reads.{HasDir, RunsBy}
use Rattle.zst_laws.specs.RedactionLists.{AreListed}
use Rattle.zst_model.specs.pools.Soundness as soundness
use Rattle.zst_model.proofs.Results.{err_is}
use Rattle.zst_objset.specs.Damage.{IfDamage}
use Rattle.zst_objset.proofs.LeafLaws.{look_on}
use Rattle.zst_pool.proofs.PoolsAtRest.{free_by_fits}
use Rattle.zst_pool.specs.Damage.{IsOf}
use Rattle.zst_pool.specs.Faults.{of_block, or_memory}
use Rattle.zst_pool.specs.declared.fault.PoolFault.{PoolFault}
use Rattle.zst_space.specs.FreeSectors.{FreeSectors}
use Rattle.zst_tree.specs.Damage.{IsSeen}
use Rattle.zst_tree.specs.Faults.{IfFault, fault_of}
use Rattle.zst_tree.proofs.Damage.{seen_before}
use Rattle.zst_uber.specs.declared.uber.Uber.{Uber}
use Rattle.zst_check.specs.Checks.{IsSoundOn, TellsReport}
use Rattle.zst_check.specs.Damage.{IsDamagedInChecked, IsDamagedPool}
use Rattle.zst_check.specs.Findings.{FindsUnsound}
use Rattle.zst_check.specs.Reports.{IsUnsoundAt}
use Rattle.zst_check.specs.declared.report.Report.{Report}
use Rattle.zst_check.specs.declared.report.Report.TheVariants.{Sound, Unsound}
use Rattle.zst_check.proofs.DamagedPools.{pool_told}
use Rattle.zst_check.proofs.FoundParts.{finds_none}
use Rattle.zst_check.proofs.ReportNames.{names_found, none_sound}
use Rattle.zst_check.proofs.ToldReports.{dir_over, extents_over, found_report, number_is, refused_report, runs_over, settles_refused, settles_report}
use Rattle.zst_check.proofs.checked_pools.check.Goals as goal

-- the check begins with all that is free by the body, which fits the disk
pub invariant_of-pool : goal.invariant_of-pool
invariant_of-pool g c =
    let io = c.args.pool.now.io in
    let disk = disk_of io in
    record {
      fits = subst (FitsDisk disk.size) (sym c.in_ok-space.ensures) (free_by_fits disk c.args.pool.now.kept.body (c.requires.ready c.if-pool.false));
      told = io.told;
      behind = io.behind;
    }

-- a part was refused
pub returns-in_err-report-clause-told : goal.returns-in_err-report-clause-told
returns-in_err-report-clause-told g c = λ tight running honest standing rested.
    let disk = disk_of c.args.pool.now.io in
    let kept = c.args.pool.now.kept in
    let fell = c.from_residual-in_err-report in
    let fault = c.in_err-report.field-0.0 in
    let runs = runs_over disk kept running c.in_ok-space.space c.in_ok-space.ensures rested in
    let found = c.in_err-report.ensures.found running honest runs rested.lawful (number_is disk kept running c.uber.result.now c.uber.ensures rested) in
    subst (TellsReport disk.seen kept.body.uber kept.dir running) (sym (err_is fell.result (or_memory of_block fault) fell.ensures.1))
    (refused_report (FindsUnsound running) disk.seen kept.body.uber kept.dir running fault found c.in_err-report.ensures.looks.never_full)

-- it found where the pool isn't sound
pub returns-in-Some-clause-told : goal.returns-in-Some-clause-told
returns-in-Some-clause-told g c = λ tight running honest standing rested.
    let disk = disk_of c.args.pool.now.io in
    let kept = c.args.pool.now.kept in
    let runs = runs_over disk kept running c.in_ok-space.space c.in_ok-space.ensures rested in
    let found = c.in_ok-report.ensures.found running honest runs rested.lawful (number_is disk kept running c.uber.result.now c.uber.ensures rested) in
    found_report disk.seen kept.body.uber kept.dir running c.in_ok-report.field-0 c.in-Some.report c.in-Some.is found

-- the count was refused
pub returns-in_err-blocks-clause-told : goal.returns-in_err-blocks-clause-told
returns-in_err-blocks-clause-told g c = λ tight running honest standing rested.
    let disk = disk_of c.args.pool.now.io in
    let kept = c.args.pool.now.kept in
    let fell = c.from_residual-in_err-blocks in
    let fault = c.in_err-blocks.field-0.0 in
    let looks = c.in_ok-report.ensures.looks in
    let uber = c.uber-2.result.now in
    let runs = runs_over disk kept running c.in_ok-space.space c.in_ok-space.ensures rested in
    let now = look_on {stop = None} (λ (seen : List ℕ) (space : FreeSectors). RunsBy None (Has seen space) kept.dir running) looks runs in
    let dir = look_on {stop = None} (λ (seen : List ℕ) (space : FreeSectors). HasDir (Has seen space) uber rested.rows) looks (dir_over disk kept running c.in_ok-space.space c.in_ok-space.ensures uber c.uber-2.ensures rested) in
    let extents = look_on {stop = None} (λ (seen : List ℕ) (space : FreeSectors). HasExtents (Has seen space) uber.free_levels uber.free_root uber.free_count kept.body.free) looks
    (extents_over disk kept running c.in_ok-space.space c.in_ok-space.ensures uber c.uber-2.ensures rested) in
    let counted = c.in_err-blocks.ensures.there None running rested.rows kept.body.free honest now dir extents in
    subst (TellsReport disk.seen kept.body.uber kept.dir running) (sym (err_is fell.result (or_memory of_block fault) fell.ensures.1))
    (refused_report (λ (count : ℕ). Unit {0}) disk.seen kept.body.uber kept.dir running fault counted c.in_err-blocks.ensures.looks.never_full)

-- the pool is sound, and its blocks are counted
pub returns-clause-told : goal.returns-clause-told
returns-clause-told g c = λ tight running honest standing rested.
    let disk = disk_of c.args.pool.now.io in
    let kept = c.args.pool.now.kept in
    let looks = c.in_ok-report.ensures.looks in
    let before = c.in_ok-blocks.ensures.looks.reads.honest honest in
    let runs = runs_over disk kept running c.in_ok-space.space c.in_ok-space.ensures rested in
    let found = c.in_ok-report.ensures.found running before runs rested.lawful (number_is disk kept running c.uber.result.now c.uber.ensures rested) in
    let holds = finds_none (soundness.Sound running × AreListed running) (IsUnsoundAt running) c.in_ok-report.field-0 c.in_default.is found in
    let count = subst (λ (seen : List ℕ). CountsBlocks (IsBlock seen) c.uber-2.result.now kept.dir c.in_ok-blocks.blocks) looks.reads.seen (c.in_ok-blocks.ensures.counts honest) in
    (subst (λ (uber : Uber). CountsBlocks (IsBlock disk.seen) uber kept.dir c.in_ok-blocks.blocks) c.uber-2.ensures count, holds.0, holds.1)

-- however it ends, it only read
pub returns-in_err-report-clause-settles : goal.returns-in_err-report-clause-settles
returns-in_err-report-clause-settles g c =
    let pool = c.args.pool.now in
    let fell = c.from_residual-in_err-report in
    let fault = c.in_err-report.field-0.0 in
    settles_refused pool c.find_unsound.new.io c.if-pool.false c.in_ok-space.space c.in_ok-space.ensures (c.requires.ready c.if-pool.false) (Option Report) fault fell.result (err_is fell.result (or_memory of_block fault) fell.ensures.1)
    c.in_err-report.ensures.looks

pub returns-in-Some-clause-settles : goal.returns-in-Some-clause-settles
returns-in-Some-clause-settles g c =
    settles_report c.args.pool.now c.find_unsound.new.io c.if-pool.false c.in_ok-space.space c.in_ok-space.ensures (c.requires.ready c.if-pool.false) c.in-Some.report c.in_ok-report.ensures.looks

pub returns-in_err-blocks-clause-settles : goal.returns-in_err-blocks-clause-settles
returns-in_err-blocks-clause-settles g c =
    let pool = c.args.pool.now in
    let fell = c.from_residual-in_err-blocks in
    let fault = c.in_err-blocks.field-0.0 in
    let looks = Looks-then {stop = fault_of {T = ℕ} (Err fault)} c.in_ok-report.ensures.looks c.in_err-blocks.ensures.looks in
    settles_refused pool c.count_blocks.new.io c.if-pool.false c.in_ok-space.space c.in_ok-space.ensures (c.requires.ready c.if-pool.false) ℕ fault fell.result (err_is fell.result (or_memory of_block fault) fell.ensures.1) looks

pub returns-clause-settles : goal.returns-clause-settles
returns-clause-settles g c =
    let looks = Looks-then {stop = None} c.in_ok-report.ensures.looks c.in_ok-blocks.ensures.looks in
    settles_report c.args.pool.now c.count_blocks.new.io c.if-pool.false c.in_ok-space.space c.in_ok-space.ensures (c.requires.ready c.if-pool.false) (Sound c.in_ok-blocks.blocks) looks

-- ---- whatever the image is

-- the search told damage
pub returns-in_err-report-clause-damaged : goal.returns-in_err-report-clause-damaged
returns-in_err-report-clause-damaged g c = λ honest.
    let disk = disk_of c.args.pool.now.io in
    let kept = c.args.pool.now.kept in
    let fell = c.from_residual-in_err-report in
    let fault = c.in_err-report.field-0.0 in
    let searched = IsDamagedInChecked kept.body.uber.end disk.seen disk.size kept.dir in
    let whole = IsDamagedPool disk.seen disk.size kept.body.uber kept.dir in
    let told = subst (λ (space : FreeSectors). IfFault {T = Option Report} (Err fault) (λ f. IfDamage f (IsDamagedInChecked space.end disk.seen disk.size kept.dir))) c.in_ok-space.ensures
    (c.in_err-report.ensures.damaged honest) in
    subst (λ (r : Result Report PoolFault). IfErr r (IsOf whole)) (sym (err_is fell.result (or_memory of_block fault) fell.ensures.1))
    (pool_told (Option Report) searched whole (λ sector stated found is. inl is) fault told)

-- and the count did, of what the disk told as before
pub returns-in_err-blocks-clause-damaged : goal.returns-in_err-blocks-clause-damaged
returns-in_err-blocks-clause-damaged g c = λ honest.
    let disk = disk_of c.args.pool.now.io in
    let kept = c.args.pool.now.kept in
    let fell = c.from_residual-in_err-blocks in
    let fault = c.in_err-blocks.field-0.0 in
    let counted = IsDamagedReached (IsSeen disk.seen) disk.size kept.body.uber kept.dir in
    let whole = IsDamagedPool disk.seen disk.size kept.body.uber kept.dir in
    let early = seen_before {stop = None} c.in_ok-report.ensures.looks (λ (seen : List ℕ) (size : ℕ). IfFault {T = ℕ} (Err fault) (λ f. IfDamage f (IsDamagedReached (IsSeen seen) size c.uber-2.result.now kept.dir)))
    (c.in_err-blocks.ensures.damaged honest) in
    let told = subst (λ (uber : Uber). IfFault {T = ℕ} (Err fault) (λ f. IfDamage f (IsDamagedReached (IsSeen disk.seen) disk.size uber kept.dir))) c.uber-2.ensures early in
    subst (λ (r : Result Report PoolFault). IfErr r (IsOf whole)) (sym (err_is fell.result (or_memory of_block fault) fell.ensures.1))
    (pool_told ℕ counted whole (λ sector stated found is. inr is) fault told)

-- what was found isn't told as sound, and has names of the rows
pub returns-in-Some-clause-sound : goal.returns-in-Some-clause-sound
returns-in-Some-clause-sound g c = λ blocks honest is.
    let same : c.in-Some.report ≡ Sound blocks = cc in
    absurd (none_sound c.args.pool.now.kept.dir c.in_ok-report.field-0 blocks (c.in-Some.is ∙ ap (λ (report : Report). Some report) same) c.in_ok-report.ensures.named)

pub returns-in-Some-clause-named : goal.returns-in-Some-clause-named
returns-in-Some-clause-named g c = λ earlier later object block is.
    let same : c.in-Some.report ≡ Unsound earlier later object block = cc in
    names_found c.args.pool.now.kept.dir c.in_ok-report.field-0 earlier later object block (c.in-Some.is ∙ ap (λ (report : Report). Some report) same) c.in_ok-report.ensures.named

-- all blocks were read, and counted
pub returns-clause-sound : goal.returns-clause-sound
returns-clause-sound g c = λ blocks honest is.
    let disk = disk_of c.args.pool.now.io in
    let kept = c.args.pool.now.kept in
    let looks = c.in_ok-report.ensures.looks in
    let same : c.in_ok-blocks.blocks ≡ blocks = cc in
    let counts = subst (λ (seen : List ℕ). CountsBlocks (IsBlock seen) c.uber-2.result.now kept.dir c.in_ok-blocks.blocks) looks.reads.seen (c.in_ok-blocks.ensures.counts honest) in
    let read = subst (λ (seen : List ℕ). AreAllRead seen c.uber-2.result.now kept.dir) looks.reads.seen (c.in_ok-blocks.ensures.read honest) in
    subst (λ (n : ℕ). IsSoundOn disk.seen kept.body.uber kept.dir n) same
    (subst (λ (uber : Uber). IsSoundOn disk.seen uber kept.dir c.in_ok-blocks.blocks) c.uber-2.ensures (record { read = read; counts = counts }))

use Rattle.std.specs.Prelude.{None, Result, Ok, Err}
use Rattle.std.proofs.Common.{◌≡◌, ◌∙◌, inl, inr, Bool, false, ◌∷◌, length, refl, sym, ap, subst, arith}
use Rattle.zst_block.specs.Blocks.{Has}
use Rattle.zst_block.specs.IoStates.{io_of}
use Rattle.zst_model.specs.pools.KeptPool.{kept_of}
use Rattle.zst_model.specs.pools.Limits.{most_runs}
use Rattle.zst_model.specs.pools.Pool.{Pool}
use Rattle.zst_model.specs.pools.Step.{Stepped, redaction_of, with_redaction}
use Rattle.zst_model.specs.declared.refusals.refusal.Refusal.{Refusal}
use Rattle.zst_model.proofs.Results.{err_is}
use Rattle.zst_tree.specs.Damage.{IsSeen}
use Rattle.zst_redact.specs.Damage.{IsDamagedAmong}
use Rattle.zst_pool.specs.Calls.{IsAtRest, IsUnderWay}
use Rattle.zst_pool.specs.Cost.{redact_cost}
use Rattle.zst_pool.specs.Faults.{StepFault}
use Rattle.zst_pool.specs.Lineage.{with_marked}
use Rattle.zst_pool.specs.Redactions.{Redacts, sets_of}
use Rattle.zst_pool.specs.RowChanges.{MakesRows}
use Rattle.zst_pool.specs.declared.fault.PoolFault.{PoolFault}
use Rattle.zst_pool.specs.declared.fault.PoolFault.TheVariants.{Damaged, OutOfMemory, Plan}
use Rattle.zst_pool.proofs.CommandEnds.{did_rows, names_next}
use Rattle.zst_pool.proofs.CommandRuns.{Wrote, runs_committed, runs_fell, runs_sound, told_of}
use Rattle.zst_pool.proofs.CommitAnswers.{answers_rows, committed_sound, rows_left}
use Rattle.zst_pool.proofs.HeadAnswers.{memory_stops}
use Rattle.zst_pool.proofs.PlanLemmas.{no_plan-commit}
use Rattle.zst_pool.proofs.PoolsAtRest.{ready_after, rest_named, rest_plain, way_runs}
use Rattle.zst_pool.proofs.QuerySteps.{ready_read}
use Rattle.zst_pool.proofs.RedactionRuns.{list_made, list_refused, list_wrote, looks_wrote, own_stops, redaction_makes, sectors_are, short_left}
use Rattle.zst_uber.specs.declared.uber.Uber.{Uber}
use Rattle.zst_pool.proofs.redacts.commit_redaction.Goals as goal

-- the list isn't built
pub returns-in_err-list-clause-runs : goal.returns-in_err-list-clause-runs
returns-in_err-list-clause-runs g c = λ of words same plans.
    let kept = c.args.kept.now in
    let name = c.args.name.now in
    let old = io_of c.args.io.now in
    let new = io_of c.build_list.new.io in
    let fault = c.in_err-list.field-0.0 in
    let read = c.in_err-list.ensures in
    let answered = err_is c.from_residual.result fault c.from_residual.ensures.1 in
    let definition = with_redaction of name words in
    let Is = IsDamagedAmong (IsSeen old.disk.seen) old.disk.size (sets_of (c.args.row.now ∷ c.args.rows.now)) in
    record {
      ran =
          runs_fell definition (redact_cost of words) kept old new fault answered (ready_read old.disk new.disk kept read.looks.reads c.requires.begins.ready)
          (own_stops fault (λ is. read.open_still (ap (λ (f : PoolFault). Err f) is))) (looks_wrote kept (redact_cost of words) old new c.requires.begins.space read.looks)
          (λ running told rests.
          let redacts = plans running (rest_named old.disk kept running rests).are_named in
          subst (λ (d : Result Stepped Refusal). StepFault (Unit {0}) d fault) (sym redacts.left)
          (list_refused (redaction_of name redacts.taken redacts.redactions) running fault
          (list_made of name words kept c.args.row.now c.args.rows.now same running redacts old (Err fault) c.requires.begins.space (λ taken redactions own rest. read.list taken redactions told own rest) rests)));
      damaged = λ told. told_of Is c.from_residual.result (λ sector stated found is.
          let here : fault ≡ Damaged sector stated found = cc (answered, is) in read.damaged told sector stated found here);
    }

pub returns-in_err-list-clause-limits : goal.returns-in_err-list-clause-limits
returns-in_err-list-clause-limits g c = λ fault is.
    let fell = c.in_err-list.field-0.0 in
    let answered = err_is c.from_residual.result fell c.from_residual.ensures.1 in
    let same : fell ≡ Plan fault = cc (answered, is) in
    inl (c.in_err-list.ensures.limits fault (ap (λ (f : PoolFault). Err f) same))

-- the list isn't written
pub returns-in_err-tree-clause-runs : goal.returns-in_err-tree-clause-runs
returns-in_err-tree-clause-runs g c = λ of words same plans.
    let kept = c.args.kept.now in
    let name = c.args.name.now in
    let free = c.requires.begins.space in
    let old = io_of c.args.io.now in
    let mid = io_of c.build_list.new.io in
    let new = io_of c.write_runs.new.io in
    let list = c.in_ok-list.list in
    let read = c.in_ok-list.ensures in
    let wrote = c.in_err-tree.ensures in
    let fault = c.in_err-tree.field-0.0 in
    let fell = c.from_residual-in_err-tree in
    let answered = err_is fell.result fault fell.ensures.1 in
    let definition = with_redaction of name words in
    let Is = IsDamagedAmong (IsSeen old.disk.seen) old.disk.size (sets_of (c.args.row.now ∷ c.args.rows.now)) in
    let ready = ready_after mid.disk new.disk mid.space new.space kept.body (read.looks.space ∙ free) wrote.works.fills (ready_read old.disk mid.disk kept read.looks.reads c.requires.begins.ready) in
    let makes = λ (running : Pool) (told : new.disk.honest) (rests : IsAtRest false old.disk kept running) (redacts : Redacts kept.dir of name words running c.args.row.now).
    list_made of name words kept c.args.row.now c.args.rows.now same running redacts old (Ok list) free (λ taken redactions own rest. read.list taken redactions (wrote.works.fills.honest told) own rest) rests in
    record {
      ran =
          runs_fell definition (redact_cost of words) kept old new fault answered ready (own_stops fault (λ is. wrote.open_still (ap (λ (f : PoolFault). Err f) is)))
          (list_wrote kept of words old mid new (length list) free read.looks wrote.works read.short
          (λ running told rests.
          let redacts = plans running (rest_named old.disk kept running rests).are_named in
          sectors_are of name words kept c.args.row.now c.args.rows.now same running redacts list (makes running told rests redacts).0))
          (λ running told rests.
          let redacts = plans running (rest_named old.disk kept running rests).are_named in
          let bookmark = redaction_of name redacts.taken redacts.redactions in
          subst (λ (d : Result Stepped Refusal). StepFault (Unit {0}) d fault) (sym (redacts.left ∙ short_left bookmark running (makes running told rests redacts).1))
          (wrote.judged (with_marked bookmark running) rests.rests.reads.described.number));
      damaged = λ told. told_of Is fell.result (λ sector stated found is.
          let here : fault ≡ Damaged sector stated found = cc (answered, is) in absurd (wrote.sound sector stated found (ap (λ (f : PoolFault). Err f) here)));
    }

pub returns-in_err-tree-clause-limits : goal.returns-in_err-tree-clause-limits
returns-in_err-tree-clause-limits g c = λ fault is.
    let fell = c.from_residual-in_err-tree in
    let answered = err_is fell.result c.in_err-tree.field-0.0 fell.ensures.1 in
    let same : c.in_err-tree.field-0.0 ≡ Plan fault = cc (answered, is) in
    inr (c.in_err-tree.ensures.limits fault (ap (λ (f : PoolFault). Err f) same))

-- no memory is left for the directory
pub returns-in_err-dir-clause-runs : goal.returns-in_err-dir-clause-runs
returns-in_err-dir-clause-runs g c = λ of words same plans.
    let kept = c.args.kept.now in
    let name = c.args.name.now in
    let free = c.requires.begins.space in
    let old = io_of c.args.io.now in
    let mid = io_of c.build_list.new.io in
    let new = io_of c.write_runs.new.io in
    let list = c.in_ok-list.list in
    let read = c.in_ok-list.ensures in
    let wrote = c.in_ok-tree.ensures in
    let fell = c.from_residual-in_err-dir in
    let answered = err_is fell.result OutOfMemory fell.ensures.1 in
    let definition = with_redaction of name words in
    let Is = IsDamagedAmong (IsSeen old.disk.seen) old.disk.size (sets_of (c.args.row.now ∷ c.args.rows.now)) in
    let ready = ready_after mid.disk new.disk mid.space new.space kept.body (read.looks.space ∙ free) wrote.works.fills (ready_read old.disk mid.disk kept read.looks.reads c.requires.begins.ready) in
    runs_sound definition (redact_cost of words) Is kept fell.result (λ sector stated found is. cc (answered, is))
    (runs_fell definition (redact_cost of words) kept old new OutOfMemory answered ready (memory_stops None refl)
    (list_wrote kept of words old mid new (length list) free read.looks wrote.works read.short
    (λ running told rests.
    let redacts = plans running (rest_named old.disk kept running rests).are_named in
    let made = list_made of name words kept c.args.row.now c.args.rows.now same running redacts old (Ok list) free (λ taken redactions own rest. read.list taken redactions (wrote.works.fills.honest told) own rest) rests in
    sectors_are of name words kept c.args.row.now c.args.rows.now same running redacts list made.0))
    (λ running told rests. tt))

pub returns-in_err-dir-clause-limits : goal.returns-in_err-dir-clause-limits
returns-in_err-dir-clause-limits g c = λ fault is.
    let fell = c.from_residual-in_err-dir in
    let answered = err_is fell.result OutOfMemory fell.ensures.1 in
    absurd (cc (answered, is))

-- it came to its commit
pub write_runs-requires : goal.write_runs-requires
unfolding most_runs
write_runs-requires g c = record { short = omega (arith, c.in_ok-list.ensures.short) }

pub commit_dir-requires-clause-sectors : goal.commit_dir-requires-clause-sectors
commit_dir-requires-clause-sectors g c =
    let old = io_of c.args.io.now in
    c.in_ok-tree.ensures.works.takes.sectors ∙ ap (λ s. s.sectors) (c.in_ok-list.ensures.looks.space ∙ c.requires.begins.space)

pub commit_dir-requires-clause-ready : goal.commit_dir-requires-clause-ready
commit_dir-requires-clause-ready g c =
    let old = io_of c.args.io.now in
    let mid = io_of c.build_list.new.io in
    let new = io_of c.write_runs.new.io in
    let kept = c.args.kept.now in
    let looks = c.in_ok-list.ensures.looks in
    ready_after mid.disk new.disk mid.space new.space kept.body (looks.space ∙ c.requires.begins.space) c.in_ok-tree.ensures.works.fills (ready_read old.disk mid.disk kept looks.reads c.requires.begins.ready)

pub returns-clause-runs : goal.returns-clause-runs
returns-clause-runs g c = λ of words same plans.
    let kept = c.args.kept.now in
    let name = c.args.name.now in
    let free = c.requires.begins.space in
    let old = io_of c.args.io.now in
    let mid = io_of c.build_list.new.io in
    let new = io_of c.write_runs.new.io in
    let last = io_of c.commit_dir.new.io in
    let list = c.in_ok-list.list in
    let tree = c.in_ok-tree.tree in
    let dir = c.in_ok-dir.dir in
    let read = c.in_ok-list.ensures in
    let wrote = c.in_ok-tree.ensures in
    let commit = c.commit_dir.ensures in
    let made = c.commit_dir.result in
    let definition = with_redaction of name words in
    let has = Has new.disk.seen new.space in
    let Is = IsDamagedAmong (IsSeen old.disk.seen) old.disk.size (sets_of (c.args.row.now ∷ c.args.rows.now)) in
    let built = λ (running : Pool) (told : new.disk.honest) (rests : IsAtRest false old.disk kept running) (redacts : Redacts kept.dir of name words running c.args.row.now).
    list_made of name words kept c.args.row.now c.args.rows.now same running redacts old (Ok list) free (λ taken redactions own rest. read.list taken redactions (wrote.works.fills.honest told) own rest) rests in
    let written : Wrote kept (redact_cost of words) old new None =
    list_wrote kept of words old mid new (length list) free read.looks wrote.works read.short
    (λ running told rests.
    let redacts = plans running (rest_named old.disk kept running rests).are_named in
    sectors_are of name words kept c.args.row.now c.args.rows.now same running redacts list (built running told rests redacts).0) in
    let fills = (let one = written.0 in one.2.fills) in
    let makes : (tight : Bool) (running : Pool) → last.disk.honest → IsAtRest tight old.disk kept running → MakesRows tight has (definition running) running c.uber.result.now.guids dir = λ tight running told rests.
    let redacts = plans running (rest_named old.disk kept running rests).are_named in
    let way : IsUnderWay tight old.disk new.disk new.space kept running = record { rested = rests; fills = fills } in
    subst (λ (u : Uber). MakesRows tight has (definition running) running u.guids dir) (sym c.uber.ensures)
    (redaction_makes of name words kept c.args.row.now c.args.rows.now same running redacts has (way_runs old.disk new.disk new.space kept running way) list tree dir c.requires.some
    (built running (commit.disk.honest told) (rest_plain old.disk kept running rests) redacts)
    (wrote.judged (with_marked (redaction_of name redacts.taken redacts.redactions) running) rests.rests.reads.described.number) wrote.there c.in_ok-dir.ensures.makes.made) in
    runs_sound definition (redact_cost of words) Is kept c.of_committed.result (λ sector stated found is. committed_sound made sector stated found (sym c.of_committed.ensures ∙ is))
    (runs_committed definition (redact_cost of words) kept old new last dir made c.of_committed.ensures written
    (λ tight running told rests.
    let way : IsUnderWay tight old.disk new.disk new.space kept running = record { rested = rests; fills = fills } in
    did_rows old.disk new last kept running (definition running) c.uber.result.now.guids dir made way (makes tight running told rests) c.in_ok-dir.ensures.lawful wrote.below
    (λ next is. commit.commits tight c.args.io.now.disk.now rests.rows (kept_of running) next told rests.rests fills is) commit.made commit.refused)
    c.in_ok-dir.ensures.makes.grows
    (λ running told rests. names_next has (definition running) running c.uber.result.now.guids dir (makes false running told rests))
    commit.made commit.takes commit.refused commit.disk commit.cause)

pub returns-clause-limits : goal.returns-clause-limits
returns-clause-limits g c = λ fault is. absurd (no_plan-commit c.commit_dir.result c.of_committed.ensures fault is)

pub returns-clause-partials : goal.returns-clause-partials
returns-clause-partials g c =
    rows_left c.in_ok-dir.ensures.makes.made c.of_committed.result
    (answers_rows c.commit_dir.result c.of_committed.result c.of_committed.ensures c.args.kept.now.body c.in_ok-dir.dir (io_of c.write_runs.new.io) (io_of c.commit_dir.new.io) c.commit_dir.ensures.made)

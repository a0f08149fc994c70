use Rattle.std.specs.Prelude.{Bool, false, Result, Err, None}
use Rattle.std.proofs.Common.{◌≡◌, ◌+◌, ◌≤◌, length, refl, sym, ap, ◌∙◌, subst, arith}
use Rattle.zst_tree.specs.Sets.{SetFits}
use Rattle.zst_block.specs.Blocks.{Has}
use Rattle.zst_block.specs.IoStates.{io_of}
use Rattle.zst_model.specs.declared.refusals.refusal.Refusal.{Refusal}
use Rattle.zst_model.specs.states.AppliedItems.{◌>>=◌}
use Rattle.zst_model.specs.states.DatedState.{DatedState}
use Rattle.zst_model.specs.pools.Step.{Stepped, committed, on_head}
use Rattle.zst_dir.specs.Rows.{Rows, with_head}
use Rattle.zst_dir.specs.Spelling.{dir_bytes}
use Rattle.zst_model.specs.pools.KeptPool.{kept_of}
use Rattle.zst_model.proofs.Results.{err_is}
use Rattle.zst_image.specs.Reads.{RunsBy, bound_of}
use Rattle.zst_model.specs.pools.Pool.{Pool}
use Rattle.zst_pool.specs.Calls.{IsAtRest, IsUnderWay}
use Rattle.zst_pool.specs.Checks.{with_head_of}
use Rattle.zst_pool.specs.RowChanges.{MakesRows}
use Rattle.zst_pool.specs.Faults.{StepFault}
use Rattle.zst_pool.specs.Heads.{rested}
use Rattle.zst_objset.specs.OrMemory.{stop_of}
use Rattle.zst_pool.specs.declared.fault.PoolFault.{PoolFault}
use Rattle.zst_pool.specs.declared.fault.PoolFault.TheVariants.{Damaged, OutOfMemory, Plan}
use Rattle.zst_pool.proofs.CommandEnds.{did_rows, names_next}
use Rattle.zst_pool.proofs.Bounds.{RunsBy-later}
use Rattle.zst_pool.proofs.NextPools.{head_runs}
use Rattle.zst_pool.proofs.PoolsAtRest.{few_guids, way_runs}
use Rattle.zst_pool.proofs.CommitAnswers.{answers_rows, committed_sound, rows_left}
use Rattle.zst_pool.proofs.HeadAnswers.{memory_stops, well_is}
use Rattle.zst_pool.proofs.CommandRuns.{Wrote, runs_committed, runs_fell, wrote_head}
use Rattle.zst_pool.proofs.PlanLemmas.{no_plan-commit}
use Rattle.zst_uber.specs.declared.uber.Uber.{Uber}
use Rattle.zst_model.specs.pools.Limits.{last_guid}
use Rattle.zst_pool.proofs.heads.commit_head.Goals as goal

pub set_head-requires : goal.set_head-requires
set_head-requires g c = well_is c.args.changed (SetFits c.args.set) c.in_ok-judge.ensures.well c.requires.levels

pub returns-in_err-judge-clause-ran : goal.returns-in_err-judge-clause-ran
returns-in_err-judge-clause-ran g c = λ start failed checksum_errors reference make cost changed.
    let now = g.D.Disk.state c.args.io.now.disk.now in
    let kept = c.args.kept.now in
    let name = c.args.name.now in
    let fault = c.in_err-judge.field-0.0 in
    runs_fell (λ pool. on_head name pool (make pool)) cost kept (rested (g.D.Disk.state start) failed checksum_errors reference kept) (io_of c.args.io.now) fault (err_is c.from_residual.result fault c.from_residual.ensures.1)
    c.requires.ready c.in_err-judge.ensures.stops (wrote_head kept cost (rested (g.D.Disk.state start) failed checksum_errors reference kept) (io_of c.args.io.now) (stop_of c.args.changed) changed.works changed.exact)
    (λ running told rests.
    let made = changed.made running told rests in
    subst (λ (r : Result Stepped Refusal). StepFault (Unit {0}) r fault) (sym made.2)
    (c.in_err-judge.ensures.judged None now.seen c.args.io.now.space c.args.set name running (make running made.0) rests.rests.reads.described.number made.1))

pub returns-in_err-dir-clause-ran : goal.returns-in_err-dir-clause-ran
returns-in_err-dir-clause-ran g c = λ start failed checksum_errors reference make cost changed.
    let kept = c.args.kept.now in
    let name = c.args.name.now in
    let fell = c.from_residual-in_err-dir in
    runs_fell (λ pool. on_head name pool (make pool)) cost kept (rested (g.D.Disk.state start) failed checksum_errors reference kept) (io_of c.args.io.now) OutOfMemory (err_is fell.result OutOfMemory fell.ensures.1) c.requires.ready
    (memory_stops (stop_of c.args.changed) c.in_ok-judge.ensures.went_well) (wrote_head kept cost (rested (g.D.Disk.state start) failed checksum_errors reference kept) (io_of c.args.io.now) (stop_of c.args.changed) changed.works changed.exact) (λ running told rests. tt)

pub returns-clause-ran : goal.returns-clause-ran
returns-clause-ran g c = λ start failed checksum_errors reference make cost changed.
    let from = g.D.Disk.state start in
    let old = g.D.Disk.state c.args.io.now.disk.now in
    let space = c.args.io.now.space in
    let last = g.D.Disk.state c.commit_dir.new.io.disk.now in
    let kept = c.args.kept.now in
    let name = c.args.name.now in
    let set = c.args.set in
    let commit = c.commit_dir.ensures in
    let fills = (let taken = changed.works in taken.2.fills) in
    let long : length (dir_bytes c.set_head.new.self) ≡ length (dir_bytes kept.dir) = c.set_head.ensures.as_long ∙ ap (λ (d : Rows). length (dir_bytes d)) c.in_ok-dir.ensures in
    let grows : length (dir_bytes c.set_head.new.self) ≤ length (dir_bytes kept.dir) + 1024 = omega (arith, long) in
    let dir = c.set_head.ensures.headed ∙ ap (λ (d : Rows). record d { datasets = with_head name set d.datasets }) c.in_ok-dir.ensures in
    let rest = rested from failed checksum_errors reference kept in
    let makes : (tight : Bool) (running : Pool) → last.honest → IsAtRest tight from kept running → MakesRows tight (Has old.seen space) (on_head name running (make running)) running c.uber.result.now.guids c.set_head.new.self = λ tight running told rests.
    let made = changed.made {tight = tight} running (commit.disk.honest told) rests in
    let head = c.in_ok-judge.ensures.judged (bound_of tight (running.number + 1)) old.seen space set name running (make running made.0) rests.rests.reads.described.number made.1 in
    let is = made.2 ∙ ap (λ (r : Result DatedState Refusal). r >>= λ after. committed (with_head_of name after running)) head.1 ∙ head.3 in
    let way : IsUnderWay tight from old space kept running = record { rested = rests; fills = fills } in
    let runs = way_runs from old space kept running way in
    record {
      next = with_head_of name head.0 running;
      made = is;
      id = refl;
      number = refl;
      guid_counter = runs.guids ∙ ap (λ (u : Uber). u.guids) (sym c.uber.ensures);
      few = subst (λ (u : Uber). u.guids ≤ last_guid) (sym c.uber.ensures) (few_guids (Has old.seen space) kept running runs);
      runs_by = subst (λ (r : Rows). RunsBy (bound_of tight (running.number + 1)) (Has old.seen space) r (with_head_of name head.0 running)) (sym dir) (head_runs (Has old.seen space) kept.dir running name set head.0 (RunsBy-later tight running.number (running.number + 1) (omega arith) (Has old.seen space) kept.dir running runs.runs_by) head.2);
    } in
    runs_committed (λ pool. on_head name pool (make pool)) cost kept rest (io_of c.args.io.now) (io_of c.commit_dir.new.io) c.set_head.new.self c.commit_dir.result c.of_committed.ensures
    (subst (Wrote kept cost rest (io_of c.args.io.now)) c.in_ok-judge.ensures.went_well (wrote_head kept cost rest (io_of c.args.io.now) (stop_of c.args.changed) changed.works changed.exact))
    (λ tight running told rests.
    let way : IsUnderWay tight from old space kept running = record { rested = rests; fills = fills } in
    did_rows from (io_of c.args.io.now) (io_of c.commit_dir.new.io) kept running (on_head name running (make running)) c.uber.result.now.guids c.set_head.new.self c.commit_dir.result way (makes tight running told rests) c.datasets-lawful.ensures.lawful c.in_ok-judge.ensures.below
    (λ next told_next. commit.commits tight start rests.rows (kept_of running) next told rests.rests fills told_next) commit.made commit.refused)
    grows (λ running told rests. names_next (Has old.seen space) (on_head name running (make running)) running c.uber.result.now.guids c.set_head.new.self (makes false running told rests))
    commit.made commit.takes commit.refused commit.disk commit.cause

pub returns-in_err-judge-clause-refuses : goal.returns-in_err-judge-clause-refuses
returns-in_err-judge-clause-refuses g c = record {
  damaged = λ sector stated found is.
      let fault = c.in_err-judge.field-0.0 in
      let same = err_is c.from_residual.result fault c.from_residual.ensures.1 in
      let told : fault ≡ Damaged sector stated found = cc (same, is) in
      c.in_err-judge.ensures.refuses.damaged sector stated found (ap (λ (f : PoolFault). Err f) told);
  last = λ fault is.
      let fell = c.in_err-judge.field-0.0 in
      let answered = err_is c.from_residual.result fell c.from_residual.ensures.1 in
      let same : fell ≡ Plan fault = cc (answered, is) in
      c.in_err-judge.ensures.refuses.last fault (ap (λ f. Err f) same);
}

pub returns-in_err-dir-clause-refuses : goal.returns-in_err-dir-clause-refuses
returns-in_err-dir-clause-refuses g c = record {
  damaged = λ sector stated found is.
      let fell = c.from_residual-in_err-dir in
      let same = err_is fell.result OutOfMemory fell.ensures.1 in
      absurd (cc (same, is));
  last = λ fault is.
      let fell = c.from_residual-in_err-dir in
      let answered = err_is fell.result OutOfMemory fell.ensures.1 in
      absurd (cc (answered, is));
}

pub returns-clause-refuses : goal.returns-clause-refuses
returns-clause-refuses g c = record {
  damaged = λ sector stated found is. absurd (committed_sound c.commit_dir.result sector stated found (sym c.of_committed.ensures ∙ is));
  last = λ fault is. absurd (no_plan-commit c.commit_dir.result c.of_committed.ensures fault is);
}

pub returns-clause-partials : goal.returns-clause-partials
returns-clause-partials g c =
    let kept = c.args.kept.now in
    let dir = c.set_head.ensures.headed ∙ ap (λ (d : Rows). record d { datasets = with_head c.args.name.now c.args.set d.datasets }) c.in_ok-dir.ensures in
    rows_left dir c.of_committed.result
    (answers_rows c.commit_dir.result c.of_committed.result c.of_committed.ensures kept.body c.set_head.new.self (io_of c.args.io.now) (io_of c.commit_dir.new.io) c.commit_dir.ensures.made)

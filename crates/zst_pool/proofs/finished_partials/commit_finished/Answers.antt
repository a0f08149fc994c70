use Rattle.std.proofs.Common.{◌≡◌, ℕ, ◌+◌, refl, sym, ap, ◌∙◌, subst, arith}
use Rattle.std.proofs.lemmas.Result.{IfOk-weaker}
use Rattle.zst_block.specs.Blocks.{Has}
use Rattle.zst_block.specs.IoStates.{io_of}
use Rattle.zst_model.specs.pools.Limits.{last_number}
use Rattle.zst_model.proofs.Results.{err_is}
use Rattle.zst_dir.specs.Rows.{Rows}
use Rattle.zst_image.specs.Reads.{RunsBy, bound_of}
use Rattle.zst_pool.specs.Events.{FollowsBy}
use Rattle.zst_pool.specs.FinishedRows.{rows_with_finished}
use Rattle.zst_pool.specs.Partials.{partial_finished, with_finished}
use Rattle.zst_pool.specs.declared.fault.PoolFault.TheVariants.{OutOfMemory}
use Rattle.zst_pool.proofs.Bounds.{RunsBy-later}
use Rattle.zst_pool.proofs.CommitAnswers.{call_grows, ends_idle}
use Rattle.zst_pool.proofs.EventEnds.{puts_starved}
use Rattle.zst_pool.proofs.FinishedRows.{partial_is_finished}
use Rattle.zst_pool.proofs.PoolsAtRest.{way_runs}
use Rattle.zst_pool.proofs.Room.{call_full}
use Rattle.zst_uber.specs.declared.uber.Uber.{Uber}
use Rattle.zst_pool.proofs.finished_partials.commit_finished.Goals as goal

pub returns-in_err-dir-clause-puts : goal.returns-in_err-dir-clause-puts
returns-in_err-dir-clause-puts g c =
    puts_starved partial_finished c.args.partial.now (rows_with_finished (c.args.kept.now.body.uber.number + 1) c.args.partial.now c.args.kept.now.dir) c.args.kept.now c.args.io.now c.from_residual.result (err_is c.from_residual.result OutOfMemory c.from_residual.ensures.1)

pub returns-in_err-dir-clause-commits : goal.returns-in_err-dir-clause-commits
returns-in_err-dir-clause-commits g c =
    ends_idle c.args.kept.now (io_of c.args.io.now) OutOfMemory c.from_residual.result (err_is c.from_residual.result OutOfMemory c.from_residual.ensures.1) refl c.requires.works.ready

-- the number of the rows that are kept is the next one, since a commit's isn't the last
pub returns-clause-puts : goal.returns-clause-puts
unfolding last_number
returns-clause-puts g c =
    record {
      did = λ tight start running plain told way is.
          let old = g.D.Disk.state c.args.io.now.disk.now in
          let has = Has old.seen c.args.io.now.space in
          let next = with_finished plain running in
          let was = way_runs (g.D.Disk.state start) old c.args.io.now.space c.args.kept.now running way in
          let number : running.number + 1 ≡ c.saturating_add-number.result = omega (arith, was.number, was.lawful.number, ap (λ (u : Uber). u.number) c.uber.ensures, c.saturating_add-number.ensures) in
          let over = RunsBy-later tight running.number (running.number + 1) (omega arith) has c.args.kept.now.dir running was.runs_by in
          let runs = subst (λ (r : Rows). RunsBy (bound_of tight (running.number + 1)) has r next) (sym c.in_ok-dir.ensures.finished) (partial_is_finished has c.args.kept.now.dir running over c.args.partial.now plain is c.saturating_add-number.result number) in
          c.commit_next.ensures.did tight start running next told way (record { id = refl; number = refl; guids = refl }) runs;
      rows =
          let number = c.args.kept.now.body.uber.number in
          let rows = λ (n : ℕ). rows_with_finished n c.args.partial.now c.args.kept.now.dir in
          IfOk-weaker c.commit_next.result (FollowsBy c.args.io.now.space c.args.kept.now c.in_ok-dir.dir) (λ next. next.dir ≡ rows (number + 1))
          (λ next follows. let same : c.saturating_add-number.result ≡ number + 1 = omega (arith, follows.below, ap (λ (u : Uber). u.number) c.uber.ensures, c.saturating_add-number.ensures) in follows.rows ∙ c.in_ok-dir.ensures.finished ∙ ap rows same) c.commit_next.ensures.next;
      known = c.commit_next.ensures.known;
      full = λ need largest is.
          call_full c.args.io.now.space c.commit_next.new.io.space _ c.args.kept.now.dir need largest c.in_ok-dir.ensures.grows c.commit_next.ensures.takes (c.commit_next.ensures.full need largest is);
      grows = call_grows c.args.io.now.space c.args.kept.now c.in_ok-dir.dir c.commit_next.result c.in_ok-dir.ensures.grows c.commit_next.ensures.next;
      blocks = c.commit_next.ensures.blocks;
      spares = c.commit_next.ensures.spares;
      size = c.commit_next.ensures.commits.disk.size;
    }

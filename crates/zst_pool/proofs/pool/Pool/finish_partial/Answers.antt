use Rattle.std.proofs.Common.{◌+◌}
use Rattle.zst_pool.specs.FinishedRows.{rows_with_finished}
use Rattle.zst_pool.specs.Partials.{partial_finished}
use Rattle.zst_pool.proofs.EventEnds.{puts_committed, puts_failed, settles_committed, settles_failed}
use Rattle.zst_pool.proofs.pool.Pool.finish_partial.Goals as goal

pub returns-then-self : goal.returns-then-self
returns-then-self g c =
    let pool = c.args.self.now in
    record { puts = puts_failed partial_finished c.args.partial (rows_with_finished (pool.kept.body.uber.number + 1) c.args.partial pool.kept.dir) pool c.if-self.true; settles = settles_failed pool c.if-self.true }

pub returns : goal.returns
returns g c =
    let pool = c.args.self.now in
    let made = c.commit_finished-committed in
    let kept = c.keep in
    let keeps = kept.ensures.keeps in
    record {
      puts = puts_committed pool kept.new.self made.new.io made.result kept.result c.if-self.false keeps.kept kept.ensures.io partial_finished c.args.partial (rows_with_finished (pool.kept.body.uber.number + 1) c.args.partial pool.kept.dir) made.ensures.puts made.ensures.commits.space keeps.number;
      settles = settles_committed pool kept.new.self made.new.io made.result kept.result c.if-self.false keeps.kept kept.ensures.io pool.io.space made.ensures.commits keeps.stays;
    }

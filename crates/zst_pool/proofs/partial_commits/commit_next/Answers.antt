use Rattle.std.proofs.Common.{refl, ◌≡◌, ◌≤◌, sym, ap, ◌∙◌, subst}
use Rattle.std.specs.Prelude.{OnErr, Result}
use Rattle.std.proofs.lemmas.Result.{IfOk-weaker}
use Rattle.zst_block.specs.Blocks.{Has, KeepsBlocks, SparesTaken}
use Rattle.zst_block.proofs.BlocksLaws.{SparesTaken-same}
use Rattle.zst_block.proofs.TakenSectors.{takes_none}
use Rattle.zst_block.specs.IoStates.{io_of}
use Rattle.zst_model.specs.pools.KeptPool.{kept_of}
use Rattle.zst_model.proofs.Results.{err_is}
use Rattle.zst_dir.specs.Rows.{IsLawful}
use Rattle.zst_image.specs.Bodies.{free_by}
use Rattle.zst_image.specs.declared.pool_state.PoolState.{PoolState}
use Rattle.zst_pool.specs.Calls.{CallDid}
use Rattle.zst_pool.specs.Checks.{next_of}
use Rattle.zst_pool.specs.Partials.{next_commit}
use Rattle.zst_pool.specs.declared.fault.PoolFault.{PoolFault}
use Rattle.zst_pool.specs.declared.fault.PoolFault.TheVariants.{Plan}
use Rattle.zst_pool.proofs.CallLemmas.{call_did, call_fell, number_after}
use Rattle.zst_pool.proofs.CommitAnswers.{answers_ends, answers_follows, answers_full, answers_known, answers_ok, answers_spares, ends_idle}
use Rattle.zst_pool.proofs.NamedPools.{rows_named}
use Rattle.zst_pool.proofs.PoolsAtRest.{few_guids, kept_is_next, next_lawful, rests_next, rests_unless, way_runs}
use Rattle.zst_uber.specs.declared.uber.Uber.{Uber}
use Rattle.zst_model.specs.pools.Limits.{last_guid}
use Rattle.zst_pool.proofs.partial_commits.commit_next.Goals as goal

pub returns-in_err-check_limits-clause-did : goal.returns-in_err-check_limits-clause-did
returns-in_err-check_limits-clause-did g c = λ tight start running next told way anew runs.
    let old = g.D.Disk.state c.args.io.now.disk.now in
    let kept = c.args.kept.now in
    let space = c.args.io.now.space in
    let fault = Plan c.in_err-check_limits.field-0.0 in
    let number : next.number ≡ kept.body.uber.number = anew.number ∙ way.rested.rests.reads.described.number in
    subst (λ (r : Result PoolState PoolFault). CallDid tight (g.D.Disk.state start) old kept running (next_commit next) r) (sym (err_is c.from_residual.result fault c.from_residual.ensures.1))
    (call_fell (g.D.Disk.state start) old space kept running (next_commit next) fault way (c.in_err-check_limits.ensures.judged next (rows_named (Has old.seen space) c.args.dir next runs) number, tt))

pub returns-in_err-check_limits-clause-commits : goal.returns-in_err-check_limits-clause-commits
returns-in_err-check_limits-clause-commits g c =
    ends_idle c.args.kept.now (io_of c.args.io.now) (Plan c.in_err-check_limits.field-0.0) c.from_residual.result (err_is c.from_residual.result (Plan c.in_err-check_limits.field-0.0) c.from_residual.ensures.1) refl c.requires.works.ready

pub returns-in_err-check_limits-clause-takes : goal.returns-in_err-check_limits-clause-takes
returns-in_err-check_limits-clause-takes g c = takes_none c.args.io.now.space

pub returns-clause-did : goal.returns-clause-did
returns-clause-did g c = λ tight start running next told way anew runs.
    let from = g.D.Disk.state start in
    let old = g.D.Disk.state c.args.io.now.disk.now in
    let new = g.D.Disk.state c.commit_dir.new.io.disk.now in
    let io = io_of c.args.io.now in
    let last = io_of c.commit_dir.new.io in
    let kept = c.args.kept.now in
    let space = c.args.io.now.space in
    let has = Has old.seen space in
    let commit = c.commit_dir.ensures in
    let made = c.commit_dir.result in
    let was = way_runs from old space kept running way in
    let number : next.number ≡ kept.body.uber.number = anew.number ∙ was.number in
    let judged = c.in_ok-check_limits.ensures.judged next (rows_named has c.args.dir next runs) number in
    let lawful : IsLawful c.args.dir = subst IsLawful c.dir.view_is c.dir.invariant in
    let counter = anew.guids ∙ was.guids ∙ ap (λ (u : Uber). u.guids) (sym c.uber.ensures) in
    let few = subst (λ (u : Uber). u.guids ≤ last_guid) (sym c.uber.ensures) (few_guids has kept running was) in
    let below = c.in_ok-check_limits.ensures.below in
    let is = kept_is_next has kept running next c.uber.result.now.guids c.args.dir lawful was anew.id anew.number counter few below runs in
    let after = next_lawful has kept running next c.uber.result.now.guids c.args.dir lawful was anew.id anew.number counter few below runs in
    let commits = commit.commits tight start way.rested.rows (kept_of running) (kept_of (next_of next).pool) told way.rested.rests way.fills is in
    subst (λ (r : Result PoolState PoolFault). CallDid tight from new kept running (next_commit next) r) (sym c.of_committed.ensures)
    (call_did from new kept way.rested.rows running (next_of next).pool (next_commit next) judged made (λ need largest full. (commit.takes.full need largest full).shorter) commits
    (number_after io last kept.body c.args.dir made next.number number commit.made)
    (rests_next from io last kept way.rested.rows c.args.dir running next made commits anew.number runs after commit.made) (rests_unless from old new space last.space kept running made way commit.refused.fills))

pub returns-clause-known : goal.returns-clause-known
returns-clause-known g c = answers_known c.commit_dir.result c.of_committed.result c.of_committed.ensures (λ need largest full. (c.commit_dir.ensures.takes.full need largest full).shorter)

pub returns-clause-full : goal.returns-clause-full
returns-clause-full g c = λ need largest full. c.commit_dir.ensures.takes.full need largest (answers_full c.commit_dir.result c.of_committed.result c.of_committed.ensures need largest full)

pub returns-clause-blocks : goal.returns-clause-blocks
returns-clause-blocks g c =
    let old = g.D.Disk.state c.args.io.now.disk.now in
    let new = g.D.Disk.state c.commit_dir.new.io.disk.now in
    let Kept : PoolState → Type 0 = λ next. KeepsBlocks old.seen c.args.io.now.space new.seen (free_by next.body) in
    answers_ok c.commit_dir.result c.of_committed.result c.of_committed.ensures Kept (IfOk-weaker c.commit_dir.result _ Kept (λ next is. is.blocks) c.commit_dir.ensures.made)

pub returns-clause-next : goal.returns-clause-next
returns-clause-next g c =
    answers_follows c.commit_dir.result c.of_committed.result c.of_committed.ensures c.args.kept.now c.args.dir (io_of c.args.io.now) (io_of c.commit_dir.new.io) c.in_ok-check_limits.ensures.below c.requires.works.sectors c.commit_dir.ensures.takes.takes c.commit_dir.ensures.made

pub returns-clause-spares : goal.returns-clause-spares
returns-clause-spares g c = answers_spares c.commit_dir.result c.of_committed.result c.of_committed.ensures c.args.kept.now.body (io_of c.args.io.now) (io_of c.commit_dir.new.io) c.commit_dir.ensures.refused

pub returns-in_err-check_limits-clause-spares : goal.returns-in_err-check_limits-clause-spares
returns-in_err-check_limits-clause-spares g c = λ apart.
    let seen = (g.D.Disk.state c.args.io.now.disk.now).seen in
    let space = c.args.io.now.space in
    subst (λ (r : Result PoolState PoolFault). OnErr r (SparesTaken space seen seen)) (sym (err_is c.from_residual.result (Plan c.in_err-check_limits.field-0.0) c.from_residual.ensures.1)) (SparesTaken-same space seen)

pub returns-clause-commits : goal.returns-clause-commits
returns-clause-commits g c =
    let commit = c.commit_dir.ensures in
    answers_ends c.commit_dir.result c.of_committed.result c.of_committed.ensures c.args.kept.now c.args.dir (io_of c.args.io.now) (io_of c.commit_dir.new.io) commit.made commit.refused commit.disk commit.cause

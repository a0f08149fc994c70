use Rattle.std.specs.Prelude.{None, false}
use Rattle.std.proofs.Common.{refl, sym, ◌∙◌}
use Rattle.zst_block.specs.Blocks.{Has}
use Rattle.zst_block.specs.IoStates.{io_of}
use Rattle.zst_model.specs.pools.KeptPool.{kept_of}
use Rattle.zst_pool.specs.Cost.{cells_only}
use Rattle.zst_pool.specs.Damage.{NoDamage}
use Rattle.zst_pool.proofs.CommitAnswers.{answers_rows, committed_sound}
use Rattle.zst_pool.proofs.CommandEnds.{did_rows, names_next}
use Rattle.zst_pool.proofs.PlanLemmas.{no_plan-commit}
use Rattle.zst_pool.proofs.PoolsAtRest.{begun, way_runs}
use Rattle.zst_pool.proofs.CommandRuns.{idle_wrote, runs_committed, runs_sound}
use Rattle.zst_pool.proofs.commands.commit_rows.Goals as goal

pub returns-clause-runs : goal.returns-clause-runs
returns-clause-runs g c = λ definition makes.
    let io = io_of c.args.io.now in
    let old = g.D.Disk.state c.args.io.now.disk.now in
    let new = g.D.Disk.state c.commit_dir.new.io.disk.now in
    let space = c.args.io.now.space in
    let kept = c.args.kept.now in
    let commit = c.commit_dir.ensures in
    let made = c.commit_dir.result in
    runs_sound definition (cells_only 0) NoDamage kept c.of_committed.result (λ sector stated found is. committed_sound made sector stated found (sym c.of_committed.ensures ∙ is))
    (runs_committed definition (cells_only 0) kept io io (io_of c.commit_dir.new.io) c.args.dir made c.of_committed.ensures (idle_wrote kept (cells_only 0) io None refl c.requires.begins.space)
    (λ tight running told rested.
    let way = begun old kept running rested space c.requires.begins.space in
    did_rows old io (io_of c.commit_dir.new.io) kept running (definition running) c.args.guids c.args.dir made way (makes tight old.seen space running (way_runs old old space kept running way)) c.datasets-lawful.ensures.lawful c.requires.number
    (λ next is. commit.commits tight c.args.io.now.disk.now way.rested.rows (kept_of running) next told way.rested.rests way.fills is) commit.made commit.refused)
    c.requires.grows
    (λ running told rested.
    let way = begun old kept running rested space c.requires.begins.space in
    names_next (Has old.seen space) (definition running) running c.args.guids c.args.dir (makes false old.seen space running (way_runs old old space kept running way)))
    commit.made commit.takes commit.refused commit.disk commit.cause)

pub returns-clause-unplanned : goal.returns-clause-unplanned
returns-clause-unplanned g c = λ fault is. no_plan-commit c.commit_dir.result c.of_committed.ensures fault is

pub returns-clause-rows : goal.returns-clause-rows
returns-clause-rows g c =
    answers_rows c.commit_dir.result c.of_committed.result c.of_committed.ensures c.args.kept.now.body c.args.dir (io_of c.args.io.now) (io_of c.commit_dir.new.io) c.commit_dir.ensures.made

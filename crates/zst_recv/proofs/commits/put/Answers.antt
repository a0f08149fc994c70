use Rattle.std.proofs.Common.{◌≡◌, ◌+◌, true, false, Ok, refl, sym, ap, ◌∙◌, subst}
use Rattle.std.specs.Prelude.{Result}
use Rattle.zst_space.specs.FreeSectors.{FreeSectors}
use Rattle.zst_block.specs.Blocks.{Has, KeepsBlocks}
use Rattle.zst_dir.specs.declared.rows.Partial.{Partial as Row}
use Rattle.zst_image.specs.Bodies.{free_by}
use Rattle.zst_image.specs.Reads.{PartialIs, bound_of}
use Rattle.zst_image.specs.declared.pool_state.PoolState.{PoolState}
use Rattle.zst_pool.specs.FinishedRows.{rows_with_finished}
use Rattle.zst_pool.specs.PartialRows.{CanPut, rows_with_partial}
use Rattle.zst_pool.specs.Partials.{partial_finished, partial_put}
use Rattle.zst_pool.specs.declared.fault.PoolFault.{PoolFault}
use Rattle.zst_recv.specs.ReceiveSteps.{put}
use Rattle.zst_recv.specs.Commits.{CommitsBatch, CommitsRows, Puts}
use Rattle.zst_recv.specs.Stages.{CanPutFor, IsStage, LivesOn, StageFits}
use Rattle.zst_recv.specs.declared.stage.Stage as coded
use Rattle.zst_recv.proofs.AnsweredFaults.{put_answer}
use Rattle.zst_recv.proofs.CommitLemmas.{can_again, commits_made, commits_none, commits_refused, ended, goes_idle, idle_put, living, put_ended, put_living, put_none, puts_err, puts_none, puts_ok, batch_more}
use Rattle.zst_recv.proofs.LeftRows.{commits_at_begin, no_row, rows_finished, rows_kept, rows_put}
use Rattle.zst_recv.proofs.commits.put.Goals as goal
use Rattle.zst_model.proofs.Results.{err_is}

pub returns-then-not-batch-clause-puts : goal.returns-then-not-batch-clause-puts
returns-then-not-batch-clause-puts g c = λ tight start running plain told way is.
    let bound = bound_of tight (running.number + 1) in
    let pool = c.args.pool.now in
    puts_none tight (g.D.Disk.state start) (g.D.Disk.state pool.io.disk.now) running (put plain running) pool.io.space pool.kept (put_none plain running (sym is.taken ∙ c.if-not-batch.true)) way

pub returns-then-not-batch-clause-fits : goal.returns-then-not-batch-clause-fits
returns-then-not-batch-clause-fits g c = λ target fits. goes_idle c.args.pool.now.kept.dir target c.args.batch.now.stage fits

pub returns-in_err-put_partial-in-Lives-clause-puts : goal.returns-in_err-put_partial-in-Lives-clause-puts
returns-in_err-put_partial-in-Lives-clause-puts g c = λ tight start running plain told way is.
    let bound = bound_of tight (running.number + 1) in
    let pool = c.args.pool.now in
    let batch = c.args.batch.now in
    let has = Has (g.D.Disk.state pool.io.disk.now).seen pool.io.space in
    let l = living bound has c.in-Lives.flags c.in-Lives.partial plain.stage (subst (λ (s : coded.Stage). IsStage bound has s plain.stage) c.in-Lives.is is.stage) in
    let row : PartialIs bound has c.duplicate.result l.0 = subst (λ (r : Row). PartialIs bound has r l.0) (sym c.duplicate.ensures) l.2 in
    let now = g.D.Disk.state c.put_partial.new.self.io.disk.now in
    let kept = c.put_partial.new.self.kept in
    let fault = c.in_err-put_partial-in-Lives.field-0.0 in
    subst (λ (r : Result (Unit {0}) PoolFault). Puts tight (g.D.Disk.state start) now kept running (put plain running) r) (sym (err_is c.from_residual.result fault c.from_residual.ensures.1))
    (puts_err tight (g.D.Disk.state start) now running (put plain running) pool.kept kept (partial_put batch.rolls l.0 running) fault (put_living plain running c.in-Lives.flags l.0 batch.rolls (sym is.taken ∙ c.if-not-batch.false) l.1 is.rolls) c.in_err-put_partial-in-Lives.ensures.settles.stays
    (c.in_err-put_partial-in-Lives.ensures.puts.did tight start running l.0 told c.requires.open way row))

pub returns-in_ok-put_partial-in-Lives-clause-puts : goal.returns-in_ok-put_partial-in-Lives-clause-puts
returns-in_ok-put_partial-in-Lives-clause-puts g c = λ tight start running plain told way is.
    let bound = bound_of tight (running.number + 1) in
    let pool = c.args.pool.now in
    let batch = c.args.batch.now in
    let has = Has (g.D.Disk.state pool.io.disk.now).seen pool.io.space in
    let l = living bound has c.in-Lives.flags c.in-Lives.partial plain.stage (subst (λ (s : coded.Stage). IsStage bound has s plain.stage) c.in-Lives.is is.stage) in
    let row : PartialIs bound has c.duplicate.result l.0 = subst (λ (r : Row). PartialIs bound has r l.0) (sym c.duplicate.ensures) l.2 in
    let now = g.D.Disk.state c.put_partial.new.self.io.disk.now in
    puts_ok tight (g.D.Disk.state start) now running (put plain running) pool.kept c.put_partial.new.self.kept (partial_put batch.rolls l.0 running) (put_living plain running c.in-Lives.flags l.0 batch.rolls (sym is.taken ∙ c.if-not-batch.false) l.1 is.rolls)
    (c.in_ok-put_partial-in-Lives.ensures.puts.did tight start running l.0 told c.requires.open way row)

pub returns-in_ok-put_partial-in-Lives-clause-goes_on : goal.returns-in_ok-put_partial-in-Lives-clause-goes_on
returns-in_ok-put_partial-in-Lives-clause-goes_on g c = λ bound plain is.
    let pool = c.args.pool.now in
    let after = c.put_partial.new.self in
    batch_more bound (g.D.Disk.state pool.io.disk.now).seen pool.io.space (g.D.Disk.state after.io.disk.now).seen after.io.space c.in_ok-put_partial-in-Lives.ensures.puts.blocks c.args.batch.now plain is

pub returns-in_ok-put_partial-in-Lives-clause-fits : goal.returns-in_ok-put_partial-in-Lives-clause-fits
returns-in_ok-put_partial-in-Lives-clause-fits g c = λ target fits.
    let old = c.args.pool.now.kept.dir in
    let new = c.put_partial.new.self.kept.dir in
    let can = subst (λ (s : coded.Stage). StageFits old target s) c.in-Lives.is fits in
    let rows = c.in_ok-put_partial-in-Lives.ensures.puts.rows ∙ ap (λ (r : Row). rows_with_partial c.args.batch.now.rolls r old) c.duplicate.ensures in
    subst (λ (s : coded.Stage). LivesOn new target s) (sym c.in-Lives.is) (can_again old new c.args.batch.now.rolls target c.in-Lives.partial rows can)

pub returns-in_err-finish_partial-in-Ends-clause-puts : goal.returns-in_err-finish_partial-in-Ends-clause-puts
returns-in_err-finish_partial-in-Ends-clause-puts g c = λ tight start running plain told way is.
    let bound = bound_of tight (running.number + 1) in
    let pool = c.args.pool.now in
    let batch = c.args.batch.now in
    let has = Has (g.D.Disk.state pool.io.disk.now).seen pool.io.space in
    let l = ended bound has c.in-Ends.partial plain.stage (subst (λ (s : coded.Stage). IsStage bound has s plain.stage) c.in-Ends.is is.stage) in
    let row : PartialIs bound has c.duplicate-in-Ends.result l.0 = subst (λ (r : Row). PartialIs bound has r l.0) (sym c.duplicate-in-Ends.ensures) l.2 in
    let now = g.D.Disk.state c.finish_partial.new.self.io.disk.now in
    let kept = c.finish_partial.new.self.kept in
    let fault = c.in_err-finish_partial-in-Ends.field-0.0 in
    subst (λ (r : Result (Unit {0}) PoolFault). Puts tight (g.D.Disk.state start) now kept running (put plain running) r) (sym (err_is c.from_residual-in_err-finish_partial-in-Ends.result fault c.from_residual-in_err-finish_partial-in-Ends.ensures.1))
    (puts_err tight (g.D.Disk.state start) now running (put plain running) pool.kept kept (partial_finished l.0 running) fault (put_ended plain running l.0 (sym is.taken ∙ c.if-not-batch.false) l.1) c.in_err-finish_partial-in-Ends.ensures.settles.stays
    (c.in_err-finish_partial-in-Ends.ensures.puts.did tight start running l.0 told c.requires.open way row))

pub returns-in_ok-finish_partial-in-Ends-clause-puts : goal.returns-in_ok-finish_partial-in-Ends-clause-puts
returns-in_ok-finish_partial-in-Ends-clause-puts g c = λ tight start running plain told way is.
    let bound = bound_of tight (running.number + 1) in
    let pool = c.args.pool.now in
    let batch = c.args.batch.now in
    let has = Has (g.D.Disk.state pool.io.disk.now).seen pool.io.space in
    let l = ended bound has c.in-Ends.partial plain.stage (subst (λ (s : coded.Stage). IsStage bound has s plain.stage) c.in-Ends.is is.stage) in
    let row : PartialIs bound has c.duplicate-in-Ends.result l.0 = subst (λ (r : Row). PartialIs bound has r l.0) (sym c.duplicate-in-Ends.ensures) l.2 in
    let now = g.D.Disk.state c.finish_partial.new.self.io.disk.now in
    puts_ok tight (g.D.Disk.state start) now running (put plain running) pool.kept c.finish_partial.new.self.kept (partial_finished l.0 running) (put_ended plain running l.0 (sym is.taken ∙ c.if-not-batch.false) l.1)
    (c.in_ok-finish_partial-in-Ends.ensures.puts.did tight start running l.0 told c.requires.open way row)

pub returns-in_ok-finish_partial-in-Ends-clause-goes_on : goal.returns-in_ok-finish_partial-in-Ends-clause-goes_on
returns-in_ok-finish_partial-in-Ends-clause-goes_on g c = λ bound plain is.
    let pool = c.args.pool.now in
    let after = c.finish_partial.new.self in
    batch_more bound (g.D.Disk.state pool.io.disk.now).seen pool.io.space (g.D.Disk.state after.io.disk.now).seen after.io.space c.in_ok-finish_partial-in-Ends.ensures.puts.blocks c.args.batch.now plain is

pub returns-in_ok-finish_partial-in-Ends-clause-fits : goal.returns-in_ok-finish_partial-in-Ends-clause-fits
returns-in_ok-finish_partial-in-Ends-clause-fits g c = λ target fits.
    let old = c.args.pool.now.kept.dir in
    let new = c.finish_partial.new.self.kept.dir in
    subst (λ (s : coded.Stage). LivesOn new target s) (sym c.in-Ends.is) tt

pub returns-in-Waits-clause-puts : goal.returns-in-Waits-clause-puts
returns-in-Waits-clause-puts g c = λ tight start running plain told way is.
    let bound = bound_of tight (running.number + 1) in
    let pool = c.args.pool.now in
    let has = Has (g.D.Disk.state pool.io.disk.now).seen pool.io.space in
    puts_none tight (g.D.Disk.state start) (g.D.Disk.state pool.io.disk.now) running (put plain running) pool.io.space pool.kept
    (idle_put bound has c.args.batch.now.stage plain running c.in-Waits.is is.stage) way

pub returns-in-Waits-clause-fits : goal.returns-in-Waits-clause-fits
returns-in-Waits-clause-fits g c = λ target fits. goes_idle c.args.pool.now.kept.dir target c.args.batch.now.stage fits

pub put_partial-requires-clause-partial : goal.put_partial-requires-clause-partial
put_partial-requires-clause-partial g c =
    let rows = c.args.pool.now.kept.dir in
    let fits : CanPutFor rows c.requires.stage.0 c.in-Lives.partial = subst (StageFits rows c.requires.stage.0) c.in-Lives.is c.requires.stage.1 in
    subst (CanPut rows) (sym c.duplicate.ensures) fits.can

pub finish_partial-requires-clause-partial : goal.finish_partial-requires-clause-partial
finish_partial-requires-clause-partial g c =
    let rows = c.args.pool.now.kept.dir in
    let fits : CanPutFor rows c.requires.stage.0 c.in-Ends.partial = subst (StageFits rows c.requires.stage.0) c.in-Ends.is c.requires.stage.1 in
    subst (CanPut rows) (sym c.duplicate-in-Ends.ensures) fits.can

pub returns-in_ok-put_partial-in-Lives-clause-free : goal.returns-in_ok-put_partial-in-Lives-clause-free
returns-in_ok-put_partial-in-Lives-clause-free g c = λ taken begun.
    let e = c.in_ok-put_partial-in-Lives.ensures in
    let pool = c.args.pool.now in
    let after = c.put_partial.new.self in
    let free : after.io.space ≡ free_by after.kept.body = e.settles.space in
    (free, subst (λ (s : FreeSectors). KeepsBlocks (g.D.Disk.state pool.io.disk.now).seen pool.io.space (g.D.Disk.state after.io.disk.now).seen s) free e.puts.blocks)

pub returns-in_ok-finish_partial-in-Ends-clause-free : goal.returns-in_ok-finish_partial-in-Ends-clause-free
returns-in_ok-finish_partial-in-Ends-clause-free g c = λ taken begun.
    let e = c.in_ok-finish_partial-in-Ends.ensures in
    let pool = c.args.pool.now in
    let after = c.finish_partial.new.self in
    let free : after.io.space ≡ free_by after.kept.body = e.settles.space in
    (free, subst (λ (s : FreeSectors). KeepsBlocks (g.D.Disk.state pool.io.disk.now).seen pool.io.space (g.D.Disk.state after.io.disk.now).seen s) free e.puts.blocks)

pub returns-in-Waits-clause-free : goal.returns-in-Waits-clause-free
returns-in-Waits-clause-free g c = λ taken begun.
    absurd (let waits = commits_at_begin c.args.pool.now.kept.dir c.requires.stage.0 c.args.batch.now.stage c.in-Waits.is c.requires.stage.1 in let both : true ≡ false = sym waits ∙ begun in cc both)

pub returns-then-not-batch-clause-rows : goal.returns-then-not-batch-clause-rows
returns-then-not-batch-clause-rows g c = λ target fits.
    let rows = c.args.pool.now.kept.dir in
    rows_kept {A = Unit {0}} target rows rows c.args.batch.now (Ok tt) refl (λ taken. absurd (let both : true ≡ false = sym taken ∙ c.if-not-batch.true in cc both))

pub returns-in-Waits-clause-rows : goal.returns-in-Waits-clause-rows
returns-in-Waits-clause-rows g c = λ target fits.
    let rows = c.args.pool.now.kept.dir in
    rows_kept {A = Unit {0}} target rows rows c.args.batch.now (Ok tt) refl (λ taken. no_row rows target c.args.batch.now.stage c.in-Waits.is)

pub returns-in_ok-put_partial-in-Lives-clause-rows : goal.returns-in_ok-put_partial-in-Lives-clause-rows
returns-in_ok-put_partial-in-Lives-clause-rows g c = λ target fits.
    let old = c.args.pool.now.kept.dir in
    let batch = c.args.batch.now in
    rows_put target old c.put_partial.new.self.kept.dir batch c.in-Lives.flags c.in-Lives.partial c.in-Lives.is fits (c.in_ok-put_partial-in-Lives.ensures.puts.rows ∙ ap (λ (r : Row). rows_with_partial batch.rolls r old) c.duplicate.ensures)

pub returns-in_ok-finish_partial-in-Ends-clause-rows : goal.returns-in_ok-finish_partial-in-Ends-clause-rows
returns-in_ok-finish_partial-in-Ends-clause-rows g c = λ target fits.
    let old = c.args.pool.now.kept in
    let number = old.body.uber.number + 1 in
    rows_finished target old.dir c.finish_partial.new.self.kept.dir c.args.batch.now number c.in-Ends.partial c.in-Ends.is fits
    (c.in_ok-finish_partial-in-Ends.ensures.puts.rows ∙ ap (λ (r : Row). rows_with_finished number r old.dir) c.duplicate-in-Ends.ensures)

pub returns-in_err-put_partial-in-Lives-clause-rows : goal.returns-in_err-put_partial-in-Lives-clause-rows
returns-in_err-put_partial-in-Lives-clause-rows g c = λ target fits.
    let old = c.args.pool.now.kept in
    let new = c.put_partial.new.self.kept in
    let fault = c.in_err-put_partial-in-Lives.field-0.0 in
    subst (λ (r : Result (Unit {0}) PoolFault). CommitsRows target old.dir new.dir c.args.batch.now r) (sym (err_is c.from_residual.result fault c.from_residual.ensures.1))
    (rows_kept target old.dir new.dir c.args.batch.now (put_answer fault) (ap (λ (k : PoolState). k.dir) c.in_err-put_partial-in-Lives.ensures.settles.stays) (λ taken. tt))

pub returns-in_err-finish_partial-in-Ends-clause-rows : goal.returns-in_err-finish_partial-in-Ends-clause-rows
returns-in_err-finish_partial-in-Ends-clause-rows g c = λ target fits.
    let old = c.args.pool.now.kept in
    let new = c.finish_partial.new.self.kept in
    let fault = c.in_err-finish_partial-in-Ends.field-0.0 in
    subst (λ (r : Result (Unit {0}) PoolFault). CommitsRows target old.dir new.dir c.args.batch.now r) (sym (err_is c.from_residual-in_err-finish_partial-in-Ends.result fault c.from_residual-in_err-finish_partial-in-Ends.ensures.1))
    (rows_kept target old.dir new.dir c.args.batch.now (put_answer fault) (ap (λ (k : PoolState). k.dir) c.in_err-finish_partial-in-Ends.ensures.settles.stays) (λ taken. tt))

pub returns-then-not-batch-clause-commits : goal.returns-then-not-batch-clause-commits
returns-then-not-batch-clause-commits g c = commits_none c.args.pool.now c.requires.open c.requires.works.ready

pub returns-in-Waits-clause-commits : goal.returns-in-Waits-clause-commits
returns-in-Waits-clause-commits g c = commits_none c.args.pool.now c.requires.open c.requires.works.ready

pub returns-in_ok-put_partial-in-Lives-clause-commits : goal.returns-in_ok-put_partial-in-Lives-clause-commits
returns-in_ok-put_partial-in-Lives-clause-commits g c =
    let e = c.in_ok-put_partial-in-Lives.ensures in
    commits_made c.args.pool.now c.put_partial.new.self _ c.requires.open e.settles e.puts.grows e.puts.blocks e.puts.size

pub returns-in_ok-finish_partial-in-Ends-clause-commits : goal.returns-in_ok-finish_partial-in-Ends-clause-commits
returns-in_ok-finish_partial-in-Ends-clause-commits g c =
    let e = c.in_ok-finish_partial-in-Ends.ensures in
    commits_made c.args.pool.now c.finish_partial.new.self _ c.requires.open e.settles e.puts.grows e.puts.blocks e.puts.size

pub returns-in_err-put_partial-in-Lives-clause-commits : goal.returns-in_err-put_partial-in-Lives-clause-commits
returns-in_err-put_partial-in-Lives-clause-commits g c =
    let e = c.in_err-put_partial-in-Lives.ensures in
    let fault = c.in_err-put_partial-in-Lives.field-0.0 in
    subst (λ (r : Result (Unit {0}) PoolFault). CommitsBatch c.args.pool.now c.put_partial.new.self r) (sym (err_is c.from_residual.result fault c.from_residual.ensures.1))
    (commits_refused c.args.pool.now c.put_partial.new.self fault c.requires.open e.settles (e.puts.known c.requires.open) e.puts.full e.puts.spares e.puts.size)

pub returns-in_err-finish_partial-in-Ends-clause-commits : goal.returns-in_err-finish_partial-in-Ends-clause-commits
returns-in_err-finish_partial-in-Ends-clause-commits g c =
    let e = c.in_err-finish_partial-in-Ends.ensures in
    let fault = c.in_err-finish_partial-in-Ends.field-0.0 in
    subst (λ (r : Result (Unit {0}) PoolFault). CommitsBatch c.args.pool.now c.finish_partial.new.self r) (sym (err_is c.from_residual-in_err-finish_partial-in-Ends.result fault c.from_residual-in_err-finish_partial-in-Ends.ensures.1))
    (commits_refused c.args.pool.now c.finish_partial.new.self fault c.requires.open e.settles (e.puts.known c.requires.open) e.puts.full e.puts.spares e.puts.size)

use Rattle.std.specs.Prelude.{Ok, Err}
use Rattle.std.proofs.Common.{subst, sym, ◌∙◌}
use Rattle.std.proofs.lemmas.Result.{err_from_is_err_and}
use Rattle.zst_check.specs.Checks.{TellsReport}
use Rattle.zst_image.specs.declared.pool_state.PoolState.{PoolState}
use Rattle.zst_pool.specs.Faults.{pool_refusal}
use Rattle.zst_run.specs.Checks.{TellsReportOn}
use Rattle.zst_run.proofs.ImageChecks.{SaysOfAny, unopened, opened}
use Rattle.zst_run.proofs.checks.report_of_image.Goals as goal

pub returns-in_err-kept : goal.returns-in_err-kept
returns-in_err-kept g c =
    let e = c.in_err-kept.ensures in
    let p = err_from_is_err_and c.from_residual.result c.from_residual.ensures.1 in
    rw (p.1, p.2) (unopened _ _ c.in_err-kept.field-0.0 e.there e.answer e.reads.reads e.reads.cause)

pub returns-in_err-report : goal.returns-in_err-report
returns-in_err-report g c =
    let e = c.in_ok-kept.ensures in
    let s = c.in_err-report.ensures in
    let n = c.new-pool.ensures in
    let rest = c.opened_is_at_rest.ensures in
    let p = err_from_is_err_and c.from_residual-in_err-report.result c.from_residual-in_err-report.ensures.1 in
    let tells = opened (g.D.Disk.state c.args.here.now) (g.D.Disk.state c.new-pool.result.io.disk.now) (g.D.Disk.state c.check-report.new.pool.io.disk.now)
    c.in_ok-kept.kept (Err c.in_err-report.field-0.0) (rw (sym n.disk) at e.there) (λ told. s.settles.honest told) (rw (sym n.disk) at e.answer) (rw (sym n.disk) at e.reads.reads)
    s.only_answers.reads (rw (sym n.disk) at e.rests) (λ tight rows pool rests same. rest.rests tight c.new-pool.result.io.disk.now c.in_ok-kept.kept rows pool rests same)
    (rw (sym n.disk) at e.reads.cause.later) s.settles.cause (s.open_still n.failed) s.never_full
    (λ tight pool told rests. subst (λ (k : PoolState). TellsReport (g.D.Disk.state c.new-pool.result.io.disk.now).seen k.body.uber k.dir pool (Err c.in_err-report.field-0.0)) n.kept (s.told tight pool told n.failed (rw (n.kept) rests)))
    (subst (λ (k : PoolState). SaysOfAny (g.D.Disk.state c.new-pool.result.io.disk.now) (g.D.Disk.state c.check-report.new.pool.io.disk.now) k (Err c.in_err-report.field-0.0)) n.kept
    (record { sound = s.sound; named = s.named; damaged = s.damaged })) in
    rw (p.1, p.2)
    (subst (λ d. TellsReportOn (g.D.Disk.state c.args.here.now) (g.D.Disk.state d) (Err (pool_refusal c.in_err-report.field-0.0))) (sym c.into_disk.ensures.disk ∙ sym (c.here-1.given.1 (sym (c.into_disk.ensures.same ∙ (s.settles.same ∙ n.same))))) tells)

pub returns : goal.returns
returns g c =
    let e = c.in_ok-kept.ensures in
    let s = c.in_ok-report.ensures in
    let n = c.new-pool.ensures in
    let rest = c.opened_is_at_rest.ensures in
    let tells = opened (g.D.Disk.state c.args.here.now) (g.D.Disk.state c.new-pool.result.io.disk.now) (g.D.Disk.state c.check-report.new.pool.io.disk.now)
    c.in_ok-kept.kept (Ok c.in_ok-report.field-0) (rw (sym n.disk) at e.there) (λ told. s.settles.honest told) (rw (sym n.disk) at e.answer) (rw (sym n.disk) at e.reads.reads)
    s.only_answers.reads (rw (sym n.disk) at e.rests) (λ tight rows pool rests same. rest.rests tight c.new-pool.result.io.disk.now c.in_ok-kept.kept rows pool rests same)
    (rw (sym n.disk) at e.reads.cause.later) s.settles.cause (s.open_still n.failed) s.never_full
    (λ tight pool told rests. subst (λ (k : PoolState). TellsReport (g.D.Disk.state c.new-pool.result.io.disk.now).seen k.body.uber k.dir pool (Ok c.in_ok-report.field-0)) n.kept (s.told tight pool told n.failed (rw (n.kept) rests)))
    (subst (λ (k : PoolState). SaysOfAny (g.D.Disk.state c.new-pool.result.io.disk.now) (g.D.Disk.state c.check-report.new.pool.io.disk.now) k (Ok c.in_ok-report.field-0)) n.kept
    (record { sound = s.sound; named = s.named; damaged = s.damaged })) in
    subst (λ d. TellsReportOn (g.D.Disk.state c.args.here.now) (g.D.Disk.state d) (Ok c.in_ok-report.field-0)) (sym c.into_disk.ensures.disk ∙ sym (c.here-1.given.1 (sym (c.into_disk.ensures.same ∙ (s.settles.same ∙ n.same))))) tells

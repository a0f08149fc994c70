use Rattle.std.proofs.Common.{List, Ok, Err, get_or, refl, sym, ap, ◌∙◌}
use Rattle.std.proofs.lemmas.Result.{err_from_is_err_and}
use Rattle.zst_dir.specs.declared.rows.Snapshot.{Snapshot as Row}
use Rattle.zst_uber.specs.declared.uber.Uber.{Uber}
use Rattle.zst_image.specs.declared.pool_state.PoolState.{PoolState}
use Rattle.zst_pool.proofs.PoolsAtRest.{free_by_fits}
use Rattle.zst_sessions.proofs.BegunSends.{begun_rest, refused_rest}
use Rattle.zst_sessions.proofs.ReadPools.{looks_unmoved}
use Rattle.zst_sessions.proofs.openings.begin_rest.Goals as goal

pub renew-requires : goal.renew-requires
renew-requires g c = record { fits = free_by_fits (g.D.Disk.state c.args.pool.now.io.disk.now) c.args.pool.now.kept.body (c.requires c.if-pool.false) }

pub returns-in_err-renew-clause-begins : goal.returns-in_err-renew-clause-begins
returns-in_err-renew-clause-begins g c =
    let p = err_from_is_err_and c.from_residual.result c.from_residual.ensures.1 in
    rw (p.1, p.2) (λ running honest works rest. tt)

pub returns-in_err-renew-clause-pool : goal.returns-in_err-renew-clause-pool
returns-in_err-renew-clause-pool g c =
    let p = err_from_is_err_and c.from_residual.result c.from_residual.ensures.1 in
    rw (p.1, p.2) (looks_unmoved c.args.pool.now c.renew.new.self c.in_err-renew.ensures.unchanged c.if-pool.false)

pub returns-in_err-plan-clause-begins : goal.returns-in_err-plan-clause-begins
returns-in_err-plan-clause-begins g c =
    let p = err_from_is_err_and c.from_residual-in_err-plan.result c.from_residual-in_err-plan.ensures.1 in
    let r = c.in_ok-renew.ensures in
    rw (p.1, p.2) (refused_rest c.args.pool.now c.renew.new.self r.disk r.space r.kept c.args.token.now c.in_err-plan.field-0.0 c.in_err-plan.ensures.plans)

pub returns-in_err-send-clause-begins : goal.returns-in_err-send-clause-begins
returns-in_err-send-clause-begins g c =
    let p = err_from_is_err_and c.from_residual-in_err-send.result c.from_residual-in_err-send.ensures.1 in
    let e = c.in_err-send.ensures in
    let r = c.in_ok-renew.ensures in
    let row = c.index-snapshots-plan.result in
    rw (p.1, p.2)
    (begun_rest c.args.pool.now c.renew.new.self r.disk r.space r.kept c.resume.new.pool (Err c.in_err-send.field-0.0) e.pool (r.disk.failed ∙ c.if-pool.false) c.rows_stand_for_sends.ensures
    c.args.token.now c.in_ok-plan.plan c.in_ok-plan.ensures.plans row (sym (c.index-snapshots-plan.is ∙ ap (λ (rows : List Row). get_or rows c.in_ok-plan.plan.snap row) c.snapshots.ensures)) row.name refl
    c.args.pool.now.kept.body.uber.number refl e.resumes)

pub returns-clause-begins : goal.returns-clause-begins
returns-clause-begins g c =
    let e = c.in_ok-send.ensures in
    let r = c.in_ok-renew.ensures in
    let row = c.index-snapshots-plan.result in
    begun_rest c.args.pool.now c.renew.new.self r.disk r.space r.kept c.resume.new.pool (Ok c.in_ok-send.send) e.pool (r.disk.failed ∙ c.if-pool.false) c.rows_stand_for_sends.ensures
    c.args.token.now c.in_ok-plan.plan c.in_ok-plan.ensures.plans row (sym (c.index-snapshots-plan.is ∙ ap (λ (rows : List Row). get_or rows c.in_ok-plan.plan.snap row) c.snapshots.ensures)) c.duplicate-snapshot.result (c.duplicate-snapshot.ensures ∙ ap (λ (r : Row). r.name) (sym c.index-snapshots-plan.is))
    c.uber.result.now.number (ap (λ (u : Uber). u.number) c.uber.ensures ∙ ap (λ (state : PoolState). state.body.uber.number) (e.pool.kept ∙ r.kept)) e.resumes

use Rattle.std.proofs.Common.{Ok, Err, refl, ap, ◌∙◌}
use Rattle.std.proofs.lemmas.Result.{err_from_is_err_and}
use Rattle.zst_uber.specs.declared.uber.Uber.{Uber}
use Rattle.zst_image.specs.declared.pool_state.PoolState.{PoolState}
use Rattle.zst_pool.proofs.PoolsAtRest.{free_by_fits}
use Rattle.zst_sessions.proofs.BegunSends.{begun_named}
use Rattle.zst_sessions.proofs.ReadPools.{looks_unmoved}
use Rattle.zst_sessions.proofs.openings.begin_send.Goals as goal

pub renew-requires : goal.renew-requires
renew-requires g c = record { fits = free_by_fits (g.D.Disk.state c.args.pool.now.io.disk.now) c.args.pool.now.kept.body (c.requires c.if-pool.false) }

pub returns-in_err-renew-clause-begins : goal.returns-in_err-renew-clause-begins
returns-in_err-renew-clause-begins g c =
    let p = err_from_is_err_and c.from_residual.result c.from_residual.ensures.1 in
    rw (p.1, p.2) (λ running honest works rest. tt)

pub returns-in_err-renew-clause-pool : goal.returns-in_err-renew-clause-pool
returns-in_err-renew-clause-pool g c =
    let p = err_from_is_err_and c.from_residual.result c.from_residual.ensures.1 in
    rw (p.1, p.2) (looks_unmoved c.args.pool.now c.renew.new.self c.in_err-renew.ensures.unchanged c.if-pool.false)

pub returns-in_err-send-clause-begins : goal.returns-in_err-send-clause-begins
returns-in_err-send-clause-begins g c =
    let p = err_from_is_err_and c.from_residual-in_err-send.result c.from_residual-in_err-send.ensures.1 in
    let e = c.in_err-send.ensures in
    let r = c.in_ok-renew.ensures in
    rw (p.1, p.2)
    (begun_named c.args.pool.now c.renew.new.self r.disk r.space r.kept c.open.new.pool (Err c.in_err-send.field-0.0) e.pool (r.disk.failed ∙ c.if-pool.false) c.rows_stand_for_sends.ensures c.plans_are_of_pool.ensures
    c.args.ask.now c.args.ask.now.snap refl c.args.pool.now.kept.body.uber.number refl e.opens)

pub returns-clause-begins : goal.returns-clause-begins
returns-clause-begins g c =
    let e = c.in_ok-send.ensures in
    let r = c.in_ok-renew.ensures in
    begun_named c.args.pool.now c.renew.new.self r.disk r.space r.kept c.open.new.pool (Ok c.in_ok-send.send) e.pool (r.disk.failed ∙ c.if-pool.false) c.rows_stand_for_sends.ensures c.plans_are_of_pool.ensures
    c.args.ask.now c.duplicate.result c.duplicate.ensures c.uber.result.now.number (ap (λ (u : Uber). u.number) c.uber.ensures ∙ ap (λ (state : PoolState). state.body.uber.number) (e.pool.kept ∙ r.kept)) e.opens

use Rattle.std.proofs.lemmas.Result.{err_from_is_err_and}
use Rattle.zst_run.proofs.NewPools.{creates_refused, creates_made}
use Rattle.zst_run.proofs.ReplyLines.{first_written, first_lost}
use Rattle.zst_run.proofs.pools.create_pool.Goals as goal

pub returns-in_err-create : goal.returns-in_err-create
returns-in_err-create g c =
    let e = c.in_err-create.ensures in
    let p = err_from_is_err_and c.from_residual.result c.from_residual.ensures.1 in
    rw (p.1, p.2) (creates_refused c.args.sectors c.args.id _ _ _ c.in_err-create.field-0.0 e.answer e.refused e.moments e.cause)

pub returns-in-Ok : goal.returns-in-Ok
returns-in-Ok g c =
    let e = c.in_ok-create.ensures in
    creates_made c.args.sectors c.args.id _ _ _ _ c.in_ok-create.field-0 _ e.answer e.new e.made e.moments e.cause.later (first_written _ _ c.in-Ok.ensures.prints c.in-Ok.ensures.handed_on)

pub returns-in-Err : goal.returns-in-Err
returns-in-Err g c =
    let e = c.in_ok-create.ensures in
    creates_made c.args.sectors c.args.id _ _ _ _ c.in_ok-create.field-0 _ e.answer e.new e.made e.moments e.cause.later (first_lost _ _ c.in-Err.field-0 c.in-Err.ensures.prints)

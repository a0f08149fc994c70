use Rattle.std.proofs.lemmas.Result.{err_from_is_err_and}
use Rattle.zst_run.proofs.ReplyLines.{replied_all, replies_lines, replies_refused}
use Rattle.zst_run.proofs.pools.step_pool.Goals as goal

pub returns-in_err-reply : goal.returns-in_err-reply
returns-in_err-reply g c =
    let p = err_from_is_err_and c.from_residual.result c.from_residual.ensures.1 in
    rw (p.1, p.2) (replies_refused _ _ _ c.in_err-reply.ensures)

pub returns-in-Ok : goal.returns-in-Ok
returns-in-Ok g c =
    replies_lines _ _ _ _ _ c.in_ok-reply.ensures (replied_all _ _ _ c.in-Ok.ensures.prints c.in-Ok.ensures.handed_on)

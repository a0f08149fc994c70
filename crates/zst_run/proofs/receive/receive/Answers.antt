use Rattle.std.proofs.Common.{[], ◌∷◌}
use Rattle.std.proofs.lemmas.Result.{err_from_is_err_and}
use Rattle.zst_run.specs.ReceiveTurns.{line_of}
use Rattle.zst_run.proofs.ReplyLines.{replied_all, replied_front, replies_lines, replies_refused}
use Rattle.zst_run.proofs.receive.receive.Goals as goal

pub returns-in_err-receipt : goal.returns-in_err-receipt
returns-in_err-receipt g c =
    let p = err_from_is_err_and c.from_residual.result c.from_residual.ensures.1 in
    rw (p.1, p.2) (replies_refused _ _ _ c.in_err-receipt.ensures)

pub returns-in-Ok : goal.returns-in-Ok
returns-in-Ok g c =
    replies_lines _ _ _ (line_of c.in_ok-receipt.receipt ∷ []) _ c.in_ok-receipt.ensures (replied_all _ _ (line_of c.in_ok-receipt.receipt ∷ []) c.in-Ok.ensures.prints c.in-Ok.ensures.handed_on)

pub returns-in-Err : goal.returns-in-Err
returns-in-Err g c =
    replies_lines _ _ _ (line_of c.in_ok-receipt.receipt ∷ []) _ c.in_ok-receipt.ensures (replied_front _ _ (line_of c.in_ok-receipt.receipt ∷ []) c.in-Err.field-0 c.in-Err.ensures.prints)

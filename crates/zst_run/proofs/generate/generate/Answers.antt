use Rattle.std.proofs.Common.{[], ◌∷◌}
use Rattle.std.proofs.lemmas.Result.{err_from_is_err_and}
use Rattle.zst_run.specs.Generating.{gen_line}
use Rattle.zst_run.proofs.ReplyLines.{replied_all, replied_front, replies_lines, replies_refused}
use Rattle.zst_run.proofs.generate.generate.Goals as goal

pub returns-in_err-number : goal.returns-in_err-number
returns-in_err-number g c =
    let p = err_from_is_err_and c.from_residual.result c.from_residual.ensures.1 in
    rw (p.1, p.2) (replies_refused _ _ _ c.in_err-number.ensures)

pub returns-in-Ok : goal.returns-in-Ok
returns-in-Ok g c =
    let line = gen_line c.args.steps c.in_ok-number.number in
    replies_lines _ _ _ (line ∷ []) _ c.in_ok-number.ensures (replied_all _ _ (line ∷ []) c.in-Ok.ensures.prints c.in-Ok.ensures.handed_on)

pub returns-in-Err : goal.returns-in-Err
returns-in-Err g c =
    let line = gen_line c.args.steps c.in_ok-number.number in
    replies_lines _ _ _ (line ∷ []) _ c.in_ok-number.ensures (replied_front _ _ (line ∷ []) c.in-Err.field-0 c.in-Err.ensures.prints)

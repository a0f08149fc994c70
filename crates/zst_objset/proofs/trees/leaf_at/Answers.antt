use Rattle.std.proofs.Common.{sym, arith}
use Rattle.std.proofs.lemmas.Result.{err_from_is_err_and}
use Rattle.zst_objset.proofs.trees.leaf_at.Goals as goal

pub returns-in_err-found-clause-looks : goal.returns-in_err-found-clause-looks
returns-in_err-found-clause-looks g c =
    let p = err_from_is_err_and c.from_residual.result c.from_residual.ensures.1 in
    rw (p.1, p.2) (c.in_err-found.ensures.looks)

pub returns-clause-looks : goal.returns-clause-looks
returns-clause-looks g c = c.in_ok-found.ensures.looks

pub returns-in_err-found-clause-shows : goal.returns-in_err-found-clause-shows
returns-in_err-found-clause-shows g c = λ map honest is.
    let p = err_from_is_err_and c.from_residual.result c.from_residual.ensures.1 in
    rw (p.1, p.2) (c.in_err-found.ensures.shows map honest is)

pub returns-clause-shows : goal.returns-clause-shows
returns-clause-shows g c = λ map honest is.
    let shown = c.in_ok-found.ensures.shows map honest is in
    sym (shown.same c.args.index (omega arith) (omega (arith, shown.some)) (omega arith))

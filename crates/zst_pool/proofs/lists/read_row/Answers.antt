use Rattle.zst_pool.proofs.BookmarkLists.{row_told}
use Rattle.zst_pool.proofs.lists.read_row.Goals as goal

pub returns-in_err-list-clause-damaged : goal.returns-in_err-list-clause-damaged
returns-in_err-list-clause-damaged g c = λ told.
    let disk = g.D.Disk.state c.args.io.now.disk.now in
    row_told c.args.io.now.space.end disk.seen disk.size c.args.row.now c.from_residual.result c.in_err-list.field-0.0 c.from_residual.ensures.1 (c.in_err-list.ensures.damaged told)

use Rattle.std.proofs.lemmas.Result.{err_from_is_err_and}
use Rattle.zst_leaves.proofs.LeavesLaws.{over_written}
use Rattle.zst_leaves.proofs.WrittenBlocks.{WritesBlocks-gives, WritesBlocks-one}
use Rattle.zst_leaves.proofs.writes.save_over.Goals as goal

pub returns-in_err-ptr-clause-written : goal.returns-in_err-ptr-clause-written
returns-in_err-ptr-clause-written g c =
    let p = err_from_is_err_and c.from_residual.result c.from_residual.ensures.1 in
    rw (p.1, p.2) (WritesBlocks-one _ c.in_err-ptr.ensures.works c.in_err-ptr.ensures.after c.in_err-ptr.ensures.never_damaged c.in_err-ptr.ensures.block.calls)

pub returns-clause-over : goal.returns-clause-over
returns-clause-over g c = over_written c.args.level c.args.number _ _ c.args.io.now.node c.in_ok-ptr.ptr c.in_ok-ptr.ensures.long c.in_ok-ptr.ensures.block

pub returns-clause-written : goal.returns-clause-written
returns-clause-written g c = WritesBlocks-gives c.in_ok-ptr.ptr _ (WritesBlocks-one _ c.in_ok-ptr.ensures.works c.in_ok-ptr.ensures.after c.in_ok-ptr.ensures.never_damaged c.in_ok-ptr.ensures.block.calls)

use Rattle.std.proofs.Common.{◌≡◌, ◌<◌, Option, Some, None, Result, IfOk, IfSome}
use Rattle.std.specs.Option.{ok_or}
use Rattle.std.proofs.lemmas.Result.{err_from_is_err_and}
use Rattle.zst_block.specs.IoStates.{blocks_of}
use Rattle.zst_dnode.specs.Dnode.{DnodeFits}
use Rattle.zst_dnode.specs.declared.dnode.Dnode.{Dnode}
use Rattle.zst_model.proofs.Sizes.{block_size_over_none}
use Rattle.zst_objset.specs.declared.fault.ObjFault.{ObjFault}
use Rattle.zst_apply.proofs.RecordAnswers.{disk_there}
use Rattle.zst_apply.proofs.blocks.object_there.Goals as goal

-- a dnode that fits has blocks
sized : (found : Option Dnode) (fault : ObjFault) (result : Result Dnode ObjFault) → result ≡ ok_or found fault → IfSome found DnodeFits → IfOk result (λ dnode. 0 < dnode.block_size)
sized None fault result is fits = rw is tt
sized (Some dnode) fault result is fits = rw is (block_size_over_none dnode.block_size fits.head.size)

pub returns-in_err-attr-clause-found : goal.returns-in_err-attr-clause-found
returns-in_err-attr-clause-found g c = λ state honest holds.
    let p = err_from_is_err_and c.from_residual.result c.from_residual.ensures.1 in
    rw (p.1, p.2) (disk_there (blocks_of c.attr.new.io) state c.args.object _ (c.in_err-attr.ensures.found state honest holds))

pub returns-clause-size : goal.returns-clause-size
returns-clause-size g c = sized c.in_ok-attr.field-0 _ c.ok_or.result c.ok_or.ensures.value c.in_ok-attr.ensures.ranges

pub returns-in_err-attr-clause-looks : goal.returns-in_err-attr-clause-looks
returns-in_err-attr-clause-looks g c =
    let p = err_from_is_err_and c.from_residual.result c.from_residual.ensures.1 in
    rw (p.1, p.2) c.in_err-attr.ensures.looks.looks

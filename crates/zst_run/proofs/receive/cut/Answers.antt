use Rattle.std.proofs.Common.{ap, sym, subst}
use Rattle.zst_outside.specs.Images.{DiskState}
use Rattle.zst_pool.specs.Calls.{IsAtRest}
use Rattle.zst_recv.specs.ReceiveSteps.{left_by}
use Rattle.zst_run.proofs.receive.cut.Goals as goal

pub returns-in-Err-Ended-clause-rests : goal.returns-in-Err-Ended-clause-rests
returns-in-Err-Ended-clause-rests g c = λ tight bound running image space stage text rests has.
    let last = ap (λ (io : _). g.D.Disk.state io.disk.now) c.cut.ensures.io in
    subst (λ (d : DiskState). IsAtRest tight d c.cut.new.pool.kept (left_by stage running)) (sym last) (c.cut.ensures.rests tight bound c.args.pool.now.io.disk.now running image space stage text rests has)

pub returns-in_default-clause-rests : goal.returns-in_default-clause-rests
returns-in_default-clause-rests g c = λ tight bound running image space stage text rests has.
    let last = ap (λ (io : _). g.D.Disk.state io.disk.now) c.cut.ensures.io in
    subst (λ (d : DiskState). IsAtRest tight d c.cut.new.pool.kept (left_by stage running)) (sym last) (c.cut.ensures.rests tight bound c.args.pool.now.io.disk.now running image space stage text rests has)

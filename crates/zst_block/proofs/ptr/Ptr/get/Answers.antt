use Rattle.zst_block.proofs.PtrLaws.{ptr_at-range}
use Rattle.zst_block.proofs.ptr.Ptr.get.Goals as goal

pub returns-clause-back : goal.returns-clause-back
returns-clause-back c = λ ptr fits is.
    rw (c.le8.ensures, c.le8-2.ensures, c.le32.ensures, c.le64.ensures, c.le64-2.ensures, c.get_sum.ensures.fields) (ptr_at-range c.args.bytes.now c.args.at ptr c.requires fits is)

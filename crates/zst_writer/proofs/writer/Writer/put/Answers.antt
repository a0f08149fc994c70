use Rattle.zst_writer.proofs.SealedRecords.{record-put}
use Rattle.zst_writer.proofs.writer.Writer.put.Goals as goal

pub returns-clause-record : goal.returns-clause-record
returns-clause-record c = λ text h.
    record-put text c.args.head.now c.begins.result c.state.new.into c.close.new.into c.begins.ensures
    (c.state.ensures text h) c.close.ensures.first (λ later. c.close.ensures.later later text h)

use Rattle.zst_count.proofs.DataFaults.{answer_block, read_told}
use Rattle.zst_count.proofs.met_blocks.MetBlocks.read_data.Goals as goal

pub returns-clause-block : goal.returns-clause-block
returns-clause-block g c = λ honest. let read = c.read_front.ensures.answer honest in answer_block _ _ c.args.ptr.now read.0 _ read.1

pub returns-clause-there : goal.returns-clause-there
returns-clause-there g c = λ honest there. c.read_front.ensures.there there.bytes honest there.there

pub returns-clause-damaged : goal.returns-clause-damaged
returns-clause-damaged g c = λ honest inner. let read = c.read_front.ensures.answer honest in read_told _ _ c.args.length c.args.ptr.now read.0 _ inner read.1

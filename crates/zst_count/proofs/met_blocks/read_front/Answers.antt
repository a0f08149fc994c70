use Rattle.zst_count.proofs.met_blocks.read_front.Goals as goal

pub returns-clause-answer : goal.returns-clause-answer
returns-clause-answer g c = λ honest. (c.read.new.into, c.read.ensures.answer honest)

use Rattle.zst_laws.proofs.examples.LineExamples.{blocks_read}
use Rattle.zst_laws.proofs.line_examples.blocks_are_read.Goals as goal

pub returns : goal.returns
returns c = blocks_read
